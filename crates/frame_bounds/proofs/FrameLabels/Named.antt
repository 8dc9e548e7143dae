-- The labels that the pieces of a function name, in front of others.
use Rattle.std.proofs.Common.{◌≡◌, ◌≢◌, ℕ, zero, suc, ◌+◌, ◌<◌, Bool, true, false, List, [], ◌∷◌, ◌++◌, length, get_or, refl, sym, ap, ◌∙◌, arith}
use Rattle.std.specs.Prelude.{nat_lt, ◌==◌, slice_index}
use Rattle.std.specs.List.{AllPairs, range_with_len}
use Rattle.std.proofs.lemmas.List.FromFn.{length-range_with_len, get_or-range_with_len}
use Rattle.std.proofs.lemmas.List.Kept.{AllPairs-cons}
use Rattle.alpha_isa.specs.declared.insn.Fields.TheVariants.{Jump}
use Rattle.alpha_isa.specs.declared.insn.JumpOp.TheVariants.{Ret}
use Rattle.alpha_isa.specs.declared.insn.MemoryOp.{MemoryOp}
use Rattle.alpha_isa.specs.declared.insn.MemoryOp.TheVariants.{Ldq, Stq, Lda}
use Rattle.alpha_items.specs.declared.item.AsmItem.{AsmItem}
use Rattle.alpha_items.specs.declared.item.AsmItem.TheVariants.{Plain}
use Rattle.alpha_items.specs.Assembly.{labels}
use Rattle.mem_objects.specs.declared.DataObject.{DataObject}
use Rattle.suifvm_ir.specs.declared.insn.VmObject.TheVariants.{Global, Local}
use Rattle.temp_ir.specs.declared.insn.TempInsn.{TempInsn}
use Rattle.temp_ir.specs.declared.insn.TempInsn.TheVariants as i
use Rattle.temp_ir.specs.Fixed.{register_number}
use Rattle.alloc_model.specs.declared.allocation.Transfer.{Transfer}
use Rattle.alloc_model.specs.declared.allocation.Transfer.TheVariants.{Store, Load, Shift}
use Rattle.alloc_model.specs.Places.{Plan, transfers_at, registers_at}
use Rattle.frame_memory.specs.flat_frames.Shapes.{FrameShape, frame_size, return_at, saved_at, slot_at, argument_at, frame_object_at}
use Rattle.frame_steps.specs.frame_accesses.Items.{near_size, frame_item, frame_load, frame_store, register_move}
use Rattle.frame_steps.specs.frame_transfers.Items.{transfer_items, items_of_transfers}
use Rattle.frame_steps.specs.call_parts.Items.{lower_stack, raise_stack, save_if, save_registers, restore_if, restore_registers, entry_part, exit_part}
use Rattle.frame_steps.specs.instruction_items.Items.{ItemSetting, function_label, insn_items}
use Rattle.frame_emitter.specs.Items.{jump_transfers, top_transfers, end_transfers, point_items, insns_items, block_items, blocks_items, exit_items, function_items}
use Rattle.frame_emitter.specs.Settings.{setting_of}
use Rattle.frame_bounds.specs.frame_labels.Labels.{own_labels}

-- ---- pieces without labels

frame-none : (near : Bool) (op : MemoryOp) (way r offset : ℕ) (rest : List AsmItem) → nat_lt offset near_size ≡ near → labels (frame_item op way r offset ++ rest) ≡ labels rest
frame-none true op way r offset rest e = rw e refl
frame-none false op way r offset rest e = rw e refl

frame-named : (op : MemoryOp) (way r offset : ℕ) (rest : List AsmItem) → labels (frame_item op way r offset ++ rest) ≡ labels rest
frame-named op way r offset rest = frame-none (nat_lt offset near_size) op way r offset rest refl

move-none : (same : Bool) (from to : ℕ) (rest : List AsmItem) → (from == to) ≡ same → labels (register_move from to ++ rest) ≡ labels rest
move-none true from to rest e = rw e refl
move-none false from to rest e = rw e refl

move-named : (from to : ℕ) (rest : List AsmItem) → labels (register_move from to ++ rest) ≡ labels rest
move-named from to rest = move-none (from == to) from to rest refl

transfer-named : (s : FrameShape) (x : Transfer) (rest : List AsmItem) → labels (transfer_items s x ++ rest) ≡ labels rest
transfer-named s (Store t r) rest = frame-named Stq 29 r (slot_at s t) rest
transfer-named s (Load t r) rest = frame-named Ldq 29 r (slot_at s t) rest
transfer-named s (Shift t from to) rest = move-named from to rest

transfers-named : (s : FrameShape) (xs : List Transfer) (rest : List AsmItem) → labels (items_of_transfers s xs rest) ≡ labels rest
transfers-named s [] rest = refl
transfers-named s (x ∷ xs) rest = transfer-named s x (items_of_transfers s xs rest) ∙ transfers-named s xs rest

insn-named : (g : ItemSetting) (rs : List ℕ) (x : TempInsn) (rest : List AsmItem) → labels (insn_items g rs x ++ rest) ≡ labels rest
insn-named g rs (i.Address op d base plus) rest = refl
insn-named g rs (i.ObjectAddress d (Global k) plus) rest = refl
insn-named g rs (i.ObjectAddress d (Local k) plus) rest = frame-named Lda 29 (slice_index rs 0) (frame_object_at g.shape k + plus) rest
insn-named g rs (i.Load op d p plus) rest = refl
insn-named g rs (i.Store op v p plus) rest = refl
insn-named g rs (i.Operate op d l r) rest = refl
insn-named g rs (i.Extend op d s) rest = refl
insn-named g rs (i.ToFixed r s) rest = move-named (slice_index rs 0) (register_number r) rest
insn-named g rs (i.FromFixed d r) rest = move-named (register_number r) (slice_index rs 0) rest
insn-named g rs (i.SetFixed r n) rest = refl
insn-named g rs (i.WriteArgument n s) rest = frame-named Stq 29 (slice_index rs 0) (argument_at n) rest
insn-named g rs (i.ReadArgument d n) rest = frame-named Ldq 29 (slice_index rs 0) (frame_size g.shape + argument_at n) rest
insn-named g rs (i.Branch op s t) rest = refl
insn-named g rs (i.Jump t) rest = refl
insn-named g rs (i.Call f n) rest = refl
insn-named g rs (i.Divide r) rest = refl
insn-named g rs (i.Serve s) rest = refl
insn-named g rs (i.Return v) rest = refl
insn-named g rs i.Mark rest = refl

point-named : (a : Plan) (g : ItemSetting) (block at : ℕ) (x : TempInsn) (rest : List AsmItem) → labels (point_items a g block at x rest) ≡ labels rest
point-named a g block at x rest =
    let body = insn_items g (registers_at a block at) x ++ rest in
    transfers-named g.shape (transfers_at a block at) (items_of_transfers g.shape (jump_transfers a block x) body)
    ∙ transfers-named g.shape (jump_transfers a block x) body ∙ insn-named g (registers_at a block at) x rest

insns-named : (a : Plan) (g : ItemSetting) (block at : ℕ) (insns : List TempInsn) (rest : List AsmItem) → labels (insns_items a g block at insns rest) ≡ labels rest
insns-named a g block at [] rest = refl
insns-named a g block at (x ∷ xs) rest = point-named a g block at x (insns_items a g block (suc at) xs rest) ∙ insns-named a g block (suc at) xs rest

block-named : (a : Plan) (g : ItemSetting) (block : ℕ) (insns : List TempInsn) (rest : List AsmItem) → labels (block_items a g block insns rest) ≡ labels rest
block-named a g block insns rest =
    let behind = items_of_transfers g.shape (end_transfers a block insns) rest in
    transfers-named g.shape (top_transfers a block) (insns_items a g block 0 insns behind)
    ∙ insns-named a g block 0 insns behind ∙ transfers-named g.shape (end_transfers a block insns) rest

lower-none : (near : Bool) (size : ℕ) (rest : List AsmItem) → nat_lt size near_size ≡ near → labels (lower_stack size rest) ≡ labels rest
lower-none true size rest e = rw e refl
lower-none false size rest e = rw e refl

raise-none : (near : Bool) (size : ℕ) (rest : List AsmItem) → nat_lt size near_size ≡ near → labels (raise_stack size rest) ≡ labels rest
raise-none true size rest e = rw e refl
raise-none false size rest e = rw e refl

save-named : (s : FrameShape) (saves : Bool) (r : ℕ) (rest : List AsmItem) → labels (save_if s saves r rest) ≡ labels rest
save-named s true r rest = frame-named Stq 29 r (saved_at s r) rest
save-named s false r rest = refl

saves-named : (s : FrameShape) (saves : ℕ → Bool) (r count : ℕ) (rest : List AsmItem) → labels (save_registers s saves r count rest) ≡ labels rest
saves-named s saves r zero rest = refl
saves-named s saves r (suc count) rest = save-named s (saves r) r (save_registers s saves (suc r) count rest) ∙ saves-named s saves (suc r) count rest

restore-named : (s : FrameShape) (saves : Bool) (r : ℕ) (rest : List AsmItem) → labels (restore_if s saves r rest) ≡ labels rest
restore-named s true r rest = frame-named Ldq 29 r (saved_at s r) rest
restore-named s false r rest = refl

restores-named : (s : FrameShape) (saves : ℕ → Bool) (r count : ℕ) (rest : List AsmItem) → labels (restore_registers s saves r count rest) ≡ labels rest
restores-named s saves r zero rest = refl
restores-named s saves r (suc count) rest = restore-named s (saves r) r (restore_registers s saves (suc r) count rest) ∙ restores-named s saves (suc r) count rest

entry-named : (s : FrameShape) (saves : ℕ → Bool) (rest : List AsmItem) → labels (entry_part s saves rest) ≡ labels rest
entry-named s saves rest =
    let kept = save_registers s saves 9 7 rest in
    lower-none (nat_lt (frame_size s) near_size) (frame_size s) (frame_store 26 (return_at s) ++ kept) refl
    ∙ frame-named Stq 29 26 (return_at s) kept ∙ saves-named s saves 9 7 rest

exit-named : (s : FrameShape) (saves : ℕ → Bool) (rest : List AsmItem) → labels (exit_part s saves rest) ≡ labels rest
exit-named s saves rest =
    let back = Plain (Jump Ret 31 26) ∷ rest in
    let raised = raise_stack (frame_size s) back in
    restores-named s saves 9 7 (frame_load 26 (return_at s) ++ raised) ∙ frame-named Ldq 29 26 (return_at s) raised
    ∙ raise-none (nat_lt (frame_size s) near_size) (frame_size s) back refl

-- ---- blocks

blocks-named : (a : Plan) (globals : List DataObject) (first block next : ℕ) (blocks : List (List TempInsn)) (rest : List AsmItem) → next ≡ first + block
    → labels (blocks_items a (setting_of a globals first) block blocks rest) ≡ range_with_len next (length blocks) ++ labels rest
blocks-named a globals first block next [] rest e = refl
blocks-named a globals first block next (insns ∷ blocks) rest e =
    let g = setting_of a globals first in
    let more : next + 1 ≡ first + suc block = omega (arith, e) in
    ap (λ ls. (first + block) ∷ ls) (block-named a g block insns (blocks_items a g (suc block) blocks rest))
    ∙ ap (λ n. n ∷ labels (blocks_items a g (suc block) blocks rest)) (sym e)
    ∙ ap (λ ls. next ∷ ls) (blocks-named a globals first (suc block) (next + 1) blocks rest more)

range-end : (start count : ℕ) (ls : List ℕ) → range_with_len start count ++ (start + count) ∷ ls ≡ range_with_len start (count + 1) ++ ls
range-end start zero ls =
    let e : start + 0 ≡ start = omega arith in
    ap (λ n. n ∷ ls) e
range-end start (suc count) ls =
    let e : start + suc count ≡ start + 1 + count = omega arith in
    let n : suc count + 1 ≡ suc (count + 1) = omega arith in
    ap (λ k. start ∷ (range_with_len (start + 1) count ++ k ∷ ls)) e ∙ ap (λ zs. start ∷ zs) (range-end (start + 1) count ls)
    ∙ ap (λ k. range_with_len start k ++ ls) (sym n)

pub function_named : (a : Plan) (globals : List DataObject) (first number : ℕ) (rest : List AsmItem) → labels (function_items a (setting_of a globals first) number rest) ≡ own_labels a first number ++ labels rest
function_named a globals first number rest =
    let g = setting_of a globals first in
    let blocks = a.function.blocks in
    let zero_first : first ≡ first + 0 = omega arith in
    ap (λ ls. function_label number ∷ ls)
    (entry-named g.shape g.shape.saves (blocks_items a g 0 blocks (exit_items g rest))
    ∙ blocks-named a globals first 0 first blocks (exit_items g rest) zero_first
    ∙ ap (λ ls. range_with_len first (length blocks) ++ (first + length blocks) ∷ ls) (exit-named g.shape g.shape.saves rest)
    ∙ range-end first (length blocks) (labels rest))

-- ---- they differ

range-at : (start count k d : ℕ) → k < length (range_with_len start count) → get_or (range_with_len start count) k d ≡ start + k
range-at start count k d lt = let n = length-range_with_len start count in get_or-range_with_len start count k d (omega (arith, lt, n))

pub own_differ : (a : Plan) (first number : ℕ) → function_label number < first → AllPairs (λ l m. l ≢ m) (own_labels a first number)
own_differ a first number below =
    let count = length a.function.blocks + 1 in
    AllPairs-cons (λ l m. l ≢ m) (function_label number) (range_with_len first count)
    (λ k d lt e. let at = range-at first count k d lt in omega (arith, at, e, below))
    (λ k j d before lt e.
    let low = range-at first count k d (omega (arith, before, lt)) in
    let high = range-at first count j d lt in
    omega (arith, low, high, e, before))
