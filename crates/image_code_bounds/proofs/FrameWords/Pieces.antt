-- The words of the pieces of a function in front of others.
use Rattle.std.proofs.Common.{◌≡◌, ℕ, zero, suc, ◌+◌, ◌*◌, ◌≤◌, Bool, true, false, List, [], ◌∷◌, ◌++◌, length, refl, arith}
use Rattle.std.specs.Prelude.{nat_lt, ◌==◌, slice_index, if◌then◌else◌}
use Rattle.alpha_isa.specs.declared.insn.Fields.TheVariants.{Jump}
use Rattle.alpha_isa.specs.declared.insn.JumpOp.TheVariants.{Ret}
use Rattle.alpha_isa.specs.declared.insn.MemoryOp.{MemoryOp}
use Rattle.alpha_isa.specs.declared.insn.MemoryOp.TheVariants.{Ldq, Stq, Lda}
use Rattle.alpha_items.specs.declared.item.AsmItem.{AsmItem}
use Rattle.alpha_items.specs.declared.item.AsmItem.TheVariants.{Plain, Branch}
use Rattle.suifvm_ir.specs.declared.insn.VmObject.TheVariants.{Global, Local}
use Rattle.temp_ir.specs.declared.insn.TempInsn.{TempInsn}
use Rattle.temp_ir.specs.declared.insn.TempInsn.TheVariants as i
use Rattle.temp_ir.specs.declared.operation.TempBranchOp.{TempBranchOp}
use Rattle.temp_ir.specs.Fixed.{register_number}
use Rattle.temp_ir.specs.Operations.{branch_op}
use Rattle.alpha_isa.specs.Step.{links}
use Rattle.alloc_model.specs.declared.allocation.Transfer.{Transfer}
use Rattle.alloc_model.specs.declared.allocation.Transfer.TheVariants.{Store, Load, Shift}
use Rattle.frame_memory.specs.flat_frames.Shapes.{FrameShape, frame_size, return_at, saved_at, slot_at, argument_at, frame_object_at}
use Rattle.frame_steps.specs.frame_accesses.Items.{near_size, frame_item, frame_load, frame_store, register_move}
use Rattle.frame_steps.specs.frame_transfers.Items.{transfer_items, items_of_transfers}
use Rattle.frame_steps.specs.call_parts.Items.{lower_stack, raise_stack, save_if, save_registers, restore_if, restore_registers, entry_part, exit_part}
use Rattle.frame_steps.specs.instruction_items.Items.{ItemSetting, insn_items}
use Rattle.image_code_bounds.specs.frame_words.Words.{most_item_words, most_words_of}

-- ---- accesses

frame-le : (near : Bool) (op : MemoryOp) (way r offset : ℕ) (rest : List AsmItem) → nat_lt offset near_size ≡ near → most_words_of (frame_item op way r offset ++ rest) ≤ 2 + most_words_of rest
frame-le true op way r offset rest e = rw e (omega arith)
frame-le false op way r offset rest e = rw e (omega arith)

move-le : (same : Bool) (from to : ℕ) (rest : List AsmItem) → (from == to) ≡ same → most_words_of (register_move from to ++ rest) ≤ 2 + most_words_of rest
move-le true from to rest e = rw e (omega arith)
move-le false from to rest e = rw e (omega arith)

pub frame_le : (op : MemoryOp) (way r offset : ℕ) (rest : List AsmItem) → most_words_of (frame_item op way r offset ++ rest) ≤ 2 + most_words_of rest
frame_le op way r offset rest = frame-le (nat_lt offset near_size) op way r offset rest refl

pub move_le : (from to : ℕ) (rest : List AsmItem) → most_words_of (register_move from to ++ rest) ≤ 2 + most_words_of rest
move_le from to rest = move-le (from == to) from to rest refl

-- ---- transfers

transfer-le : (s : FrameShape) (x : Transfer) (rest : List AsmItem) → most_words_of (transfer_items s x ++ rest) ≤ 2 + most_words_of rest
transfer-le s (Store t r) rest = frame_le Stq 29 r (slot_at s t) rest
transfer-le s (Load t r) rest = frame_le Ldq 29 r (slot_at s t) rest
transfer-le s (Shift t from to) rest = move_le from to rest

pub transfers_le : (s : FrameShape) (xs : List Transfer) (rest : List AsmItem) → most_words_of (items_of_transfers s xs rest) ≤ 2 * length xs + most_words_of rest
transfers_le s [] rest = omega arith
transfers_le s (x ∷ xs) rest =
    let one = transfer-le s x (items_of_transfers s xs rest) in
    let more = transfers_le s xs rest in
    omega (arith, one, more)

-- ---- instructions

branch-four : (op : TempBranchOp) (ra l : ℕ) (rest : List AsmItem) → most_item_words (Branch (branch_op op) ra l) ≤ 4
branch-four op ra l rest = four (links (branch_op op))
  where
    four : (linked : Bool) → (if linked then 3 else 4) ≤ 4
    four true = omega arith
    four false = omega arith

pub insn_le : (g : ItemSetting) (rs : List ℕ) (x : TempInsn) (rest : List AsmItem) → most_words_of (insn_items g rs x ++ rest) ≤ 4 + most_words_of rest
insn_le g rs (i.Address op d base plus) rest = omega arith
insn_le g rs (i.ObjectAddress d (Global k) plus) rest = omega arith
insn_le g rs (i.ObjectAddress d (Local k) plus) rest = let h = frame_le Lda 29 (slice_index rs 0) (frame_object_at g.shape k + plus) rest in omega (arith, h)
insn_le g rs (i.Load op d p plus) rest = omega arith
insn_le g rs (i.Store op v p plus) rest = omega arith
insn_le g rs (i.Operate op d l r) rest = omega arith
insn_le g rs (i.Extend op d s) rest = omega arith
insn_le g rs (i.ToFixed r s) rest = let h = move_le (slice_index rs 0) (register_number r) rest in omega (arith, h)
insn_le g rs (i.FromFixed d r) rest = let h = move_le (register_number r) (slice_index rs 0) rest in omega (arith, h)
insn_le g rs (i.SetFixed r n) rest = omega arith
insn_le g rs (i.WriteArgument n s) rest = let h = frame_le Stq 29 (slice_index rs 0) (argument_at n) rest in omega (arith, h)
insn_le g rs (i.ReadArgument d n) rest = let h = frame_le Ldq 29 (slice_index rs 0) (frame_size g.shape + argument_at n) rest in omega (arith, h)
insn_le g rs (i.Branch op s t) rest = let h = branch-four op (slice_index rs 0) (g.block_label t) rest in omega (arith, h)
insn_le g rs (i.Jump t) rest = omega arith
insn_le g rs (i.Call f n) rest = omega arith
insn_le g rs (i.Divide r) rest = omega arith
insn_le g rs (i.Serve s) rest = omega arith
insn_le g rs (i.Return v) rest = omega arith
insn_le g rs i.Mark rest = omega arith

-- ---- entry and exit

lower-le : (near : Bool) (size : ℕ) (rest : List AsmItem) → nat_lt size near_size ≡ near → most_words_of (lower_stack size rest) ≤ 2 + most_words_of rest
lower-le true size rest e = rw e (omega arith)
lower-le false size rest e = rw e (omega arith)

raise-le : (near : Bool) (size : ℕ) (rest : List AsmItem) → nat_lt size near_size ≡ near → most_words_of (raise_stack size rest) ≤ 2 + most_words_of rest
raise-le true size rest e = rw e (omega arith)
raise-le false size rest e = rw e (omega arith)

save-le : (s : FrameShape) (saves : Bool) (r : ℕ) (rest : List AsmItem) → most_words_of (save_if s saves r rest) ≤ 2 + most_words_of rest
save-le s true r rest = frame_le Stq 29 r (saved_at s r) rest
save-le s false r rest = omega arith

saves-le : (s : FrameShape) (saves : ℕ → Bool) (r count : ℕ) (rest : List AsmItem) → most_words_of (save_registers s saves r count rest) ≤ 2 * count + most_words_of rest
saves-le s saves r zero rest = omega arith
saves-le s saves r (suc count) rest =
    let one = save-le s (saves r) r (save_registers s saves (suc r) count rest) in
    let more = saves-le s saves (suc r) count rest in
    omega (arith, one, more)

restore-le : (s : FrameShape) (saves : Bool) (r : ℕ) (rest : List AsmItem) → most_words_of (restore_if s saves r rest) ≤ 2 + most_words_of rest
restore-le s true r rest = frame_le Ldq 29 r (saved_at s r) rest
restore-le s false r rest = omega arith

restores-le : (s : FrameShape) (saves : ℕ → Bool) (r count : ℕ) (rest : List AsmItem) → most_words_of (restore_registers s saves r count rest) ≤ 2 * count + most_words_of rest
restores-le s saves r zero rest = omega arith
restores-le s saves r (suc count) rest =
    let one = restore-le s (saves r) r (restore_registers s saves (suc r) count rest) in
    let more = restores-le s saves (suc r) count rest in
    omega (arith, one, more)

pub entry_le : (s : FrameShape) (saves : ℕ → Bool) (rest : List AsmItem) → most_words_of (entry_part s saves rest) ≤ 18 + most_words_of rest
entry_le s saves rest =
    let kept = save_registers s saves 9 7 rest in
    let a = lower-le (nat_lt (frame_size s) near_size) (frame_size s) (frame_store 26 (return_at s) ++ kept) refl in
    let b = frame_le Stq 29 26 (return_at s) kept in
    let c = saves-le s saves 9 7 rest in
    omega (arith, a, b, c)

pub exit_le : (s : FrameShape) (saves : ℕ → Bool) (rest : List AsmItem) → most_words_of (exit_part s saves rest) ≤ 19 + most_words_of rest
exit_le s saves rest =
    let back = Plain (Jump Ret 31 26) ∷ rest in
    let raised = raise_stack (frame_size s) back in
    let a = restores-le s saves 9 7 (frame_load 26 (return_at s) ++ raised) in
    let b = frame_le Ldq 29 26 (return_at s) raised in
    let c = raise-le (nat_lt (frame_size s) near_size) (frame_size s) back refl in
    omega (arith, a, b, c)
