-- The pieces of a function, in front of items whose fields are in their ranges.
use Rattle.std.proofs.Common.{◌≡◌, ℕ, zero, suc, ◌+◌, ◌*◌, ◌<◌, ◌≤◌, ◌^◌, Bool, true, false, List, [], ◌∷◌, ◌++◌, Option, Some, refl, ap, subst, arith}
use Rattle.std.specs.Prelude.{ℤ, pos, ◌-ℤ◌, nat_lt, ◌==◌, ◌&&◌, not, cond, All, slice_index, slice_index_or, slice_get, find, if◌then◌else◌}
use Rattle.std.proofs.lemmas.Bool.{ltb-true}
use Rattle.std.proofs.lemmas.List.Elements.{All-cons, All-nil, All-head, All-tail}
use Rattle.std.proofs.lemmas.Option.{slice_get_within, get_or_from_slice_get}
use Rattle.alpha_isa.specs.declared.insn.Fields.TheVariants.{Memory, Jump, Operate, Pal}
use Rattle.alpha_isa.specs.declared.insn.JumpOp.TheVariants.{Ret}
use Rattle.alpha_isa.specs.declared.insn.MemoryOp.{MemoryOp}
use Rattle.alpha_isa.specs.declared.insn.MemoryOp.TheVariants.{Ldq, Stq, Lda, Ldah}
use Rattle.alpha_isa.specs.declared.insn.Operand.TheVariants.{Reg}
use Rattle.alpha_isa.specs.declared.insn.OperateOp.TheVariants.{Bis}
use Rattle.alpha_isa.specs.Lawful.{AreLawfulFields, IsDisplacement}
use Rattle.alpha_items.specs.declared.item.AsmItem.{AsmItem}
use Rattle.alpha_items.specs.declared.item.AsmItem.TheVariants.{Label, Plain}
use Rattle.alpha_items.specs.Items.{IsItem}
use Rattle.alpha_items.specs.Words.{high_of, most_address}
use Rattle.suifvm_ir.specs.declared.insn.VmObject.TheVariants.{Global, Local}
use Rattle.pass_core.specs.Functions.{AllInsns}
use Rattle.temp_ir.specs.declared.operation.Service.{Service}
use Rattle.temp_ir.specs.declared.operation.Service.TheVariants.{End, PutByte, GetByte, Trap}
use Rattle.temp_ir.specs.declared.insn.TempInsn.{TempInsn}
use Rattle.temp_ir.specs.declared.insn.TempInsn.TheVariants as i
use Rattle.temp_ir.specs.Fixed.{register_number}
use Rattle.alloc_model.specs.declared.allocation.Transfer.{Transfer}
use Rattle.alloc_model.specs.declared.allocation.Transfer.TheVariants.{Store, Load, Shift}
use Rattle.alloc_model.specs.declared.allocation.EdgeCode.{EdgeCode}
use Rattle.alloc_model.specs.Effect.{right_index}
use Rattle.alloc_model.specs.Places.{Plan, code_in, edge_transfers, transfers_at, registers_at, linear_number}
use Rattle.alloc_model.specs.Temporaries.{flows_out}
use Rattle.alloc_model.specs.Faithful.{IsGivenRegister, IsGivenOrScratch, IsTransfer}
use Rattle.frame_memory.specs.flat_frames.Shapes.{FrameShape, frame_size, return_at, saved_at, slot_at, argument_at, frame_object_at}
use Rattle.frame_steps.specs.frame_accesses.Items.{near_size, frame_item, frame_load, frame_store, register_move}
use Rattle.frame_steps.specs.frame_transfers.Items.{transfer_items, items_of_transfers}
use Rattle.frame_steps.specs.call_parts.Items.{high_below, lower_stack, raise_stack, save_if, save_registers, restore_if, restore_registers, entry_part, exit_part}
use Rattle.frame_steps.specs.instruction_items.Items.{ItemSetting, function_label, service_function, insn_items, source_register}
use Rattle.frame_layout.specs.Items.{ends_with_branch, jump_transfers, top_transfers, end_transfers, point_items, insns_items, block_items, blocks_items, exit_items, function_items}
use Rattle.frame_layout.specs.Shapes.{shape_of}
use Rattle.frame_bounds.specs.frame_ranges.Ranges.{IsInRange, HasRegisters}
use Rattle.frame_bounds.proofs.FrameRanges.Fields.{scratch_small, given_small, stated_small, source_small, operand_small, fixed_small, first_any, first_extend, rest_fits, all_at}

all-get : {X : Type 0} (Q : X → Type 0) (xs : List X) (j : ℕ) (y : X) → All Q xs → slice_get xs j ≡ Some y → Q y
all-get Q xs j y all is = subst Q (get_or_from_slice_get xs j y y is) (all j y (slice_get_within xs j y is))

-- transfers of a frame
abbrev IsMove : (temps : ℕ) → Transfer → Type 0
IsMove temps (Store t r) = (t < temps) × (r < 32)
IsMove temps (Load t r) = (t < temps) × (r < 32)
IsMove temps (Shift t from to) = (from < 32) × (to < 32)

is-move : (temps : ℕ) (Allowed : ℕ → Type 0) → ((r : ℕ) → Allowed r → r < 32) → (x : Transfer) → IsTransfer temps Allowed x → IsMove temps x
is-move temps Allowed small (Store t r) h = (h.0, small r (h.1 0 r (omega arith)))
is-move temps Allowed small (Load t r) h = (h.0, small r (h.1 0 r (omega arith)))
is-move temps Allowed small (Shift t from to) h = (small from (h.1 0 from (omega arith)), small to (h.1 1 to (omega arith)))

all-moves : (temps : ℕ) (Allowed : ℕ → Type 0) → ((r : ℕ) → Allowed r → r < 32) → (xs : List Transfer) → All (IsTransfer temps Allowed) xs → All (IsMove temps) xs
all-moves temps Allowed small xs h = λ k d lt. is-move temps Allowed small _ (h k d lt)

code-step : (temps : ℕ) (b : Bool) (e : EdgeCode) (o : Option EdgeCode) → All (IsMove temps) e.code → All (IsMove temps) (code_in o) → All (IsMove temps) (code_in (cond b (Some e) o))
code-step temps true e o first rest = first
code-step temps false e o first rest = rest

code-moves : (temps : ℕ) (q : EdgeCode → Bool) (es : List EdgeCode) → All (λ e. All (IsTransfer temps IsGivenOrScratch) e.code) es → All (IsMove temps) (code_in (find q es))
code-moves temps q [] h = All-nil (IsMove temps)
code-moves temps q (e ∷ es) h =
    code-step temps (q e) e (find q es)
    (all-moves temps IsGivenOrScratch scratch_small e.code (All-head (λ z. All (IsTransfer temps IsGivenOrScratch) z.code) e es h))
    (code-moves temps q es (All-tail (λ z. All (IsTransfer temps IsGivenOrScratch) z.code) e es h))

service-lawful : (s : Service) → AreLawfulFields (Pal (service_function s))
service-lawful End = refl
service-lawful PutByte = refl
service-lawful GetByte = refl
service-lawful Trap = refl

module _ (a : Plan) (g : ItemSetting) (size : ℕ) (registers : HasRegisters a) (shape : g.shape ≡ shape_of a) (small : frame_size g.shape ≤ 2 ^ 29) where
  abbrev pub P : AsmItem → Type 0
  P i = IsItem size i

  put : (x : AsmItem) (rest : List AsmItem) → P x → All P rest → All P (x ∷ rest)
  put x rest h all = All-cons P x rest h all

  memory : (op : MemoryOp) (ra rb : ℕ) (disp : ℤ) (rest : List AsmItem) → ra < 32 → rb < 32 → IsDisplacement disp → All P rest → All P (Plain (Memory op ra rb disp) ∷ rest)
  memory op ra rb disp rest first second fits h = put (Plain (Memory op ra rb disp)) rest ((first, second, fits), refl) h

  frame-by : (near : Bool) (op : MemoryOp) (way r offset : ℕ) (rest : List AsmItem) → way < 32 → r < 32 → offset < most_address → nat_lt offset near_size ≡ near → All P rest → All P (frame_item op way r offset ++ rest)
  frame-by true op way r offset rest w q far e h = rw e (memory op r 30 (pos offset) rest q (omega arith) (ltb-true offset near_size e) h)
  frame-by false op way r offset rest w q far e h =
      rw e (memory Ldah way 30 (pos (high_of offset)) (Plain (Memory op r way (pos offset -ℤ pos (high_of offset * 65536))) ∷ rest) w (omega arith) (omega (arith, far))
      (memory op r way (pos offset -ℤ pos (high_of offset * 65536)) rest q w (rest_fits (pos offset -ℤ pos (high_of offset * 65536)) offset (high_of offset * 65536) refl (omega arith) (omega arith)) h))

  frame-in : (op : MemoryOp) (r offset : ℕ) (rest : List AsmItem) → r < 32 → offset < most_address → All P rest → All P (frame_item op 29 r offset ++ rest)
  frame-in op r offset rest q far h = frame-by (nat_lt offset near_size) op 29 r offset rest (omega arith) q far refl h

  move-by : (same : Bool) (from to : ℕ) (rest : List AsmItem) → from < 32 → to < 32 → (from == to) ≡ same → All P rest → All P (register_move from to ++ rest)
  move-by true from to rest f t e h = rw e h
  move-by false from to rest f t e h = rw e (put (Plain (Operate Bis 31 (Reg from) to)) rest ((omega arith, f, t), refl) h)

  move-in : (from to : ℕ) (rest : List AsmItem) → from < 32 → to < 32 → All P rest → All P (register_move from to ++ rest)
  move-in from to rest f t h = move-by (from == to) from to rest f t refl h

  slot-near : (t : ℕ) → t < a.temps → slot_at g.shape t < most_address
  slot-near t lt = let e : g.shape.temps ≡ a.temps = ap (λ (s : FrameShape). s.temps) shape in omega (arith, small, lt, e)

  transfer-in : (x : Transfer) (rest : List AsmItem) → IsMove a.temps x → All P rest → All P (transfer_items g.shape x ++ rest)
  transfer-in (Store t r) rest m h = frame-in Stq r (slot_at g.shape t) rest m.1 (slot-near t m.0) h
  transfer-in (Load t r) rest m h = frame-in Ldq r (slot_at g.shape t) rest m.1 (slot-near t m.0) h
  transfer-in (Shift t from to) rest m h = move-in from to rest m.0 m.1 h

  transfers-in : (xs : List Transfer) (rest : List AsmItem) → All (IsMove a.temps) xs → All P rest → All P (items_of_transfers g.shape xs rest)
  transfers-in [] rest m h = h
  transfers-in (x ∷ xs) rest m h = transfer-in x (items_of_transfers g.shape xs rest) (All-head (IsMove a.temps) x xs m) (transfers-in xs rest (All-tail (IsMove a.temps) x xs m) h)

  insn-in : (rs : List ℕ) (x : TempInsn) (rest : List AsmItem) → All IsGivenRegister rs → IsInRange g size x → All P rest → All P (insn_items g rs x ++ rest)
  insn-in rs (i.Address op d base plus) rest m k h = memory _ _ _ _ rest (stated_small rs _ m) (source_small base rs m) k h
  insn-in rs (i.ObjectAddress d (Global o) plus) rest m k h = put _ rest (stated_small rs 0 m, k) h
  insn-in rs (i.ObjectAddress d (Local o) plus) rest m k h = frame-in Lda (slice_index rs 0) (frame_object_at g.shape o + plus) rest (stated_small rs 0 m) k h
  insn-in rs (i.Load op d p plus) rest m k h = memory _ _ _ _ rest (stated_small rs 1 m) (stated_small rs 0 m) k h
  insn-in rs (i.Store op v p plus) rest m k h = memory _ _ _ _ rest (source_small v rs m) (stated_small rs _ m) k h
  insn-in rs (i.Operate op d l r) rest m k h = put _ rest ((first_any op (source_register l rs) (source_small l rs m), operand_small r rs (right_index l) m k, stated_small rs _ m), refl) h
  insn-in rs (i.Extend op d s) rest m k h = put _ rest ((first_extend op, operand_small s rs 0 m k, stated_small rs _ m), refl) h
  insn-in rs (i.ToFixed r s) rest m k h = move-in (slice_index rs 0) (register_number r) rest (stated_small rs 0 m) (fixed_small r) h
  insn-in rs (i.FromFixed d r) rest m k h = move-in (register_number r) (slice_index rs 0) rest (fixed_small r) (stated_small rs 0 m) h
  insn-in rs (i.SetFixed r n) rest m k h = memory _ _ _ _ rest (fixed_small r) (omega arith) k h
  insn-in rs (i.WriteArgument n s) rest m k h = frame-in Stq (slice_index rs 0) (argument_at n) rest (stated_small rs 0 m) (omega (arith, k)) h
  insn-in rs (i.ReadArgument d n) rest m k h = frame-in Ldq (slice_index rs 0) (frame_size g.shape + argument_at n) rest (stated_small rs 0 m) (omega (arith, k, small)) h
  insn-in rs (i.Branch op s t) rest m k h = put _ rest (stated_small rs 0 m) h
  insn-in rs (i.Jump t) rest m k h = put _ rest (omega arith) h
  insn-in rs (i.Call f n) rest m k h = put _ rest (omega arith) h
  insn-in rs (i.Divide r) rest m k h = put _ rest (omega arith) h
  insn-in rs (i.Serve s) rest m k h = put _ rest (service-lawful s, refl) h
  insn-in rs (i.Return v) rest m k h = put _ rest (omega arith) h
  insn-in rs i.Mark rest m k h = h

  -- ---- points

  at-moves : (block at : ℕ) → All (IsMove a.temps) (transfers_at a block at)
  at-moves block at = all-moves a.temps IsGivenRegister given_small (transfers_at a block at) (all_at (IsTransfer a.temps IsGivenRegister) a.at (linear_number a.function.blocks block at) registers.transfers)

  edge-moves : (from to : ℕ) → All (IsMove a.temps) (edge_transfers a from to)
  edge-moves from to = code-moves a.temps (λ e. (e.from == from) && (e.to == to)) a.edges registers.edge_transfers

  jump-moves : (block : ℕ) (x : TempInsn) → All (IsMove a.temps) (jump_transfers a block x)
  jump-moves block (i.Address op d base plus) = All-nil (IsMove a.temps)
  jump-moves block (i.ObjectAddress d place plus) = All-nil (IsMove a.temps)
  jump-moves block (i.Load op d p plus) = All-nil (IsMove a.temps)
  jump-moves block (i.Store op v p plus) = All-nil (IsMove a.temps)
  jump-moves block (i.Operate op d l r) = All-nil (IsMove a.temps)
  jump-moves block (i.Extend op d s) = All-nil (IsMove a.temps)
  jump-moves block (i.ToFixed r s) = All-nil (IsMove a.temps)
  jump-moves block (i.FromFixed d r) = All-nil (IsMove a.temps)
  jump-moves block (i.SetFixed r n) = All-nil (IsMove a.temps)
  jump-moves block (i.WriteArgument n s) = All-nil (IsMove a.temps)
  jump-moves block (i.ReadArgument d n) = All-nil (IsMove a.temps)
  jump-moves block (i.Branch op s t) = All-nil (IsMove a.temps)
  jump-moves block (i.Jump t) = edge-moves block t
  jump-moves block (i.Call f n) = All-nil (IsMove a.temps)
  jump-moves block (i.Divide r) = All-nil (IsMove a.temps)
  jump-moves block (i.Serve s) = All-nil (IsMove a.temps)
  jump-moves block (i.Return v) = All-nil (IsMove a.temps)
  jump-moves block i.Mark = All-nil (IsMove a.temps)

  top-moves : (block : ℕ) → All (IsMove a.temps) (top_transfers a block)
  top-moves block = code-moves a.temps (λ e. (e.to == block) && ends_with_branch (slice_index_or a.function.blocks e.from [])) a.edges registers.edge_transfers

  end-step : (b : Bool) (block : ℕ) → All (IsMove a.temps) (if b then edge_transfers a block (suc block) else [])
  end-step true block = edge-moves block (suc block)
  end-step false block = All-nil (IsMove a.temps)

  end-moves : (block : ℕ) (insns : List TempInsn) → All (IsMove a.temps) (end_transfers a block insns)
  end-moves block insns = end-step (flows_out insns && not (ends_with_branch insns)) block

  point-in : (block at : ℕ) (x : TempInsn) (rest : List AsmItem) → IsInRange g size x → All P rest → All P (point_items a g block at x rest)
  point-in block at x rest k h =
      let body = insn_items g (registers_at a block at) x ++ rest in
      transfers-in (transfers_at a block at) (items_of_transfers g.shape (jump_transfers a block x) body) (at-moves block at)
      (transfers-in (jump_transfers a block x) body (jump-moves block x)
      (insn-in (registers_at a block at) x rest (all_at IsGivenRegister a.regs (linear_number a.function.blocks block at) registers.given) k h))

  insns-in : (block at : ℕ) (insns : List TempInsn) (rest : List AsmItem) → All (IsInRange g size) insns → All P rest → All P (insns_items a g block at insns rest)
  insns-in block at [] rest k h = h
  insns-in block at (x ∷ xs) rest k h =
      point-in block at x (insns_items a g block (suc at) xs rest) (All-head (IsInRange g size) x xs k) (insns-in block (suc at) xs rest (All-tail (IsInRange g size) x xs k) h)

  block-in : (block : ℕ) (insns : List TempInsn) (rest : List AsmItem) → All (IsInRange g size) insns → All P rest → All P (block_items a g block insns rest)
  block-in block insns rest k h =
      let behind = items_of_transfers g.shape (end_transfers a block insns) rest in
      transfers-in (top_transfers a block) (insns_items a g block 0 insns behind) (top-moves block)
      (insns-in block 0 insns behind k (transfers-in (end_transfers a block insns) rest (end-moves block insns) h))

  blocks-in : (block : ℕ) (blocks : List (List TempInsn)) (rest : List AsmItem) → AllInsns (IsInRange g size) blocks → All P rest → All P (blocks_items a g block blocks rest)
  blocks-in block [] rest k h = h
  blocks-in block (insns ∷ blocks) rest k h =
      put (Label (g.block_label block)) (block_items a g block insns (blocks_items a g (suc block) blocks rest)) tt
      (block-in block insns (blocks_items a g (suc block) blocks rest) (All-head (All (IsInRange g size)) insns blocks k)
      (blocks-in (suc block) blocks rest (All-tail (All (IsInRange g size)) insns blocks k) h))

  -- ---- entry and exit

  lower-by : (near : Bool) (n : ℕ) (rest : List AsmItem) → n ≤ 2 ^ 29 → nat_lt n near_size ≡ near → All P rest → All P (lower_stack n rest)
  lower-by true n rest s e h = rw e (memory Lda 30 30 (pos 0 -ℤ pos n) rest (omega arith) (omega arith) (let lt = ltb-true n near_size e in rest_fits (pos 0 -ℤ pos n) 0 n refl (omega arith) (omega (arith, lt))) h)
  lower-by false n rest s e h =
      rw e (memory Ldah 30 30 (pos 0 -ℤ pos (high_below n)) (Plain (Memory Lda 30 30 (pos (high_below n * 65536) -ℤ pos n)) ∷ rest) (omega arith) (omega arith)
      (rest_fits (pos 0 -ℤ pos (high_below n)) 0 (high_below n) refl (omega arith) (omega (arith, s)))
      (memory Lda 30 30 (pos (high_below n * 65536) -ℤ pos n) rest (omega arith) (omega arith)
      (rest_fits (pos (high_below n * 65536) -ℤ pos n) (high_below n * 65536) n refl (omega arith) (omega arith)) h))

  raise-by : (near : Bool) (n : ℕ) (rest : List AsmItem) → n ≤ 2 ^ 29 → nat_lt n near_size ≡ near → All P rest → All P (raise_stack n rest)
  raise-by true n rest s e h = rw e (memory Lda 30 30 (pos n) rest (omega arith) (omega arith) (ltb-true n near_size e) h)
  raise-by false n rest s e h =
      rw e (memory Ldah 30 30 (pos (high_of n)) (Plain (Memory Lda 30 30 (pos n -ℤ pos (high_of n * 65536))) ∷ rest) (omega arith) (omega arith) (omega (arith, s))
      (memory Lda 30 30 (pos n -ℤ pos (high_of n * 65536)) rest (omega arith) (omega arith)
      (rest_fits (pos n -ℤ pos (high_of n * 65536)) n (high_of n * 65536) refl (omega arith) (omega arith)) h))

  save-in : (saves : Bool) (r : ℕ) (rest : List AsmItem) → r < 16 → All P rest → All P (save_if g.shape saves r rest)
  save-in true r rest lt h = frame-in Stq r (saved_at g.shape r) rest (omega (arith, lt)) (omega (arith, lt, small)) h
  save-in false r rest lt h = h

  saves-in : (saves : ℕ → Bool) (r count : ℕ) (rest : List AsmItem) → r + count ≤ 16 → All P rest → All P (save_registers g.shape saves r count rest)
  saves-in saves r zero rest le h = h
  saves-in saves r (suc count) rest le h = save-in (saves r) r (save_registers g.shape saves (suc r) count rest) (omega (arith, le)) (saves-in saves (suc r) count rest (omega (arith, le)) h)

  restore-in : (saves : Bool) (r : ℕ) (rest : List AsmItem) → r < 16 → All P rest → All P (restore_if g.shape saves r rest)
  restore-in true r rest lt h = frame-in Ldq r (saved_at g.shape r) rest (omega (arith, lt)) (omega (arith, lt, small)) h
  restore-in false r rest lt h = h

  restores-in : (saves : ℕ → Bool) (r count : ℕ) (rest : List AsmItem) → r + count ≤ 16 → All P rest → All P (restore_registers g.shape saves r count rest)
  restores-in saves r zero rest le h = h
  restores-in saves r (suc count) rest le h = restore-in (saves r) r (restore_registers g.shape saves (suc r) count rest) (omega (arith, le)) (restores-in saves (suc r) count rest (omega (arith, le)) h)

  return-near : return_at g.shape < most_address
  return-near = omega (arith, small)

  entry-in : (saves : ℕ → Bool) (rest : List AsmItem) → All P rest → All P (entry_part g.shape saves rest)
  entry-in saves rest h =
      let kept = save_registers g.shape saves 9 7 rest in
      lower-by (nat_lt (frame_size g.shape) near_size) (frame_size g.shape) (frame_store 26 (return_at g.shape) ++ kept) small refl
      (frame-in Stq 26 (return_at g.shape) kept (omega arith) return-near (saves-in saves 9 7 rest (omega arith) h))

  exit-in : (saves : ℕ → Bool) (rest : List AsmItem) → All P rest → All P (exit_part g.shape saves rest)
  exit-in saves rest h =
      let back = Plain (Jump Ret 31 26) ∷ rest in
      let raised = raise_stack (frame_size g.shape) back in
      restores-in saves 9 7 (frame_load 26 (return_at g.shape) ++ raised) (omega arith)
      (frame-in Ldq 26 (return_at g.shape) raised (omega arith) return-near
      (raise-by (nat_lt (frame_size g.shape) near_size) (frame_size g.shape) back small refl (put (Plain (Jump Ret 31 26)) rest ((omega arith, omega arith), refl) h)))

  function-in : (number : ℕ) (rest : List AsmItem) → AllInsns (IsInRange g size) a.function.blocks → All P rest → All P (function_items a g number rest)
  function-in number rest k h =
      put (Label (function_label number)) (entry_part g.shape g.shape.saves (blocks_items a g 0 a.function.blocks (exit_items g rest))) tt
      (entry-in g.shape.saves (blocks_items a g 0 a.function.blocks (exit_items g rest))
      (blocks-in 0 a.function.blocks (exit_items g rest) k
      (put (Label g.exit_label) (exit_part g.shape g.shape.saves rest) tt (exit-in g.shape.saves rest h))))

pub function_in_range : (a : Plan) (g : ItemSetting) (number size : ℕ) (rest : List AsmItem) → HasRegisters a → g.shape ≡ shape_of a → frame_size g.shape ≤ 2 ^ 29
    → AllInsns (IsInRange g size) a.function.blocks → All (IsItem size) rest → All (IsItem size) (function_items a g number rest)
function_in_range a g number size rest registers shape small k h = function-in a g size registers shape small number rest k h
