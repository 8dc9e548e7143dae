-- The labels that the pieces of a function use, in front of others.
use Rattle.std.proofs.Common.{◌≡◌, ℕ, zero, suc, ◌+◌, ◌≤◌, Bool, true, false, List, [], ◌∷◌, ◌++◌, length, Option, Some, None, refl, ap, subst, ◌∙◌, arith, inl, inr}
use Rattle.std.specs.Prelude.{nat_lt, ◌==◌, All, slice_index, slice_get}
use Rattle.std.proofs.lemmas.List.Elements.{All-cons}
use Rattle.std.proofs.lemmas.Option.{slice_get_within, get_or_from_slice_get}
use Rattle.alpha_isa.specs.declared.insn.Fields.{Fields}
use Rattle.alpha_isa.specs.declared.insn.Fields.TheVariants.{Jump}
use Rattle.alpha_isa.specs.declared.insn.JumpOp.TheVariants.{Ret}
use Rattle.alpha_isa.specs.declared.insn.MemoryOp.{MemoryOp}
use Rattle.alpha_isa.specs.declared.insn.MemoryOp.TheVariants.{Ldq, Stq, Lda}
use Rattle.alpha_items.specs.declared.item.AsmItem.{AsmItem}
use Rattle.alpha_items.specs.declared.item.AsmItem.TheVariants.{Label, Plain}
use Rattle.alpha_rt.specs.Items.{entry_label}
use Rattle.mem_objects.specs.declared.DataObject.{DataObject}
use Rattle.suifvm_ir.specs.declared.insn.VmObject.TheVariants.{Global, Local}
use Rattle.pass_core.specs.Functions.{AllInsns, GoesToBlocks, insn_in, insn_at}
use Rattle.temp_ir.specs.declared.operation.DivisionRoutine.{DivisionRoutine}
use Rattle.temp_ir.specs.declared.operation.DivisionRoutine.TheVariants.{Divq, Remq, Divqu, Remqu, Divl, Reml, Divlu, Remlu}
use Rattle.temp_ir.specs.declared.insn.TempInsn.{TempInsn}
use Rattle.temp_ir.specs.declared.insn.TempInsn.TheVariants as i
use Rattle.temp_ir.specs.Fixed.{register_number}
use Rattle.temp_ir.specs.Insns.{targets_of}
use Rattle.alloc_model.specs.declared.allocation.Transfer.{Transfer}
use Rattle.alloc_model.specs.declared.allocation.Transfer.TheVariants.{Store, Load, Shift}
use Rattle.alloc_model.specs.Effect.{routine_of}
use Rattle.alloc_model.specs.Places.{Plan, transfers_at, registers_at}
use Rattle.frame_memory.specs.flat_frames.Shapes.{FrameShape, frame_size, return_at, saved_at, slot_at, argument_at, frame_object_at}
use Rattle.frame_steps.specs.frame_accesses.Items.{near_size, frame_item, frame_load, frame_store, register_move}
use Rattle.frame_steps.specs.frame_transfers.Items.{transfer_items, items_of_transfers}
use Rattle.frame_steps.specs.call_parts.Items.{lower_stack, raise_stack, save_if, save_registers, restore_if, restore_registers, entry_part, exit_part}
use Rattle.frame_steps.specs.instruction_items.Items.{ItemSetting, function_label, insn_items}
use Rattle.frame_emitter.specs.Items.{jump_transfers, top_transfers, end_transfers, point_items, insns_items, block_items, blocks_items, exit_items, function_items}
use Rattle.frame_emitter.specs.Settings.{setting_of}
use Rattle.frame_bounds.specs.frame_labels.Labels.{IsCalledAt, UsesOnly}

routine-label : (r : DivisionRoutine) → (1 ≤ entry_label (routine_of r)) × (entry_label (routine_of r) ≤ 8)
routine-label Divq = (omega arith, omega arith)
routine-label Remq = (omega arith, omega arith)
routine-label Divqu = (omega arith, omega arith)
routine-label Remqu = (omega arith, omega arith)
routine-label Divl = (omega arith, omega arith)
routine-label Reml = (omega arith, omega arith)
routine-label Divlu = (omega arith, omega arith)
routine-label Remlu = (omega arith, omega arith)

all-get : {X : Type 0} (Q : X → Type 0) (xs : List X) (j : ℕ) (y : X) → All Q xs → slice_get xs j ≡ Some y → Q y
all-get Q xs j y all is = subst Q (get_or_from_slice_get xs j y y is) (all j y (slice_get_within xs j y is))

goes-in : (count : ℕ) (o : Option (List TempInsn)) (k : ℕ) (x : TempInsn) → ((insns : List TempInsn) → o ≡ Some insns → All (GoesToBlocks targets_of count) insns) → insn_in o k ≡ Some x → GoesToBlocks targets_of count x
goes-in count None k x h e = let clash : ⊥ = cc in absurd clash
goes-in count (Some insns) k x h e = all-get (GoesToBlocks targets_of count) insns k x (h insns refl) e

goes-at : (count : ℕ) (blocks : List (List TempInsn)) (b k : ℕ) (x : TempInsn) → AllInsns (GoesToBlocks targets_of count) blocks → insn_at blocks b k ≡ Some x → GoesToBlocks targets_of count x
goes-at count blocks b k x goes e =
    goes-in count (slice_get blocks b) k x (λ insns is. all-get (All (GoesToBlocks targets_of count)) blocks b insns goes is) e

module _ (a : Plan) (globals : List DataObject) (first : ℕ) where
  abbrev pub g : ItemSetting
  g = setting_of a globals first

  abbrev pub P : AsmItem → Type 0
  P i = UsesOnly a first i

  put : (x : AsmItem) (rest : List AsmItem) → P x → All P rest → All P (x ∷ rest)
  put x rest h all = All-cons P x rest h all

  two : (e f : Fields) (rest : List AsmItem) → All P rest → All P (Plain e ∷ Plain f ∷ rest)
  two e f rest h = put (Plain e) (Plain f ∷ rest) tt (put (Plain f) rest tt h)

  frame-by : (near : Bool) (op : MemoryOp) (way r offset : ℕ) (rest : List AsmItem) → nat_lt offset near_size ≡ near → All P rest → All P (frame_item op way r offset ++ rest)
  frame-by true op way r offset rest e h = rw e (put _ rest tt h)
  frame-by false op way r offset rest e h = rw e (two _ _ rest h)

  frame-uses : (op : MemoryOp) (way r offset : ℕ) (rest : List AsmItem) → All P rest → All P (frame_item op way r offset ++ rest)
  frame-uses op way r offset rest h = frame-by (nat_lt offset near_size) op way r offset rest refl h

  move-by : (same : Bool) (from to : ℕ) (rest : List AsmItem) → (from == to) ≡ same → All P rest → All P (register_move from to ++ rest)
  move-by true from to rest e h = rw e h
  move-by false from to rest e h = rw e (put _ rest tt h)

  move-uses : (from to : ℕ) (rest : List AsmItem) → All P rest → All P (register_move from to ++ rest)
  move-uses from to rest h = move-by (from == to) from to rest refl h

  transfer-uses : (s : FrameShape) (x : Transfer) (rest : List AsmItem) → All P rest → All P (transfer_items s x ++ rest)
  transfer-uses s (Store t r) rest h = frame-uses Stq 29 r (slot_at s t) rest h
  transfer-uses s (Load t r) rest h = frame-uses Ldq 29 r (slot_at s t) rest h
  transfer-uses s (Shift t from to) rest h = move-uses from to rest h

  transfers-use : (s : FrameShape) (xs : List Transfer) (rest : List AsmItem) → All P rest → All P (items_of_transfers s xs rest)
  transfers-use s [] rest h = h
  transfers-use s (x ∷ xs) rest h = transfer-uses s x (items_of_transfers s xs rest) (transfers-use s xs rest h)

  -- what is known of an instruction
  abbrev IsKnown : TempInsn → Type 0
  IsKnown x = GoesToBlocks targets_of (length a.function.blocks) x × ((f n : ℕ) → x ≡ i.Call f n → IsCalledAt a (function_label f))

  insn-uses : (rs : List ℕ) (x : TempInsn) (rest : List AsmItem) → IsKnown x → All P rest → All P (insn_items g rs x ++ rest)
  insn-uses rs (i.Address op d base plus) rest k h = put _ rest tt h
  insn-uses rs (i.ObjectAddress d (Global o) plus) rest k h = put _ rest tt h
  insn-uses rs (i.ObjectAddress d (Local o) plus) rest k h = frame-uses Lda 29 (slice_index rs 0) (frame_object_at g.shape o + plus) rest h
  insn-uses rs (i.Load op d p plus) rest k h = put _ rest tt h
  insn-uses rs (i.Store op v p plus) rest k h = put _ rest tt h
  insn-uses rs (i.Operate op d l r) rest k h = put _ rest tt h
  insn-uses rs (i.Extend op d s) rest k h = put _ rest tt h
  insn-uses rs (i.ToFixed r s) rest k h = move-uses (slice_index rs 0) (register_number r) rest h
  insn-uses rs (i.FromFixed d r) rest k h = move-uses (register_number r) (slice_index rs 0) rest h
  insn-uses rs (i.SetFixed r n) rest k h = put _ rest tt h
  insn-uses rs (i.WriteArgument n s) rest k h = frame-uses Stq 29 (slice_index rs 0) (argument_at n) rest h
  insn-uses rs (i.ReadArgument d n) rest k h = frame-uses Ldq 29 (slice_index rs 0) (frame_size g.shape + argument_at n) rest h
  insn-uses rs (i.Branch op s t) rest k h = let below = (k.0 0 t (omega arith)).1 in put _ rest (inl (omega arith, omega (arith, below))) h
  insn-uses rs (i.Jump t) rest k h = let below = (k.0 0 t (omega arith)).1 in put _ rest (inl (omega arith, omega (arith, below))) h
  insn-uses rs (i.Call f n) rest k h = put _ rest (inr (inr (k.1 f n refl))) h
  insn-uses rs (i.Divide r) rest k h = put _ rest (inr (inl (routine-label r))) h
  insn-uses rs (i.Serve s) rest k h = put _ rest tt h
  insn-uses rs (i.Return v) rest k h = put _ rest (inl (omega arith, omega arith)) h
  insn-uses rs i.Mark rest k h = h

  point-uses : (block at : ℕ) (x : TempInsn) (rest : List AsmItem) → IsKnown x → All P rest → All P (point_items a g block at x rest)
  point-uses block at x rest k h =
      let body = insn_items g (registers_at a block at) x ++ rest in
      transfers-use g.shape (transfers_at a block at) (items_of_transfers g.shape (jump_transfers a block x) body)
      (transfers-use g.shape (jump_transfers a block x) body (insn-uses (registers_at a block at) x rest k h))

  insns-use : (block at : ℕ) (insns : List TempInsn) (rest : List AsmItem) → ((k : ℕ) (x : TempInsn) → slice_get insns k ≡ Some x → IsKnown x) → All P rest → All P (insns_items a g block at insns rest)
  insns-use block at [] rest k h = h
  insns-use block at (x ∷ xs) rest k h =
      point-uses block at x (insns_items a g block (suc at) xs rest) (k 0 x refl) (insns-use block (suc at) xs rest (λ j y e. k (suc j) y e) h)

  block-uses : (block : ℕ) (insns : List TempInsn) (rest : List AsmItem) → ((k : ℕ) (x : TempInsn) → slice_get insns k ≡ Some x → IsKnown x) → All P rest → All P (block_items a g block insns rest)
  block-uses block insns rest k h =
      let behind = items_of_transfers g.shape (end_transfers a block insns) rest in
      transfers-use g.shape (top_transfers a block) (insns_items a g block 0 insns behind)
      (insns-use block 0 insns behind k (transfers-use g.shape (end_transfers a block insns) rest h))

  blocks-use : (block : ℕ) (blocks : List (List TempInsn)) (rest : List AsmItem) → ((b k : ℕ) (x : TempInsn) → insn_at blocks b k ≡ Some x → IsKnown x) → All P rest → All P (blocks_items a g block blocks rest)
  blocks-use block [] rest k h = h
  blocks-use block (insns ∷ blocks) rest k h =
      put (Label (g.block_label block)) (block_items a g block insns (blocks_items a g (suc block) blocks rest)) tt (block-uses block insns (blocks_items a g (suc block) blocks rest) (λ j x e. k 0 j x e)
      (blocks-use (suc block) blocks rest (λ b j x e. k (suc b) j x e) h))

  lower-by : (near : Bool) (size : ℕ) (rest : List AsmItem) → nat_lt size near_size ≡ near → All P rest → All P (lower_stack size rest)
  lower-by true size rest e h = rw e (put _ rest tt h)
  lower-by false size rest e h = rw e (two _ _ rest h)

  raise-by : (near : Bool) (size : ℕ) (rest : List AsmItem) → nat_lt size near_size ≡ near → All P rest → All P (raise_stack size rest)
  raise-by true size rest e h = rw e (put _ rest tt h)
  raise-by false size rest e h = rw e (two _ _ rest h)

  save-uses : (s : FrameShape) (saves : Bool) (r : ℕ) (rest : List AsmItem) → All P rest → All P (save_if s saves r rest)
  save-uses s true r rest h = frame-uses Stq 29 r (saved_at s r) rest h
  save-uses s false r rest h = h

  saves-use : (s : FrameShape) (saves : ℕ → Bool) (r count : ℕ) (rest : List AsmItem) → All P rest → All P (save_registers s saves r count rest)
  saves-use s saves r zero rest h = h
  saves-use s saves r (suc count) rest h = save-uses s (saves r) r (save_registers s saves (suc r) count rest) (saves-use s saves (suc r) count rest h)

  restore-uses : (s : FrameShape) (saves : Bool) (r : ℕ) (rest : List AsmItem) → All P rest → All P (restore_if s saves r rest)
  restore-uses s true r rest h = frame-uses Ldq 29 r (saved_at s r) rest h
  restore-uses s false r rest h = h

  restores-use : (s : FrameShape) (saves : ℕ → Bool) (r count : ℕ) (rest : List AsmItem) → All P rest → All P (restore_registers s saves r count rest)
  restores-use s saves r zero rest h = h
  restores-use s saves r (suc count) rest h = restore-uses s (saves r) r (restore_registers s saves (suc r) count rest) (restores-use s saves (suc r) count rest h)

  entry-uses : (s : FrameShape) (saves : ℕ → Bool) (rest : List AsmItem) → All P rest → All P (entry_part s saves rest)
  entry-uses s saves rest h =
      let kept = save_registers s saves 9 7 rest in
      lower-by (nat_lt (frame_size s) near_size) (frame_size s) (frame_store 26 (return_at s) ++ kept) refl
      (frame-uses Stq 29 26 (return_at s) kept (saves-use s saves 9 7 rest h))

  exit-uses : (s : FrameShape) (saves : ℕ → Bool) (rest : List AsmItem) → All P rest → All P (exit_part s saves rest)
  exit-uses s saves rest h =
      let back = Plain (Jump Ret 31 26) ∷ rest in
      let raised = raise_stack (frame_size s) back in
      restores-use s saves 9 7 (frame_load 26 (return_at s) ++ raised)
      (frame-uses Ldq 29 26 (return_at s) raised (raise-by (nat_lt (frame_size s) near_size) (frame_size s) back refl (put _ rest tt h)))

  known : AllInsns (GoesToBlocks targets_of (length a.function.blocks)) a.function.blocks → (b k : ℕ) (x : TempInsn) → insn_at a.function.blocks b k ≡ Some x → IsKnown x
  known goes b k x e = (goes-at (length a.function.blocks) a.function.blocks b k x goes e, λ f n is. record { block = b; at = k; function = f; arguments = n; call = e ∙ ap Some is; label_is = refl })

  pub function_uses_by : (number : ℕ) (rest : List AsmItem) → AllInsns (GoesToBlocks targets_of (length a.function.blocks)) a.function.blocks → All P rest → All P (function_items a g number rest)
  function_uses_by number rest goes h =
      put (Label (function_label number)) (entry_part g.shape g.shape.saves (blocks_items a g 0 a.function.blocks (exit_items g rest))) tt (entry-uses g.shape g.shape.saves (blocks_items a g 0 a.function.blocks (exit_items g rest))
      (blocks-use 0 a.function.blocks (exit_items g rest) (known goes) (put (Label g.exit_label) (exit_part g.shape g.shape.saves rest) tt (exit-uses g.shape g.shape.saves rest h))))

pub function_uses : (a : Plan) (globals : List DataObject) (first number : ℕ) (rest : List AsmItem) → AllInsns (GoesToBlocks targets_of (length a.function.blocks)) a.function.blocks → All (UsesOnly a first) rest
    → All (UsesOnly a first) (function_items a (setting_of a globals first) number rest)
function_uses a globals first number rest goes h = function_uses_by a globals first number rest goes h
