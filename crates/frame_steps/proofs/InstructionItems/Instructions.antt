-- What the machine does at the items of each instruction that is no call: each kind with its registers.
use Rattle.std.proofs.Common.{◌≡◌, ℕ, ◌+◌, ◌≤◌, true, List, [], ◌∷◌, ◌++◌, map, length, Some, refl, sym, subst, inl, inr}
use Rattle.std.specs.Prelude.{nat_lt}
use Rattle.alpha_isa.specs.declared.insn.Operand.TheVariants as isa
use Rattle.alpha_isa.specs.Program.{Program}
use Rattle.alpha_isa.specs.State.{State}
use Rattle.alpha_items.specs.declared.item.AsmItem.{AsmItem}
use Rattle.frame_steps.specs.item_steps.Standing.{Labels}
use Rattle.mem_model.specs.World.{Outer}
use Rattle.temp_ir.specs.declared.operation.Service.TheVariants as service
use Rattle.temp_ir.specs.declared.insn.FirstOperand.TheVariants as source
use Rattle.temp_ir.specs.declared.insn.SecondOperand.TheVariants as operand
use Rattle.temp_ir.specs.declared.insn.TempInsn.{TempInsn}
use Rattle.temp_ir.specs.declared.insn.TempInsn.TheVariants as i
use Rattle.temp_ir.specs.Fixed.{register_number}
use Rattle.alloc_model.specs.Contents.{word_content, moved_bytes, moved_content, loaded_content, stored_memory, branch_test}
use Rattle.alloc_model.specs.Effect.{does, holds_number}
use Rattle.alloc_model.specs.Places.{Places, Reg, In, places_read_at}
use Rattle.frame_memory.specs.Machine.{memory_bytes}
use Rattle.frame_memory.specs.flat_frames.Shapes.{frame_size, argument_at}
use Rattle.frame_steps.specs.frame_accesses.Items.{frame_load}
use Rattle.frame_steps.proofs.FrameAccesses.Runs.{stays}
use Rattle.frame_steps.proofs.FrameTransfers.Runs.{kept-same}
use Rattle.frame_steps.specs.frame_transfers.Laws.{CallAt, FitsTheStack, StandsFor}
use Rattle.frame_steps.specs.instruction_items.Items.{ItemSetting, insn_items}
use Rattle.frame_steps.specs.instruction_items.Laws.{is_usable, AllMayHold, IsStated, IsThere, ArgumentsAre, HasOuter, IsAtLabel, ActIsDone, is_no_call, store_behind}
use Rattle.frame_steps.proofs.InstructionItems.Runs.{fixed-holds, nothing-ended, set-done, no-registers, one-register, two-registers, three-registers, address-done, move-done, object-done, load-done, store-done, operate-done, extend-done, write-argument-done, read-argument-done, branch-done, jumps_are_done, unwritten_once}
use Rattle.frame_steps.proofs.InstructionItems.Services.{put-byte-done, take-byte-done, end-service-done, trap-done}

module _ (p : Program) (there : Labels) (g : ItemSetting) (rest : List AsmItem) (end : ℕ) (c : CallAt) (o : Outer) (store : Places) (s : State) (call : FitsTheStack c) (shape : g.shape ≡ c.shape) (args : ArgumentsAre c store (memory_bytes p s)) (outer : HasOuter o s) (widest : ℕ) (le : widest ≤ c.shape.outgoing + 6) where
  -- an instruction with registers does what it does
  abbrev Does : TempInsn → List ℕ → Type 0
  Does x rs = AllMayHold c.shape rs → IsThere p g c x → StandsFor p there (insn_items g rs x ++ rest) end c o.memory is_usable store s → ActIsDone p there g rest end c (store_behind rs x store) x s (does widest x c.own (map store (places_read_at rs x)) o)

  none : (x : TempInsn) (rs : List ℕ) → length rs ≡ 0 → Does x [] → Does x rs
  none x rs e d = subst (Does x) (sym (no-registers rs e)) d

  one : (x : TempInsn) (rs : List ℕ) → length rs ≡ 1 → ((a : ℕ) → Does x (a ∷ [])) → Does x rs
  one x rs e d = let r = one-register rs e in subst (Does x) (sym r.1) (d r.0)

  two : (x : TempInsn) (rs : List ℕ) → length rs ≡ 2 → ((a b : ℕ) → Does x (a ∷ b ∷ [])) → Does x rs
  two x rs e d = let r = two-registers rs e in subst (Does x) (sym r.2) (d r.0 r.1)

  three : (x : TempInsn) (rs : List ℕ) → length rs ≡ 3 → ((a b f : ℕ) → Does x (a ∷ b ∷ f ∷ [])) → Does x rs
  three x rs e d = let r = three-registers rs e in subst (Does x) (sym r.3) (d r.0 r.1 r.2)

  insn-done : (x : TempInsn) (rs : List ℕ) → is_no_call x ≡ true → IsStated c.shape rs x → Does x rs
  insn-done (i.Address op d source.Zero plus) rs plain st = one (i.Address op d source.Zero plus) rs st.count (λ a u is h.
      address-done p there g rest end c o store s call shape args outer op d source.Zero plus (a ∷ []) 31 a (word_content 0) refl u.0 (inr (refl, refl)) h (moved_content o.memory (word_content 0) (moved_bytes op plus)) refl)
  insn-done (i.Address op d (source.Temp t) plus) rs plain st = two (i.Address op d (source.Temp t) plus) rs st.count (λ a b u is h.
      address-done p there g rest end c o store s call shape args outer op d (source.Temp t) plus (a ∷ b ∷ []) a b (store (Reg a)) refl u.1.0 (inl (u.0.usable_one, refl)) h (moved_content o.memory (store (Reg a)) (moved_bytes op plus)) refl)
  insn-done (i.ObjectAddress d place plus) rs plain st = one (i.ObjectAddress d place plus) rs st.count (λ a u is h.
      object-done p there g rest end c o store s call shape args outer d place plus a u.0 is h)
  insn-done (i.Load op d pointer plus) rs plain st = two (i.Load op d pointer plus) rs st.count (λ a b u is h.
      load-done p there g rest end c o store s call shape args outer op d pointer plus a b u.0 u.1.0 h (loaded_content o.memory op (store (Reg a)) plus) refl)
  insn-done (i.Store op source.Zero pointer plus) rs plain st = one (i.Store op source.Zero pointer plus) rs st.count (λ a u is h.
      store-done p there g rest end c o store s call shape args outer op source.Zero pointer plus (a ∷ []) 31 a (word_content 0) refl (inr (refl, refl)) u.0 h (stored_memory o.memory op (word_content 0) (store (Reg a)) plus) refl)
  insn-done (i.Store op (source.Temp t) pointer plus) rs plain st = two (i.Store op (source.Temp t) pointer plus) rs st.count (λ a b u is h.
      store-done p there g rest end c o store s call shape args outer op (source.Temp t) pointer plus (a ∷ b ∷ []) a b (store (Reg a)) refl (inl (u.0.usable_one, refl)) u.1.0 h (stored_memory o.memory op (store (Reg a)) (store (Reg b)) plus) refl)
  insn-done (i.Operate op d source.Zero (operand.Temp k)) rs plain st = two (i.Operate op d source.Zero (operand.Temp k)) rs st.count (λ a b u is h.
      operate-done p there g rest end c o store s call shape args outer op d source.Zero (operand.Temp k) (a ∷ b ∷ []) 31 b (isa.Reg a) (word_content 0) (store (Reg a)) refl u.1.0 (inr (refl, refl)) (inl (u.0.usable_one, refl)) h)
  insn-done (i.Operate op d source.Zero (operand.Literal n)) rs plain st = one (i.Operate op d source.Zero (operand.Literal n)) rs st.count (λ a u is h.
      operate-done p there g rest end c o store s call shape args outer op d source.Zero (operand.Literal n) (a ∷ []) 31 a (isa.Literal n) (word_content 0) (word_content n) refl u.0 (inr (refl, refl)) (is, refl) h)
  insn-done (i.Operate op d (source.Temp t) (operand.Temp k)) rs plain st = three (i.Operate op d (source.Temp t) (operand.Temp k)) rs st.count (λ a b f u is h.
      operate-done p there g rest end c o store s call shape args outer op d (source.Temp t) (operand.Temp k) (a ∷ b ∷ f ∷ []) a f (isa.Reg b) (store (Reg a)) (store (Reg b)) refl u.1.1.0 (inl (u.0.usable_one, refl)) (inl (u.1.0.usable_one, refl)) h)
  insn-done (i.Operate op d (source.Temp t) (operand.Literal n)) rs plain st = two (i.Operate op d (source.Temp t) (operand.Literal n)) rs st.count (λ a b u is h.
      operate-done p there g rest end c o store s call shape args outer op d (source.Temp t) (operand.Literal n) (a ∷ b ∷ []) a b (isa.Literal n) (store (Reg a)) (word_content n) refl u.1.0 (inl (u.0.usable_one, refl)) (is, refl) h)
  insn-done (i.Extend op d (operand.Temp k)) rs plain st = two (i.Extend op d (operand.Temp k)) rs st.count (λ a b u is h.
      extend-done p there g rest end c o store s call shape args outer op d (operand.Temp k) (a ∷ b ∷ []) b (isa.Reg a) (store (Reg a)) refl u.1.0 (inl (u.0.usable_one, refl)) h)
  insn-done (i.Extend op d (operand.Literal n)) rs plain st = one (i.Extend op d (operand.Literal n)) rs st.count (λ a u is h.
      extend-done p there g rest end c o store s call shape args outer op d (operand.Literal n) (a ∷ []) a (isa.Literal n) (word_content n) refl u.0 (is, refl) h)
  insn-done (i.ToFixed register t) rs plain st = one (i.ToFixed register t) rs st.count (λ a u is h.
      move-done p there g rest end c o store s call shape args outer (a ∷ []) (i.ToFixed register t) a (register_number register) refl refl refl u.0 (fixed-holds c.shape register) h)
  insn-done (i.FromFixed d register) rs plain st = one (i.FromFixed d register) rs st.count (λ a u is h.
      move-done p there g rest end c o store s call shape args outer (a ∷ []) (i.FromFixed d register) (register_number register) a refl refl refl (fixed-holds c.shape register) u.0 h)
  insn-done (i.SetFixed register number) rs plain st = none (i.SetFixed register number) rs st.count (λ u is h.
      set-done p there g rest end c o store s call shape args outer register number is h)
  insn-done (i.WriteArgument number t) rs plain st = one (i.WriteArgument number t) rs st.count (λ a u is h.
      write-argument-done p there g rest end c o store s call shape args outer widest number t a le u.0 h (nat_lt (number + 6) widest) refl)
  insn-done (i.ReadArgument d number) rs plain st = one (i.ReadArgument d number) rs st.count (λ a u is h.
      read-argument-done p there g rest end c o store s call shape args outer d number a u.0 (subst (λ z. StandsFor p there (frame_load a (frame_size z + argument_at number) ++ rest) end c o.memory is_usable store s) shape h) (store (In number)) refl (args number))
  insn-done (i.Branch op t block) rs plain st = one (i.Branch op t block) rs st.count (λ a u is h.
      branch-done p there g rest end c o store s call shape args outer op t block a u.0 h (branch_test op o.memory (store (Reg a))) refl)
  insn-done (i.Jump block) rs plain st = none (i.Jump block) rs st.count (λ u is h b e.
      let d = jumps_are_done p there rest end c o store s outer (g.block_label block) h in
      subst (λ held. IsAtLabel p there rest end (g.block_label b) c o held s) (sym (nothing-ended (i.Jump block) store refl refl))
      (subst (λ k. IsAtLabel p there rest end (g.block_label k) c o store s) (same-block block b e) d))
    where
      same-block : (block b : ℕ) → Some block ≡ Some b → block ≡ b
      same-block block b e = cc
  insn-done (i.Call function arguments) rs plain st = absurd (cc)
  insn-done (i.Divide routine) rs plain st = absurd (cc)
  insn-done (i.Serve service.End) rs plain st = none (i.Serve service.End) rs st.count (λ u is h.
      end-service-done p there g rest end c o store s outer h (holds_number 1 (store (Reg 0))) refl)
  insn-done (i.Serve service.PutByte) rs plain st = none (i.Serve service.PutByte) rs st.count (λ u is h.
      put-byte-done p there g rest end c o store s outer h (holds_number 2 (store (Reg 0))) refl)
  insn-done (i.Serve service.GetByte) rs plain st = none (i.Serve service.GetByte) rs st.count (λ u is h.
      take-byte-done p there g rest end c o store s outer h (holds_number 3 (store (Reg 0))) refl)
  insn-done (i.Serve service.Trap) rs plain st = none (i.Serve service.Trap) rs st.count (λ u is h.
      trap-done p there g rest end c o store s outer h (store (Reg 16)) refl)
  insn-done (i.Return with_value) rs plain st = absurd (cc)
  insn-done i.Mark rs plain st = none i.Mark rs st.count (λ u is h.
      unwritten_once p there g rest end c o store s call shape args outer [] i.Mark o refl refl refl
      (record { to = s; comes = stays p s; stands = h; outer = outer; kept = kept-same p c s s (λ y. refl) refl (λ q from to e. refl) }))

pub instructions_are_done : (p : Program) (there : Labels) (g : ItemSetting) (rest : List AsmItem) (end : ℕ) (c : CallAt) (o : Outer) (store : Places) (s : State) → FitsTheStack c → g.shape ≡ c.shape → ArgumentsAre c store (memory_bytes p s) → HasOuter o s → (widest : ℕ) → widest ≤ c.shape.outgoing + 6 → (registers : List ℕ) (x : TempInsn) → is_no_call x ≡ true → IsStated c.shape registers x → IsThere p g c x → StandsFor p there (insn_items g registers x ++ rest) end c o.memory is_usable store s → ActIsDone p there g rest end c (store_behind registers x store) x s (does widest x c.own (map store (places_read_at registers x)) o)
instructions_are_done p there g rest end c o store s call shape args outer widest le registers x plain st is h =
    insn-done p there g rest end c o store s call shape args outer widest le x registers plain st st.may_hold is h
