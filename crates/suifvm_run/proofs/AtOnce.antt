-- Instructions on words that are done at once.
use Rattle.std.proofs.Common.{◌≡◌, ℕ, [], ◌∷◌, ◌+◌, Bool, true, false, Option, Some, None, refl, sym, ap, ◌∙◌, subst}
use Rattle.std.specs.Prelude.{slice_get}
use Rattle.std.specs.Bool.{OnTrue}
use Rattle.mem_model.specs.declared.value.Value.{Value}
use Rattle.mem_model.specs.declared.value.Value.TheVariants.{Word}
use Rattle.machine_model.specs.Code.{Jumps}
use Rattle.machine_model.specs.Machine.{Goes}
use Rattle.suifvm_ir.specs.declared.insn.VmInsn.{VmInsn}
use Rattle.suifvm_ir.specs.declared.insn.VmInsn.TheVariants.{Jump, Mark}
use Rattle.suifvm_ir.specs.declared.insn.VmBranchOp.{VmBranchOp}
use Rattle.suifvm_ir.specs.Insns.{writes_of, targets_of}
use Rattle.suifvm_meaning.specs.declared.answer.Answer.{Answer}
use Rattle.suifvm_meaning.specs.declared.answer.Answer.TheVariants.{Gives}
use Rattle.suifvm_meaning.specs.Effect.{takes_turn, writes, is_branch_taken, branches}
use Rattle.suifvm_machine.specs.declared.machine.Machine.{Machine}
use Rattle.suifvm_machine.specs.declared.machine.StepResult.TheVariants as turn
use Rattle.suifvm_machine.specs.Config.{IsSound, TurnIs, Wrote, step_there, config_of, world_in}
use Rattle.suifvm_machine.specs.model.Acts.{act_there, at_block}
use Rattle.suifvm_machine.specs.Tables.{block_insns}
use Rattle.suifvm_machine.proofs.Turns.{give_value, turn_as}
use Rattle.suifvm_machine.proofs.Effects.{branch_taken, jumped_turn, done_as, done_there, step_plain, step_past}

-- what follows from what holds where a test is true
pub where_done : (done : Bool) (A B : Type 0) → (A → B) → OnTrue done A → OnTrue done B
where_done true A B f a = f a
where_done false A B f a = a

module _ (m new : Machine) (done : Bool) where
  -- what an instruction does that writes an answer into a register
  abbrev pub Gave : (d : ℕ) → Answer → Type 0
  Gave d answer = (i : VmInsn) → writes_of i ≡ d ∷ [] → TurnIs m new turn.Goes (λ rooms h. act_there rooms m h i (writes answer (world_in m h).outer))

  pub gave_value : (answer : Answer) (d : ℕ) (v : Value) → answer ≡ Gives v → OnTrue done (Wrote m new (d ∷ []) v) → OnTrue done (Gave d answer)
  gave_value answer d v is w =
      where_done done (Wrote m new (d ∷ []) v) (Gave d answer) (λ w i written. give_value m new d v answer i is w written) w

  pub gave_constant : (answer : Answer) (d n : ℕ) → answer ≡ Gives (Word n) → OnTrue done (Wrote m new (d ∷ []) (Word n)) → OnTrue done (Gave d answer)
  gave_constant answer d n is w = gave_value answer d (Word n) is w

  -- an answer that is known otherwise
  pub gave_as : (f : Value → Answer) (d : ℕ) (answer : Answer) (v x : Value) → answer ≡ f v → v ≡ x → OnTrue done (Gave d answer) → OnTrue done (Gave d (f x))
  gave_as f d answer v x is first t = subst (λ a. OnTrue done (Gave d a)) (is ∙ ap f first) t

  pub gave_both_as : (f : Value → Value → Answer) (d : ℕ) (answer : Answer) (v x w y : Value) → answer ≡ f v w → v ≡ x → w ≡ y → OnTrue done (Gave d answer) → OnTrue done (Gave d (f x y))
  gave_both_as f d answer v x w y is first second t = subst (λ a. OnTrue done (Gave d a)) (is ∙ ap (λ z. f z w) first ∙ ap (f x) second) t

  -- an answer from one value, which is known, or from two
  pub gave_one : (f : Value → Answer) (d n : ℕ) (v x : Value) → v ≡ x → f v ≡ Gives (Word n) → OnTrue done (Wrote m new (d ∷ []) (Word n)) → OnTrue done (Gave d (f x))
  gave_one f d n v x first is w = gave_constant (f x) d n (ap f (sym first) ∙ is) w

  pub gave_two : (f : Value → Value → Answer) (d n : ℕ) (v x w y : Value) → v ≡ x → w ≡ y → f v w ≡ Gives (Word n) → OnTrue done (Wrote m new (d ∷ []) (Word n)) → OnTrue done (Gave d (f x y))
  gave_two f d n v x w y first second is k =
      gave_constant (f x y) d n (ap (λ z. f z y) (sym first) ∙ ap (f v) (sym second) ∙ is) k

  abbrev pub BranchIsTaken : VmBranchOp → Option Bool → (block : ℕ) → Type 0
  BranchIsTaken op test block = (i : VmInsn) → targets_of i ≡ block ∷ [] → writes_of i ≡ [] → TurnIs m new turn.Goes (λ rooms h. act_there rooms m h i (branches op test (world_in m h).outer))

  abbrev pub JumpIsTaken : (block : ℕ) → Type 0
  JumpIsTaken block = TurnIs m new turn.Goes (λ rooms h. Goes (at_block block (config_of m h)))

  pub branched_there : (op : VmBranchOp) (b : Bool) (block : ℕ) → is_branch_taken op b ≡ true → OnTrue done (JumpIsTaken block) → OnTrue done (BranchIsTaken op (Some b) block)
  branched_there op b block taken t =
      where_done done (JumpIsTaken block) (BranchIsTaken op (Some b) block) (λ t i target none. branch_taken m new turn.Goes i op (Some b) b block refl taken target none t) t

  pub branched_on : (op : VmBranchOp) (b : Bool) (test : Option Bool) (block : ℕ) → test ≡ Some b → OnTrue done (BranchIsTaken op (Some b) block) → OnTrue done (BranchIsTaken op test block)
  branched_on op b test block is t =
      where_done done (BranchIsTaken op (Some b) block) (BranchIsTaken op test block) (λ t i target none.
      turn_as m new turn.Goes (λ rooms h. act_there rooms m h i (branches op (Some b) (world_in m h).outer)) (λ rooms h. act_there rooms m h i (branches op test (world_in m h).outer))
      (λ rooms h. ap (λ o. act_there rooms m h i (branches op o (world_in m h).outer)) (sym is)) (t i target none)) t

  abbrev pub StepIsTaken : Type 0
  StepIsTaken = TurnIs m new turn.Goes (λ rooms h. step_there rooms m h)

  abbrev pub Is : VmInsn → Type 0
  Is insn = slice_get (block_insns m.here.row.now) m.here.at ≡ Some insn

  -- a step of an instruction that takes no turn
  pub stepped_turn : (A : Type 0) (insn : VmInsn) → IsSound m → takes_turn insn ≡ false → (A → TurnIs m new turn.Goes (λ rooms h. done_there rooms m h insn)) → OnTrue done A → OnTrue done (Is insn → StepIsTaken)
  stepped_turn A insn sound plain f a =
      where_done done A (Is insn → StepIsTaken) (λ a there. step_plain m sound new turn.Goes insn there plain (f a)) a

  pub stepped_jump : (insn : VmInsn) (block : ℕ) → IsSound m → insn ≡ Jump block → OnTrue done (JumpIsTaken block) → OnTrue done (Is insn → StepIsTaken)
  stepped_jump insn block sound is t =
      stepped_turn (JumpIsTaken block) insn sound (ap takes_turn is) (λ t.
      done_as m new turn.Goes insn (Jump block) (λ o. Jumps 0 o) is (λ o same. refl) (jumped_turn m new turn.Goes (Jump block) block refl refl t)) t

  pub stepped_mark : (insn : VmInsn) → insn ≡ Mark → OnTrue done (Is Mark → StepIsTaken) → OnTrue done (Is insn → StepIsTaken)
  stepped_mark insn is t = where_done done (Is Mark → StepIsTaken) (Is insn → StepIsTaken) (λ t there. t (there ∙ ap (λ i. Some i) is)) t

  pub stepped_past : (block : ℕ) → IsSound m → slice_get (block_insns m.here.row.now) m.here.at ≡ None → block ≡ m.here.block + 1 → OnTrue done (JumpIsTaken block) → OnTrue done StepIsTaken
  stepped_past block sound past next t =
      where_done done (JumpIsTaken block) StepIsTaken (λ t. step_past m sound new turn.Goes block past next t) t
