-- The pieces of the code of a `for`: its condition with the way back to the body, and its step.
use Rattle.std.proofs.Common.{◌≡◌, ℕ, suc, ◌≤◌, List, ◌∷◌, Bool, true, false, Option, Some, None, refl}
use Rattle.std.specs.Prelude.{slice_get}
use Rattle.mem_model.specs.Memory.{Memory}
use Rattle.mem_model.specs.Related.{Names}
use Rattle.c_typed_tree.specs.Expressions.{Expr, type_of}
use Rattle.c_semantics.specs.Runs.{CallState, Run, and_then, pure}
use Rattle.c_semantics.specs.Objects.{Scope}
use Rattle.c_semantics.specs.Operators.{test}
use Rattle.c_semantics.specs.Evaluates.{eval, choose}
use Rattle.c_semantics.specs.Executes.{StatementFlow, Goes, loop_condition, loop_step}
use Rattle.suifvm_ir.specs.declared.insn.VmBranchOp.TheVariants.{IfTrue}
use Rattle.suifvm_meaning.specs.Operations as vm
use Rattle.suifvm_meaning.specs.Behave.{Registers}
use Rattle.lowering_code.specs.declared.item.CodeItem.{CodeItem}
use Rattle.lowering_code.specs.declared.item.CodeItem.TheVariants.{Start, Again}
use Rattle.lowering_code.specs.Registers.{register_type, value_register}
use Rattle.lowering_code.specs.Statements.{after_code, test_code}
use Rattle.lowering_states.specs.Places.{CodePlace, next_block, start_of_block}
use Rattle.lowering_states.specs.Runs.{CodeObservation, finish}
use Rattle.lowering_states.specs.model.Opens.{opens}
use Rattle.lowering_states.proofs.Steps.{fall, jump, branch_taken, branch_passed}
use Rattle.lowering_states.proofs.States.{after_same}
use Rattle.lowering_states.proofs.LoweringExpressionPlaces.Behind.{at_start, left_expr}
use Rattle.lowering_expression_laws.specs.Parts.{Setting, first_depth, EndsSo, Stands, Fit, Aft}
use Rattle.lowering_expression_laws.specs.Laws.{IsScalarType}
use Rattle.lowering_expression_laws.proofs.Forms.{bound_run}
use Rattle.lowering_expression_laws.proofs.Choices.{holds_there, test_meets}
use Rattle.lowering_statement_laws.proofs.Behind.{at_again, at_repeat}
use Rattle.lowering_statement_laws.specs.lowering_for_laws.Laws.{StepMeets, ConditionMeets}

module _ (c : Setting) where
  -- a block begins with the items
  abbrev Begins : List ℕ → List CodeItem → Type 0
  Begins heads is = (block : ℕ) × Stands c heads (start_of_block block) is

  -- the condition closes the loop
  pub left_condition : (x : Option Expr) (head : ℕ) (heads : List ℕ) (rest : List CodeItem) → Begins (head ∷ heads) (test_code (first_depth c) c.structs c.locals x rest) → Begins heads rest
  left_condition None head heads rest h = (suc h.0, at_repeat c.code.blocks c.last c.end h.1)
  left_condition (Some x) head heads rest h =
      let a = left_expr c.code.blocks c.last c.end (first_depth c) c.structs c.locals x 0 (head ∷ heads) _ (record { place = start_of_block h.0; at = h.1 }) in
      (suc a.place.block, at_again c.code.blocks c.last c.end _ _ a.at)

  pub left_step : (x : Option Expr) (heads : List ℕ) (rest : List CodeItem) → Begins heads (after_code (first_depth c) c.structs c.locals x rest) → Begins heads rest
  left_step None heads rest h = h
  left_step (Some x) heads rest h =
      let a = left_expr c.code.blocks c.last c.end (first_depth c) c.structs c.locals x 0 heads _ (record { place = start_of_block h.0; at = h.1 }) in
      (suc a.place.block, at_start c.code.blocks c.last c.end a.at)

module _ (c : Setting) (found : slice_get c.functions c.number ≡ Some c.code) where
  abbrev L : ℕ
  L = first_depth c

  -- the step of a loop, and what comes behind it
  pub step_leads : (x : Option Expr) → StepMeets c x → (go : Run StatementFlow) (items : List CodeItem) (heads : List ℕ) (f : Names) (scope : Scope) (r : Registers) (s : CallState) (m : Memory) (K : StatementFlow → CallState → CodeObservation)
      → ((q : CodePlace) (g : Names) (t : CallState) (r1 : Registers) (m1 : Memory) → Stands c heads q items → Aft c f s m g t m1 → Fit c g scope r1 t m1 → EndsSo c (finish (go t) K) q r1 t.world m1)
      → (q : CodePlace) → Stands c heads q (after_code L c.structs c.locals x items) → Fit c f scope r s m → s.world.meter.turns ≤ c.level
      → EndsSo c (finish (and_then (loop_step c.structs c.locals c.calls scope x s) (λ _. go)) K) q r s.world m
  unfolding opens
  step_leads None hx go items heads f scope r s m K next q at fit low = next q f s r m at after_same fit
  step_leads (Some x) hx go items heads f scope r s m K next q at fit low =
      bound_run c found (and_then (eval c.structs c.locals c.calls scope x s) (λ _. pure tt)) (λ _. go) K q r s.world m
      (bound_run c found (eval c.structs c.locals c.calls scope x s) (λ _. pure tt) (λ _ t. finish (go t) K) q r s.world m
      (hx.by 0 (Start ∷ items) heads q f scope r s m (λ _ t. finish (go t) K) at fit low
      (λ q1 v g t r1 m1 at1 aft fit1 kept held stands.
      fall c.rooms c.functions c.number c.code found c.own c.waiting q1 r1 t.world m1 at1.has.0
      (next (next_block q1) g t r1 m1 (at_start c.code.blocks c.last c.end at1) aft fit1))))

  -- the condition of a loop: where it holds, or there is none, the next round begins
  module _ (go : Run StatementFlow) (rest : List CodeItem) (heads : List ℕ) (head : ℕ) (f : Names) (scope : Scope) (r : Registers) (s : CallState) (m : Memory) (K : StatementFlow → CallState → CodeObservation)
      (on_true : (g : Names) (t : CallState) (r1 : Registers) (m1 : Memory) → Aft c f s m g t m1 → Fit c g scope r1 t m1 → EndsSo c (finish (go t) K) (start_of_block head) r1 t.world m1)
      (on_false : (q : CodePlace) (g : Names) (t : CallState) (r1 : Registers) (m1 : Memory) → Stands c heads q rest → Aft c f s m g t m1 → Fit c g scope r1 t m1 → EndsSo c (K Goes t) q r1 t.world m1) where
    by_test : (x : Expr) → IsScalarType (type_of x) → (q : CodePlace) (g : Names) (t : CallState) (r1 : Registers) (m1 : Memory) (z : Bool) → Stands c (head ∷ heads) q (Again (register_type (type_of x)) (value_register L 0 (type_of x)) ∷ rest) → Aft c f s m g t m1 → Fit c g scope r1 t m1
        → vm.value_holds m1 (register_type (type_of x)) (r1 (value_register L 0 (type_of x))) ≡ Some z → EndsSo c (finish (choose go (pure Goes) z t) K) q r1 t.world m1
    unfolding opens
    by_test x scalar q g t r1 m1 false at aft fit holds =
        branch_passed c.rooms c.functions c.number c.code found c.own c.waiting IfTrue (register_type (type_of x)) (value_register L 0 (type_of x)) head false q r1 t.world m1 at.has.0 holds refl at.has.1
        (on_false (next_block q) g t r1 m1 (at_again c.code.blocks c.last c.end _ _ at) aft fit)
    by_test x scalar q g t r1 m1 true at aft fit holds =
        branch_taken c.rooms c.functions c.number c.code found c.own c.waiting IfTrue (register_type (type_of x)) (value_register L 0 (type_of x)) head true q r1 t.world m1 at.has.0 holds refl
        (on_true g t r1 m1 aft fit)

    pub condition_leads : (x : Option Expr) → ConditionMeets c x → (q : CodePlace) → Stands c (head ∷ heads) q (test_code L c.structs c.locals x rest) → Fit c f scope r s m → s.world.meter.turns ≤ c.level
        → EndsSo c (finish (and_then (loop_condition c.structs c.locals c.calls scope x s) (choose go (pure Goes))) K) q r s.world m
    unfolding opens
    condition_leads None hx q at fit low = jump c.rooms c.functions c.number c.code found c.own c.waiting head q r s.world m at.has.0 (on_true f s r m after_same fit)
    condition_leads (Some x) hx q at fit low =
        let reg = value_register L 0 (type_of x) in
        bound_run c found (and_then (eval c.structs c.locals c.calls scope x s) test) (choose go (pure Goes)) K q r s.world m
        (bound_run c found (eval c.structs c.locals c.calls scope x s) test (λ z t. finish (choose go (pure Goes) z t) K) q r s.world m
        (hx.1.by 0 (Again (register_type (type_of x)) reg ∷ rest) (head ∷ heads) q f scope r s m (λ v t. finish (test v t) (λ z t1. finish (choose go (pure Goes) z t1) K)) at fit low
        (λ q1 v g t r1 m1 at1 aft fit1 kept held stands.
        test_meets c found v t (λ z t1. finish (choose go (pure Goes) z t1) K) _ (λ z is.
        by_test x hx.0 q1 g t r1 m1 z at1 aft fit1 (holds_there g t.world.outer.memory m1 (type_of x) v (r1 reg) z hx.0 fit1.memory held stands is)))))
