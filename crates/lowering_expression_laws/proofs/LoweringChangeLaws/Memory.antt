-- Changes of what stands in memory: its place comes to the depth, the old value is loaded above it, combined, stored, and
-- the value moved to the depth.
use Rattle.std.proofs.Common.{◌≡◌, ℕ, suc, ◌<◌, List, [], ◌∷◌, Bool, true, false, Some, None, refl, sym, ap, ◌∙◌, subst, arith, inl, inr}
use Rattle.std.specs.Prelude.{slice_get}
use Rattle.mem_model.specs.declared.value.Value.{Value}
use Rattle.mem_model.specs.declared.value.Value.TheVariants.{Word}
use Rattle.mem_model.specs.Memory.{Memory}
use Rattle.mem_model.specs.World.{outer_with_memory}
use Rattle.mem_model.specs.Related.{Names, IsValueOf}
use Rattle.mem_model.proofs.RelatedRows.{values_stay}
use Rattle.c_tree.specs.declared.expressions.AssignOp.{AssignOp}
use Rattle.c_tree.specs.declared.expressions.UnaryOp.TheVariants as u
use Rattle.c_tree.specs.declared.expressions.StepOp.{StepOp}
use Rattle.c_tree.specs.declared.expressions.StepOp.TheVariants as step
use Rattle.c_tree.specs.declared.expressions.BinaryOp.{BinaryOp}
use Rattle.c_typed_tree.specs.Types.{PlainType}
use Rattle.c_typed_tree.specs.Expressions.{Expr, Assign, Unary, Postfix, type_of}
use Rattle.c_semantics.specs.Runs.{CallState, Run, and_then, pure}
use Rattle.c_semantics.specs.Objects as obj
use Rattle.c_semantics.specs.Objects.{Scope, read_at, write_at}
use Rattle.c_semantics.specs.Operators.{operator_of, combine, step_value}
use Rattle.c_semantics.specs.Evaluates.{eval, place, assign_value, update, new_value, old_value}
use Rattle.suifvm_ir.specs.declared.types.VmType.TheVariants.{P64}
use Rattle.suifvm_ir.specs.declared.insn.VmUnaryOp.TheVariants.{Move}
use Rattle.suifvm_ir.specs.declared.insn.VmInsn.TheVariants as n
use Rattle.suifvm_meaning.specs.Operations as vm
use Rattle.suifvm_meaning.specs.Effect.{writes}
use Rattle.suifvm_meaning.specs.Behave.{Registers, set_register}
use Rattle.lowering_code.specs.declared.item.CodeItem.{CodeItem}
use Rattle.lowering_code.specs.Registers.{register_type, value_register, address_register}
use Rattle.lowering_code.specs.Expressions.{load_from, store_code, move_code, combine_code, combine_memory_code, stepped_code, step_register_code, step_memory_code, change_code, register_of, assign_code, expr_code, place_code}
use Rattle.lowering_states.specs.Places.{CodePlace, next_place}
use Rattle.lowering_states.specs.Runs.{CodeObservation, finish}
use Rattle.lowering_states.specs.model.Opens.{opens}
use Rattle.lowering_states.specs.States.{IsHeld, IsInRegister, KeepsLower}
use Rattle.lowering_states.proofs.Steps.{meets_same}
use Rattle.lowering_states.proofs.States.{set_same, set_other, other_depth, kept_all, kept_on, kept_temporary, kept_reads, is_in, is_at, after_on, fits_temporary}
use Rattle.lowering_states.specs.lowering_values.Laws.{IsMoved}
use Rattle.lowering_states.proofs.LoweringExpressionPlaces.Behind.{at_plain}
use Rattle.lowering_expression_laws.specs.Parts.{Setting, first_depth, EndsSo, Stands, Fit, Aft, Follows, ExprMeets}
use Rattle.lowering_expression_laws.specs.Laws.{IsScalarType}
use Rattle.lowering_expression_laws.proofs.Forms.{held_word, insn_on, bound_run}
use Rattle.lowering_expression_laws.specs.lowering_place_laws.Places.{left_of, PlaceMeets}
use Rattle.lowering_expression_laws.proofs.LoweringPlaceLaws.Accesses.{loads_lead, pointers_lead}
use Rattle.lowering_expression_laws.proofs.LoweringAccessLaws.Changes.{moved_stays}
use Rattle.lowering_expression_laws.proofs.LoweringAssignmentLaws.Locals.{moves}
use Rattle.lowering_expression_laws.proofs.LoweringAssignmentLaws.Assignments.{put_on}
use Rattle.lowering_expression_laws.proofs.LoweringChangeLaws.Combine.{kept_but, kept_set}
use Rattle.lowering_expression_laws.proofs.LoweringChangeLaws.Leads.{Leads, CombinesLead, StepsLead}

module _ (c : Setting) (found : slice_get c.functions c.number ≡ Some c.code) (ty : PlainType) (scalar : IsScalarType ty) where
  abbrev L : ℕ
  L = first_depth c

  -- a scalar is loaded to a register from where a pointer in another register leads
  scalars_lead : (to pointer left : ℕ) (rest : List CodeItem) (heads : List ℕ) (g : Names) (scope : Scope) (t : CallState) (m1 : Memory) (K : Value → CallState → CodeObservation) (q : CodePlace) (q1 : Registers) (base at : Value) → Fit c g scope q1 t m1
      → IsValueOf g base (q1 pointer) → IsMoved t.world.outer.memory base left at → Stands c heads q (load_from ty to pointer left rest)
      → ((v w : Value) → IsHeld ty v → vm.is_set v ≡ true → IsValueOf g v w → Stands c heads (next_place q) rest → EndsSo c (K v t) (next_place q) (set_register to w q1) t.world m1) → EndsSo c (finish (read_at ty at t) K) q q1 t.world m1
  scalars_lead to pointer left rest heads g scope t m1 K q q1 base at fit rel moved stands next = by_type scalar
    where
      by_type : IsScalarType ty → EndsSo c (finish (read_at ty at t) K) q q1 t.world m1
      by_type (inl i) =
          subst (λ z. Stands c heads q (load_from z to pointer left rest) → ((v w : Value) → IsHeld z v → vm.is_set v ≡ true → IsValueOf g v w → Stands c heads (next_place q) rest → EndsSo c (K v t) (next_place q) (set_register to w q1) t.world m1)
          → EndsSo c (finish (read_at z at t) K) q q1 t.world m1) (sym i.1)
          (λ stands1 next1. loads_lead c found i.0 to pointer left rest heads g scope t m1 K q q1 base at fit rel moved stands1 (λ k one at2. next1 (Word k) (Word k) (held_word i.0 k one) refl refl at2)) stands next
      by_type (inr p) =
          subst (λ z. Stands c heads q (load_from z to pointer left rest) → ((v w : Value) → IsHeld z v → vm.is_set v ≡ true → IsValueOf g v w → Stands c heads (next_place q) rest → EndsSo c (K v t) (next_place q) (set_register to w q1) t.world m1)
          → EndsSo c (finish (read_at z at t) K) q q1 t.world m1) (sym p.1)
          (λ stands1 next1. pointers_lead c found p.0 to pointer left rest heads g scope t m1 K q q1 base at fit rel moved stands1 next1) stands next

  -- the new value is the value: the old one is loaded to a depth above the place
  changed_on : (d o plus : ℕ) → d < o → (rest : List CodeItem) (heads : List ℕ) (f g : Names) (scope : Scope) (r r1 : Registers) (s t : CallState) (m m1 : Memory) (K : Value → CallState → CodeObservation) (q : CodePlace) (base at : Value) (change : Value → Run Value) (code : List CodeItem → List CodeItem)
      → Leads c heads g scope t m1 change code o (suc d) ty r1
      → Stands c heads q (load_from ty (value_register L o ty) (address_register L d) plus (code (store_code ty (address_register L d) plus (value_register L o ty) (move_code ty (value_register L d ty) (value_register L o ty) rest))))
      → Aft c f s m g t m1 → Fit c g scope r1 t m1 → KeepsLower L d r r1 → IsValueOf g base (r1 (address_register L d)) → IsMoved t.world.outer.memory base plus at → Follows c d ty heads rest f scope r s m K
      → EndsSo c (finish (update c.structs ty change new_value (obj.At at) t) K) q r1 t.world m1
  unfolding opens
  changed_on d o plus above rest heads f g scope r r1 s t m m1 K q base at change code lead stands aft fit kept rel moved next =
      let reg : ℕ = value_register L o ty in
      let tail : List CodeItem = store_code ty (address_register L d) plus reg (move_code ty (value_register L d ty) reg rest) in
      let put : Value → Run Value = λ w u1. and_then (write_at c.structs ty at w u1) (λ _. pure w) in
      let run : Value → Run Value = λ old u1. and_then (change old u1) put in
      bound_run c found (read_at ty at t) run K q r1 t.world m1
      (scalars_lead reg (address_register L d) plus (code tail) heads g scope t m1 (λ old u1. finish (run old u1) K) q r1 base at fit rel moved stands
      (λ old w held set relw at2.
      let r2 : Registers = set_register reg w r1 in
      let low : r2 (address_register L d) ≡ r1 (address_register L d) = set_other r1 reg (address_register L d) w (λ same. other_depth L d o P64 (register_type ty) above same) in
      bound_run c found (change old t) put K (next_place q) r2 t.world m1
      (lead tail (λ w1 u1. finish (put w1 u1) K) (next_place q) r2 old at2 (fits_temporary o (register_type ty) w fit) (kept_set (register_type ty) w kept_but) held (is_at g ty old w r1 reg (is_in g ty old w relw))
      (λ q3 z r3 at3 fit3 kept3 heldz inz.
      let same_base : r3 (address_register L d) ≡ r1 (address_register L d) = kept_reads {e = suc d} d P64 (omega arith) kept3 ∙ low in
      put_on c found ty scalar d o o plus rest heads f g scope r r3 s t m m1 K q3 base at z z at3 aft fit3 (kept_on (omega arith) (kept_temporary o (register_type ty) w (omega (arith, above)) kept) kept3) heldz inz heldz inz (λ is. is)
      (subst (λ x. IsValueOf g base x) (sym same_base) rel) moved next))))

  -- the old value is the value
  behind_on : (sop : StepOp) → StepsLead c sop ty → (d plus : ℕ) (rest : List CodeItem) (heads : List ℕ) (f g : Names) (scope : Scope) (r r1 : Registers) (s t : CallState) (m m1 : Memory) (K : Value → CallState → CodeObservation) (q : CodePlace) (base at : Value)
      → Stands c heads q (step_memory_code L c.structs sop true d plus ty rest) → Aft c f s m g t m1 → Fit c g scope r1 t m1 → KeepsLower L d r r1
      → IsValueOf g base (r1 (address_register L d)) → IsMoved t.world.outer.memory base plus at → Follows c d ty heads rest f scope r s m K
      → EndsSo c (finish (update c.structs ty (step_value c.structs sop ty) old_value (obj.At at) t) K) q r1 t.world m1
  unfolding opens
  behind_on sop lead d plus rest heads f g scope r r1 s t m m1 K q base at stands aft fit kept rel moved next =
      let e : ℕ = suc d in
      let o : ℕ = suc (suc d) in
      let reg : ℕ = value_register L e ty in
      let high : ℕ = value_register L o ty in
      let tail : List CodeItem = store_code ty (address_register L d) plus high (move_code ty (value_register L d ty) reg rest) in
      let change : Value → Run Value = step_value c.structs sop ty in
      let put : Value → Value → Run Value = λ old w u1. and_then (write_at c.structs ty at w u1) (λ _. pure old) in
      let run : Value → Run Value = λ old u1. and_then (change old u1) (put old) in
      bound_run c found (read_at ty at t) run K q r1 t.world m1
      (scalars_lead reg (address_register L d) plus (move_code ty high reg (stepped_code L c.structs sop o ty tail)) heads g scope t m1 (λ old u1. finish (run old u1) K) q r1 base at fit rel moved stands
      (λ old w held set relw at2.
      let r2 : Registers = set_register reg w r1 in
      let r3 : Registers = set_register high w r2 in
      let there : r2 reg ≡ w = set_same r1 reg w in
      let kept1 : KeepsLower L (suc d) r1 r2 = kept_temporary e (register_type ty) w (omega arith) kept_all in
      let kept2 : KeepsLower L (suc (suc d)) r2 r3 = kept_temporary o (register_type ty) w (omega arith) kept_all in
      bound_run c found (change old t) (put old) K (next_place q) r2 t.world m1
      (insn_on c found (n.Unary Move (register_type ty) high reg) (next_place q) r2 t.world m1 (w ∷ []) at2.has.0 refl
      (ap (λ x. writes (vm.unary_answer Move (register_type ty) x) (outer_with_memory t.world.outer m1)) there ∙ ap (λ x. writes x (outer_with_memory t.world.outer m1)) (moves g ty old w scalar held relw set))
      (lead o heads g scope t m1 r3 tail (λ w1 u1. finish (put old w1 u1) K) (next_place (next_place q)) r3 old (at_plain c.code.blocks c.last c.end _ at2)
      (fits_temporary o (register_type ty) w (fits_temporary e (register_type ty) w fit)) kept_but held (is_at g ty old w r2 high (is_in g ty old w relw))
      (λ q4 z r4 at4 fit4 kept4 heldz inz.
      let kept5 : KeepsLower L (suc (suc d)) r2 r4 = kept_on (omega arith) kept2 kept4 in
      let same_base : r4 (address_register L d) ≡ r1 (address_register L d) = kept_reads {e = suc (suc d)} d P64 (omega arith) kept5 ∙ kept_reads {e = suc d} d P64 (omega arith) kept1 in
      let stays : r4 reg ≡ w = kept_reads {e = suc (suc d)} (suc d) (register_type ty) (omega arith) kept5 ∙ there in
      put_on c found ty scalar d o e plus rest heads f g scope r r4 s t m m1 K q4 base at z old at4 aft fit4 (kept_on (omega arith) (kept_on (omega arith) kept kept1) kept5) heldz inz held
      (subst (λ x. IsInRegister g ty old x) (sym stays) (is_in g ty old w relw)) (λ _. set) (subst (λ x. IsValueOf g base x) (sym same_base) rel) moved next)))))

  -- ---- forms

  pub assignments : (op : AssignOp) (o : BinaryOp) (right : PlainType) (x y : Expr) → operator_of op ≡ Some o → register_of L c.structs c.locals x ≡ None → type_of y ≡ right → CombinesLead c o ty right → PlaceMeets c x → ExprMeets c y → ExprMeets c (Assign ty op x y)
  unfolding opens
  assignments op o right x y eo none ey lead hx hy = record {
    by = λ d rest heads p1 f scope r s m K at fit low next.
        let plus : ℕ = left_of c x 0 in
        let tail : List CodeItem = combine_memory_code L c.structs o d plus ty right rest in
        let at_place : List CodeItem → List CodeItem = λ is. place_code L c.structs c.locals d x 0 is in
        let of_y : ℕ → List CodeItem → List CodeItem = λ j is. expr_code L c.structs c.locals j y is in
        let code_e =
        ap (λ z. assign_code L c.structs c.locals d z ty (type_of y) plus (register_of L c.structs c.locals x) at_place of_y rest) eo
        ∙ ap (λ z. assign_code L c.structs c.locals d (Some o) ty (type_of y) plus z at_place of_y rest) none
        ∙ ap (λ z. at_place (of_y (suc d) (combine_memory_code L c.structs o d plus ty z rest))) ey in
        let run : obj.ValuePlace → Run Value = λ z t. and_then (eval c.structs c.locals c.calls scope y t) (assign_value c.structs ty right (Some o) z) in
        meets_same c.rooms c.functions
        (ap (λ v. finish (and_then (place c.structs c.locals c.calls scope x s) (λ z t. and_then (eval c.structs c.locals c.calls scope y t) (assign_value c.structs ty (type_of y) v z))) K) eo
        ∙ ap (λ v. finish (and_then (place c.structs c.locals c.calls scope x s) (λ z t. and_then (eval c.structs c.locals c.calls scope y t) (assign_value c.structs ty v (Some o) z))) K) ey)
        (bound_run c found (place c.structs c.locals c.calls scope x s) run K p1 r s.world m
        (hx.by d 0 (of_y (suc d) tail) heads p1 f scope r s m (λ z t. finish (run z t) K) (omega arith) (omega arith) (subst (λ z. Stands c heads p1 z) code_e at) fit low
        (λ q base there g t q1 m1 at1 aft fit1 kept held stands small is_base.
        bound_run c found (eval c.structs c.locals c.calls scope y t) (assign_value c.structs ty right (Some o) (obj.At there)) K q q1 t.world m1
        (hy.by (suc d) tail heads q g scope q1 t m1 (λ v u1. finish (assign_value c.structs ty right (Some o) (obj.At there) v u1) K) at1 fit1 (omega (arith, aft.turned, low))
        (λ q2 v h u1 q3 m2 at2 aft2 fit2 kept2 held2 stands2.
        let same_base : q3 (address_register L d) ≡ q1 (address_register L d) = kept_reads {e = suc d} d P64 (omega arith) kept2 in
        let base_rel : IsValueOf h base (q3 (address_register L d)) = subst (λ z. IsValueOf h base z) (sym same_base) (values_stay g h base (q1 (address_register L d)) aft2.names stands) in
        let moved = moved_stays g h t.world.outer.memory m1 u1.world.outer.memory m2 t.world.meter.turns u1.world.meter.turns base there plus aft2 (is_base there (inl (refl, refl))) in
        changed_on d (suc (suc d)) plus (omega arith) rest heads f h scope r q3 s u1 m m2 K q2 base there (λ old. combine c.structs o ty right old v) (λ is. combine_code L c.structs o (suc (suc d)) (suc d) (suc (suc (suc d))) ty right is)
        (lead (suc (suc d)) (suc d) (suc (suc (suc d))) (suc d) (λ same. absurd (omega (arith, same))) (omega arith) (omega arith) (omega arith) heads h scope u1 m2 v q3 (subst (λ z. IsHeld z v) ey held2) (subst (λ z. IsInRegister h z v (q3 (value_register L (suc d) z))) ey stands2))
        at2 (after_on aft aft2) fit2 (kept_on (omega arith) kept kept2) base_rel moved next)))));
  }

  module _ (x : Expr) (none : register_of L c.structs c.locals x ≡ None) (hx : PlaceMeets c x) where
    in_memory : (sop : StepOp) (postfix : Bool) (d : ℕ) (rest : List CodeItem)
        → change_code L c.structs c.locals (register_of L c.structs c.locals x) (λ j. step_register_code L c.structs sop postfix d ty j rest) (place_code L c.structs c.locals d x 0 (step_memory_code L c.structs sop postfix d (left_of c x 0) ty rest))
        ≡ place_code L c.structs c.locals d x 0 (step_memory_code L c.structs sop postfix d (left_of c x 0) ty rest)
    in_memory sop postfix d rest = ap (λ z. change_code L c.structs c.locals z (λ j. step_register_code L c.structs sop postfix d ty j rest) (place_code L c.structs c.locals d x 0 (step_memory_code L c.structs sop postfix d (left_of c x 0) ty rest))) none

    pub increments : StepsLead c step.Increment ty → ExprMeets c (Unary ty u.Increment x)
    unfolding opens
    increments lead = record {
      by = λ d rest heads p1 f scope r s m K at fit low next.
          let plus : ℕ = left_of c x 0 in
          let run : obj.ValuePlace → Run Value = update c.structs ty (step_value c.structs step.Increment ty) new_value in
          bound_run c found (place c.structs c.locals c.calls scope x s) run K p1 r s.world m
          (hx.by d 0 (step_memory_code L c.structs step.Increment false d plus ty rest) heads p1 f scope r s m (λ z t. finish (run z t) K) (omega arith) (omega arith) (subst (λ z. Stands c heads p1 z) (in_memory step.Increment false d rest) at) fit low
          (λ q base there g t q1 m1 at1 aft fit1 kept held stands small is_base.
          changed_on d (suc d) plus (omega arith) rest heads f g scope r q1 s t m m1 K q base there (step_value c.structs step.Increment ty) (λ is. stepped_code L c.structs step.Increment (suc d) ty is) (lead (suc d) heads g scope t m1 q1)
          at1 aft fit1 kept stands (is_base there (inl (refl, refl))) next));
    }

    pub decrements : StepsLead c step.Decrement ty → ExprMeets c (Unary ty u.Decrement x)
    unfolding opens
    decrements lead = record {
      by = λ d rest heads p1 f scope r s m K at fit low next.
          let plus : ℕ = left_of c x 0 in
          let run : obj.ValuePlace → Run Value = update c.structs ty (step_value c.structs step.Decrement ty) new_value in
          bound_run c found (place c.structs c.locals c.calls scope x s) run K p1 r s.world m
          (hx.by d 0 (step_memory_code L c.structs step.Decrement false d plus ty rest) heads p1 f scope r s m (λ z t. finish (run z t) K) (omega arith) (omega arith) (subst (λ z. Stands c heads p1 z) (in_memory step.Decrement false d rest) at) fit low
          (λ q base there g t q1 m1 at1 aft fit1 kept held stands small is_base.
          changed_on d (suc d) plus (omega arith) rest heads f g scope r q1 s t m m1 K q base there (step_value c.structs step.Decrement ty) (λ is. stepped_code L c.structs step.Decrement (suc d) ty is) (lead (suc d) heads g scope t m1 q1)
          at1 aft fit1 kept stands (is_base there (inl (refl, refl))) next));
    }

    pub postfixes : (sop : StepOp) → StepsLead c sop ty → ExprMeets c (Postfix ty sop x)
    unfolding opens
    postfixes sop lead = record {
      by = λ d rest heads p1 f scope r s m K at fit low next.
          let plus : ℕ = left_of c x 0 in
          let run : obj.ValuePlace → Run Value = update c.structs ty (step_value c.structs sop ty) old_value in
          bound_run c found (place c.structs c.locals c.calls scope x s) run K p1 r s.world m
          (hx.by d 0 (step_memory_code L c.structs sop true d plus ty rest) heads p1 f scope r s m (λ z t. finish (run z t) K) (omega arith) (omega arith) (subst (λ z. Stands c heads p1 z) (in_memory sop true d rest) at) fit low
          (λ q base there g t q1 m1 at1 aft fit1 kept held stands small is_base.
          behind_on sop lead d plus rest heads f g scope r q1 s t m m1 K q base there at1 aft fit1 kept stands (is_base there (inl (refl, refl))) next));
    }
