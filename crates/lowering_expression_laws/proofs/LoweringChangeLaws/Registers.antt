-- Changes of what a register holds (C99 6.5.16.2, 6.5.2.4, 6.5.3.1): the right side of a compound assignment comes above
-- the old value, with which it is combined, and the result goes back to the local.
use Rattle.std.proofs.Common.{◌≡◌, ℕ, suc, ◌≤◌, ◌<◌, List, [], ◌∷◌, Bool, true, false, Some, length, refl, sym, ap, ◌∙◌, subst, arith}
use Rattle.std.specs.Prelude.{slice_get}
use Rattle.std.proofs.lemmas.Option.{slice_get_within}
use Rattle.mem_model.specs.declared.value.Value.{Value}
use Rattle.mem_model.specs.Memory.{Memory}
use Rattle.mem_model.specs.World.{outer_with_memory}
use Rattle.mem_model.specs.Related.{Names, IsValueOf}
use Rattle.c_tree.specs.declared.expressions.AssignOp.{AssignOp}
use Rattle.c_tree.specs.declared.expressions.UnaryOp.TheVariants as u
use Rattle.c_tree.specs.declared.expressions.StepOp.{StepOp}
use Rattle.c_tree.specs.declared.expressions.StepOp.TheVariants as step
use Rattle.c_tree.specs.declared.expressions.BinaryOp.{BinaryOp}
use Rattle.c_typed_tree.specs.declared.units.Local.{Local}
use Rattle.c_typed_tree.specs.Types.{PlainType}
use Rattle.c_typed_tree.specs.View.{type_view}
use Rattle.c_typed_tree.specs.Expressions.{Expr, Assign, Unary, Postfix, type_of}
use Rattle.c_typed_tree.specs.Expressions as e
use Rattle.c_semantics.specs.Reasons.{ReadsUnwritten, UsesNoValue}
use Rattle.c_semantics.specs.Runs.{CallState, Run, and_then, with_registers, with_local_value, use_value, pure, write_register}
use Rattle.c_semantics.specs.Objects as obj
use Rattle.c_semantics.specs.Objects.{Scope, as_held, write}
use Rattle.c_semantics.specs.Operators.{operator_of, combine, step_value}
use Rattle.c_semantics.specs.Evaluates.{eval, assign_value, update, new_value, old_value}
use Rattle.suifvm_ir.specs.declared.insn.VmUnaryOp.TheVariants.{Move}
use Rattle.suifvm_ir.specs.declared.insn.VmInsn.TheVariants as n
use Rattle.suifvm_meaning.specs.Operations as vm
use Rattle.suifvm_meaning.specs.Effect.{writes}
use Rattle.suifvm_meaning.specs.Behave.{Registers, set_register}
use Rattle.lowering_code.specs.declared.item.CodeItem.{CodeItem}
use Rattle.lowering_code.specs.Registers.{register_type, value_register}
use Rattle.lowering_code.specs.Expressions.{move_code, combine_code, stepped_code, step_register_code, step_memory_code, change_code, assign_code, register_if, plus_of, expr_code, place_code}
use Rattle.lowering_states.specs.Places.{CodePlace, next_place}
use Rattle.lowering_states.specs.Runs.{CodeObservation, finish}
use Rattle.lowering_states.specs.model.Opens.{opens}
use Rattle.lowering_states.specs.States.{IsHeld, IsInRegister, KeepsLower, type_at}
use Rattle.lowering_states.proofs.Steps.{meets_same, used_meets}
use Rattle.lowering_states.proofs.States.{set_same, set_other, temporary_past, kept_all, kept_on, kept_local, kept_temporary, kept_reads, is_in, is_at, after_same, fits_temporary, fits_local}
use Rattle.lowering_states.proofs.LoweringExpressionPlaces.Behind.{at_plain}
use Rattle.lowering_expression_laws.specs.Parts.{Setting, first_depth, EndsSo, Stands, Fit, Aft, Follows, ExprMeets}
use Rattle.lowering_expression_laws.specs.Laws.{IsScalarType}
use Rattle.lowering_expression_laws.proofs.Forms.{insn_on, bound_run}
use Rattle.lowering_expression_laws.proofs.LoweringAssignmentLaws.Locals.{moves, read_as, register_place, register_is}
use Rattle.lowering_expression_laws.proofs.LoweringAssignmentLaws.Assignments.{scalar_in}
use Rattle.lowering_expression_laws.proofs.LoweringChangeLaws.Combine.{kept_but, kept_set}
use Rattle.lowering_expression_laws.proofs.LoweringChangeLaws.Leads.{Leads, CombinesLead, StepsLead}

-- a state in which a value was put into a local
abbrev put_in : (k : ℕ) → Value → CallState → CallState
put_in k z u = with_registers u (with_local_value u.registers k z)

module _ (c : Setting) (found : slice_get c.functions c.number ≡ Some c.code) (ty : PlainType) (scalar : IsScalarType ty) (k : ℕ) (l : Local) (el : slice_get c.locals k ≡ Some l) (em : l.in_memory ≡ false) (et : type_view l.ty ≡ ty) where
  abbrev L : ℕ
  L = first_depth c

  -- the local is read into the register of a depth, and what it becomes is still to be found
  read_on : (d : ℕ) (rest : List CodeItem) (heads : List ℕ) (g : Names) (scope : Scope) (q1 : Registers) (u : CallState) (m1 : Memory) (K : Value → CallState → CodeObservation) (q : CodePlace) (change : Value → Run Value) (pick : Value → Value → Value)
      → Stands c heads q (move_code ty (value_register L d ty) k rest) → Fit c g scope q1 u m1
      → ((old w0 : Value) → IsHeld ty old → IsValueOf g old w0 → vm.is_set old ≡ true → Stands c heads (next_place q) rest → Fit c g scope (set_register (value_register L d ty) w0 q1) u m1
      → EndsSo c (finish (change old u) (λ w u1. finish (and_then (write c.structs ty (obj.Register k) w u1) (λ _. pure (pick old w))) K)) (next_place q) (set_register (value_register L d ty) w0 q1) u.world m1)
      → EndsSo c (finish (update c.structs ty change pick (obj.Register k) u) K) q q1 u.world m1
  unfolding opens
  read_on d rest heads g scope q1 u m1 K q change pick at fit next =
      let reg : ℕ = value_register L d ty in
      let within : k < length c.locals = slice_get_within c.locals k l el in
      let old : Value = u.registers k in
      let held : IsHeld ty old = subst (λ z. IsHeld z old) (ap type_at el ∙ et) (fit.held k) in
      let w0 : Value = q1 k in
      let rel = fit.locals k within in
      let put : Value → Value → Run Value = λ v z u1. and_then (write c.structs ty (obj.Register k) z u1) (λ _. pure (pick v z)) in
      let run : Value → Run Value = λ v u1. and_then (change v u1) (put v) in
      bound_run c found (and_then (use_value ReadsUnwritten old u) (as_held ty)) run K q q1 u.world m1
      (bound_run c found (use_value ReadsUnwritten old u) (as_held ty) (λ v u1. finish (run v u1) K) q q1 u.world m1
      (used_meets c.rooms c.functions ReadsUnwritten old u (λ v u1. finish (as_held ty v u1) (λ v2 u2. finish (run v2 u2) K)) _ (λ set.
      meets_same c.rooms c.functions (read_as ty old u (λ v u1. finish (run v u1) K) scalar held set)
      (insn_on c found (n.Unary Move (register_type ty) reg k) q q1 u.world m1 (w0 ∷ []) at.has.0 refl
      (ap (λ z. writes z (outer_with_memory u.world.outer m1)) (moves g ty old w0 scalar held rel set))
      (bound_run c found (change old u) (put old) K (next_place q) (set_register reg w0 q1) u.world m1
      (next old w0 held rel set (at_plain c.code.blocks c.last c.end _ at) (fits_temporary d (register_type ty) w0 fit)))))))

  -- the new value stands at a depth, and is put into the local; the registers of expressions stay
  write_on : (d o : ℕ) → d ≤ o → (rest : List CodeItem) (heads : List ℕ) (g : Names) (scope : Scope) (r r3 : Registers) (u : CallState) (m1 : Memory) (K : Value → CallState → CodeObservation) (q3 : CodePlace) (z v : Value)
      → Stands c heads q3 (move_code ty k (value_register L o ty) rest) → Fit c g scope r3 u m1 → KeepsLower L d r r3 → IsHeld ty z → IsInRegister g ty z (r3 (value_register L o ty))
      → ((q4 : CodePlace) (r4 : Registers) → Stands c heads q4 rest → Fit c g scope r4 (put_in k z u) m1 → KeepsLower L d r r4 → r4 (value_register L d ty) ≡ r3 (value_register L d ty) → EndsSo c (K v (put_in k z u)) q4 r4 u.world m1)
      → EndsSo c (finish (and_then (write c.structs ty (obj.Register k) z u) (λ _. pure v)) K) q3 r3 u.world m1
  unfolding opens
  write_on d o le rest heads g scope r r3 u m1 K q3 z v at fit kept held stands next =
      let reg : ℕ = value_register L o ty in
      let within : k < length c.locals = slice_get_within c.locals k l el in
      let rel : IsValueOf g z (r3 reg) = scalar_in g ty z (r3 reg) scalar stands in
      bound_run c found (and_then (use_value UsesNoValue z u) (write_register k)) (λ _. pure v) K q3 r3 u.world m1
      (bound_run c found (use_value UsesNoValue z u) (write_register k) (λ _ u1. K v u1) q3 r3 u.world m1
      (used_meets c.rooms c.functions UsesNoValue z u (λ v1 u1. K v (put_in k v1 u1)) _ (λ set.
      insn_on c found (n.Unary Move (register_type ty) k reg) q3 r3 u.world m1 (r3 reg ∷ []) at.has.0 refl
      (ap (λ x. writes x (outer_with_memory u.world.outer m1)) (moves g ty z (r3 reg) scalar held rel set))
      (next (next_place q3) (set_register k (r3 reg) r3) (at_plain c.code.blocks c.last c.end _ at)
      (fits_local k z (r3 reg) rel (subst (λ x. IsHeld x z) (sym (ap type_at el ∙ et)) held) fit) (kept_local k (r3 reg) within kept)
      (set_other r3 k (value_register L d ty) (r3 reg) (λ same. let past = temporary_past L d (register_type ty) in absurd (omega (arith, within, same, past))))))))

  -- the new value is the value
  changed_on : (d : ℕ) (rest : List CodeItem) (heads : List ℕ) (f g : Names) (scope : Scope) (r q1 : Registers) (s u : CallState) (m m1 : Memory) (K : Value → CallState → CodeObservation) (q : CodePlace) (change : Value → Run Value) (code : List CodeItem → List CodeItem)
      → Leads c heads g scope u m1 change code d d ty q1 → Stands c heads q (move_code ty (value_register L d ty) k (code (move_code ty k (value_register L d ty) rest))) → Aft c f s m g u m1 → Fit c g scope q1 u m1 → KeepsLower L d r q1
      → Follows c d ty heads rest f scope r s m K → EndsSo c (finish (update c.structs ty change new_value (obj.Register k) u) K) q q1 u.world m1
  unfolding opens
  changed_on d rest heads f g scope r q1 s u m m1 K q change code lead at aft fit kept next =
      let reg : ℕ = value_register L d ty in
      let tail : List CodeItem = move_code ty k reg rest in
      read_on d (code tail) heads g scope q1 u m1 K q change new_value at fit
      (λ old w0 held rel set at1 fit1.
      let q2 : Registers = set_register reg w0 q1 in
      lead tail (λ w u1. finish (and_then (write c.structs ty (obj.Register k) w u1) (λ _. pure w)) K) (next_place q) q2 old at1 fit1 (kept_set (register_type ty) w0 kept_but) held (is_at g ty old w0 q1 reg (is_in g ty old w0 rel))
      (λ q3 z r3 at3 fit3 kept3 heldz inz.
      write_on d d (omega arith) rest heads g scope q2 r3 u m1 K q3 z z at3 fit3 kept3 heldz inz
      (λ q4 r4 at4 fit4 kept4 same4.
      next q4 z g (put_in k z u) r4 m1 at4 aft fit4 (kept_on (omega arith) (kept_temporary d (register_type ty) w0 (omega arith) kept) kept4) heldz (subst (λ x. IsInRegister g ty z x) (sym same4) inz))))

  -- the old value is the value, and stays below
  behind_on : (sop : StepOp) → StepsLead c sop ty → (d : ℕ) (rest : List CodeItem) (heads : List ℕ) (f : Names) (scope : Scope) (r : Registers) (u : CallState) (m : Memory) (K : Value → CallState → CodeObservation) (q : CodePlace)
      → Stands c heads q (step_register_code L c.structs sop true d ty k rest) → Fit c f scope r u m → Follows c d ty heads rest f scope r u m K
      → EndsSo c (finish (update c.structs ty (step_value c.structs sop ty) old_value (obj.Register k) u) K) q r u.world m
  unfolding opens
  behind_on sop lead d rest heads f scope r u m K q at fit next =
      let reg : ℕ = value_register L d ty in
      let high : ℕ = value_register L (suc d) ty in
      let tail : List CodeItem = move_code ty k high rest in
      read_on d (move_code ty high reg (stepped_code L c.structs sop (suc d) ty tail)) heads f scope r u m K q (step_value c.structs sop ty) old_value at fit
      (λ old w0 held rel set at1 fit1.
      let q2 : Registers = set_register reg w0 r in
      let r2 : Registers = set_register high w0 q2 in
      let there : q2 reg ≡ w0 = set_same r reg w0 in
      insn_on c found (n.Unary Move (register_type ty) high reg) (next_place q) q2 u.world m (w0 ∷ []) at1.has.0 refl
      (ap (λ x. writes (vm.unary_answer Move (register_type ty) x) (outer_with_memory u.world.outer m)) there ∙ ap (λ x. writes x (outer_with_memory u.world.outer m)) (moves f ty old w0 scalar held rel set))
      (lead (suc d) heads f scope u m r2 tail (λ w u1. finish (and_then (write c.structs ty (obj.Register k) w u1) (λ _. pure old)) K) (next_place (next_place q)) r2 old (at_plain c.code.blocks c.last c.end _ at1)
      (fits_temporary (suc d) (register_type ty) w0 fit1) kept_but held (is_at f ty old w0 q2 high (is_in f ty old w0 rel))
      (λ q3 z r3 at3 fit3 kept3 heldz inz.
      write_on (suc d) (suc d) (omega arith) rest heads f scope r2 r3 u m K q3 z old at3 fit3 kept3 heldz inz
      (λ q4 r4 at4 fit4 kept4 same4.
      let stays : r4 reg ≡ w0 = kept_reads {e = suc d} d (register_type ty) (omega arith) (kept_on (omega arith) (kept_temporary (suc d) (register_type ty) w0 (omega arith) kept_all) kept4) ∙ there in
      next q4 old f (put_in k z u) r4 m at4 after_same fit4
      (kept_on (omega arith) (kept_temporary (suc d) (register_type ty) w0 (omega arith) (kept_temporary d (register_type ty) w0 (omega arith) kept_all)) kept4) held
      (subst (λ x. IsInRegister f ty old x) (sym stays) (is_in f ty old w0 rel))))))

  -- ---- forms

  abbrev here : Expr
  here = e.Local ty k

  in_register : (sop : StepOp) (postfix : Bool) (d : ℕ) (rest : List CodeItem)
      → change_code L c.structs c.locals (register_if L c.structs c.locals k (slice_get c.locals k)) (λ j. step_register_code L c.structs sop postfix d ty j rest)
      (place_code L c.structs c.locals d here 0 (step_memory_code L c.structs sop postfix d (plus_of L c.structs c.locals here 0) ty rest)) ≡ step_register_code L c.structs sop postfix d ty k rest
  in_register sop postfix d rest =
      ap (λ z. change_code L c.structs c.locals z (λ j. step_register_code L c.structs sop postfix d ty j rest)
      (place_code L c.structs c.locals d here 0 (step_memory_code L c.structs sop postfix d (plus_of L c.structs c.locals here 0) ty rest))) (register_is c found k l el em)

  pub assignments : (op : AssignOp) (o : BinaryOp) (right : PlainType) (y : Expr) → operator_of op ≡ Some o → type_of y ≡ right → CombinesLead c o ty right → ExprMeets c y → ExprMeets c (Assign ty op here y)
  unfolding opens
  assignments op o right y eo ey lead hy = record {
    by = λ d rest heads p1 f scope r s m K at fit low next.
        let reg : ℕ = value_register L d ty in
        let at_place : List CodeItem → List CodeItem = λ is. place_code L c.structs c.locals d here 0 is in
        let of_y : ℕ → List CodeItem → List CodeItem = λ j is. expr_code L c.structs c.locals j y is in
        let code_e =
        ap (λ z. assign_code L c.structs c.locals d z ty (type_of y) (plus_of L c.structs c.locals here 0) (register_if L c.structs c.locals k (slice_get c.locals k)) at_place of_y rest) eo
        ∙ ap (λ z. assign_code L c.structs c.locals d (Some o) ty (type_of y) (plus_of L c.structs c.locals here 0) z at_place of_y rest) (register_is c found k l el em)
        ∙ ap (λ z. of_y (suc d) (move_code ty reg k (combine_code L c.structs o d (suc d) (suc (suc d)) ty z (move_code ty k reg rest)))) ey in
        let tail : List CodeItem = move_code ty reg k (combine_code L c.structs o d (suc d) (suc (suc d)) ty right (move_code ty k reg rest)) in
        let run : Value → Run Value = λ v. assign_value c.structs ty right (Some o) (obj.Register k) v in
        meets_same c.rooms c.functions
        (ap (λ z. finish (and_then (z s) (λ q1 t1. and_then (eval c.structs c.locals c.calls scope y t1) (assign_value c.structs ty (type_of y) (operator_of op) q1))) K) (register_place c found k l scope el em)
        ∙ ap (λ z. finish (and_then (eval c.structs c.locals c.calls scope y s) (assign_value c.structs ty (type_of y) z (obj.Register k))) K) eo
        ∙ ap (λ z. finish (and_then (eval c.structs c.locals c.calls scope y s) (assign_value c.structs ty z (Some o) (obj.Register k))) K) ey)
        (bound_run c found (eval c.structs c.locals c.calls scope y s) run K p1 r s.world m
        (hy.by (suc d) tail heads p1 f scope r s m (λ v u1. finish (run v u1) K) (subst (λ z. Stands c heads p1 z) code_e at) fit low
        (λ q v g u1 q1 m1 at1 aft fit1 kept held stands.
        changed_on d rest heads f g scope r q1 s u1 m m1 K q (λ old. combine c.structs o ty right old v) (λ is. combine_code L c.structs o d (suc d) (suc (suc d)) ty right is)
        (lead d (suc d) (suc (suc d)) d (λ same. absurd (omega (arith, same))) (omega arith) (omega arith) (omega arith) heads g scope u1 m1 v q1 (subst (λ z. IsHeld z v) ey held) (subst (λ z. IsInRegister g z v (q1 (value_register L (suc d) z))) ey stands))
        at1 aft fit1 (kept_on (omega arith) kept_all kept) next)));
  }

  pub increments : StepsLead c step.Increment ty → ExprMeets c (Unary ty u.Increment here)
  unfolding opens
  increments lead = record {
    by = λ d rest heads p1 f scope r s m K at fit low next.
        let at1 = subst (λ z. Stands c heads p1 z) (in_register step.Increment false d rest) at in
        meets_same c.rooms c.functions (ap (λ z. finish (and_then (z s) (update c.structs ty (step_value c.structs step.Increment ty) new_value)) K) (register_place c found k l scope el em))
        (changed_on d rest heads f f scope r r s s m m K p1 (step_value c.structs step.Increment ty) (λ is. stepped_code L c.structs step.Increment d ty is) (lead d heads f scope s m r) at1 after_same fit kept_all next);
  }

  pub decrements : StepsLead c step.Decrement ty → ExprMeets c (Unary ty u.Decrement here)
  unfolding opens
  decrements lead = record {
    by = λ d rest heads p1 f scope r s m K at fit low next.
        let at1 = subst (λ z. Stands c heads p1 z) (in_register step.Decrement false d rest) at in
        meets_same c.rooms c.functions (ap (λ z. finish (and_then (z s) (update c.structs ty (step_value c.structs step.Decrement ty) new_value)) K) (register_place c found k l scope el em))
        (changed_on d rest heads f f scope r r s s m m K p1 (step_value c.structs step.Decrement ty) (λ is. stepped_code L c.structs step.Decrement d ty is) (lead d heads f scope s m r) at1 after_same fit kept_all next);
  }

  pub postfixes : (sop : StepOp) → StepsLead c sop ty → ExprMeets c (Postfix ty sop here)
  unfolding opens
  postfixes sop lead = record {
    by = λ d rest heads p1 f scope r s m K at fit low next.
        let at1 = subst (λ z. Stands c heads p1 z) (in_register sop true d rest) at in
        meets_same c.rooms c.functions (ap (λ z. finish (and_then (z s) (update c.structs ty (step_value c.structs sop ty) old_value)) K) (register_place c found k l scope el em))
        (behind_on sop lead d rest heads f scope r s m K p1 at1 fit next);
  }
