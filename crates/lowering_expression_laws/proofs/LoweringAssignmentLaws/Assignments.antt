-- The code of assignments of scalars.
use Rattle.std.proofs.Common.{◌≡◌, ℕ, suc, ◌<◌, List, [], ◌∷◌, Bool, true, false, Some, None, length, refl, sym, ap, ◌∙◌, subst, arith, inl, inr}
use Rattle.std.specs.Prelude.{slice_get}
use Rattle.std.proofs.lemmas.Option.{slice_get_within}
use Rattle.mem_model.specs.declared.value.Value.{Value}
use Rattle.mem_model.specs.declared.value.Value.TheVariants.{Word, Address, Unset}
use Rattle.mem_model.specs.Memory.{Memory}
use Rattle.mem_model.specs.World.{outer_with_memory}
use Rattle.mem_model.specs.Related.{Names, IsValueOf}
use Rattle.mem_model.proofs.RelatedRows.{values_stay}
use Rattle.c_tree.specs.declared.expressions.AssignOp.TheVariants as a
use Rattle.c_typed_tree.specs.declared.units.Local.{Local}
use Rattle.c_typed_tree.specs.Types.{PlainType}
use Rattle.c_typed_tree.specs.View.{type_view}
use Rattle.c_typed_tree.specs.Expressions.{Expr, Assign, type_of}
use Rattle.c_typed_tree.specs.Expressions as e
use Rattle.c_semantics.specs.Reasons.{UsesNoValue}
use Rattle.c_semantics.specs.Runs.{CallState, Run, and_then, with_registers, with_local_value, use_value, pure, write_register}
use Rattle.c_semantics.specs.Objects as obj
use Rattle.c_semantics.specs.Objects.{Scope, access, write, write_at}
use Rattle.c_semantics.specs.Evaluates.{eval, place, assign_value, assignment_value}
use Rattle.suifvm_ir.specs.declared.types.VmType.TheVariants.{P64}
use Rattle.suifvm_ir.specs.declared.insn.VmUnaryOp.TheVariants.{Move}
use Rattle.suifvm_ir.specs.declared.insn.VmInsn.TheVariants as n
use Rattle.suifvm_meaning.specs.Operations as vm
use Rattle.suifvm_meaning.specs.Effect.{writes}
use Rattle.suifvm_meaning.specs.Behave.{Registers, set_register}
use Rattle.lowering_code.specs.declared.item.CodeItem.{CodeItem}
use Rattle.lowering_code.specs.Registers.{register_type, value_register, address_register}
use Rattle.lowering_code.specs.Expressions.{store_code, move_code, set_scalar_code, register_of, assign_code, plus_of, expr_code, place_code}
use Rattle.lowering_states.specs.Places.{CodePlace, next_place}
use Rattle.lowering_states.specs.Runs.{CodeObservation, NotDefined, finish}
use Rattle.lowering_states.specs.model.Opens.{opens}
use Rattle.lowering_states.specs.States.{IsHeld, IsInRegister, KeepsLower, type_at}
use Rattle.lowering_states.proofs.Steps.{meets_anything, meets_same, used_meets}
use Rattle.lowering_states.proofs.States.{set_other, temporary_past, kept_on, kept_local, kept_temporary, kept_reads, is_at, after_on, fits_temporary, fits_local}
use Rattle.lowering_states.specs.lowering_values.Laws.{IsMoved}
use Rattle.lowering_states.proofs.LoweringExpressionPlaces.Behind.{at_plain}
use Rattle.lowering_expression_laws.specs.Parts.{Setting, first_depth, EndsSo, Stands, Fit, Aft, Follows, ExprMeets}
use Rattle.lowering_expression_laws.specs.Laws.{IsScalarType}
use Rattle.lowering_expression_laws.proofs.Forms.{insn_on, bound_run}
use Rattle.lowering_expression_laws.specs.lowering_place_laws.Places.{left_of, PlaceMeets}
use Rattle.lowering_expression_laws.proofs.LoweringAccessLaws.Changes.{moved_stays}
use Rattle.lowering_expression_laws.proofs.LoweringAccessLaws.Writes.{writes_meet}
use Rattle.lowering_expression_laws.proofs.LoweringAssignmentLaws.Locals.{moves, register_place, register_is}

-- a value of a scalar type stands as what it is
pub scalar_in : (f : Names) (ty : PlainType) (v w : Value) → IsScalarType ty → IsInRegister f ty v w → IsValueOf f v w
scalar_in f ty v w (inl t) h = subst (λ z. IsInRegister f z v w) t.1 h
scalar_in f ty v w (inr t) h = subst (λ z. IsInRegister f z v w) t.1 h

-- the value of an assignment to a register
assigned_value : (ty : PlainType) (k : ℕ) (v : Value) → IsScalarType ty → assignment_value ty (obj.Register k) v ≡ v
assigned_value ty k v (inl t) = ap (λ z. assignment_value z (obj.Register k) v) t.1
assigned_value ty k v (inr t) = ap (λ z. assignment_value z (obj.Register k) v) t.1

module _ (c : Setting) (found : slice_get c.functions c.number ≡ Some c.code) where
  abbrev L : ℕ
  L = first_depth c

  pub registers : (ty : PlainType) (k : ℕ) (l : Local) (y : Expr) → slice_get c.locals k ≡ Some l → l.in_memory ≡ false → type_view l.ty ≡ ty → IsScalarType ty → type_of y ≡ ty → ExprMeets c y → ExprMeets c (Assign ty a.Set (e.Local ty k) y)
  unfolding opens
  registers ty k l y el em et scalar ey hy = record {
    by = λ d rest heads p1 f scope r s m K at fit low next.
        let reg = value_register L d ty in
        let within : k < length c.locals = slice_get_within c.locals k l el in
        let code_e = ap (λ z. assign_code L c.structs c.locals d None ty (type_of y) (plus_of L c.structs c.locals (e.Local ty k) 0) z (λ is. place_code L c.structs c.locals d (e.Local ty k) 0 is) (λ j is. expr_code L c.structs c.locals j y is) rest) (register_is c found k l el em) in
        let run : Value → Run Value = λ v. assign_value c.structs ty (type_of y) None (obj.Register k) v in
        meets_same c.rooms c.functions (ap (λ z. finish (and_then (z s) (λ q1 t. and_then (eval c.structs c.locals c.calls scope y t) (assign_value c.structs ty (type_of y) None q1))) K) (register_place c found k l scope el em))
        (bound_run c found (eval c.structs c.locals c.calls scope y s) run K p1 r s.world m
        (hy.by d (move_code ty k reg rest) heads p1 f scope r s m (λ v t. finish (run v t) K) (subst (λ z. Stands c heads p1 z) code_e at) fit low
        (λ q v g t q1 m1 at1 aft fit1 kept held stands.
        let held1 : IsHeld ty v = subst (λ z. IsHeld z v) ey held in
        let stands1 : IsInRegister g ty v (q1 reg) = subst (λ z. IsInRegister g z v (q1 (value_register L d z))) ey stands in
        let rel = scalar_in g ty v (q1 reg) scalar stands1 in
        let t1 : CallState = with_registers t (with_local_value t.registers k v) in
        bound_run c found (and_then (use_value UsesNoValue v t) (write_register k)) (λ _. pure (assignment_value ty (obj.Register k) v)) K q q1 t.world m1
        (bound_run c found (use_value UsesNoValue v t) (write_register k) (λ _ u. K (assignment_value ty (obj.Register k) v) u) q q1 t.world m1
        (used_meets c.rooms c.functions UsesNoValue v t (λ v1 u. K (assignment_value ty (obj.Register k) v) (with_registers u (with_local_value u.registers k v1))) _ (λ set.
        meets_same c.rooms c.functions (ap (λ z. K z t1) (assigned_value ty k v scalar))
        (insn_on c found (n.Unary Move (register_type ty) k reg) q q1 t.world m1 (q1 reg ∷ []) at1.has.0 refl
        (ap (λ z. writes z (outer_with_memory t.world.outer m1)) (moves g ty v (q1 reg) scalar held1 rel set))
        (next (next_place q) v g t1 (set_register k (q1 reg) q1) m1 (at_plain c.code.blocks c.last c.end _ at1) aft
        (fits_local k v (q1 reg) rel (subst (λ z. IsHeld z v) (sym (ap type_at el ∙ et)) held1) fit1) (kept_local k (q1 reg) within kept) held1
        (subst (λ z. IsInRegister g ty v z) (sym (set_other q1 k reg (q1 reg) (λ same. let past = temporary_past L d (register_type ty) in absurd (omega (arith, within, same, past))))) stands1)))))))));
  }

  -- ---- to memory

  -- a value that is not set ends the run
  unset_write : (ty : PlainType) (at z v : Value) (t : CallState) (K : Value → CallState → CodeObservation) → IsScalarType ty → vm.is_set z ≡ false → finish (and_then (write_at c.structs ty at z t) (λ _. pure v)) K ≡ NotDefined
  unfolding opens
  unset_write ty at (Word k) v t K scalar e = absurd (cc)
  unset_write ty at (Address k) v t K scalar e = absurd (cc)
  unset_write ty at Unset v t K (inl x) e = ap (λ z. finish (and_then (write_at c.structs z at Unset t) (λ _. pure v)) K) x.1
  unset_write ty at Unset v t K (inr x) e = ap (λ z. finish (and_then (write_at c.structs z at Unset t) (λ _. pure v)) K) x.1

  -- a value that stands at one depth is stored, and one at another one is moved to the depth of the place
  pub put_on : (ty : PlainType) → IsScalarType ty → (d o e plus : ℕ) (rest : List CodeItem) (heads : List ℕ) (f g : Names) (scope : Scope) (r r1 : Registers) (s t : CallState) (m m1 : Memory) (K : Value → CallState → CodeObservation) (q : CodePlace) (base at z v : Value)
      → Stands c heads q (store_code ty (address_register L d) plus (value_register L o ty) (move_code ty (value_register L d ty) (value_register L e ty) rest))
      → Aft c f s m g t m1 → Fit c g scope r1 t m1 → KeepsLower L d r r1 → IsHeld ty z → IsInRegister g ty z (r1 (value_register L o ty)) → IsHeld ty v → IsInRegister g ty v (r1 (value_register L e ty)) → (vm.is_set z ≡ true → vm.is_set v ≡ true)
      → IsValueOf g base (r1 (address_register L d)) → IsMoved t.world.outer.memory base plus at → Follows c d ty heads rest f scope r s m K
      → EndsSo c (finish (and_then (write_at c.structs ty at z t) (λ _. pure v)) K) q r1 t.world m1
  unfolding opens
  put_on ty scalar d o e plus rest heads f g scope r r1 s t m m1 K q base at z v stands aft fit kept heldz inz heldv inv sets rel moved next = by_set (vm.is_set z) refl
    where
      from : ℕ
      from = value_register L e ty

      by_set : (x : Bool) → vm.is_set z ≡ x → EndsSo c (finish (and_then (write_at c.structs ty at z t) (λ _. pure v)) K) q r1 t.world m1
      by_set false none = meets_anything c.rooms c.functions (unset_write ty at z v t K scalar none)
      by_set true set =
          bound_run c found (write_at c.structs ty at z t) (λ _. pure v) K q r1 t.world m1
          ((writes_meet c found).scalars ty scalar (address_register L d) plus (value_register L o ty) (move_code ty (value_register L d ty) from rest) heads q base at z g scope r1 t m1 (λ _ u1. K v u1) stands fit
          heldz (scalar_in g ty z (r1 (value_register L o ty)) scalar inz) rel moved
          (λ u1 n1 at1 aft1 fit1.
          insn_on c found (n.Unary Move (register_type ty) (value_register L d ty) from) (next_place q) r1 u1.world n1 (r1 from ∷ []) at1.has.0 refl
          (ap (λ x. writes x (outer_with_memory u1.world.outer n1)) (moves g ty v (r1 from) scalar heldv (scalar_in g ty v (r1 from) scalar inv) (sets set)))
          (next (next_place (next_place q)) v g u1 (set_register (value_register L d ty) (r1 from) r1) n1 (at_plain c.code.blocks c.last c.end _ at1) (after_on aft aft1) (fits_temporary d (register_type ty) (r1 from) fit1)
          (kept_temporary d (register_type ty) (r1 from) (omega arith) kept) heldv (is_at g ty v (r1 from) r1 (value_register L d ty) inv))))

  -- the code, and the value, of an assignment of a scalar to memory
  scalar_code : (ty right : PlainType) (d left : ℕ) (place : List CodeItem → List CodeItem) (value : ℕ → List CodeItem → List CodeItem) (rest : List CodeItem) → IsScalarType ty
      → assign_code L c.structs c.locals d None ty right left None place value rest ≡ place (value (suc d) (set_scalar_code L d left ty rest))
  scalar_code ty right d left place value rest (inl x) =
      subst (λ z. assign_code L c.structs c.locals d None z right left None place value rest ≡ place (value (suc d) (set_scalar_code L d left z rest))) (sym x.1) refl
  scalar_code ty right d left place value rest (inr x) =
      subst (λ z. assign_code L c.structs c.locals d None z right left None place value rest ≡ place (value (suc d) (set_scalar_code L d left z rest))) (sym x.1) refl

  put_value : (ty : PlainType) (at v : Value) → IsScalarType ty → assignment_value ty (obj.At at) v ≡ v
  put_value ty at v (inl x) = ap (λ z. assignment_value z (obj.At at) v) x.1
  put_value ty at v (inr x) = ap (λ z. assignment_value z (obj.At at) v) x.1

  pub objects : (ty : PlainType) (x y : Expr) → register_of L c.structs c.locals x ≡ None → IsScalarType ty → type_of y ≡ ty → PlaceMeets c x → ExprMeets c y → ExprMeets c (Assign ty a.Set x y)
  unfolding opens
  objects ty x y none scalar ey hx hy = record {
    by = λ d rest heads p1 f scope r s m K at fit low next.
        let left = left_of c x 0 in
        let tail = set_scalar_code L d left ty rest in
        let code_e =
        ap (λ z. assign_code L c.structs c.locals d None ty (type_of y) left z (λ is. place_code L c.structs c.locals d x 0 is) (λ j is. expr_code L c.structs c.locals j y is) rest) none
        ∙ scalar_code ty (type_of y) d left (λ is. place_code L c.structs c.locals d x 0 is) (λ j is. expr_code L c.structs c.locals j y is) rest scalar in
        let run : obj.ValuePlace → Run Value = λ z t. and_then (eval c.structs c.locals c.calls scope y t) (assign_value c.structs ty (type_of y) None z) in
        bound_run c found (place c.structs c.locals c.calls scope x s) run K p1 r s.world m
        (hx.by d 0 (expr_code L c.structs c.locals (suc d) y tail) heads p1 f scope r s m (λ z t. finish (run z t) K) (omega arith) (omega arith) (subst (λ z. Stands c heads p1 z) code_e at) fit low
        (λ q base place g t q1 m1 at1 aft fit1 kept held stands small is_base.
        bound_run c found (eval c.structs c.locals c.calls scope y t) (assign_value c.structs ty (type_of y) None (obj.At place)) K q q1 t.world m1
        (hy.by (suc d) tail heads q g scope q1 t m1 (λ v u. finish (assign_value c.structs ty (type_of y) None (obj.At place) v u) K) at1 fit1 (omega (arith, aft.turned, low))
        (λ q2 v h u q3 m2 at2 aft2 fit2 kept2 held2 stands2.
        let held3 : IsHeld ty v = subst (λ z. IsHeld z v) ey held2 in
        let stands3 : IsInRegister h ty v (q3 (value_register L (suc d) ty)) = subst (λ z. IsInRegister h z v (q3 (value_register L (suc d) z))) ey stands2 in
        let same_base : q3 (address_register L d) ≡ q1 (address_register L d) = kept_reads d P64 (omega arith) kept2 in
        let base_rel : IsValueOf h base (q3 (address_register L d)) = subst (λ z. IsValueOf h base z) (sym same_base) (values_stay g h base (q1 (address_register L d)) aft2.names stands) in
        let moved = moved_stays g h t.world.outer.memory m1 u.world.outer.memory m2 t.world.meter.turns u.world.meter.turns base place left aft2 (is_base place (inl (refl, refl))) in
        meets_same c.rooms c.functions (ap (λ z. finish (and_then (write_at c.structs ty place v u) (λ _. pure z)) K) (put_value ty place v scalar))
        (put_on ty scalar d (suc d) (suc d) left rest heads f h scope r q3 s u m m2 K q2 base place v v at2 (after_on aft aft2) fit2 (kept_on (omega arith) kept kept2) held3 stands3 held3 stands3 (λ is. is) base_rel moved next)))));
  }
