-- The code of arrays that become pointers, and of assignments of structs.
use Rattle.std.proofs.Common.{◌≡◌, ◌≤◌, ℕ, suc, List, Some, None, refl, sym, ap, subst, arith, inl}
use Rattle.std.specs.Prelude.{slice_get}
use Rattle.mem_model.specs.declared.value.Value.{Value}
use Rattle.mem_model.specs.declared.value.Value.TheVariants.{Word, Address, Unset}
use Rattle.mem_model.specs.Memory.{Memory}
use Rattle.mem_model.specs.Related.{Names, IsValueOf}
use Rattle.mem_model.proofs.RelatedRows.{values_stay}
use Rattle.c_tree.specs.declared.expressions.AssignOp.TheVariants as a
use Rattle.c_typed_tree.specs.Types.{PlainType, Void, Pointer, Array, Struct}
use Rattle.c_typed_tree.specs.Expressions.{Expr, Assign, Cast, Convert, type_of}
use Rattle.c_semantics.specs.Runs.{CallState, Run, and_then, pure}
use Rattle.c_semantics.specs.Objects as obj
use Rattle.c_semantics.specs.Objects.{Scope, place_pointer, write_at}
use Rattle.c_semantics.specs.Evaluates.{eval, place, assign_value, converted_from}
use Rattle.suifvm_ir.specs.declared.types.VmType.TheVariants.{P64}
use Rattle.suifvm_meaning.specs.Behave.{Registers}
use Rattle.lowering_code.specs.declared.item.CodeItem.{CodeItem}
use Rattle.lowering_code.specs.Registers.{value_register, address_register}
use Rattle.lowering_code.specs.Expressions.{moved_code, copy_code, register_of, assign_code, conversion_code, expr_code, place_code}
use Rattle.lowering_states.specs.Places.{CodePlace, next_place}
use Rattle.lowering_states.specs.Runs.{CodeObservation, finish}
use Rattle.lowering_states.specs.model.Opens.{opens}
use Rattle.lowering_states.specs.States.{IsHeld, IsInRegister}
use Rattle.lowering_states.proofs.Steps.{meets_same}
use Rattle.lowering_states.proofs.States.{kept_on, kept_reads, after_on}
use Rattle.lowering_expression_laws.specs.Parts.{Setting, first_depth, EndsSo, Stands, Fit, Follows, ExprMeets}
use Rattle.lowering_expression_laws.proofs.Forms.{bound_run}
use Rattle.lowering_expression_laws.specs.lowering_place_laws.Places.{left_of, PlaceMeets}
use Rattle.lowering_expression_laws.proofs.LoweringPlaceLaws.Accesses.{moved_on}
use Rattle.lowering_expression_laws.specs.lowering_access_laws.Laws.{IsWholeStruct}
use Rattle.lowering_expression_laws.proofs.LoweringAccessLaws.Writes.{writes_meet}
use Rattle.lowering_expression_laws.specs.lowering_struct_laws.Laws.{StructsAndArraysMeet}

-- a pointer is held whatever it points to
any_pointer : (target : PlainType) (v : Value) → IsHeld (Pointer Void) v → IsHeld (Pointer target) v
any_pointer target (Word k) h = h
any_pointer target (Address p) h = h
any_pointer target Unset h = h

struct_held : (number : ℕ) (v : Value) → IsHeld (Struct number) v
struct_held number (Word k) = tt
struct_held number (Address p) = tt
struct_held number Unset = tt

module _ (c : Setting) (found : slice_get c.functions c.number ≡ Some c.code) where
  abbrev L : ℕ
  L = first_depth c

  -- ---- arrays

  module _ (target element : PlainType) (n : ℕ) (x : Expr) (ex : type_of x ≡ Array element n) (hx : PlaceMeets c x) where
    -- the pointer to the place of an array
    array_leads : (d : ℕ) (rest : List CodeItem) (heads : List ℕ) (p1 : CodePlace) (f : Names) (scope : Scope) (r : Registers) (s : CallState) (m : Memory) (K : Value → CallState → CodeObservation)
        → Stands c heads p1 (conversion_code L c.structs c.locals d (type_of x) (Pointer target) (left_of c x 0) (λ is. place_code L c.structs c.locals d x 0 is) (λ is. expr_code L c.structs c.locals d x is) rest) → Fit c f scope r s m → s.world.meter.turns ≤ c.level
        → Follows c d (Pointer target) heads rest f scope r s m K
        → EndsSo c (finish (converted_from (type_of x) (Pointer target) (eval c.structs c.locals c.calls scope x) (place c.structs c.locals c.calls scope x) s) K) p1 r s.world m
    unfolding opens
    array_leads d rest heads p1 f scope r s m K at fit low next =
        let at1 = subst (λ z. Stands c heads p1 (conversion_code L c.structs c.locals d z (Pointer target) (left_of c x 0) (λ is. place_code L c.structs c.locals d x 0 is) (λ is. expr_code L c.structs c.locals d x is) rest)) ex at in
        meets_same c.rooms c.functions (ap (λ z. finish (converted_from z (Pointer target) (eval c.structs c.locals c.calls scope x) (place c.structs c.locals c.calls scope x) s) K) ex)
        (bound_run c found (place c.structs c.locals c.calls scope x s) place_pointer K p1 r s.world m
        (hx.by d 0 (moved_code L d (left_of c x 0) rest) heads p1 f scope r s m (λ z t. finish (place_pointer z t) K) (omega arith) (omega arith) at1 fit low
        (λ q base v g t q1 m1 at2 aft fit1 kept held stands small is_base.
        moved_on c found d (left_of c x 0) rest heads scope r q base v g t q1 m1 at2 fit1 kept stands small (is_base v (inl (refl, refl)))
        (λ q2 q3 stands2 fit2 kept2 rel2. next q2 v g t q3 m1 stands2 aft fit2 kept2 (any_pointer target v held) rel2))))

  conversions : (target element : PlainType) (n : ℕ) (x : Expr) → type_of x ≡ Array element n → PlaceMeets c x → ExprMeets c (Convert (Pointer target) x)
  unfolding opens
  conversions target element n x ex hx = record { by = λ d rest heads p1 f scope r s m K at fit low next. array_leads target element n x ex hx d rest heads p1 f scope r s m K at fit low next }

  casts : (target element : PlainType) (n : ℕ) (x : Expr) → type_of x ≡ Array element n → PlaceMeets c x → ExprMeets c (Cast (Pointer target) x)
  unfolding opens
  casts target element n x ex hx = record { by = λ d rest heads p1 f scope r s m K at fit low next. array_leads target element n x ex hx d rest heads p1 f scope r s m K at fit low next }

  -- ---- structs

  structs : (number : ℕ) (x y : Expr) → register_of L c.structs c.locals x ≡ None → type_of y ≡ Struct number → IsWholeStruct c number → PlaceMeets c x → ExprMeets c y → ExprMeets c (Assign (Struct number) a.Set x y)
  unfolding opens
  structs number x y none ey whole hx hy = record {
    by = λ d rest heads p1 f scope r s m K at fit low next.
        let ty : PlainType = Struct number in
        let left = left_of c x 0 in
        let tail : List CodeItem = copy_code c.structs (address_register L d) (address_register L (suc d)) ty rest in
        let code_e =
        ap (λ z. assign_code L c.structs c.locals d None ty (type_of y) left z (λ is. place_code L c.structs c.locals d x 0 is) (λ j is. expr_code L c.structs c.locals j y is) rest) none in
        let run : obj.ValuePlace → Run Value = λ z t. and_then (eval c.structs c.locals c.calls scope y t) (assign_value c.structs ty (type_of y) None z) in
        bound_run c found (place c.structs c.locals c.calls scope x s) run K p1 r s.world m
        (hx.by d 0 (moved_code L d left (expr_code L c.structs c.locals (suc d) y tail)) heads p1 f scope r s m (λ z t. finish (run z t) K) (omega arith) (omega arith) (subst (λ z. Stands c heads p1 z) code_e at) fit low
        (λ q base to g t q1 m1 at1 aft fit1 kept held stands small is_base.
        moved_on c found d left (expr_code L c.structs c.locals (suc d) y tail) heads scope r q base to g t q1 m1 at1 fit1 kept stands small (is_base to (inl (refl, refl)))
        (λ q2 q3 at2 fit2 kept2 rel2.
        bound_run c found (eval c.structs c.locals c.calls scope y t) (assign_value c.structs ty (type_of y) None (obj.At to)) K q2 q3 t.world m1
        (hy.by (suc d) tail heads q2 g scope q3 t m1 (λ v u. finish (assign_value c.structs ty (type_of y) None (obj.At to) v u) K) at2 fit2 (omega (arith, aft.turned, low))
        (λ q4 v h u q5 m2 at3 aft2 fit3 kept3 held3 stands3.
        let stands4 : IsInRegister h ty v (q5 (value_register L (suc d) ty)) = subst (λ z. IsInRegister h z v (q5 (value_register L (suc d) z))) ey stands3 in
        let same : q5 (address_register L d) ≡ q3 (address_register L d) = kept_reads d P64 (omega arith) kept3 in
        let to_rel : IsValueOf h to (q5 (address_register L d)) = subst (λ z. IsValueOf h to z) (sym same) (values_stay g h to (q3 (address_register L d)) aft2.names rel2) in
        bound_run c found (write_at c.structs ty to v u) (λ _. pure to) K q4 q5 u.world m2
        ((writes_meet c found).structs number whole (address_register L d) (address_register L (suc d)) rest heads q4 to v h scope q5 u m2 (λ _ u1. K to u1) at3 fit3 to_rel stands4
        (λ u1 m3 at4 aft3 fit4.
        next (next_place q4) to h u1 q5 m3 at4 (after_on aft (after_on aft2 aft3)) fit4 (kept_on (omega arith) kept2 kept3) (struct_held number to) to_rel)))))));
  }

pub structs_and_arrays_meet : StructsAndArraysMeet
structs_and_arrays_meet c found = record { conversions = conversions c found; casts = casts c found; structs = structs c found }
