-- Casts and conversions, by the rules of their types.
use Rattle.std.proofs.Common.{◌≡◌, ℕ, Bool, true, false, ◌&&◌, ◌||◌, not, IsTrue, List, Option, Some, None, refl, sym, ap, subst}
use Rattle.std.specs.Prelude.{slice_get}
use Rattle.std.specs.List.{list_all}
use Rattle.std.proofs.lemmas.Bool.{eqb-true}
use Rattle.mem_objects.specs.declared.DataObject.{DataObject}
use Rattle.c_typed_tree.specs.Types.{PlainType, Void, Int, Pointer, Array, Struct}
use Rattle.c_typed_tree.specs.Constants.{is_integer, constant, is_zero, is_null_constant}
use Rattle.c_typed_tree.specs.Expressions.{Expr, Cast, Convert, type_of}
use Rattle.c_typed_tree.specs.Typing.{Context, Signature, is_same_type, is_void, is_array, is_pointer, is_pointer_to_void, is_scalar, is_cast, decays, is_conversion, is_place, is_in_memory, is_typed}
use Rattle.c_typed_tree.specs.Lawful.{is_lawful_local}
use Rattle.lowering_expression_laws.specs.Parts.{Setting, ExprMeets}
use Rattle.lowering_expression_laws.specs.lowering_place_laws.Places.{PlaceMeets}
use Rattle.lowering_expression_laws.proofs.LoweringStructLaws.Structs.{structs_and_arrays_meet}
use Rattle.lowering_expression_laws.specs.lowering_constant_laws.Laws.{GivesZero}
use Rattle.lowering_expression_laws.proofs.LoweringConstantLaws.Constants.{constants_are_given}
use Rattle.lowering_expression_laws.proofs.LoweringConstantLaws.Conversions.{constants_meet}
use Rattle.c_typing_struct_layout.proofs.CLayoutLaws.Truth.{no_true, front, back, either}
use Rattle.lowering_bounds.proofs.Typing.{large_memory}
use Rattle.lowering_expression_laws.proofs.LoweringExpressionTheorem.Types.{integer_known, pointer_known, void_known}
use Rattle.lowering_expression_laws.proofs.LoweringExpressionTheorem.Known.{forms, operands}
use Rattle.lowering_expression_laws.proofs.LoweringExpressionTheorem.Places.{context_in}

zero_is : (o : Option ℕ) → IsTrue (is_zero o) → o ≡ Some 0
zero_is None h = no_true h
zero_is (Some n) h = ap Some (eqb-true n 0 h)

not_is : (b : Bool) → IsTrue (not b) → b ≡ false
not_is true h = no_true h
not_is false h = refl

-- an array becomes a pointer
pub record ArrayIs (from to : PlainType) : Type 0 where
  pub element : PlainType
  pub elements : ℕ
  pub target : PlainType
  pub is : from ≡ Array element elements
  pub becomes : to ≡ Pointer target

array_known : (from to : PlainType) → IsTrue (decays from to) → ArrayIs from to
array_known Void to h = no_true h
array_known (Int n s) to h = no_true h
array_known (Pointer t) to h = no_true h
array_known (Struct n) to h = no_true h
array_known (Array t n) Void h = no_true h
array_known (Array t n) (Int m s) h = no_true h
array_known (Array t n) (Pointer u) h = record { element = t; elements = n; target = u; is = refl; becomes = refl }
array_known (Array t n) (Array u m) h = no_true h
array_known (Array t n) (Struct m) h = no_true h

module _ (c : Setting) (found : slice_get c.functions c.number ≡ Some c.code) (globals : List DataObject) (signatures : List Signature) (lawful : IsTrue (list_all (is_lawful_local c.structs) c.locals)) where
  abbrev K : Context
  K = context_in c globals signatures

  module _ (ty : PlainType) (x : Expr) (tx : IsTrue (is_typed K x)) (hx : ExprMeets c x) where
    abbrev X : PlainType
    X = type_of x

    abbrev Null : Bool
    Null = is_null_constant x

    zeros : IsTrue Null → GivesZero c x
    zeros h scope s = constants_are_given K c.locals c.calls scope x 0 tx (zero_is (constant x) h) s

    -- ---- casts

    void_cast : IsTrue (is_void ty && not (is_array X)) → ExprMeets c (Cast ty x)
    void_cast h =
        subst (λ z. ExprMeets c (Cast z x)) (sym (void_known ty (front (is_void ty) (not (is_array X)) h)))
        ((constants_meet c found).drops x (not_is (is_array X) (back (is_void ty) (not (is_array X)) h)) hx)

    integer_cast : IsTrue (is_integer ty && is_integer X) → ExprMeets c (Cast ty x)
    integer_cast h =
        let to = integer_known ty (front (is_integer ty) (is_integer X) h) in
        let from = integer_known X (back (is_integer ty) (is_integer X) h) in
        subst (λ z. ExprMeets c (Cast z x)) (sym to.is) ((forms c found).casts from.type to.type x from.is hx)

    pointer_cast : IsTrue (is_pointer ty && (is_pointer X || is_integer X && Null)) → ExprMeets c (Cast ty x)
    pointer_cast h =
        let to = pointer_known ty (front (is_pointer ty) (is_pointer X || is_integer X && Null) h) in
        subst (λ z. ExprMeets c (Cast z x)) (sym to.is)
        (either (is_pointer X) (is_integer X && Null) (λ g. let from = pointer_known X g in (operands c found).pointer_casts from.target to.target x from.is hx)
        (λ g. let from = integer_known X (front (is_integer X) Null g) in (constants_meet c found).casts from.type to.target x from.is (zeros (back (is_integer X) Null g)) hx)
        (back (is_pointer ty) (is_pointer X || is_integer X && Null) h))

    pub cast_meets : IsTrue (is_cast ty X Null) → ExprMeets c (Cast ty x)
    cast_meets h =
        either (is_void ty && not (is_array X) || is_integer ty && is_integer X) (is_pointer ty && (is_pointer X || is_integer X && Null))
        (λ g. either (is_void ty && not (is_array X)) (is_integer ty && is_integer X) void_cast integer_cast g) pointer_cast h

    -- ---- conversions

    integer_conversion : IsTrue (is_integer ty && is_integer X) → ExprMeets c (Convert ty x)
    integer_conversion h =
        let to = integer_known ty (front (is_integer ty) (is_integer X) h) in
        let from = integer_known X (back (is_integer ty) (is_integer X) h) in
        subst (λ z. ExprMeets c (Convert z x)) (sym to.is) ((forms c found).conversions from.type to.type x from.is hx)

    array_conversion : (IsTrue (is_in_memory c.locals x) → PlaceMeets c x) → IsTrue (decays X ty && is_place x) → ExprMeets c (Convert ty x)
    array_conversion place h =
        let d = array_known X ty (front (decays X ty) (is_place x) h) in
        subst (λ z. ExprMeets c (Convert z x)) (sym d.becomes)
        ((structs_and_arrays_meet c found).conversions d.target d.element d.elements x d.is (place (large_memory K lawful x tx (back (decays X ty) (is_place x) h) (ap is_scalar d.is))))

    null_conversion : IsTrue (is_pointer ty && is_integer X && Null) → ExprMeets c (Convert ty x)
    null_conversion h =
        let two = front (is_pointer ty && is_integer X) Null h in
        let to = pointer_known ty (front (is_pointer ty) (is_integer X) two) in
        let from = integer_known X (back (is_pointer ty) (is_integer X) two) in
        subst (λ z. ExprMeets c (Convert z x)) (sym to.is) ((constants_meet c found).conversions from.type to.target x from.is (zeros (back (is_pointer ty && is_integer X) Null h)) hx)

    abbrev alike : Bool
    alike = is_same_type ty X || is_pointer_to_void ty || is_pointer_to_void X

    pointer_conversion : IsTrue (is_pointer ty && is_pointer X && alike) → ExprMeets c (Convert ty x)
    pointer_conversion h =
        let two = front (is_pointer ty && is_pointer X) alike h in
        let to = pointer_known ty (front (is_pointer ty) (is_pointer X) two) in
        let from = pointer_known X (back (is_pointer ty) (is_pointer X) two) in
        subst (λ z. ExprMeets c (Convert z x)) (sym to.is) ((operands c found).pointers from.target to.target x from.is hx)

    pub conversion_meets : (IsTrue (is_in_memory c.locals x) → PlaceMeets c x) → IsTrue (is_conversion ty X Null (is_place x)) → ExprMeets c (Convert ty x)
    conversion_meets place h =
        either (is_integer ty && is_integer X || decays X ty && is_place x || is_pointer ty && is_integer X && Null) (is_pointer ty && is_pointer X && alike)
        (λ g. either (is_integer ty && is_integer X || decays X ty && is_place x) (is_pointer ty && is_integer X && Null)
        (λ j. either (is_integer ty && is_integer X) (decays X ty && is_place x) integer_conversion (array_conversion place) j) null_conversion g)
        pointer_conversion h
