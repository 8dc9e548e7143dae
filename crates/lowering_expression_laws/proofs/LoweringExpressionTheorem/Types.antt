-- What the tests of well typed trees say of types.
use Rattle.std.proofs.Common.{◌≡◌, ◌≤◌, ◌*◌, ℕ, zero, suc, ◌==◌, nat_le, Bool, true, false, ◌&&◌, ◌||◌, IsTrue, List, [], ◌∷◌, Option, Some, None, refl, sym, ap, ◌∙◌, subst, if◌then◌else◌, arith, inl, inr, eqb-true, leb-true}
use Rattle.std.specs.Prelude.{All, slice_get, is_some}
use Rattle.std.specs.List.{list_all}
use Rattle.mem_objects.specs.declared.TheConstants.{MOST_DATA}
use Rattle.bk_arithmetic.specs.declared.integer_type.IntegerType.{IntegerType}
use Rattle.bk_arithmetic.specs.declared.integer_type.IntegerType.TheVariants as i
use Rattle.bk_arithmetic.specs.IntegerTypes.{integer_type, promote, common}
use Rattle.bk_arithmetic.specs.Words.{is_word}
use Rattle.c_typed_tree.specs.declared.types.StructDef.{StructDef}
use Rattle.c_typed_tree.specs.Types.{PlainType, Void, Int, Pointer, Array, Struct}
use Rattle.c_typed_tree.specs.Layout.{integer_of, is_complete, is_object, size_of, struct_size}
use Rattle.c_typed_tree.specs.Lawful.{IsLawfulStruct}
use Rattle.c_typed_tree.specs.Constants.{is_integer}
use Rattle.c_typed_tree.specs.Typing.{is_same_type, is_same_integer, is_promoted_integer, is_promoted, is_common_integer, is_common, is_scalar, is_pointer, is_void, points_to_object, points_to, is_number_of, is_valid_type}
use Rattle.lowering_code.specs.Expressions.{plain_of}
use Rattle.lowering_expression_laws.specs.Laws.{IsScalarType}
use Rattle.lowering_expression_laws.specs.lowering_place_laws.Laws.{HasWholeIntegers}
use Rattle.lowering_expression_laws.specs.lowering_access_laws.Laws.{IsAlignment}
use Rattle.c_typing_struct_layout.specs.c_layout_laws.Laws.{is_alignment}
use Rattle.c_typing_struct_layout.proofs.CLayoutLaws.Truth.{no_true, front, back, either}
use Rattle.c_typing_struct_layout.proofs.CLayoutLaws.Layouts.{complete_at}
use Rattle.lowering_bounds.proofs.Typing.{same}

pub all_pass : {A : Type 0} (test : A → Bool) (xs : List A) (k : ℕ) (x : A) → IsTrue (list_all test xs) → slice_get xs k ≡ Some x → IsTrue (test x)
all_pass test [] k x h e = let clash : ⊥ = cc in absurd clash
all_pass test (y ∷ xs) zero x h e = let same_one : y ≡ x = cc in subst (λ z. IsTrue (test z)) same_one (front (test y) (list_all test xs) h)
all_pass test (y ∷ xs) (suc k) x h e = all_pass test xs k x (back (test y) (list_all test xs) h) e

-- ---- integer types

named_same : (s t : IntegerType) → Some s ≡ Some t → s ≡ t
named_same s t e = cc

-- a type is the integer type with a number of bytes and a sign
named : (n k : ℕ) (s : Bool) (r t : IntegerType) → IsTrue (n == k) → Int k s ≡ plain_of r → Some r ≡ Some t → Int n s ≡ plain_of t
named n k s r t e is h = ap (λ z. Int z s) (eqb-true n k e) ∙ is ∙ ap plain_of (named_same r t h)

none_named : {X : Type 0} (t : IntegerType) → None ≡ Some t → X
none_named t h = let clash : ⊥ = cc in absurd clash

pub integer_named : (n : ℕ) (s : Bool) (t : IntegerType) → integer_type n s ≡ Some t → Int n s ≡ plain_of t
integer_named n true t h = by (n == 1) (n == 2) (n == 4) (n == 8) refl refl refl refl h
  where
    by : (a b c d : Bool) → (n == 1) ≡ a → (n == 2) ≡ b → (n == 4) ≡ c → (n == 8) ≡ d → (if a then Some i.Char else if b then Some i.Short else if c then Some i.Int else if d then Some i.Long else None) ≡ Some t → Int n true ≡ plain_of t
    by true b c d e f g j h = named n 1 true i.Char t e refl h
    by false true c d e f g j h = named n 2 true i.Short t f refl h
    by false false true d e f g j h = named n 4 true i.Int t g refl h
    by false false false true e f g j h = named n 8 true i.Long t j refl h
    by false false false false e f g j h = none_named t h
integer_named n false t h = by (n == 1) (n == 2) (n == 4) (n == 8) refl refl refl refl h
  where
    by : (a b c d : Bool) → (n == 1) ≡ a → (n == 2) ≡ b → (n == 4) ≡ c → (n == 8) ≡ d → (if a then Some i.UnsignedChar else if b then Some i.UnsignedShort else if c then Some i.UnsignedInt else if d then Some i.UnsignedLong else None) ≡ Some t → Int n false ≡ plain_of t
    by true b c d e f g j h = named n 1 false i.UnsignedChar t e refl h
    by false true c d e f g j h = named n 2 false i.UnsignedShort t f refl h
    by false false true d e f g j h = named n 4 false i.UnsignedInt t g refl h
    by false false false true e f g j h = named n 8 false i.UnsignedLong t j refl h
    by false false false false e f g j h = none_named t h

-- a type is an integer type
pub record IntegerIs (ty : PlainType) : Type 0 where
  pub type : IntegerType
  pub is : ty ≡ plain_of type

-- of which there is a test
of_integer : (test : Option IntegerType → Bool) → test None ≡ false → (ty : PlainType) → IsTrue (test (integer_of ty)) → (t : IntegerType) × (ty ≡ plain_of t) × IsTrue (test (Some t))
of_integer test none Void h = no_true (sym none ∙ h)
of_integer test none (Pointer t) h = no_true (sym none ∙ h)
of_integer test none (Array t n) h = no_true (sym none ∙ h)
of_integer test none (Struct n) h = no_true (sym none ∙ h)
of_integer test none (Int n s) h = by (integer_type n s) refl h
  where
    by : (o : Option IntegerType) → integer_type n s ≡ o → IsTrue (test o) → (t : IntegerType) × (Int n s ≡ plain_of t) × IsTrue (test (Some t))
    by None e h = no_true (sym none ∙ h)
    by (Some t) e h = (t, integer_named n s t e, h)

pub integer_known : (ty : PlainType) → IsTrue (is_integer ty) → IntegerIs ty
integer_known ty h = let o = of_integer (λ z. is_some z) refl ty h in record { type = o.0; is = o.1 }

pub record NumberIs (ty : PlainType) (n : ℕ) : Type 0 where
  pub type : IntegerType
  pub is : ty ≡ plain_of type
  pub word : is_word type n ≡ true

pub number_known : (ty : PlainType) (n : ℕ) → IsTrue (is_number_of (integer_of ty) n) → NumberIs ty n
number_known ty n h = let o = of_integer (λ z. is_number_of z n) refl ty h in record { type = o.0; is = o.1; word = o.2 }

-- a type is an integer type that is its own promotion
pub record PromotedIs (ty : PlainType) : Type 0 where
  pub type : IntegerType
  pub is : ty ≡ plain_of type
  pub stays : promote type ≡ type

promoted_stays : (t : IntegerType) → IsTrue (is_same_integer (promote t) t) → promote t ≡ t
promoted_stays i.Char h = no_true h
promoted_stays i.UnsignedChar h = no_true h
promoted_stays i.Short h = no_true h
promoted_stays i.UnsignedShort h = no_true h
promoted_stays i.Int h = refl
promoted_stays i.UnsignedInt h = refl
promoted_stays i.Long h = refl
promoted_stays i.UnsignedLong h = refl

pub promoted_known : (ty : PlainType) → IsTrue (is_promoted ty) → PromotedIs ty
promoted_known ty h = let o = of_integer is_promoted_integer refl ty h in record { type = o.0; is = o.1; stays = promoted_stays o.0 o.2 }

-- the right type is the common one
common_stays : (t u : IntegerType) → IsTrue (is_same_integer (common t u) u) → promote u ≡ u
common_stays i.Char i.Char h = no_true h
common_stays i.UnsignedChar i.Char h = no_true h
common_stays i.Short i.Char h = no_true h
common_stays i.UnsignedShort i.Char h = no_true h
common_stays i.Int i.Char h = no_true h
common_stays i.UnsignedInt i.Char h = no_true h
common_stays i.Long i.Char h = no_true h
common_stays i.UnsignedLong i.Char h = no_true h
common_stays i.Char i.UnsignedChar h = no_true h
common_stays i.UnsignedChar i.UnsignedChar h = no_true h
common_stays i.Short i.UnsignedChar h = no_true h
common_stays i.UnsignedShort i.UnsignedChar h = no_true h
common_stays i.Int i.UnsignedChar h = no_true h
common_stays i.UnsignedInt i.UnsignedChar h = no_true h
common_stays i.Long i.UnsignedChar h = no_true h
common_stays i.UnsignedLong i.UnsignedChar h = no_true h
common_stays i.Char i.Short h = no_true h
common_stays i.UnsignedChar i.Short h = no_true h
common_stays i.Short i.Short h = no_true h
common_stays i.UnsignedShort i.Short h = no_true h
common_stays i.Int i.Short h = no_true h
common_stays i.UnsignedInt i.Short h = no_true h
common_stays i.Long i.Short h = no_true h
common_stays i.UnsignedLong i.Short h = no_true h
common_stays i.Char i.UnsignedShort h = no_true h
common_stays i.UnsignedChar i.UnsignedShort h = no_true h
common_stays i.Short i.UnsignedShort h = no_true h
common_stays i.UnsignedShort i.UnsignedShort h = no_true h
common_stays i.Int i.UnsignedShort h = no_true h
common_stays i.UnsignedInt i.UnsignedShort h = no_true h
common_stays i.Long i.UnsignedShort h = no_true h
common_stays i.UnsignedLong i.UnsignedShort h = no_true h
common_stays t i.Int h = refl
common_stays t i.UnsignedInt h = refl
common_stays t i.Long h = refl
common_stays t i.UnsignedLong h = refl

pub common_known : (left right : PlainType) → IsTrue (is_common left right) → PromotedIs right
common_known left right h = by (integer_of left) h
  where
    by : (o : Option IntegerType) → IsTrue (is_common_integer o (integer_of right)) → PromotedIs right
    by None h = no_true h
    by (Some t) h = let o = of_integer (is_common_integer (Some t)) refl right h in record { type = o.0; is = o.1; stays = common_stays t o.0 o.2 }

-- ---- pointers and scalars

pub record PointerIs (ty : PlainType) : Type 0 where
  pub target : PlainType
  pub is : ty ≡ Pointer target

pub pointer_known : (ty : PlainType) → IsTrue (is_pointer ty) → PointerIs ty
pointer_known Void h = no_true h
pointer_known (Int n s) h = no_true h
pointer_known (Pointer t) h = record { target = t; is = refl }
pointer_known (Array t n) h = no_true h
pointer_known (Struct n) h = no_true h

-- a pointer to objects
pub record ObjectPointerIs (ds : List StructDef) (ty : PlainType) : Type 0 where
  pub target : PlainType
  pub is : ty ≡ Pointer target
  pub object : IsTrue (is_object ds target)

pub object_pointer_known : (ds : List StructDef) (ty : PlainType) → IsTrue (points_to_object ds ty) → ObjectPointerIs ds ty
object_pointer_known ds Void h = no_true h
object_pointer_known ds (Int n s) h = no_true h
object_pointer_known ds (Pointer t) h = record { target = t; is = refl; object = h }
object_pointer_known ds (Array t n) h = no_true h
object_pointer_known ds (Struct n) h = no_true h

-- a pointer to objects of a type
pub record PointerToIs (ds : List StructDef) (element ty : PlainType) : Type 0 where
  pub is : ty ≡ Pointer element
  pub object : IsTrue (is_object ds element)

pub pointer_to_known : (ds : List StructDef) (element ty : PlainType) → IsTrue (points_to ds element ty) → PointerToIs ds element ty
pointer_to_known ds element Void h = no_true h
pointer_to_known ds element (Int n s) h = no_true h
pointer_to_known ds element (Pointer t) h =
    let e = same t element (front (is_same_type t element) (is_object ds t) h) in
    record { is = ap Pointer e; object = subst (λ z. IsTrue (is_object ds z)) e (back (is_same_type t element) (is_object ds t) h) }
pointer_to_known ds element (Array t n) h = no_true h
pointer_to_known ds element (Struct n) h = no_true h

pub scalar_known : (ty : PlainType) → IsTrue (is_scalar ty) → IsScalarType ty
scalar_known ty h =
    either (is_integer ty) (is_pointer ty) (λ g. let o = integer_known ty g in inl (o.type, o.is)) (λ g. let o = pointer_known ty g in inr (o.target, o.is)) h

pub void_known : (ty : PlainType) → IsTrue (is_void ty) → ty ≡ Void
void_known Void h = refl
void_known (Int n s) h = no_true h
void_known (Pointer t) h = no_true h
void_known (Array t n) h = no_true h
void_known (Struct n) h = no_true h

-- a number of bytes and a sign that there are
pub whole_known : (ds : List StructDef) (ty : PlainType) → IsTrue (is_valid_type ds ty) → HasWholeIntegers ty
whole_known ds Void h = tt
whole_known ds (Int n s) h = let o = integer_known (Int n s) h in (o.type, o.is)
whole_known ds (Pointer t) h = tt
whole_known ds (Array t n) h = tt
whole_known ds (Struct n) h = tt

-- ---- sizes

integer_small : (t : IntegerType) (ds : List StructDef) → size_of ds (plain_of t) ≤ MOST_DATA
integer_small i.Char ds = omega arith
integer_small i.UnsignedChar ds = omega arith
integer_small i.Short ds = omega arith
integer_small i.UnsignedShort ds = omega arith
integer_small i.Int ds = omega arith
integer_small i.UnsignedInt ds = omega arith
integer_small i.Long ds = omega arith
integer_small i.UnsignedLong ds = omega arith

-- a complete struct is no larger than the data may be
pub struct_small : (ds : List StructDef) → All (IsLawfulStruct ds) ds → (n : ℕ) → IsTrue (is_complete (slice_get ds n)) → size_of ds (Struct n) ≤ MOST_DATA
struct_small ds lawful n h = by (slice_get ds n) refl h
  where
    by : (o : Option StructDef) → slice_get ds n ≡ o → IsTrue (is_complete o) → struct_size o ≤ MOST_DATA
    by None e h = no_true h
    by (Some d) e h = (complete_at ds lawful n d e h).size

pub object_small : (ds : List StructDef) → All (IsLawfulStruct ds) ds → (ty : PlainType) → IsTrue (is_valid_type ds ty) → IsTrue (is_object ds ty) → size_of ds ty ≤ MOST_DATA
object_small ds lawful Void t h = no_true h
object_small ds lawful (Int n s) t h = let o = integer_known (Int n s) t in subst (λ z. size_of ds z ≤ MOST_DATA) (sym o.is) (integer_small o.type ds)
object_small ds lawful (Pointer x) t h = omega arith
object_small ds lawful (Array x n) t h = leb-true (size_of ds x * n) MOST_DATA (back (is_object ds x && nat_le 1 n) (nat_le (size_of ds x * n) MOST_DATA) h)
object_small ds lawful (Struct n) t h = struct_small ds lawful n h

pub alignment_known : (n : ℕ) → IsTrue (is_alignment n) → IsAlignment n
alignment_known n h =
    either (n == 1 || n == 2 || n == 4) (n == 8)
    (either (n == 1 || n == 2) (n == 4)
    (either (n == 1) (n == 2) (λ e. inl (eqb-true n 1 e)) (λ e. inr (inl (eqb-true n 2 e))))
    (λ e. inr (inr (inl (eqb-true n 4 e)))))
    (λ e. inr (inr (inr (eqb-true n 8 e)))) h
