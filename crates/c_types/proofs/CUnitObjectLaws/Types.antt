-- Types that were judged are lawful among structs that have grown.
use Rattle.std.proofs.Common.{◌≡◌, ℕ, nat_le, ◌&&◌, IsTrue, List, [], ◌∷◌, refl, leb-true, le-leb, le_trans}
use Rattle.std.specs.Prelude.{IsFalse}
use Rattle.std.specs.List.{list_all}
use Rattle.c_typed_tree.specs.declared.types.CType.{CType}
use Rattle.c_typed_tree.specs.declared.types.StructDef.{StructDef}
use Rattle.c_typed_tree.specs.Types.{PlainType, Void, Int, Pointer, Array, Struct}
use Rattle.c_typed_tree.specs.Constants.{is_integer}
use Rattle.c_typed_tree.specs.Layout.{is_object}
use Rattle.c_typed_tree.specs.Typing.{is_void, is_pointer, is_scalar, is_array, is_valid_type, is_fit, depth_of, most_depth}
use Rattle.c_typed_tree.specs.View.{type_view}
use Rattle.c_typed_tree.specs.Lawful.{is_object_type, is_result}
use Rattle.c_typing_rules.specs.declared.c_typing_declared_types.declared.DeclaredType.TheVariants as d
use Rattle.c_typing_rules.specs.c_typing_declared_types.Depth.{is_deep_at_most}
use Rattle.c_typing_expression_sound.specs.c_type_laws.Typed.{AreFit}
use Rattle.c_typing_expression_sound.proofs.CTypeLaws.Truth.{no_true, front, back, also, three, along, either, either_left, either_right}
use Rattle.c_typing_expression_sound.proofs.CTypeLaws.Types.{known_object}
use Rattle.c_typing_expression_sound.specs.c_expression_laws.Types.{AreTypes}
use Rattle.c_typing_expression_sound.proofs.CJudgementLaws.Structs.{object_fits}
use Rattle.c_types.specs.c_unit_meaning_laws.CStatementLaws.{is_parameter}
use Rattle.c_typing_expression_sound.specs.c_struct_laws.Growth.{Grow}
use Rattle.c_typing_expression_sound.proofs.CStructLaws.Lawful.{same_depth}
use Rattle.c_typing_expression_sound.proofs.CStructLaws.Growth.{type_stays}
use Rattle.c_types.specs.c_unit_meaning_laws.Shapes.{is_word_type, is_parameter_type, is_result_type}
use Rattle.c_types.specs.c_unit_meaning_laws.Walks.{IsObjectType, IsGivenType}
use Rattle.c_types.specs.c_unit_object_laws.Meant.{IsCallable}

-- ---- objects

object_known : (ds es : List StructDef) → Grow ds es → (ty : CType) → IsObjectType ds ty → IsTrue (is_object es (type_view ty))
object_known ds es g ty h = known_object ds es g.known (type_view ty) (front (is_object ds (type_view ty)) (is_deep_at_most ds most_depth ty) h.member)

pub object_stays : (ds es : List StructDef) → Grow ds es → (ty : CType) → IsObjectType ds ty → IsTrue (is_object_type es (type_view ty))
object_stays ds es g ty h =
    let x = type_view ty in
    let object = front (is_object ds x) (is_deep_at_most ds most_depth ty) h.member in
    three (is_valid_type es x) (is_object es x) (nat_le (depth_of es x) most_depth) (type_stays ds es g x h.there) (known_object ds es g.known x object)
    (along (λ k. nat_le k most_depth) (same_depth ds es g.known x object) (back (is_object ds x) (is_deep_at_most ds most_depth ty) h.member))

-- ---- functions

-- a word is as deep whatever the structs are
word_depth : (ds es : List StructDef) (x : PlainType) → IsTrue (is_word_type x) → depth_of es x ≡ depth_of ds x
word_depth ds es Void h = no_true h
word_depth ds es (Int n s) h = refl
word_depth ds es (Pointer x) h = refl
word_depth ds es (Array x n) h = no_true h
word_depth ds es (Struct n) h = no_true h

word_object : (ds : List StructDef) (x : PlainType) → IsTrue (is_word_type x) → IsTrue (is_object ds x)
word_object ds Void h = no_true h
word_object ds (Int n s) h = refl
word_object ds (Pointer x) h = refl
word_object ds (Array x n) h = no_true h
word_object ds (Struct n) h = no_true h

word_scalar : (ds : List StructDef) (x : PlainType) → IsTrue (is_word_type x) → IsTrue (is_valid_type ds x) → IsTrue (is_scalar x)
word_scalar ds Void h g = no_true h
word_scalar ds (Int n s) h g = either_left (is_integer (Int n s)) (is_pointer (Int n s)) g
word_scalar ds (Pointer x) h g = either_right (is_integer (Pointer x)) (is_pointer (Pointer x)) refl
word_scalar ds (Array x n) h g = no_true h
word_scalar ds (Struct n) h g = no_true h

scalar_word : (x : PlainType) → IsTrue (is_scalar x) → IsTrue (is_word_type x)
scalar_word Void h = no_true h
scalar_word (Int n s) h = refl
scalar_word (Pointer x) h = refl
scalar_word (Array x n) h = no_true h
scalar_word (Struct n) h = no_true h

one_less : (n : ℕ) → IsTrue (nat_le n 255) → IsTrue (nat_le n 256)
one_less n h = le-leb n 256 (le_trans (leb-true n 255 h) (leb-true 255 256 refl))

-- a word whose parts are there, at most 255 deep
word_stays : (ds es : List StructDef) → Grow ds es → (x : PlainType) → IsTrue (is_word_type x) → IsTrue (is_valid_type ds x) → IsTrue (nat_le (depth_of ds x) 255) → IsTrue (is_object_type es x)
word_stays ds es g x w h deep =
    three (is_valid_type es x) (is_object es x) (nat_le (depth_of es x) most_depth) (type_stays ds es g x h) (word_object es x w) (along (λ k. nat_le k most_depth) (word_depth ds es x w) (one_less (depth_of ds x) deep))

parameters_stay : (ds es : List StructDef) → Grow ds es → (tys : List CType) → IsTrue (list_all is_parameter_type tys) → AreTypes ds tys → IsTrue (list_all (is_deep_at_most ds 255) tys) → IsTrue (list_all (is_parameter es) tys)
parameters_stay ds es g [] w h deep = refl
parameters_stay ds es g (ty ∷ tys) w h deep =
    let x = type_view ty in
    let word = front (is_parameter_type ty) (list_all is_parameter_type tys) w in
    also (is_parameter es ty) (list_all (is_parameter es) tys)
    (also (is_object_type es x) (is_scalar x) (word_stays ds es g x word h.0 (front (is_deep_at_most ds 255 ty) (list_all (is_deep_at_most ds 255) tys) deep)) (word_scalar ds x word h.0))
    (parameters_stay ds es g tys (back (is_parameter_type ty) (list_all is_parameter_type tys) w) h.1 (back (is_deep_at_most ds 255 ty) (list_all (is_deep_at_most ds 255) tys) deep))

pub callable_stays : (ds es : List StructDef) → Grow ds es → (of : CType) (tys : List CType) → IsGivenType ds (d.Function of tys) → IsCallable es of tys
callable_stays ds es g of tys h = record {
  result = either (is_void x) (is_scalar x) (λ v. either_left (is_void x) (is_scalar x && is_object_type es x) v)
      (λ s. either_right (is_void x) (is_scalar x && is_object_type es x)
      (also (is_scalar x) (is_object_type es x) s (word_stays ds es g x (scalar_word x s) h.there.0 (front (is_deep_at_most ds 255 of) (list_all (is_deep_at_most ds 255) tys) h.declarable))))
      (front (is_result_type of) (list_all is_parameter_type tys) h.shape);
  parameters = parameters_stay ds es g tys (back (is_result_type of) (list_all is_parameter_type tys) h.shape) h.there.1 (back (is_deep_at_most ds 255 of) (list_all (is_deep_at_most ds 255) tys) h.declarable);
}
  where
    x : PlainType
    x = type_view of

-- ---- what may be called has types of values

void_fits : (ds : List StructDef) (x : PlainType) → IsTrue (is_void x) → IsTrue (is_fit ds x)
void_fits ds Void h = refl
void_fits ds (Int n s) h = no_true h
void_fits ds (Pointer x) h = no_true h
void_fits ds (Array x n) h = no_true h
void_fits ds (Struct n) h = no_true h

void_plain : (x : PlainType) → IsTrue (is_void x) → IsFalse (is_array x)
void_plain Void h = refl
void_plain (Int n s) h = no_true h
void_plain (Pointer x) h = no_true h
void_plain (Array x n) h = no_true h
void_plain (Struct n) h = no_true h

scalar_plain : (x : PlainType) → IsTrue (is_scalar x) → IsFalse (is_array x)
scalar_plain Void h = no_true h
scalar_plain (Int n s) h = refl
scalar_plain (Pointer x) h = refl
scalar_plain (Array x n) h = no_true h
scalar_plain (Struct n) h = no_true h

pub result_fits : (ds : List StructDef) (x : PlainType) → IsTrue (is_result ds x) → IsTrue (is_fit ds x)
result_fits ds x h = either (is_void x) (is_scalar x && is_object_type ds x) (void_fits ds x) (λ both. object_fits ds x (back (is_scalar x) (is_object_type ds x) both)) h

pub result_plain : (ds : List StructDef) (x : PlainType) → IsTrue (is_result ds x) → IsFalse (is_array x)
result_plain ds x h = either (is_void x) (is_scalar x && is_object_type ds x) (void_plain x) (λ both. scalar_plain x (front (is_scalar x) (is_object_type ds x) both)) h

pub parameters_fit : (ds : List StructDef) (tys : List CType) → IsTrue (list_all (is_parameter ds) tys) → AreFit ds tys
parameters_fit ds [] h = tt
parameters_fit ds (ty ∷ tys) h = (
  object_fits ds (type_view ty) (front (is_object_type ds (type_view ty)) (is_scalar (type_view ty)) (front (is_parameter ds ty) (list_all (is_parameter ds) tys) h)),
  parameters_fit ds tys (back (is_parameter ds ty) (list_all (is_parameter ds) tys) h),
)
