-- What a lawful context says of structs: sizes are words, and members have types that expressions may have.
use Rattle.std.proofs.Common.{◌≡◌, ◌<◌, ◌≤◌, ◌*◌, ◌^◌, ℕ, zero, suc, nat_le, ◌==◌, Bool, true, false, ◌&&◌, IsTrue, List, [], ◌∷◌, All, slice_get, is_some, Option, Some, None, refl, sym, ap, ◌∙◌, subst, if◌then◌else◌, arith, eqb-true, leb-true, le-leb, ltb-true, le_trans, le_refl, lt_of_le_of_lt}
use Rattle.std.proofs.lemmas.Option.{none-some, same_Some, slice_get_within, get_or_from_slice_get}
use Rattle.std.proofs.lemmas.List.Elements.{All-get_or}
use Rattle.std.specs.List.{list_all}
use Rattle.bk_arithmetic.specs.declared.integer_type.IntegerType.{IntegerType}
use Rattle.mem_objects.specs.declared.TheConstants.{MOST_DATA}
use Rattle.c_typed_tree.specs.declared.types.CType.{CType}
use Rattle.c_typed_tree.specs.declared.types.StructDef.{StructDef}
use Rattle.c_typed_tree.specs.declared.types.Member.{Member}
use Rattle.c_typed_tree.specs.Types.{PlainType, Void, Int, Pointer, Array, Struct}
use Rattle.c_typed_tree.specs.View.{type_view}
use Rattle.c_typed_tree.specs.Constants.{is_integer}
use Rattle.c_typed_tree.specs.Layout.{is_complete, is_object, size_of, struct_size, struct_member}
use Rattle.c_typed_tree.specs.Typing.{Context, is_valid_type, is_fit, has_member_type, depth_of, depth_behind, struct_depth}
use Rattle.c_typed_tree.specs.Lawful.{IsCompleteStruct, IsStruct, IsLawfulStruct, is_object_type}
use Rattle.c_typing_expression_sound.specs.c_type_laws.Typed.{AreKnown, IsMemberOf, IsSmall}
use Rattle.c_typing_expression_sound.proofs.CTypeLaws.Truth.{no_true, front, back, also}
use Rattle.c_typing_expression_sound.proofs.CTypeLaws.Types.{alike, known_size, known_object}
use Rattle.c_typing_expression_sound.specs.c_judgement_laws.Covers.{is_whole, HasStructs, IsLawfulContext}

all_at : {A : Type 0} (P : A → Type 0) (xs : List A) (k : ℕ) (x : A) → All P xs → slice_get xs k ≡ Some x → P x
all_at P xs k x h e = subst P (get_or_from_slice_get xs k x x e) (All-get_or P xs k x (slice_get_within xs k x e) h)

list_all_at : {A : Type 0} (p : A → Bool) (xs : List A) (k : ℕ) (x : A) → IsTrue (list_all p xs) → slice_get xs k ≡ Some x → IsTrue (p x)
list_all_at p [] k x h e = absurd (none-some x e)
list_all_at p (y ∷ ys) zero x h e = subst (λ z. IsTrue (p z)) (same_Some y x e) (front (p y) (list_all p ys) h)
list_all_at p (y ∷ ys) (suc k) x h e = list_all_at p ys k x (back (p y) (list_all p ys) h) e

-- ---- depths

one_at_least : (o : Option StructDef) → 1 ≤ struct_depth o
one_at_least None = le_refl 1
one_at_least (Some d) = omega arith

pub behind_within : (ds : List StructDef) (x : PlainType) → depth_behind x ≤ depth_of ds x
behind_within ds Void = le_refl 1
behind_within ds (Int n s) = le_refl 1
behind_within ds (Pointer x) = le_refl _
behind_within ds (Array x n) = let h = behind_within ds x in omega arith
behind_within ds (Struct n) = one_at_least (slice_get ds n)

-- ---- types of declared objects

type_whole : (ds : List StructDef) (x : PlainType) → IsTrue (is_valid_type ds x) → IsTrue (is_whole x)
type_whole ds Void h = refl
type_whole ds (Int n s) h = h
type_whole ds (Pointer x) h = type_whole ds x h
type_whole ds (Array x n) h = type_whole ds x (front (is_valid_type ds x) (is_object ds (Array x n)) h)
type_whole ds (Struct n) h = refl

pub fit_whole : (ds : List StructDef) (x : PlainType) → IsTrue (is_fit ds x) → IsTrue (is_whole x)
fit_whole ds x h = type_whole ds x (front (is_valid_type ds x) (nat_le (depth_behind x) 257) h)

-- a type of objects that is no deeper than a type may be
pub object_depth : (ds : List StructDef) (x : PlainType) → IsTrue (is_object_type ds x) → IsTrue (nat_le (depth_behind x) 256)
object_depth ds x h =
    le-leb (depth_behind x) 256 (le_trans (behind_within ds x) (leb-true (depth_of ds x) 256 (back (is_valid_type ds x && is_object ds x) (nat_le (depth_of ds x) 256) h)))

pub object_fits : (ds : List StructDef) (x : PlainType) → IsTrue (is_object_type ds x) → IsTrue (is_fit ds x)
object_fits ds x h =
    let k = leb-true (depth_behind x) 256 (object_depth ds x h) in
    also (is_valid_type ds x) (nat_le (depth_behind x) 257) (front (is_valid_type ds x) (is_object ds x) (front (is_valid_type ds x && is_object ds x) (nat_le (depth_of ds x) 256) h)) (le-leb (depth_behind x) 257 (omega arith))

-- ---- sizes

pick : {X : Type 0} (n k : ℕ) (u : IntegerType) (rest : Option IntegerType) → IsTrue (is_some (if n == k then Some u else rest)) → (n ≡ k → X) → (IsTrue (is_some rest) → X) → X
pick {X} n k u rest h f g = of (n == k) refl h
  where
    of : (b : Bool) → n == k ≡ b → IsTrue (is_some (if b then Some u else rest)) → X
    of true e i = f (eqb-true n k e)
    of false e i = g i

small_integer : (n : ℕ) (s : Bool) → IsTrue (is_integer (Int n s)) → n ≤ 8
small_integer n true h = pick n 1 _ _ h (λ e. omega arith) (λ h. pick n 2 _ _ h (λ e. omega arith) (λ h. pick n 4 _ _ h (λ e. omega arith) (λ h. pick n 8 _ _ h (λ e. omega arith) (λ h. no_true h))))
small_integer n false h = pick n 1 _ _ h (λ e. omega arith) (λ h. pick n 2 _ _ h (λ e. omega arith) (λ h. pick n 4 _ _ h (λ e. omega arith) (λ h. pick n 8 _ _ h (λ e. omega arith) (λ h. no_true h))))

complete_struct : (ds : List StructDef) (d : StructDef) (b : Bool) → IsStruct ds d b → IsTrue b → IsCompleteStruct ds d
complete_struct ds d true h e = h
complete_struct ds d false h e = no_true e

struct_small : (ds : List StructDef) (o : Option StructDef) (n : ℕ) → slice_get ds n ≡ o → All (IsLawfulStruct ds) ds → IsTrue (is_complete o) → struct_size o < 2 ^ 64
struct_small ds None n e h k = no_true k
struct_small ds (Some d) n e h k =
    lt_of_le_of_lt (complete_struct ds d d.complete (all_at (IsLawfulStruct ds) ds n d h e) k).size (ltb-true MOST_DATA (2 ^ 64) refl)

object_small : (ds : List StructDef) (x : PlainType) → All (IsLawfulStruct ds) ds → IsTrue (is_object ds x) → IsTrue (is_whole x) → size_of ds x < 2 ^ 64
object_small ds Void h o w = no_true o
object_small ds (Int n s) h o w = lt_of_le_of_lt (small_integer n s w) (ltb-true 8 (2 ^ 64) refl)
object_small ds (Pointer x) h o w = ltb-true 8 (2 ^ 64) refl
object_small ds (Array x n) h o w =
    lt_of_le_of_lt (leb-true (size_of ds x * n) MOST_DATA (back (is_object ds x && nat_le 1 n) (nat_le (size_of ds x * n) MOST_DATA) o)) (ltb-true MOST_DATA (2 ^ 64) refl)
object_small ds (Struct n) h o w = struct_small ds (slice_get ds n) n refl h o

-- the size of a type by structs that the context knows
pub known_small : (c : Context) (ds : List StructDef) (ty : CType) → IsLawfulContext c → AreKnown ds c.structs → IsTrue (is_whole (type_view ty)) → IsSmall ds ty
known_small c ds ty lawful known w o =
    subst (λ s. s < 2 ^ 64) (known_size ds c.structs known (type_view ty) o) (object_small c.structs (type_view ty) lawful (known_object ds c.structs known (type_view ty) o) w)

-- ---- members

-- a member of a struct of the notes is one of the context's
pub member_known : (c : Context) (ds : List StructDef) (structure number : ℕ) (d : StructDef) (m : Member) → IsLawfulContext c → HasStructs c ds → slice_get ds structure ≡ Some d → slice_get d.members number ≡ Some m
    → IsMemberOf c (Struct structure) (record { number = number; ty = m.ty })
member_known c ds structure number d m lawful known e f = of d.complete refl
  where
    of : (b : Bool) → d.complete ≡ b → IsMemberOf c (Struct structure) (record { number = number; ty = m.ty })
    of false k = absurd (none-some m (ap (λ l. slice_get l number) (sym (known.members structure d e k)) ∙ f))
    of true k =
        let stands : slice_get c.structs structure ≡ Some d = known.complete structure (ap is_complete e ∙ k) ∙ e in
        let whole = complete_struct c.structs d d.complete (all_at (IsLawfulStruct c.structs) c.structs structure d lawful stands) k in
        let kind = list_all_at (λ (x : Member). is_object_type c.structs (type_view x.ty)) d.members number m whole.types f in
        record {
          member = also (is_complete (slice_get c.structs structure)) (has_member_type (struct_member (slice_get c.structs structure) number) (type_view m.ty))
              (ap is_complete stands ∙ k)
              (ap (λ o. has_member_type (struct_member o number) (type_view m.ty)) stands ∙ (ap (λ o. has_member_type o (type_view m.ty)) f ∙ alike (type_view m.ty)));
          fit = object_fits c.structs (type_view m.ty) kind;
          depth = object_depth c.structs (type_view m.ty) kind;
        }
