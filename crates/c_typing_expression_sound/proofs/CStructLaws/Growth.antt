-- What is lawful among structs stays lawful where they grow.
use Rattle.std.proofs.Common.{◌≡◌, ℕ, zero, suc, ◌+◌, ◌≤◌, ◌<◌, max, nat_le, Bool, true, false, ◌&&◌, IsTrue, List, [], ◌∷◌, ◌++◌, length, slice_get, is_some, Option, Some, None, refl, sym, ap, ◌∙◌, subst, arith}
use Rattle.std.proofs.lemmas.Option.{none-some, slice_get_within}
use Rattle.std.specs.List.{list_all}
use Rattle.c_typed_tree.specs.declared.types.StructDef.{StructDef}
use Rattle.c_typed_tree.specs.declared.types.Member.{Member}
use Rattle.c_typed_tree.specs.Types.{PlainType, Void, Int, Pointer, Array, Struct}
use Rattle.c_typed_tree.specs.View.{type_view}
use Rattle.c_typed_tree.specs.Layout.{is_complete, is_object, size_of, align_of, aligned_up, MembersLieFrom, end_from, greatest_align}
use Rattle.c_typed_tree.specs.Typing.{is_valid_type, depth_of, most_depth}
use Rattle.c_typed_tree.specs.Lawful.{IsLawfulStruct, IsStruct, IsCompleteStruct, is_object_type, greatest_depth}
use Rattle.c_typing_expression_sound.proofs.CTypeLaws.Truth.{no_true, front, back, also, three, along}
use Rattle.c_typing_expression_sound.proofs.CTypeLaws.Types.{known_size, known_object}
use Rattle.c_typing_expression_sound.specs.c_struct_laws.Growth.{Grow}
use Rattle.c_typing_expression_sound.proofs.CStructLaws.Lawful.{same_align, same_depth}

-- ---- structs that are there

pub is_there : (ds : List StructDef) (n : ℕ) → n < length ds → IsTrue (is_some (slice_get ds n))
is_there [] n h = absurd (none h)
  where
    none : n < 0 → ⊥
    none h = omega (arith, h)
is_there (d ∷ ds) zero h = refl
is_there (d ∷ ds) (suc n) h = is_there ds n (omega (arith, h))

pub grow_itself : (ds : List StructDef) → Grow ds ds
grow_itself ds = record { known = λ n h. refl; longer = omega arith }

pub grow_then : (ds es fs : List StructDef) → Grow ds es → Grow es fs → Grow ds fs
grow_then ds es fs h g = record {
  known = λ n e. let same = h.known n e in g.known n (ap is_complete same ∙ e) ∙ same;
  longer = omega (arith, h.longer, g.longer);
}

appended_get : {A : Type 0} (xs ys : List A) (k : ℕ) (x : A) → slice_get xs k ≡ Some x → slice_get (xs ++ ys) k ≡ Some x
appended_get [] ys k x e = absurd (none-some x e)
appended_get (z ∷ xs) ys zero x e = e
appended_get (z ∷ xs) ys (suc k) x e = appended_get xs ys k x e

appended_longer : {A : Type 0} (xs ys : List A) → length xs ≤ length (xs ++ ys)
appended_longer [] ys = omega arith
appended_longer (x ∷ xs) ys = omega (arith, appended_longer xs ys)

pub grow_more : (ds more : List StructDef) → Grow ds (ds ++ more)
grow_more ds more = record { known = λ k e. of k (slice_get ds k) refl e; longer = appended_longer ds more }
  where
    of : (k : ℕ) (o : Option StructDef) → slice_get ds k ≡ o → IsTrue (is_complete o) → slice_get (ds ++ more) k ≡ o
    of k None e f = no_true f
    of k (Some d) e f = appended_get ds more k d e

module _ (ds es : List StructDef) (g : Grow ds es) where
  pub there_stays : (n : ℕ) → IsTrue (is_some (slice_get ds n)) → IsTrue (is_some (slice_get es n))
  there_stays n h = of (slice_get ds n) refl h
    where
      of : (o : Option StructDef) → slice_get ds n ≡ o → IsTrue (is_some o) → IsTrue (is_some (slice_get es n))
      of None e h = no_true h
      of (Some d) e h = is_there es n (omega (arith, slice_get_within ds n d e, g.longer))

  -- ---- types

  pub type_stays : (x : PlainType) → IsTrue (is_valid_type ds x) → IsTrue (is_valid_type es x)
  type_stays Void h = refl
  type_stays (Int n s) h = h
  type_stays (Pointer x) h = type_stays x h
  type_stays (Array x n) h =
      also (is_valid_type es x) (is_object es (Array x n)) (type_stays x (front (is_valid_type ds x) (is_object ds (Array x n)) h))
      (known_object ds es g.known (Array x n) (back (is_valid_type ds x) (is_object ds (Array x n)) h))
  type_stays (Struct n) h = there_stays n h

  object_in : (x : PlainType) → IsTrue (is_object_type ds x) → IsTrue (is_object ds x)
  object_in x h = back (is_valid_type ds x) (is_object ds x) (front (is_valid_type ds x && is_object ds x) (nat_le (depth_of ds x) most_depth) h)

  object_type_stays : (x : PlainType) → IsTrue (is_object_type ds x) → IsTrue (is_object_type es x)
  object_type_stays x h =
      let parts = front (is_valid_type ds x && is_object ds x) (nat_le (depth_of ds x) most_depth) h in
      three (is_valid_type es x) (is_object es x) (nat_le (depth_of es x) most_depth) (type_stays x (front (is_valid_type ds x) (is_object ds x) parts))
      (known_object ds es g.known x (object_in x h))
      (along (λ d. nat_le d most_depth) (same_depth ds es g.known x (object_in x h)) (back (is_valid_type ds x && is_object ds x) (nat_le (depth_of ds x) most_depth) h))

  -- ---- members

  abbrev AreMembers : List Member → Type 0
  AreMembers [] = Unit {0}
  AreMembers (m ∷ ms) = IsTrue (is_object_type ds (type_view m.ty)) × AreMembers ms

  members_all : (ms : List Member) → IsTrue (list_all (λ (m : Member). is_object_type ds (type_view m.ty)) ms) → AreMembers ms
  members_all [] h = tt
  members_all (m ∷ ms) h =
      let own = is_object_type ds (type_view m.ty) in
      let rest = list_all (λ (m : Member). is_object_type ds (type_view m.ty)) ms in
      (front own rest h, members_all ms (back own rest h))

  types_stay : (ms : List Member) → AreMembers ms → IsTrue (list_all (λ (m : Member). is_object_type es (type_view m.ty)) ms)
  types_stay [] h = refl
  types_stay (m ∷ ms) h =
      also (is_object_type es (type_view m.ty)) (list_all (λ (m : Member). is_object_type es (type_view m.ty)) ms) (object_type_stays (type_view m.ty) h.0) (types_stay ms h.1)

  lie_stays : (end : ℕ) (ms : List Member) → AreMembers ms → MembersLieFrom ds end ms → MembersLieFrom es end ms
  lie_stays end [] h l = tt
  lie_stays end (m ∷ ms) h l =
      let own = type_view m.ty in
      let object = object_in own h.0 in (
        l.0 ∙ ap (λ a. aligned_up a end) (sym (same_align ds es g.known own object)),
        subst (λ s. MembersLieFrom es (m.offset + s) ms) (sym (known_size ds es g.known own object)) (lie_stays (m.offset + size_of ds own) ms h.1 l.1),
      )

  ends_stay : (end : ℕ) (ms : List Member) → AreMembers ms → end_from es end ms ≡ end_from ds end ms
  ends_stay end [] h = refl
  ends_stay end (m ∷ ms) h =
      ap (λ s. end_from es (m.offset + s) ms) (known_size ds es g.known (type_view m.ty) (object_in (type_view m.ty) h.0)) ∙ ends_stay (m.offset + size_of ds (type_view m.ty)) ms h.1

  align_stays : (ms : List Member) → AreMembers ms → greatest_align es ms ≡ greatest_align ds ms
  align_stays [] h = refl
  align_stays (m ∷ ms) h =
      ap (λ a. max a (greatest_align es ms)) (same_align ds es g.known (type_view m.ty) (object_in (type_view m.ty) h.0))
      ∙ ap (max (align_of ds (type_view m.ty))) (align_stays ms h.1)

  deep_stays : (ms : List Member) → AreMembers ms → greatest_depth es ms ≡ greatest_depth ds ms
  deep_stays [] h = refl
  deep_stays (m ∷ ms) h =
      ap (λ a. max a (greatest_depth es ms)) (same_depth ds es g.known (type_view m.ty) (object_in (type_view m.ty) h.0))
      ∙ ap (max (depth_of ds (type_view m.ty))) (deep_stays ms h.1)

  -- ---- structs

  complete_stays : (d : StructDef) → IsCompleteStruct ds d → IsCompleteStruct es d
  complete_stays d h =
      let are = members_all d.members h.types in
      record {
        types = types_stay d.members are;
        layout = record {
          members = lie_stays 0 d.members are h.layout.members;
          align = h.layout.align ∙ sym (align_stays d.members are);
          size = h.layout.size ∙ ap (aligned_up d.align) (sym (ends_stay 0 d.members are));
        };
        size = h.size;
        depth = h.depth ∙ ap (λ n. 1 + n) (sym (deep_stays d.members are));
        bound = h.bound;
      }

  struct_stays_where : (d : StructDef) (complete : Bool) → IsStruct ds d complete → IsStruct es d complete
  struct_stays_where d true h = complete_stays d h
  struct_stays_where d false h = h

  pub struct_stays : (d : StructDef) → IsLawfulStruct ds d → IsLawfulStruct es d
  struct_stays d h = struct_stays_where d d.complete h
