-- Structs nest no deeper than their depth, by which their alignments are those of their members.
use Rattle.std.proofs.Common.{◌≡◌, ℕ, zero, suc, ◌+◌, ◌*◌, ◌/◌, ◌≤◌, ◌<◌, ◌==◌, max, nat_le, Bool, true, false, ◌&&◌, ◌||◌, IsTrue, List, [], ◌∷◌, Option, Some, None, refl, sym, ap, ◌∙◌, subst, if◌then◌else◌, arith}
use Rattle.std.specs.Prelude.{All, slice_get, is_some}
use Rattle.std.specs.List.{list_all}
use Rattle.mem_objects.specs.declared.TheConstants.{MOST_DATA}
use Rattle.bk_arithmetic.specs.declared.integer_type.IntegerType.TheVariants as i
use Rattle.bk_arithmetic.specs.IntegerTypes.{integer_type}
use Rattle.c_typed_tree.specs.declared.types.StructDef.{StructDef}
use Rattle.c_typed_tree.specs.declared.types.Member.{Member}
use Rattle.c_typed_tree.specs.Types.{PlainType, Void, Int, Pointer, Array, Struct}
use Rattle.c_typed_tree.specs.View.{type_view}
use Rattle.c_typed_tree.specs.Layout.{is_object, is_complete, size_of, align_of, struct_align, aligned_up, MembersLieFrom, end_from, greatest_align}
use Rattle.c_typed_tree.specs.Typing.{is_valid_type, depth_of, struct_depth, most_depth}
use Rattle.c_typed_tree.specs.Lawful.{IsLawfulStruct, IsStruct, IsCompleteStruct, is_object_type, greatest_depth}
use Rattle.c_typing_struct_layout.proofs.Rounding.{aligned_up_ge}
use Rattle.c_typing_struct_layout.specs.c_layout_laws.Laws.{is_alignment}
use Rattle.c_typing_struct_layout.proofs.CLayoutLaws.Truth.{no_true, front, back, none_some, all_at}

-- ---- alignments

greater_aligned : (a b : ℕ) → IsTrue (is_alignment a) → IsTrue (is_alignment b) → IsTrue (is_alignment (max a b))
greater_aligned a b h k = by (nat_le a b) refl
  where
    by : (le : Bool) → nat_le a b ≡ le → IsTrue (is_alignment (max a b))
    by true e = let m : max a b ≡ b = grind arith in rw m k
    by false e = let m : max a b ≡ a = grind arith in rw m h

integer_aligned : (n : ℕ) (s : Bool) → IsTrue (is_some (integer_type n s)) → IsTrue (is_alignment n)
integer_aligned n true h = by (n == 1) (n == 2) (n == 4) (n == 8) h
  where
    by : (a b c d : Bool) → IsTrue (is_some (if a then Some i.Char else if b then Some i.Short else if c then Some i.Int else if d then Some i.Long else None)) → IsTrue (a || b || c || d)
    by true b c d h = refl
    by false true c d h = refl
    by false false true d h = refl
    by false false false true h = refl
    by false false false false h = no_true h
integer_aligned n false h = by (n == 1) (n == 2) (n == 4) (n == 8) h
  where
    by : (a b c d : Bool) → IsTrue (is_some (if a then Some i.UnsignedChar else if b then Some i.UnsignedShort else if c then Some i.UnsignedInt else if d then Some i.UnsignedLong else None)) → IsTrue (a || b || c || d)
    by true b c d h = refl
    by false true c d h = refl
    by false false true d h = refl
    by false false false true h = refl
    by false false false false h = no_true h

module _ (ds : List StructDef) where
  depth_above : (ty : PlainType) → 0 < depth_of ds ty
  depth_above Void = omega arith
  depth_above (Int n s) = omega arith
  depth_above (Pointer x) = omega arith
  depth_above (Array x n) = omega arith
  depth_above (Struct n) = by (slice_get ds n)
    where
      by : (d : Option StructDef) → 0 < struct_depth d
      by None = omega arith
      by (Some d) = omega arith

  -- ---- members

  pub ends_ge : (end : ℕ) (ms : List Member) → MembersLieFrom ds end ms → end ≤ end_from ds end ms
  ends_ge end [] h = omega arith
  ends_ge end (m ∷ ms) h = omega (arith, h.0, aligned_up_ge (align_of ds (type_view m.ty)) end, ends_ge (m.offset + size_of ds (type_view m.ty)) ms h.1)

  pub member_within : (end k : ℕ) (ms : List Member) (m : Member) → MembersLieFrom ds end ms → slice_get ms k ≡ Some m → m.offset + size_of ds (type_view m.ty) ≤ end_from ds end ms
  member_within end k [] m h e = none_some m e
  member_within end zero (x ∷ ms) m h e =
      let same : x ≡ m = cc in
      subst (λ y. y.offset + size_of ds (type_view y.ty) ≤ end_from ds end (x ∷ ms)) same (ends_ge (x.offset + size_of ds (type_view x.ty)) ms h.1)
  member_within end (suc k) (x ∷ ms) m h e = member_within (x.offset + size_of ds (type_view x.ty)) k ms m h.1 e

  module _ (lawful : All (IsLawfulStruct ds) ds) where
    pub complete_at : (n : ℕ) (d : StructDef) → slice_get ds n ≡ Some d → d.complete ≡ true → IsCompleteStruct ds d
    complete_at n d e c = subst (IsStruct ds d) c (all_at (IsLawfulStruct ds) ds n d lawful e)

    -- what is to be shown of each type
    abbrev IsAligned : PlainType → Type 0
    IsAligned ty = IsTrue (is_valid_type ds ty) → IsTrue (is_object ds ty) → IsTrue (is_alignment (align_of ds ty))

    module _ (k : ℕ) (below : (ty : PlainType) → depth_of ds ty ≤ k → IsAligned ty) where
      members_aligned : (ms : List Member) → greatest_depth ds ms ≤ k → IsTrue (list_all (λ (m : Member). is_object_type ds (type_view m.ty)) ms) → IsTrue (is_alignment (greatest_align ds ms))
      members_aligned [] d h = refl
      members_aligned (m ∷ ms) d h =
          let own = type_view m.ty in
          let all = list_all (λ (m : Member). is_object_type ds (type_view m.ty)) ms in
          let this = front (is_object_type ds own) all h in
          let both = front (is_valid_type ds own && is_object ds own) (nat_le (depth_of ds own) most_depth) this in
          greater_aligned (align_of ds own) (greatest_align ds ms)
          (below own (omega (arith, d)) (front (is_valid_type ds own) (is_object ds own) both) (back (is_valid_type ds own) (is_object ds own) both))
          (members_aligned ms (omega (arith, d)) (back (is_object_type ds own) all h))

      struct_aligned : (n : ℕ) (d : Option StructDef) → slice_get ds n ≡ d → struct_depth d ≤ suc k → IsTrue (is_complete d) → IsTrue (is_alignment (struct_align d))
      struct_aligned n None e h c = no_true c
      struct_aligned n (Some d) e h c =
          let whole : IsCompleteStruct ds d = complete_at n d e c in
          let low : greatest_depth ds d.members ≤ k = omega (arith, whole.depth, h) in
          rw whole.layout.align (members_aligned d.members low whole.types)

      one_more : (ty : PlainType) → depth_of ds ty ≤ suc k → IsAligned ty
      one_more Void h t o = no_true o
      one_more (Int n s) h t o = integer_aligned n s t
      one_more (Pointer x) h t o = refl
      one_more (Array x n) h t o =
          one_more x (omega (arith, h)) (front (is_valid_type ds x) (is_object ds (Array x n)) t)
          (front (is_object ds x) (nat_le 1 n) (front (is_object ds x && nat_le 1 n) (nat_le (size_of ds x * n) MOST_DATA) o))
      one_more (Struct n) h t o = struct_aligned n (slice_get ds n) refl h o

    type_aligned : (k : ℕ) (ty : PlainType) → depth_of ds ty ≤ k → IsAligned ty
    type_aligned zero ty h = absurd (omega (arith, h, depth_above ty))
    type_aligned (suc k) ty h = one_more k (type_aligned k) ty h

    pub aligned_type : (ty : PlainType) → IsAligned ty
    aligned_type ty = type_aligned (depth_of ds ty) ty (omega arith)

    -- ---- structs

    multiple : (a end : ℕ) → IsTrue (is_alignment a) → (q : ℕ) × (aligned_up a end ≡ q * a)
    multiple zero end h = no_true h
    multiple (suc a) end h = ((end + a) / suc a, refl)

    pub struct_aligned_at : (n : ℕ) (d : StructDef) → slice_get ds n ≡ Some d → d.complete ≡ true → IsTrue (is_alignment d.align)
    struct_aligned_at n d e c = struct_aligned (struct_depth (Some d)) (type_aligned (struct_depth (Some d))) n (Some d) e (omega arith) c

    pub struct_multiple : (n : ℕ) (d : StructDef) → slice_get ds n ≡ Some d → d.complete ≡ true → (q : ℕ) × (d.size ≡ q * d.align)
    struct_multiple n d e c =
        let whole : IsCompleteStruct ds d = complete_at n d e c in
        let small : IsTrue (is_alignment d.align) = struct_aligned_at n d e c in
        let q = multiple d.align (end_from ds 0 d.members) small in
        (q.0, whole.layout.size ∙ q.1)

    -- a member of a struct that is not complete is not there
    pub members_within : (n k : ℕ) (d : StructDef) (m : Member) → slice_get ds n ≡ Some d → slice_get d.members k ≡ Some m → m.offset + size_of ds (type_view m.ty) ≤ d.size
    members_within n k d m e at = by d.complete refl
      where
        by : (c : Bool) → d.complete ≡ c → m.offset + size_of ds (type_view m.ty) ≤ d.size
        by true c =
            let whole : IsCompleteStruct ds d = complete_at n d e c in
            omega (arith, whole.layout.size, aligned_up_ge d.align (end_from ds 0 d.members), member_within 0 k d.members m whole.layout.members at)
        by false c =
            let bare = subst (IsStruct ds d) c (all_at (IsLawfulStruct ds) ds n d lawful e) in
            none_some m (sym (ap (λ ms. slice_get ms k) bare.members) ∙ at)
