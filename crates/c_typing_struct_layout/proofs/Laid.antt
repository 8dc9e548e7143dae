-- A struct of members that are placed one after the other is laid out.
use Rattle.std.proofs.Common.{◌≡◌, ℕ, ◌+◌, max, Bool, true, false, cond, List, [], ◌∷◌, Option, Some, None, refl, sym, ap, subst, nat_le}
use Rattle.mem_objects.specs.declared.TheConstants.{MOST_DATA}
use Rattle.c_typed_tree.specs.declared.types.StructDef.{StructDef}
use Rattle.c_typed_tree.specs.Layout.{MembersLieFrom, IsLaidOut, end_from, greatest_align, aligned_up}
use Rattle.c_typed_tree.specs.Lawful.{greatest_depth}
use Rattle.c_typed_tree.specs.Typing.{depth_of}
use Rattle.c_typed_tree.specs.View.{type_view}
use Rattle.c_typing_struct_layout.specs.declared.fields.Field.{Field}
use Rattle.c_typing_struct_layout.specs.StructLayout.{end_after, members_from, end_behind, deepest_member, struct_with, struct_of}

lies : (ds : List StructDef) (end : ℕ) (fs : List Field) → MembersLieFrom ds end (members_from ds end fs)
lies ds end [] = tt
lies ds end (f ∷ fs) = (refl, lies ds (end_after ds end f) fs)

ends : (ds : List StructDef) (end : ℕ) (fs : List Field)
    → end_from ds end (members_from ds end fs) ≡ end_behind ds end fs
ends ds end [] = refl
ends ds end (f ∷ fs) = ends ds (end_after ds end f) fs

deep_from : (ds : List StructDef) (end : ℕ) (fs : List Field)
    → greatest_depth ds (members_from ds end fs) ≡ deepest_member ds fs
deep_from ds end [] = refl
deep_from ds end (f ∷ fs) = ap (max (depth_of ds (type_view f.ty))) (deep_from ds (end_after ds end f) fs)

module _ (ds : List StructDef) (tag : List ℕ) (fs : List Field) where
  whole : StructDef
  whole =
      struct_with ds tag (members_from ds 0 fs) (deepest_member ds fs)
      (aligned_up (greatest_align ds (members_from ds 0 fs)) (end_behind ds 0 fs))

  is_whole : (d : StructDef) → struct_of ds tag fs ≡ Some d → whole ≡ d
  unfolding whole
  is_whole d h = by (nat_le (aligned_up (greatest_align ds (members_from ds 0 fs)) (end_behind ds 0 fs)) MOST_DATA) h
    where
      by : (b : Bool) → ◌≡◌ {A = Option StructDef} (cond b (Some whole) None) (Some d) → whole ≡ d
      by true e = cc
      by false e = let clash : ⊥ = cc in absurd clash

  whole_laid : IsLaidOut ds whole
  unfolding whole
  whole_laid = record {
    members = lies ds 0 fs;
    align = refl;
    size = ap (aligned_up (greatest_align ds (members_from ds 0 fs))) (sym (ends ds 0 fs));
  }

  whole_deep : whole.depth ≡ 1 + greatest_depth ds whole.members
  unfolding whole
  whole_deep = ap (λ n. 1 + n) (sym (deep_from ds 0 fs))

  pub laid_out_fields : (d : StructDef) → struct_of ds tag fs ≡ Some d → IsLaidOut ds d
  laid_out_fields d h = subst (IsLaidOut ds) (is_whole d h) whole_laid

  pub deep : (d : StructDef) → struct_of ds tag fs ≡ Some d → d.depth ≡ 1 + greatest_depth ds d.members
  deep d h = subst (λ (x : StructDef). x.depth ≡ 1 + greatest_depth ds x.members) (is_whole d h) whole_deep
