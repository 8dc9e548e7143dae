-- A struct that is laid out by structs which are known is laid out among those that know them.
use Rattle.std.proofs.Common.{◌≡◌, ℕ, ◌+◌, ◌*◌, ◌≤◌, max, nat_le, Bool, true, false, ◌&&◌, IsTrue, List, [], ◌∷◌, Some, None, refl, sym, ap, ◌∙◌, subst, if◌then◌else◌, leb-true, arith}
use Rattle.std.proofs.lemmas.Option.{none-some, same_Some}
use Rattle.std.specs.List.{list_all}
use Rattle.mem_objects.specs.declared.TheConstants.{MOST_DATA}
use Rattle.c_typed_tree.specs.declared.types.CType.{CType}
use Rattle.c_typed_tree.specs.declared.types.StructDef.{StructDef}
use Rattle.c_typed_tree.specs.declared.types.Member.{Member}
use Rattle.c_typed_tree.specs.Types.{PlainType, Void, Int, Pointer, Array, Struct}
use Rattle.c_typed_tree.specs.View.{type_view}
use Rattle.c_typed_tree.specs.Layout.{is_object, size_of, align_of, struct_align, aligned_up, MembersLieFrom, end_from, greatest_align}
use Rattle.c_typed_tree.specs.Typing.{is_valid_type, depth_of, struct_depth, most_depth}
use Rattle.c_typed_tree.specs.Lawful.{IsLawfulStruct, is_object_type, greatest_depth}
use Rattle.c_typing_judgements.specs.Leaves.{incomplete_struct}
use Rattle.c_typing_struct_layout.specs.declared.fields.Field.{Field}
use Rattle.c_typing_struct_layout.specs.StructLayout.{offset_after, end_after, members_from, end_behind, deepest_member, struct_with, struct_of, whole_size}
use Rattle.c_typing_struct_bodies.specs.Members.{is_member_type}
use Rattle.c_typing_struct_bodies.specs.Structs.{struct_where}
use Rattle.c_typing_rules.specs.c_typing_declared_types.Depth.{is_deep_at_most}
use Rattle.c_typing_expression_sound.specs.c_type_laws.Typed.{AreKnown}
use Rattle.c_typing_expression_sound.proofs.CTypeLaws.Truth.{front, back, also, three, along}
use Rattle.c_typing_expression_sound.proofs.CTypeLaws.Types.{known_size, known_object}
use Rattle.c_typing_expression_sound.specs.c_struct_laws.Laws.{HaveTypes}

pub incomplete_lawful : (known : List StructDef) (name : List ℕ) → IsLawfulStruct known (incomplete_struct name)
incomplete_lawful known name = record { members = refl; size = refl; align = refl; depth = refl }

module _ (ds es : List StructDef) (k : AreKnown ds es) where
  -- ---- types of objects are the same among both

  pub same_align : (x : PlainType) → IsTrue (is_object ds x) → align_of es x ≡ align_of ds x
  same_align Void h = refl
  same_align (Int n s) h = refl
  same_align (Pointer x) h = refl
  same_align (Array x n) h = same_align x (front (is_object ds x) (nat_le 1 n) (front (is_object ds x && nat_le 1 n) (nat_le (size_of ds x * n) MOST_DATA) h))
  same_align (Struct n) h = ap struct_align (k n h)

  pub same_depth : (x : PlainType) → IsTrue (is_object ds x) → depth_of es x ≡ depth_of ds x
  same_depth Void h = refl
  same_depth (Int n s) h = refl
  same_depth (Pointer x) h = refl
  same_depth (Array x n) h = ap (λ d. 1 + d) (same_depth x (front (is_object ds x) (nat_le 1 n) (front (is_object ds x && nat_le 1 n) (nat_le (size_of ds x * n) MOST_DATA) h)))
  same_depth (Struct n) h = ap struct_depth (k n h)

  -- ---- the members

  abbrev AreMembers : List Field → Type 0
  AreMembers [] = Unit {0}
  AreMembers (f ∷ fs) = IsTrue (is_member_type ds f.ty) × AreMembers fs

  members_all : (fs : List Field) → IsTrue (list_all (λ (f : Field). is_member_type ds f.ty) fs) → AreMembers fs
  members_all [] h = tt
  members_all (f ∷ fs) h = (front (is_member_type ds f.ty) (list_all (λ (f : Field). is_member_type ds f.ty) fs) h, members_all fs (back (is_member_type ds f.ty) (list_all (λ (f : Field). is_member_type ds f.ty) fs) h))

  object_in : (ty : CType) → IsTrue (is_member_type ds ty) → IsTrue (is_object ds (type_view ty))
  object_in ty h = front (is_object ds (type_view ty)) (is_deep_at_most ds most_depth ty) h

  types_in : (end : ℕ) (fs : List Field) → AreMembers fs → HaveTypes es fs → IsTrue (list_all (λ (m : Member). is_object_type es (type_view m.ty)) (members_from ds end fs))
  types_in end [] h t = refl
  types_in end (f ∷ fs) h t =
      let own = type_view f.ty in
      also (is_object_type es own) (list_all (λ (m : Member). is_object_type es (type_view m.ty)) (members_from ds (end_after ds end f) fs))
      (three (is_valid_type es own) (is_object es own) (nat_le (depth_of es own) most_depth) t.0 (known_object ds es k own (object_in f.ty h.0))
      (along (λ d. nat_le d most_depth) (same_depth own (object_in f.ty h.0)) (back (is_object ds own) (is_deep_at_most ds most_depth f.ty) h.0)))
      (types_in (end_after ds end f) fs h.1 t.1)

  lie_in : (end : ℕ) (fs : List Field) → AreMembers fs → MembersLieFrom es end (members_from ds end fs)
  lie_in end [] h = tt
  lie_in end (f ∷ fs) h =
      let own = type_view f.ty in (
        ap (λ a. aligned_up a end) (sym (same_align own (object_in f.ty h.0))),
        subst (λ s. MembersLieFrom es (offset_after ds end f + s) (members_from ds (end_after ds end f) fs)) (sym (known_size ds es k own (object_in f.ty h.0))) (lie_in (end_after ds end f) fs h.1),
      )

  ends_in : (end : ℕ) (fs : List Field) → AreMembers fs → end_from es end (members_from ds end fs) ≡ end_behind ds end fs
  ends_in end [] h = refl
  ends_in end (f ∷ fs) h =
      ap (λ s. end_from es (offset_after ds end f + s) (members_from ds (end_after ds end f) fs)) (known_size ds es k (type_view f.ty) (object_in f.ty h.0)) ∙ ends_in (end_after ds end f) fs h.1

  align_in : (end : ℕ) (fs : List Field) → AreMembers fs → greatest_align es (members_from ds end fs) ≡ greatest_align ds (members_from ds end fs)
  align_in end [] h = refl
  align_in end (f ∷ fs) h =
      ap (λ a. max a (greatest_align es (members_from ds (end_after ds end f) fs))) (same_align (type_view f.ty) (object_in f.ty h.0))
      ∙ ap (max (align_of ds (type_view f.ty))) (align_in (end_after ds end f) fs h.1)

  deep_in : (end : ℕ) (fs : List Field) → AreMembers fs → greatest_depth es (members_from ds end fs) ≡ deepest_member ds fs
  deep_in end [] h = refl
  deep_in end (f ∷ fs) h =
      ap (λ a. max a (greatest_depth es (members_from ds (end_after ds end f) fs))) (same_depth (type_view f.ty) (object_in f.ty h.0))
      ∙ ap (max (depth_of ds (type_view f.ty))) (deep_in (end_after ds end f) fs h.1)

  -- none is deeper than a type may be
  deep_most : (fs : List Field) → AreMembers fs → deepest_member ds fs ≤ most_depth
  deep_most [] h = omega arith
  deep_most (f ∷ fs) h =
      let own = leb-true (depth_of ds (type_view f.ty)) most_depth (back (is_object ds (type_view f.ty)) (is_deep_at_most ds most_depth f.ty) h.0) in
      omega (arith, own, deep_most fs h.1)

  -- ---- the struct

  whole_lawful : (tag : List ℕ) (fs : List Field) → AreMembers fs → HaveTypes es fs
      → IsTrue (nat_le (whole_size ds (members_from ds 0 fs) (end_behind ds 0 fs)) MOST_DATA)
      → IsLawfulStruct es (struct_with ds tag (members_from ds 0 fs) (deepest_member ds fs) (whole_size ds (members_from ds 0 fs) (end_behind ds 0 fs)))
  whole_lawful tag fs h t small = record {
    types = types_in 0 fs h t;
    layout = record {
      members = lie_in 0 fs h;
      align = sym (align_in 0 fs h);
      size = ap (aligned_up (greatest_align ds (members_from ds 0 fs))) (sym (ends_in 0 fs h));
    };
    size = leb-true (whole_size ds (members_from ds 0 fs) (end_behind ds 0 fs)) MOST_DATA small;
    depth = ap (λ d. 1 + d) (sym (deep_in 0 fs h));
    bound = omega (arith, deep_most fs h);
  }

  pub struct_lawful : (tag : List ℕ) (fs : List Field) (d : StructDef) → HaveTypes es fs → struct_where ds tag fs ≡ Some d → IsLawfulStruct es d
  struct_lawful tag fs d t e = of (list_all (λ (f : Field). is_member_type ds f.ty) fs) refl e
    where
      within : (b : Bool) → nat_le (whole_size ds (members_from ds 0 fs) (end_behind ds 0 fs)) MOST_DATA ≡ b → AreMembers fs
          → (if b then Some (struct_with ds tag (members_from ds 0 fs) (deepest_member ds fs) (whole_size ds (members_from ds 0 fs) (end_behind ds 0 fs))) else None) ≡ Some d → IsLawfulStruct es d
      within true small h e = subst (IsLawfulStruct es) (same_Some _ d e) (whole_lawful tag fs h t small)
      within false small h e = absurd (none-some d e)

      of : (b : Bool) → list_all (λ (f : Field). is_member_type ds f.ty) fs ≡ b → (if b then struct_of ds tag fs else None) ≡ Some d → IsLawfulStruct es d
      of true all e = within (nat_le (whole_size ds (members_from ds 0 fs) (end_behind ds 0 fs)) MOST_DATA) refl (members_all fs all) e
      of false all e = absurd (none-some d e)
