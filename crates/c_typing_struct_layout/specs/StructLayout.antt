-- A struct from its members' names and types: each member lies at the next multiple of its alignment, and the whole is
-- rounded up to the greatest alignment (C99 6.7.2.1).
use Rattle.std.specs.Prelude.{ℕ, ◌+◌, max, nat_le, true, if◌then◌else◌, List, [], ◌∷◌, Option, Some, None}
use Rattle.mem_objects.specs.declared.TheConstants.{MOST_DATA}
use Rattle.c_typed_tree.specs.declared.types.StructDef.{StructDef}
use Rattle.c_typed_tree.specs.declared.types.Member.{Member}
use Rattle.c_typed_tree.specs.Layout.{size_of, align_of, aligned_up, greatest_align}
use Rattle.c_typed_tree.specs.Typing.{depth_of}
use Rattle.c_typed_tree.specs.View.{type_view}
use Rattle.c_typing_struct_layout.specs.declared.fields.Field.{Field}

-- a member of which the one before ends at `end`
abbrev pub offset_after : List StructDef → (end : ℕ) → Field → ℕ
offset_after ds end f = aligned_up (align_of ds (type_view f.ty)) end

abbrev pub end_after : List StructDef → (end : ℕ) → Field → ℕ
end_after ds end f = offset_after ds end f + size_of ds (type_view f.ty)

abbrev pub member_after : List StructDef → (end : ℕ) → Field → Member
member_after ds end f = record { name = f.name; ty = f.ty; offset = offset_after ds end f }

-- the members in order, and where the last one ends
abbrev pub members_from : List StructDef → (end : ℕ) → List Field → List Member
members_from ds end [] = []
members_from ds end (f ∷ fs) = member_after ds end f ∷ members_from ds (end_after ds end f) fs

abbrev pub end_behind : List StructDef → (end : ℕ) → List Field → ℕ
end_behind ds end [] = end
end_behind ds end (f ∷ fs) = end_behind ds (end_after ds end f) fs

-- the depth of the deepest member
abbrev pub deepest_member : List StructDef → List Field → ℕ
deepest_member ds [] = 0
deepest_member ds (f ∷ fs) = max (depth_of ds (type_view f.ty)) (deepest_member ds fs)

-- a struct of these members, of this size
abbrev pub struct_with : List StructDef → (tag : List ℕ) → (members : List Member) → (depth size : ℕ) → StructDef
struct_with ds tag ms depth size = record {
  tag = tag;
  complete = true;
  members = ms;
  size = size;
  align = greatest_align ds ms;
  depth = 1 + depth;
}

abbrev pub struct_within :
    List StructDef → (tag : List ℕ) → (members : List Member) → (depth size : ℕ) → Option StructDef
struct_within ds tag ms depth size =
    if nat_le size MOST_DATA then Some (struct_with ds tag ms depth size) else None

-- members that end there, rounded up to the greatest alignment
abbrev pub whole_size : List StructDef → List Member → (end : ℕ) → ℕ
whole_size ds ms end = aligned_up (greatest_align ds ms) end

-- the struct, unless it is larger than the data may be
abbrev pub struct_of : List StructDef → (tag : List ℕ) → List Field → Option StructDef
struct_of ds tag fs =
    struct_within ds tag (members_from ds 0 fs) (deepest_member ds fs)
    (whole_size ds (members_from ds 0 fs) (end_behind ds 0 fs))
