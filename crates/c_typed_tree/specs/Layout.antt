-- How types lie in memory: their size, their alignment and the places of members, in bytes (C99 6.5.3.4, 6.7.2.1).
--
-- A struct has its own size and alignment written down, so nothing here goes down into its members.
use Rattle.std.specs.Prelude.{◌≡◌, ℕ, zero, suc, ◌+◌, ◌*◌, ◌/◌, max, nat_le, Bool, true, false, ◌&&◌, List, [], ◌∷◌, slice_get, Option, Some, None}
use Rattle.bk_arithmetic.specs.declared.integer_type.IntegerType.{IntegerType}
use Rattle.bk_arithmetic.specs.IntegerTypes.{integer_type}
use Rattle.mem_objects.specs.declared.TheConstants.{MOST_DATA}
use Rattle.c_typed_tree.specs.declared.types.StructDef.{StructDef}
use Rattle.c_typed_tree.specs.declared.types.Member.{Member}
use Rattle.c_typed_tree.specs.Types.{PlainType, Void, Int, Pointer, Array, Struct}
use Rattle.c_typed_tree.specs.View.{type_view}

-- the integer type that a type is, if it is one
abbrev pub integer_of : PlainType → Option IntegerType
integer_of (Int bytes signed) = integer_type bytes signed
integer_of _ = None

abbrev pub struct_size : Option StructDef → ℕ
struct_size None = 0
struct_size (Some d) = d.size

abbrev pub struct_align : Option StructDef → ℕ
struct_align None = 1
struct_align (Some d) = d.align

abbrev pub size_of : List StructDef → PlainType → ℕ
size_of ds Void = 0
size_of ds (Int bytes signed) = bytes
size_of ds (Pointer target) = 8
size_of ds (Array element length) = size_of ds element * length
size_of ds (Struct number) = struct_size (slice_get ds number)

-- the alignment is the size, but that of an array is its element's
abbrev pub align_of : List StructDef → PlainType → ℕ
align_of ds Void = 1
align_of ds (Int bytes signed) = bytes
align_of ds (Pointer target) = 8
align_of ds (Array element length) = align_of ds element
align_of ds (Struct number) = struct_align (slice_get ds number)

-- a struct is there and its members are known
abbrev pub is_complete : Option StructDef → Bool
is_complete None = false
is_complete (Some d) = d.complete

-- a type that objects have, no larger than the data may be; an array has an element at least
abbrev pub is_object : List StructDef → PlainType → Bool
is_object ds Void = false
is_object ds (Int bytes signed) = true
is_object ds (Pointer target) = true
is_object ds (Array element length) =
    is_object ds element && nat_le 1 length && nat_le (size_of ds element * length) MOST_DATA
is_object ds (Struct number) = is_complete (slice_get ds number)

-- ---- members

-- the next multiple of an alignment, from a place on
abbrev pub aligned_up : (align place : ℕ) → ℕ
aligned_up zero place = place
aligned_up (suc a) place = (place + a) / suc a * suc a

-- the members lie in order from an end on, each at the next multiple of its alignment
abbrev pub MembersLieFrom : List StructDef → (end : ℕ) → List Member → Type 0
MembersLieFrom ds end [] = Unit {0}
MembersLieFrom ds end (m ∷ ms) =
    (m.offset ≡ aligned_up (align_of ds (type_view m.ty)) end)
    × MembersLieFrom ds (m.offset + size_of ds (type_view m.ty)) ms

-- the end of the last member
abbrev pub end_from : List StructDef → (end : ℕ) → List Member → ℕ
end_from ds end [] = end
end_from ds end (m ∷ ms) = end_from ds (m.offset + size_of ds (type_view m.ty)) ms

-- the greatest alignment of the members
abbrev pub greatest_align : List StructDef → List Member → ℕ
greatest_align ds [] = 1
greatest_align ds (m ∷ ms) = max (align_of ds (type_view m.ty)) (greatest_align ds ms)

-- a complete struct has the size and the alignment that its members give it
pub record IsLaidOut (ds : List StructDef) (d : StructDef) : Type 0 where
  pub members : MembersLieFrom ds 0 d.members
  pub align : d.align ≡ greatest_align ds d.members
  pub size : d.size ≡ aligned_up d.align (end_from ds 0 d.members)

-- the place of a member in its struct; 0 where it is not there
abbrev pub member_offset : Option Member → ℕ
member_offset None = 0
member_offset (Some m) = m.offset

abbrev pub struct_member : Option StructDef → (member : ℕ) → Option Member
struct_member None member = None
struct_member (Some d) member = slice_get d.members member

abbrev pub offset_of : List StructDef → (number member : ℕ) → ℕ
offset_of ds number member = member_offset (struct_member (slice_get ds number) member)
