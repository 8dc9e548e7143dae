-- The parts of an object that the items of a list initialise (C99 6.7.8): the elements of an array and the members of a
-- struct, in order.
use Rattle.std.specs.Prelude.{ℕ, ◌*◌, ◌+◌, nat_lt, nat_le, ◌==◌, Bool, false, ◌||◌, if◌then◌else◌, List, Option, Some, None, slice_get, length}
use Rattle.c_typed_tree.specs.declared.types.CType as t
use Rattle.c_typed_tree.specs.declared.types.StructDef.{StructDef}
use Rattle.c_typed_tree.specs.declared.types.Member.{Member}
use Rattle.c_typed_tree.specs.Types.{PlainType, Int}
use Rattle.c_typed_tree.specs.Layout.{size_of, struct_member}
use Rattle.c_typed_tree.specs.Typing.{is_array, is_struct}
use Rattle.c_typed_tree.specs.View.{type_view}
use Rattle.c_typing_initial_values.specs.declared.parts.ObjectPart.{ObjectPart}

-- arrays and structs have parts
abbrev pub is_aggregate : t.CType → Bool
is_aggregate ty = is_array (type_view ty) || is_struct (type_view ty)

abbrev pub part_of_element : List StructDef → (element : t.CType) → (length k : ℕ) → Option ObjectPart
part_of_element ds element length k =
    if nat_lt k length then Some (record { place = size_of ds (type_view element) * k; ty = element }) else None

abbrev pub part_of_member : Option Member → Option ObjectPart
part_of_member None = None
part_of_member (Some m) = Some (record { place = m.offset; ty = m.ty })

-- the part with a number, from 0 on; there are no more than the type has
unfoldable pub part_of : List StructDef → t.CType → (k : ℕ) → Option ObjectPart
part_of ds t.Void k = None
part_of ds (t.Int bytes signed) k = None
part_of ds (t.Pointer' _ target) k = None
part_of ds (t.Array' _ (t.more_of-CType x t.end_of-CType) length) k = part_of_element ds x length k
part_of ds (t.Struct number) k = part_of_member (struct_member (slice_get ds number) k)

-- ---- arrays that a text initialises: those of `char` and `unsigned char`

abbrev pub is_character : PlainType → Bool
is_character (Int bytes signed) = bytes == 1
is_character _ = false

abbrev pub room_with : (element : t.CType) → (length : ℕ) → Option ℕ
room_with element length = if is_character (type_view element) then Some length else None

-- the length of such an array
unfoldable pub part_room : t.CType → Option ℕ
part_room t.Void = None
part_room (t.Int bytes signed) = None
part_room (t.Pointer' _ target) = None
part_room (t.Array' _ (t.more_of-CType x t.end_of-CType) length) = room_with x length
part_room (t.Struct number) = None

-- the zero at the end of a text is left out where there is room for all but it
abbrev pub is_room_for : (room : ℕ) → (text : List ℕ) → Bool
is_room_for room text = nat_le (length text) (room + 1)
