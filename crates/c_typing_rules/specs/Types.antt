-- Types of structs whose members are known.
use Rattle.std.specs.Prelude.{Bool, false, List, slice_get}
use Rattle.c_typed_tree.specs.declared.types.StructDef.{StructDef}
use Rattle.c_typed_tree.specs.Types.{PlainType, Pointer, Struct}
use Rattle.c_typed_tree.specs.Layout.{is_complete}

abbrev pub is_complete_struct : List StructDef → PlainType → Bool
is_complete_struct ds (Struct number) = is_complete (slice_get ds number)
is_complete_struct ds _ = false

-- a pointer to one
abbrev pub points_to_struct : List StructDef → PlainType → Bool
points_to_struct ds (Pointer target) = is_complete_struct ds target
points_to_struct ds _ = false
