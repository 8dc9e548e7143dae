-- Where members lie, as long as they lie within the data.
use Rattle.std.specs.Prelude.{ℕ, nat_le, if◌then◌else◌, List, Option, Some, None}
use Rattle.mem_objects.specs.declared.TheConstants.{MOST_DATA}
use Rattle.c_typed_tree.specs.declared.types.StructDef.{StructDef}
use Rattle.c_typing_struct_layout.specs.declared.fields.Field.{Field}
use Rattle.c_typing_struct_layout.specs.declared.places.Span.{Span}
use Rattle.c_typing_struct_layout.specs.declared.fields.Placement.{Placement}
use Rattle.c_typing_struct_layout.specs.StructLayout.{offset_after, end_after, members_from, end_behind}

abbrev pub span : List StructDef → (end : ℕ) → Field → Option Span
span ds end f =
    if nat_le (end_after ds end f) MOST_DATA then Some
    (record { from = offset_after ds end f; to = end_after ds end f })
    else None

abbrev pub placement_of_fields : List StructDef → List Field → Option Placement
placement_of_fields ds fs =
    if nat_le (end_behind ds 0 fs) MOST_DATA
    then Some (record { members = members_from ds 0 fs; end = end_behind ds 0 fs })
    else None
