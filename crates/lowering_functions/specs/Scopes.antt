-- The types of locals.
use Rattle.std.specs.Prelude.{◌<◌, ◌^◌, IsTrue, List}
use Rattle.c_typed_tree.specs.declared.types.StructDef.{StructDef}
use Rattle.c_typed_tree.specs.declared.units.Local.{Local}
use Rattle.c_typed_tree.specs.View.{type_view}
use Rattle.c_typed_tree.specs.Layout.{is_object, align_of}

-- a local has a type of objects, whose alignment is a number of 32 bits
abbrev pub LocalHasSize : List StructDef → Local → Type 0
LocalHasSize ds l = IsTrue (is_object ds (type_view l.ty)) × (align_of ds (type_view l.ty) < 2 ^ 32)
