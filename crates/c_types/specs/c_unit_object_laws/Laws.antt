-- What the names of objects and functions of file scope mean, along declarations without faults.
use Rattle.std.specs.Prelude.{List}
use Rattle.c_typed_tree.specs.declared.types.StructDef.{StructDef}
use Rattle.c_tree.specs.declared.declarations.External.{External}
use Rattle.c_typing_definitions.specs.declared.names.Definitions.{Definitions}
use Rattle.c_typing_declarations.specs.Walk.{UnitWalk}
use Rattle.c_typing_expression_sound.specs.c_struct_laws.Growth.{Grow}
use Rattle.c_types.specs.c_unit_meaning_laws.Walks.{WalkSteps}
use Rattle.c_types.specs.c_unit_object_laws.Meant.{GoesTo, AreMeant, HasObjects}

abbrev pub WalksGoOn : Type 0
WalksGoOn = (ds : Definitions) (es : List External) (w v : UnitWalk) → WalkSteps ds es w v → GoesTo w.1 v.1

-- among structs that have grown from those at the end
abbrev pub NamesAreMeant : Type 0
NamesAreMeant =
    (ds : Definitions) (es : List External) (structs : List StructDef) (w v : UnitWalk) → WalkSteps ds es w v →
    Grow v.1.1.structs structs → AreMeant structs w.1.0 → AreMeant structs v.1.0

abbrev pub ObjectsAreNumbered : Type 0
ObjectsAreNumbered =
    (ds : Definitions) (es : List External) (w v : UnitWalk) → WalkSteps ds es w v → HasObjects w.0 w.1.0 →
    HasObjects v.0 v.1.0
