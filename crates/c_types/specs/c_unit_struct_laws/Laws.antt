-- The structs of a unit are lawful (C99 6.7.2, 6.9).
use Rattle.std.specs.Prelude.{List}
use Rattle.c_tree.specs.declared.declarations.External.{External}
use Rattle.c_tree.specs.declared.declarations.TranslationUnit.{TranslationUnit}
use Rattle.c_typing_definitions.specs.declared.names.Definitions.{Definitions}
use Rattle.c_typing_declarations.specs.declared.walk.UnitSoFar.{UnitSoFar}
use Rattle.c_typing_struct_bodies.specs.Bodies.{TagScope}
use Rattle.c_typing_units.specs.Externals.{externals}
use Rattle.c_typing_units.specs.Units.{whole_unit}
use Rattle.c_typing_expression_sound.specs.c_body_laws.Notes.{IsWellDeclared, LeadsOn}

abbrev pub DeclarationsLeadOn : Type 0
DeclarationsLeadOn =
    (ds : Definitions) (es : List External) (s : UnitSoFar × TagScope) → LeadsOn s.1.1 (externals ds es s).1.1

abbrev pub UnitIsWellDeclared : Type 0
UnitIsWellDeclared = (unit : TranslationUnit) → IsWellDeclared (whole_unit unit).1.1
