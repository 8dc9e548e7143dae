-- The objects of a unit are those that it defines (C99 6.9.2).
use Rattle.std.specs.Prelude.{◌≡◌, length, None}
use Rattle.c_tree.specs.declared.declarations.TranslationUnit.{TranslationUnit}
use Rattle.c_typing_definitions.specs.Definitions.{definitions}
use Rattle.c_typing_faults.specs.Faults.{head}
use Rattle.c_types.specs.c_found_unit_laws.Units.{whole_unit, faults_of}

-- so many objects have a number as are defined
abbrev pub ObjectsAreCounted : Type 0
ObjectsAreCounted =
    (unit : TranslationUnit) → head (faults_of unit) ≡ None →
    (whole_unit unit).0.names.objects ≡ length (definitions unit.externals).objects
