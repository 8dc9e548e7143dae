-- What the names of file scope mean in a unit without faults.
use Rattle.std.specs.Prelude.{◌≡◌, IsTrue, List, None}
use Rattle.c_tree.specs.declared.declarations.TranslationUnit.{TranslationUnit}
use Rattle.c_tree.specs.declared.declarations.External.{External}
use Rattle.c_typing_definitions.specs.declared.names.Definitions.{Definitions}
use Rattle.c_typing_faults.specs.Faults.{head}
use Rattle.c_typing_declarations.specs.Walk.{UnitWalk}
use Rattle.c_typing_units.specs.Units.{whole_unit, faults_of}
use Rattle.c_types.specs.c_unit_walk_laws.Walks.{WalkSteps}
use Rattle.c_types.specs.c_unit_meaning_laws.Meanings.{Keeps, HasTypes, HasNamedFunctions}

abbrev pub NamesKeepMeanings : Type 0
NamesKeepMeanings = (ds : Definitions) (es : List External) (w v : UnitWalk) → WalkSteps ds es w v → Keeps w.1.0 v.1.0

abbrev pub NamesHaveTypes : Type 0
NamesHaveTypes =
    (ds : Definitions) (es : List External) (w v : UnitWalk) → WalkSteps ds es w v → HasTypes w.0.names w.1.0 →
    HasTypes v.0.names v.1.0

abbrev pub FunctionsAreNamed : Type 0
FunctionsAreNamed =
    (unit : TranslationUnit) → head (faults_of unit) ≡ None →
    HasNamedFunctions (whole_unit unit).0 (whole_unit unit).1.1.0

abbrev pub UnitsHaveMain : Type 0
UnitsHaveMain = (unit : TranslationUnit) → head (faults_of unit) ≡ None → IsTrue (whole_unit unit).0.has_main
