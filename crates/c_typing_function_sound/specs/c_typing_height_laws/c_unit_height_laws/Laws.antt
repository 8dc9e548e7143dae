-- The typed functions of a unit are at most three times as high as its tree.
use Rattle.std.specs.Prelude.{◌*◌, ◌≤◌, All}
use Rattle.c_tree.specs.declared.declarations.TranslationUnit.{TranslationUnit}
use Rattle.c_tree.specs.Nodes.{unit_height}
use Rattle.c_typed_tree.specs.c_typed_height.Heights.{function_height}
use Rattle.c_typing_units.specs.Units.{whole_unit}

abbrev pub FunctionsOfUnitsAreWithin : Type 0
FunctionsOfUnitsAreWithin =
    (unit : TranslationUnit) →
    All (λ f. function_height f.function ≤ 3 * unit_height unit) (whole_unit unit).0.functions
