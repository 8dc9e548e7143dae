-- The typed unit of a unit without faults is lawful (C99 6.7, 6.9, 5.1.2.2.1), and no test has to say so. It is at most
-- three times as high as its tree.
use Rattle.std.specs.Prelude.{◌*◌, ◌≤◌}
use Rattle.c_tree.specs.declared.declarations.TranslationUnit.{TranslationUnit}
use Rattle.c_tree.specs.Nodes.{unit_height}
use Rattle.c_typed_tree.specs.declared.units.TypedUnit.{TypedUnit}
use Rattle.c_typed_tree.specs.Lawful.{IsLawfulUnit}
use Rattle.c_typed_tree.specs.c_typed_height.Heights.{typed_unit_height}
use Rattle.c_typing_counts.specs.unit_counts.Counts.{CanBeCounted}
use Rattle.c_types.specs.c_typed_unit_laws.Made.{IsSpelled}
use Rattle.c_types.specs.Units.{IsTyped}

abbrev pub TypedUnitsAreLawful : Type 0
TypedUnitsAreLawful =
    (unit : TranslationUnit) (typed : TypedUnit) → IsTyped unit typed → IsSpelled unit → CanBeCounted typed →
    IsLawfulUnit typed

abbrev pub TypedUnitsAreWithin : Type 0
TypedUnitsAreWithin =
    (unit : TranslationUnit) (typed : TypedUnit) → IsTyped unit typed → typed_unit_height typed ≤ 3 * unit_height unit
