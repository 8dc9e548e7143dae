-- A typed unit that is made of a unit without faults is well typed (C99 6.7, 6.9, 5.1.2.2.1).
use Rattle.std.specs.Prelude.{◌≡◌, None}
use Rattle.c_tree.specs.declared.declarations.TranslationUnit.{TranslationUnit}
use Rattle.c_typing_faults.specs.Faults.{head}
use Rattle.c_typed_tree.specs.declared.units.TypedUnit.{TypedUnit}
use Rattle.c_typed_tree.specs.Lawful.{IsTypedUnit}
use Rattle.c_types.specs.c_unit_object_laws.Units.{whole_unit, faults_of}
use Rattle.c_typing_counts.specs.unit_counts.Counts.{CanBeCounted}
use Rattle.c_types.specs.c_typed_unit_laws.Made.{TypedIsMadeOf, IsSpelled}

abbrev pub MadeUnitsAreTyped : Type 0
MadeUnitsAreTyped =
    (unit : TranslationUnit) (typed : TypedUnit) → head (faults_of unit) ≡ None →
    TypedIsMadeOf (whole_unit unit) typed →
    IsSpelled unit → CanBeCounted typed → IsTypedUnit typed
