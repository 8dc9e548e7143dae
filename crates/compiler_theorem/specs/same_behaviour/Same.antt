-- That an image which is made of a unit behaves as the unit does, and ends soon where that ends.
use Rattle.std.specs.Prelude.{ℕ}
use Rattle.alpha_isa.specs.Program.{Program}
use Rattle.alpha_isa.specs.Behave.{IsStack}
use Rattle.c_typed_tree.specs.declared.units.TypedUnit.{TypedUnit}
use Rattle.c_typed_tree.specs.Lawful.{IsTypedUnit}
use Rattle.c_semantics.specs.Behaves.{meaning, rooms_of}
use Rattle.compiler_theorem.specs.Correct.{Same, EndsSoon}
use Rattle.compiler_theorem.specs.unit_images.Laws.{IsMadeOf}

-- an image that is made of a well typed unit, with the rooms of its functions, behaves as the unit does
abbrev pub UnitsBehaveAlike : Type 0
UnitsBehaveAlike =
    (u : TypedUnit) (image : Program) → IsTypedUnit u → IsMadeOf u (rooms_of u) image →
    (stack : ℕ) → IsStack stack → Same (meaning u) image stack

-- and it ends soon
abbrev pub UnitsEndSoon : Type 0
UnitsEndSoon =
    (u : TypedUnit) (image : Program) → IsTypedUnit u → IsMadeOf u (rooms_of u) image →
    (stack : ℕ) → IsStack stack → EndsSoon (meaning u) image stack
