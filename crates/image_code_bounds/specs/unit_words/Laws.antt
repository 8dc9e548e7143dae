-- How many words the text has that the passes make of a unit.
use Rattle.std.specs.Prelude.{◌*◌, ◌≤◌, List, Bool}
use Rattle.alpha_items.specs.declared.final_fn.FinalFn.{FinalFn}
use Rattle.alpha_items.specs.Layout.{text_words}
use Rattle.alpha_asm.specs.Fault.{HasFewWords}
use Rattle.c_typed_tree.specs.declared.units.TypedUnit.{TypedUnit}
use Rattle.c_typed_tree.specs.Weight.{unit_weight}
use Rattle.c_typing_weight.specs.Limits.{most_weight}
use Rattle.temp_ir.specs.declared.program.TempProgram.{TempProgram}
use Rattle.alloc_model.specs.declared.allocation.Allocation.{Allocation}
use Rattle.alloc_rules.specs.Allocations.{AreAllocationsOf}
use Rattle.block_preparation_laws.specs.Fit.{AreTempFunctionsOf}
use Rattle.image_assembly.specs.Assemblies.{whole_assembly}
use Rattle.image_assembly.specs.Layouts.{FunctionsAreLaidOut}
use Rattle.image_code_bounds.specs.program_words.Words.{AreLight}

-- the allocations of a program over temporaries of a unit are light
abbrev pub AllocationsAreLight : Type 0
AllocationsAreLight =
    (unit : TypedUnit) (program : TempProgram) (allocations : List Allocation) → AreTempFunctionsOf unit program →
    AreAllocationsOf program.functions allocations → AreLight unit allocations

-- so their text has at most 2,048 words for each unit of weight, whichever branches are far
abbrev pub UnitTextsAreWithinWeight : Type 0
UnitTextsAreWithinWeight =
    (unit : TypedUnit) (program : TempProgram) (allocations : List Allocation) (finals : List FinalFn) →
    AreTempFunctionsOf unit program → AreAllocationsOf program.functions allocations →
    FunctionsAreLaidOut program.globals allocations finals → (far : List Bool) →
    text_words (whole_assembly finals program.globals).items far ≤ 2048 * unit_weight unit

-- and it fits an image where the unit is no heavier than a unit may be
abbrev pub UnitTextsFitImages : Type 0
UnitTextsFitImages =
    (unit : TypedUnit) (program : TempProgram) (allocations : List Allocation) (finals : List FinalFn) →
    unit_weight unit ≤ most_weight → AreTempFunctionsOf unit program → AreAllocationsOf program.functions allocations →
    FunctionsAreLaidOut program.globals allocations finals → HasFewWords (whole_assembly finals program.globals)
