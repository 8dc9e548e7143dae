-- The functions over temporaries that are made of those of a unit: they have frames, and these fit the rooms of the
-- unit.
use Rattle.std.specs.Prelude.{◌≡◌, ℕ, ◌+◌, ◌≤◌, All, List, Some, slice_get}
use Rattle.mem_objects.specs.declared.TheConstants.{MOST_DATA}
use Rattle.c_typed_tree.specs.declared.units.TypedUnit.{TypedUnit}
use Rattle.c_typed_tree.specs.Weight.{unit_weight}
use Rattle.c_typing_weight.specs.Limits.{most_weight}
use Rattle.c_typed_tree.specs.Rooms.{data_size}
use Rattle.c_semantics.specs.Behaves.{rooms_of}
use Rattle.mem_model.specs.World.{room_of}
use Rattle.temp_ir.specs.declared.program.TempProgram.{TempProgram}
use Rattle.alpha_rt.specs.Calls.{scratch_size}
use Rattle.alloc_model.specs.declared.allocation.Allocation.{Allocation}
use Rattle.alloc_model.specs.Places.{Plan}
use Rattle.frame_memory.specs.flat_frames.Shapes.{frame_size}
use Rattle.frame_simulation.specs.function_shapes.Shapes.{shape_of}
use Rattle.image_assembly.specs.Programs.{plans_of}
use Rattle.alloc_rules.specs.Allocations.{AreAllocationsOf}
use Rattle.block_preparation_laws.specs.Fit.{AreTempFunctionsOf}
use Rattle.image_assembly_laws.specs.allocation_laws.Laws.{HasFrame}

-- the functions over temporaries of a unit have frames, where the unit is within the limits of weight and
-- data
abbrev pub FunctionsHaveFrames : Type 0
FunctionsHaveFrames =
    (u : TypedUnit) (program : TempProgram) → AreTempFunctionsOf u program → unit_weight u ≤ most_weight →
    data_size u ≤ MOST_DATA → All HasFrame program.functions

-- by an allocation for each, the frame of each with the bytes of a division routine fits the room of the function of
-- the unit with the same number
abbrev pub FramesFitTheirRooms : Type 0
FramesFitTheirRooms =
    (u : TypedUnit) (program : TempProgram) (allocations : List Allocation) → AreTempFunctionsOf u program →
    AreAllocationsOf program.functions allocations → (f : ℕ) (a : Plan) →
    slice_get (plans_of allocations) f ≡ Some a → frame_size (shape_of a) + scratch_size ≤ room_of (rooms_of u) f
