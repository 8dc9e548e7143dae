-- The frame of a function fits the room that its source has.
use Rattle.std.specs.Prelude.{◌≡◌, ◌≤◌, ◌+◌, List, map}
use Rattle.c_typed_tree.specs.declared.types.StructDef.{StructDef}
use Rattle.c_typed_tree.specs.declared.units.TypedFn.{TypedFn}
use Rattle.c_typed_tree.specs.Weight.{function_weight}
use Rattle.c_typed_tree.specs.Rooms.{room}
use Rattle.suifvm_ir.specs.Programs.{VmFunction}
use Rattle.alpha_rt.specs.Calls.{scratch_size}
use Rattle.alloc_model.specs.Effect.{widest_call}
use Rattle.alloc_model.specs.Places.{Plan}
use Rattle.frame_memory.specs.flat_frames.Shapes.{frame_size}
use Rattle.frame_simulation.specs.function_shapes.Shapes.{shape_of}
use Rattle.lowering.specs.Lowered.{StandsFor}

-- a plan is one of the code that stands for a function of a unit: it has at most four temporaries more than the code has registers, the
-- objects of the code, and no call that is wider than the function weighs
pub record IsPlanOf (ds : List StructDef) (f : TypedFn) (g : VmFunction) (a : Plan) : Type 0 where
  pub stands : StandsFor ds f g
  pub temps : a.temps ≤ g.temps + 4
  pub sizes : a.function.sizes ≡ map (λ o. o.size) g.objects
  pub calls : widest_call a.function.blocks ≤ function_weight ds f

abbrev pub FramesFitRooms : Type 0
FramesFitRooms =
    (ds : List StructDef) (f : TypedFn) (g : VmFunction) (a : Plan) → IsPlanOf ds f g a
    → frame_size (shape_of a) + scratch_size ≤ room ds f
