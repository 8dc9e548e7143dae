-- What the layout of a function says of its items.
use Rattle.alloc_model.specs.Places.{Plan, plan_of}
use Rattle.frame_memory.specs.flat_frames.Shapes.{FrameShape}
use Rattle.frame_steps.specs.function_items.InstructionItems.{ItemSetting}
use Rattle.frame_simulation.specs.function_shapes.Shapes.{shape_of}
use Rattle.frame_emitter.specs.declared.layout.FrameLayout.{FrameLayout}
use Rattle.frame_emitter.specs.Settings.{with_blocks, setting_of}

abbrev pub plan_in : FrameLayout → Plan
plan_in l = with_blocks (plan_of l.allocation.now) l.blocks.now

abbrev pub setting_in : FrameLayout → ItemSetting
setting_in l = setting_of (plan_in l) l.globals.now l.first_label

abbrev pub shape_in : FrameLayout → FrameShape
shape_in l = shape_of (plan_in l)
