-- What the items of a function refer to, by its allocation, the objects of static storage, and the label of its first
-- block.
use Rattle.std.specs.Prelude.{ℕ, ◌+◌, ◌<◌, ◌≤◌, ◌^◌, min, List, map, length, slice_get, Option, Some, None}
use Rattle.alpha_items.specs.Words.{most_address}
use Rattle.mem_objects.specs.declared.DataObject.{DataObject}
use Rattle.suifvm_ir.specs.declared.insn.VmObject.TheVariants.{Global, Local}
use Rattle.temp_ir.specs.declared.insn.TempInsn.{TempInsn}
use Rattle.temp_ir.specs.declared.insn.TempInsn.TheVariants as i
use Rattle.alloc_model.specs.Places.{Plan}
use Rattle.frame_memory.specs.flat_frames.Shapes.{frame_object_at}
use Rattle.frame_steps.specs.function_items.InstructionItems.{ItemSetting, function_label}
use Rattle.frame_simulation.specs.function_shapes.Shapes.{shape_of}

-- ---- argument places

-- the greatest number of an argument place that is told from others: no function has more parameters, and no call more
-- arguments. A greater one names no place of any run
abbrev pub most_arguments : ℕ
most_arguments = 2 ^ 24

abbrev pub near_insn : TempInsn → TempInsn
near_insn (i.WriteArgument number source) = i.WriteArgument (min number most_arguments) source
near_insn (i.ReadArgument destination number) = i.ReadArgument destination (min number most_arguments)
near_insn x = x

abbrev pub near_blocks : List (List TempInsn) → List (List TempInsn)
near_blocks blocks = map (map near_insn) blocks

-- an allocation with the blocks of its function in place of others
abbrev pub with_blocks : Plan → (blocks : List (List TempInsn)) → Plan
with_blocks a blocks = record {
  function = record { sizes = a.function.sizes; blocks = blocks };
  params = a.params;
  temps = a.temps;
  top = a.top;
  bottom = a.bottom;
  at = a.at;
  regs = a.regs;
  edges = a.edges;
}

abbrev pub near_plan : Plan → Plan
near_plan a = with_blocks a (near_blocks a.function.blocks)

-- ---- the setting

-- where an object of static storage begins in the data
abbrev pub global_offset : Option DataObject → ℕ
global_offset None = 0
global_offset (Some o) = o.offset

-- blocks have labels from one on, and the exit part has the one behind them
abbrev pub setting_of : Plan → (globals : List DataObject) → (first_label : ℕ) → ItemSetting
setting_of a globals first = record {
  shape = shape_of a;
  block_label = λ block. first + block;
  exit_label = first + length a.function.blocks;
  global_at = λ k. global_offset (slice_get globals k);
}

-- the numbers of an instruction fit its items
abbrev pub IsFit : ItemSetting → TempInsn → Type 0
IsFit g (i.ObjectAddress destination (Global k) plus) = g.global_at k + plus < 2 ^ 32
IsFit g (i.ObjectAddress destination (Local k) plus) = frame_object_at g.shape k + plus < most_address
IsFit g (i.WriteArgument number source) = number ≤ most_arguments
IsFit g (i.ReadArgument destination number) = number ≤ most_arguments
IsFit g (i.Branch op source block) = g.block_label block < 2 ^ 32
IsFit g (i.Jump block) = g.block_label block < 2 ^ 32
IsFit g (i.Call function arguments) = function_label function < 2 ^ 32
IsFit g _ = Unit {0}
