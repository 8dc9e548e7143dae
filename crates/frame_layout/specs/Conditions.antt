-- When a function with an allocation can be laid out, as far as that goes by numbers. That the allocation is faithful
-- is no part of it.
use Rattle.std.specs.Prelude.{ℕ, ◌+◌, ◌-◌, ◌^◌, ◌<◌, ◌≤◌, List, map, length}
use Rattle.mem_objects.specs.declared.DataObject.{DataObject}
use Rattle.mem_objects.specs.declared.TheConstants.{MOST_DATA}
use Rattle.mem_objects.specs.Layout.{ObjectsLieFrom, data_end}
use Rattle.pass_core.specs.Functions.{AllInsns}
use Rattle.alloc_model.specs.declared.allocation.Allocation.{Allocation}
use Rattle.alloc_model.specs.Effect.{widest_call}
use Rattle.frame_memory.specs.flat_frames.Shapes.{objects_size}
use Rattle.frame_steps.specs.instruction_items.Items.{function_label}
use Rattle.frame_layout.specs.Names.{NamesObjects, CallsBelow}

pub record CanBeLaidOut (a : Allocation) (globals : List DataObject) (number first_label : ℕ) : Type 0 where
  -- the labels of the function and of each one that it calls are below the label of its first block
  pub own : function_label number < first_label
  pub calls : AllInsns (CallsBelow first_label) a.func.blocks
  -- its blocks and its exit part have labels of 32 bits
  pub labels : first_label + length a.func.blocks < 2 ^ 32 - 1
  -- the objects of static storage lie one behind the other, with no more bytes than data may have
  pub layout : ObjectsLieFrom 0 globals
  pub data_size : data_end globals ≤ MOST_DATA
  -- each object that it names is there, with a number from 0 to its size added to its address
  pub names : AllInsns (NamesObjects globals a.func.objects) a.func.blocks
  -- its own objects have no more bytes than data may have
  pub objects : objects_size (map (λ o. o.size) a.func.objects) ≤ MOST_DATA
  -- it has at most so many temporaries, and no call of more arguments
  pub temps : a.func.temps ≤ 2 ^ 24
  pub arguments : widest_call a.func.blocks ≤ 2 ^ 24
