-- The objects so far are made.
use Rattle.std.proofs.Common.{◌≡◌, map, take}
use Rattle.mem_objects.specs.Start.{start_object}
use Rattle.suifvm_operations.specs.Tidy.{MemoryIsTidy}
use Rattle.suifvm_operations.proofs.start.start_memory.Given as goal

abbrev pub invariant-loop-object : goal.invariant-loop-object
invariant-loop-object l = record {
  memory : l.memory ≡ map start_object (take l.object-index l.globals);
  tidy : MemoryIsTidy l.memory;
}
