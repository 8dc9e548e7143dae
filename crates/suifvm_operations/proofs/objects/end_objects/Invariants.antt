use Rattle.std.proofs.Common.{◌≡◌, ◌+◌, ◌-◌}
use Rattle.mem_model.specs.Memory.{end_objects}
use Rattle.suifvm_operations.specs.Tidy.{MemoryIsTidy}
use Rattle.suifvm_operations.proofs.objects.end_objects.Given as goal

abbrev pub invariant-loop-k : goal.invariant-loop-k
invariant-loop-k l =
    (end_objects l.memory (l.first + l.k) (l.count - l.k) ≡ end_objects l.initial.memory l.first l.count)
    × MemoryIsTidy l.memory
