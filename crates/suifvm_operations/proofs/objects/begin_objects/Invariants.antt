use Rattle.std.proofs.Common.{◌≡◌, drop, map}
use Rattle.mem_model.specs.Memory.{begin_objects}
use Rattle.suifvm_operations.specs.Tidy.{MemoryIsTidy}
use Rattle.suifvm_operations.proofs.objects.begin_objects.Given as goal

abbrev pub invariant-loop-object : goal.invariant-loop-object
invariant-loop-object l =
    (begin_objects l.memory (map (λ o. o.size) (drop l.object-index l.objects)) ≡ begin_objects l.initial.memory (map (λ o. o.size) l.objects))
    × MemoryIsTidy l.memory
