use Rattle.std.proofs.Common.{◌≡◌, ◌≤◌, ◌^◌, drop}
use Rattle.frame_checks.specs.model.Storage.{are_small_from}
use Rattle.frame_checks.proofs.objects.are_small.Given as goal

abbrev pub invariant-loop-object : goal.invariant-loop-object
invariant-loop-object l = (are_small_from 0 l.objects ≡ are_small_from l.end (drop l.object-index l.objects)) × (l.end ≤ 2 ^ 26)
