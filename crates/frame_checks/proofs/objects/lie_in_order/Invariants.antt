use Rattle.std.proofs.Common.{◌≡◌, ◌≤◌, ◌^◌, drop}
use Rattle.frame_checks.specs.model.Storage.{lie_from}
use Rattle.frame_checks.proofs.objects.lie_in_order.Given as goal

abbrev pub invariant-loop-object : goal.invariant-loop-object
invariant-loop-object l = (lie_from 0 l.globals ≡ lie_from l.end (drop l.object-index l.globals)) × (l.end ≤ 2 ^ 26)
