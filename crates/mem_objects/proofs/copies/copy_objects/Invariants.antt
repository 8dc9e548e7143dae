-- What was copied so far is the front of the list.
use Rattle.std.proofs.Common.{◌≡◌, take}
use Rattle.mem_objects.proofs.copies.copy_objects.Given as goal

abbrev pub invariant-loop-object : goal.invariant-loop-object
invariant-loop-object l = l.copies ≡ take l.object-index l.objects
