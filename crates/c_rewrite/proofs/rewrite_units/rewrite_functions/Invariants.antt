-- The functions that were rewritten, with what the rest becomes, are what all become.
use Rattle.std.specs.Vec.Iter.{into_iter_items}
use Rattle.c_rewrite.proofs.Functions.{AreRewritten}
use Rattle.c_rewrite.proofs.rewrite_units.rewrite_functions.Given as goal

abbrev pub invariant-loop-f : goal.invariant-loop-f
invariant-loop-f l = AreRewritten l.fn.list (into_iter_items l.f-iterator) l.made
