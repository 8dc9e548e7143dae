-- The names that are left.
use Rattle.std.proofs.Common.{length}
use Rattle.call_words.proofs.options.+gives_none.Given as goal

abbrev pub decreases-gives_none : goal.decreases-gives_none
decreases-gives_none l = length l.names.now
