-- The declarations below the counter have been rewritten.
use Rattle.c_rewrite.specs.Rewritten.{rewritten}
use Rattle.c_rewrite.specs.model.Mixed.{Replaced}
use Rattle.c_rewrite.proofs.StatementViews.{LocalDone}
use Rattle.c_rewrite.proofs.rewrite.rewrite_locals.Given as goal

abbrev pub invariant-loop-i : goal.invariant-loop-i
invariant-loop-i l = Replaced (LocalDone (rewritten l.locals)) l.i l.fn.list l.items.items
