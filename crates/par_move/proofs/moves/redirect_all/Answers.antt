use Rattle.par_move.proofs.Loops.{redirect_more}
use Rattle.par_move.proofs.moves.redirect_all.Goals as goal

pub loop-source-preserved : goal.loop-source-preserved
loop-source-preserved c = redirect_more c.args.first c.args.scratch c.args.sources.now c.loop-source.sources c.loop-source.source-index c.redirect.result c.loop-source-test.true c.loop-source.auto.sources c.loop-source.invariant c.redirect.ensures
