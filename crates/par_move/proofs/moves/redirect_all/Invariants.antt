use Rattle.std.proofs.Common.{◌≡◌, ◌++◌, take, drop}
use Rattle.std.specs.Prelude.{map}
use Rattle.par_move.specs.model.Rest.{redirected}
use Rattle.par_move.proofs.moves.redirect_all.Given as goal

abbrev pub invariant-loop-source : goal.invariant-loop-source
invariant-loop-source l = l.sources ≡ map (redirected l.first l.scratch) (take l.source-index l.initial.sources) ++ drop l.source-index l.initial.sources
