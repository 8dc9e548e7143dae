use Rattle.std.proofs.Common.{◌<◌}
use Rattle.par_move.specs.model.Rest.{rest, IsCounted, Chain, waiting}
use Rattle.par_move.proofs.moves.release.Given as goal

abbrev pub invariant-loop-from : goal.invariant-loop-from
invariant-loop-from l = record {
  counted : IsCounted l.sources l.reads;
  chain : Chain (rest l.initial.sources l.initial.reads l.initial.made.items) l.start (rest l.sources l.reads l.made.items) l.to;
  within : l.to < 256;
}

abbrev pub decreases-loop-from : goal.decreases-loop-from
decreases-loop-from l = waiting l.sources
