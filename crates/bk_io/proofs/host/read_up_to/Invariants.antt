-- what was appended and what may still come are the limit, and each turn took a byte
use Rattle.std.proofs.Common.{◌≤◌, ◌<◌, ◌+◌, ◌-◌, length}
use Rattle.bk_io.specs.model.Steps.{AppendsPart}
use Rattle.bk_io.proofs.host.read_up_to.Given as goal

abbrev pub invariant-loop-turn : goal.invariant-loop-turn
invariant-loop-turn g l = record {
  part : AppendsPart (l.limit - l.left) l.initial.into.items l.into.items (g.R.Read.remaining l.fn.reader) (g.R.Read.remaining l.reader);
  within : l.left + l._turn ≤ l.limit;
  more : l._turn < l.limit → 0 < l.left;
  some : 0 < length l.chunk;
}
