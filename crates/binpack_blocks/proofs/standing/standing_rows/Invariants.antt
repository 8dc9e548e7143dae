use Rattle.std.proofs.Common.{◌≡◌, ◌+◌, length}
use Rattle.binpack_blocks.specs.model.Standing.{AreStanding}
use Rattle.binpack_blocks.proofs.standing.standing_rows.Given as goal

abbrev pub invariant-loop-done : goal.invariant-loop-done
invariant-loop-done l = record {
  size : length l.rows ≡ l.done + 1;
  rows : AreStanding l.insns l.done l.rows;
}
