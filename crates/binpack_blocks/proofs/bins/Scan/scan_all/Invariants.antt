use Rattle.std.proofs.Common.{◌≡◌}
use Rattle.binpack_blocks.specs.model.Lists.{AddsRows}
use Rattle.binpack_blocks.specs.model.Scanning.{state_of}
use Rattle.binpack_blocks.proofs.bins.Scan.scan_all.Given as goal

abbrev pub invariant-loop-place : goal.invariant-loop-place
invariant-loop-place l = record {
  rows : AddsRows l.fn.self.temps l.lives l.first l.insns (state_of l.fn.self) l.place l.fn.lists l.lists (state_of l.self);
  temps : l.self.temps ≡ l.fn.self.temps;
}
