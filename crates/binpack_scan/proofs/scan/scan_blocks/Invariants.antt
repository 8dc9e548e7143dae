use Rattle.std.proofs.Common.{◌≡◌}
use Rattle.std.specs.Prelude.{take}
use Rattle.pass_core.specs.Functions.{count_of}
use Rattle.binpack_blocks.specs.model.Whole.{ScansBlocks}
use Rattle.binpack_scan.proofs.scan.scan_blocks.Given as goal

abbrev pub invariant-loop-place : goal.invariant-loop-place
invariant-loop-place l = record {
  scans : ScansBlocks l.f.temps l.lives l.f.blocks l.tops l.place l.maps l.lists l.scan.bins.items;
  number : l.number ≡ count_of (take l.place l.f.blocks);
  temps : l.scan.temps ≡ l.f.temps;
}
