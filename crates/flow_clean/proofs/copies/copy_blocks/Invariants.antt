-- The blocks so far read no copies.
use Rattle.std.proofs.Common.{◌≡◌, ◌+◌, length, map, take}
use Rattle.pass_core.specs.Functions.{count_of}
use Rattle.flow_clean.specs.Copies.{no_copies, without_copies}
use Rattle.flow_clean.specs.model.Origins.{AreLast}
use Rattle.flow_clean.proofs.copies.copy_blocks.Given as goal

abbrev pub invariant-loop-block : goal.invariant-loop-block
invariant-loop-block l = record {
  made : l.made ≡ map (without_copies no_copies) (take l.block-index l.blocks);
  count : l.start ≡ 1 + count_of (take l.block-index l.blocks);
  last : AreLast (length l.initial.writes) l.start l.writes;
}
