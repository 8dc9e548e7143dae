-- The blocks so far are done.
use Rattle.std.proofs.Common.{◌≡◌, length, take}
use Rattle.pass_core.specs.Functions.{count_of}
use Rattle.lifetime_holes.specs.model.Walks.{AreDone}
use Rattle.lifetime_holes.proofs.blocks.mark_blocks.Given as goal

abbrev pub invariant-loop-place : goal.invariant-loop-place
invariant-loop-place l = record {
  number : l.number ≡ count_of (take l.place l.blocks);
  so : AreDone l.blocks l.bottoms l.place (length l.initial.parts) l.parts l.refs;
}
