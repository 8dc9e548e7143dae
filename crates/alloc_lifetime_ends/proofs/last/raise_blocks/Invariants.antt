-- The points of the blocks so far are raised.
use Rattle.std.proofs.Common.{◌≡◌, length, take}
use Rattle.pass_core.specs.Functions.{count_of}
use Rattle.alloc_lifetime_ends.specs.model.Raised.{IsRaised, IsPresentIn}
use Rattle.alloc_lifetime_ends.proofs.last.raise_blocks.Given as goal

abbrev pub invariant-loop-place : goal.invariant-loop-place
invariant-loop-place l = record {
  number : l.number ≡ count_of (take l.place l.blocks);
  as_many : length l.ends ≡ length l.initial.ends;
  raised : IsRaised (IsPresentIn l.blocks l.bottoms l.place) l.initial.ends l.ends;
}
