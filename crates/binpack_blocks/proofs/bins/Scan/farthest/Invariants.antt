use Rattle.std.specs.Prelude.{◌≡◌, IfSome}
use Rattle.binpack_blocks.specs.model.Choices.{CanLeave, is_leavable, farthest_below}
use Rattle.binpack_blocks.specs.model.Spans.{next_reference}
use Rattle.binpack_blocks.specs.model.Wanted.{ReferencesRise}
use Rattle.binpack_blocks.proofs.bins.Scan.farthest.Given as goal

abbrev pub invariant-loop-r : goal.invariant-loop-r
invariant-loop-r l = record {
  leaves : IfSome l.best (λ q. CanLeave l.insn l.standing l.self.bins.items q);
  farthest : ReferencesRise l.lives → l.best ≡ farthest_below (next_reference l.lives l.point) (is_leavable l.insn l.standing l.self.bins.items) l.self.bins.items l.r;
}
