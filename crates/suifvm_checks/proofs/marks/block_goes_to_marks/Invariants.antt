use Rattle.std.proofs.Common.{All, IsTrue}
use Rattle.bk_ilist.specs.Listing.{items}
use Rattle.suifvm_ir.specs.Programs.{goes_back_to_marks}
use Rattle.suifvm_checks.proofs.marks.block_goes_to_marks.Given as goal

-- what holds of all that are left holds of all
abbrev pub invariant-loop-line : goal.invariant-loop-line
invariant-loop-line l =
    All (λ i. IsTrue (goes_back_to_marks l.blocks l.at i)) (items l.line-iterator) →
    All (λ i. IsTrue (goes_back_to_marks l.blocks l.at i)) l.block
