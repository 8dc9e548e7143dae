use Rattle.std.proofs.Common.{ℕ, ◌<◌, All, IsTrue, slice_index_or, []}
use Rattle.suifvm_ir.specs.Programs.{goes_back_to_marks}
use Rattle.suifvm_checks.proofs.marks.all_go_to_marks.Given as goal

abbrev pub invariant-loop-at : goal.invariant-loop-at
invariant-loop-at l =
    (k : ℕ) → k < l.at → All (λ i. IsTrue (goes_back_to_marks l.blocks k i)) (slice_index_or l.blocks k [])
