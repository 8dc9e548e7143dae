-- The functions so far are laid out, and the next label is the one behind theirs.
use Rattle.std.proofs.Common.{◌≡◌, ◌+◌, length, take}
use Rattle.std.specs.Prelude.{sum_by, All}
use Rattle.pass_core.specs.Functions.{AllInsns}
use Rattle.alloc_model.specs.declared.allocation.Allocation.{Allocation}
use Rattle.frame_bounds.specs.frame_ranges.Ranges.{HasSmallNumbers}
use Rattle.image_assembly.specs.Layouts.{first_label, label_count, FollowFrom}
use Rattle.image_assembly.proofs.layouts.lay_out.Given as goal

abbrev pub invariant-loop-number : goal.invariant-loop-number
invariant-loop-number l =
    FollowFrom l.globals 0 (first_label (length l.allocations)) (take l.number l.allocations) l.finals.items
    × All (λ (a : Allocation). AllInsns HasSmallNumbers a.func.blocks) (take l.number l.allocations)
    × (l.first ≡ first_label (length l.allocations) + sum_by label_count (take l.number l.allocations))
