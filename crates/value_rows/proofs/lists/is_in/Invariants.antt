use Rattle.std.proofs.Common.{ℕ}
use Rattle.bk_ilist.specs.Listing.{HasId}
use Rattle.value_rows.proofs.lists.is_in.Given as goal

-- each id among the pairs that are left is the list's
abbrev pub invariant-loop-other : goal.invariant-loop-other
invariant-loop-other l =
    (goal.iterator-loop-other).can_next l.other-iterator ×
    (goal.iterator-loop-other).is_finite l.other-iterator ×
    ((id : ℕ) → HasId l.other-iterator id → HasId l.list.pairs id)
