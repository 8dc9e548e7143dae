use Rattle.std.proofs.Common.{◌≡◌, ◌<◌, ◌≤◌, ◌-◌, ◌++◌}
use Rattle.selection_forms.specs.alpha_copies.Copies.{parts_items}
use Rattle.selection_forms.proofs.alpha_copies.copies.put_copy.Given as goal

abbrev pub invariant-loop-part : goal.invariant-loop-part
invariant-loop-part l =
    (l._part ≤ l.count) × (l.place.at < 16392)
    × (l.out ++ parts_items l.align (l.count - l._part) l.place.to l.place.from l.place.at ≡ l.initial.out ++ parts_items l.align l.count l.to l.from 0)
