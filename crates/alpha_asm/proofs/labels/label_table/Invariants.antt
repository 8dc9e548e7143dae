use Rattle.std.proofs.Common.{◌≡◌, ℕ, nat_eq, drop}
use Rattle.std.specs.List.{position_from}
use Rattle.std.specs.HashMap.{get}
use Rattle.alpha_items.specs.Items.{names_label}
use Rattle.alpha_asm.proofs.labels.label_table.Given as goal

abbrev pub invariant-loop-i : goal.invariant-loop-i
invariant-loop-i l = (q : ℕ) → get nat_eq l.table q ≡ position_from (names_label q) l.i (drop l.i l.items)
