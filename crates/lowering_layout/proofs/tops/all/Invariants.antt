-- The greatest of the end of the list.
use Rattle.std.proofs.Common.{◌≡◌, ◌≤◌, drop, length}
use Rattle.lowering_layout.specs.Tops.{registers_top}
use Rattle.lowering_layout.proofs.tops.all.Given as goal

abbrev pub invariant-loop-i : goal.invariant-loop-i
invariant-loop-i l = (l.i ≤ length l.registers) × (l.top ≡ registers_top (drop l.i l.registers))

abbrev pub decreases-loop-i : goal.decreases-loop-i
decreases-loop-i l = l.i
