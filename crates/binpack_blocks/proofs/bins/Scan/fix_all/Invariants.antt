use Rattle.std.proofs.Common.{◌≡◌, ◌<◌, ◌≤◌, ◌+◌, ◌*◌, ℕ, true, false, length}
use Rattle.alloc_rules.specs.Visits.{takes_away}
use Rattle.binpack_blocks.specs.model.Bins.{held_in, lives, must_store}
use Rattle.binpack_blocks.specs.model.Rows.{is_wanted}
use Rattle.binpack_blocks.specs.model.Steps.{State, Steps, taken_below}
use Rattle.binpack_blocks.specs.model.Scanning.{state_of, local_site}
use Rattle.binpack_blocks.proofs.bins.Scan.fix_all.Given as goal

abbrev pub invariant-loop-r : goal.invariant-loop-r
invariant-loop-r l = record {
  steps : (u : State) → Steps (local_site l.fn.self.temps l.lives l.number l.insn l.standing) u (state_of l.fn.self) → Steps (local_site l.fn.self.temps l.lives l.number l.insn l.standing) u (state_of l.self);
  saved : (r : ℕ) → r < l.r → takes_away l.insn r ≡ true → must_store (lives (is_wanted l.lives (2 * l.number + 1)) (held_in l.self.bins.items r)) (held_in l.self.bins.items r) ≡ false;
  count : length l.self.made.items ≤ length l.fn.self.made.items + taken_below l.insn l.r;
  temps : l.self.temps ≡ l.fn.self.temps;
}
