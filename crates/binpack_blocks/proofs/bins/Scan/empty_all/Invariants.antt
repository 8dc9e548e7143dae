use Rattle.std.proofs.Common.{◌≡◌, ◌<◌, ◌≤◌, ◌+◌, ◌*◌, ℕ, true, None}
use Rattle.alloc_rules.specs.Visits.{takes_away}
use Rattle.binpack_blocks.specs.model.Bins.{held_in}
use Rattle.binpack_blocks.specs.model.Rows.{is_wanted}
use Rattle.binpack_blocks.specs.model.Steps.{Site, Empties}
use Rattle.binpack_blocks.specs.model.Scanning.{state_of}
use Rattle.binpack_blocks.proofs.bins.Scan.empty_all.Given as goal

abbrev pub invariant-loop-r : goal.invariant-loop-r
invariant-loop-r l = record {
  empties : (s : Site) → s.insn ≡ l.insn → s.behind ≡ is_wanted l.lives (2 * l.number + 1) → Empties s (state_of l.fn.self) (state_of l.self);
  clear : (q : ℕ) → q < l.r → takes_away l.insn q ≡ true → held_in l.self.bins.items q ≡ None;
  others : (q : ℕ) → l.r ≤ q → held_in l.self.bins.items q ≡ held_in l.fn.self.bins.items q;
  made : l.self.made ≡ l.fn.self.made;
  temps : l.self.temps ≡ l.fn.self.temps;
}
