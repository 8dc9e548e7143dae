-- The visit of an instruction.
use Rattle.std.specs.Prelude.{◌≡◌, ℕ, ◌+◌, ◌≤◌, true, List, length, [], ◌∷◌, ◌++◌}
use Rattle.temp_ir.specs.Insns.{reads_of, writes_of}
use Rattle.alloc_model.specs.declared.allocation.Transfer.{Transfer}
use Rattle.binpack_blocks.specs.model.Bins.{Bins, held_in, has_temp}
use Rattle.binpack_blocks.specs.model.Steps.{Site, State, Steps, Ends, Writes, taken_below}

-- temporaries stand in registers, in order
abbrev pub AreHeld : (temps registers : List ℕ) → Bins → Type 0
AreHeld [] [] bins = Unit {0}
AreHeld [] (r ∷ rs) bins = ⊥
AreHeld (t ∷ ts) [] bins = ⊥
AreHeld (t ∷ ts) (r ∷ rs) bins = (has_temp (held_in bins r) t ≡ true) × AreHeld ts rs bins

-- from one state to another, with the transfers before the instruction and its stated registers
pub record Visits (s : Site) (u w : State) (transfers : List Transfer) (registers : List ℕ) : Type 0 where
  pub ready : State
  pub left : State
  pub read : List ℕ
  pub written : List ℕ
  pub none_made : u.made ≡ []
  pub steps : Steps s u ready
  pub is_made : transfers ≡ ready.made
  pub few : length transfers ≤ taken_below s.insn 26 + 5
  pub registers_are : registers ≡ read ++ written
  pub held : AreHeld (reads_of s.insn) read ready.bins
  pub ends : Ends s ready left
  pub writes : Writes s left w (writes_of s.insn) written
