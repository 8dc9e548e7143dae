-- The state of a scan.
use Rattle.std.specs.Prelude.{◌≡◌, ℕ, ◌+◌, ◌*◌, ◌++◌, Bool, List, ◌∷◌, []}
use Rattle.bk_bits.specs.Sets.{has}
use Rattle.temp_ir.specs.declared.insn.TempInsn.{TempInsn}
use Rattle.temp_ir.specs.Insns.{writes_of}
use Rattle.alloc_rules.specs.declared.scan.Lifetimes.{Lifetimes}
use Rattle.binpack_blocks.specs.declared.bins.Scan.{Scan}
use Rattle.binpack_blocks.specs.model.Bins.{held_in, has_temp}
use Rattle.binpack_blocks.specs.model.Rows.{is_wanted}
use Rattle.binpack_blocks.specs.model.Steps.{Site, State, Steps, Ends, Writes}

abbrev pub state_of : Scan → State
state_of s = record { bins = s.bins.items; made = s.made.items; relied = s.relied }

-- the site of an instruction with a number, where a list says in which registers fixed values stand behind it
abbrev pub local_site : (temps : ℕ) → Lifetimes → (number : ℕ) → TempInsn → (standing : List Bool) → Site
local_site temps lives number x standing = record {
  insn = x;
  before = is_wanted lives (2 * number);
  behind = is_wanted lives (2 * number + 1);
  stands = has standing;
  temps = temps;
}

-- what is written has a register from now on, behind steps that keep what stands in registers
pub record Gives (s : Site) (v w : State) (t r : ℕ) : Type 0 where
  pub ready : State
  pub steps : (u : State) → Steps s u v → Steps s u ready
  pub same : (q m : ℕ) → has_temp (held_in ready.bins q) m ≡ has_temp (held_in v.bins q) m
  pub is_made : w.made ≡ ready.made
  pub writes : Writes s ready w (t ∷ []) (r ∷ [])

-- the instruction itself, behind such steps: what it takes away, and what it writes
pub record Acts (s : Site) (v w : State) (read registers : List ℕ) : Type 0 where
  pub ready : State
  pub left : State
  pub written : List ℕ
  pub steps : (u : State) → Steps s u v → Steps s u ready
  pub same : (q m : ℕ) → has_temp (held_in ready.bins q) m ≡ has_temp (held_in v.bins q) m
  pub is_made : w.made ≡ ready.made
  pub are : registers ≡ read ++ written
  pub ends : Ends s ready left
  pub writes : Writes s left w (writes_of s.insn) written
