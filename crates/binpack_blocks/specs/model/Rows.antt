-- The visits of a block, one after the other.
use Rattle.std.specs.Prelude.{◌≡◌, ℕ, suc, ◌+◌, ◌*◌, ◌&&◌, nat_le, Bool, List, [], ◌∷◌, ◌++◌, drop, slice_get, Some}
use Rattle.std.specs.List.{list_any}
use Rattle.temp_ir.specs.declared.insn.TempInsn.{TempInsn}
use Rattle.alloc_model.specs.declared.allocation.Transfer.{Transfer}
use Rattle.alloc_rules.specs.declared.scan.LifetimePart.{LifetimePart}
use Rattle.alloc_rules.specs.declared.scan.Lifetimes.{Lifetimes}
use Rattle.alloc_rules.specs.Scan.{lifetime_parts}
use Rattle.alloc_rules.specs.Visits.{holds_fixed_value}
use Rattle.binpack_blocks.specs.model.Steps.{Site, State}
use Rattle.binpack_blocks.specs.model.Visits.{Visits}

-- one of the parts has a point
abbrev pub is_covered_by : List LifetimePart → (point : ℕ) → Bool
is_covered_by parts point = list_any (λ p. nat_le p.first point && nat_le point p.last) parts

abbrev pub is_wanted : Lifetimes → (point t : ℕ) → Bool
is_wanted lives point t = is_covered_by (lifetime_parts lives t) point

-- the site of an instruction with a number, where these follow in its block
abbrev pub site_of : (temps : ℕ) → Lifetimes → (number : ℕ) → TempInsn → (rest : List TempInsn) → Site
site_of temps lives number x rest = record {
  insn = x;
  before = is_wanted lives (2 * number);
  behind = is_wanted lives (2 * number + 1);
  stands = λ r. holds_fixed_value r rest;
  temps = temps;
}

-- with no transfers made
abbrev pub unmade : State → State
unmade v = record { bins = v.bins; made = []; relied = v.relied }

-- so many instructions of a block are visited, of which the first has a number
pub data Rows (temps : ℕ) (lives : Lifetimes) (number : ℕ) (insns : List TempInsn) (u : State) :
    (at : ℕ) → List (List Transfer) → List (List ℕ) → State → Type 0 where
  NoRow : Rows temps lives number insns u 0 [] [] u
  OneMore : {at : ℕ} {transfers : List (List Transfer)} {registers : List (List ℕ)} {v : State} →
      Rows temps lives number insns u at transfers registers v → (x : TempInsn) → slice_get insns at ≡ Some x →
      (xs : List Transfer) (rs : List ℕ) (w : State) →
      Visits (site_of temps lives (number + at) x (drop (suc at) insns)) (unmade v) w xs rs →
      Rows temps lives number insns u (suc at) (transfers ++ xs ∷ []) (registers ++ rs ∷ []) w
