-- What is done before an instruction and by it, one step after the other.
use Rattle.std.specs.Prelude.{◌≡◌, ℕ, zero, suc, ◌+◌, ◌<◌, ◌⊎◌, Bool, true, false, List, [], ◌∷◌, ◌++◌, slice_set, Some, None, if◌then◌else◌}
use Rattle.temp_ir.specs.declared.insn.TempInsn.{TempInsn}
use Rattle.temp_ir.specs.Insns.{writes_of}
use Rattle.temp_ir.specs.Fixed.{has_number}
use Rattle.alloc_model.specs.declared.allocation.Transfer.{Transfer}
use Rattle.alloc_model.specs.declared.allocation.Transfer.TheVariants.{Store, Load, Shift}
use Rattle.alloc_rules.specs.Visits.{fixes, takes_away}
use Rattle.binpack_blocks.specs.declared.held.Held.{Held}
use Rattle.binpack_blocks.specs.declared.held.SlotCopy.TheVariants.{Own, Twice}
use Rattle.binpack_blocks.specs.model.Bins.{Bins, held_in, has_temp, held, IsNowhere, is_unsaved, Leaves}

-- an instruction, with tests for what is live before it, and behind it or written, and for the registers in which fixed
-- values stand behind it
pub record Site : Type 0 where
  pub insn : TempInsn
  pub before : ℕ → Bool
  pub behind : ℕ → Bool
  pub stands : ℕ → Bool
  pub temps : ℕ

-- what stands in registers, the transfers so far, and on whose slots the block has relied
pub record State : Type 0 where
  pub bins : Bins
  pub made : List Transfer
  pub relied : List Bool

-- a register that a temporary can get: one of the 26, left alone by the instruction and free of fixed values
pub record MayGet (s : Site) (r : ℕ) : Type 0 where
  pub given : r < 26
  pub unfixed : fixes s.insn r ≡ false
  pub unclaimed : s.stands r ≡ false

-- what is stored is live before the instruction, or behind it and not written
abbrev pub MayStore : Site → (t : ℕ) → Type 0
MayStore s t =
    (s.before t ≡ true) ⊎ ((s.behind t ≡ true) × (has_number (writes_of s.insn) t ≡ false))

-- ---- before the instruction

-- a store; a shift out of a register that the instruction fixes; a load
pub data Step (s : Site) (v w : State) : Type 0 where
  Stores : (r : ℕ) (h : Held) → held_in v.bins r ≡ Some h → is_unsaved h.copy ≡ true → MayStore s h.temp →
      w.bins ≡ slice_set v.bins r (Some (held h.temp Twice)) → w.made ≡ v.made ++ Store h.temp r ∷ [] →
      w.relied ≡ v.relied → Step s v w
  Shifts : (r q : ℕ) (h : Held) → held_in v.bins r ≡ Some h → fixes s.insn r ≡ true → s.before h.temp ≡ true →
      MayGet s q → Leaves s.before (held_in v.bins q) v.relied w.relied →
      w.bins ≡ slice_set (slice_set v.bins r None) q (Some h) → w.made ≡ v.made ++ Shift h.temp r q ∷ [] → Step s v w
  Loads : (t r : ℕ) → IsNowhere v.bins t → s.before t ≡ true → t < s.temps → MayGet s r →
      Leaves s.before (held_in v.bins r) v.relied w.relied →
      w.bins ≡ slice_set v.bins r (Some (held t Twice)) → w.made ≡ v.made ++ Load t r ∷ [] → Step s v w

pub data Steps (s : Site) (u : State) : State → Type 0 where
  Start : Steps s u u
  More : {v w : State} → Steps s u v → Step s v w → Steps s u w

-- ---- the instruction

-- what stands in registers that the instruction takes away leaves them
pub data Empties (s : Site) (u : State) : State → Type 0 where
  Begin : Empties s u u
  Next : {v w : State} → Empties s u v → (r : ℕ) → takes_away s.insn r ≡ true →
      Leaves s.behind (held_in v.bins r) v.relied w.relied → w.bins ≡ slice_set v.bins r None → Empties s u w

pub record Ends (s : Site) (v w : State) : Type 0 where
  pub empties : Empties s v w
  pub clear : (r : ℕ) → takes_away s.insn r ≡ true → held_in w.bins r ≡ None

-- what is written keeps its register, or gets one
pub data Writes (s : Site) (v w : State) : (temps registers : List ℕ) → Type 0 where
  Nothing : w.bins ≡ v.bins → w.relied ≡ v.relied → Writes s v w [] []
  Keeps : (t r : ℕ) → has_temp (held_in v.bins r) t ≡ true → w.bins ≡ slice_set v.bins r (Some (held t Own)) →
      w.relied ≡ v.relied → Writes s v w (t ∷ []) (r ∷ [])
  Gets : (t r : ℕ) → IsNowhere v.bins t → t < s.temps → MayGet s r →
      Leaves s.behind (held_in v.bins r) v.relied w.relied → w.bins ≡ slice_set v.bins r (Some (held t Own)) →
      Writes s v w (t ∷ []) (r ∷ [])

-- ---- how many registers an instruction takes away

abbrev pub taken : TempInsn → (r : ℕ) → ℕ
taken x r = if takes_away x r then 1 else 0

abbrev pub taken_below : TempInsn → (count : ℕ) → ℕ
taken_below x zero = 0
taken_below x (suc n) = taken_below x n + taken x n
