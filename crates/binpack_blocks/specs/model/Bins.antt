-- What stands in the registers while a function is scanned, and how what leaves one is left in its slot.
use Rattle.std.specs.Prelude.{◌≡◌, ℕ, ◌<◌, ◌==◌, ◌&&◌, not, Bool, true, false, List, slice_set, slice_index_or, Option, Some, None, if◌then◌else◌}
use Rattle.binpack_blocks.specs.declared.held.Held.{Held}
use Rattle.binpack_blocks.specs.declared.held.SlotCopy.{SlotCopy}
use Rattle.binpack_blocks.specs.declared.held.SlotCopy.TheVariants.{Own, Twice, Lent}

-- for each register by its number
abbrev pub Bins : Type 0
Bins = List (Option Held)

abbrev pub held_in : Bins → (register : ℕ) → Option Held
held_in bins r = slice_index_or bins r None

abbrev pub has_temp : Option Held → (t : ℕ) → Bool
has_temp None t = false
has_temp (Some h) t = h.temp == t

abbrev pub held : (t : ℕ) → SlotCopy → Held
held t copy = record { temp = t; copy = copy }

-- a temporary stands in no register
abbrev pub IsNowhere : Bins → (t : ℕ) → Type 0
IsNowhere bins t = (r : ℕ) → has_temp (held_in bins r) t ≡ false

-- each stands in one at most
abbrev pub IsOnce : Bins → Type 0
IsOnce bins = (t r q : ℕ) → has_temp (held_in bins r) t ≡ true → has_temp (held_in bins q) t ≡ true → r ≡ q

-- and is one of so many
abbrev pub AreInside : (temps : ℕ) → Bins → Type 0
AreInside temps bins = (r t : ℕ) → has_temp (held_in bins r) t ≡ true → t < temps

-- ---- leaving

-- the slot does not hold it
abbrev pub is_unsaved : SlotCopy → Bool
is_unsaved Own = true
is_unsaved Twice = false
is_unsaved (Lent saved) = not saved

-- the slot holds it where the blocks before see to that
abbrev pub is_relied : SlotCopy → Bool
is_relied (Lent saved) = saved
is_relied copy = false

-- whether it is live, by a test
abbrev pub lives : (live : ℕ → Bool) → Option Held → Bool
lives live None = false
lives live (Some h) = live h.temp

-- a live one is stored before it leaves
abbrev pub must_store : (live : Bool) → Option Held → Bool
must_store live None = false
must_store live (Some h) = live && is_unsaved h.copy

abbrev pub relied_behind : (live : Bool) → Option Held → (relied : List Bool) → List Bool
relied_behind live None relied = relied
relied_behind live (Some h) relied = if live && is_relied h.copy then slice_set relied h.temp true else relied

-- what stands in a register leaves it, and its slot is relied on where that is needed
pub record Leaves (live : ℕ → Bool) (o : Option Held) (old new : List Bool) : Type 0 where
  pub saved : must_store (lives live o) o ≡ false
  pub relied : new ≡ relied_behind (lives live o) o old

-- ---- from block to block

abbrev pub lent_copy : SlotCopy → SlotCopy
lent_copy Own = Lent false
lent_copy Twice = Lent true
lent_copy (Lent saved) = Lent saved

abbrev pub lent : Option Held → Option Held
lent None = None
lent (Some h) = Some (held h.temp (lent_copy h.copy))
