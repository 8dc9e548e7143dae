-- Which register a temporary may get.
use Rattle.std.specs.Prelude.{◌≡◌, ℕ, zero, suc, ◌<◌, ◌≤◌, ◌⊎◌, ◌==◌, ◌&&◌, ◌||◌, nat_lt, not, Bool, true, false, List, Option, Some, None, if◌then◌else◌}
use Rattle.bk_bits.specs.Sets.{has}
use Rattle.temp_ir.specs.declared.insn.TempInsn.{TempInsn}
use Rattle.alloc_rules.specs.Visits.{fixes, names_temp, is_shorter}
use Rattle.binpack_blocks.specs.declared.held.Held.{Held}
use Rattle.binpack_blocks.specs.model.Bins.{Bins, held_in, lives}

-- an instruction leaves a register alone, and no fixed value stands there behind it
abbrev pub is_open : TempInsn → (standing : List Bool) → (r : ℕ) → Bool
is_open x standing r = not (fixes x r) && not (has standing r)

-- and nothing live stands there
abbrev pub is_free : TempInsn → (standing : List Bool) → (live : ℕ → Bool) → Bins → (r : ℕ) → Bool
is_free x standing live bins r = is_open x standing r && not (lives live (held_in bins r))

-- so it is of the first registers, which are never fixed where an instruction names a temporary
abbrev pub AreOpen : TempInsn → (standing : List Bool) → Type 0
AreOpen x standing = (r : ℕ) → 1 ≤ r → r < 5 → is_open x standing r ≡ true

-- nothing stands in a register that the instruction names
abbrev pub is_idle : TempInsn → Option Held → Bool
is_idle x None = true
is_idle x (Some h) = not (names_temp x h.temp)

-- what stands there may leave
abbrev pub is_bystander : TempInsn → Option Held → Bool
is_bystander x None = false
is_bystander x (Some h) = not (names_temp x h.temp)

abbrev pub CanLeave : TempInsn → (standing : List Bool) → Bins → (r : ℕ) → Type 0
CanLeave x standing bins r = (r < 26) × (is_open x standing r ≡ true) × (is_bystander x (held_in bins r) ≡ true)

-- whoever takes a register spares what is live and named
abbrev pub Spares : TempInsn → (live : ℕ → Bool) → Bins → (r : ℕ) → Type 0
Spares x live bins r =
    (h : Held) → held_in bins r ≡ Some h → (live h.temp ≡ false) ⊎ (names_temp x h.temp ≡ false)

abbrev pub is_it : Option ℕ → (t : ℕ) → Bool
is_it None t = false
is_it (Some u) t = u == t

-- a register is another one or what was found
abbrev pub IsEither : Option ℕ → (r result : ℕ) → Type 0
IsEither best r result = (result ≡ r) ⊎ (best ≡ Some result)

-- ---- the farthest leaves

-- so a register may be left
abbrev pub is_leavable : TempInsn → (standing : List Bool) → Bins → (r : ℕ) → Bool
is_leavable x standing bins r = is_open x standing r && is_bystander x (held_in bins r)

-- of two temporaries with their next references the first one leaves: its reference is farther, or as far, and it has
-- the lower number
abbrev pub leaves_first : (next other_next : Option ℕ) → (t other : ℕ) → Bool
leaves_first next other_next t u = is_shorter other_next next || (not (is_shorter next other_next) && nat_lt t u)

abbrev pub is_farther : (next : (t : ℕ) → Option ℕ) → (here best : Option Held) → Bool
is_farther next None best = false
is_farther next (Some h) None = false
is_farther next (Some h) (Some b) = leaves_first (next h.temp) (next b.temp) h.temp b.temp

-- the register that is left, of what was found so far and one more
abbrev pub farther : (next : (t : ℕ) → Option ℕ) → Bins → Option ℕ → (r : ℕ) → ℕ
farther next bins None r = r
farther next bins (Some q) r = if is_farther next (held_in bins r) (held_in bins q) then r else q

abbrev pub considered : (next : (t : ℕ) → Option ℕ) → (may : ℕ → Bool) → Bins → Option ℕ → (r : ℕ) → Option ℕ
considered next may bins best r = if may r then Some (farther next bins best r) else best

-- and of so many registers
unfoldable pub farthest_below : (next : (t : ℕ) → Option ℕ) → (may : ℕ → Bool) → Bins → (count : ℕ) → Option ℕ
farthest_below next may bins zero = None
farthest_below next may bins (suc n) = considered next may bins (farthest_below next may bins n) n
