-- Several register moves at once, and what a list of moves does that are made one after the other.
use Rattle.std.specs.Prelude.{◌≡◌, ◌≢◌, ◌↔◌, ◌⊎◌, ℕ, zero, suc, ◌+◌, ◌<◌, ◌≤◌, ◌==◌, not, Bool, true, List, [], ◌∷◌, length, slice_get, Contains, count_by, Option, Some, None, option_and_then, if◌then◌else◌}
use Rattle.par_move.specs.declared.moves.Move.{Move}

-- ---- one after the other

-- what registers hold
abbrev pub RegisterContents : Type 0 → Type 0
RegisterContents C = ℕ → C

-- a register holds something else
abbrev pub with_content : {C : Type 0} → (r : ℕ) → C → RegisterContents C → RegisterContents C
with_content r c s q = if q == r then c else s q

-- moves one after the other, each of whatever its source holds
abbrev pub moved : {C : Type 0} → List Move → RegisterContents C → RegisterContents C
moved [] s = s
moved (m ∷ ms) s = moved ms (with_content m.to (s m.from) s)

-- what each of them moves passes a test
abbrev pub Carries : {C : Type 0} → (C → Bool) → List Move → RegisterContents C → Type 0
Carries test [] s = Unit {0}
Carries test (m ∷ ms) s = (test (s m.from) ≡ true) × Carries test ms (with_content m.to (s m.from) s)

-- ---- at once

-- no two moves have one target
abbrev pub HaveDistinctTargets : List Move → Type 0
HaveDistinctTargets moves = (i j : ℕ) (m n : Move) →
    slice_get moves i ≡ Some m → slice_get moves j ≡ Some n → m.to ≡ n.to → i ≡ j

-- a register is in no move
abbrev pub IsInNoMove : (r : ℕ) → List Move → Type 0
IsInNoMove r moves = (i : ℕ) (m : Move) → slice_get moves i ≡ Some m → (m.from ≢ r) × (m.to ≢ r)

-- a register is in one of the moves, or is the scratch
abbrev pub IsNamed : List Move → (scratch r : ℕ) → Type 0
IsNamed moves scratch r =
    (r ≡ scratch) ⊎ ((i : ℕ) × (m : Move) × (slice_get moves i ≡ Some m) × ((m.from ≡ r) ⊎ (m.to ≡ r)))

-- Moves that are made one after the other do what others do at once: after them each target of those holds what its
-- source held before, and every other register but the scratch is as before. They move only what stood in the sources,
-- and name no other register.
pub record ParallelMove (moves : List Move) (scratch : ℕ) (made : List Move) : Type 0 where
  pub targets : (s : RegisterContents ℕ) (i : ℕ) (m : Move) →
      slice_get moves i ≡ Some m → moved made s m.to ≡ s m.from
  pub others : (s : RegisterContents ℕ) (r : ℕ) →
      ((i : ℕ) (m : Move) → slice_get moves i ≡ Some m → m.to ≢ r) → r ≢ scratch → moved made s r ≡ s r
  pub carries : (test : ℕ → Bool) (s : RegisterContents ℕ) →
      ((i : ℕ) (m : Move) → slice_get moves i ≡ Some m → test (s m.from) ≡ true) → Carries test made s
  pub names : (i : ℕ) (m : Move) →
      slice_get made i ≡ Some m → IsNamed moves scratch m.from × IsNamed moves scratch m.to

-- ---- cycles

-- the register from which a register is filled, if it is a target
abbrev pub filled_from : List Move → (r : ℕ) → Option ℕ
filled_from [] r = None
filled_from (m ∷ ms) r = if m.to == r then Some m.from else filled_from ms r

-- so many moves back from a register
abbrev pub back : List Move → (steps : ℕ) → (r : ℕ) → Option ℕ
back moves zero r = Some r
back moves (suc k) r = option_and_then (filled_from moves) (back moves k r)

-- one goes back from a register to that register itself, by moves between different ones
pub record IsOnCycle (moves : List Move) (r : ℕ) : Type 0 where
  pub steps : ℕ
  pub comes_back : back moves (suc steps) r ≡ Some r
  pub leaves : filled_from moves r ≢ Some r

-- the least register of a cycle, one for each cycle
pub record BeginsCycle (moves : List Move) (r : ℕ) : Type 0 where
  pub on : IsOnCycle moves r
  pub least : (k q : ℕ) → back moves k r ≡ Some q → r ≤ q

-- a rising list
abbrev pub IsRising : List ℕ → Type 0
IsRising rs = (i j a b : ℕ) → i < j → slice_get rs i ≡ Some a → slice_get rs j ≡ Some b → a < b

-- the cycles of moves, each by its least register: a list that is theirs alone
pub record AreCycles (moves : List Move) (cycles : List ℕ) : Type 0 where
  pub rising : IsRising cycles
  pub each : (r : ℕ) → Contains cycles r ↔ BeginsCycle moves r

-- between different registers
abbrev pub is_between : Move → Bool
is_between m = not (m.from == m.to)

-- as many moves as there are between different registers, and one for each cycle
pub record HasLength (moves made : List Move) : Type 0 where
  pub cycles : List ℕ
  pub are : AreCycles moves cycles
  pub long : length made ≡ count_by is_between moves + length cycles
