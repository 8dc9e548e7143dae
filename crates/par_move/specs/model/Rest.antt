-- The moves that wait: from where each register waits to be filled, and how many wait for each.
use Rattle.std.specs.Prelude.{◌≡◌, ◌≢◌, ◌↔◌, ◌⊎◌, ℕ, zero, suc, ◌+◌, ◌-◌, ◌<◌, ◌≤◌, ◌==◌, Bool, true, false, List, [], ◌∷◌, ◌++◌, length, sum, sum_by, map, slice_get, slice_index, slice_index_or, slice_set, Contains, count_by, Option, Some, None, unwrap_or, if◌then◌else◌}
use Rattle.par_move.specs.declared.moves.Move.{Move}
use Rattle.par_move.specs.Moves.{RegisterContents, moved, Carries, filled_from, back, IsOnCycle, BeginsCycle, IsRising, is_between, IsNamed}

pub record Rest : Type 0 where
  pub sources : List (Option ℕ)
  pub reads : List ℕ
  pub made : List Move

abbrev pub rest : List (Option ℕ) → List ℕ → List Move → Rest
rest sources reads made = record { sources = sources; reads = reads; made = made }

-- from where a register waits to be filled
unfoldable pub source_at : List (Option ℕ) → ℕ → Option ℕ
source_at sources r = slice_index_or sources r None

unfoldable pub reads_at : List ℕ → ℕ → ℕ
reads_at reads r = slice_index_or reads r 0

-- how many wait: one or none
unfoldable pub waits : Option ℕ → ℕ
waits None = 0
waits (Some q) = 1

unfoldable pub waits_for : ℕ → Option ℕ → ℕ
waits_for r None = 0
waits_for r (Some q) = if q == r then 1 else 0

unfoldable pub waiting : List (Option ℕ) → ℕ
waiting sources = sum_by waits sources

unfoldable pub waiting_for : ℕ → List (Option ℕ) → ℕ
waiting_for r sources = sum_by (waits_for r) sources

-- the counts are right
pub record IsCounted (sources : List (Option ℕ)) (reads : List ℕ) : Type 0 where
  pub many : length sources ≡ 256
  pub as_many : length reads ≡ 256
  pub counts : (q : ℕ) → q < 256 → reads_at reads q ≡ waiting_for q sources
  pub within : (r q : ℕ) → source_at sources r ≡ Some q → q < 256
  pub total : sum reads ≡ waiting sources

-- from where a register can be filled now
abbrev pub if_none : ℕ → Option ℕ → Option ℕ
if_none zero o = o
if_none (suc n) o = None

abbrev pub ready_at : List (Option ℕ) → List ℕ → ℕ → Option ℕ
ready_at sources reads r = if_none (slice_index reads r) (slice_index_or sources r None)

abbrev pub after_make : Rest → (from to : ℕ) → Rest
after_make x from to = record {
  sources = slice_set x.sources to None;
  reads = slice_set x.reads from (slice_index x.reads from - 1);
  made = x.made ++ record { from = from; to = to } ∷ [];
}

-- moves that wait are made, each of the register that the one before it read
pub data Chain : Rest → ℕ → Rest → ℕ → Type 0 where
  Stays : {x : Rest} {r : ℕ} → Chain x r x r
  Makes : {x y : Rest} {r t : ℕ} (q : ℕ) → Chain x r y t → ready_at y.sources y.reads t ≡ Some q → Chain x r (after_make y q t) q

pub record Released (start : ℕ) (x y : Rest) : Type 0 where
  pub last : ℕ
  pub chain : Chain x start y last
  pub ends : ready_at y.sources y.reads last ≡ None

-- ---- what the moves so far have done

-- where the content stands that a register is to have: where it waits for it, or in itself
unfoldable pub current : List (Option ℕ) → ℕ → ℕ
current sources r = unwrap_or (source_at sources r) r

unfoldable pub wanted : List Move → ℕ → ℕ
wanted moves r = unwrap_or (filled_from moves r) r

pub record Stands (moves : List Move) (scratch : ℕ) (sources : List (Option ℕ)) (made : List Move) (broken : ℕ) : Type 0 where
  pub effect : (s : RegisterContents ℕ) (r : ℕ) → r ≢ scratch → moved made s (current sources r) ≡ s (wanted moves r)
  pub idle : source_at sources scratch ≡ None
  pub origin : (r q : ℕ) → source_at sources r ≡ Some q →
      (p : ℕ) × (filled_from moves r ≡ Some p) × (p ≢ r) × ((q ≡ p) ⊎ (q ≡ scratch))
  pub long : length made + waiting sources ≡ count_by is_between moves + broken
  pub carries : (test : ℕ → Bool) (s : RegisterContents ℕ) →
      ((r p : ℕ) → filled_from moves r ≡ Some p → test (s p) ≡ true) → Carries test made s
  pub names : (i : ℕ) (m : Move) → slice_get made i ≡ Some m → IsNamed moves scratch m.from × IsNamed moves scratch m.to

-- the cycles that have no register below a number wait as a whole
pub record IsWhole (moves : List Move) (r : ℕ) (sources : List (Option ℕ)) : Type 0 where
  pub each : (t : ℕ) → IsOnCycle moves t → ((k c : ℕ) → back moves k t ≡ Some c → r ≤ c) →
      source_at sources t ≡ filled_from moves t

-- no register below a number can be filled, but for one
pub record NoneReady (n but : ℕ) (sources : List (Option ℕ)) (reads : List ℕ) : Type 0 where
  pub each : (i : ℕ) → i < n → i ≢ but → ready_at sources reads i ≡ None

-- ---- the three loops

-- from where a register is to be filled, if from another one
abbrev pub from_other : (r : ℕ) → Option ℕ → Option ℕ
from_other r None = None
from_other r (Some q) = if q == r then None else Some q

-- they name registers below a number
abbrev pub AreNamedBelow : ℕ → List Move → Type 0
AreNamedBelow n moves = (i : ℕ) (m : Move) → slice_get moves i ≡ Some m → (m.from < n) × (m.to < n)

-- some moves wait, and none was made
pub record Opened (moves : List Move) (sources : List (Option ℕ)) (reads : List ℕ) : Type 0 where
  pub named : AreNamedBelow 256 moves
  pub counted : IsCounted sources reads
  pub each : (r : ℕ) → source_at sources r ≡ from_other r (filled_from moves r)
  pub many : waiting sources ≡ count_by is_between moves

-- all moves are made that wait for no cycle, below a register
pub record AtChains (moves : List Move) (scratch r : ℕ) (sources : List (Option ℕ)) (reads : List ℕ) (made : List Move) : Type 0 where
  pub named : AreNamedBelow 256 moves
  pub counted : IsCounted sources reads
  pub stands : Stands moves scratch sources made 0
  pub whole : IsWhole moves 0 sources
  pub none : (i : ℕ) → i < r → ready_at sources reads i ≡ None

-- only whole cycles wait, and those below a register were broken
pub record AtCycles (moves : List Move) (scratch r : ℕ) (sources : List (Option ℕ)) (reads : List ℕ) (made : List Move) : Type 0 where
  pub named : AreNamedBelow 256 moves
  pub cycles : List ℕ
  pub rising : IsRising cycles
  pub broken : (c : ℕ) → Contains cycles c ↔ (BeginsCycle moves c × (c < r))
  pub counted : IsCounted sources reads
  pub stands : Stands moves scratch sources made (length cycles)
  pub whole : IsWhole moves r sources
  pub below : (i : ℕ) → i < r → source_at sources i ≡ None
  pub none : (i : ℕ) → i < 256 → ready_at sources reads i ≡ None

-- a move waits, if it is between different registers
abbrev pub noted : Bool → Move → (S T : List (Option ℕ)) (R Q : List ℕ) → Type 0
noted true m S T R Q = (T ≡ S) × (Q ≡ R)
noted false m S T R Q = (T ≡ slice_set S m.to (Some m.from)) × (Q ≡ slice_set R m.from (slice_index R m.from + 1))

abbrev pub Notes : Move → (S : List (Option ℕ)) (R : List ℕ) (T : List (Option ℕ)) (Q : List ℕ) → Type 0
Notes m S R T Q = noted (m.from == m.to) m S T R Q

-- ---- a cycle is broken

-- what waits for a register waits for the scratch
abbrev pub redirected : (first scratch : ℕ) → Option ℕ → Option ℕ
redirected first scratch None = None
redirected first scratch (Some q) = Some (if q == first then scratch else q)

abbrev pub after_break : (first scratch : ℕ) → Rest → Rest
after_break first scratch x = record {
  sources = map (redirected first scratch) x.sources;
  reads = slice_set (slice_set x.reads scratch (slice_index x.reads first)) first 0;
  made = x.made ++ record { from = first; to = scratch } ∷ [];
}
