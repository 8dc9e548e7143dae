-- The points at which a temporary is wanted, in linear order: instruction n reads at point 2n and writes at 2n + 1.
use Rattle.std.specs.Prelude.{◌≡◌, ℕ, suc, ◌+◌, ◌*◌, ◌<◌, ◌≤◌, List, Contains, Some}
use Rattle.pass_core.specs.Functions.{insn_at}
use Rattle.pass_core.specs.Live.{Live}
use Rattle.temp_ir.specs.declared.insn.TempInsn.{TempInsn}
use Rattle.temp_ir.specs.Insns.{reads_of, writes_of, targets_of, flows_on_of}
use Rattle.alloc_model.specs.Places.{linear_number}

abbrev pub Blocks : Type 0
Blocks = List (List TempInsn)

abbrev pub lives_at : Blocks → (t block at : ℕ) → Type 0
lives_at blocks t block at = Live reads_of writes_of targets_of flows_on_of blocks t block at

-- A temporary is present where an instruction reads it or it is live before that, and where an instruction writes it or
-- it is live after that
pub data IsPresent (blocks : Blocks) (t : ℕ) (point : ℕ) : Type 0 where
  IsRead : (block at : ℕ) (x : TempInsn) → insn_at blocks block at ≡ Some x →
      point ≡ 2 * linear_number blocks block at → Contains (reads_of x) t → IsPresent blocks t point
  IsLiveBefore : (block at : ℕ) (x : TempInsn) → insn_at blocks block at ≡ Some x →
      point ≡ 2 * linear_number blocks block at → lives_at blocks t block at → IsPresent blocks t point
  IsWritten : (block at : ℕ) (x : TempInsn) → insn_at blocks block at ≡ Some x →
      point ≡ 2 * linear_number blocks block at + 1 → Contains (writes_of x) t → IsPresent blocks t point
  IsLiveAfter : (block at : ℕ) (x : TempInsn) → insn_at blocks block at ≡ Some x →
      point ≡ 2 * linear_number blocks block at + 1 → lives_at blocks t block (suc at) → IsPresent blocks t point

-- the lifetime of a temporary: the least range, from a first to a last point, that holds all points where it is present
pub record IsLifetime (blocks : Blocks) (t first last : ℕ) : Type 0 where
  pub at_first : IsPresent blocks t first
  pub at_last : IsPresent blocks t last
  pub all : (point : ℕ) → IsPresent blocks t point → (first ≤ point) × (point ≤ last)

-- a part: a greatest range where it is present
pub record IsPart (blocks : Blocks) (t first last : ℕ) : Type 0 where
  pub ordered : first ≤ last
  pub present : (point : ℕ) → first ≤ point → point ≤ last → IsPresent blocks t point
  pub begins : (point : ℕ) → suc point ≡ first → ¬ IsPresent blocks t point
  pub ends : ¬ IsPresent blocks t (suc last)

-- a hole: a greatest range inside the lifetime where it is not present
pub record IsHole (blocks : Blocks) (t first last : ℕ) : Type 0 where
  pub ordered : first ≤ last
  pub absent : (point : ℕ) → first ≤ point → point ≤ last → ¬ IsPresent blocks t point
  pub begins : (point : ℕ) → suc point ≡ first → IsPresent blocks t point
  pub ends : IsPresent blocks t (suc last)
  pub inside : 0 < first

-- a temporary has one lifetime at most, and two of its parts are apart or the same
pub record LifetimesAreUnique : Type 0 where
  pub lifetimes : (blocks : Blocks) (t a b c d : ℕ) → IsLifetime blocks t a b → IsLifetime blocks t c d →
      (a ≡ c) × (b ≡ d)
  pub parts : (blocks : Blocks) (t a b c d point : ℕ) → IsPart blocks t a b → IsPart blocks t c d →
      (a ≤ point) × (point ≤ b) → (c ≤ point) × (point ≤ d) → (a ≡ c) × (b ≡ d)
