-- What a walk over the instructions of blocks puts behind the parts and references of each temporary.
use Rattle.std.specs.Prelude.{◌≡◌, ℕ, suc, ◌+◌, ◌*◌, ◌<◌, ◌==◌, ◌||◌, ◌&&◌, not, Bool, false, List, [], ◌∷◌, take, length, Option, Some, None}
use Rattle.bk_bits.specs.Sets.{has}
use Rattle.pass_core.specs.Functions.{count_of}
use Rattle.temp_ir.specs.declared.insn.TempInsn.{TempInsn}
use Rattle.temp_ir.specs.Insns.{reads_of, writes_of}
use Rattle.bitvector_flow.specs.Lives.{has_register}
use Rattle.alloc_model.specs.Lifetimes.{Blocks}
use Rattle.alloc_rules.specs.declared.scan.LifetimePart.{LifetimePart}
use Rattle.alloc_lifetime_ends.specs.Wanted.{live_by, present_in}
use Rattle.lifetime_holes.specs.model.Spans.{HasSpans, Stands, Points, JoinsSome, Puts, Marked, list_at}

abbrev pub is_named : Option ℕ → (t : ℕ) → Bool
is_named None t = false
is_named (Some u) t = u == t

-- ---- an instruction

pub record Visits (start number : ℕ) (reads writes : Bool) (old new : List LifetimePart) : Type 0 where
  pub mid : List LifetimePart
  pub read : Marked reads (JoinsSome start (2 * number)) old mid
  pub write : Marked writes (JoinsSome (2 * number + 1) (2 * number + 1)) mid new

pub record Names (number : ℕ) (reads writes : Bool) (old new : List ℕ) : Type 0 where
  pub mid : List ℕ
  pub read : Marked reads (Puts (2 * number)) old mid
  pub write : Marked writes (Puts (2 * number + 1)) mid new

pub record AreVisited (start number : ℕ) (x : TempInsn) (old new : List (List LifetimePart)) : Type 0 where
  pub as_many : length new ≡ length old
  pub each : (t : ℕ) → t < length old →
      Visits start number (has_register (reads_of x) t) (has_register (writes_of x) t) (list_at old t) (list_at new t)

pub record AreNamed (number : ℕ) (x : TempInsn) (old new : List (List ℕ)) : Type 0 where
  pub as_many : length new ≡ length old
  pub each : (t : ℕ) → t < length old →
      Names number (has_register (reads_of x) t) (has_register (writes_of x) t) (list_at old t) (list_at new t)

-- ---- instructions

-- a temporary is live before instructions behind which it is live or not
abbrev pub live_before : (t : ℕ) → (bottom : Bool) → List TempInsn → Bool
live_before t bottom [] = bottom
live_before t bottom (x ∷ xs) =
    has_register (reads_of x) t || (not (has_register (writes_of x) t) && live_before t bottom xs)

-- the test says at the points of instructions, of which the first has this number, where the temporary is present
abbrev pub Agrees : (test : ℕ → Bool) → (t : ℕ) → (bottom : Bool) → (number : ℕ) → List TempInsn → Type 0
Agrees test t bottom number [] = Unit {0}
Agrees test t bottom number (x ∷ xs) =
    (test (2 * number) ≡ live_before t bottom (x ∷ xs))
    × (test (2 * number + 1) ≡ (has_register (writes_of x) t || live_before t bottom xs))
    × Agrees test t bottom (suc number) xs

-- or where they name it
abbrev pub AgreesOnNames : (test : ℕ → Bool) → (t number : ℕ) → List TempInsn → Type 0
AgreesOnNames test t number [] = Unit {0}
AgreesOnNames test t number (x ∷ xs) =
    (test (2 * number) ≡ has_register (reads_of x) t) × (test (2 * number + 1) ≡ has_register (writes_of x) t)
    × AgreesOnNames test t (suc number) xs

-- in a block that begins at a point, from before the instructions to behind them
pub record AreWalked (start number : ℕ) (insns : List TempInsn) (old new : List (List LifetimePart)) : Type 0 where
  pub as_many : length new ≡ length old
  pub each : (test : ℕ → Bool) (t : ℕ) (bottom : Bool) → t < length old → Agrees test t bottom number insns →
      Stands test start (2 * number) (live_before t bottom insns) (list_at old t) →
      Stands test start (2 * (number + length insns)) bottom (list_at new t)

pub record AreCounted (number : ℕ) (insns : List TempInsn) (old new : List (List ℕ)) : Type 0 where
  pub as_many : length new ≡ length old
  pub each : (test : ℕ → Bool) (t : ℕ) → t < length old → AgreesOnNames test t number insns →
      Points test (2 * number) (list_at old t) → Points test (2 * (number + length insns)) (list_at new t)

-- ---- a block

pub record AreSpanned (number : ℕ) (insns : List TempInsn) (bottom : List Bool) (old new : List (List LifetimePart)) : Type 0 where
  pub as_many : length new ≡ length old
  pub each : (test : ℕ → Bool) (t : ℕ) → t < length old → Agrees test t (has bottom t) number insns →
      HasSpans test (2 * number) (list_at old t) → HasSpans test (2 * (number + length insns)) (list_at new t)

-- ---- the first so many blocks

abbrev pub is_present : Blocks → (bottoms : List (List Bool)) → (t point : ℕ) → Bool
is_present blocks bottoms t point = present_in (live_by blocks bottoms t) t point 0 0 blocks

abbrev pub is_reference : Blocks → (t point : ℕ) → Bool
is_reference blocks t point = present_in (λ block at. false) t point 0 0 blocks

pub record AreDone (blocks : Blocks) (bottoms : List (List Bool)) (count temps : ℕ) (parts : List (List LifetimePart)) (refs : List (List ℕ)) : Type 0 where
  pub parts_length : length parts ≡ temps
  pub refs_length : length refs ≡ temps
  pub spans : (t : ℕ) → t < temps → HasSpans (is_present blocks bottoms t) (2 * count_of (take count blocks)) (list_at parts t)
  pub points : (t : ℕ) → t < temps → Points (is_reference blocks t) (2 * count_of (take count blocks)) (list_at refs t)
