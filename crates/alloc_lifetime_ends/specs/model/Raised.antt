-- The last points so far are raised to points of references and of what is live at the bottoms of blocks.
use Rattle.std.specs.Prelude.{◌≡◌, ℕ, suc, ◌+◌, ◌*◌, ◌<◌, ◌≤◌, ◌⊎◌, true, Bool, List, [], ◌∷◌, take, length, slice_index_or, Contains}
use Rattle.bk_bits.specs.Sets.{has}
use Rattle.temp_ir.specs.declared.insn.TempInsn.{TempInsn}
use Rattle.temp_ir.specs.Insns.{reads_of, writes_of}
use Rattle.alloc_model.specs.Lifetimes.{Blocks}
use Rattle.alloc_lifetime_ends.specs.Wanted.{live_by, present_in}

-- a reference of an instruction with a number
abbrev pub IsOfInsn : (number : ℕ) → TempInsn → (t point : ℕ) → Type 0
IsOfInsn number x t point =
    (Contains (reads_of x) t × (point ≡ 2 * number)) ⊎ (Contains (writes_of x) t × (point ≡ 2 * number + 1))

-- one of instructions of which the first has this number
abbrev pub IsOfInsns : (number : ℕ) → List TempInsn → (t point : ℕ) → Type 0
IsOfInsns number [] t point = ⊥
IsOfInsns number (x ∷ insns) t point = IsOfInsn number x t point ⊎ IsOfInsns (suc number) insns t point

-- a temporary is live behind the last of instructions with numbers from one on to below another
pub record IsBehind (number next : ℕ) (bottom : List Bool) (t point : ℕ) : Type 0 where
  pub some : number < next
  pub live : has bottom t ≡ true
  pub is : suc point ≡ 2 * next

abbrev pub IsOfBlock : (number : ℕ) → List TempInsn → (bottom : List Bool) → (t point : ℕ) → Type 0
IsOfBlock number insns bottom t point =
    IsOfInsns number insns t point ⊎ IsBehind number (number + length insns) bottom t point

-- each point that is marked for a temporary is below its last point or that itself, which is an old one or marked
pub record IsRaised (marked : (t point : ℕ) → Type 0) (old new : List ℕ) : Type 0 where
  pub as_many : length new ≡ length old
  pub grows : (t : ℕ) → slice_index_or old t 0 ≤ slice_index_or new t 0
  pub covers : (t point : ℕ) → t < length old → marked t point → point ≤ slice_index_or new t 0
  pub only : (t : ℕ) → (slice_index_or new t 0 ≡ slice_index_or old t 0) ⊎ marked t (slice_index_or new t 0)

-- a temporary is present at a point of one of the first so many blocks
abbrev pub IsPresentIn : Blocks → (bottoms : List (List Bool)) → (count : ℕ) → (t point : ℕ) → Type 0
IsPresentIn blocks bottoms count t point = present_in (live_by blocks bottoms t) t point 0 0 (take count blocks) ≡ true
