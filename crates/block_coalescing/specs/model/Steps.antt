-- What a step of the walk gives.
use Rattle.std.specs.Prelude.{◌≡◌, ℕ, ◌<◌, Bool, List, [], ◌∷◌, ◌++◌, slice_get, length}
use Rattle.temp_ir.specs.declared.insn.TempInsn.{TempInsn}
use Rattle.block_coalescing.specs.declared.walk.Step.{Step}
use Rattle.block_coalescing.specs.declared.walk.Step.TheVariants.{Fails, Goes, Stays}
use Rattle.block_coalescing.specs.Walks.{Names, Walked, OptionWalked}

-- the first two temporaries that are read, replaced
abbrev pub put_reads : List ℕ → (first second : ℕ) → List ℕ
put_reads [] first second = []
put_reads (r ∷ []) first second = first ∷ []
put_reads (r ∷ u ∷ rs) first second = first ∷ second ∷ []

abbrev pub IsGone : (temps : ℕ) → (n m : Names) → TempInsn → Type 0
IsGone temps n m x =
    (bottom : ℕ → Bool) (xs ys : List TempInsn) → Walked temps bottom m xs ys → Walked temps bottom n (x ∷ xs) ys

abbrev pub IsKept : (temps : ℕ) → (bottom : ℕ → Bool) → (n m : Names) → (x y : TempInsn) → Type 0
IsKept temps bottom n m x y =
    (xs ys : List TempInsn) → Walked temps bottom m xs ys → Walked temps bottom n (x ∷ xs) (y ∷ ys)

abbrev pub StepIs : (temps : ℕ) → (bottom : ℕ → Bool) → (n m : Names) → TempInsn → Step → Type 0
StepIs temps bottom n m x Fails = Unit {0}
StepIs temps bottom n m x Goes = IsGone temps n m x
StepIs temps bottom n m x (Stays y) = IsKept temps bottom n m x y

-- what was made so far, before what is left
abbrev pub Leads : (temps : ℕ) → (bottom : ℕ → Bool) → (start : Names) → (all made : List TempInsn) → (n : Names) →
    (rest : List TempInsn) → Type 0
Leads temps bottom start all made n rest =
    (ys : List TempInsn) → Walked temps bottom n rest ys → Walked temps bottom start all (made ++ ys)

-- an instruction more
abbrev pub Puts : (temps : ℕ) → (bottom : ℕ → Bool) → (n m : Names) → TempInsn → (made more : List TempInsn) → Type 0
Puts temps bottom n m x made more =
    (start : Names) (all xs : List TempInsn) → Leads temps bottom start all made n (x ∷ xs) →
    Leads temps bottom start all more m xs

-- the first so many blocks are walked along their second versions
pub record AreWalkedTo (count : ℕ) (temps : ℕ) (tops bottoms : (block r : ℕ) → Bool)
    (before after : List (List TempInsn)) : Type 0 where
  pub far : length after ≡ count
  pub each : (block : ℕ) → block < count →
      OptionWalked temps (tops block) (bottoms block) (slice_get before block) (slice_get after block)
