-- Instructions whose targets get other numbers.
use Rattle.std.specs.Prelude.{ℕ, suc, List, [], ◌∷◌, map, slice_index_or}

-- an instruction with these targets from number k on
abbrev pub with_targets : {I : Type 0} → (with_target : I → ℕ → ℕ → I) → I → (k : ℕ) → List ℕ → I
with_targets with_target i k [] = i
with_targets with_target i k (block ∷ blocks) = with_targets with_target (with_target i k block) (suc k) blocks

-- an instruction with each target replaced by its number in a list
abbrev pub renumber : {I : Type 0} → (targets : I → List ℕ) → (with_target : I → ℕ → ℕ → I) → (numbers : List ℕ) → I → I
renumber targets with_target numbers i =
    with_targets with_target i 0 (map (λ block. slice_index_or numbers block 0) (targets i))
