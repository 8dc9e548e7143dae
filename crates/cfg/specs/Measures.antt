-- Sums over the instructions of a function, whatever is counted.
use Rattle.std.specs.Prelude.{◌≡◌, ◌≤◌, ℕ, List, sum_by}
use Rattle.cfg.specs.Walks.{zero_targets}

-- what the instructions of all blocks have of a measure
abbrev pub measure_of : {I : Type 0} → (measure : I → ℕ) → List (List I) → ℕ
measure_of measure blocks = sum_by (λ block. sum_by measure block) blocks

-- of each measure that does not see the numbers of targets, the blocks have no more than those before
abbrev pub NoMeasureGrows : {I : Type 0} → (targets : I → List ℕ) → (with_target : I → ℕ → ℕ → I)
    → (before after : List (List I)) → Type 0
NoMeasureGrows targets with_target before after =
    (measure : _ → ℕ) → ((i : _) → measure (zero_targets targets with_target i) ≡ measure i)
    → measure_of measure after ≤ measure_of measure before
