-- What holds of the instructions of every kind.
use Rattle.std.specs.Prelude.{◌≡◌, ◌≢◌, ℕ, ◌<◌, ◌≤◌, Bool, false, List, [], ◌∷◌, length, Some, slice_get, slice_set}

-- An instruction has at most one target. Setting a target sets that one and nothing else, and the jump to a block has
-- that target, reads and writes nothing, and is the only kind of instruction that has a target and does not go on.
pub record InsnLaws {I : Type 0} (reads writes targets : I → List ℕ) (with_target : I → ℕ → ℕ → I) (jump_to : ℕ → I)
    (flows_on traps : I → Bool) : Type 0 where
  pub one_target : (i : I) → length (targets i) ≤ 1
  pub sets_target : (i : I) (k block : ℕ) → k < length (targets i) →
      targets (with_target i k block) ≡ slice_set (targets i) k block
  pub keeps_reads : (i : I) (k block : ℕ) → reads (with_target i k block) ≡ reads i
  pub keeps_writes : (i : I) (k block : ℕ) → writes (with_target i k block) ≡ writes i
  pub keeps_flow : (i : I) (k block : ℕ) → flows_on (with_target i k block) ≡ flows_on i
  pub keeps_traps : (i : I) (k block : ℕ) → traps (with_target i k block) ≡ traps i
  pub sets_again : (i : I) (k block other : ℕ) → with_target (with_target i k block) k other ≡ with_target i k other
  pub sets_same : (i : I) (k block : ℕ) → slice_get (targets i) k ≡ Some block → with_target i k block ≡ i
  pub sets_apart : (i : I) (j k block other : ℕ) → j ≢ k → j < length (targets i) → k < length (targets i) →
      with_target (with_target i j block) k other ≡ with_target (with_target i k other) j block
  pub jump_targets : (block : ℕ) → targets (jump_to block) ≡ block ∷ []
  pub jump_reads : (block : ℕ) → reads (jump_to block) ≡ []
  pub jump_writes : (block : ℕ) → writes (jump_to block) ≡ []
  pub jump_stops : (block : ℕ) → flows_on (jump_to block) ≡ false
  pub jump_traps : (block : ℕ) → traps (jump_to block) ≡ false
  pub only_jumps : (i : I) (block : ℕ) (others : List ℕ) → flows_on i ≡ false → targets i ≡ block ∷ others →
      i ≡ jump_to block
