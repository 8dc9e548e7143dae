-- Which registers are live.
use Rattle.std.specs.Prelude.{◌≡◌, ℕ, suc, Bool, List, Contains, length, slice_get, Some}
use Rattle.pass_core.specs.Functions.{insn_at, successors_of}

-- Some path from a place of a block reads a register before any write of it: the instruction there reads it; or does
-- not write it, and a path from the next place does; or the block ends there, and a path from a block that follows does
pub data Live {I : Type 0} (reads writes targets : I → List ℕ) (flows_on : I → Bool) (blocks : List (List I))
    (register : ℕ) : ℕ → ℕ → Type 0 where
  IsRead : {block at : ℕ} → (i : I) → insn_at blocks block at ≡ Some i → Contains (reads i) register →
      Live reads writes targets flows_on blocks register block at
  Passes : {block at : ℕ} → (i : I) → insn_at blocks block at ≡ Some i → ¬ Contains (writes i) register →
      Live reads writes targets flows_on blocks register block (suc at) →
      Live reads writes targets flows_on blocks register block at
  Follows : {block at : ℕ} → (insns : List I) (next : ℕ) → slice_get blocks block ≡ Some insns → at ≡ length insns →
      Contains (successors_of targets flows_on block insns) next →
      Live reads writes targets flows_on blocks register next 0 →
      Live reads writes targets flows_on blocks register block at
