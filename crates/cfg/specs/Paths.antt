-- Paths along the edges of a function.
use Rattle.std.specs.Prelude.{◌≡◌, ℕ, ◌<◌, ◌≤◌, Bool, List, Contains, length, slice_get, Some}
use Rattle.pass_core.specs.Functions.{insn_at}
use Rattle.cfg.specs.Edges.{successors_from}

-- a path leads from block 0 to a block, where these are the blocks that may follow each
pub data IsReachable (followers : List (List ℕ)) : ℕ → Type 0 where
  IsEntry : IsReachable followers 0
  Follows : {block : ℕ} (next : ℕ) (nexts : List ℕ) → IsReachable followers block
      → slice_get followers block ≡ Some nexts → Contains nexts next → IsReachable followers next

-- a path leads from block 0 to each block
abbrev pub AllReached : {I : Type 0} → (targets : I → List ℕ) → (flows_on : I → Bool) → List (List I) → Type 0
AllReached targets flows_on blocks =
    (block : ℕ) → block < length blocks → IsReachable (successors_from targets flows_on 0 blocks) block

-- a jump or branch of a block goes to this block, which is the same or an earlier one
pub record GoesBack {I : Type 0} (targets : I → List ℕ) (blocks : List (List I)) (to : ℕ) : Type 0 where
  pub block : ℕ
  pub at : ℕ
  pub insn : I
  pub stands : insn_at blocks block at ≡ Some insn
  pub leads : Contains (targets insn) to
  pub back : to ≤ block
