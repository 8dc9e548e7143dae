-- That the edges of a plan lead as a run over flat bytes asks, by what functions keep and where no edge is critical.
use Rattle.std.specs.Prelude.{◌≡◌, ℕ, ◌<◌, true, List, [], All, Contains, IsTrue, Some, length, slice_get, slice_index_or}
use Rattle.cfg_edges.specs.Critical.{NoneCritical}
use Rattle.pass_core.specs.Functions.{AllInsns, GoesToBlocks, EndsLate, stops, successors_of}
use Rattle.temp_ir.specs.declared.insn.TempInsn.{TempInsn}
use Rattle.temp_ir.specs.Insns.{targets_of, flows_on_of}
use Rattle.temp_ir.specs.Programs.{goes_back_to_marks}
use Rattle.alloc_model.specs.Places.{Plan}
use Rattle.alloc_model.specs.Faithful.{HasLists}
use Rattle.frame_simulation.specs.flat_steps.Items.{ends_with_branch}
use Rattle.frame_simulation.specs.flat_steps.Builds.{EdgesLead}

-- the blocks of a function: targets are blocks other than the entry, what goes elsewhere stands last in its block, and
-- nothing runs off the end
pub record AreBlocks (blocks : List (List TempInsn)) : Type 0 where
  pub targets : AllInsns (GoesToBlocks targets_of (length blocks)) blocks
  -- each edge back leads to a block that begins with a mark
  pub marks : (block : ℕ) → block < length blocks →
      All (λ i. IsTrue (goes_back_to_marks blocks block i)) (slice_index_or blocks block [])
  pub straight : All (EndsLate targets_of flows_on_of) blocks
  pub stops_there : IsTrue (stops flows_on_of blocks)

-- an edge leads from a block to another
pub record IsEdge (blocks : List (List TempInsn)) (from to : ℕ) : Type 0 where
  pub insns : List TempInsn
  pub there : slice_get blocks from ≡ Some insns
  pub leads : Contains (successors_of targets_of flows_on_of from insns) to

-- where a block with a branch goes to, which has two successors, no other block goes to: no edge is critical
abbrev pub BranchesGoApart : List (List TempInsn) → Type 0
BranchesGoApart blocks =
    (branch other to : ℕ) → IsEdge blocks branch to → ends_with_branch (slice_index_or blocks branch []) ≡ true →
    IsEdge blocks other to → other ≡ branch

-- that is so in blocks of which no edge has to be split
abbrev pub SplitBranchesGoApart : Type 0
SplitBranchesGoApart =
    (blocks : List (List TempInsn)) → NoneCritical targets_of flows_on_of blocks → BranchesGoApart blocks

abbrev pub AllEdgesLead : Type 0
AllEdgesLead =
    (a : Plan) → HasLists a → AreBlocks a.function.blocks → BranchesGoApart a.function.blocks → EdgesLead a
