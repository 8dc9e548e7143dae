-- What each pass gives of one function.
use Rattle.std.specs.Prelude.{ℕ}
use Rattle.temp_ir.specs.Insns.{targets_of, with_block, flows_on_of}
use Rattle.temp_ir.specs.Programs.{TempFn}
use Rattle.cfg.specs.Walks.{SameWalks}
use Rattle.block_coalescing.specs.Kept.{IsCoalesced}
use Rattle.block_passes.specs.Clauses.{IsReached, IsSplit}
use Rattle.block_passes.specs.Keeps.{KeepsFunction}

-- the same is done along its paths
pub record KeepsWalks (splits : ℕ) (before after : TempFn) : Type 0 where
  pub keeps : KeepsFunction splits before after
  pub walks : SameWalks targets_of with_block flows_on_of before.blocks after.blocks

-- a function without the blocks to which no path leads
pub record IsReachedPart (before after : TempFn) : Type 0 where
  pub kept : KeepsWalks 0 before after
  pub reached : IsReached after

-- a function without copies and dead instructions that could go
pub record HasFewerCopies (before after : TempFn) : Type 0 where
  pub keeps : KeepsFunction 0 before after
  pub coalesced : IsCoalesced before after
  pub reached : IsReached before → IsReached after

-- a function whose critical edges were split
pub record HasSplitEdges (before after : TempFn) : Type 0 where
  pub kept : KeepsWalks 1 before after
  pub reached : IsReached before → IsReached after
  pub split : IsSplit after
