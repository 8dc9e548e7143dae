-- What a function whose critical edges were split keeps of the function before.
use Rattle.std.specs.Prelude.{◌≡◌, ℕ, ◌≤◌, ◌+◌, ◌*◌, Bool, List, length}
use Rattle.pass_core.specs.declared.function.Func.{Func}
use Rattle.pass_core.specs.Functions.{count_of}
use Rattle.cfg.specs.Edges.{successors_from, edge_count}
use Rattle.cfg.specs.Walks.{SameWalks}
use Rattle.cfg.specs.Paths.{AllReached}
use Rattle.cfg.specs.Contents.{KeepsBlocks, KeepsBack}
use Rattle.cfg_edges.specs.Critical.{NoneCritical, critical_count}
use Rattle.cfg_edges.specs.Added.{AddsJumps}

-- A function is another in which each edge that leads from a block with two successors to one with two predecessors
-- leads by way of a block of its own
pub record IsSplitOf {I : Type 0} {members : _} (targets : I → List ℕ) (with_target : I → ℕ → ℕ → I) (jump_to : ℕ → I)
    (flows_on : I → Bool) (before after : Func I members) : Type 0 where
  pub name : after.name ≡ before.name
  pub params : after.params ≡ before.params
  pub temps : after.temps ≡ before.temps
  pub objects : after.objects ≡ before.objects
  -- no edge is left that has to be split
  pub split : NoneCritical targets flows_on after.blocks
  -- the same is done along its paths, with the same contents of blocks, and jumps back to the same
  pub walks : SameWalks targets with_target flows_on before.blocks after.blocks
  pub contents : KeepsBlocks targets with_target flows_on before.blocks after.blocks
  pub back : KeepsBack targets with_target flows_on before.blocks after.blocks
  pub reached : AllReached targets flows_on before.blocks → AllReached targets flows_on after.blocks
  -- each block that is new is a jump alone; there are at most two for each edge that had to be split, and no more
  -- than there were edges
  pub added : AddsJumps targets with_target jump_to before.blocks after.blocks
  pub blocks : length after.blocks ≤ length before.blocks + 2 * critical_count targets flows_on before.blocks
  pub insns : count_of after.blocks ≤ count_of before.blocks + 2 * critical_count targets flows_on before.blocks
  pub edges : length after.blocks ≤ length before.blocks + edge_count (successors_from targets flows_on 0 before.blocks)
