-- What a function without unreachable blocks keeps of the function before.
use Rattle.std.specs.Prelude.{◌≡◌, ℕ, ◌≤◌, Bool, List, length}
use Rattle.pass_core.specs.declared.function.Func.{Func}
use Rattle.pass_core.specs.Functions.{count_of}
use Rattle.cfg.specs.Edges.{successors_from, edge_count}
use Rattle.cfg.specs.Walks.{SameWalks}
use Rattle.cfg.specs.Paths.{AllReached}
use Rattle.cfg.specs.Contents.{KeepsBlocks, KeepsBack}
use Rattle.cfg.specs.Measures.{NoMeasureGrows}

-- A function is another without the blocks to which no path leads from block 0. The others stay in their order
pub record IsReachedPartOf {I : Type 0} {members : _} (targets : I → List ℕ) (with_target : I → ℕ → ℕ → I)
    (flows_on : I → Bool) (before after : Func I members) : Type 0 where
  pub name : after.name ≡ before.name
  pub params : after.params ≡ before.params
  pub temps : after.temps ≡ before.temps
  pub objects : after.objects ≡ before.objects
  -- a path leads to each of its blocks
  pub reached : AllReached targets flows_on after.blocks
  -- the same is done along its paths, with the same contents of blocks, and jumps back to the same
  pub walks : SameWalks targets with_target flows_on before.blocks after.blocks
  pub contents : KeepsBlocks targets with_target flows_on before.blocks after.blocks
  pub back : KeepsBack targets with_target flows_on before.blocks after.blocks
  -- it is no larger, by whatever that is measured
  pub blocks : length after.blocks ≤ length before.blocks
  pub insns : count_of after.blocks ≤ count_of before.blocks
  pub measures : NoMeasureGrows targets with_target before.blocks after.blocks
  pub edges : edge_count (successors_from targets flows_on 0 after.blocks)
      ≤ edge_count (successors_from targets flows_on 0 before.blocks)
