-- What the part of a function to which paths lead keeps of the whole.
use Rattle.std.specs.Prelude.{ℕ, ◌≤◌, Bool, List, All, IsTrue, length}
use Rattle.pass_core.specs.Functions.{AllInsns, GoesToBlocks, EndsLate, UsesRegisters, stops, count_of}
use Rattle.cfg.specs.Edges.{successors_from, edge_count}
use Rattle.cfg.specs.Walks.{SameWalks}
use Rattle.cfg.specs.Paths.{AllReached}
use Rattle.cfg.specs.Contents.{KeepsBlocks, KeepsBack}
use Rattle.cfg.specs.Measures.{NoMeasureGrows}

-- what the invariants of a function ask of these blocks, and what they keep of those before
pub record IsReachedPart {I : Type 0} (reads writes targets : I → List ℕ) (with_target : I → ℕ → ℕ → I)
    (flows_on : I → Bool) (before after : List (List I)) : Type 0 where
  pub targets_there : AllInsns (GoesToBlocks targets (length after)) after
  pub straight : All (EndsLate targets flows_on) after
  pub stopped : IsTrue (stops flows_on after)
  pub registers : (temps : ℕ) → AllInsns (UsesRegisters reads writes temps) before
      → AllInsns (UsesRegisters reads writes temps) after
  pub reached : AllReached targets flows_on after
  pub walks : SameWalks targets with_target flows_on before after
  pub contents_kept : KeepsBlocks targets with_target flows_on before after
  pub back : KeepsBack targets with_target flows_on before after
  pub fewer_blocks : length after ≤ length before
  pub fewer_insns : count_of after ≤ count_of before
  pub measures : NoMeasureGrows targets with_target before after
  pub fewer_edges : edge_count (successors_from targets flows_on 0 after)
      ≤ edge_count (successors_from targets flows_on 0 before)
