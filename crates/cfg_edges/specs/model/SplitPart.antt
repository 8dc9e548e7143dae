-- What blocks of which some are split keep of those before.
use Rattle.std.specs.Prelude.{ℕ, ◌≤◌, ◌+◌, ◌*◌, Bool, List, All, IsTrue, length}
use Rattle.pass_core.specs.Functions.{AllInsns, GoesToBlocks, EndsLate, UsesRegisters, stops, count_of}
use Rattle.cfg.specs.Edges.{successors_from, edge_count}
use Rattle.cfg.specs.Walks.{SameWalks}
use Rattle.cfg.specs.Paths.{AllReached}
use Rattle.cfg.specs.Contents.{KeepsBlocks, KeepsBack}
use Rattle.cfg_edges.specs.Critical.{NoneCritical, critical_count}
use Rattle.cfg_edges.specs.Added.{AddsJumps}

-- what the invariants of a function ask of these blocks, and what they keep of those before
pub record IsSplitPart {I : Type 0} (reads writes targets : I → List ℕ) (with_target : I → ℕ → ℕ → I)
    (jump_to : ℕ → I) (flows_on : I → Bool) (before after : List (List I)) : Type 0 where
  pub targets_there : AllInsns (GoesToBlocks targets (length after)) after
  pub straight : All (EndsLate targets flows_on) after
  pub stopped : IsTrue (stops flows_on after)
  pub registers : (temps : ℕ) → AllInsns (UsesRegisters reads writes temps) before
      → AllInsns (UsesRegisters reads writes temps) after
  pub split : NoneCritical targets flows_on after
  pub walks : SameWalks targets with_target flows_on before after
  pub contents_kept : KeepsBlocks targets with_target flows_on before after
  pub back : KeepsBack targets with_target flows_on before after
  pub reached : AllReached targets flows_on before → AllReached targets flows_on after
  pub added : AddsJumps targets with_target jump_to before after
  pub most_blocks : length after ≤ 3 * length before
  pub most_insns : count_of after ≤ count_of before + 2 * length before
  pub blocks : length after ≤ length before + 2 * critical_count targets flows_on before
  pub insns : count_of after ≤ count_of before + 2 * critical_count targets flows_on before
  pub edges : length after ≤ length before + edge_count (successors_from targets flows_on 0 before)
