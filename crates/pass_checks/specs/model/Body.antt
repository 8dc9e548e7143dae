-- What the blocks of a function are.
use Rattle.std.specs.Prelude.{ℕ, ◌<◌, ◌^◌, Bool, List, length, All, IsTrue}
use Rattle.pass_core.specs.Functions.{AllInsns, GoesToBlocks, UsesRegisters, EndsLate, stops, count_of}

pub record IsBody {I : Type 0} (reads writes targets : I → List ℕ) (flows_on : I → Bool) (temps : ℕ)
    (blocks : List (List I)) : Type 0 where
  pub goes : AllInsns (GoesToBlocks targets (length blocks)) blocks
  pub straight : All (EndsLate targets flows_on) blocks
  pub stop : IsTrue (stops flows_on blocks)
  pub few_blocks : length blocks < 2 ^ 30
  pub few_insns : count_of blocks < 2 ^ 30
  pub registers : AllInsns (UsesRegisters reads writes temps) blocks
