use Rattle.std.proofs.Common.{◌≡◌, ℕ, List, ◌++◌, map, drop}
use Rattle.suifvm_machine.specs.declared.tables.BlockTable.{BlockTable}
use Rattle.suifvm_machine.specs.Tables.{block_insns, BlocksAreNumbered}
use Rattle.suifvm_machine.proofs.indexing.function_table.Given as goal

abbrev pub invariant-loop-block : goal.invariant-loop-block
invariant-loop-block l = record {
  code : map block_insns l.blocks.items ++ drop l.block-index l.function.blocks ≡ l.function.blocks;
  numbers : (rest : List BlockTable) (end : ℕ) → BlocksAreNumbered l.next rest end → BlocksAreNumbered l.first (l.blocks.items ++ rest) end;
}
