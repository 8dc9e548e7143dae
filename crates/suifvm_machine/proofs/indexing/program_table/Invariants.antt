use Rattle.std.proofs.Common.{◌≡◌, ℕ, List, ◌++◌, map, drop}
use Rattle.suifvm_machine.specs.declared.tables.FunctionTable.{FunctionTable}
use Rattle.suifvm_machine.specs.Tables.{table_code, FunctionsAreNumbered}
use Rattle.suifvm_meaning.specs.Behave.{code_of}
use Rattle.suifvm_machine.proofs.indexing.program_table.Given as goal

abbrev pub invariant-loop-function : goal.invariant-loop-function
invariant-loop-function l = record {
  code : map table_code l.functions.items ++ map code_of (drop l.function-index l.program.functions) ≡ map code_of l.program.functions;
  numbers : (rest : List FunctionTable) (end : ℕ) → FunctionsAreNumbered l.next rest end → FunctionsAreNumbered 0 (l.functions.items ++ rest) end;
}
