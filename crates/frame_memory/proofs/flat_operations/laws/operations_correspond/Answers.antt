use Rattle.frame_memory.proofs.FlatOperations.Operations.{operations_correspond, extensions_correspond, moves_correspond, tests_correspond, contents_stay}
use Rattle.frame_memory.proofs.flat_operations.laws.operations_correspond.Goals as goal

pub returns : goal.returns
returns c = record {
  operations = operations_correspond;
  extensions = extensions_correspond;
  moves = moves_correspond;
  tests = tests_correspond;
  stay = contents_stay;
}
