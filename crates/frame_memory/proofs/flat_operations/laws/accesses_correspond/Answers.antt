use Rattle.frame_memory.proofs.FlatOperations.Accesses.{loads_correspond, stores_correspond}
use Rattle.frame_memory.proofs.flat_operations.laws.accesses_correspond.Goals as goal

pub returns : goal.returns
returns c = record {
  loads = loads_correspond;
  stores = λ xs memory new owner m mem. stores_correspond xs memory owner m mem new;
}
