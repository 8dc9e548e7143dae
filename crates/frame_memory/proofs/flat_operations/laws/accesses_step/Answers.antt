use Rattle.frame_memory.proofs.FlatOperations.Steps.{loads_step, stores_step}
use Rattle.frame_memory.proofs.flat_operations.laws.accesses_step.Goals as goal

pub returns : goal.returns
returns c = record {
  loads = loads_step;
  stores = λ xs memory new owner p s h. stores_step xs memory owner p s h new;
}
