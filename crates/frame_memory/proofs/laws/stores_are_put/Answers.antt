use Rattle.frame_memory.proofs.Memories.{rows_are_put, stores_are_put, copies_are_put}
use Rattle.frame_memory.proofs.laws.stores_are_put.Goals as goal

pub returns : goal.returns
returns c = record {
  rows = rows_are_put;
  stores = λ xs memory new owner m mem. stores_are_put xs memory owner m mem new;
  copies = λ xs memory new owner m mem. copies_are_put xs memory owner m mem new;
}
