use Rattle.frame_memory.proofs.Machine.{loads_read_bytes, stores_put_bytes, numbers_of_accesses}
use Rattle.frame_memory.proofs.laws.accesses_are_bytes.Goals as goal

pub returns : goal.returns
returns c = record {
  loads = λ p s a width parts. loads_read_bytes p s parts a width;
  stores = λ p s a bs parts. stores_put_bytes p s parts a bs;
  numbers = numbers_of_accesses;
}
