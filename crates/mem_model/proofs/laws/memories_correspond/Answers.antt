use Rattle.mem_model.proofs.RelatedMemory.{loads_correspond, stores_correspond, copies_correspond, first_begins, first_ends, second_begins, second_ends}
use Rattle.mem_model.proofs.RelatedPointers.{moves_correspond, answers_correspond}
use Rattle.mem_model.proofs.laws.memories_correspond.Goals as goal

pub returns : goal.returns
returns c = record {
  loads = loads_correspond;
  stores = stores_correspond;
  copies = copies_correspond;
  first_begins = first_begins;
  first_ends = first_ends;
  second_begins = second_begins;
  second_ends = second_ends;
  moves = λ f m n v w u by h r e. moves_correspond f m n h v w u by r e;
  answers = λ f m n v1 v2 w1 w2 h r s. answers_correspond f m n h v1 v2 w1 w2 r s;
}
