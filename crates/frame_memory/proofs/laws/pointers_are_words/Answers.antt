use Rattle.frame_memory.proofs.Pointers.{pointers_move, pointers_answer}
use Rattle.frame_memory.proofs.laws.pointers_are_words.Goals as goal

pub returns : goal.returns
returns c = record { moves = pointers_move; answers = pointers_answer }
