use Rattle.frame_memory.proofs.Values.{numbers_are_read, pointers_are_read, values_have_bytes}
use Rattle.frame_memory.proofs.laws.cells_are_bytes.Goals as goal

pub returns : goal.returns
returns c = record { numbers = numbers_are_read; pointers = pointers_are_read; values = values_have_bytes }
