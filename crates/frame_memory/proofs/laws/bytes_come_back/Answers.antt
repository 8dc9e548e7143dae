use Rattle.frame_memory.proofs.Numbers.{bytes_come_back, numbers_come_back}
use Rattle.frame_memory.proofs.laws.bytes_come_back.Goals as goal

pub returns : goal.returns
returns c = record { bytes = bytes_come_back; numbers = numbers_come_back }
