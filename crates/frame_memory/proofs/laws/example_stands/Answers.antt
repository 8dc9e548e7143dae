use Rattle.frame_memory.proofs.Examples.{example_stands}
use Rattle.frame_memory.proofs.laws.example_stands.Goals as goal

pub returns : goal.returns
returns c = example_stands
