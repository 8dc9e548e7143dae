use Rattle.bk_memory.specs.Shortage.{of_refusal}
use Rattle.bk_memory.proofs.memory_is_short.Goals as goal

pub returns : goal.returns
returns c = of_refusal c.args._refusal
