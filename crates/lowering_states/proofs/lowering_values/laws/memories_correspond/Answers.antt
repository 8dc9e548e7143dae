use Rattle.lowering_states.proofs.LoweringValues.Accesses.{memories_correspond}
use Rattle.lowering_states.proofs.lowering_values.laws.memories_correspond.Goals as goal

pub returns : goal.returns
returns g = memories_correspond
