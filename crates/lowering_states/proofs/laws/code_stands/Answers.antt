use Rattle.lowering_states.proofs.Blocks.{blocks_have_items}
use Rattle.lowering_states.proofs.laws.code_stands.Goals as goal

pub returns : goal.returns
returns g = blocks_have_items
