use Rattle.mem_model.proofs.Changes.{load_tells}
use Rattle.mem_model.proofs.laws.loads_tell.Goals as goal

pub returns : goal.returns
returns c = load_tells
