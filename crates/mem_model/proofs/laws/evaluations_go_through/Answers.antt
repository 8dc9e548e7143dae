use Rattle.mem_model.proofs.Endings.{gives_as_through}
use Rattle.mem_model.proofs.laws.evaluations_go_through.Goals as goal

pub returns : goal.returns
returns g c = gives_as_through
