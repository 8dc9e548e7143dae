use Rattle.mem_model.proofs.Endings.{ends_as_itself, ends_as_through}
use Rattle.mem_model.proofs.laws.endings_go_through.Goals as goal

pub returns : goal.returns
returns c = record { own = ends_as_itself; through = ends_as_through }
