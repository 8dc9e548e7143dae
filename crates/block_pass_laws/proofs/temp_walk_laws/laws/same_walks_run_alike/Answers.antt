use Rattle.block_pass_laws.proofs.TempWalkLaws.Law.{law}
use Rattle.block_pass_laws.proofs.temp_walk_laws.laws.same_walks_run_alike.Goals as goal

pub returns : goal.returns
returns g = law
