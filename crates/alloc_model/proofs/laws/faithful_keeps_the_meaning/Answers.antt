use Rattle.alloc_model.proofs.Keeps.{runs_kept, programs_kept}
use Rattle.alloc_model.proofs.laws.faithful_keeps_the_meaning.Goals as goal

pub returns : goal.returns
returns c = record { runs = runs_kept; programs = programs_kept }
