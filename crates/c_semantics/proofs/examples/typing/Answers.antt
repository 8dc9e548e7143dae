use Rattle.c_semantics.proofs.TypedExamples.{well_typed, ill_typed}
use Rattle.c_semantics.proofs.examples.typing.Goals as goal

pub returns : goal.returns
returns g = record { well_typed = well_typed; ill_typed = ill_typed }
