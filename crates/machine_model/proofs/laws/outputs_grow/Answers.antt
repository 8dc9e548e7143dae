use Rattle.machine_model.proofs.Outputs.{output_grows, turns_extend}
use Rattle.machine_model.proofs.laws.outputs_grow.Goals as goal

pub returns : goal.returns
returns g c = record { run = λ rooms code n k grows. output_grows _ _ rooms code grows n k; turns = λ rooms code n m more k e f grows. turns_extend _ _ rooms code grows more n m k e f }
