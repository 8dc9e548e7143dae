use Rattle.machine_model.proofs.Turns.{turns_keep}
use Rattle.machine_model.proofs.laws.turns_keep_endings.Goals as goal

pub returns : goal.returns
returns g c = λ rooms code n more k e. turns_keep _ _ rooms code more n k e
