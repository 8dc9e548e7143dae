use Rattle.flow_clean.proofs.KeptCode.{clean_code_keeps}
use Rattle.flow_clean.proofs.laws.cleaning_keeps_code.Goals as goal

pub returns : goal.returns
returns c = clean_code_keeps c.only_these_trap.ensures
