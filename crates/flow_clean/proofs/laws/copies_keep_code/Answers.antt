use Rattle.flow_clean.proofs.KeptCode.{copied_code_keeps}
use Rattle.flow_clean.proofs.laws.copies_keep_code.Goals as goal

pub returns : goal.returns
returns c = copied_code_keeps
