use Rattle.flow_clean.proofs.KeptCode.{kept_along}
use Rattle.flow_clean.proofs.laws.code_is_kept_along.Goals as goal

pub returns : goal.returns
returns c = kept_along
