use Rattle.lowering_statement_laws.proofs.Behind.{left_stmt}
use Rattle.lowering_statement_laws.proofs.laws.code_is_left.Goals as goal

pub returns : goal.returns
returns g blocks last end locals ds ls break_to continue_to x = left_stmt blocks last end locals ds ls x break_to continue_to
