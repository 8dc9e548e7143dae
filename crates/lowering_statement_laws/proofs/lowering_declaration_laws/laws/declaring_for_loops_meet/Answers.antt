use Rattle.lowering_statement_laws.proofs.LoweringDeclarationLaws.ForLoops.{declaring_for_loops_meet}
use Rattle.lowering_statement_laws.proofs.lowering_declaration_laws.laws.declaring_for_loops_meet.Goals as goal

pub returns : goal.returns
returns g = declaring_for_loops_meet
