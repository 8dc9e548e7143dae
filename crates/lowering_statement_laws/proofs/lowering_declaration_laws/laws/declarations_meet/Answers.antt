use Rattle.lowering_statement_laws.proofs.LoweringDeclarationLaws.Declarations.{declarations_meet}
use Rattle.lowering_statement_laws.proofs.lowering_declaration_laws.laws.declarations_meet.Goals as goal

pub returns : goal.returns
returns g = declarations_meet
