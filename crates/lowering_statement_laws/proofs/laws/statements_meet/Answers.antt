use Rattle.lowering_statement_laws.proofs.Statements as it
use Rattle.lowering_statement_laws.proofs.laws.statements_meet.Goals as goal

pub returns : goal.returns
returns g c again found = record {
  expressions = it.expressions c found again;
  empty = it.empty c found again;
  breaks = it.breaks c found again;
  continues = it.continues c found again;
  returns = it.returns c found again;
  values = it.values c found again;
  choices = it.choices c found again;
  conditions = it.conditions c found again;
  none = it.none c found again;
  more = it.more c found again;
}
