use Rattle.lowering_statement_laws.proofs.LoweringSwitchLaws.Switches.{switches_meet}
use Rattle.lowering_statement_laws.proofs.lowering_switch_laws.laws.switches_meet.Goals as goal

pub returns : goal.returns
returns g = switches_meet
