use Rattle.lowering_expression_laws.proofs.LoweringCallLaws.Calls.{calls_without_results_meet}
use Rattle.lowering_expression_laws.proofs.lowering_call_laws.laws.calls_without_results_meet.Goals as goal

pub returns : goal.returns
returns g = calls_without_results_meet
