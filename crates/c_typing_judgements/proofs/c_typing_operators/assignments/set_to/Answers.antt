use Rattle.std.proofs.Common.{subst}
use Rattle.c_typing_rules.specs.Rulings.{RuleGives}
use Rattle.c_typing_place_rules.specs.Assignments.{set}
use Rattle.c_typing_judgements.proofs.c_typing_operators.assignments.set_to.Goals as goal

pub returns : goal.returns
returns c = subst (λ null. RuleGives (set c.args.at c.args.a c.args.b null) c.set.result) c.is_null_for-null.ensures c.set.ensures
