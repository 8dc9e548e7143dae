use Rattle.std.proofs.Common.{subst}
use Rattle.c_typing_rules.specs.Rulings.{RuleGives}
use Rattle.c_typing_rules.specs.Conversions.{equality_test}
use Rattle.c_typing_judgements.specs.c_typing_operators.Null.{is_null_for}
use Rattle.c_typing_judgements.proofs.c_typing_operators.binary_operators.equal.Goals as goal

pub returns : goal.returns
returns c =
    subst (λ null. RuleGives (equality_test c.args.at c.args.op c.args.a c.args.b (is_null_for c.args.b.ty c.args.a) null) c.equality.result) c.is_null_for-null_right.ensures
    (subst (λ null. RuleGives (equality_test c.args.at c.args.op c.args.a c.args.b null c.is_null_for-null_right.result) c.equality.result) c.is_null_for-null_left.ensures c.equality.ensures)
