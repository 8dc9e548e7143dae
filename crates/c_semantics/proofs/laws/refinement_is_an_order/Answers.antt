use Rattle.c_semantics.proofs.RefinesOrder.{expr_itself, expr_on, stmt_itself, stmt_on}
use Rattle.c_semantics.proofs.laws.refinement_is_an_order.Goals as goal

pub returns : goal.returns
returns g = record {
  expressions_themselves = expr_itself;
  expressions_on = expr_on;
  statements_themselves = stmt_itself;
  statements_on = stmt_on;
}
