use Rattle.c_rewrite_rules.proofs.Exchanges.{call_changed, comma_changed}
use Rattle.c_rewrite_rules.proofs.operands.exchange.Goals as goal

pub returns-in-Call-clause-after : goal.returns-in-Call-clause-after
returns-in-Call-clause-after c = call_changed _ _ _ _ _ _ _ c.in-Call.is c.exchange_listed-arguments.ensures.after

pub returns-in-Comma-clause-after : goal.returns-in-Comma-clause-after
returns-in-Comma-clause-after c = comma_changed _ _ _ _ _ _ c.in-Comma.is c.exchange_listed-operands.ensures.after
