use Rattle.std.proofs.Common.{sym, ◌∙◌}
use Rattle.c_rewrite_rules.proofs.Exchanges.{call_counted, comma_counted}
use Rattle.c_rewrite_rules.proofs.operands.count.Goals as goal

pub returns-in-Call : goal.returns-in-Call
returns-in-Call c = c.count_listed.ensures ∙ sym (call_counted _ _ _ _ c.in-Call.is)

pub returns-in-Comma : goal.returns-in-Comma
returns-in-Comma c = c.count_listed-in-Comma.ensures ∙ sym (comma_counted _ _ _ c.in-Comma.is)
