use Rattle.std.proofs.Common.{sym, ◌∙◌}
use Rattle.c_rewrite_rules.proofs.IdleSteps.{comma_idle}
use Rattle.c_rewrite_rules.proofs.idle.+idle.Goals as goal

pub is_idle-returns-in-Comma : goal.is_idle-returns-in-Comma
is_idle-returns-in-Comma t c = c.are_idle.ensures ∙ sym (comma_idle _ _ _ _ c.in-Comma.is)
