use Rattle.std.proofs.Common.{sym, ◌∙◌}
use Rattle.c_rewrite_rules.proofs.LiteralLists.{comma_seen}
use Rattle.c_rewrite_rules.proofs.literals.is_over_literals.Goals as goal

pub returns-in-Comma : goal.returns-in-Comma
returns-in-Comma c = c.are_literals.ensures ∙ sym (comma_seen _ _ _ c.in-Comma.is)
