use Rattle.alloc_rules.proofs.Journals.{one_journal}
use Rattle.alloc_rules.proofs.laws.journals_are_unique.Goals as goal

pub returns : goal.returns
returns c = one_journal
