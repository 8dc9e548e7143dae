use Rattle.alloc_rules.proofs.Unique.{all_unique}
use Rattle.alloc_rules.proofs.laws.lists_are_unique.Goals as goal

pub returns : goal.returns
returns c = all_unique
