use Rattle.alloc_rules.proofs.FrugalExamples.{examples}
use Rattle.alloc_rules.proofs.laws.small_allocations_are_frugal_or_not.Goals as goal

pub returns : goal.returns
returns c = examples
