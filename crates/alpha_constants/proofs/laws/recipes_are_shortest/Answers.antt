use Rattle.alpha_constants.proofs.Choices.{makes_words, are_short, are_shortest}
use Rattle.alpha_constants.proofs.laws.recipes_are_shortest.Goals as goal

pub returns-clause-makes : goal.returns-clause-makes
returns-clause-makes c = makes_words

pub returns-clause-short : goal.returns-clause-short
returns-clause-short c = are_short

pub returns-clause-shortest : goal.returns-clause-shortest
returns-clause-shortest c = are_shortest
