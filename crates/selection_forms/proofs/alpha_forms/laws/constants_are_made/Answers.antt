use Rattle.selection_forms.proofs.AlphaForms.Making.{constants_made, lengths, short}
use Rattle.selection_forms.proofs.alpha_forms.laws.constants_are_made.Goals as goal

pub returns-clause-made : goal.returns-clause-made
returns-clause-made c = constants_made

pub returns-clause-lengths : goal.returns-clause-lengths
returns-clause-lengths c = lengths

pub returns-clause-short : goal.returns-clause-short
returns-clause-short c = short
