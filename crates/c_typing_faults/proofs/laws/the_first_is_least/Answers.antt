use Rattle.c_typing_faults.proofs.First as law
use Rattle.c_typing_faults.proofs.laws.the_first_is_least.Goals as goal

pub returns : goal.returns
returns c = record { some = law.some; least = law.least }
