use Rattle.c_typing_initialiser_sound.proofs.CInitialValueLaws.Addresses.{address_there, value_there}
use Rattle.c_typing_initialiser_sound.proofs.c_initial_value_laws.laws.addresses_are_there.Goals as goal

pub returns-clause-addresses : goal.returns-clause-addresses
returns-clause-addresses c = address_there

pub returns-clause-values : goal.returns-clause-values
returns-clause-values c = value_there
