use Rattle.c_typing_function_sound.proofs.CTypingHeightLaws.CUnitHeightLaws.Units.{functions_within}
use Rattle.c_typing_function_sound.proofs.c_typing_height_laws.c_unit_height_laws.laws.functions_of_units_are_within.Goals as goal

pub returns : goal.returns
returns c = functions_within
