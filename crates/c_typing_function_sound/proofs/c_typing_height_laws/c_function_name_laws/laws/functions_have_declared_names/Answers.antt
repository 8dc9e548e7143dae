use Rattle.c_typing_function_sound.proofs.CTypingHeightLaws.CFunctionNameLaws.Names.{unit_names}
use Rattle.c_typing_function_sound.proofs.c_typing_height_laws.c_function_name_laws.laws.functions_have_declared_names.Goals as goal

pub returns : goal.returns
returns c = unit_names
