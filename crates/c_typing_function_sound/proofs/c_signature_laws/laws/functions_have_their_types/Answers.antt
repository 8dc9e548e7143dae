use Rattle.c_typing_function_sound.proofs.CSignatureLaws.Functions.{function_has_type}
use Rattle.c_typing_function_sound.proofs.c_signature_laws.laws.functions_have_their_types.Goals as goal

pub returns : goal.returns
returns c = function_has_type
