use Rattle.c_typing_function_sound.proofs.CLocalLaws.Functions.{function_says}
use Rattle.c_typing_function_sound.proofs.c_local_laws.laws.locals_are_declared_once.Goals as goal

pub returns : goal.returns
returns c = function_says
