use Rattle.image_code_bounds.proofs.ProgramWords.Parts.{function_short}
use Rattle.image_code_bounds.proofs.program_words.laws.laid_out_functions_are_short.Goals as goal

pub returns : goal.returns
returns c = function_short c.lean_functions_are_short.ensures.functions
