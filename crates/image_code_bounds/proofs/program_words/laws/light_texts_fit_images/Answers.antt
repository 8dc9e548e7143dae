use Rattle.image_code_bounds.proofs.ProgramWords.Parts.{function_short}
use Rattle.image_code_bounds.proofs.ProgramWords.Images as images
use Rattle.image_code_bounds.proofs.program_words.laws.light_texts_fit_images.Goals as goal

pub returns : goal.returns
returns c = record {
  texts = images.light_texts_fit_images
      (images.texts_are_within_weight c.lean_functions_are_short.ensures.texts
      (function_short c.lean_functions_are_short.ensures.functions));
  faults = images.only_memory_is_short;
}
