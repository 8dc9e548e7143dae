use Rattle.image_code_bounds.proofs.FrameWords.Texts.{text_le}
use Rattle.image_code_bounds.proofs.FrameWords.Functions.{function_le}
use Rattle.image_code_bounds.proofs.frame_words.laws.lean_functions_are_short.Goals as goal

pub returns : goal.returns
returns c = record {
  texts = text_le;
  functions = function_le;
}
