-- The image that is made of a text, where nothing else is kept.
use Rattle.std.specs.Prelude.{ℕ, ◌≤◌, List, length}
use Rattle.alpha_isa.specs.Program.{Program}
use Rattle.c_lexer.specs.Limits.{text_limit}
use Rattle.call_words.specs.declared.compile_options.Allocator.{Allocator}
use Rattle.compiler.specs.Correct.{IsCorrectImage}
use Rattle.compiler.specs.Images.{IsImageOfText}

-- the text is within the limit, and this is the image of what is made of it, which is right for it
pub record IsImageOfShortText (text : List ℕ) (allocator : Allocator) (image : Program) : Type 0 where
  pub low : length text ≤ text_limit
  pub correct : IsCorrectImage text image
  pub is : IsImageOfText text allocator image
