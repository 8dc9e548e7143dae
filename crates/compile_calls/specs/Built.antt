-- What was made of the text of a file, pass by pass.
use Rattle.std.specs.Prelude.{◌≡◌, ℕ, ◌≤◌, List, length, Option, IfSome}
use Rattle.c_lexer.specs.Limits.{text_limit}
use Rattle.call_words.specs.declared.compile_options.Allocator.{Allocator}
use Rattle.compiler.specs.Correct.{IsCorrectImage}
use Rattle.compiler.specs.declared.built.Built.{Built}
use Rattle.compiler.specs.Made.{Made}

-- The text is within the limit, and this was made of it, whose image is right for it.
pub record IsBuilt (text : List ℕ) (allocator : Allocator) (b : Built) : Type 0 where
  pub low : length text ≤ text_limit
  pub correct : IsCorrectImage text b.image
  pub made : Made text allocator b

-- this was made of a text, which is that of the file, where it is told
pub record HasBuilt (told : Option (List ℕ)) (allocator : Allocator) (b : Built) : Type 0 where
  pub text : List ℕ
  pub is_told : IfSome told (λ t. t ≡ text)
  pub is_built : IsBuilt text allocator b
