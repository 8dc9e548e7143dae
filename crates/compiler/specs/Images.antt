-- The image of a text, where nothing else is kept of what was made of it.
use Rattle.std.specs.Prelude.{◌≡◌, ℕ, List}
use Rattle.alpha_isa.specs.Program.{Program}
use Rattle.call_words.specs.declared.compile_options.Allocator.{Allocator}
use Rattle.compiler.specs.declared.built.Built.{Built}
use Rattle.compiler.specs.Made.{Made}

-- This is the image of what is made of a text by an allocator, pass by pass.
pub record IsImageOfText (text : List ℕ) (allocator : Allocator) (image : Program) : Type 0 where
  pub built : Built
  pub made : Made text allocator built
  pub is_its_image : image ≡ built.image
