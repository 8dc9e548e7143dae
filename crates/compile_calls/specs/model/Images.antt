-- The image that is made of the text of a file, where nothing else is kept.
use Rattle.std.specs.Prelude.{◌≡◌, ℕ, List, Option}
use Rattle.alpha_isa.specs.Program.{Program}
use Rattle.call_words.specs.declared.compile_options.Allocator.{Allocator}
use Rattle.compiler.specs.declared.built.Built.{Built}
use Rattle.compile_calls.specs.Built.{HasBuilt}

-- this is the image of what is made of a text, which is that of the file, where it is told
pub record HasFileImage (told : Option (List ℕ)) (allocator : Allocator) (image : Program) : Type 0 where
  pub built : Built
  pub has : HasBuilt told allocator built
  pub is_its_image : image ≡ built.image
