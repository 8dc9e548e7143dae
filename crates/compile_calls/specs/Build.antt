-- What `build` answers, and what it writes.
use Rattle.std.specs.Prelude.{ℕ, List, Option}
use Rattle.call_outcomes.specs.declared.outcome.Outcome.{Outcome}
use Rattle.call_outcomes.specs.FromFile.{Does}
use Rattle.call_words.specs.declared.compile_options.Allocator.{Allocator}
use Rattle.call_images.specs.WriteImage.{WritesImage}
use Rattle.compile_calls.specs.Built.{HasBuilt}
use Rattle.compile_calls.specs.Compile.{HasCorrectImage, RefusesText}

-- What `build` answers for the text of a file, where it is told, and what the output took: the bytes of an image that
-- is right for the text, or there is none.
abbrev pub Builds : Option (List ℕ) → Outcome → Option (List ℕ) → Option (List ℕ) → Type 0
Builds text = Does (RefusesText text) (HasCorrectImage text) WritesImage

-- The image is that of what is made of the text by an allocator, pass by pass.
abbrev pub BuildsMade : Allocator → Option (List ℕ) → Outcome → Option (List ℕ) → Option (List ℕ) → Type 0
BuildsMade allocator text = Does (RefusesText text) (HasBuilt text allocator) (λ b. WritesImage b.image)
