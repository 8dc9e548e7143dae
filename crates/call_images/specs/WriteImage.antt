-- What is answered where an image is written, and what the output took.
use Rattle.std.specs.Prelude.{◌≡◌, ℕ, ◌⊎◌, List, Option}
use Rattle.bk_memory.specs.Shortage.{MemoryIsShort}
use Rattle.alpha_isa.specs.Program.{Program, IsLawful}
use Rattle.alpha_isa.specs.ImageFormat.{image_spelling}
use Rattle.call_outcomes.specs.declared.outcome.Outcome.{Outcome}
use Rattle.call_outcomes.specs.declared.outcome.Outcome.TheVariants.{Built, NoMemory}
use Rattle.call_outcomes.specs.Output.{PutsBytes}

-- the bytes of an image are put, or memory is short
abbrev pub WritesImage : Program → Outcome → Option (List ℕ) → Option (List ℕ) → Type 0
WritesImage p answer old new =
    ((answer ≡ NoMemory) × (new ≡ old) × MemoryIsShort)
    ⊎ (IsLawful p × PutsBytes Built (image_spelling p) answer old new)
