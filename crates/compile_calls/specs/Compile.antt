-- What is right for the text of a file, and why there is nothing.
use Rattle.std.specs.Prelude.{◌≡◌, ℕ, ◌<◌, ◌≤◌, List, length, Option, IfSome}
use Rattle.alpha_isa.specs.Program.{Program}
use Rattle.c_lexer.specs.Limits.{text_limit}
use Rattle.c_parser.specs.Reading.{IsTooDeep}
use Rattle.call_outcomes.specs.declared.outcome.Outcome.{Outcome}
use Rattle.call_outcomes.specs.declared.outcome.Outcome.TheVariants as outcome
use Rattle.call_outcomes.specs.declared.outcome.Which.TheVariants.{Text}
use Rattle.compiler.specs.CompileFault.TheVariants.{Source, Limit}
use Rattle.compiler.specs.Units.{HasNoUnit}
use Rattle.compiler.specs.Correct.{IsCorrectImage}

-- how many bytes are read of a C file: one more than a text may have
abbrev pub source_limit : ℕ
source_limit = 4194305

-- ---- what is right for a text

-- An image is right for a text within the limit, which is that of the file, where it is told.
pub record HasCorrectImage (told : Option (List ℕ)) (image : Program) : Type 0 where
  pub text : List ℕ
  pub is_told : IfSome told (λ t. t ≡ text)
  pub low : length text ≤ text_limit
  pub correct : IsCorrectImage text image

-- ---- why nothing is made

-- the text is too long, or it is not and has no unit within the limits
abbrev pub MakesNothing : List ℕ → Outcome → Type 0
MakesNothing text (outcome.Limit Text counted) = (text_limit < length text) × (counted ≡ source_limit)
MakesNothing text (outcome.Limit which counted) = (length text ≤ text_limit) × HasNoUnit text (Limit which counted)
MakesNothing text (outcome.Refused source) = (length text ≤ text_limit) × HasNoUnit text (Source source)
MakesNothing text _ = ⊥

-- the text is within the limit of its length, and deeper than is taken
abbrev pub IsDeepText : List ℕ → Type 0
IsDeepText text = (length text ≤ text_limit) × IsTooDeep text

-- the same of a text that may be told, where want of memory stands for a text that is too deep
abbrev pub RefusesText : Option (List ℕ) → Outcome → Type 0
RefusesText text (outcome.Limit which counted) = IfSome text (λ t. MakesNothing t (outcome.Limit which counted))
RefusesText text (outcome.Refused source) = IfSome text (λ t. MakesNothing t (outcome.Refused source))
RefusesText text outcome.NoMemory = IfSome text IsDeepText
RefusesText text _ = ⊥
