-- What `assemble` answers, and what it writes.
use Rattle.std.specs.Prelude.{◌≡◌, ℕ, ◌<◌, ◌≤◌, List, length, Option, IfSome}
use Rattle.alpha_isa.specs.Program.{Program, most_bytes}
use Rattle.alpha_items.specs.Assembly.{Assembly, IsWhole}
use Rattle.alpha_items.specs.Words.{Words}
use Rattle.alpha_text.specs.Texts.{Texts, HasText}
use Rattle.alpha_text.specs.Read.{HasDataCount}
use Rattle.alpha_text.specs.Wrong.{FirstWrong}
use Rattle.call_outcomes.specs.declared.outcome.Outcome.{Outcome}
use Rattle.call_outcomes.specs.declared.outcome.Outcome.TheVariants.{Limit, BadAsm}
use Rattle.call_outcomes.specs.declared.outcome.Which.TheVariants.{Text, Data}
use Rattle.call_outcomes.specs.FromFile.{Does}
use Rattle.call_images.specs.WriteImage.{WritesImage}
use Rattle.msc_cli.specs.Limits.{most_assembly, assembly_limit}

-- The text is within the limit and that of a whole assembly whose labels, offsets and bytes are in their fields, and the
-- image is the assembly's.
pub record IsAssembled (source : List ℕ) (p : Program) : Type 0 where
  pub low : length source ≤ most_assembly
  pub assembly : Assembly
  pub whole : IsWhole assembly
  pub fields : HasText assembly
  pub spells : Texts source assembly
  pub image : Words assembly p

-- Why no image is made of a text: it is too long, or a line of it is wrong, or it has too many bytes of data. Too many
-- words are no cause: a text within the limit has no more than an image may have.
abbrev pub SpellsNoImage : List ℕ → Outcome → Type 0
SpellsNoImage source (Limit Text counted) = (most_assembly < length source) × (counted ≡ assembly_limit)
SpellsNoImage source (BadAsm line) = (length source ≤ most_assembly) × FirstWrong source line
SpellsNoImage source (Limit Data counted) =
    (length source ≤ most_assembly) × HasDataCount source counted × (most_bytes < counted)
SpellsNoImage source _ = ⊥

-- the same of a text that may be told
abbrev pub RefusesAssembly : Option (List ℕ) → Outcome → Type 0
RefusesAssembly source (Limit Text counted) = IfSome source (λ s. SpellsNoImage s (Limit Text counted))
RefusesAssembly source (Limit Data counted) = IfSome source (λ s. SpellsNoImage s (Limit Data counted))
RefusesAssembly source (BadAsm line) = IfSome source (λ s. SpellsNoImage s (BadAsm line))
RefusesAssembly source _ = ⊥

-- What `assemble` answers for the text of a file, where it is told, and what the output took.
abbrev pub Assembles : Option (List ℕ) → Outcome → Option (List ℕ) → Option (List ℕ) → Type 0
Assembles source = Does (RefusesAssembly source) (λ p. IfSome source (λ s. IsAssembled s p)) WritesImage
