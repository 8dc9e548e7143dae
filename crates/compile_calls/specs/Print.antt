-- What `print` answers, and what it writes.
use Rattle.std.specs.Prelude.{◌≡◌, ℕ, ◌⊎◌, List, Option}
use Rattle.bk_memory.specs.Shortage.{MemoryIsShort}
use Rattle.call_outcomes.specs.declared.outcome.Outcome.{Outcome}
use Rattle.call_outcomes.specs.declared.outcome.Outcome.TheVariants.{Printed, NoMemory}
use Rattle.call_outcomes.specs.FromFile.{Does}
use Rattle.call_outcomes.specs.Output.{PutsBytes}
use Rattle.call_words.specs.declared.compile_options.Allocator.{Allocator}
use Rattle.call_words.specs.declared.compile_options.PassName.{PassName}
use Rattle.compile_calls.specs.Texts.{IsTextOfPass}
use Rattle.compiler.specs.declared.built.Built.{Built}
use Rattle.compile_calls.specs.Built.{HasBuilt}
use Rattle.compile_calls.specs.Compile.{RefusesText}

-- a text is put, or memory is short
abbrev pub WritesText : List ℕ → Outcome → Option (List ℕ) → Option (List ℕ) → Type 0
WritesText shown answer old new =
    ((answer ≡ NoMemory) × (new ≡ old) × MemoryIsShort) ⊎ PutsBytes Printed shown answer old new

-- the text of a pass is put, or memory is short
abbrev pub WritesPass : PassName → Built → Outcome → Option (List ℕ) → Option (List ℕ) → Type 0
WritesPass pass b answer old new =
    ((answer ≡ NoMemory) × (new ≡ old) × MemoryIsShort)
    ⊎ ((shown : List ℕ) × IsTextOfPass pass b shown × PutsBytes Printed shown answer old new)

-- What `print` answers for the text of a file, where it is told, and what the output took: the text of the pass, of
-- what is made of the text, or there is nothing.
abbrev pub Prints : Allocator → PassName → Option (List ℕ) → Outcome → Option (List ℕ) → Option (List ℕ) → Type 0
Prints allocator pass text = Does (RefusesText text) (HasBuilt text allocator) (WritesPass pass)
