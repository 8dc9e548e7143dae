-- What is read of a file, what is made of it, and what is answered where nothing is made.
use Rattle.std.specs.Prelude.{◌≡◌, ℕ, ◌<◌, ◌≤◌, ◌⊎◌, List, length, take, Option, option_map}
use Rattle.bk_memory.specs.Shortage.{MemoryIsShort}
use Rattle.bk_io.specs.Shelf.{Shelf, file_of}
use Rattle.call_outcomes.specs.declared.outcome.Outcome.{Outcome}
use Rattle.call_outcomes.specs.declared.outcome.Outcome.TheVariants.{FileFault, NoMemory}

-- the bytes of a file, where they are told
abbrev pub file_bytes : Option Shelf → List ℕ → Option (List ℕ)
file_bytes told name = option_map (λ shelf. file_of shelf name) told

-- what is read of a file: all of it where it is shorter than the limit, else that many bytes
abbrev pub IsFront : ℕ → List ℕ → List ℕ → Type 0
IsFront limit file text = ((text ≡ file) × (length file < limit)) ⊎ ((text ≡ take limit file) × (limit ≤ length file))

-- Why there is nothing to go on with: the file was not read, memory is short, or what the file holds is refused, which
-- may be for want of memory too.
abbrev pub IsCause : (Outcome → Type 0) → Outcome → Type 0
IsCause refuses FileFault = Unit {0}
IsCause refuses NoMemory = MemoryIsShort ⊎ refuses NoMemory
IsCause refuses outcome = refuses outcome

-- Either nothing is made of the file, for a cause, and nothing is done, or something is made of it and is gone on with.
abbrev pub Does : {X S : Type 0} → (Outcome → Type 0) → (X → Type 0) → (X → Outcome → S → S → Type 0) →
    Outcome → S → S → Type 0
Does refuses made goes_on answer before after =
    (IsCause refuses answer × (after ≡ before)) ⊎ ((x : _) × made x × goes_on x answer before after)
