-- What `migrate` answers, and what it writes.
use Rattle.std.specs.Prelude.{◌≡◌, ℕ, List, Option}
use Rattle.alpha_isa.specs.Program.{Program, HasZerosCut}
use Rattle.alpha_isa.specs.Behave.{behave_a}
use Rattle.call_outcomes.specs.declared.outcome.Outcome.{Outcome}
use Rattle.call_outcomes.specs.FromFile.{Does}
use Rattle.call_images.specs.WriteImage.{WritesImage}
use Rattle.call_images.specs.RunImage.{RefusesBytes, HoldsImage}

-- The image with its zeros cut, which behaves as the image does, on every stack and input, in every number of steps.
pub record IsMigrated (p q : Program) : Type 0 where
  pub cut : HasZerosCut p q
  pub same : (stack : ℕ) (input : List ℕ) (m : ℕ) → behave_a q stack input m ≡ behave_a p stack input m

-- the bytes of the migrated image are put, or memory is short
abbrev pub WritesMigrated : Program → Outcome → Option (List ℕ) → Option (List ℕ) → Type 0
WritesMigrated p answer old new = (q : Program) × IsMigrated p q × WritesImage q answer old new

-- What `migrate` answers for bytes, where they are told, and what the output took.
abbrev pub Migrates : Option (List ℕ) → Outcome → Option (List ℕ) → Option (List ℕ) → Type 0
Migrates bytes = Does (RefusesBytes bytes) (HoldsImage bytes) WritesMigrated
