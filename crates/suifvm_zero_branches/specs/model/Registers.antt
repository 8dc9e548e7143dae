-- The registers that are known to hold a value.
use Rattle.std.specs.Prelude.{ℕ, ◌<◌}
use Rattle.suifvm_zero_branches.specs.declared.known.RegisterFact.{RegisterFact}
use Rattle.suifvm_zero_branches.specs.declared.known.RegisterFact.TheVariants.{Tests}

-- the value that is known is one of so many registers
abbrev pub KnownIsBelow : (temps : ℕ) → RegisterFact → Type 0
KnownIsBelow temps (Tests ty truth value) = value < temps
KnownIsBelow temps k = Unit {0}
