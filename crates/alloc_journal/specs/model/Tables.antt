-- What a table says of the places of temporaries.
use Rattle.std.specs.Prelude.{◌≡◌, ℕ, ◌<◌, length, Some}
use Rattle.alloc_model.specs.Places.{Reg, Slot}
use Rattle.alloc_rules.specs.Visits.{Homes}
use Rattle.alloc_journal.specs.model.Holders.{Holders, holder_in}

-- each temporary that has a register is one of so many
pub record AreBelow (temps : ℕ) (holders : Holders) : Type 0 where
  pub each : (r t : ℕ) → holder_in holders r ≡ Some t → t < temps

-- a temporary that a register has is there, and any other one has its slot
pub record ShowsHomes (holders : Holders) (homes : Homes) : Type 0 where
  pub many : length holders ≡ 26
  pub there : (r t : ℕ) → holder_in holders r ≡ Some t → homes t ≡ Reg r
  pub nowhere : (t : ℕ) → ((r : ℕ) → ¬ (holder_in holders r ≡ Some t)) → homes t ≡ Slot t
