-- The sets of what is tested, of numbers below a bound, for so many blocks.
use Rattle.std.specs.Prelude.{◌≡◌, ℕ, ◌<◌, ◌&&◌, nat_lt, Bool, List}
use Rattle.bitvector_flow.specs.Flows.{has_at, AreBounded}

pub record AreTested (count bound : ℕ) (test : (block k : ℕ) → Bool) (sets : List (List Bool)) : Type 0 where
  pub bounded : AreBounded count bound sets
  pub are : (block k : ℕ) → block < count → has_at sets block k ≡ (nat_lt k bound && test block k)
