-- How the stack of registers grows.
use Rattle.std.specs.Prelude.{◌≡◌, ℕ, List, ◌++◌, replicate}
use Rattle.mem_model.specs.declared.value.Value.{Value}
use Rattle.mem_model.specs.declared.value.Value.TheVariants.{Unset}

-- a stack that is as it was, or has unset values behind it
pub record Grows (old new : List Value) : Type 0 where
  pub count : ℕ
  pub is : new ≡ old ++ replicate count Unset
