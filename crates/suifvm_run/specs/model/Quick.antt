-- What a step comes to that is tried at once.
use Rattle.std.specs.Prelude.{◌≡◌, Bool}
use Rattle.std.specs.Bool.{OnTrue, OnFalse}
use Rattle.suifvm_machine.specs.declared.machine.Machine.{Machine}

-- where it was done, that is so of it; and where not, nothing has changed
pub record StepsOrKeeps (old new : Machine) (result : Bool) (Steps : Type 0) : Type 0 where
  pub done : OnTrue result Steps
  pub kept : OnFalse result (new ≡ old)
