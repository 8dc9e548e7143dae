-- The bounds within which a function is selected.
use Rattle.std.specs.Prelude.{◌^◌, ◌≤◌}
use Rattle.suifvm_ir.specs.Programs.{VmFunction, function_size}

pub record IsWithinLimits (f : VmFunction) : Type 0 where
  pub params : f.params ≤ f.temps
  pub temps : f.temps ≤ 2 ^ 24
  pub size : function_size f ≤ 2 ^ 24
