-- The earlier of a fault and another, if there is another.
use Rattle.std.specs.Prelude.{if◌then◌else◌, Option, Some, None}
use Rattle.c_typing_faults.specs.declared.faults.Fault.{Fault}
use Rattle.c_typing_faults.specs.Faults.{is_before}

abbrev pub earlier : Fault → Option Fault → Fault
earlier f None = f
earlier f (Some g) = if is_before f g then f else g
