use Rattle.std.proofs.Common.{◌≡◌, drop}
use Rattle.std.specs.List.{list_all}
use Rattle.temp_ir.specs.Fixed.{has_number}
use Rattle.temp_checks.proofs.settled.has_all.Given as goal

abbrev pub invariant-loop-register : goal.invariant-loop-register
invariant-loop-register l =
    list_all (has_number l.written) (drop l.register-index l.registers) ≡ list_all (has_number l.written) l.registers
