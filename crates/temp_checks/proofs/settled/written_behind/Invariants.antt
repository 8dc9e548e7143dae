use Rattle.std.proofs.Common.{◌≡◌, ◌++◌, drop}
use Rattle.temp_ir.specs.Fixed.{written_behind}
use Rattle.temp_checks.proofs.Loops.{kept_numbers}
use Rattle.temp_checks.proofs.settled.written_behind.Given as goal

abbrev pub invariant-loop-register : goal.invariant-loop-register
invariant-loop-register l =
    l.behind.items ++ kept_numbers l.insn (drop l.register-index l.written) ≡ written_behind l.written l.insn
