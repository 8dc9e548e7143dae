use Rattle.std.proofs.Common.{◌≡◌, ◌++◌, map, drop, take}
use Rattle.suifvm_meaning.specs.Behave.{registers_of}
use Rattle.suifvm_machine.proofs.calls.push_registers.Given as goal

abbrev pub invariant-loop-register : goal.invariant-loop-register
invariant-loop-register l = l.stack.items ≡ l.initial.stack.items ++ map (registers_of (drop l.base l.initial.stack.items)) (take l.register-index l.registers)
