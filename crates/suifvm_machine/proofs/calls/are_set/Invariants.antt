use Rattle.std.proofs.Common.{◌≡◌, map, drop}
use Rattle.std.specs.List.{list_all}
use Rattle.suifvm_meaning.specs.Behave.{registers_of}
use Rattle.suifvm_meaning.specs.Operations.{is_set}
use Rattle.suifvm_machine.proofs.calls.are_set.Given as goal

abbrev pub invariant-loop-register : goal.invariant-loop-register
invariant-loop-register l = list_all is_set (map (registers_of (drop l.base l.stack)) (drop l.register-index l.registers)) ≡ list_all is_set (map (registers_of (drop l.base l.stack)) l.registers)
