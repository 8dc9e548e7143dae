use Rattle.std.proofs.Common.{◌≡◌, ◌++◌, drop}
use Rattle.suifvm_ir.specs.Text.{arguments_text}
use Rattle.suifvm_ir.proofs.text_parts.put_arguments.Given as goal

abbrev pub invariant-loop-register : goal.invariant-loop-register
invariant-loop-register l =
    l.out.items ++ arguments_text (drop l.register-index l.registers) ≡ l.initial.out.items ++ arguments_text l.registers
