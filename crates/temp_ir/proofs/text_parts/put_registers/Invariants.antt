use Rattle.std.proofs.Common.{◌≡◌, ◌++◌, drop}
use Rattle.temp_ir.specs.Text.{registers_text}
use Rattle.temp_ir.proofs.text_parts.put_registers.Given as goal

abbrev pub invariant-loop-register : goal.invariant-loop-register
invariant-loop-register l =
    l.out.items ++ registers_text (drop l.register-index l.registers) ≡ l.initial.out.items ++ registers_text l.registers
