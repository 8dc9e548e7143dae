use Rattle.std.proofs.Common.{take, All}
use Rattle.pass_core.specs.Functions.{UsesRegisters}
use Rattle.pass_checks.proofs.blocks.use_registers.Given as goal

abbrev pub invariant-loop-insn : goal.invariant-loop-insn
invariant-loop-insn g l = All (UsesRegisters g.I.Insn.reads g.I.Insn.writes l.registers) (take l.insn-index l.insns)
