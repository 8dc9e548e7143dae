use Rattle.std.proofs.Common.{take, All}
use Rattle.pass_core.specs.Functions.{UsesRegisters}
use Rattle.pass_checks.proofs.blocks.all_use_registers.Given as goal

abbrev pub invariant-loop-insns : goal.invariant-loop-insns
invariant-loop-insns g l = All (All (UsesRegisters g.I.Insn.reads g.I.Insn.writes l.registers)) (take l.insns-index l.lists)
