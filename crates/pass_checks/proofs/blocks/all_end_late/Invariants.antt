use Rattle.std.proofs.Common.{take, All}
use Rattle.pass_core.specs.Functions.{EndsLate}
use Rattle.pass_checks.proofs.blocks.all_end_late.Given as goal

abbrev pub invariant-loop-insns : goal.invariant-loop-insns
invariant-loop-insns g l = All (EndsLate g.I.Insn.targets g.I.Insn.flows_on) (take l.insns-index l.lists)
