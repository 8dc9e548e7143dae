use Rattle.std.proofs.Common.{take, All}
use Rattle.pass_core.specs.Functions.{IsStraight}
use Rattle.pass_checks.proofs.blocks.ends_late.Given as goal

abbrev pub invariant-loop-insn : goal.invariant-loop-insn
invariant-loop-insn g l = All (IsStraight g.I.Insn.targets g.I.Insn.flows_on) (take l.insn-index l.front)
