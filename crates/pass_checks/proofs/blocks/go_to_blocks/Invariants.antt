use Rattle.std.proofs.Common.{take, All}
use Rattle.pass_core.specs.Functions.{GoesToBlocks}
use Rattle.pass_checks.proofs.blocks.go_to_blocks.Given as goal

abbrev pub invariant-loop-insn : goal.invariant-loop-insn
invariant-loop-insn g l = All (GoesToBlocks g.I.Insn.targets l.blocks) (take l.insn-index l.insns)
