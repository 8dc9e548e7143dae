use Rattle.std.proofs.Common.{take, All}
use Rattle.pass_core.specs.Functions.{GoesToBlocks}
use Rattle.pass_checks.proofs.blocks.all_go_to_blocks.Given as goal

abbrev pub invariant-loop-insns : goal.invariant-loop-insns
invariant-loop-insns g l = All (All (GoesToBlocks g.I.Insn.targets l.blocks)) (take l.insns-index l.lists)
