use Rattle.std.proofs.Common.{arith}
use Rattle.pass_core.specs.Functions.{GoesToBlocks}
use Rattle.pass_checks.proofs.Alls.{all_more, all_done}
use Rattle.pass_checks.proofs.blocks.go_to_blocks.Goals as goal

pub loop-insn-preserved : goal.loop-insn-preserved
loop-insn-preserved g c =
    all_more (GoesToBlocks g.I.Insn.targets c.args.blocks) c.args.insns.now c.loop-insn.insn-index c.insn-item.result
    c.loop-insn-test.true c.insn-item.is c.loop-insn.invariant c.if-not-goes_to_blocks.ensures

pub returns : goal.returns
returns g c =
    all_done (GoesToBlocks g.I.Insn.targets c.args.blocks) c.args.insns.now c.loop-insn.insn-index (omega arith)
    c.loop-insn.invariant
