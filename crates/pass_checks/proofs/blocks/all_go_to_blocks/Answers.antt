use Rattle.std.proofs.Common.{All, arith, subst}
use Rattle.pass_core.specs.Functions.{GoesToBlocks}
use Rattle.pass_checks.proofs.Alls.{all_more, all_done}
use Rattle.pass_checks.proofs.blocks.all_go_to_blocks.Goals as goal

pub loop-insns-preserved : goal.loop-insns-preserved
loop-insns-preserved g c =
    all_more (All (GoesToBlocks g.I.Insn.targets c.args.blocks)) c.args.lists.now c.loop-insns.insns-index c.insns-item.result
    c.loop-insns-test.true c.insns-item.is c.loop-insns.invariant
    (subst (All (GoesToBlocks g.I.Insn.targets c.args.blocks)) c.as_slice.ensures c.if-not-go_to_blocks.ensures)

pub returns : goal.returns
returns g c =
    all_done (All (GoesToBlocks g.I.Insn.targets c.args.blocks)) c.args.lists.now c.loop-insns.insns-index (omega arith) c.loop-insns.invariant
