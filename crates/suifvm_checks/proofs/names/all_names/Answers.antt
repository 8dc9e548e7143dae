use Rattle.std.proofs.Common.{All, IsTrue, arith}
use Rattle.suifvm_ir.specs.Programs.{names_what_is_there}
use Rattle.pass_checks.proofs.Alls.{all_more, all_done}
use Rattle.suifvm_checks.proofs.names.all_names.Goals as goal

pub loop-block-preserved : goal.loop-block-preserved
loop-block-preserved c =
    all_more (All (λ i. IsTrue (names_what_is_there c.args.functions.now c.args.globals.now c.args.objects.now i)))
    c.args.blocks.now c.loop-block.block-index c.block-item.result c.loop-block-test.true c.block-item.is
    c.loop-block.invariant c.if-not-block_names.ensures

pub returns : goal.returns
returns c =
    all_done (All (λ i. IsTrue (names_what_is_there c.args.functions.now c.args.globals.now c.args.objects.now i)))
    c.args.blocks.now c.loop-block.block-index (omega arith) c.loop-block.invariant
