use Rattle.std.proofs.Common.{[], length, get_or, set}
use Rattle.std.proofs.lemmas.List.{get_or_default}
use Rattle.bitvector_flow.proofs.Rounds.{read_again, step}
use Rattle.bitvector_flow.proofs.settling.settle.Goals as goal

pub returns-clause-step : goal.returns-clause-step
returns-clause-step c =
    step c.args.nexts.now c.args.stops.now (length c.args.spare.now) c.args.block c.args.outs.now c.args.ins.now
    (get_or c.args.ins.now c.args.block c.index-ins-block.result) c.gather.new.into
    (get_or (set c.args.ins.now c.args.block c.gather.new.into) c.args.block c.index-ins-block-2.result)
    (get_or c.args.outs.now c.args.block c.index-outs-block.result) c.pass.new.out c.pass.result
    c.requires.outs_inside c.requires.ins_inside c.requires.outs c.requires.ins
    (get_or_default c.args.ins.now c.args.block c.index-ins-block.result [] c.requires.ins_inside) c.gather.ensures.bound c.gather.ensures.members
    (get_or_default c.args.outs.now c.args.block c.index-outs-block.result [] c.requires.outs_inside)
    (read_again c.args.ins.now c.args.block c.gather.new.into c.index-ins-block-2.result c.requires.ins_inside)
    c.pass.ensures.bound c.pass.ensures.members c.pass.ensures.same c.pass.ensures.changed
