use Rattle.bitvector_flow.proofs.Rounds.{solved_sets}
use Rattle.bitvector_flow.proofs.settling.solve_sets.Goals as goal

pub returns : goal.returns
returns c =
    solved_sets c.args.nexts.now c.args.makes.items c.args.stops.now c.as_mut_slice.result.now c.in_ok-ins.ins.items c.as_mut_slice-2.result.now
    c.settle_all.new.outs c.settle_all.new.ins c.in_ok-spare.spare _ c.args.bound c.args.makes.len c.in_ok-ins.ins.len
    c.as_mut_slice.ensures.value c.as_mut_slice-2.ensures.value c.in_ok-ins.ensures c.in_ok-spare.ensures c.requires.as_many_makes
    c.args.makes.ok.0 c.in_ok-ins.ins.ok.0 c.settle_all.auto.outs c.settle_all.auto.ins c.settle_all.ensures
