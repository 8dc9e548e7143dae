use Rattle.std.proofs.Common.{arith}
use Rattle.bitvector_flow.proofs.Registers.{at_item}
use Rattle.flow_clean.proofs.Turns.{turn_more}
use Rattle.flow_clean.proofs.passes.run_over.Goals as goal

pub run-requires : goal.run-requires
run-requires g c = at_item g.P.FunctionPass.needs c.args.functions.now c.loop-f.f-index c.f-item.result c.requires (omega arith) c.f-item.is

pub loop-f-preserved : goal.loop-f-preserved
loop-f-preserved g c =
    turn_more g.P.FunctionPass.gives c.args.functions.now c.loop-f.made c.push.new.self c.loop-f.f-index c.f-item.result _ c.loop-f-test.true c.f-item.is
    c.loop-f.invariant c.in_ok-run.ensures c.in_ok-push.ensures.ok
