use Rattle.std.proofs.Common.{arith}
use Rattle.alloc_live_lines.proofs.Functions.{one_more, all_put}
use Rattle.alloc_live_lines.proofs.lives.put_functions.Goals as goal

pub loop-at-preserved : goal.loop-at-preserved
loop-at-preserved c =
    one_more c.args.functions.now c.loop-at.at c.index-functions-at.result _ c.args.out.now.items c.loop-at.out.items
    c.put_function.new.out.items (omega arith) c.index-functions-at.is c.loop-at.invariant c.in_ok-put_function.ensures

pub returns : goal.returns
returns c = all_put c.args.functions.now c.loop-at.at c.args.out.now.items c.loop-at.out.items (omega arith) c.loop-at.invariant
