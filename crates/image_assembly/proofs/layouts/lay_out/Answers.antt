use Rattle.std.proofs.Common.{arith}
use Rattle.image_assembly.proofs.Follow.{lay_out_next}
use Rattle.image_assembly.proofs.layouts.lay_out.Goals as goal

pub loop-number-preserved : goal.loop-number-preserved
loop-number-preserved c =
    let h = c.loop-number.invariant in
    lay_out_next c.args.globals.now c.args.allocations.now c.loop-number.number c.loop-number.first c.loop-number.finals.items c.index-allocations-number.result
    c.in_ok-made.made c.label_count-first.result c.push.new.self.items (omega arith) c.index-allocations-number.is h.0 h.1 h.2 c.read_numbers.ensures c.in_ok-made.ensures
    c.label_count-first.ensures c.in_ok-push.ensures.items
