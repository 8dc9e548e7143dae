use Rattle.std.proofs.Common.{length}
use Rattle.alloc_plain.proofs.Loops.{left_below}
use Rattle.alloc_plain.proofs.visits.put_visit.Goals as goal

pub put_all_leaving-requires-clause-left : goal.put_all_leaving-requires-clause-left
put_all_leaving-requires-clause-left c =
    left_below (length c.args.ends.now) c.args.insn.now c.args.held c.held_left-left.result c.requires.inside c.held_left-left.ensures c.requires.held
