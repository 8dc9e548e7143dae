use Rattle.std.proofs.Common.{arith}
use Rattle.cfg_edges.proofs.split.split_edges.Goals as goal

pub invariant_of-result : goal.invariant_of-result
invariant_of-result g c =
    let part = c.in_ok-blocks.ensures in
    let room = c.requires in
    record {
      targets = part.targets_there;
      straight = part.straight;
      stops = part.stopped;
      few_blocks = omega (arith, part.most_blocks, room);
      few_insns = omega (arith, part.most_insns, room);
      registers = part.registers c.args.f.temps c.args.f.registers;
    }
