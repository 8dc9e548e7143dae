use Rattle.std.proofs.Common.{arith}
use Rattle.cfg.proofs.unreachable.remove_unreachable.Goals as goal

pub invariant_of-result : goal.invariant_of-result
invariant_of-result g c =
    let part = c.in_ok-blocks.ensures in
    let few_blocks = c.args.f.few_blocks in
    let few_insns = c.args.f.few_insns in
    record {
      targets = part.targets_there;
      straight = part.straight;
      stops = part.stopped;
      few_blocks = omega (arith, part.fewer_blocks);
      few_insns = omega (arith, part.fewer_insns);
      registers = part.registers c.args.f.temps c.args.f.registers;
    }
