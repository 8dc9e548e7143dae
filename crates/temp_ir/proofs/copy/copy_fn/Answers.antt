use Rattle.std.proofs.Common.{◌≡◌, ◌∙◌}
use Rattle.temp_ir.proofs.copy.copy_fn.Goals as goal

pub invariant_of-result : goal.invariant_of-result
invariant_of-result c =
    let same : c.in_ok-blocks.blocks ≡ c.args.f.now.blocks = c.in_ok-blocks.ensures ∙ c.as_slice-2.ensures in
    rw same (record {
      targets = c.args.f.now.targets;
      straight = c.args.f.now.straight;
      stops = c.args.f.now.stops;
      few_blocks = c.args.f.now.few_blocks;
      few_insns = c.args.f.now.few_insns;
      registers = c.args.f.now.registers;
    })
