use Rattle.std.proofs.Common.{refl, ◌∙◌, arith}
use Rattle.flow_clean.proofs.CleanedFunctions.{goes, late, stop, blocks_many, insns_fewer, uses, cleaned_of, measured}
use Rattle.flow_clean.proofs.dead.dead_writes.Goals as goal

pub invariant_of-result : goal.invariant_of-result
invariant_of-result c =
    let k = c.in_ok-blocks.ensures in
    let many = blocks_many c.args.f.now c.in_ok-blocks.blocks k in
    let fewer = insns_fewer c.args.f.now c.in_ok-blocks.blocks k in
    let few_blocks = c.args.f.now.few_blocks in
    let few_insns = c.args.f.now.few_insns in
    record {
      targets = goes c.args.f.now c.in_ok-blocks.blocks k;
      straight = late c.args.f.now c.in_ok-blocks.blocks k;
      stops = stop c.args.f.now c.in_ok-blocks.blocks k;
      few_blocks = omega (arith, many, few_blocks);
      few_insns = omega (arith, fewer, few_insns);
      registers = uses c.args.f.now c.in_ok-blocks.blocks k;
    }

pub returns-clause-made : goal.returns-clause-made
returns-clause-made c =
    cleaned_of c.args.f.now c.in_ok-blocks.blocks c.in_ok-blocks.ensures _ refl c.requires.marks c.in_ok-name.ensures refl refl
    (c.from_vec-objects.ensures ∙ c.in_ok-from_slice.ensures.items ∙ c.as_slice.ensures)

pub returns-clause-measures : goal.returns-clause-measures
returns-clause-measures c = measured c.args.f.now c.in_ok-blocks.blocks c.in_ok-blocks.ensures _ refl refl
