use Rattle.std.proofs.Common.{◌+◌, ◌<◌, [], sym, ap, ◌∙◌, subst, length, arith, All}
use Rattle.std.proofs.lemmas.List.{get_or_default}
use Rattle.pass_core.specs.Functions.{UsesRegisters}
use Rattle.temp_ir.specs.Insns.{reads_of, writes_of}
use Rattle.bitvector_flow.proofs.Registers.{at_item}
use Rattle.alloc_lifetime_ends.proofs.Points.{count_next, block_next, few_next}
use Rattle.alloc_lifetime_ends.proofs.last.raise_blocks.Goals as goal

pub raise_block-number-requires-clause-inside : goal.raise_block-number-requires-clause-inside
raise_block-number-requires-clause-inside c =
    subst (λ n. All (UsesRegisters reads_of writes_of n) c.index-blocks-place.result) (sym c.loop-place.invariant.as_many)
    (at_item (All (UsesRegisters reads_of writes_of (length c.args.ends.now))) c.args.blocks.now c.loop-place.place c.index-blocks-place.result
    c.requires.inside (omega arith) c.index-blocks-place.is)

pub raise_block-number-requires-clause-few : goal.raise_block-number-requires-clause-few
raise_block-number-requires-clause-few c =
    few_next c.args.blocks.now c.args.bottoms.now c.loop-place.place c.index-blocks-place.result (omega arith) c.index-blocks-place.is
    c.loop-place.number 1073741824 c.loop-place.invariant.number c.requires.few

pub loop-place-preserved : goal.loop-place-preserved
loop-place-preserved c =
    let within : c.loop-place.place < length c.args.blocks.now = omega arith in
    let many = c.requires.bottoms.as_many in
    record {
      number = c.raise_block-number.ensures.next ∙ ap (λ n. n + length c.index-blocks-place.result) c.loop-place.invariant.number
          ∙ sym (count_next c.args.blocks.now c.args.bottoms.now c.loop-place.place c.index-blocks-place.result within c.index-blocks-place.is);
      as_many = c.raise_block-number.ensures.raised.as_many ∙ c.loop-place.invariant.as_many;
      raised = block_next c.args.blocks.now c.args.bottoms.now c.loop-place.place c.index-blocks-place.result within c.index-blocks-place.is
          c.loop-place.number c.index-bottoms-place.result c.args.ends.now c.loop-place.ends c.raise_block-number.new.ends c.loop-place.invariant.number
          (c.index-bottoms-place.is ∙ get_or_default c.args.bottoms.now c.loop-place.place c.index-bottoms-place.result [] (omega (arith, within, many)))
          c.loop-place.invariant.raised c.raise_block-number.ensures.raised;
    }
