use Rattle.std.proofs.Common.{refl, ◌+◌, ◌<◌, [], sym, ap, ◌∙◌, subst, length, arith, All}
use Rattle.std.proofs.lemmas.List.{get_or_default}
use Rattle.pass_core.specs.Functions.{UsesRegisters}
use Rattle.temp_ir.specs.Insns.{reads_of, writes_of}
use Rattle.bitvector_flow.proofs.Registers.{at_item}
use Rattle.alloc_lifetime_ends.proofs.Points.{count_next, few_next}
use Rattle.lifetime_holes.proofs.Done.{done_begins, done_next}
use Rattle.lifetime_holes.proofs.blocks.mark_blocks.Goals as goal

pub loop-place-init : goal.loop-place-init
loop-place-init c = record {
  number = refl;
  so = done_begins c.args.blocks.now c.args.bottoms.now (length c.args.parts.now) c.args.parts.now c.args.refs.now refl c.requires.no_parts c.requires.no_refs;
}

pub mark_block-requires-clause-few : goal.mark_block-requires-clause-few
mark_block-requires-clause-few c =
    few_next c.args.blocks.now c.args.bottoms.now c.loop-place.place c.index-blocks-place.result (omega arith) c.index-blocks-place.is
    c.loop-place.number 1073741824 c.loop-place.invariant.number c.requires.few

pub mark_block-requires-clause-parts : goal.mark_block-requires-clause-parts
mark_block-requires-clause-parts c =
    subst (λ n. All (UsesRegisters reads_of writes_of n) c.index-blocks-place.result) (sym c.loop-place.invariant.so.parts_length)
    (at_item (All (UsesRegisters reads_of writes_of (length c.args.parts.now))) c.args.blocks.now c.loop-place.place c.index-blocks-place.result
    c.requires.inside (omega arith) c.index-blocks-place.is)

pub mark_block-requires-clause-refs : goal.mark_block-requires-clause-refs
mark_block-requires-clause-refs c =
    subst (λ n. All (UsesRegisters reads_of writes_of n) c.index-blocks-place.result) (sym c.loop-place.invariant.so.refs_length)
    (at_item (All (UsesRegisters reads_of writes_of (length c.args.parts.now))) c.args.blocks.now c.loop-place.place c.index-blocks-place.result
    c.requires.inside (omega arith) c.index-blocks-place.is)

pub loop-place-preserved : goal.loop-place-preserved
loop-place-preserved c =
    let within : c.loop-place.place < length c.args.blocks.now = omega arith in
    let many = c.requires.bottoms.as_many in
    record {
      number = c.in_ok-number.ensures.next ∙ ap (λ n. n + length c.index-blocks-place.result) c.loop-place.invariant.number
          ∙ sym (count_next c.args.blocks.now c.args.bottoms.now c.loop-place.place c.index-blocks-place.result within c.index-blocks-place.is);
      so = done_next c.args.blocks.now c.args.bottoms.now c.loop-place.place c.index-blocks-place.result within c.index-blocks-place.is
          (length c.args.parts.now) c.loop-place.number c.index-bottoms-place.result c.loop-place.parts c.mark_block.new.parts c.loop-place.refs c.mark_block.new.refs c.loop-place.invariant.number
          (c.index-bottoms-place.is ∙ get_or_default c.args.bottoms.now c.loop-place.place c.index-bottoms-place.result [] (omega (arith, within, many)))
          c.loop-place.invariant.so c.in_ok-number.ensures.parts c.in_ok-number.ensures.refs;
    }
