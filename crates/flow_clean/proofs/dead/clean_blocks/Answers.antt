use Rattle.std.proofs.Common.{◌<◌, sym, ◌∙◌, subst, length, arith, All}
use Rattle.pass_core.specs.Functions.{UsesRegisters}
use Rattle.suifvm_ir.specs.Insns.{reads_of, writes_of}
use Rattle.bitvector_flow.proofs.Registers.{at_item}
use Rattle.flow_clean.proofs.CleanedFunctions.{block_next}
use Rattle.flow_clean.proofs.dead.clean_blocks.Goals as goal

pub push_cleaned-requires-clause-inside : goal.push_cleaned-requires-clause-inside
push_cleaned-requires-clause-inside c =
    subst (λ n. All (UsesRegisters reads_of writes_of n) c.index-blocks-place.result) (sym c.loop-place.invariant.bound)
    (at_item (All (UsesRegisters reads_of writes_of c.args.registers)) c.args.blocks.now c.loop-place.place c.index-blocks-place.result
    c.requires.inside (omega arith) c.index-blocks-place.is)

pub loop-place-preserved : goal.loop-place-preserved
loop-place-preserved c =
    let within : c.loop-place.place < length c.args.blocks.now = omega arith in
    let many = c.requires.bottoms.as_many in
    record {
      bound = c.in_ok-push_cleaned.ensures.bound ∙ c.loop-place.invariant.bound;
      made = block_next c.args.bottoms.now c.args.blocks.now c.loop-place.made c.push_cleaned.new.made c.loop-place.place c.index-blocks-place.result c.index-bottoms-place.result
          within (omega (arith, within, many)) c.index-blocks-place.is c.index-bottoms-place.is c.loop-place.invariant.made c.in_ok-push_cleaned.ensures.made;
    }
