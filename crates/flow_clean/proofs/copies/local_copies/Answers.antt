use Rattle.std.proofs.Common.{◌≡◌, length, refl, sym, ap, ◌∙◌, subst, arith, All}
use Rattle.std.specs.Prelude.{IsTrue}
use Rattle.pass_core.specs.Functions.{AllInsns, GoesToBlocks, UsesRegisters, EndsLate, stops, count_of}
use Rattle.suifvm_ir.specs.Insns.{reads_of, writes_of, targets_of, flows_on_of}
use Rattle.flow_clean.proofs.Renamed.{goes, late, stop, uses, blocks_same, count_same, without_copies_of, measured}
use Rattle.flow_clean.proofs.copies.local_copies.Goals as goal

pub invariant_of-result : goal.invariant_of-result
invariant_of-result c =
    let made = c.in_ok-blocks.ensures in
    let many : length c.in_ok-blocks.blocks ≡ length c.args.f.now.blocks = ap length made ∙ blocks_same c.args.f.now.blocks in
    let count : count_of c.in_ok-blocks.blocks ≡ count_of c.args.f.now.blocks = ap count_of made ∙ count_same c.args.f.now.blocks in
    let few_blocks = c.args.f.now.few_blocks in
    let few_insns = c.args.f.now.few_insns in
    record {
      targets = subst (λ bs. AllInsns (GoesToBlocks targets_of (length bs)) bs) (sym made) (goes c.args.f.now);
      straight = subst (All (EndsLate targets_of flows_on_of)) (sym made) (late c.args.f.now);
      stops = subst (λ bs. IsTrue (stops flows_on_of bs)) (sym made) (stop c.args.f.now);
      few_blocks = omega (arith, many, few_blocks);
      few_insns = omega (arith, count, few_insns);
      registers = subst (AllInsns (UsesRegisters reads_of writes_of c.args.f.now.temps)) (sym made) (uses c.args.f.now);
    }

pub returns-clause-made : goal.returns-clause-made
returns-clause-made c =
    without_copies_of c.args.f.now _ c.in_ok-blocks.ensures c.requires c.in_ok-name.ensures refl refl
    (c.from_vec-objects.ensures ∙ c.in_ok-from_slice.ensures.items ∙ c.as_slice.ensures)

pub returns-clause-measures : goal.returns-clause-measures
returns-clause-measures c = measured c.args.f.now _ c.in_ok-blocks.ensures refl
