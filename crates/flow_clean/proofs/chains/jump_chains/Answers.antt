use Rattle.std.proofs.Common.{◌≡◌, length, map, refl, sym, ap, ◌∙◌, subst, arith, All}
use Rattle.std.specs.Prelude.{IsTrue}
use Rattle.pass_core.specs.Functions.{AllInsns, GoesToBlocks, UsesRegisters, EndsLate, stops, count_of}
use Rattle.suifvm_ir.specs.Insns.{reads_of, writes_of, targets_of, flows_on_of}
use Rattle.flow_clean.specs.Chains.{retargeted}
use Rattle.flow_clean.proofs.ChainFunctions.{measured, chained_of, made_of, lead_of, goes_kept, late_blocks, stops_same, blocks_length, count_same, registers_kept}
use Rattle.flow_clean.proofs.chains.jump_chains.Goals as goal

pub invariant_of-result : goal.invariant_of-result
invariant_of-result c =
    let made : c.from_vec.result ≡ map (map (retargeted c.in_ok-ends.ends.items)) c.args.f.blocks =
    made_of c.in_ok-ends.ends.items c.as_slice-2.result.now c.args.f.blocks c.into_vec-blocks.result.items c.as_mut_slice.result.now c.retarget_all.new.blocks c.from_vec.result c.into_vec-blocks.result.len
    c.into_vec-blocks.ensures c.as_mut_slice.ensures.value c.as_slice-2.ensures.value c.into_vec-blocks.result.ok.0 c.retarget_all.ensures c.from_vec.ensures in
    let lead = lead_of c.args.f.blocks c.as_slice.result.now c.in_ok-ends.ends.items c.as_slice.ensures c.in_ok-ends.ensures in
    let many : length c.from_vec.result ≡ length c.args.f.blocks = ap length made ∙ blocks_length c.in_ok-ends.ends.items c.args.f.blocks in
    let count : count_of c.from_vec.result ≡ count_of c.args.f.blocks = ap count_of made ∙ count_same c.in_ok-ends.ends.items c.args.f.blocks in
    let few_blocks = c.args.f.few_blocks in
    let few_insns = c.args.f.few_insns in
    record {
      targets = subst (λ bs. AllInsns (GoesToBlocks targets_of (length bs)) bs) (sym made) (goes_kept c.in_ok-ends.ends.items c.args.f.blocks c.args.f.targets c.requires lead);
      straight = subst (All (EndsLate targets_of flows_on_of)) (sym made) (late_blocks c.in_ok-ends.ends.items c.args.f.blocks c.args.f.straight);
      stops = subst (λ bs. IsTrue (stops flows_on_of bs)) (sym made) (stops_same c.in_ok-ends.ends.items c.args.f.blocks ∙ c.args.f.stops);
      few_blocks = omega (arith, many, few_blocks);
      few_insns = omega (arith, count, few_insns);
      registers = subst (AllInsns (UsesRegisters reads_of writes_of c.args.f.temps)) (sym made) (registers_kept c.in_ok-ends.ends.items c.args.f.temps c.args.f.blocks c.args.f.registers);
    }

pub returns : goal.returns
returns c =
    let made : c.from_vec.result ≡ map (map (retargeted c.in_ok-ends.ends.items)) c.args.f.blocks =
    made_of c.in_ok-ends.ends.items c.as_slice-2.result.now c.args.f.blocks c.into_vec-blocks.result.items c.as_mut_slice.result.now c.retarget_all.new.blocks c.from_vec.result c.into_vec-blocks.result.len
    c.into_vec-blocks.ensures c.as_mut_slice.ensures.value c.as_slice-2.ensures.value c.into_vec-blocks.result.ok.0 c.retarget_all.ensures c.from_vec.ensures in
    let lead = lead_of c.args.f.blocks c.as_slice.result.now c.in_ok-ends.ends.items c.as_slice.ensures c.in_ok-ends.ensures in
    record {
      made = chained_of c.args.f _ c.in_ok-ends.ends.items made c.requires lead refl refl refl refl;
      measures = measured c.args.f _ c.in_ok-ends.ends.items made refl;
    }
