use Rattle.std.proofs.Common.{◌≡◌, [], sym, ap, ◌∙◌, subst, length, replicate}
use Rattle.std.proofs.lemmas.List.{length-replicate}
use Rattle.pass_core.specs.Functions.{AllInsns, UsesRegisters}
use Rattle.temp_ir.specs.Insns.{reads_of, writes_of}
use Rattle.bitvector_flow.specs.Flows.{AreBounded}
use Rattle.lifetime_holes.proofs.Done.{all_found}
use Rattle.lifetime_holes.proofs.lives.lifetimes.Goals as goal

pub mark_blocks-requires-clause-no_parts : goal.mark_blocks-requires-clause-no_parts
mark_blocks-requires-clause-no_parts c =
    let same : c.as_mut_slice.result.now ≡ replicate c.args.f.now.temps [] = c.as_mut_slice.ensures.value ∙ c.in_ok-parts.ensures in
    same ∙ ap (λ n. replicate n []) (sym (ap length same ∙ length-replicate c.args.f.now.temps []))

pub mark_blocks-requires-clause-no_refs : goal.mark_blocks-requires-clause-no_refs
mark_blocks-requires-clause-no_refs c =
    let same : c.as_mut_slice.result.now ≡ replicate c.args.f.now.temps [] = c.as_mut_slice.ensures.value ∙ c.in_ok-parts.ensures in
    c.as_mut_slice-2.ensures.value ∙ c.in_ok-refs.ensures ∙ ap (λ n. replicate n []) (sym (ap length same ∙ length-replicate c.args.f.now.temps []))

pub mark_blocks-requires-clause-inside : goal.mark_blocks-requires-clause-inside
mark_blocks-requires-clause-inside c =
    let same : c.as_mut_slice.result.now ≡ replicate c.args.f.now.temps [] = c.as_mut_slice.ensures.value ∙ c.in_ok-parts.ensures in
    subst (AllInsns (UsesRegisters reads_of writes_of (length c.as_mut_slice.result.now))) (sym c.as_slice.ensures)
    (subst (λ n. AllInsns (UsesRegisters reads_of writes_of n) c.args.f.now.blocks) (sym (ap length same ∙ length-replicate c.args.f.now.temps [])) c.args.f.now.registers)

pub mark_blocks-requires-clause-bottoms : goal.mark_blocks-requires-clause-bottoms
mark_blocks-requires-clause-bottoms c =
    let same : c.as_mut_slice.result.now ≡ replicate c.args.f.now.temps [] = c.as_mut_slice.ensures.value ∙ c.in_ok-parts.ensures in
    subst (AreBounded (length c.as_slice.result.now) (length c.as_mut_slice.result.now)) (sym c.as_slice-2.ensures)
    (subst (λ bs. AreBounded (length bs) (length c.as_mut_slice.result.now) c.args.live.now.bottom) (sym c.as_slice.ensures)
    (subst (λ n. AreBounded (length c.args.f.now.blocks) n c.args.live.now.bottom) (sym (ap length same ∙ length-replicate c.args.f.now.temps [])) c.requires.bottoms_bounded))

pub returns : goal.returns
returns c =
    all_found c.args.f.now c.args.live.now.top c.args.live.now.bottom c.requires c.as_slice.result.now c.as_slice-2.result.now c.as_slice.ensures c.as_slice-2.ensures
    c.in_ok-parts.parts.items c.as_mut_slice.result.now c.mark_blocks.new.parts c.from_vec.result c.in_ok-refs.refs.items c.mark_blocks.new.refs c.from_vec-2.result
    c.in_ok-parts.parts.len c.in_ok-refs.refs.len c.as_mut_slice.ensures.value c.in_ok-parts.ensures c.in_ok-parts.parts.ok.0 c.in_ok-refs.ensures c.in_ok-refs.refs.ok.0
    c.in_ok-mark_blocks.ensures c.from_vec.ensures c.from_vec-2.ensures
