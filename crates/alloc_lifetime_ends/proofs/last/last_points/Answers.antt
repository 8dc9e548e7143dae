use Rattle.std.proofs.Common.{◌≡◌, ℕ, sym, ap, ◌∙◌, subst, length}
use Rattle.std.proofs.lemmas.List.{length-replicate}
use Rattle.pass_core.specs.Functions.{AllInsns, UsesRegisters}
use Rattle.temp_ir.specs.Insns.{reads_of, writes_of}
use Rattle.alloc_lifetime_ends.proofs.Points.{last_found}
use Rattle.alloc_lifetime_ends.proofs.last.last_points.Goals as goal

pub raise_blocks-requires-clause-inside : goal.raise_blocks-requires-clause-inside
raise_blocks-requires-clause-inside c =
    let size : length c.as_mut_slice.result.now ≡ c.args.f.now.temps =
    ap length (c.as_mut_slice.ensures.value ∙ c.in_ok-ends.ensures) ∙ length-replicate {A = ℕ} c.args.f.now.temps 0 in
    subst (AllInsns (UsesRegisters reads_of writes_of (length c.as_mut_slice.result.now))) (sym c.as_slice.ensures)
    (subst (λ n. AllInsns (UsesRegisters reads_of writes_of n) c.args.f.now.blocks) (sym size) c.args.f.now.registers)

pub returns : goal.returns
returns c =
    last_found c.args.f.now.blocks c.as_slice.result.now c.args.live.now.bottom c.as_slice-2.result.now c.args.f.now.temps c.in_ok-ends.ends.len
    c.in_ok-ends.ends.items c.as_mut_slice.result.now c.raise_blocks.new.ends c.from_vec.result c.as_slice.ensures c.as_slice-2.ensures
    c.as_mut_slice.ensures.value c.in_ok-ends.ensures c.in_ok-ends.ends.ok.0 c.raise_blocks.ensures c.from_vec.ensures
