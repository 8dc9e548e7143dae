use Rattle.std.proofs.Common.{◌≡◌, rules, sym, subst, length}
use Rattle.pass_core.specs.Functions.{AllInsns, UsesRegisters}
use Rattle.suifvm_ir.specs.Insns.{reads_of, writes_of}
use Rattle.flow_clean.proofs.copies.blocks_without_copies.Goals as goal

pub copy_blocks-requires-clause-inside : goal.copy_blocks-requires-clause-inside
copy_blocks-requires-clause-inside c =
    let size : length c.as_mut_slice.result.now ≡ c.args.f.now.temps = search rules in
    subst (AllInsns (UsesRegisters reads_of writes_of (length c.as_mut_slice.result.now))) (sym c.as_slice.ensures)
    (subst (λ n. AllInsns (UsesRegisters reads_of writes_of n) c.args.f.now.blocks) (sym size) c.args.f.now.registers)
