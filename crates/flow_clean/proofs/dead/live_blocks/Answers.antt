use Rattle.std.proofs.Common.{sym, subst}
use Rattle.pass_core.specs.Functions.{AllInsns, UsesRegisters}
use Rattle.suifvm_ir.specs.Insns.{reads_of, writes_of}
use Rattle.flow_clean.proofs.dead.live_blocks.Goals as goal

pub clean_blocks-requires-clause-inside : goal.clean_blocks-requires-clause-inside
clean_blocks-requires-clause-inside c = subst (AllInsns (UsesRegisters reads_of writes_of c.args.f.now.temps)) (sym c.as_slice.ensures) c.args.f.now.registers
