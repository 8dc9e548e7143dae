use Rattle.std.proofs.Common.{false, sym, ap, ◌∙◌, subst, length, All}
use Rattle.std.proofs.lemmas.List.{length-replicate}
use Rattle.pass_core.specs.Functions.{UsesRegisters}
use Rattle.bitvector_flow.proofs.blocks.registers_of.Goals as goal

pub add_block-requires-clause-inside : goal.add_block-requires-clause-inside
add_block-requires-clause-inside g c =
    subst (λ n. All (UsesRegisters g.I.Insn.reads g.I.Insn.writes n) c.args.block.now)
    (sym (ap length c.in_ok-reads.ensures ∙ length-replicate c.args.registers false)) c.requires.inside
