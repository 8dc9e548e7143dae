use Rattle.std.proofs.Common.{◌∙◌, sym, subst, ap}
use Rattle.pass_core.specs.Functions.{AllInsns, UsesRegisters}
use Rattle.temp_ir.specs.Insns.{reads_of, writes_of}
use Rattle.alloc_journal.proofs.Journals.{resized, empty_below, empty_many, journal_made}
use Rattle.alloc_journal.proofs.walk.journal_of.Goals as goal

pub put_blocks-requires-clause-many : goal.put_blocks-requires-clause-many
put_blocks-requires-clause-many c = empty_many c.as_mut_slice.result.now (c.as_mut_slice.ensures.value ∙ resized _ _ 26 _ c.new-holders.ensures.items c.new-holders.ensures.len c.in_ok-resize.ensures.items)

pub put_blocks-requires-clause-below : goal.put_blocks-requires-clause-below
put_blocks-requires-clause-below c = empty_below c.args.f.now.temps c.as_mut_slice.result.now (c.as_mut_slice.ensures.value ∙ resized _ _ 26 _ c.new-holders.ensures.items c.new-holders.ensures.len c.in_ok-resize.ensures.items)

pub put_blocks-requires-clause-inside : goal.put_blocks-requires-clause-inside
put_blocks-requires-clause-inside c = subst (AllInsns (UsesRegisters reads_of writes_of c.args.f.now.temps)) (sym c.as_slice.ensures) c.args.f.now.registers

pub returns : goal.returns
returns c =
    journal_made c.args.f.now c.args.lives.now c.args.at.now c.args.regs.now c.as_slice.result.now c.as_mut_slice.result.now c.new-events.result c.put_blocks.new.out c.requires.transfers c.requires.registers
    c.as_slice.ensures (c.as_mut_slice.ensures.value ∙ resized _ _ 26 _ c.new-holders.ensures.items c.new-holders.ensures.len c.in_ok-resize.ensures.items) c.new-events.ensures c.in_ok-put_blocks.ensures
