use Rattle.std.proofs.Common.{length, All, arith}
use Rattle.pass_core.specs.Functions.{UsesRegisters}
use Rattle.temp_ir.specs.Insns.{reads_of, writes_of}
use Rattle.bitvector_flow.proofs.Registers.{at_item}
use Rattle.alloc_plain.proofs.journal.put_blocks.Goals as goal

pub put_visits-requires-clause-inside : goal.put_visits-requires-clause-inside
put_visits-requires-clause-inside c =
    at_item (All (UsesRegisters reads_of writes_of (length c.args.ends.now))) c.args.blocks.now c.loop-number.number c.index-blocks-number.result
    c.requires.inside (omega arith) c.index-blocks-number.is
