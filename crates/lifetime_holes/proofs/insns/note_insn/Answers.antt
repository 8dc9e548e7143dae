use Rattle.lifetime_holes.proofs.Tables.{insn_named}
use Rattle.lifetime_holes.proofs.insns.note_insn.Goals as goal

pub returns : goal.returns
returns c =
    insn_named c.args.insn.now c.args.number c.args.table.now c.note_named.new.table c.note_named-2.new.table c.note_named-3.new.table
    c.read_at.result c.read_at-2.result c.write_at.result c.read_at.ensures c.read_at-2.ensures c.write_at.ensures
    c.in_ok-note_named.ensures c.in_ok-note_named-2.ensures c.in_ok-note_named-3.ensures
