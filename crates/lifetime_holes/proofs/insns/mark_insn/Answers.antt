use Rattle.lifetime_holes.proofs.Tables.{insn_visited}
use Rattle.lifetime_holes.proofs.insns.mark_insn.Goals as goal

pub returns : goal.returns
returns c =
    insn_visited c.args.insn.now c.args.start c.args.number c.args.table.now c.mark_named.new.table c.mark_named-2.new.table c.mark_named-3.new.table
    c.read_at.result c.read_at-2.result c.write_at.result c.read_at.ensures c.read_at-2.ensures c.write_at.ensures
    c.in_ok-mark_named.ensures c.in_ok-mark_named-2.ensures c.in_ok-mark_named-3.ensures
