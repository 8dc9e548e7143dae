use Rattle.alloc_lifetime_ends.proofs.Raising.{insn_raised}
use Rattle.alloc_lifetime_ends.proofs.insns.raise_insn.Goals as goal

pub returns : goal.returns
returns c =
    insn_raised c.args.insn.now c.args.number c.args.ends.now c.raise_named.new.ends c.raise_named-2.new.ends c.raise_named-3.new.ends
    c.read_at.result c.read_at-2.result c.write_at.result c.read_at.ensures c.read_at-2.ensures c.write_at.ensures
    c.raise_named.ensures c.raise_named-2.ensures c.raise_named-3.ensures
