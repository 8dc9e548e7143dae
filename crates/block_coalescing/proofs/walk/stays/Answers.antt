use Rattle.bk_bits.specs.Sets.{has}
use Rattle.block_coalescing.specs.model.Tables.{name_of}
use Rattle.block_coalescing.proofs.Taken.{kept}
use Rattle.block_coalescing.proofs.walk.stays.Goals as goal

pub returns-else-not-behind : goal.returns-else-not-behind
returns-else-not-behind c =
    kept c.args.temps c.args.insn c.in-Some.new (name_of c.args.names.now c.args.top.now) (name_of c.behind.new.names c.args.top.now) (has c.args.bottom.now) c.in-Some.ensures (c.if-not-behind.ensures c.args.top.now) c.if-not-leaves_home.ensures
