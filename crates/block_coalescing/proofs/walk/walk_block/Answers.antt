use Rattle.block_coalescing.specs.model.Tables.{name_of}
use Rattle.block_coalescing.proofs.Lifted.{if_ok, if_some}
use Rattle.block_coalescing.proofs.walk.walk_block.Goals as goal

pub returns : goal.returns
returns c =
    if_ok c.walk_insns.result (λ made. if_some made (λ ys w. record { names = name_of c.begin.new.self c.args.top.now; start = c.if-not-begin.ensures c.args.top.now; walked = w })) c.walk_insns.ensures
