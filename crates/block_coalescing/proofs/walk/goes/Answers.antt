use Rattle.block_coalescing.specs.model.Tables.{name_of}
use Rattle.block_coalescing.proofs.Taken.{on_true, gone_copied}
use Rattle.block_coalescing.proofs.walk.goes.Goals as goal

pub returns-in-Some : goal.returns-in-Some
returns-in-Some c =
    on_true c.note.result (λ h. gone_copied c.args.temps c.args.insn (name_of c.args.names.now c.args.top.now) (name_of c.note.new.self c.args.top.now) c.in-Some.destination c.in-Some.source c.name-name.result c.in-Some.ensures c.name-name.ensures (h c.args.top.now)) c.note.ensures
