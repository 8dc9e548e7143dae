use Rattle.std.proofs.Common.{sym, ◌∙◌}
use Rattle.block_coalescing.specs.model.Tables.{name_of}
use Rattle.block_coalescing.proofs.Taken.{on_true, gone_lost}
use Rattle.block_coalescing.proofs.walk.loses.Goals as goal

pub returns-in-Some : goal.returns-in-Some
returns-in-Some c =
    on_true c.note.result (λ h top. gone_lost c.args.temps c.args.insn (name_of c.args.names.now top) (name_of c.note.new.self top) c.in-Some.temp (sym c.is_pure.ensures ∙ c.if-not-is_pure.false) (sym c.in-Some.is ∙ c.write_at.ensures) (h top)) c.note.ensures
