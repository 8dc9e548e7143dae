use Rattle.std.proofs.Common.{sym, ◌∙◌}
use Rattle.block_coalescing.specs.model.Tables.{name_of}
use Rattle.block_coalescing.proofs.Taken.{on_true, behind_write, behind_none}
use Rattle.block_coalescing.proofs.walk.behind.Goals as goal

pub returns-in-Some-Some : goal.returns-in-Some-Some
returns-in-Some-Some c =
    on_true c.write.result (λ h top. behind_write c.args.old c.args.new (name_of c.args.names.now top) (name_of c.write.new.self top) c.in-Some-Some.from c.in-Some-Some.to (sym c.in-Some-Some.is-0 ∙ c.write_at.ensures) (sym c.in-Some-Some.is-1 ∙ c.write_at-2.ensures) (h top)) c.write.ensures

pub returns-in-None-None : goal.returns-in-None-None
returns-in-None-None c top =
    behind_none c.args.old c.args.new (name_of c.args.names.now top) (sym c.in-None-None.is-0 ∙ c.write_at.ensures) (sym c.in-None-None.is-1 ∙ c.write_at-2.ensures)
