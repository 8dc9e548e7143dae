use Rattle.std.proofs.Common.{sym, ap}
use Rattle.std.specs.Prelude.{◌&&◌}
use Rattle.frame_checks.proofs.Asked.{laid_out}
use Rattle.frame_checks.proofs.checks.can_be_laid_out.Goals as goal

pub returns-then-numbers : goal.returns-then-numbers
returns-then-numbers c =
    laid_out c.args.a.now c.args.globals.now c.args.number c.args.first_label c.numbers_fit-numbers.result c.names_fit-names.result c.names_fit-names.result
    c.numbers_fit-numbers.ensures c.names_fit-names.ensures (sym (ap (λ b. b && c.names_fit-names.result) c.if-numbers.true))
