use Rattle.std.proofs.Common.{◌≡◌, Bool, true, false, sym, ◌∙◌}
use Rattle.alpha_text.specs.Wrong.{lines_of}
use Rattle.alpha_text.proofs.Judged.{no_said, not_said}
use Rattle.alpha_text.proofs.items.next_said.Goals as goal

pub returns-in_default : goal.returns-in_default
returns-in_default c =
    let none = rw c.in_default.is at c.in_ok-found.ensures in
    no_said (lines_of c.args.survey.now.text.now) c.args.items.now c.args.line.now none

pub returns-else-may_stand : goal.returns-else-may_stand
returns-else-may_stand c =
    let found = rw c.in-Some.is at c.in_ok-found.ensures in
    not_said (lines_of c.args.survey.now.text.now) c.args.items.now c.args.line.now c.in-Some.found found.1
    (λ stands. let clash : ◌≡◌ {A = Bool} false true = sym c.if-may_stand.false ∙ c.may_stand.ensures.1 stands in absurd (cc))
