use Rattle.std.specs.Prelude.{unwrap_or}
use Rattle.std.proofs.Common.{ℕ, Option, ap, sym, ◌∙◌}
use Rattle.alpha_asm.specs.model.Sweeps.{label_target}
use Rattle.alpha_asm.proofs.labels.target.Goals as goal

pub returns-in-Some : goal.returns-in-Some
returns-in-Some c = λ items says.
    c.named_at.ensures ∙ ap (λ (o : Option ℕ). unwrap_or o 0) (says c.in-Some.label)
    ∙ sym (ap (label_target items) (sym c.label_used.ensures ∙ c.in-Some.is))
