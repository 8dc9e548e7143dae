use Rattle.std.proofs.Common.{◌≡◌, Option, Some, None, sym, ◌∙◌}
use Rattle.alpha_items.specs.declared.item.AsmItem.{AsmItem}
use Rattle.alpha_items.specs.declared.item.AsmItem.TheVariants.{Label}
use Rattle.alpha_text.specs.model.Labels.{has_label, is_label}
use Rattle.alpha_text.proofs.Labels.{line_named, no_label_line, or_nothing}
use Rattle.alpha_text.proofs.survey.add_name.Goals as goal

pub returns-in-Some : goal.returns-in-Some
returns-in-Some c =
    let said = rw c.in-Some.is at c.in_ok-item.ensures.found in
    line_named c.args.names.now c.add_named.new.seen c.args.line.now c.in-Some.item c.add_named.result said.0 said.1 c.add_named.ensures.labels

pub returns-in-None : goal.returns-in-None
returns-in-None c l low =
    or_nothing (has_label c.args.names.now l) (is_label l c.args.line.now) (no_label_line c.args.line.now c.in_ok-item.field-0 l low c.in_ok-item.ensures.only
    (λ k e. let clash : ◌≡◌ {A = Option AsmItem} None (Some (Label k)) = sym c.in-None.is ∙ e in absurd (cc)))
