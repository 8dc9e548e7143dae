use Rattle.alpha_text.proofs.Labels.{label_added}
use Rattle.alpha_text.proofs.survey.add_label.Goals as goal

pub returns-clause-labels : goal.returns-clause-labels
returns-clause-labels c = label_added c.args.labels.now c.insert.new.self c.args.label c.in_ok-insert.field-0 c.in_ok-insert.ensures.added c.in_ok-insert.ensures.keys
