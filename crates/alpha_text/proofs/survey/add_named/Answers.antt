use Rattle.alpha_text.proofs.Labels.{named_label, named_none, index_named}
use Rattle.alpha_text.proofs.survey.add_named.Goals as goal

pub returns-in_ok-_is_new-in-Label-clause-labels : goal.returns-in_ok-_is_new-in-Label-clause-labels
returns-in_ok-_is_new-in-Label-clause-labels c = rw c.in-Label.is (named_label c.args.seen.now c.add_label.new.labels c.in-Label.label c.in_ok-_is_new-in-Label.ensures.labels)

pub returns-in_ok-_is_new-in-Label-clause-index : goal.returns-in_ok-_is_new-in-Label-clause-index
returns-in_ok-_is_new-in-Label-clause-index c items is = rw c.in-Label.is (index_named c.args.seen.now c.add_label.new.labels _ items (named_label c.args.seen.now c.add_label.new.labels c.in-Label.label c.in_ok-_is_new-in-Label.ensures.labels) is)

pub returns-in_default-clause-labels : goal.returns-in_default-clause-labels
returns-in_default-clause-labels c = named_none c.args.seen.now c.args.item.now c.in_default.not-Label

pub returns-in_default-clause-index : goal.returns-in_default-clause-index
returns-in_default-clause-index c items is = index_named c.args.seen.now c.args.seen.now c.args.item.now items (named_none c.args.seen.now c.args.item.now c.in_default.not-Label) is
