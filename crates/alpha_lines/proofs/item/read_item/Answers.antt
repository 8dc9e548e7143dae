use Rattle.alpha_lines.proofs.Answers.{item_found, item_only}
use Rattle.alpha_lines.proofs.item.read_item.Goals as goal

pub returns-clause-found : goal.returns-clause-found
returns-clause-found c = item_found c.args.line.now c.item_said.result c.item_said.ensures

pub returns-clause-only : goal.returns-clause-only
returns-clause-only c = item_only c.args.line.now c.item_said.result c.item_said.ensures
