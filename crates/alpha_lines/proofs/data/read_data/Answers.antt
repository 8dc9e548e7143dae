use Rattle.alpha_lines.proofs.Answers.{data_found, data_only}
use Rattle.alpha_lines.proofs.data.read_data.Goals as goal

pub returns-clause-found : goal.returns-clause-found
returns-clause-found c = data_found c.args.line.now c.data_count.result c.data_count.ensures

pub returns-clause-only : goal.returns-clause-only
returns-clause-only c = data_only c.args.line.now c.data_count.result c.data_count.ensures
