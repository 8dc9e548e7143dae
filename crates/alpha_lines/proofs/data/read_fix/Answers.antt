use Rattle.alpha_lines.proofs.Answers.{fix_found, fix_only}
use Rattle.alpha_lines.proofs.data.read_fix.Goals as goal

pub returns-clause-found : goal.returns-clause-found
returns-clause-found c = fix_found c.args.line.now c.fix_said.result c.fix_said.ensures

pub returns-clause-only : goal.returns-clause-only
returns-clause-only c = fix_only c.args.line.now c.fix_said.result c.fix_said.ensures
