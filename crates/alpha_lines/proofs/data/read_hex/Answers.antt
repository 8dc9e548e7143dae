use Rattle.alpha_lines.proofs.Answers.{hex_found, hex_only}
use Rattle.alpha_lines.proofs.data.read_hex.Goals as goal

pub returns-clause-found : goal.returns-clause-found
returns-clause-found c = hex_found (λ v. v.items) c.args.line.now c.hex_said.result c.hex_said.ensures

pub returns-clause-only : goal.returns-clause-only
returns-clause-only c = hex_only (λ v. v.items) c.args.line.now c.hex_said.result c.hex_said.ensures
