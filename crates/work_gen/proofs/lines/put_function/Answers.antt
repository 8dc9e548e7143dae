use Rattle.std.proofs.Common.{rules, append_assoc}
use Rattle.work_gen.proofs.lines.put_function.Goals as goal

pub returns : goal.returns
returns c = search (rules, append_assoc)
