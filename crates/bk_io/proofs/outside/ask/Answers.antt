use Rattle.std.proofs.Common.{rules}
use Rattle.bk_io.proofs.Inputs.{call_gives}
use Rattle.bk_io.proofs.outside.ask.Goals as goal

pub returns-clause-gives : goal.returns-clause-gives
returns-clause-gives g c = call_gives c.next.result _ _ (search rules) c.next.ensures.byte c.next.ensures.left
