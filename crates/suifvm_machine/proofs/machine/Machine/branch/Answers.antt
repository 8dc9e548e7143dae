-- A test that has no meaning.
use Rattle.suifvm_machine.proofs.Effects.{branch_failure}
use Rattle.suifvm_machine.proofs.machine.Machine.branch.Goals as goal

pub returns-in-None : goal.returns-in-None
returns-in-None c i target writes = branch_failure c.args.self.now c.fail.result i c.args.op c.args.test c.in-None.is c.requires.sound c.fail.ensures
