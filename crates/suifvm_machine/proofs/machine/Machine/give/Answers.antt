-- What an operation came to is written.
use Rattle.suifvm_machine.proofs.Turns.{give_value, give_trap, give_failure}
use Rattle.suifvm_machine.proofs.machine.Machine.give.Goals as goal

pub returns-in-Ok : goal.returns-in-Ok
returns-in-Ok c i writes = give_value c.args.self.now c.write.new.self c.args.destination c.in-Gives.value c.args.answer i c.in-Gives.is c.in-Ok.ensures writes

pub returns-in-TrapsWith : goal.returns-in-TrapsWith
returns-in-TrapsWith c i writes = give_trap c.args.self.now c.in-TrapsWith.code c.args.answer i c.in-TrapsWith.is

pub returns-in-Fails : goal.returns-in-Fails
returns-in-Fails c i writes = give_failure c.args.self.now c.fail.result c.args.answer i c.in-Fails.is c.requires.sound c.fail.ensures
