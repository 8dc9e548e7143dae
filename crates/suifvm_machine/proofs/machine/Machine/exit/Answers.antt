-- The run ends with a status, or has no meaning.
use Rattle.std.proofs.Common.{refl}
use Rattle.suifvm_machine.proofs.Effects.{exit_word, exit_address, exit_unset}
use Rattle.suifvm_machine.proofs.machine.Machine.exit.Goals as goal

pub returns-in-Word : goal.returns-in-Word
returns-in-Word c i = exit_word c.args.self.now c.in-Word.word _ c.args.value i c.in-Word.is refl

pub returns-in-Address : goal.returns-in-Address
returns-in-Address c i = exit_address c.args.self.now c.fail.result _ c.args.value i c.in-Address.is c.requires.sound c.fail.ensures

pub returns-in-Unset : goal.returns-in-Unset
returns-in-Unset c i = exit_unset c.args.self.now c.fail-in-Unset.result c.args.value i c.in-Unset.is c.requires.sound c.fail-in-Unset.ensures
