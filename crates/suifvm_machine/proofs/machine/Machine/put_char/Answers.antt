-- A byte is put, or the call has no meaning.
use Rattle.std.proofs.Common.{refl}
use Rattle.suifvm_machine.proofs.Effects.{put_word, put_address, put_unset}
use Rattle.suifvm_machine.proofs.machine.Machine.put_char.Goals as goal

pub returns-in-Ok : goal.returns-in-Ok
returns-in-Ok c i writes = put_word c.args.self.now c.write.new.self c.args.destination c.in-Word.word _ c.args.value i c.in-Word.is refl c.in-Ok.ensures writes

pub returns-in-Address : goal.returns-in-Address
returns-in-Address c i writes = put_address c.args.self.now c.fail.result _ c.args.value i c.in-Address.is c.requires.sound c.fail.ensures

pub returns-in-Unset : goal.returns-in-Unset
returns-in-Unset c i writes = put_unset c.args.self.now c.fail-in-Unset.result c.args.value i c.in-Unset.is c.requires.sound c.fail-in-Unset.ensures
