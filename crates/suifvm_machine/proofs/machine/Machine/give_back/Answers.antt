-- A return with a value, or without.
use Rattle.std.proofs.Common.{[], refl}
use Rattle.suifvm_machine.proofs.Effects.{return_none, return_some}
use Rattle.suifvm_machine.proofs.machine.Machine.give_back.Goals as goal

pub returns-in-None : goal.returns-in-None
returns-in-None c i = return_none c.args.self.now c.leave.new.self c.leave.result i c.args.value _ c.in-None.is (c.leave.ensures i [] refl)

pub returns-in-Some : goal.returns-in-Some
returns-in-Some c i = return_some c.args.self.now c.give_typed.new.self c.give_typed.result i c.args.value c.in-Some.typed _ c.in-Some.is (c.give_typed.ensures i)
