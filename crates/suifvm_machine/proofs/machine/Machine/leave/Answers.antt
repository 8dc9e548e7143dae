-- A call ends.
use Rattle.std.proofs.Common.{◌≡◌, ◌<◌, ◌∷◌, [], ◌++◌, length, Some, refl, rules}
use Rattle.std.specs.Prelude.{slice_get}
use Rattle.suifvm_machine.specs.Tables.{block_insns}
use Rattle.suifvm_machine.proofs.Returns.{finished_run, back_sound, back_place, returned_call, there_is}
use Rattle.suifvm_machine.proofs.machine.Machine.leave.Goals as goal

pub write-requires-clause-sound : goal.write-requires-clause-sound
write-requires-clause-sound c =
    let callers : c.args.self.now.callers.items ≡ c.pop.new.self.items ++ c.in-Some.caller ∷ [] = search rules in
    back_sound c.args.self.now _ c.requires.sound callers c.truncate.ensures.items c.end_objects.ensures.value c.end_objects.ensures.tidy refl

pub returns-in-None : goal.returns-in-None
returns-in-None c i vs is =
    let none : c.args.self.now.callers.items ≡ [] = search rules in
    finished_run c.args.self.now _ i vs c.args.value _ c.status_of.result c.requires.sound none refl c.status_of.ensures is

pub returns-in-Ok : goal.returns-in-Ok
returns-in-Ok c i vs is =
    let callers : c.args.self.now.callers.items ≡ c.pop.new.self.items ++ c.in-Some.caller ∷ [] = search rules in
    let within : c.in-Some.caller.at < length c.in-Some.caller.row.now.insns.items = back_place c.args.self.now (record c.args.self.now { memory = c.end_objects.new.memory; stack = c.truncate.new.self; here = c.in-Some.caller; callers = c.pop.new.self }) c.requires.sound callers c.truncate.ensures.items c.end_objects.ensures.value c.end_objects.ensures.tidy refl in
    let there : slice_get (block_insns c.in-Some.caller.row.now) c.in-Some.caller.at ≡ Some c.index-insn.result.now.now = there_is c.in-Some.caller.row.now.insns.items (λ insn. insn.now) c.in-Some.caller.at c.index-insn.result.now within c.index-insn.ensures in
    returned_call c.args.self.now (record c.args.self.now { memory = c.end_objects.new.memory; stack = c.truncate.new.self; here = c.in-Some.caller; callers = c.pop.new.self }) c.requires.sound callers c.truncate.ensures.items c.end_objects.ensures.value c.end_objects.ensures.tidy refl c.write.new.self i c.index-insn.result.now.now vs c.args.value c.destination_of-destination.result there c.destination_of-destination.ensures is c.in-Ok.ensures
