-- A call whose arguments are not all set, and one of a function of the program.
use Rattle.std.proofs.Common.{◌≡◌, map, drop, true, false, rules}
use Rattle.std.specs.List.{list_all}
use Rattle.suifvm_meaning.specs.Behave.{registers_of}
use Rattle.suifvm_meaning.specs.Operations.{is_set}
use Rattle.suifvm_machine.proofs.Effects.{call_unset, call_function}
use Rattle.suifvm_machine.proofs.machine.Machine.call.Goals as goal

pub returns-then-not-are_set : goal.returns-then-not-are_set
returns-then-not-are_set c i writes =
    let unset : list_all is_set (map (registers_of (drop c.args.self.now.here.base c.args.self.now.stack.items)) c.args.arguments.now) ≡ false = search rules in
    call_unset c.args.self.now c.fail.result i c.args.callee (map (registers_of (drop c.args.self.now.here.base c.args.self.now.stack.items)) c.args.arguments.now) unset c.requires.sound c.fail.ensures

pub returns-in-Function : goal.returns-in-Function
returns-in-Function c i writes =
    let set : list_all is_set (map (registers_of (drop c.args.self.now.here.base c.args.self.now.stack.items)) c.args.arguments.now) ≡ true = search rules in
    call_function c.args.self.now c.enter.new.self c.enter.result i c.args.callee c.in-Function.function (map (registers_of (drop c.args.self.now.here.base c.args.self.now.stack.items)) c.args.arguments.now) c.in-Function.is set (c.enter.ensures i)
