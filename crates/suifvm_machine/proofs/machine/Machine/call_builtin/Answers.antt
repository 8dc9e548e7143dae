-- A built-in function is called.
use Rattle.std.proofs.Common.{◌≡◌, map, drop, rules}
use Rattle.suifvm_meaning.specs.Behave.{registers_of}
use Rattle.suifvm_meaning.specs.Effect.{first_source}
use Rattle.suifvm_machine.proofs.Effects.{builtin_abort, builtin_exit}
use Rattle.suifvm_machine.proofs.machine.Machine.call_builtin.Goals as goal

pub returns-in-Abort : goal.returns-in-Abort
returns-in-Abort c i writes = builtin_abort c.args.self.now i c.args.builtin _ c.in-Abort.is

pub returns-in-Exit : goal.returns-in-Exit
returns-in-Exit c i writes =
    let value : c.first-value.result ≡ first_source (map (registers_of (drop c.args.self.now.here.base c.args.self.now.stack.items)) c.args.arguments.now) = search rules in
    builtin_exit c.args.self.now c.args.self.now c.exit.result i c.args.builtin (map (registers_of (drop c.args.self.now.here.base c.args.self.now.stack.items)) c.args.arguments.now) c.first-value.result c.in-Exit.is value (c.exit.ensures i)
