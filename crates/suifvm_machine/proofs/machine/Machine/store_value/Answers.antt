-- A store that was not done.
use Rattle.std.proofs.Common.{◌≡◌, drop, None, refl, rules}
use Rattle.suifvm_meaning.specs.Behave.{registers_of}
use Rattle.suifvm_meaning.specs.Operations.{stored_memory}
use Rattle.suifvm_machine.proofs.Turns.{unchanged_turn}
use Rattle.suifvm_machine.proofs.machine.Machine.store_value.Goals as goal

pub returns-else-store : goal.returns-else-store
returns-else-store c i writes =
    let none : stored_memory c.args.self.now.memory c.args.ty (registers_of (drop c.args.self.now.here.base c.args.self.now.stack.items) c.args.pointer) c.args.plus (registers_of (drop c.args.self.now.here.base c.args.self.now.stack.items) c.args.value) ≡ None = search rules in
    let kept : c.store.new.memory ≡ c.args.self.now.memory = search rules in
    unchanged_turn c.args.self.now _ c.fail.result i _ c.requires.sound refl kept none c.fail.ensures
