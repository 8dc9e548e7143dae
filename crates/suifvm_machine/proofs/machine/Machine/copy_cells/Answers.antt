-- A copy that was not done.
use Rattle.std.proofs.Common.{◌≡◌, drop, None, refl, rules}
use Rattle.suifvm_ir.specs.Programs.{alignment_bytes}
use Rattle.suifvm_meaning.specs.Behave.{registers_of}
use Rattle.suifvm_meaning.specs.Operations.{copied_memory}
use Rattle.suifvm_machine.proofs.Turns.{unchanged_turn}
use Rattle.suifvm_machine.proofs.machine.Machine.copy_cells.Goals as goal

pub returns-else-copy : goal.returns-else-copy
returns-else-copy c i writes =
    let none : copied_memory c.args.self.now.memory (registers_of (drop c.args.self.now.here.base c.args.self.now.stack.items) c.args.to) (registers_of (drop c.args.self.now.here.base c.args.self.now.stack.items) c.args.from) c.args.size (alignment_bytes c.args.align) ≡ None = search rules in
    let kept : c.copy.new.memory ≡ c.args.self.now.memory = search rules in
    unchanged_turn c.args.self.now _ c.fail.result i _ c.requires.sound refl kept none c.fail.ensures
