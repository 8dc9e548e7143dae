-- A register is written.
use Rattle.std.proofs.Common.{◌≡◌, ◌+◌, rules}
use Rattle.suifvm_machine.proofs.Windows.{set_window_at}
use Rattle.suifvm_machine.proofs.machine.set_register_in.Goals as goal

pub returns-clause-window : goal.returns-clause-window
returns-clause-window c =
    let place : c.in-Some.place ≡ c.args.base + c.args.register = search rules in
    set_window_at c.args.stack.now.items c.grow.new.stack.items c.args.base c.args.register c.in-Some.place c.args.value c.requires c.in_ok-grow.ensures.grows c.in_ok-grow.ensures.there place
