-- A block that is there begins, and one that is not has no instruction.
use Rattle.std.proofs.Common.{◌≡◌, Some, None, refl, rules}
use Rattle.std.specs.Prelude.{slice_get}
use Rattle.suifvm_machine.proofs.Turns.{to_block, past_blocks}
use Rattle.suifvm_machine.proofs.machine.Machine.go_to.Goals as goal

pub returns-in-None : goal.returns-in-None
returns-in-None c =
    let none : slice_get c.args.self.now.here.table.now.blocks.items c.args.block ≡ None = search rules in
    past_blocks c.args.self.now c.args.self.now c.args.block c.requires none

pub returns-in-Some : goal.returns-in-Some
returns-in-Some c =
    let there : slice_get c.args.self.now.here.table.now.blocks.items c.args.block ≡ Some c.in-Some.row.now = search rules in
    to_block c.args.self.now _ c.args.block c.requires there refl
