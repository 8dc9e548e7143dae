-- Eight parts of an address are the address.
use Rattle.std.proofs.Common.{◌≡◌, pos, rules}
use Rattle.mem_model.specs.Cells.{parts_of}
use Rattle.suifvm_operations.specs.model.Fills.{Adds}
use Rattle.suifvm_operations.specs.model.Units.{HasParts}
use Rattle.suifvm_operations.proofs.Units.{address_unit_adds}
use Rattle.suifvm_operations.proofs.start.put_whole.Goals as goal

pub returns-clause-adds : goal.returns-clause-adds
returns-clause-adds c =
    let whole : HasParts c.args.cells.now c.args.global c.args.plus 8 = search rules in
    let is : c.in-Ok.offset ≡ pos c.args.plus = search rules in
    let put : Adds c.args.memory.now c.put_address.new.memory c.args.object c.args.at (parts_of (record { object = c.args.global; offset = c.in-Ok.offset })) = search rules in
    address_unit_adds c.args.memory.now c.put_address.new.memory c.args.object c.args.at c.args.cells.now c.args.global c.args.plus c.in-Ok.offset whole is put
