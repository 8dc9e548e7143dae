-- An address was put behind the front.
use Rattle.std.proofs.Common.{◌≡◌, pos, Ok, rules, refl}
use Rattle.mem_model.specs.declared.value.Value.TheVariants.{Address}
use Rattle.mem_model.specs.Memory.{store_at, IsWidth}
use Rattle.suifvm_operations.proofs.Units.{address_adds}
use Rattle.suifvm_operations.proofs.start.put_address.Goals as goal

pub returns-in-Ok-store : goal.returns-in-Ok-store
returns-in-Ok-store c =
    let at : c.in-Ok.offset ≡ pos c.args.at = search rules in
    let wide : IsWidth 8 = search rules in
    let is : store_at c.args.memory.now (record { object = c.args.object; offset = c.in-Ok.offset }) 8 (Address c.args.to) ≡ Ok c.store.new.self = search rules in
    address_adds c.args.memory.now c.store.new.self c.args.object c.args.at c.in-Ok.offset c.args.to at wide refl is c.requires
