-- A byte was put behind the front.
use Rattle.std.proofs.Common.{◌≡◌, ◌∷◌, [], pos, Ok, rules}
use Rattle.mem_model.specs.declared.value.Value.TheVariants.{Word}
use Rattle.mem_model.specs.Memory.{init_at}
use Rattle.suifvm_operations.proofs.Units.{row_adds}
use Rattle.suifvm_operations.proofs.start.put_byte.Goals as goal

pub returns-in-Ok-init : goal.returns-in-Ok-init
returns-in-Ok-init c =
    let at : c.in-Ok.offset ≡ pos c.args.at = search rules in
    let is : init_at c.args.memory.now (record { object = c.args.object; offset = c.in-Ok.offset }) (Word c.args.byte ∷ []) ≡ Ok c.init.new.self = search rules in
    row_adds c.args.memory.now c.init.new.self c.args.object c.args.at c.in-Ok.offset (Word c.args.byte ∷ []) at is c.requires
