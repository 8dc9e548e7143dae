-- Some zeros were put behind the front.
use Rattle.std.proofs.Common.{◌≡◌, ◌≤◌, take, replicate, pos, Ok, refl, rules}
use Rattle.mem_model.specs.declared.value.Value.TheVariants.{Word}
use Rattle.mem_model.specs.Memory.{init_at}
use Rattle.suifvm_operations.proofs.Units.{zeros_adds}
use Rattle.suifvm_operations.proofs.start.put_zero_row.Goals as goal

pub returns-in-Ok-init : goal.returns-in-Ok-init
returns-in-Ok-init c =
    let at : c.in-Ok.offset ≡ pos c.args.at = search rules in
    let few : c.args.count ≤ 64 = search rules in
    let is : init_at c.args.memory.now (record { object = c.args.object; offset = c.in-Ok.offset }) (take c.args.count (replicate 64 (Word 0))) ≡ Ok c.init.new.self = search rules in
    zeros_adds c.args.memory.now c.init.new.self c.args.object c.args.at c.args.count 64 c.in-Ok.offset (take c.args.count (replicate 64 (Word 0))) at few refl is c.requires.tidy
