-- A call begins.
use Rattle.std.proofs.Common.{◌≡◌, ◌≤◌, ◌+◌, ◌^◌, ◌∷◌, [], ◌++◌, map, drop, length, Some, None, refl, rules}
use Rattle.std.specs.Prelude.{slice_get}
use Rattle.mem_model.specs.Memory.{begin_objects}
use Rattle.suifvm_meaning.specs.Behave.{registers_of}
use Rattle.suifvm_operations.specs.Tidy.{MemoryIsTidy}
use Rattle.suifvm_machine.proofs.Entries.{entered_call, no_function, no_block}
use Rattle.suifvm_machine.proofs.machine.Machine.enter.Goals as goal

pub returns-in_default : goal.returns-in_default
returns-in_default c i =
    let none : slice_get c.args.self.now.program.now.functions.items c.args.function ≡ None = search rules in
    no_function c.args.self.now c.args.self.now c.args.function _ i c.requires.sound none

pub returns-in_default-block_at : goal.returns-in_default-block_at
returns-in_default-block_at c i =
    let there : slice_get c.args.self.now.program.now.functions.items c.args.function ≡ Some c.in-Some.table.now = search rules in
    let none : slice_get c.in-Some.table.now.blocks.items 0 ≡ None = search rules in
    no_block c.args.self.now c.args.self.now c.args.function _ i c.requires.sound c.in-Some.table.now there none

pub returns-in-Ok : goal.returns-in-Ok
returns-in-Ok c i =
    let table : slice_get c.args.self.now.program.now.functions.items c.args.function ≡ Some c.in-Some.table.now = search rules in
    let row : slice_get c.in-Some.table.now.blocks.items 0 ≡ Some c.in-Some-block_at.row.now = search rules in
    let base : c.len-base.result ≡ length c.args.self.now.stack.items = search rules in
    let few : c.args.self.now.made + length c.in-Some.table.now.objects.now ≤ 2 ^ 63 = search rules in
    let tidy : MemoryIsTidy c.begin_call.new.memory = search rules in
    let memory : c.begin_call.new.memory ≡ begin_objects c.args.self.now.memory (map (λ o. o.size) c.in-Some.table.now.objects.now) = search rules in
    let stack : c.begin_call.new.stack.items ≡ c.args.self.now.stack.items ++ map (registers_of (drop c.args.self.now.here.base c.args.self.now.stack.items)) c.args.arguments.now = search rules in
    let callers : c.begin_call.new.callers.items ≡ c.args.self.now.callers.items ++ c.args.self.now.here ∷ [] = search rules in
    entered_call c.args.self.now _ c.args.function _ i c.requires.sound c.requires.within refl refl base table row refl few tidy memory stack callers
