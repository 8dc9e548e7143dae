-- A run begins, or is over at once.
use Rattle.std.proofs.Common.{◌≡◌, ◌≤◌, ◌+◌, ◌^◌, [], map, length, Some, None, refl, rules}
use Rattle.std.specs.Prelude.{slice_get}
use Rattle.mem_model.specs.Memory.{begin_objects}
use Rattle.suifvm_operations.specs.Tidy.{MemoryIsTidy}
use Rattle.suifvm_machine.proofs.Begins.{begins, no_function_at_once, no_block_at_once}
use Rattle.suifvm_machine.proofs.beginning.begin.Goals as goal

pub returns-in_default-clause-ends : goal.returns-in_default-clause-ends
returns-in_default-clause-ends c =
    let none : slice_get c.args.program.now.functions.items c.args.main ≡ None = search rules in
    no_function_at_once c.args.program.now c.args.main c.args.turns c.args.memory c.requires.numbers none

pub returns-in_default-block_at-clause-ends : goal.returns-in_default-block_at-clause-ends
returns-in_default-block_at-clause-ends c =
    let there : slice_get c.args.program.now.functions.items c.args.main ≡ Some c.in-Some.table.now = search rules in
    let none : slice_get c.in-Some.table.now.blocks.items 0 ≡ None = search rules in
    no_block_at_once c.args.program.now c.args.main c.args.turns c.args.memory c.requires.numbers c.in-Some.table.now there none

pub returns-clause-begins : goal.returns-clause-begins
returns-clause-begins c =
    let table : slice_get c.args.program.now.functions.items c.args.main ≡ Some c.in-Some.table.now = search rules in
    let row : slice_get c.in-Some.table.now.blocks.items 0 ≡ Some c.in-Some-block_at.row.now = search rules in
    let few : c.args.made + length c.in-Some.table.now.objects.now ≤ 2 ^ 63 = search rules in
    let tidy : MemoryIsTidy c.begin_locals.new.memory = search rules in
    let memory : c.begin_locals.new.memory ≡ begin_objects c.args.memory (map (λ o. o.size) c.in-Some.table.now.objects.now) = search rules in
    let stack : c.new.result.items ≡ [] = search rules in
    let callers : c.new-2.result.items ≡ [] = search rules in
    begins (record {
      program = c.args.program;
      memory = c.begin_locals.new.memory;
      made = c.args.made + length c.in-Some.table.now.objects.now;
      stack = c.new.result;
      here = record { function = c.args.main; block = 0; at = 0; own = c.args.made; base = 0; table = c.in-Some.table; row = c.in-Some-block_at.row };
      callers = c.new-2.result;
      turns = c.args.turns;
    }) c.args.main c.args.turns c.args.memory c.args.made c.requires.numbers table row refl c.requires.made refl few tidy memory stack callers refl
