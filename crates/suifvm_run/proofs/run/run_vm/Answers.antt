-- The run of a program is the run of its tables, or did not begin.
use Rattle.std.proofs.Common.{ap, ◌∙◌}
use Rattle.bk_io.specs.Outside.{Traffic, traffic_of}
use Rattle.bk_io.proofs.Inputs.{on_nothing, on_same}
use Rattle.mem_objects.specs.Start.{start_memory}
use Rattle.suifvm_machine.specs.Tables.{program_code}
use Rattle.suifvm_run.specs.declared.ending.VmEnding.TheVariants as e
use Rattle.suifvm_run.specs.Run.{VmBehavesOn}
use Rattle.suifvm_run.specs.model.Progress.{TableRunsOn}
use Rattle.suifvm_run.proofs.Ends.{table_marked}
use Rattle.suifvm_run.proofs.Wholes.{whole, not_begun}
use Rattle.suifvm_run.proofs.run.run_vm.Goals as goal

pub returns-in-Err-clause-run : goal.returns-in-Err-clause-run
returns-in-Err-clause-run g c =
    let told : Traffic = traffic_of g.I.Source.left g.I.Source.made g.O.Sink.taken c.args.input.now c.args.out.now in
    on_nothing told.left (VmBehavesOn c.args.program.now c.args.turns e.NoMemory told told) (λ rest may rooms. not_begun c.args.program.now rooms rest c.args.turns told c.memory_is_short.ensures)

pub returns-in-Err-start_memory-clause-run : goal.returns-in-Err-start_memory-clause-run
returns-in-Err-start_memory-clause-run g c =
    let told : Traffic = traffic_of g.I.Source.left g.I.Source.made g.O.Sink.taken c.args.input.now c.args.out.now in
    on_nothing told.left (VmBehavesOn c.args.program.now c.args.turns e.NoMemory told told) (λ rest may rooms. not_begun c.args.program.now rooms rest c.args.turns told c.memory_is_short-in-Err-start_memory.ensures)

pub run_table-requires-clause-marked : goal.run_table-requires-clause-marked
run_table-requires-clause-marked g c = table_marked (program_code c.in-Ok.table) c.args.program.now c.in-Ok.ensures.code

pub returns-clause-run : goal.returns-clause-run
returns-clause-run g c =
    let told : Traffic = traffic_of g.I.Source.left g.I.Source.made g.O.Sink.taken c.args.input.now c.args.out.now in
    let after : Traffic = traffic_of g.I.Source.left g.I.Source.made g.O.Sink.taken c.run_table.new.input c.run_table.new.out in
    on_same told.left after.left
    (TableRunsOn c.in-Ok.table c.main_number-main.result c.in-Ok-start_memory.memory c.args.turns c.run_table.result told after)
    (VmBehavesOn c.args.program.now c.args.turns c.run_table.result told after)
    (whole c.in-Ok.table c.args.program.now c.main_number-main.result c.in-Ok-start_memory.memory c.args.turns c.run_table.result told after
    c.in-Ok.ensures.code (c.in-Ok-start_memory.ensures.memory ∙ ap start_memory c.as_slice.ensures) c.main_number-main.ensures)
    c.run_table.ensures.run
