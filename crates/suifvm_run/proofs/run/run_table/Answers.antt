-- A run that began, ended at once, or did not begin.
use Rattle.std.proofs.Common.{◌≡◌, Some, sym, subst, rules}
use Rattle.bk_io.specs.Outside.{Traffic, traffic_of}
use Rattle.bk_io.proofs.Inputs.{on_nothing, on_same}
use Rattle.suifvm_machine.specs.declared.machine.StartError.TheVariants as no_start
use Rattle.suifvm_machine.specs.Begin.{start_at, HasNoStart}
use Rattle.suifvm_run.specs.declared.ending.VmEnding.TheVariants as e
use Rattle.suifvm_run.specs.model.Progress.{run_from, LeadsOn, TableRunsOn}
use Rattle.suifvm_run.specs.model.Stops.{IsRun}
use Rattle.suifvm_run.proofs.Wholes.{began, ended_at_once, nothing_done}
use Rattle.suifvm_run.proofs.run.run_table.Goals as goal

pub returns-in-Ok-clause-run : goal.returns-in-Ok-clause-run
returns-in-Ok-clause-run g c =
    let told : Traffic = traffic_of g.I.Source.left g.I.Source.made g.O.Sink.taken c.args.input.now c.args.out.now in
    let after : Traffic = traffic_of g.I.Source.left g.I.Source.made g.O.Sink.taken c.run_machine.new.input c.run_machine.new.out in
    on_same told.left after.left
    (LeadsOn c.in-Ok.begun c.run_machine.new.machine c.args.turns told after (Some c.run_machine.result))
    (TableRunsOn c.args.table.now c.args.main c.args.memory c.args.turns c.run_machine.result told after)
    (λ input rest leads rooms. began c.args.table.now c.args.main c.args.turns c.args.memory rooms input told rest after c.in-Ok.begun c.run_machine.new.machine c.run_machine.result c.in-Ok.ensures.begins leads)
    c.run_machine.ensures.run

pub returns-in-Err-Over-clause-run : goal.returns-in-Err-Over-clause-run
returns-in-Err-Over-clause-run g c =
    let told : Traffic = traffic_of g.I.Source.left g.I.Source.made g.O.Sink.taken c.args.input.now c.args.out.now in
    let over : c.in-Err-Over.field-0 ≡ no_start.Over c.in-Err-Over.stop = search rules in
    on_nothing told.left (TableRunsOn c.args.table.now c.args.main c.args.memory c.args.turns c.ending_of.result told told)
    (λ rest may rooms. subst (λ e. IsRun (run_from rooms c.args.table.now (start_at rooms c.args.table.now c.args.main c.args.memory c.args.turns rest)) c.args.turns e rest told told) (sym c.ending_of.ensures)
    (ended_at_once c.args.table.now c.args.main c.args.turns c.args.memory rooms rest told c.in-Err-Over.stop (subst (λ t. HasNoStart c.args.table.now c.args.main c.args.memory c.args.turns t) over c.in-Err-Over.ensures.ends)))

pub returns-in-Err-NoMemory-clause-run : goal.returns-in-Err-NoMemory-clause-run
returns-in-Err-NoMemory-clause-run g c =
    let told : Traffic = traffic_of g.I.Source.left g.I.Source.made g.O.Sink.taken c.args.input.now c.args.out.now in
    let short : c.in-Err-NoMemory.field-0 ≡ no_start.NoMemory = search rules in
    on_nothing told.left (TableRunsOn c.args.table.now c.args.main c.args.memory c.args.turns e.NoMemory told told)
    (λ rest may rooms. nothing_done c.args.table.now c.args.main c.args.turns c.args.memory rooms rest told (subst (λ t. HasNoStart c.args.table.now c.args.main c.args.memory c.args.turns t) short c.in-Err-NoMemory.ensures.ends))
