-- After so many steps the machine stands where they lead.
use Rattle.std.proofs.Common.{◌≡◌, None}
use Rattle.bk_io.specs.Outside.{traffic_of, OnInput}
use Rattle.suifvm_machine.specs.Config.{IsSound, program_of}
use Rattle.suifvm_run.specs.model.Falls.{AreMarked, machine_left}
use Rattle.suifvm_run.specs.model.Progress.{LeadsOn}
use Rattle.suifvm_run.proofs.run.run_machine.Given as goal

abbrev pub invariant-loop-ending : goal.invariant-loop-ending
invariant-loop-ending g l = record {
  sound : IsSound l.machine;
  marked : AreMarked (program_of l.machine);
  program : l.machine.program.now ≡ l.fn.machine.program.now;
  run : OnInput (g.I.Source.left l.fn.input) (g.I.Source.left l.input) (LeadsOn l.fn.machine l.machine l.turns (traffic_of g.I.Source.left g.I.Source.made g.O.Sink.taken l.fn.input l.fn.out) (traffic_of g.I.Source.left g.I.Source.made g.O.Sink.taken l.input l.out) None);
  input_count : g.I.Source.faults l.input ≡ g.I.Source.faults l.fn.input;
  output_count : g.O.Sink.faults l.out ≡ g.O.Sink.faults l.fn.out;
}

abbrev pub decreases-loop-ending : goal.decreases-loop-ending
decreases-loop-ending g l = machine_left l.machine
