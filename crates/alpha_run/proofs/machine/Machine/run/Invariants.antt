-- After so many turns the machine stands where a run of so many steps stops.
use Rattle.std.proofs.Common.{◌≡◌, None}
use Rattle.alpha_isa.specs.Program.{Program}
use Rattle.bk_io.specs.Outside.{traffic_of, OnInput}
use Rattle.alpha_run.specs.declared.ending.Ending.TheVariants.{Budget}
use Rattle.alpha_run.specs.Snapshot.{IsMachineOf}
use Rattle.alpha_run.specs.Run.{RunsOn}
use Rattle.alpha_run.proofs.machine.Machine.run.Given as goal

abbrev pub invariant-loop-done : goal.invariant-loop-done
invariant-loop-done g l = record {
  run : OnInput (g.I.Source.left l.fn.input) (g.I.Source.left l.input) (RunsOn l._done Budget l.fn.self l.self (traffic_of g.I.Source.left g.I.Source.made g.O.Sink.taken l.fn.input l.fn.out) (traffic_of g.I.Source.left g.I.Source.made g.O.Sink.taken l.input l.out));
  running : l.self.halt ≡ None;
  program : (p : Program) → IsMachineOf p l.fn.self → IsMachineOf p l.self;
  input_count : g.I.Source.faults l.input ≡ g.I.Source.faults l.fn.input;
  output_count : g.O.Sink.faults l.out ≡ g.O.Sink.faults l.fn.out;
}
