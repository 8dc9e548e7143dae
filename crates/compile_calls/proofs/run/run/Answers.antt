use Rattle.std.proofs.Common.{refl}
use Rattle.bk_io.specs.Outside.{Traffic, traffic_of}
use Rattle.compile_calls.proofs.Made.{runs, runs_made}
use Rattle.compile_calls.proofs.Steps.{enough, refused}
use Rattle.call_outcomes.specs.FromFile.{file_bytes}
use Rattle.compile_calls.proofs.run.run.Goals as goal

pub returns-in-Ok-clause-answer : goal.returns-in-Ok-clause-answer
returns-in-Ok-clause-answer g c = runs _ _ _ _ _ _ _ c.in-Ok.ensures.image c.run_image.ensures.answer

pub returns-in-Ok-clause-made : goal.returns-in-Ok-clause-made
returns-in-Ok-clause-made g c = runs_made _ _ _ _ _ _ _ c.in-Ok.ensures.image c.run_image.ensures.answer

pub returns-in-Ok-clause-enough : goal.returns-in-Ok-clause-enough
returns-in-Ok-clause-enough g c =
    enough c.one_tree.ensures c.args.limits (file_bytes (g.F.Files.told c.args.files.now) c.args.name.now) c.run_image.result
    (record { left = g.I.Source.left c.args.input.now; made = g.I.Source.made c.args.input.now; taken = g.O.Sink.taken c.args.out.now })
    (record { left = g.I.Source.left c.run_image.new.input; made = g.I.Source.made c.run_image.new.input; taken = g.O.Sink.taken c.run_image.new.out })
    c.requires (returns-in-Ok-clause-answer g c)

pub returns-in-Err-clause-enough : goal.returns-in-Err-clause-enough
returns-in-Err-clause-enough g c =
    let told : Traffic = traffic_of g.I.Source.left g.I.Source.made g.O.Sink.taken c.args.input.now c.args.out.now in
    refused c.args.limits (file_bytes (g.F.Files.told c.args.files.now) c.args.name.now) c.in-Err.outcome told told c.in-Err.ensures.cause refl
