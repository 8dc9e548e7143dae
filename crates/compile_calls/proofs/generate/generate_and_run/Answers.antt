use Rattle.std.proofs.Common.{subst}
use Rattle.compile_calls.specs.Generate.{RunsTextOf}
use Rattle.compile_calls.proofs.generate.generate_and_run.Goals as goal

pub returns-in-Ok-clause-answer : goal.returns-in-Ok-clause-answer
returns-in-Ok-clause-answer g c =
    subst (λ text. RunsTextOf c.args.generation.now text c.compile_and_run.result (g.O.Sink.taken c.args.out.now) (g.O.Sink.taken c.compile_and_run.new.out))
    c.in-Ok.ensures.text c.compile_and_run.ensures.answer
