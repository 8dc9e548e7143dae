use Rattle.std.proofs.Common.{refl, sym, subst, Some}
use Rattle.bk_io.specs.Outside.{traffic_of}
use Rattle.call_words.specs.Request.{OnFile}
use Rattle.msc_cli.specs.Call.{AnswersByMeaning, AnswersCall}
use Rattle.msc_cli.proofs.top.answer_command.Goals as goal

pub returns-in-Run-clause-meaning : goal.returns-in-Run-clause-meaning
returns-in-Run-clause-meaning g c =
    subst
    (λ k. AnswersByMeaning (Some (OnFile k c.args.file.now)) (g.F.Files.told c.args.files.now) c.run.result
    (traffic_of g.I.Source.left g.I.Source.made g.O.Sink.taken c.args.input.now c.args.out.now)
    (traffic_of g.I.Source.left g.I.Source.made g.O.Sink.taken c.run.new.input c.run.new.out))
    (sym c.in-Run.is) (c.run.ensures.answer, c.run.ensures.enough)

pub returns-in-Run-clause-answer : goal.returns-in-Run-clause-answer
returns-in-Run-clause-answer g c =
    subst
    (λ k. AnswersCall (Some (OnFile k c.args.file.now)) (g.F.Files.told c.args.files.now) c.run.result
    (traffic_of g.I.Source.left g.I.Source.made g.O.Sink.taken c.args.input.now c.args.out.now)
    (traffic_of g.I.Source.left g.I.Source.made g.O.Sink.taken c.run.new.input c.run.new.out))
    (sym c.in-Run.is) c.run.ensures.made

pub returns-in-Print-clause-answer : goal.returns-in-Print-clause-answer
returns-in-Print-clause-answer g c =
    subst
    (λ k. AnswersCall (Some (OnFile k c.args.file.now)) (g.F.Files.told c.args.files.now) c.print.result
    (traffic_of g.I.Source.left g.I.Source.made g.O.Sink.taken c.args.input.now c.args.out.now)
    (traffic_of g.I.Source.left g.I.Source.made g.O.Sink.taken c.args.input.now c.print.new.out))
    (sym c.in-Print.is) (c.print.ensures.answer, (refl, refl))
