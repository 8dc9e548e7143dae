use Rattle.std.proofs.Common.{subst, Some}
use Rattle.msc_cli.specs.AssembleText.{Assembles}
use Rattle.msc_cli.proofs.AssembleTexts.{assembles_told}
use Rattle.msc_cli.proofs.assemble.assemble.Goals as goal

pub returns-in-Ok-clause-answer : goal.returns-in-Ok-clause-answer
returns-in-Ok-clause-answer g c =
    assembles_told (g.F.Files.told c.args.files.now) c.args.name.now c.in-Ok.text.items _ _ _ c.in-Ok.ensures.text
    (subst (λ t. Assembles (Some t) c.assemble_text.result (g.O.Sink.taken c.args.out.now) (g.O.Sink.taken c.assemble_text.new.out)) c.as_slice.ensures.value c.assemble_text.ensures.answer)
