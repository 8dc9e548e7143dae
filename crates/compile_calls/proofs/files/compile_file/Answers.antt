use Rattle.std.proofs.Common.{subst, Some}
use Rattle.call_outcomes.specs.FromFile.{IsCause}
use Rattle.compile_calls.specs.Built.{IsBuilt}
use Rattle.compile_calls.specs.Compile.{RefusesText}
use Rattle.compile_calls.proofs.Told.{built_told, cause_told}
use Rattle.compile_calls.proofs.files.compile_file.Goals as goal

pub returns-in-Ok-compile_text-clause-built : goal.returns-in-Ok-compile_text-clause-built
returns-in-Ok-compile_text-clause-built g c =
    built_told (g.F.Files.told c.args.files.now) c.args.name.now c.in-Ok.text.items _ _ c.in-Ok.ensures.text
    (subst (λ t. IsBuilt t c.args.options.now.allocator c.in-Ok-compile_text.built) c.as_slice.ensures.value c.in-Ok-compile_text.ensures.built)

pub returns-clause-cause : goal.returns-clause-cause
returns-clause-cause g c =
    cause_told (g.F.Files.told c.args.files.now) c.args.name.now c.in-Ok.text.items _ c.in-Ok.ensures.text
    (subst (λ t. IsCause (RefusesText (Some t)) c.in-Err-compile_text.outcome) c.as_slice.ensures.value c.in-Err-compile_text.ensures.cause)
