use Rattle.compile_calls.proofs.Told.{cause_told}
use Rattle.compile_calls.proofs.Made.{image_told}
use Rattle.compile_calls.proofs.images.image_of_file.Goals as goal

pub returns-in-Ok-image_of_text-clause-image : goal.returns-in-Ok-image_of_text-clause-image
returns-in-Ok-image_of_text-clause-image g c =
    image_told (g.F.Files.told c.args.files.now) c.args.name.now c.in-Ok.text.items _ _ c.in-Ok.ensures.text
    c.in-Ok-image_of_text.ensures.image

pub returns-in-Err-image_of_text-clause-cause : goal.returns-in-Err-image_of_text-clause-cause
returns-in-Err-image_of_text-clause-cause g c =
    cause_told (g.F.Files.told c.args.files.now) c.args.name.now c.in-Ok.text.items _ c.in-Ok.ensures.text
    c.in-Err-image_of_text.ensures.cause
