use Rattle.std.proofs.Common.{subst, sym}
use Rattle.alpha_isa.specs.ImageFormat.{IsImage}
use Rattle.alpha_image.specs.ReadImage.{IsImageFault}
use Rattle.call_outcomes.specs.FromFile.{IsCause, file_bytes}
use Rattle.call_images.specs.RunImage.{RefusesBytes}
use Rattle.call_images.proofs.ImageFronts.{image_told, bytes_cause}
use Rattle.call_images.proofs.files.image_in_file.Goals as goal

pub returns-in-Ok-read_image-clause-image : goal.returns-in-Ok-read_image-clause-image
returns-in-Ok-read_image-clause-image g c =
    image_told (g.F.Files.told c.args.files.now) c.args.name.now c.in-Ok.bytes.items _ c.in-Ok.ensures.text
    (subst (λ b. IsImage b c.in-Ok-read_image.image) c.as_slice.ensures.value c.in-Ok-read_image.ensures.found)

pub returns-clause-cause : goal.returns-clause-cause
returns-clause-cause g c =
    subst (IsCause (RefusesBytes (file_bytes (g.F.Files.told c.args.files.now) c.args.name.now))) (sym c.outcome_of_image_fault.ensures)
    (bytes_cause (g.F.Files.told c.args.files.now) c.args.name.now c.in-Ok.bytes.items c.in-Err-read_image.fault c.in-Ok.ensures.text
    (subst (IsImageFault c.in-Err-read_image.fault) c.as_slice.ensures.value c.in-Err-read_image.ensures.bad))
