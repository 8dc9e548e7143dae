use Rattle.call_images.proofs.MigrateImages.{migrated_image}
use Rattle.call_images.proofs.laws.an_image_is_migrated.Goals as goal

pub returns : goal.returns
returns c = migrated_image
