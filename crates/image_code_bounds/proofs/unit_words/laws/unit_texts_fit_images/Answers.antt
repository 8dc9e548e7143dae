use Rattle.image_code_bounds.proofs.UnitWords.Light as light
use Rattle.image_code_bounds.proofs.unit_words.laws.unit_texts_fit_images.Goals as goal

pub returns : goal.returns
returns c =
    let are_light = light.allocations_are_light c.allocations_stand_by_number.ensures c.allocations_are_near.ensures in record {
      light = are_light;
      weight = light.unit_texts_are_within_weight are_light c.texts_are_within_weight.ensures;
      images = light.unit_texts_fit_images are_light c.light_texts_fit_images.ensures.texts;
    }
