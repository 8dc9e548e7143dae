use Rattle.compiler.proofs.Stages.{assemblies_are_made}
use Rattle.compiler.proofs.laws.assemblies_are_made.Goals as goal

pub returns : goal.returns
returns c =
    assemblies_are_made c.passes_keep_selections.ensures
    c.temp_functions_fit.ensures c.functions_have_frames.ensures c.frames_fit_their_rooms.ensures
    c.allocations_fit.ensures c.allocations_are_near.ensures c.assemblies_are_exact.ensures
    c.programs_are_allocated.ensures c.unit_texts_fit_images.ensures.weight c.unit_texts_fit_images.ensures.images
