use Rattle.compiler.proofs.Stages.{can_be_assembled}
use Rattle.compiler.proofs.laws.code_can_be_assembled.Goals as goal

pub returns : goal.returns
returns c =
    can_be_assembled c.temp_functions_fit.ensures c.temp_functions_have_names.ensures
    c.functions_have_frames.ensures c.allocations_fit.ensures c.labels_are_few.ensures
