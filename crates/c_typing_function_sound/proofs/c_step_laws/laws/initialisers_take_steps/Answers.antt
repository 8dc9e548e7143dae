use Rattle.c_typing_function_sound.proofs.CStepLaws.Initialisers.{cells_steps, init_steps, unfit_steps}
use Rattle.c_typing_function_sound.proofs.c_step_laws.laws.initialisers_take_steps.Goals as goal

pub returns-clause-cells : goal.returns-clause-cells
returns-clause-cells c = cells_steps

pub returns-clause-parts : goal.returns-clause-parts
returns-clause-parts c = λ x s. (init_steps x s, λ kind. unfit_steps kind x s)
