-- The endings of a run, and those of the definition.
use Rattle.alpha_isa.specs.Step as step
use Rattle.alpha_run.specs.declared.ending.Ending.{Ending}
use Rattle.alpha_run.specs.declared.ending.Ending.TheVariants as ending
use Rattle.alpha_run.specs.declared.ending.Halt.{Halt}
use Rattle.alpha_run.specs.declared.ending.Halt.TheVariants as halt

-- what the code keeps of an end
abbrev pub halt_is : Halt → step.Halt
halt_is (halt.Done status) = step.Done status
halt_is (halt.Trap code) = step.Trap code
halt_is (halt.Stuck pc) = step.Stuck pc

-- the answer of a run that came to its end
abbrev pub halt_ending : step.Halt → Ending
halt_ending (step.Done status) = ending.Done status
halt_ending (step.Trap code) = ending.Trap code
halt_ending (step.Stuck pc) = ending.Stuck pc
