-- The outcomes of refusals below.
use Rattle.bk_io.specs.declared.outside.FileFault.{FileFault as Fault}
use Rattle.bk_io.specs.declared.outside.FileFault.TheVariants as file
use Rattle.call_outcomes.specs.declared.outcome.Outcome.{Outcome}
use Rattle.call_outcomes.specs.declared.outcome.Outcome.TheVariants.{FileFault, NoMemory}

-- the outcome where a file is not read
abbrev pub outcome_of_file_fault : Fault → Outcome
outcome_of_file_fault file.Failed = FileFault
outcome_of_file_fault file.NoMemory = NoMemory
