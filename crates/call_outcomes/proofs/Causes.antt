-- Why a file is not read.
use Rattle.std.proofs.Common.{inl}
use Rattle.bk_io.specs.Shelf.{HasCause as HasFileCause}
use Rattle.bk_io.specs.declared.outside.FileFault.{FileFault as Fault}
use Rattle.bk_io.specs.declared.outside.FileFault.TheVariants as file
use Rattle.call_outcomes.specs.FromFile.{IsCause}
use Rattle.call_outcomes.specs.model.Causes.{outcome_of_file_fault}

pub file_cause : (f : Fault) → HasFileCause f → IsCause (λ _. ⊥) (outcome_of_file_fault f)
file_cause file.Failed cause = tt
file_cause file.NoMemory cause = inl cause
