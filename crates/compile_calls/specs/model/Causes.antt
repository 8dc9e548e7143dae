-- The outcomes of refusals below.
use Rattle.std.specs.Prelude.{◌≢◌}
use Rattle.call_outcomes.specs.declared.outcome.Outcome.{Outcome}
use Rattle.call_outcomes.specs.declared.outcome.Outcome.TheVariants as outcome
use Rattle.compiler.specs.CompileFault.{CompileFault}
use Rattle.compiler.specs.CompileFault.TheVariants.{Source, Limit, NoMemory}

-- the outcome where nothing is compiled of a text
abbrev pub outcome_of_compile_fault : CompileFault → Outcome
outcome_of_compile_fault (Source source) = outcome.Refused source
outcome_of_compile_fault (Limit which counted) = outcome.Limit which counted
outcome_of_compile_fault NoMemory = outcome.NoMemory

-- an outcome that is no fault of the outside
abbrev pub IsNoFault : Outcome → Type 0
IsNoFault o = (o ≢ outcome.FileFault) × (o ≢ outcome.InputFault) × (o ≢ outcome.WriteFault)
