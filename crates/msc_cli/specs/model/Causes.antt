-- The outcomes of refusals below.
use Rattle.alpha_text.specs.declared.fault.TextFault.{TextFault}
use Rattle.alpha_text.specs.declared.fault.TextFault.TheVariants as lines
use Rattle.call_outcomes.specs.declared.outcome.Outcome.{Outcome}
use Rattle.call_outcomes.specs.declared.outcome.Outcome.TheVariants.{Limit, BadAsm, NoMemory}
use Rattle.call_outcomes.specs.declared.outcome.Which.TheVariants.{Data}

-- the outcome where a text is not read as an assembly
abbrev pub outcome_of_text_fault : TextFault → Outcome
outcome_of_text_fault (lines.Line n) = BadAsm n
outcome_of_text_fault (lines.Data counted) = Limit Data counted
outcome_of_text_fault lines.NoMemory = NoMemory
