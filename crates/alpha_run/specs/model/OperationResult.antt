-- What the code's answers stand for in the definition of a step.
use Rattle.std.specs.Prelude.{ℤ, Option, Some, None}
use Rattle.alpha_isa.specs.Arithmetic.{OperationEffect, word_from}
use Rattle.alpha_isa.specs.Arithmetic as arithmetic
use Rattle.alpha_run.specs.declared.arithmetic.OperationResult.{OperationResult}
use Rattle.alpha_run.specs.declared.arithmetic.OperationResult.TheVariants.{Gives, Keeps, Overflows}

-- what an operation does with its destination
abbrev pub operated_by : OperationResult → OperationEffect
operated_by (Gives word) = arithmetic.Gives word
operated_by Keeps = arithmetic.Keeps
operated_by Overflows = arithmetic.Overflows

-- a signed result, or none where it does not fit
abbrev pub gives_checked : Option ℤ → OperationEffect
gives_checked (Some z) = arithmetic.Gives (word_from z)
gives_checked None = arithmetic.Overflows
