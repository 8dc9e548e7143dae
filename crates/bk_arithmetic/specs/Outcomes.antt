-- What is said of the word of an outcome.
use Rattle.std.specs.Prelude.{◌≡◌, true}
use Rattle.bk_arithmetic.specs.declared.integer_type.IntegerType.{IntegerType}
use Rattle.bk_arithmetic.specs.declared.outcome.ArithmeticOutcome.{ArithmeticOutcome}
use Rattle.bk_arithmetic.specs.declared.outcome.ArithmeticOutcome.TheVariants.{Word, Trap, Undefined}
use Rattle.bk_arithmetic.specs.Words.{is_word}

-- where there is a value, its word is as the type holds it
abbrev pub IsWordOf : IntegerType → ArithmeticOutcome → Type 0
IsWordOf t (Word n) = is_word t n ≡ true
IsWordOf t (Trap code) = Unit {0}
IsWordOf t Undefined = Unit {0}
