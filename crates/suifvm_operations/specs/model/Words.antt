-- The word of a value, where a register of numbers may be read.
use Rattle.std.specs.Prelude.{ℕ, Option, Some, None, if◌then◌else◌}
use Rattle.mem_model.specs.declared.value.Value.{Value}
use Rattle.mem_model.specs.declared.value.Value.TheVariants.{Word, Address, Unset}
use Rattle.bk_arithmetic.specs.declared.integer_type.IntegerType.{IntegerType}
use Rattle.bk_arithmetic.specs.Words.{is_word}

abbrev pub word_in : IntegerType → Value → Option ℕ
word_in t (Word n) = if is_word t n then Some n else None
word_in t (Address p) = None
word_in t Unset = None
