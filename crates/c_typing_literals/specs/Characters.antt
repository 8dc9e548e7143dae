-- Character constants (C99 6.4.4.4).
use Rattle.std.specs.Prelude.{ℕ, nat_lt, if◌then◌else◌, List, [], ◌∷◌, length, Option, Some, None}
use Rattle.bk_arithmetic.specs.declared.integer_type.IntegerType.TheVariants.{Char, Int}
use Rattle.bk_arithmetic.specs.Operations.{conversion}
use Rattle.c_lexer.specs.Limits.{text_limit}
use Rattle.c_lexer.specs.Literals.{item_at}
use Rattle.c_lexer.specs.declared.literals.Item.{Item}

-- the value of a byte as a signed `char`, as an `int`
abbrev pub value_of_item : Option Item → Option ℕ
value_of_item None = None
value_of_item (Some i) = Some (conversion Char Int i.value)

abbrev pub behind_quote : List ℕ → Option ℕ
behind_quote [] = None
behind_quote (q ∷ s) = value_of_item (item_at 39 s)

-- what a character constant stands for: a word of the type `int`. A spelling that is longer than any text is none
abbrev pub character : List ℕ → Option ℕ
character s = if nat_lt text_limit (length s) then None else behind_quote s
