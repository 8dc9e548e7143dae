-- Names, constants and string literals (C99 6.4.4, 6.4.5, 6.5.1).
use Rattle.std.specs.Prelude.{ℕ, List, Option, Some, None, Ok}
use Rattle.bk_arithmetic.specs.declared.integer_type.IntegerType.TheVariants as i
use Rattle.c_typing_literals.specs.declared.integers.IntegerLiteral.{IntegerLiteral}
use Rattle.c_typing_literals.specs.Integers.{integer_literal}
use Rattle.c_typing_literals.specs.Characters.{character}
use Rattle.c_typed_tree.specs.declared.types.CType as t
use Rattle.c_typed_tree.specs.declared.expressions.TExpr as x
use Rattle.c_typing_faults.specs.declared.faults.Kind.TheVariants.{BadLiteral}
use Rattle.c_typing_rules.specs.declared.typed.LvalueKind.TheVariants as p
use Rattle.c_typing_rules.specs.declared.typed.TypedExpression.{TypedExpression}
use Rattle.c_typing_rules.specs.Rulings.{Ruling, fault}
use Rattle.c_typing_rules.specs.Values.{type_of_integer}
use Rattle.c_typing_place_rules.specs.Members.{number_rvalue}

-- ---- constants: numbers of the type that their spelling gives

abbrev pub literal_value : ℕ → Option IntegerLiteral → Ruling TypedExpression
literal_value at None = fault at BadLiteral
literal_value at (Some l) = Ok (number_rvalue at l.ty l.word)

abbrev pub integer_constant : ℕ → (spelling : List ℕ) → Ruling TypedExpression
integer_constant at spelling = literal_value at (integer_literal spelling)

abbrev pub character_value : ℕ → Option ℕ → Ruling TypedExpression
character_value at None = fault at BadLiteral
character_value at (Some word) = Ok (number_rvalue at i.Int word)

abbrev pub character_constant : ℕ → (spelling : List ℕ) → Ruling TypedExpression
character_constant at spelling = character_value at (character spelling)

-- an enumeration constant is an `int` (6.7.2.2)
abbrev pub enumeration_constant : ℕ → (word : ℕ) → TypedExpression
enumeration_constant at word = number_rvalue at i.Int word

-- ---- names of objects, and string literals

abbrev pub local : ℕ → (number : ℕ) → t.CType → TypedExpression
local at number ty = record { at = at; tree = x.Local ty number; ty = ty; place = p.Local number }

-- an object of static storage
abbrev pub static_object : ℕ → (number : ℕ) → t.CType → TypedExpression
static_object at number ty = record { at = at; tree = x.Global ty number; ty = ty; place = p.Global number }

-- a string literal is an array of `char`, with the zero at its end (6.4.5)
abbrev pub text_type : (length : ℕ) → t.CType
text_type length = t.Array (type_of_integer i.Char) length

abbrev pub text : ℕ → (number length : ℕ) → TypedExpression
text at number length = static_object at number (text_type length)
