-- The values of integer constants where they are wanted (C99 6.6).
use Rattle.std.specs.Prelude.{ℕ, Bool, ◌&&◌, if◌then◌else◌, Option, Some, None, Ok}
use Rattle.std.specs.Bool.{beq}
use Rattle.bk_arithmetic.specs.declared.integer_type.IntegerType.{IntegerType}
use Rattle.bk_arithmetic.specs.declared.integer_type.IntegerType.TheVariants as i
use Rattle.bk_arithmetic.specs.declared.outcome.ArithmeticOutcome.{ArithmeticOutcome}
use Rattle.bk_arithmetic.specs.declared.outcome.ArithmeticOutcome.TheVariants as o
use Rattle.bk_arithmetic.specs.Operations.{conversion, sum, is_less, is_equal}
use Rattle.c_typed_tree.specs.View.{expr_view}
use Rattle.c_typed_tree.specs.Constants.{constant}
use Rattle.c_typing_faults.specs.declared.faults.Kind.TheVariants.{NotConstant}
use Rattle.c_typing_rules.specs.declared.typed.TypedExpression.{TypedExpression}
use Rattle.c_typing_rules.specs.Rulings.{Ruling, fault}
use Rattle.c_typing_rules.specs.Values.{integer}

-- the value of an integer constant, with its type
abbrev pub constant_of : TypedExpression → Option ℕ
constant_of a = constant (expr_view a.tree)

-- ---- the length of an array (6.7.5.2), of which none below 1 is one; so one below 0 counts as 0

abbrev pub natural : IntegerType → (word : ℕ) → ℕ
natural t word = if is_less t word 0 then 0 else conversion t i.UnsignedLong word

abbrev pub length_of : ℕ → Option IntegerType → Option ℕ → Ruling ℕ
length_of at None word = fault at NotConstant
length_of at (Some t) None = fault at NotConstant
length_of at (Some t) (Some word) = Ok (natural t word)

abbrev pub length_value : TypedExpression → Ruling ℕ
length_value a = length_of a.at (integer a) (constant_of a)

-- ---- the value of an enumeration constant (6.7.2.2), which `int` has

-- a type has a number of another one too: converted to the type and back it is the same, and so is its sign
abbrev pub has_same_sign : (from to : IntegerType) → (word : ℕ) → Bool
has_same_sign s t word = beq (is_less s word 0) (is_less t (conversion s t word) 0)

abbrev pub is_kept : (from to : IntegerType) → (word : ℕ) → Bool
is_kept s t word = is_equal s (conversion t s (conversion s t word)) word && has_same_sign s t word

abbrev pub enumeration_value : ℕ → IntegerType → (word : ℕ) → Ruling ℕ
enumeration_value at t word = if is_kept t i.Int word then Ok (conversion t i.Int word) else fault at NotConstant

abbrev pub given_of : ℕ → Option IntegerType → Option ℕ → Ruling ℕ
given_of at None word = fault at NotConstant
given_of at (Some t) None = fault at NotConstant
given_of at (Some t) (Some word) = enumeration_value at t word

abbrev pub given_value : TypedExpression → Ruling ℕ
given_value a = given_of a.at (integer a) (constant_of a)

-- one without a value is 1 above the one before it
abbrev pub next_of : ℕ → ArithmeticOutcome → Ruling ℕ
next_of at (o.Word word) = Ok word
next_of at (o.Trap code) = fault at NotConstant
next_of at o.Undefined = fault at NotConstant

abbrev pub next_value : ℕ → (before : ℕ) → Ruling ℕ
next_value at before = next_of at (sum i.Int before 1)

-- ---- the value of a label, in the promoted type of the operand of its `switch` (6.8.4.2)

abbrev pub label_value_of : IntegerType → ℕ → Option IntegerType → Option ℕ → Ruling ℕ
label_value_of t at None word = fault at NotConstant
label_value_of t at (Some s) None = fault at NotConstant
label_value_of t at (Some s) (Some word) = Ok (conversion s t word)

abbrev pub label_value : IntegerType → TypedExpression → Ruling ℕ
label_value t a = label_value_of t a.at (integer a) (constant_of a)
