-- What the operators do with the values of their operands, by the types of these (C99 6.5).
use Rattle.std.specs.Prelude.{ℕ, ◌==◌, ◌&&◌, not, ℤ, pos, neg_ℤ, ◌*ℤ◌, int_div, int_rem, Bool, true, false, List, Option, Some, None, if◌then◌else◌}
use Rattle.std.specs.Ordering.{int_eq}
use Rattle.mem_model.specs.declared.value.Value.{Value}
use Rattle.mem_model.specs.declared.value.Value.TheVariants.{Word, Address, Unset}
use Rattle.mem_model.specs.Memory.{Memory}
use Rattle.mem_model.specs.Pointers.{is_live, pointer_minus, pointer_lt, pointer_le, pointer_eq}
use Rattle.bk_arithmetic.specs.declared.integer_type.IntegerType.{IntegerType}
use Rattle.bk_arithmetic.specs.declared.integer_type.IntegerType.TheVariants as i
use Rattle.bk_arithmetic.specs.declared.outcome.ArithmeticOutcome.{ArithmeticOutcome}
use Rattle.bk_arithmetic.specs.declared.outcome.ArithmeticOutcome.TheVariants as o
use Rattle.bk_arithmetic.specs.IntegerTypes.{bytes, is_signed, promote}
use Rattle.bk_arithmetic.specs.Words.{value, word}
use Rattle.bk_arithmetic.specs.Operations.{conversion, negation, complement, truth}
use Rattle.c_tree.specs.declared.expressions.UnaryOp.{UnaryOp}
use Rattle.c_tree.specs.declared.expressions.UnaryOp.TheVariants as u
use Rattle.c_tree.specs.declared.expressions.BinaryOp.{BinaryOp}
use Rattle.c_tree.specs.declared.expressions.BinaryOp.TheVariants as b
use Rattle.c_tree.specs.declared.expressions.AssignOp.{AssignOp}
use Rattle.c_tree.specs.declared.expressions.AssignOp.TheVariants as a
use Rattle.c_tree.specs.declared.expressions.StepOp.{StepOp}
use Rattle.c_tree.specs.declared.expressions.StepOp.TheVariants as s
use Rattle.c_typed_tree.specs.declared.types.StructDef.{StructDef}
use Rattle.c_typed_tree.specs.Types.{PlainType, Void, Int, Pointer}
use Rattle.c_typed_tree.specs.Layout.{size_of}
use Rattle.c_typed_tree.specs.Constants.{integers_with}
use Rattle.c_semantics.specs.Reasons.{Reason, UsesDeadObject, ComparesApart, ComparesAtEnd, ShiftsTooFar, UsesNoValue}
use Rattle.c_semantics.specs.Runs.{Run, ◌>>=◌, pure, undefined_behaviour, trap, on_memory, or_undefined, use_value, use_number}
use Rattle.c_semantics.specs.Objects.{integer_or_word, stands_inside, move_elements, move_by}

abbrev pub outcome : ArithmeticOutcome → Run Value
outcome (o.Word n) = pure (Word n)
outcome (o.Trap code) = trap code
outcome o.Undefined = undefined_behaviour ShiftsTooFar

-- ---- integers

abbrev pub integers : BinaryOp → (t count : IntegerType) → Value → Value → Run Value
integers op t c v w = use_number v >>= (λ x. use_number w >>= (λ y. outcome (integers_with op t c x y)))

-- an integer converted from one type to another (C99 6.3.1.3)
abbrev pub convert_word : (from to : IntegerType) → Value → Run Value
convert_word from to v = use_number v >>= (λ n. pure (Word (conversion from to n)))

-- ---- pointers

-- why two pointers cannot be compared or subtracted: one of them is dead, or they are apart
abbrev pub is_dead : Memory → Value → Bool
is_dead m (Address p) = not (is_live m p)
is_dead m (Word n) = false
is_dead m Unset = false

abbrev pub unless_dead : Memory → Value → Value → Reason → Reason
unless_dead m v w reason = if is_dead m v then UsesDeadObject else if is_dead m w then UsesDeadObject else reason

abbrev pub compare_by : Reason → (Memory → Value → Value → Option Bool) → Value → Value → Run Bool
compare_by reason test v w = on_memory (λ m. or_undefined (unless_dead m v w reason) (test m v w))

abbrev pub pure_truth : Bool → Run Value
pure_truth b = pure (Word (truth b))

-- a distance in whole elements (C99 6.5.6); elements without bytes, which no text has, have none
abbrev pub elements : (bytes : ℤ) → (size : ℕ) → Run Value
elements bytes size =
    if size == 0 then undefined_behaviour ComparesApart
    else if int_eq (int_rem bytes (pos size)) (pos 0) then pure (Word (word i.Long (int_div bytes (pos size))))
    else undefined_behaviour ComparesApart

-- the bytes between two pointers within one object or at its end
abbrev pub bytes_between : Memory → Value → Value → Option ℤ
bytes_between m v w = if stands_inside m v && stands_inside m w then pointer_minus m v w else None

abbrev pub distance : List StructDef → (element : PlainType) → Value → Value → Run Value
distance ds element v w =
    on_memory (λ m. or_undefined (unless_dead m v w ComparesApart) (bytes_between m v w))
    >>= (λ z. elements z (size_of ds element))

-- an operator between two pointers to one type of elements
abbrev pub pointers : List StructDef → BinaryOp → (element : PlainType) → Value → Value → Run Value
pointers ds b.Subtract element v w = distance ds element v w
pointers ds b.Less element v w = compare_by ComparesApart pointer_lt v w >>= pure_truth
pointers ds b.Greater element v w = compare_by ComparesApart pointer_lt w v >>= pure_truth
pointers ds b.LessEqual element v w = compare_by ComparesApart pointer_le v w >>= pure_truth
pointers ds b.GreaterEqual element v w = compare_by ComparesApart pointer_le w v >>= pure_truth
pointers ds b.Equal element v w = compare_by ComparesAtEnd pointer_eq v w >>= pure_truth
pointers ds b.NotEqual element v w = compare_by ComparesAtEnd pointer_eq v w >>= (λ same. pure_truth (not same))
pointers ds _ element v w = undefined_behaviour UsesNoValue

-- a pointer and a number of elements
abbrev pub pointer_and_integer : List StructDef → BinaryOp → PlainType → IntegerType → Value → Value → Run Value
pointer_and_integer ds b.Add element t v w = move_by ds element t v w
pointer_and_integer ds b.Subtract element t v w =
    use_number w >>= (λ n. move_elements v (neg_ℤ (value t n) *ℤ pos (size_of ds element)))
pointer_and_integer ds _ element t v w = undefined_behaviour UsesNoValue

-- ---- all operands

abbrev pub with_integer : List StructDef → BinaryOp → IntegerType → (right : PlainType) → Value → Value → Run Value
with_integer ds op t (Pointer element) v w = pointer_and_integer ds op element t w v
with_integer ds op t right v w = integers op t (integer_or_word right) v w

abbrev pub with_pointer : List StructDef → BinaryOp → PlainType → (right : PlainType) → Value → Value → Run Value
with_pointer ds op element (Pointer other) v w = pointers ds op element v w
with_pointer ds op element right v w = pointer_and_integer ds op element (integer_or_word right) v w

-- an operator between two values, by their types. Two integers have one type, but for a shift
abbrev pub apply_binary : List StructDef → BinaryOp → (left right : PlainType) → Value → Value → Run Value
apply_binary ds op (Int n s) right v w = with_integer ds op (integer_or_word (Int n s)) right v w
apply_binary ds op (Pointer element) right v w = with_pointer ds op element right v w
apply_binary ds op _ right v w = undefined_behaviour UsesNoValue

-- an operator in front of a value, by its type: `+`, `-` and `~`
abbrev pub apply_unary : UnaryOp → PlainType → Value → Run Value
apply_unary u.Plus ty v = use_value UsesNoValue v
apply_unary u.Minus ty v = use_number v >>= (λ n. outcome (negation (integer_or_word ty) n))
apply_unary u.Invert ty v = use_number v >>= (λ n. pure (Word (complement (integer_or_word ty) n)))
apply_unary _ ty v = undefined_behaviour UsesNoValue

-- whether a value is not zero, and not null
abbrev pub test_in : Memory → Value → Run Bool
test_in m (Word n) = pure (not (n == 0))
test_in m (Address p) = if is_live m p then pure true else undefined_behaviour UsesDeadObject
test_in m Unset = undefined_behaviour UsesNoValue

abbrev pub test : Value → Run Bool
test v = on_memory (λ m. test_in m v)

-- ---- conversions

-- a value as one of another type: a number keeps its value or its low bits, a pointer stays, and nothing is used
-- where the type is void (C99 6.3)
abbrev pub convert : (from to : PlainType) → Value → Run Value
convert from Void v = pure Unset
convert (Int n s) (Int m r) v = convert_word (integer_or_word (Int n s)) (integer_or_word (Int m r)) v
convert from to v = use_value UsesNoValue v

-- ---- assignment

-- the operator of a compound assignment (C99 6.5.16.2)
abbrev pub operator_of : AssignOp → Option BinaryOp
operator_of a.Set = None
operator_of a.Multiply = Some b.Multiply
operator_of a.Divide = Some b.Divide
operator_of a.Remainder = Some b.Remainder
operator_of a.Add = Some b.Add
operator_of a.Subtract = Some b.Subtract
operator_of a.ShiftLeft = Some b.ShiftLeft
operator_of a.ShiftRight = Some b.ShiftRight
operator_of a.And = Some b.And
operator_of a.Xor = Some b.Xor
operator_of a.Or = Some b.Or

-- the type in which an operator is done: that of the right side, to which both were converted, and in a shift the
-- promoted one of the left
abbrev pub operation_type : BinaryOp → (left right : IntegerType) → IntegerType
operation_type b.ShiftLeft left right = promote left
operation_type b.ShiftRight left right = promote left
operation_type op left right = right

-- an integer is combined with another one, and the result is an integer of its own type again
abbrev pub combined_in : BinaryOp → (t left right : IntegerType) → Value → Value → Run Value
combined_in op t left right v w = convert_word left t v >>= (λ x. integers op t right x w >>= convert_word t left)

-- what a compound assignment writes, of what stood there and the right side
abbrev pub combine : List StructDef → BinaryOp → (left right : PlainType) → Value → Value → Run Value
combine ds op (Int n s) right v w =
    let t = integer_or_word (Int n s) in
    let r = integer_or_word right in
    combined_in op (operation_type op t r) t r v w
combine ds op (Pointer element) right v w = pointer_and_integer ds op element (integer_or_word right) v w
combine ds op left right v w = undefined_behaviour UsesNoValue

-- `++` and `--` add and take away 1 (C99 6.5.2.4, 6.5.3.1)
abbrev pub step_operator : StepOp → BinaryOp
step_operator s.Increment = b.Add
step_operator s.Decrement = b.Subtract

-- the type of the 1: the promoted one of an integer, and `int` beside a pointer
abbrev pub one_type : PlainType → PlainType
one_type (Int n s) = Int (bytes (promote (integer_or_word (Int n s)))) (is_signed (promote (integer_or_word (Int n s))))
one_type _ = Int 4 true

abbrev pub step_value : List StructDef → StepOp → PlainType → Value → Run Value
step_value ds op ty v = combine ds (step_operator op) ty (one_type ty) v (Word 1)
