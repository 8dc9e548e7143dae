-- An idle expression gives a value in the state from which it is run, or is undefined.
use Rattle.std.proofs.Common.{◌≡◌, ℕ, Bool, true, false, not, ◌&&◌, ◌==◌, IsTrue, List, Option, Some, None, refl, sym, ap, ◌∙◌, subst, if◌then◌else◌, unwrap_or}
use Rattle.std.specs.Prelude.{pos, slice_get, ℤ, int_rem, int_div, Result, Ok, Err}
use Rattle.std.specs.Ordering.{int_eq}
use Rattle.mem_model.specs.declared.value.Value.{Value}
use Rattle.mem_model.specs.declared.value.Value.TheVariants.{Word, Address, Unset}
use Rattle.mem_model.specs.declared.value.MemFault.{MemFault}
use Rattle.mem_model.specs.Memory.{Memory, load_at}
use Rattle.mem_model.specs.Pointers.{is_live, pointer_lt, pointer_le, pointer_eq}
use Rattle.mem_model.specs.Ending.{Done, Trap, Undefined, More, Evaluation, Gives, Ends}
use Rattle.bk_arithmetic.specs.declared.integer_type.IntegerType.{IntegerType}
use Rattle.bk_arithmetic.specs.declared.integer_type.IntegerType.TheVariants as i
use Rattle.bk_arithmetic.specs.declared.outcome.ArithmeticOutcome.{ArithmeticOutcome}
use Rattle.bk_arithmetic.specs.declared.outcome.ArithmeticOutcome.TheVariants as o
use Rattle.bk_arithmetic.specs.IntegerTypes.{is_signed}
use Rattle.bk_arithmetic.specs.Words.{word}
use Rattle.bk_arithmetic.specs.Operations.{result_in, word_or_overflow, shift_count, left_shift_by, right_shift_by}
use Rattle.c_tree.specs.declared.expressions.UnaryOp.TheVariants as u
use Rattle.c_tree.specs.declared.expressions.BinaryOp.{BinaryOp}
use Rattle.c_tree.specs.declared.expressions.BinaryOp.TheVariants as b
use Rattle.c_typed_tree.specs.declared.types.StructDef.{StructDef}
use Rattle.c_typed_tree.specs.declared.units.Local as l
use Rattle.c_typed_tree.specs.Types.{PlainType, Void, Int, Pointer, Array, Struct}
use Rattle.c_typed_tree.specs.Expressions.{Expr, Number, Local, Global, Call, Unary, Binary, Assign, Conditional, Cast, Convert, Index, Field, Arrow, Postfix, Comma, Exprs, no_exprs, more_exprs, type_of}
use Rattle.c_typed_tree.specs.Constants.{integers_with}
use Rattle.c_typed_tree.specs.Typing.{Context, is_array, is_pointer}
use Rattle.c_semantics.specs.Reasons.{Reason, UsesNoValue, ComparesApart, UsesDeadObject}
use Rattle.c_semantics.specs.Runs.{CallState, Run, and_then, ◌>>=◌, pure, undefined_behaviour, on_memory, or_undefined, use_value, use_number, read_register}
use Rattle.c_semantics.specs.Objects.{ValuePlace, Register, At, Scope, integer_or_word, access, integer_value, as_held, load, read_at, read, place_pointer, move, move_by, move_elements, local_place, start_pointer}
use Rattle.c_semantics.specs.Operators.{outcome, integers, convert_word, test, test_in, apply_binary, convert, pointers, pointer_and_integer, elements, compare_by}
use Rattle.c_semantics.specs.Evaluates.{Functions, target_of, choose, converted_from, element_pointer, member_pointer, eval, place, value_of_last}
use Rattle.c_semantics.proofs.Facts.{no_true, front, back}
use Rattle.c_rewrite_rules.specs.Rules.{is_signed_integer, may_trap, is_idle, is_idle_place, are_idle}

-- the state is the same, or the run is undefined
abbrev pub StaysIn : {A : Type 0} → CallState → Evaluation A CallState → Type 0
StaysIn s (Gives a t) = t ≡ s
StaysIn s (Ends (Done w status)) = ⊥
StaysIn s (Ends (Trap w code)) = ⊥
StaysIn s (Ends (Undefined w at)) = Unit {0}
StaysIn s (Ends (More w)) = ⊥

pub record Idle {A : Type 0} (m : Run A) : Type 0 where
  pub by : (s : CallState) → StaysIn s (m s)

after : {A B : Type 0} (s : CallState) (r : Evaluation A CallState) (k : A → Run B) → StaysIn s r → ((a : A) → Idle (k a)) → StaysIn s (and_then r k)
after s (Gives a t) k h g = subst (λ v. StaysIn s (k a v)) (sym h) ((g a).by s)
after s (Ends (Done w status)) k h g = absurd h
after s (Ends (Trap w code)) k h g = absurd h
after s (Ends (Undefined w at)) k h g = tt
after s (Ends (More w)) k h g = absurd h

pub then_idle : {A B : Type 0} {m : Run A} {k : A → Run B} → Idle m → ((a : A) → Idle (k a)) → Idle (m >>= k)
unfolding ◌>>=◌
then_idle {m = m} {k = k} h g = record { by = λ s. after s (m s) k (h.by s) g }

pub pure_idle : {A : Type 0} (a : A) → Idle (pure a)
unfolding pure
pure_idle a = record { by = λ s. refl }

pub undefined_idle : {A : Type 0} (reason : Reason) → Idle (undefined_behaviour {A = A} reason)
unfolding undefined_behaviour
undefined_idle reason = record { by = λ s. tt }

seen_idle : {A : Type 0} {k : Memory → Run A} → ((m : Memory) → Idle (k m)) → Idle (on_memory k)
unfolding on_memory
seen_idle g = record { by = λ s. (g s.world.outer.memory).by s }

used_idle : (reason : Reason) (v : Value) → Idle (use_value reason v)
used_idle reason (Word n) = pure_idle _
used_idle reason (Address p) = pure_idle _
used_idle reason Unset = undefined_idle reason

number_idle : (v : Value) → Idle (use_number v)
number_idle (Word n) = pure_idle n
number_idle (Address p) = undefined_idle _
number_idle Unset = undefined_idle _

register_idle : (k : ℕ) → Idle (read_register k)
unfolding read_register
register_idle k = record { by = λ s. (used_idle _ (s.registers k)).by s }

option_idle : {A : Type 0} (reason : Reason) (a : Option A) → Idle (or_undefined reason a)
option_idle reason (Some a) = pure_idle a
option_idle reason None = undefined_idle reason

-- ---- places and what they hold

access_idle : {A : Type 0} (r : Result A MemFault) → Idle (access r)
access_idle (Ok a) = pure_idle a
access_idle (Err e) = undefined_idle _

load_idle : (width : ℕ) (pointer : Bool) (p : Value) → Idle (load width pointer p)
load_idle width pointer (Address p) = seen_idle (λ m. access_idle (load_at m p width pointer))
load_idle width pointer (Word n) = undefined_idle _
load_idle width pointer Unset = undefined_idle _

integer_idle : (t : IntegerType) (v : Value) → Idle (integer_value t v)
integer_idle t v = then_idle (number_idle v) (λ n. pure_idle _)

as_held_idle : (ty : PlainType) (v : Value) → Idle (as_held ty v)
as_held_idle Void v = pure_idle v
as_held_idle (Int n s) v = integer_idle (integer_or_word (Int n s)) v
as_held_idle (Pointer u) v = pure_idle v
as_held_idle (Array u n) v = pure_idle v
as_held_idle (Struct n) v = pure_idle v

read_at_idle : (ty : PlainType) (p : Value) → Idle (read_at ty p)
read_at_idle Void p = undefined_idle _
read_at_idle (Int n s) p = then_idle (load_idle n false p) (integer_idle (integer_or_word (Int n s)))
read_at_idle (Pointer u) p = load_idle 8 true p
read_at_idle (Array u n) p = pure_idle p
read_at_idle (Struct n) p = pure_idle p

read_idle : (ty : PlainType) (p : ValuePlace) → Idle (read ty p)
read_idle ty (Register k) = then_idle (register_idle k) (as_held_idle ty)
read_idle ty (At p) = read_at_idle ty p

pointer_idle : (p : ValuePlace) → Idle (place_pointer p)
pointer_idle (Register k) = undefined_idle _
pointer_idle (At p) = pure_idle p

local_idle : (scope : Scope) (k : ℕ) (o : Option l.Local) → Idle (local_place scope k o)
local_idle scope k None = undefined_idle _
local_idle scope k (Some j) = by j.in_memory
  where
    by : (t : Bool) → Idle (if t then or_undefined UsesDeadObject (scope k) >>= (λ o. pure (At (start_pointer o))) else pure (Register k))
    by true = then_idle (option_idle _ (scope k)) (λ o. pure_idle _)
    by false = pure_idle _

elements_moved_idle : (p : Value) (z : ℤ) → Idle (move_elements p z)
elements_moved_idle p z = seen_idle (λ m. option_idle _ _)

moved_by_idle : (ds : List StructDef) (element : PlainType) (t : IntegerType) (p v : Value) → Idle (move_by ds element t p v)
moved_by_idle ds element t p v = then_idle (number_idle v) (λ n. elements_moved_idle p _)

moved_idle : (p : Value) (z : ℤ) → Idle (move p z)
moved_idle p z = seen_idle (λ m. option_idle _ _)

element_idle : (ds : List StructDef) (left right : PlainType) (v w : Value) → Idle (element_pointer ds left right v w)
element_idle ds (Pointer t) right v w = moved_by_idle ds t (integer_or_word right) v w
element_idle ds (Int n s) (Pointer t) v w = moved_by_idle ds t (integer_or_word (Int n s)) w v
element_idle ds Void (Pointer t) v w = moved_by_idle ds t (integer_or_word Void) w v
element_idle ds (Array u n) (Pointer t) v w = moved_by_idle ds t (integer_or_word (Array u n)) w v
element_idle ds (Struct n) (Pointer t) v w = moved_by_idle ds t (integer_or_word (Struct n)) w v
element_idle ds left right v w = undefined_idle _

member_idle : (ds : List StructDef) (ty : PlainType) (member : ℕ) (p : Value) → Idle (member_pointer ds ty member p)
member_idle ds ty member p = moved_idle p _

-- ---- tests, conversions and operators

tested_in_idle : (m : Memory) (v : Value) → Idle (test_in m v)
tested_in_idle m (Word n) = pure_idle _
tested_in_idle m (Address p) = by (is_live m p)
  where
    by : (t : Bool) → Idle (if t then pure true else undefined_behaviour UsesDeadObject)
    by true = pure_idle true
    by false = undefined_idle _
tested_in_idle m Unset = undefined_idle _

test_idle : (v : Value) → Idle (test v)
test_idle v = seen_idle (λ m. tested_in_idle m v)

chosen_idle : {A : Type 0} (x y : Run A) (t : Bool) → Idle x → Idle y → Idle (choose x y t)
chosen_idle x y true h g = h
chosen_idle x y false h g = g

word_idle : (s t : IntegerType) (v : Value) → Idle (convert_word s t v)
word_idle s t v = then_idle (number_idle v) (λ n. pure_idle _)

convert_idle : (from to : PlainType) (v : Value) → Idle (convert from to v)
convert_idle (Int n s) (Int m h) v = word_idle (integer_or_word (Int n s)) (integer_or_word (Int m h)) v
convert_idle (Int n s) Void v = pure_idle _
convert_idle Void Void v = pure_idle _
convert_idle (Pointer u) Void v = pure_idle _
convert_idle (Array u n) Void v = pure_idle _
convert_idle (Struct n) Void v = pure_idle _
convert_idle from to v = used_idle _ v

data IsNoTrap : ArithmeticOutcome → Type 0 where
  a_word : {n : ℕ} → IsNoTrap (o.Word n)
  none : IsNoTrap o.Undefined

outcome_idle : {a : ArithmeticOutcome} → IsNoTrap a → Idle (outcome a)
outcome_idle a_word = pure_idle _
outcome_idle none = undefined_idle _

left_free : (t : IntegerType) (a : ℕ) (k : Option ℕ) → IsNoTrap (left_shift_by t a k)
left_free t a (Some k) = a_word
left_free t a None = none

right_free : (t : IntegerType) (a : ℕ) (k : Option ℕ) → IsNoTrap (right_shift_by t a k)
right_free t a (Some k) = a_word
right_free t a None = none

unsigned_free : (t : IntegerType) (z : ℤ) → is_signed t ≡ false → IsNoTrap (result_in t z)
unsigned_free t z e = subst (λ g. IsNoTrap (if g then word_or_overflow t z else o.Word (word t z))) (sym e) a_word

-- which operators between integers do not trap, in a type that is signed or not
abbrev traps : BinaryOp → (signed : Bool) → Bool
traps b.Divide signed = true
traps b.Remainder signed = true
traps b.Add signed = signed
traps b.Subtract signed = signed
traps b.Multiply signed = signed
traps op signed = false

free : (op : BinaryOp) (t c : IntegerType) (x y : ℕ) → traps op (is_signed t) ≡ false → IsNoTrap (integers_with op t c x y)
free b.Or t c x y e = a_word
free b.Xor t c x y e = a_word
free b.And t c x y e = a_word
free b.Equal t c x y e = a_word
free b.NotEqual t c x y e = a_word
free b.Less t c x y e = a_word
free b.Greater t c x y e = a_word
free b.LessEqual t c x y e = a_word
free b.GreaterEqual t c x y e = a_word
free b.ShiftLeft t c x y e = left_free t x (shift_count t c y)
free b.ShiftRight t c x y e = right_free t x (shift_count t c y)
free b.Add t c x y e = unsigned_free t _ e
free b.Subtract t c x y e = unsigned_free t _ e
free b.Multiply t c x y e = unsigned_free t _ e
free b.Divide t c x y e = no_true (sym e)
free b.Remainder t c x y e = no_true (sym e)
free b.LogicalOr t c x y e = none
free b.LogicalAnd t c x y e = none

integers_idle : (op : BinaryOp) (t c : IntegerType) (v w : Value) → traps op (is_signed t) ≡ false → Idle (integers op t c v w)
integers_idle op t c v w e = then_idle (number_idle v) (λ x. then_idle (number_idle w) (λ y. outcome_idle (free op t c x y e)))

compared_idle : (reason : Reason) (test_of : Memory → Value → Value → Option Bool) (v w : Value) → Idle (compare_by reason test_of v w)
compared_idle reason test_of v w = seen_idle (λ m. option_idle _ (test_of m v w))

elements_idle : (z : ℤ) (size : ℕ) → Idle (elements z size)
elements_idle z size = by (size == 0) (int_eq (int_rem z (pos size)) (pos 0))
  where
    by : (a c : Bool) → Idle (if a then undefined_behaviour ComparesApart else if c then pure (Word (word i.Long (int_div z (pos size)))) else undefined_behaviour ComparesApart)
    by true c = undefined_idle _
    by false true = pure_idle _
    by false false = undefined_idle _

pointers_idle : (ds : List StructDef) (op : BinaryOp) (element : PlainType) (v w : Value) → Idle (pointers ds op element v w)
pointers_idle ds b.Subtract element v w = then_idle (seen_idle (λ m. option_idle _ _)) (λ z. elements_idle z _)
pointers_idle ds b.Less element v w = then_idle (compared_idle _ pointer_lt v w) (λ t. pure_idle _)
pointers_idle ds b.Greater element v w = then_idle (compared_idle _ pointer_lt w v) (λ t. pure_idle _)
pointers_idle ds b.LessEqual element v w = then_idle (compared_idle _ pointer_le v w) (λ t. pure_idle _)
pointers_idle ds b.GreaterEqual element v w = then_idle (compared_idle _ pointer_le w v) (λ t. pure_idle _)
pointers_idle ds b.Equal element v w = then_idle (compared_idle _ pointer_eq v w) (λ t. pure_idle _)
pointers_idle ds b.NotEqual element v w = then_idle (compared_idle _ pointer_eq v w) (λ t. pure_idle _)
pointers_idle ds op element v w = undefined_idle _

pointer_number_idle : (ds : List StructDef) (op : BinaryOp) (element : PlainType) (t : IntegerType) (v w : Value) → Idle (pointer_and_integer ds op element t v w)
pointer_number_idle ds b.Add element t v w = moved_by_idle ds element t v w
pointer_number_idle ds b.Subtract element t v w = then_idle (number_idle w) (λ n. elements_moved_idle v _)
pointer_number_idle ds op element t v w = undefined_idle _

-- the integer type of a type is signed only where that is
unsigned_word : (n : ℕ) → is_signed (integer_or_word (Int n false)) ≡ false
unsigned_word n = by (n == 1) (n == 2) (n == 4) (n == 8)
  where
    by : (p q r s : Bool) → is_signed (unwrap_or (if p then Some i.UnsignedChar else if q then Some i.UnsignedShort else if r then Some i.UnsignedInt else if s then Some i.UnsignedLong else None) i.UnsignedLong) ≡ false
    by true q r s = refl
    by false true r s = refl
    by false false true s = refl
    by false false false true = refl
    by false false false false = refl

traps_in : (op : BinaryOp) (n : ℕ) (s : Bool) (right : PlainType) → is_pointer right ≡ false → may_trap op (Int n s) right ≡ false
    → traps op (is_signed (integer_or_word (Int n s))) ≡ false
traps_in b.Divide n s right p e = e
traps_in b.Remainder n s right p e = e
traps_in b.Add n true right p e = no_true (sym e ∙ ap not p)
traps_in b.Add n false right p e = unsigned_word n
traps_in b.Subtract n true right p e = no_true (sym e ∙ ap not p)
traps_in b.Subtract n false right p e = unsigned_word n
traps_in b.Multiply n true right p e = no_true (sym e ∙ ap not p)
traps_in b.Multiply n false right p e = unsigned_word n
traps_in b.Or n s right p e = refl
traps_in b.Xor n s right p e = refl
traps_in b.And n s right p e = refl
traps_in b.Equal n s right p e = refl
traps_in b.NotEqual n s right p e = refl
traps_in b.Less n s right p e = refl
traps_in b.Greater n s right p e = refl
traps_in b.LessEqual n s right p e = refl
traps_in b.GreaterEqual n s right p e = refl
traps_in b.ShiftLeft n s right p e = refl
traps_in b.ShiftRight n s right p e = refl
traps_in b.LogicalOr n s right p e = refl
traps_in b.LogicalAnd n s right p e = refl

apply_idle : (ds : List StructDef) (op : BinaryOp) (left right : PlainType) (v w : Value) → may_trap op left right ≡ false → Idle (apply_binary ds op left right v w)
apply_idle ds op (Int n s) (Pointer element) v w e = pointer_number_idle ds op element (integer_or_word (Int n s)) w v
apply_idle ds op (Int n s) (Int m h) v w e = integers_idle op (integer_or_word (Int n s)) (integer_or_word (Int m h)) v w (traps_in op n s (Int m h) refl e)
apply_idle ds op (Int n s) Void v w e = integers_idle op (integer_or_word (Int n s)) (integer_or_word Void) v w (traps_in op n s Void refl e)
apply_idle ds op (Int n s) (Array u m) v w e = integers_idle op (integer_or_word (Int n s)) (integer_or_word (Array u m)) v w (traps_in op n s (Array u m) refl e)
apply_idle ds op (Int n s) (Struct m) v w e = integers_idle op (integer_or_word (Int n s)) (integer_or_word (Struct m)) v w (traps_in op n s (Struct m) refl e)
apply_idle ds op (Pointer element) (Pointer other) v w e = pointers_idle ds op element v w
apply_idle ds op (Pointer element) (Int m h) v w e = pointer_number_idle ds op element (integer_or_word (Int m h)) v w
apply_idle ds op (Pointer element) Void v w e = pointer_number_idle ds op element (integer_or_word Void) v w
apply_idle ds op (Pointer element) (Array u m) v w e = pointer_number_idle ds op element (integer_or_word (Array u m)) v w
apply_idle ds op (Pointer element) (Struct m) v w e = pointer_number_idle ds op element (integer_or_word (Struct m)) v w
apply_idle ds op Void right v w e = undefined_idle _
apply_idle ds op (Array u n) right v w e = undefined_idle _
apply_idle ds op (Struct n) right v w e = undefined_idle _

minus_unsigned : (ty : PlainType) → is_signed_integer ty ≡ false → is_signed (integer_or_word ty) ≡ false
minus_unsigned (Int n true) e = no_true (sym e)
minus_unsigned (Int n false) e = unsigned_word n
minus_unsigned Void e = refl
minus_unsigned (Pointer u) e = refl
minus_unsigned (Array u n) e = refl
minus_unsigned (Struct n) e = refl

is_false : (t : Bool) → IsTrue (not t) → t ≡ false
is_false true h = no_true h
is_false false h = refl

converted_idle : (from to : PlainType) (m : Run Value) (p : Run ValuePlace) → (is_array from ≡ true → Idle p) → (is_array from ≡ false → Idle m) → Idle (converted_from from to m p)
converted_idle (Array u n) to m p h g = then_idle (h refl) pointer_idle
converted_idle Void to m p h g = then_idle (g refl) (convert_idle Void to)
converted_idle (Int n s) to m p h g = then_idle (g refl) (convert_idle (Int n s) to)
converted_idle (Pointer u) to m p h g = then_idle (g refl) (convert_idle (Pointer u) to)
converted_idle (Struct n) to m p h g = then_idle (g refl) (convert_idle (Struct n) to)

if_array : (t a d : Bool) → IsTrue (if t then a else d) → t ≡ true → IsTrue a
if_array true a d h e = h
if_array false a d h e = no_true e

if_other : (t a d : Bool) → IsTrue (if t then a else d) → t ≡ false → IsTrue d
if_other true a d h e = no_true (sym e)
if_other false a d h e = h

-- ---- every idle expression

module _ (c : Context) (f : Functions) (scope : Scope) (ls : List l.Local) where
  abbrev run : Expr → Run Value
  run x = eval c.structs c.locals f scope x

  binary_idle : (ty : PlainType) (op : BinaryOp) (x y : Expr) → may_trap op (type_of x) (type_of y) ≡ false → Idle (run x) → Idle (run y) → Idle (run (Binary ty op x y))
  binary_idle ty b.LogicalAnd x y e h g =
      then_idle (then_idle h test_idle) (λ t. chosen_idle _ _ t (then_idle (then_idle g test_idle) (λ k. pure_idle _)) (pure_idle _))
  binary_idle ty b.LogicalOr x y e h g =
      then_idle (then_idle h test_idle) (λ t. chosen_idle _ _ t (pure_idle _) (then_idle (then_idle g test_idle) (λ k. pure_idle _)))
  binary_idle ty b.Or x y e h g = then_idle h (λ v. then_idle g (λ w. apply_idle c.structs b.Or (type_of x) (type_of y) v w e))
  binary_idle ty b.Xor x y e h g = then_idle h (λ v. then_idle g (λ w. apply_idle c.structs b.Xor (type_of x) (type_of y) v w e))
  binary_idle ty b.And x y e h g = then_idle h (λ v. then_idle g (λ w. apply_idle c.structs b.And (type_of x) (type_of y) v w e))
  binary_idle ty b.Equal x y e h g = then_idle h (λ v. then_idle g (λ w. apply_idle c.structs b.Equal (type_of x) (type_of y) v w e))
  binary_idle ty b.NotEqual x y e h g = then_idle h (λ v. then_idle g (λ w. apply_idle c.structs b.NotEqual (type_of x) (type_of y) v w e))
  binary_idle ty b.Less x y e h g = then_idle h (λ v. then_idle g (λ w. apply_idle c.structs b.Less (type_of x) (type_of y) v w e))
  binary_idle ty b.Greater x y e h g = then_idle h (λ v. then_idle g (λ w. apply_idle c.structs b.Greater (type_of x) (type_of y) v w e))
  binary_idle ty b.LessEqual x y e h g = then_idle h (λ v. then_idle g (λ w. apply_idle c.structs b.LessEqual (type_of x) (type_of y) v w e))
  binary_idle ty b.GreaterEqual x y e h g = then_idle h (λ v. then_idle g (λ w. apply_idle c.structs b.GreaterEqual (type_of x) (type_of y) v w e))
  binary_idle ty b.ShiftLeft x y e h g = then_idle h (λ v. then_idle g (λ w. apply_idle c.structs b.ShiftLeft (type_of x) (type_of y) v w e))
  binary_idle ty b.ShiftRight x y e h g = then_idle h (λ v. then_idle g (λ w. apply_idle c.structs b.ShiftRight (type_of x) (type_of y) v w e))
  binary_idle ty b.Add x y e h g = then_idle h (λ v. then_idle g (λ w. apply_idle c.structs b.Add (type_of x) (type_of y) v w e))
  binary_idle ty b.Subtract x y e h g = then_idle h (λ v. then_idle g (λ w. apply_idle c.structs b.Subtract (type_of x) (type_of y) v w e))
  binary_idle ty b.Multiply x y e h g = then_idle h (λ v. then_idle g (λ w. apply_idle c.structs b.Multiply (type_of x) (type_of y) v w e))
  binary_idle ty b.Divide x y e h g = then_idle h (λ v. then_idle g (λ w. apply_idle c.structs b.Divide (type_of x) (type_of y) v w e))
  binary_idle ty b.Remainder x y e h g = then_idle h (λ v. then_idle g (λ w. apply_idle c.structs b.Remainder (type_of x) (type_of y) v w e))

  mutual
    pub eval_idle : (x : Expr) → IsTrue (is_idle ls x) → Idle (run x)
    eval_idle (Number ty n) h = pure_idle _
    eval_idle (Local ty k) h = then_idle (local_idle scope k (slice_get c.locals k)) (read_idle ty)
    eval_idle (Unary ty u.Address x) h = then_idle (place_idle x h) pointer_idle
    eval_idle (Unary ty u.Plus x) h = then_idle (eval_idle x h) (used_idle UsesNoValue)
    eval_idle (Unary ty u.Minus x) h =
        let e = minus_unsigned ty (is_false (is_signed_integer ty) (front (not (is_signed_integer ty)) (is_idle ls x) h)) in
        then_idle (eval_idle x (back (not (is_signed_integer ty)) (is_idle ls x) h))
        (λ v. then_idle (number_idle v) (λ n. outcome_idle (unsigned_free (integer_or_word ty) _ e)))
    eval_idle (Unary ty u.Invert x) h = then_idle (eval_idle x h) (λ v. then_idle (number_idle v) (λ n. pure_idle _))
    eval_idle (Unary ty u.Not x) h = then_idle (then_idle (eval_idle x h) test_idle) (λ t. chosen_idle _ _ t (pure_idle _) (pure_idle _))
    eval_idle (Binary ty op x y) h =
        let both = front (not (may_trap op (type_of x) (type_of y)) && is_idle ls x) (is_idle ls y) h in
        binary_idle ty op x y (is_false (may_trap op (type_of x) (type_of y)) (front (not (may_trap op (type_of x) (type_of y))) (is_idle ls x) both))
        (eval_idle x (back (not (may_trap op (type_of x) (type_of y))) (is_idle ls x) both))
        (eval_idle y (back (not (may_trap op (type_of x) (type_of y)) && is_idle ls x) (is_idle ls y) h))
    eval_idle (Conditional ty x y z) h =
        let two = front (is_idle ls x && is_idle ls y) (is_idle ls z) h in
        let first = eval_idle x (front (is_idle ls x) (is_idle ls y) two) in
        let second = eval_idle y (back (is_idle ls x) (is_idle ls y) two) in
        let third = eval_idle z (back (is_idle ls x && is_idle ls y) (is_idle ls z) h) in
        then_idle (then_idle first test_idle) (λ t. chosen_idle (run y) (run z) t second third)
    eval_idle (Cast ty x) h =
        converted_idle (type_of x) ty (run x) (place c.structs c.locals f scope x)
        (λ e. place_idle x (if_array (is_array (type_of x)) (is_idle_place ls x) (is_idle ls x) h e))
        (λ e. eval_idle x (if_other (is_array (type_of x)) (is_idle_place ls x) (is_idle ls x) h e))
    eval_idle (Convert ty x) h =
        converted_idle (type_of x) ty (run x) (place c.structs c.locals f scope x)
        (λ e. place_idle x (if_array (is_array (type_of x)) (is_idle_place ls x) (is_idle ls x) h e))
        (λ e. eval_idle x (if_other (is_array (type_of x)) (is_idle_place ls x) (is_idle ls x) h e))
    eval_idle (Comma ty no_exprs) h = undefined_idle _
    eval_idle (Comma ty (more_exprs x xs)) h = last_idle xs (run x) (eval_idle x (front (is_idle ls x) (are_idle ls xs) h)) (back (is_idle ls x) (are_idle ls xs) h)
    eval_idle (Global ty k) h = no_true h
    eval_idle (Call ty callee xs) h = no_true h
    eval_idle (Unary ty u.Increment x) h = no_true h
    eval_idle (Unary ty u.Decrement x) h = no_true h
    eval_idle (Unary ty u.Dereference x) h = no_true h
    eval_idle (Assign ty op x y) h = no_true h
    eval_idle (Index ty x y) h = no_true h
    eval_idle (Field ty x member) h = no_true h
    eval_idle (Arrow ty x member) h = no_true h
    eval_idle (Postfix ty op x) h = no_true h

    place_idle : (x : Expr) → IsTrue (is_idle_place ls x) → Idle (place c.structs c.locals f scope x)
    place_idle (Local ty k) h = local_idle scope k (slice_get c.locals k)
    place_idle (Global ty k) h = pure_idle _
    place_idle (Unary ty u.Dereference x) h = then_idle (then_idle (eval_idle x h) (used_idle UsesNoValue)) (λ p. pure_idle _)
    place_idle (Index ty x y) h =
        let first = eval_idle x (front (is_idle ls x) (is_idle ls y) h) in
        let second = eval_idle y (back (is_idle ls x) (is_idle ls y) h) in
        then_idle (then_idle first (λ v. then_idle second (λ w. element_idle c.structs (type_of x) (type_of y) v w))) (λ p. pure_idle _)
    place_idle (Field ty x member) h =
        then_idle (then_idle (then_idle (place_idle x h) pointer_idle) (λ p. member_idle c.structs (type_of x) member p)) (λ p. pure_idle _)
    place_idle (Arrow ty x member) h =
        then_idle (then_idle (eval_idle x h) (λ p. member_idle c.structs (target_of (type_of x)) member p)) (λ p. pure_idle _)
    place_idle x h = no_true h

    last_idle : (xs : Exprs) (first : Run Value) → Idle first → IsTrue (are_idle ls xs) → Idle (value_of_last c.structs c.locals f scope first xs)
    last_idle no_exprs first h g = h
    last_idle (more_exprs x xs) first h g =
        then_idle h (λ v. last_idle xs (run x) (eval_idle x (front (is_idle ls x) (are_idle ls xs) g)) (back (is_idle ls x) (are_idle ls xs) g))
