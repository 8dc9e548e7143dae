-- What instructions put into registers are words below 2^64.
use Rattle.std.proofs.Common.{◌≡◌, ℕ, ◌^◌, ◌<◌, Bool, true, false, Option, Some, None, Result, Ok, Err, ℤ, List, refl, ap, ◌∙◌, subst, arith}
use Rattle.std.specs.Prelude.{◌+ℤ◌, ◌&&◌, if◌then◌else◌}
use Rattle.std.proofs.lemmas.Bool.{eqb-true}
use Rattle.std.proofs.lemmas.Option.{none-some, same_Some}
use Rattle.mem_model.specs.declared.value.Value.{Value}
use Rattle.mem_model.specs.declared.value.Value.TheVariants.{Word, Address, Unset}
use Rattle.mem_model.specs.declared.value.Ptr.{Ptr}
use Rattle.mem_model.specs.declared.value.MemFault.{MemFault}
use Rattle.mem_model.specs.declared.value.MemFault.TheVariants.{Never, PartPointer}
use Rattle.mem_model.specs.Memory.{Memory, load_at}
use Rattle.mem_model.specs.Pointers.{pointer_plus, pointer_minus, is_live, is_offset, size_at, ptr_plus}
use Rattle.bk_arithmetic.specs.declared.integer_type.IntegerType.{IntegerType}
use Rattle.bk_arithmetic.specs.declared.integer_type.IntegerType.TheVariants.{Int, UnsignedInt, Long, UnsignedLong}
use Rattle.bk_arithmetic.specs.declared.outcome.ArithmeticOutcome.{ArithmeticOutcome}
use Rattle.bk_arithmetic.specs.declared.outcome.ArithmeticOutcome.TheVariants as o
use Rattle.bk_arithmetic.specs.Words.{extension, is_word, residue}
use Rattle.bk_arithmetic.specs.Operations as c
use Rattle.bk_arithmetic.specs.Outcomes.{IsWordOf}
use Rattle.bk_arithmetic.proofs.LowBits.{extension-below}
use Rattle.bk_arithmetic.proofs.Results.{sum-word, difference-word, product-word, negation-word, quotient-word, remainder-word, left_shift-word, right_shift-word}
use Rattle.suifvm_ir.specs.declared.types.VmType.{VmType}
use Rattle.suifvm_ir.specs.declared.types.VmType.TheVariants.{S32, U32, S64, U64, P64}
use Rattle.suifvm_ir.specs.declared.types.MemoryType.{MemoryType}
use Rattle.suifvm_ir.specs.declared.insn.VmUnaryOp.{VmUnaryOp}
use Rattle.suifvm_ir.specs.declared.insn.VmUnaryOp.TheVariants.{Move, Negate, Complement}
use Rattle.suifvm_ir.specs.declared.insn.VmBinaryOp.{VmBinaryOp}
use Rattle.suifvm_ir.specs.declared.insn.VmBinaryOp.TheVariants.{Add, Subtract, Multiply, Divide, Remainder, And, Or, ExclusiveOr}
use Rattle.suifvm_ir.specs.declared.insn.ShiftOp.{ShiftOp}
use Rattle.suifvm_ir.specs.declared.insn.ShiftOp.TheVariants.{ArithmeticRight, Left, LogicalRight}
use Rattle.suifvm_ir.specs.declared.insn.CompareOp.{CompareOp}
use Rattle.suifvm_meaning.specs.declared.answer.Answer.{Answer}
use Rattle.suifvm_meaning.specs.declared.answer.Answer.TheVariants.{Gives, TrapsWith, Fails}
use Rattle.suifvm_meaning.specs.Operations.{is_value_of, when_value, outcome_answer, value_answer, distance_answer, test_answer, on_number, on_numbers, unary_number, unary_answer, unary_pointer, conversion_answer, convert_answer, memory_integer, integer_of, binary_number, pointer_answer, binary_answer, signed_type, without_sign, shift_number, shift_by, shift_answer, comparison_answer, compare_answer, compare_number, extended_value, load_answer, load_through, loaded_answer, access_bytes}
use Rattle.selection_forms.specs.alpha_forms.Registers.{IsHeldWord}
use Rattle.mem_model.specs.Cells.{pointer_of, first_pointer, cells_eq, bytes_of, parts_of, is_empty, value_of, value_or_fault}
use Rattle.mem_model.specs.Memory.{read_fault, fault_or, row_at}
use Rattle.mem_model.specs.declared.value.Cell.{Cell}
use Rattle.std.specs.List.{list_any}
use Rattle.std.specs.Prelude.{option_and_then, ok_or}

-- where there is a value, it is held
abbrev pub AnswerIsHeld : Answer → Type 0
AnswerIsHeld (Gives v) = IsHeldWord v
AnswerIsHeld (TrapsWith code) = Unit {0}
AnswerIsHeld Fails = Unit {0}

-- ---- words of a type

word_held : (t : IntegerType) (n : ℕ) → is_word t n ≡ true → n < 2 ^ 64
word_held t n e = subst (λ k. k < 2 ^ 64) (eqb-true (extension t n) n e) (extension-below t n)

outcome_held : (t : IntegerType) (w : ArithmeticOutcome) → IsWordOf t w → AnswerIsHeld (outcome_answer w)
outcome_held t (o.Word n) h = word_held t n h
outcome_held t (o.Trap code) h = tt
outcome_held t o.Undefined h = tt

test_held : (b : Option Bool) → AnswerIsHeld (test_answer b)
test_held (Some true) = omega arith
test_held (Some false) = omega arith
test_held None = tt

truth_held : (b : Bool) → c.truth b < 2 ^ 64
truth_held true = omega arith
truth_held false = omega arith

number_held : (t : IntegerType) (a : Value) (f : IntegerType → ℕ → Answer) → ((n : ℕ) → is_word t n ≡ true → AnswerIsHeld (f t n)) → AnswerIsHeld (on_number (Some t) a f)
number_held t (Word n) f h = by_word (is_word t n) refl
  where
    by_word : (b : Bool) → is_word t n ≡ b → AnswerIsHeld (if b then f t n else Fails)
    by_word true e = h n e
    by_word false e = tt
number_held t (Address p) f h = tt
number_held t Unset f h = tt

numbers_held : (t : IntegerType) (a b : Value) (f : IntegerType → (x y : ℕ) → Answer) → ((x y : ℕ) → AnswerIsHeld (f t x y)) → AnswerIsHeld (on_numbers (Some t) a b f)
numbers_held t a b f h =
    number_held t a (λ u x. on_number (Some t) b (λ r y. f u x y)) (λ x e. number_held t b (λ r y. f t x y) (λ y k. h x y))

pub value_held : (ty : VmType) (v : Value) → IsHeldWord v → AnswerIsHeld (when_value ty v)
value_held ty v h = by_type (is_value_of ty v)
  where
    by_type : (b : Bool) → AnswerIsHeld (if b then Gives v else Fails)
    by_type true = h
    by_type false = tt

-- ---- operations

unary_number_held : (op : VmUnaryOp) (t : IntegerType) (n : ℕ) → is_word t n ≡ true → AnswerIsHeld (unary_number op t n)
unary_number_held Move t n e = word_held t n e
unary_number_held Negate t n e = outcome_held t (c.negation t n) (negation-word t n)
unary_number_held Complement t n e = extension-below t _

unary_pointer_held : (op : VmUnaryOp) (v : Value) → IsHeldWord v → AnswerIsHeld (unary_pointer op v)
unary_pointer_held Move v h = value_held P64 v h
unary_pointer_held Negate v h = tt
unary_pointer_held Complement v h = tt

pub unary_held : (op : VmUnaryOp) (ty : VmType) (v : Value) → IsHeldWord v → AnswerIsHeld (unary_answer op ty v)
unary_held op S32 v h = number_held Int v (unary_number op) (unary_number_held op Int)
unary_held op U32 v h = number_held UnsignedInt v (unary_number op) (unary_number_held op UnsignedInt)
unary_held op S64 v h = number_held Long v (unary_number op) (unary_number_held op Long)
unary_held op U64 v h = number_held UnsignedLong v (unary_number op) (unary_number_held op UnsignedLong)
unary_held op P64 v h = unary_pointer_held op v h

conversion_held : (s t : Option IntegerType) (v : Value) → AnswerIsHeld (conversion_answer s t v)
conversion_held (Some s) (Some t) (Word n) = extension-below t _
conversion_held (Some s) (Some t) (Address p) = tt
conversion_held (Some s) (Some t) Unset = tt
conversion_held (Some s) None v = tt
conversion_held None t v = tt

pub convert_held : (from : MemoryType) (to : VmType) (v : Value) → AnswerIsHeld (convert_answer from to v)
convert_held from to v = conversion_held (memory_integer from) (integer_of to) v

binary_number_held : (op : VmBinaryOp) (t : IntegerType) (a b : ℕ) → AnswerIsHeld (binary_number op t a b)
binary_number_held Add t a b = outcome_held t (c.sum t a b) (sum-word t a b)
binary_number_held Subtract t a b = outcome_held t (c.difference t a b) (difference-word t a b)
binary_number_held Multiply t a b = outcome_held t (c.product t a b) (product-word t a b)
binary_number_held Divide t a b = outcome_held t (c.quotient t a b) (quotient-word t a b)
binary_number_held Remainder t a b = outcome_held t (c.remainder t a b) (remainder-word t a b)
binary_number_held And t a b = extension-below t _
binary_number_held Or t a b = extension-below t _
binary_number_held ExclusiveOr t a b = extension-below t _

moved_held : (m : Memory) (v : Value) (by : ℤ) → AnswerIsHeld (value_answer (pointer_plus m v by))
moved_held m (Address p) by = by_both (is_live m p && is_offset (p.offset +ℤ by) (size_at m p))
  where
    by_both : (b : Bool) → AnswerIsHeld (value_answer (if b then Some (Address (ptr_plus p by)) else None))
    by_both true = tt
    by_both false = tt
moved_held m (Word n) by = tt
moved_held m Unset by = tt

distance_held : (z : Option ℤ) → AnswerIsHeld (distance_answer z)
distance_held (Some z) = extension-below Long (residue z)
distance_held None = tt

pointer_held : (m : Memory) (op : VmBinaryOp) (a b : Value) → AnswerIsHeld (pointer_answer m op a b)
pointer_held m Add a (Word n) = moved_held m a _
pointer_held m Add a (Address p) = tt
pointer_held m Add a Unset = tt
pointer_held m Subtract a b = distance_held (pointer_minus m a b)
pointer_held m Multiply a b = tt
pointer_held m Divide a b = tt
pointer_held m Remainder a b = tt
pointer_held m And a b = tt
pointer_held m Or a b = tt
pointer_held m ExclusiveOr a b = tt

pub binary_held : (m : Memory) (op : VmBinaryOp) (ty : VmType) (a b : Value) → AnswerIsHeld (binary_answer m op ty a b)
binary_held m op S32 a b = numbers_held Int a b (binary_number op) (binary_number_held op Int)
binary_held m op U32 a b = numbers_held UnsignedInt a b (binary_number op) (binary_number_held op UnsignedInt)
binary_held m op S64 a b = numbers_held Long a b (binary_number op) (binary_number_held op Long)
binary_held m op U64 a b = numbers_held UnsignedLong a b (binary_number op) (binary_number_held op UnsignedLong)
binary_held m op P64 a b = pointer_held m op a b

shift_number_held : (op : ShiftOp) (t : IntegerType) (a k : ℕ) → AnswerIsHeld (shift_number op t a k)
shift_number_held ArithmeticRight t a k = outcome_held (signed_type t) (c.right_shift (signed_type t) UnsignedLong a k) (right_shift-word (signed_type t) UnsignedLong a k)
shift_number_held Left t a k = outcome_held t (c.left_shift t UnsignedLong a k) (left_shift-word t UnsignedLong a k)
shift_number_held LogicalRight t a k = outcome_held (without_sign t) (c.right_shift (without_sign t) UnsignedLong a k) (right_shift-word (without_sign t) UnsignedLong a k)

shift_of : (op : ShiftOp) (t : IntegerType) (a count : Value) → AnswerIsHeld (on_number (Some t) a (shift_by op count))
shift_of op t a count =
    number_held t a (shift_by op count) (λ n e. number_held UnsignedLong count (λ u k. shift_number op t n k) (λ k i. shift_number_held op t n k))

pub shift_held : (op : ShiftOp) (ty : VmType) (a count : Value) → AnswerIsHeld (shift_answer op ty a count)
shift_held op S32 a count = shift_of op Int a count
shift_held op U32 a count = shift_of op UnsignedInt a count
shift_held op S64 a count = shift_of op Long a count
shift_held op U64 a count = shift_of op UnsignedLong a count
shift_held op P64 a count = tt

pub compare_held : (m : Memory) (op : CompareOp) (ty : VmType) (a b : Value) → AnswerIsHeld (compare_answer m op ty a b)
compare_held m op S32 a b = numbers_held Int a b (comparison_answer op) (λ x y. truth_held (compare_number op Int x y))
compare_held m op U32 a b = numbers_held UnsignedInt a b (comparison_answer op) (λ x y. truth_held (compare_number op UnsignedInt x y))
compare_held m op S64 a b = numbers_held Long a b (comparison_answer op) (λ x y. truth_held (compare_number op Long x y))
compare_held m op U64 a b = numbers_held UnsignedLong a b (comparison_answer op) (λ x y. truth_held (compare_number op UnsignedLong x y))
compare_held m op P64 a b = test_held _

-- ---- loads

-- a pointer is loaded as an address or as null
pointer_value : (cells : List Cell) (v : Value) → pointer_of cells ≡ Some v → IsHeldWord v
unfolding pointer_of
pointer_value cells v e = by_null (cells_eq cells (bytes_of 8 0)) e
  where
    of_word : Some (Word 0) ≡ Some v → IsHeldWord v
    of_word h = subst IsHeldWord (same_Some (Word 0) v h) (omega arith)

    by_parts : (p : Ptr) (b : Bool) → (if b then Some (Address p) else None) ≡ Some v → IsHeldWord v
    by_parts p true h = subst IsHeldWord (same_Some (Address p) v h) tt
    by_parts p false h = absurd (none-some v h)

    by_first : (q : Option Ptr) → option_and_then (λ p. if cells_eq cells (parts_of p) then Some (Address p) else None) q ≡ Some v → IsHeldWord v
    by_first None h = absurd (none-some v h)
    by_first (Some p) h = by_parts p (cells_eq cells (parts_of p)) h

    by_null : (b : Bool) → (if b then Some (Word 0) else option_and_then (λ p. if cells_eq cells (parts_of p) then Some (Address p) else None) (first_pointer cells)) ≡ Some v → IsHeldWord v
    by_null true h = of_word h
    by_null false h = by_first (first_pointer cells) h

pointer_loaded : (m : Memory) (p : Ptr) (v : Value) → load_at m p 8 true ≡ Ok v → IsHeldWord v
unfolding load_at value_or_fault
pointer_loaded m p v = by_fault (read_fault m p 8 8)
  where
    of_value : (r : Option Value) → pointer_of (row_at m p 8) ≡ r → ok_or r PartPointer ≡ Ok v → IsHeldWord v
    of_value (Some w) is e = let same : w ≡ v = cc in pointer_value (row_at m p 8) v (is ∙ ap Some same)
    of_value None is e = absurd cc

    by_empty : (b : Bool) → (if b then Err Never else ok_or (value_of true (row_at m p 8)) PartPointer) ≡ Ok v → IsHeldWord v
    by_empty true e = absurd cc
    by_empty false e = of_value (pointer_of (row_at m p 8)) refl e

    by_fault : (f : Option MemFault) → fault_or f (value_or_fault true (row_at m p 8)) ≡ Ok v → IsHeldWord v
    by_fault (Some f) e = absurd cc
    by_fault None e = by_empty (list_any is_empty (row_at m p 8)) e

extended_held : (t : IntegerType) (v : Value) → IsHeldWord (extended_value (Some t) v)
extended_held t (Word n) = extension-below t n
extended_held t (Address p) = tt
extended_held t Unset = tt

load_number_held : (t : IntegerType) (r : Result Value MemFault) → AnswerIsHeld (load_answer (Some t) r)
load_number_held t (Ok v) = extended_held t v
load_number_held t (Err f) = tt

load_pointer_held : (m : Memory) (p : Ptr) (r : Result Value MemFault) → load_at m p 8 true ≡ r → AnswerIsHeld (load_answer None r)
load_pointer_held m p (Ok v) e = pointer_loaded m p v e
load_pointer_held m p (Err f) e = tt

through_held : (m : Memory) (t : Option IntegerType) (v : Option Value) → AnswerIsHeld (load_through m t v)
through_held m (Some t) (Some (Address p)) = load_number_held t (load_at m p (access_bytes (Some t)) false)
through_held m None (Some (Address p)) = load_pointer_held m p (load_at m p 8 true) refl
through_held m t (Some (Word n)) = tt
through_held m t (Some Unset) = tt
through_held m t None = tt

pub load_held : (m : Memory) (ty : MemoryType) (v : Value) (plus : ℤ) → AnswerIsHeld (loaded_answer m ty v plus)
load_held m ty v plus = through_held m (memory_integer ty) (pointer_plus m v plus)
