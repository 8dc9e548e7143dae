-- What operators do with the values of registers. A value is a word, a pointer, or unset. A type of 4 bytes takes words
-- alone that have the sign of their low 32 bits above these.
use Rattle.std.specs.Prelude.{ℕ, ◌+◌, ◌==◌, not, ℤ, pos, Bool, true, false, Option, Some, None, option_map, Result, Ok, Err, if◌then◌else◌}
use Rattle.mem_model.specs.declared.value.Value.{Value}
use Rattle.mem_model.specs.declared.value.Value.TheVariants.{Word, Address, Unset}
use Rattle.mem_model.specs.declared.value.MemFault.{MemFault}
use Rattle.mem_model.specs.Memory.{Memory, load_at, store_at, copy_at}
use Rattle.mem_model.specs.Pointers.{pointer_plus, pointer_minus, pointer_eq, pointer_lt, pointer_le, is_null}
use Rattle.bk_arithmetic.specs.declared.integer_type.IntegerType.{IntegerType}
use Rattle.bk_arithmetic.specs.declared.integer_type.IntegerType.TheVariants.{Char, UnsignedChar, Short, UnsignedShort, Int, UnsignedInt, Long, UnsignedLong}
use Rattle.bk_arithmetic.specs.declared.outcome.ArithmeticOutcome.{ArithmeticOutcome}
use Rattle.bk_arithmetic.specs.declared.outcome.ArithmeticOutcome.TheVariants as o
use Rattle.bk_arithmetic.specs.IntegerTypes.{bytes}
use Rattle.bk_arithmetic.specs.Words.{value, extension, is_word, word}
use Rattle.bk_arithmetic.specs.Operations as c
use Rattle.suifvm_ir.specs.declared.types.VmType.{VmType}
use Rattle.suifvm_ir.specs.declared.types.VmType.TheVariants as v
use Rattle.suifvm_ir.specs.declared.types.MemoryType.{MemoryType}
use Rattle.suifvm_ir.specs.declared.types.MemoryType.TheVariants as m
use Rattle.suifvm_ir.specs.declared.insn.VmUnaryOp.{VmUnaryOp}
use Rattle.suifvm_ir.specs.declared.insn.VmUnaryOp.TheVariants.{Move, Negate, Complement}
use Rattle.suifvm_ir.specs.declared.insn.VmBinaryOp.{VmBinaryOp}
use Rattle.suifvm_ir.specs.declared.insn.VmBinaryOp.TheVariants.{Add, Subtract, Multiply, Divide, Remainder, And, Or, ExclusiveOr}
use Rattle.suifvm_ir.specs.declared.insn.ShiftOp.{ShiftOp}
use Rattle.suifvm_ir.specs.declared.insn.ShiftOp.TheVariants.{ArithmeticRight, Left, LogicalRight}
use Rattle.suifvm_ir.specs.declared.insn.CompareOp.{CompareOp}
use Rattle.suifvm_ir.specs.declared.insn.CompareOp.TheVariants.{Equal, NotEqual, Less, LessOrEqual}
use Rattle.suifvm_ir.specs.declared.insn.VmObject.{VmObject}
use Rattle.suifvm_ir.specs.declared.insn.VmObject.TheVariants.{Global, Local}
pub use Rattle.suifvm_meaning.specs.declared.answer.Answer.{Answer}
pub use Rattle.suifvm_meaning.specs.declared.answer.Answer.TheVariants.{Gives, TrapsWith, Fails}

-- ---- types

-- the integer type of a register, and of memory; that of a pointer is none
abbrev pub integer_of : VmType → Option IntegerType
integer_of v.S32 = Some Int
integer_of v.U32 = Some UnsignedInt
integer_of v.S64 = Some Long
integer_of v.U64 = Some UnsignedLong
integer_of v.P64 = None

abbrev pub memory_integer : MemoryType → Option IntegerType
memory_integer m.S8 = Some Char
memory_integer m.U8 = Some UnsignedChar
memory_integer m.S16 = Some Short
memory_integer m.U16 = Some UnsignedShort
memory_integer m.S32 = Some Int
memory_integer m.U32 = Some UnsignedInt
memory_integer m.S64 = Some Long
memory_integer m.U64 = Some UnsignedLong
memory_integer m.P64 = None

-- a value that is set may stand in a register of pointers
abbrev pub is_set : Value → Bool
is_set (Word n) = true
is_set (Address p) = true
is_set Unset = false

-- a value may stand in a register of numbers
abbrev pub is_integer_value : IntegerType → Value → Bool
is_integer_value t (Word n) = is_word t n
is_integer_value t (Address p) = false
is_integer_value t Unset = false

-- an instruction of the type may read a value
abbrev pub is_value_in : Option IntegerType → Value → Bool
is_value_in None v = is_set v
is_value_in (Some t) v = is_integer_value t v

abbrev pub is_value_of : VmType → Value → Bool
is_value_of ty v = is_value_in (integer_of ty) v

-- a value that may be read, as it is
abbrev pub when_value : VmType → Value → Answer
when_value ty v = if is_value_of ty v then Gives v else Fails

-- ---- answers

abbrev pub word_answer : (n : ℕ) → Answer
word_answer n = Gives (Word n)

abbrev pub outcome_answer : ArithmeticOutcome → Answer
outcome_answer (o.Word n) = Gives (Word n)
outcome_answer (o.Trap code) = TrapsWith code
outcome_answer o.Undefined = Fails

abbrev pub value_answer : Option Value → Answer
value_answer (Some v) = Gives v
value_answer None = Fails

-- a distance, as an `s64`
abbrev pub distance_answer : Option ℤ → Answer
distance_answer (Some z) = Gives (Word (word Long z))
distance_answer None = Fails

-- 1 or 0, as an `s32`
abbrev pub test_answer : Option Bool → Answer
test_answer (Some b) = Gives (Word (c.truth b))
test_answer None = Fails

-- an operation on one number, and on two
abbrev pub on_number : Option IntegerType → Value → (IntegerType → ℕ → Answer) → Answer
on_number (Some t) (Word n) f = if is_word t n then f t n else Fails
on_number _ _ f = Fails

abbrev pub on_numbers : Option IntegerType → (a b : Value) → (IntegerType → ℕ → ℕ → Answer) → Answer
on_numbers ty a b f = on_number ty a (λ t x. on_number ty b (λ u y. f t x y))

-- ---- operations on one value

abbrev pub unary_number : VmUnaryOp → IntegerType → ℕ → Answer
unary_number Move t n = word_answer n
unary_number Negate t n = outcome_answer (c.negation t n)
unary_number Complement t n = word_answer (c.complement t n)

-- a pointer can be moved from register to register alone
abbrev pub unary_pointer : VmUnaryOp → Value → Answer
unary_pointer Move a = when_value v.P64 a
unary_pointer Negate a = Fails
unary_pointer Complement a = Fails

abbrev pub unary_answer : VmUnaryOp → VmType → Value → Answer
unary_answer op v.P64 a = unary_pointer op a
unary_answer op ty a = on_number (integer_of ty) a (unary_number op)

-- a conversion takes any word
abbrev pub conversion_answer : Option IntegerType → Option IntegerType → Value → Answer
conversion_answer (Some s) (Some t) (Word n) = word_answer (c.conversion s t n)
conversion_answer _ _ _ = Fails

abbrev pub convert_answer : MemoryType → VmType → Value → Answer
convert_answer from to a = conversion_answer (memory_integer from) (integer_of to) a

-- ---- operations on two values

abbrev pub binary_number : VmBinaryOp → IntegerType → (a b : ℕ) → Answer
binary_number Add t a b = outcome_answer (c.sum t a b)
binary_number Subtract t a b = outcome_answer (c.difference t a b)
binary_number Multiply t a b = outcome_answer (c.product t a b)
binary_number Divide t a b = outcome_answer (c.quotient t a b)
binary_number Remainder t a b = outcome_answer (c.remainder t a b)
binary_number And t a b = word_answer (c.conjunction t a b)
binary_number Or t a b = word_answer (c.disjunction t a b)
binary_number ExclusiveOr t a b = word_answer (c.exclusive_disjunction t a b)

-- a pointer is moved by the bytes of an `s64`; two have a distance; nothing else is done with pointers
abbrev pub pointer_answer : Memory → VmBinaryOp → (a b : Value) → Answer
pointer_answer memory Add a (Word n) = value_answer (pointer_plus memory a (value Long n))
pointer_answer memory Subtract a b = distance_answer (pointer_minus memory a b)
pointer_answer memory _ a b = Fails

abbrev pub binary_answer : Memory → VmBinaryOp → VmType → (a b : Value) → Answer
binary_answer memory op v.P64 a b = pointer_answer memory op a b
binary_answer memory op ty a b = on_numbers (integer_of ty) a b (binary_number op)

-- the type of the same width whose numbers have signs, or have none
abbrev pub signed_type : IntegerType → IntegerType
signed_type UnsignedInt = Int
signed_type UnsignedLong = Long
signed_type t = t

abbrev pub without_sign : IntegerType → IntegerType
without_sign Int = UnsignedInt
without_sign Long = UnsignedLong
without_sign t = t

-- the count is a word
abbrev pub shift_number : ShiftOp → IntegerType → (a count : ℕ) → Answer
shift_number ArithmeticRight t a count = outcome_answer (c.right_shift (signed_type t) UnsignedLong a count)
shift_number Left t a count = outcome_answer (c.left_shift t UnsignedLong a count)
shift_number LogicalRight t a count = outcome_answer (c.right_shift (without_sign t) UnsignedLong a count)

abbrev pub shift_by : ShiftOp → (count : Value) → IntegerType → (a : ℕ) → Answer
shift_by op count t a = on_number (Some UnsignedLong) count (λ u k. shift_number op t a k)

abbrev pub shift_answer : ShiftOp → VmType → (a count : Value) → Answer
shift_answer op ty a count = on_number (integer_of ty) a (shift_by op count)

-- ---- comparisons

abbrev pub compare_number : CompareOp → IntegerType → (a b : ℕ) → Bool
compare_number Equal t a b = c.is_equal t a b
compare_number NotEqual t a b = not (c.is_equal t a b)
compare_number Less t a b = c.is_less t a b
compare_number LessOrEqual t a b = c.is_less_or_equal t a b

abbrev pub compare_pointer : Memory → CompareOp → (a b : Value) → Option Bool
compare_pointer memory Equal a b = pointer_eq memory a b
compare_pointer memory NotEqual a b = option_map not (pointer_eq memory a b)
compare_pointer memory Less a b = pointer_lt memory a b
compare_pointer memory LessOrEqual a b = pointer_le memory a b

abbrev pub comparison_answer : CompareOp → IntegerType → (a b : ℕ) → Answer
comparison_answer op t a b = word_answer (c.truth (compare_number op t a b))

abbrev pub compare_answer : Memory → CompareOp → VmType → (a b : Value) → Answer
compare_answer memory op v.P64 a b = test_answer (compare_pointer memory op a b)
compare_answer memory op ty a b = on_numbers (integer_of ty) a b (comparison_answer op)

-- a value is neither zero nor null
abbrev pub number_holds : Option IntegerType → Value → Option Bool
number_holds (Some t) (Word n) = if is_word t n then Some (not (n == 0)) else None
number_holds _ _ = None

abbrev pub value_holds : Memory → VmType → Value → Option Bool
value_holds memory v.P64 a = option_map not (is_null memory a)
value_holds memory ty a = number_holds (integer_of ty) a

-- ---- memory

-- the address of an object; own is the number of the first memory local of the call
abbrev pub place_address : (own : ℕ) → VmObject → (plus : ℕ) → Value
place_address own (Global k) plus = Address (record { object = k; offset = pos plus })
place_address own (Local k) plus = Address (record { object = own + k; offset = pos plus })

-- the bytes of an access, and whether it is one of a pointer
abbrev pub access_bytes : Option IntegerType → ℕ
access_bytes None = 8
access_bytes (Some t) = bytes t

abbrev pub is_pointer_access : Option IntegerType → Bool
is_pointer_access None = true
is_pointer_access (Some t) = false

-- what was loaded, as a register holds it
abbrev pub extended_value : Option IntegerType → Value → Value
extended_value (Some t) (Word n) = Word (extension t n)
extended_value _ a = a

abbrev pub load_answer : Option IntegerType → Result Value MemFault → Answer
load_answer ty (Ok a) = Gives (extended_value ty a)
load_answer ty (Err fault) = Fails

abbrev pub load_through : Memory → Option IntegerType → Option Value → Answer
load_through memory ty (Some (Address p)) = load_answer ty (load_at memory p (access_bytes ty) (is_pointer_access ty))
load_through memory ty _ = Fails

-- a load from a pointer moved by so many bytes
abbrev pub loaded_answer : Memory → MemoryType → Value → (plus : ℤ) → Answer
loaded_answer memory ty pointer plus = load_through memory (memory_integer ty) (pointer_plus memory pointer plus)

abbrev pub ok_of : Result Memory MemFault → Option Memory
ok_of (Ok memory) = Some memory
ok_of (Err fault) = None

-- a word may be stored by every type, an address as a pointer alone
abbrev pub is_storable : Option IntegerType → Value → Bool
is_storable ty (Word n) = true
is_storable None (Address p) = true
is_storable (Some t) (Address p) = false
is_storable ty Unset = false

abbrev pub store_through : Memory → Option IntegerType → Option Value → Value → Option Memory
store_through memory ty (Some (Address p)) a =
    if is_storable ty a then ok_of (store_at memory p (access_bytes ty) a) else None
store_through memory ty _ a = None

-- the memory after a store to a pointer moved by so many bytes
abbrev pub stored_memory : Memory → MemoryType → Value → (plus : ℤ) → Value → Option Memory
stored_memory memory ty pointer plus a = store_through memory (memory_integer ty) (pointer_plus memory pointer plus) a

-- the memory after a copy of so many cells at an alignment
abbrev pub copied_memory : Memory → (to from : Value) → (size align : ℕ) → Option Memory
copied_memory memory (Address p) (Address q) size align = ok_of (copy_at memory p q size align)
copied_memory memory _ _ size align = None
