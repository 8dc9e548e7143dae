-- What is said of values in registers.
use Rattle.std.specs.Prelude.{◌≡◌, ◌≢◌, ◌⊎◌, ◌<◌, ◌==◌, ℕ, pos, Bool, true, false, not, map, Some, Ok}
use Rattle.mem_model.specs.declared.value.Value.{Value}
use Rattle.mem_model.specs.declared.value.Value.TheVariants.{Word, Address}
use Rattle.mem_model.specs.declared.value.Ptr.{Ptr}
use Rattle.mem_model.specs.Memory.{Memory, load_at, store_at}
use Rattle.mem_model.specs.Pointers.{is_live, pointer_plus}
use Rattle.mem_model.specs.Related.{Names, IsValueOf, IsMemoryOf}
use Rattle.bk_arithmetic.specs.declared.integer_type.IntegerType.{IntegerType}
use Rattle.bk_arithmetic.specs.declared.outcome.ArithmeticOutcome.TheVariants.{Undefined}
use Rattle.bk_arithmetic.specs.IntegerTypes.{promote, is_signed}
use Rattle.bk_arithmetic.specs.Words.{extension, is_word}
use Rattle.bk_arithmetic.specs.Operations.{conversion}
use Rattle.suifvm_meaning.specs.declared.answer.Answer.TheVariants.{Gives}
use Rattle.mem_model.specs.World.{Outer}
use Rattle.c_tree.specs.declared.expressions.BinaryOp.{BinaryOp}
use Rattle.c_tree.specs.declared.expressions.BinaryOp.TheVariants as b
use Rattle.c_typed_tree.specs.Constants.{integers_with}
use Rattle.machine_model.specs.Code.{Act}
use Rattle.suifvm_ir.specs.declared.insn.VmInsn.{VmInsn}
use Rattle.suifvm_ir.specs.Insns.{reads_of}
use Rattle.suifvm_ir.specs.declared.types.VmType.TheVariants.{P64}
use Rattle.suifvm_ir.specs.declared.types.MemoryType.{MemoryType}
use Rattle.suifvm_meaning.specs.Operations.{integer_of, memory_integer, convert_answer, outcome_answer, value_holds, access_bytes, is_pointer_access, extended_value, loaded_answer, is_storable, stored_memory}
use Rattle.suifvm_meaning.specs.Effect.{does, writes}
use Rattle.suifvm_meaning.specs.Behave.{Registers}
use Rattle.lowering_code.specs.Registers.{register_type, memory_type}
use Rattle.lowering_code.specs.Expressions.{plain_of, keeps_register, narrow_type, operation_of, operation_insn}

-- an integer type stands in the register of its promotion, and is loaded and stored as itself
pub record TypeStands (t : IntegerType) : Type 0 where
  pub register : integer_of (register_type (plain_of t)) ≡ Some (promote t)
  pub memory : memory_integer (memory_type (plain_of t)) ≡ Some t
  pub words : (n : ℕ) → is_word t n ≡ true → extension (promote t) n ≡ n

abbrev pub TypesStand : Type 0
TypesStand = (t : IntegerType) → TypeStands t

-- a word of a type is converted: by no instruction, where it is the word of the other type already, and else by one
-- that gives that
pub record Converts (s t : IntegerType) (n : ℕ) : Type 0 where
  pub kept : keeps_register (plain_of s) (plain_of t) ≡ true → conversion s t n ≡ n
  pub made : convert_answer (narrow_type (plain_of s) (plain_of t)) (register_type (plain_of t)) (Word n)
      ≡ Gives (Word (conversion s t n))

abbrev pub ConversionsCorrespond : Type 0
ConversionsCorrespond = (s t : IntegerType) (n : ℕ) → is_word s n ≡ true → Converts s t n

-- ---- operators

-- what an instruction does on registers
abbrev pub does_in : (own : ℕ) → Registers → Outer → VmInsn → Act Value
does_in own r o insn = does insn own (map r (reads_of insn)) o

-- a shift, whose count has a type of its own
abbrev pub is_shift_operator : BinaryOp → Bool
is_shift_operator b.ShiftLeft = true
is_shift_operator b.ShiftRight = true
is_shift_operator op = false

-- the instruction of an operator gives, in registers of a promoted type, what the operator does with two words, where
-- that is defined
abbrev pub OperatorsCorrespond : Type 0
OperatorsCorrespond =
    (op : BinaryOp) (t c : IntegerType) (destination left right own : ℕ) (r : Registers) (o : Outer) (x y : ℕ) →
    promote t ≡ t → (is_shift_operator op ≡ false → c ≡ t) → r left ≡ Word x → r right ≡ Word y → is_word t x ≡ true
    → is_word c y ≡ true → integers_with op t c x y ≢ Undefined →
    does_in own r o
    (operation_insn (operation_of op (is_signed t)) (register_type (plain_of t)) destination left right)
    ≡ writes (outcome_answer (integers_with op t c x y)) o

-- ---- tests

-- a word of a type holds where it is not zero, null does not, and a pointer to a live object does
pub record TestsCorrespond (f : Names) (m n : Memory) : Type 0 where
  pub words : (t : IntegerType) (k : ℕ) → is_word t k ≡ true
      → value_holds n (register_type (plain_of t)) (Word k) ≡ Some (not (k == 0))
  pub null : value_holds n P64 (Word 0) ≡ Some false
  pub pointers : (p : Ptr) (w : Value) → is_live m p ≡ true → IsValueOf f (Address p) w
      → value_holds n P64 w ≡ Some true

-- ---- accesses

-- a pointer is another one, moved by so many bytes; by none it stays, whatever it is
abbrev pub IsMoved : Memory → (base : Value) → (plus : ℕ) → (moved : Value) → Type 0
IsMoved m base plus moved = ((plus ≡ 0) × (moved ≡ base)) ⊎ (pointer_plus m base (pos plus) ≡ Some moved)

-- what a load gives, as a register holds it
abbrev pub load_result : MemoryType → Value → Value
load_result ty v = extended_value (memory_integer ty) v

-- a load, and a store, at a pointer moved by so many bytes, in a memory that stands for another one
pub record AccessesCorrespond (f : Names) (m n : Memory) : Type 0 where
  pub loads : (ty : MemoryType) (base w : Value) (plus : ℕ) (p : Ptr) (v : Value) → IsValueOf f base w
      → IsMoved m base plus (Address p) → 0 < access_bytes (memory_integer ty)
      → load_at m p (access_bytes (memory_integer ty)) (is_pointer_access (memory_integer ty)) ≡ Ok v
      → (x : Value) × (loaded_answer n ty w (pos plus) ≡ Gives (load_result ty x)) × IsValueOf f v x
  pub stores : (ty : MemoryType) (base w : Value) (plus : ℕ) (p : Ptr) (v a : Value) (m1 : Memory)
      → IsValueOf f base w → IsMoved m base plus (Address p) → 0 < access_bytes (memory_integer ty)
      → is_storable (memory_integer ty) v ≡ true → IsValueOf f v a
      → store_at m p (access_bytes (memory_integer ty)) v ≡ Ok m1
      → (n1 : Memory) × (stored_memory n ty w (pos plus) a ≡ Some n1) × IsMemoryOf f m1 n1

abbrev pub MemoriesCorrespond : Type 0
MemoriesCorrespond =
    (f : Names) (m n : Memory) → IsMemoryOf f m n → TestsCorrespond f m n × AccessesCorrespond f m n
