-- What temporaries and registers hold over a memory of objects, and what the operations of the machine do with it. On
-- words each operation is that of the machine's step; a pointer moves within its object, and two of one object compare,
-- as in C (C99 6.5.6, 6.5.8, 6.5.9). What a load reads that is neither a number nor a pointer can be moved and stored.
use Rattle.std.specs.Prelude.{ℕ, zero, suc, ◌+◌, ◌-◌, ◌%◌, ◌^◌, ◌==◌, ◌-ℤ◌, ◌*ℤ◌, not, ℤ, pos, negsuc, Bool, true, false, List, length, Option, Some, None, option_map, option_and_then, if◌then◌else◌}
use Rattle.std.specs.Int.{w32, w64}
use Rattle.mem_model.specs.declared.value.Ptr.{Ptr}
use Rattle.mem_model.specs.declared.value.Value.{Value}
use Rattle.mem_model.specs.declared.value.Value.TheVariants.{Word, Address, Unset}
use Rattle.mem_model.specs.declared.value.Cell.{Cell}
use Rattle.mem_model.specs.declared.value.MemFault.{MemFault}
use Rattle.mem_model.specs.Cells.{bytes_of, parts_of, number_of, pointer_of}
use Rattle.mem_model.specs.Memory.{Memory, read_fault, write_fault, row_at, put_row}
use Rattle.mem_model.specs.Pointers.{pointer_plus, pointer_minus, pointer_eq, pointer_lt, pointer_le, is_null}
use Rattle.alpha_isa.specs.Arithmetic as isa
use Rattle.alpha_isa.specs.Arithmetic.{OperationEffect, Keeps, Overflows, word_at, word_from, signed_value, sign_extension, operation_effect}
use Rattle.alpha_isa.specs.Step.{is_branch_taken}
use Rattle.temp_ir.specs.declared.operation.AddressOp.{AddressOp}
use Rattle.temp_ir.specs.declared.operation.AddressOp.TheVariants.{Lda, Ldah}
use Rattle.temp_ir.specs.declared.operation.LoadOp.{LoadOp}
use Rattle.temp_ir.specs.declared.operation.LoadOp.TheVariants.{Ldbu, Ldwu, Ldl, Ldq}
use Rattle.temp_ir.specs.declared.operation.StoreOp.{StoreOp}
use Rattle.temp_ir.specs.declared.operation.StoreOp.TheVariants.{Stb, Stw, Stl, Stq}
use Rattle.temp_ir.specs.declared.operation.TempBranchOp.{TempBranchOp}
use Rattle.temp_ir.specs.declared.operation.TempBranchOp.TheVariants.{Beq, Bne}
use Rattle.temp_ir.specs.declared.operation.Operation.{Operation}
use Rattle.temp_ir.specs.declared.operation.Operation.TheVariants.{Addq, Subq, Cmpeq, Cmpult, Cmpule, Bis}
use Rattle.temp_ir.specs.declared.operation.ExtendOp.{ExtendOp}
use Rattle.temp_ir.specs.Operations.{branch_op, operate_op, extend_op}

-- a word, a pointer or nothing, or the cells of a load that are neither the bytes of a number nor one whole pointer
pub data Content : Type 0 where
  Plain : Value → Content
  Bundle : List Cell → Content

abbrev pub word_content : (n : ℕ) → Content
word_content n = Plain (Word n)

abbrev pub unset_content : Content
unset_content = Plain Unset

-- ---- what comes of an operation

-- a content, a trap with a code, or nothing that has a meaning
pub data ContentAnswer : Type 0 where
  Gives : Content → ContentAnswer
  TrapsWith : (code : ℕ) → ContentAnswer
  Fails : ContentAnswer

abbrev pub word_answer : (n : ℕ) → ContentAnswer
word_answer n = Gives (word_content n)

abbrev pub content_answer : Option Content → ContentAnswer
content_answer (Some c) = Gives c
content_answer None = Fails

-- a signed result that does not fit is the trap 3
abbrev pub effect_answer : OperationEffect → ContentAnswer
effect_answer (isa.Gives n) = word_answer n
effect_answer Keeps = Fails
effect_answer Overflows = TrapsWith 3

-- a whole number modulo 2^64
abbrev pub residue : ℤ → ℕ
residue (pos n) = n % 2 ^ 64
residue (negsuc n) = 2 ^ 64 - suc (n % 2 ^ 64)

-- the word of a distance, and of a test
abbrev pub distance_word : Option ℤ → Option Content
distance_word z = option_map (λ d. word_content (residue d)) z

abbrev pub test_word : Option Bool → Option Content
test_word test = option_map (λ b. word_content (if b then 1 else 0)) test

-- ---- operations

-- a pointer moved by so many bytes, within its object
abbrev pub pointer_moved : Memory → Value → (by : ℤ) → Option Content
pointer_moved m v by = option_map Plain (pointer_plus m v by)

-- what has a meaning besides words: a pointer is moved by a signed word, two pointers have a distance and compare, and
-- zero or a pointer or bundle is that
abbrev pub other_content : Memory → Operation → (a b : Content) → Option Content
other_content m Addq (Plain (Address p)) (Plain (Word n)) = pointer_moved m (Address p) (signed_value w64 n)
other_content m Addq (Plain (Word n)) (Plain (Address p)) = pointer_moved m (Address p) (signed_value w64 n)
other_content m Subq (Plain (Address p)) (Plain (Word n)) = pointer_moved m (Address p) (pos 0 -ℤ signed_value w64 n)
other_content m Subq (Plain (Address p)) (Plain (Address q)) =
    distance_word (pointer_minus m (Address p) (Address q))
other_content m Cmpeq (Plain a) (Plain b) = test_word (pointer_eq m a b)
other_content m Cmpult (Plain a) (Plain b) = test_word (pointer_lt m a b)
other_content m Cmpule (Plain a) (Plain b) = test_word (pointer_le m a b)
other_content m Bis (Plain (Word zero)) (Plain (Address p)) = Some (Plain (Address p))
other_content m Bis (Plain (Word zero)) (Bundle cells) = Some (Bundle cells)
other_content m _ a b = None

abbrev pub operate_answer : Memory → Operation → (a b : Content) → ContentAnswer
operate_answer m op (Plain (Word a)) (Plain (Word b)) = effect_answer (operation_effect (operate_op op) a b)
operate_answer m op a b = content_answer (other_content m op a b)

abbrev pub extend_answer : ExtendOp → Content → ContentAnswer
extend_answer op (Plain (Word n)) = effect_answer (operation_effect (extend_op op) 0 n)
extend_answer op _ = Fails

-- ---- addresses

-- by how many bytes a displacement moves
abbrev pub moved_bytes : AddressOp → (plus : ℤ) → ℤ
moved_bytes Lda plus = plus
moved_bytes Ldah plus = plus *ℤ pos 65536

-- a word or a pointer, moved by so many bytes
abbrev pub moved_content : Memory → Content → (by : ℤ) → Option Content
moved_content m (Plain (Word n)) by = Some (word_content (word_at (n + word_from by)))
moved_content m (Plain (Address p)) by = pointer_moved m (Address p) by
moved_content m _ by = None

-- the pointer moved by so many bytes, where it is one and stays in its object
abbrev pub pointer_in : Option Value → Option Ptr
pointer_in (Some (Address p)) = Some p
pointer_in _ = None

abbrev pub pointer_at : Memory → Content → (plus : ℤ) → Option Ptr
pointer_at m (Plain v) plus = pointer_in (pointer_plus m v plus)
pointer_at m (Bundle cells) plus = None

-- ---- loads and stores

-- the bytes of a load, and of a store
abbrev pub load_width : LoadOp → ℕ
load_width Ldbu = 1
load_width Ldwu = 2
load_width Ldl = 4
load_width Ldq = 8

abbrev pub store_width : StoreOp → ℕ
store_width Stb = 1
store_width Stw = 2
store_width Stl = 4
store_width Stq = 8

-- what cells stand for: the number whose bytes they are, the pointer whose parts they are, or a bundle
abbrev pub pointer_or_bundle : Option Value → List Cell → Content
pointer_or_bundle (Some v) cells = Plain v
pointer_or_bundle None cells = Bundle cells

abbrev pub number_or : Option ℕ → (other : Content) → Content
number_or (Some n) other = word_content n
number_or None other = other

abbrev pub content_of : List Cell → Content
content_of cells = number_or (number_of cells) (pointer_or_bundle (pointer_of cells) cells)

-- a number of 4 bytes is loaded with its sign in the bits above it
abbrev pub extended_content : LoadOp → Content → Content
extended_content Ldl (Plain (Word n)) = word_content (sign_extension w32 n)
extended_content op c = c

-- what is answered where there is no fault
abbrev pub unless_fault : {A : Type 0} → Option MemFault → A → Option A
unless_fault None answer = Some answer
unless_fault (Some fault) answer = None

abbrev pub content_in : Memory → LoadOp → Ptr → Option Content
content_in m op p =
    unless_fault (read_fault m p (load_width op) (load_width op))
    (extended_content op (content_of (row_at m p (load_width op))))

-- a load through a pointer that is moved by so many bytes
abbrev pub loaded_content : Memory → LoadOp → (pointer : Content) → (plus : ℤ) → Option Content
loaded_content m op pointer plus = option_and_then (content_in m op) (pointer_at m pointer plus)

-- the cells that a store of so many bytes puts: a pointer as a whole, and a bundle by its own width
abbrev pub when_width : Bool → List Cell → Option (List Cell)
when_width true cells = Some cells
when_width false cells = None

abbrev pub stored_cells : (width : ℕ) → Content → Option (List Cell)
stored_cells width (Plain (Word n)) = Some (bytes_of width n)
stored_cells width (Plain (Address p)) = when_width (width == 8) (parts_of p)
stored_cells width (Plain Unset) = None
stored_cells width (Bundle cells) = when_width (length cells == width) cells

abbrev pub memory_with : Memory → (width : ℕ) → Option Ptr → Option (List Cell) → Option Memory
memory_with m width (Some p) (Some cells) = unless_fault (write_fault m p width width) (put_row m p cells)
memory_with m width _ _ = None

-- the memory after a store through a pointer that is moved by so many bytes
abbrev pub stored_memory : Memory → StoreOp → (value pointer : Content) → (plus : ℤ) → Option Memory
stored_memory m op value pointer plus =
    memory_with m (store_width op) (pointer_at m pointer plus) (stored_cells (store_width op) value)

-- ---- branches

-- a pointer is tested against null
abbrev pub pointer_test : TempBranchOp → Option Bool → Option Bool
pointer_test Beq null = null
pointer_test Bne null = option_map not null
pointer_test _ null = None

abbrev pub branch_test : TempBranchOp → Memory → Content → Option Bool
branch_test op m (Plain (Word n)) = Some (is_branch_taken (branch_op op) n)
branch_test op m (Plain (Address p)) = pointer_test op (is_null m (Address p))
branch_test op m _ = None
