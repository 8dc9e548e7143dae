-- The types and registers in which values of C stand.
--
-- The first registers are the locals of the function, by their numbers. Behind them stand the registers of expressions:
-- for each depth one of each type, so a register keeps one type.
use Rattle.std.specs.Prelude.{ℕ, ◌+◌, ◌*◌, ◌==◌, Bool, true, false, List, take, count_by, if◌then◌else◌}
use Rattle.c_typed_tree.specs.declared.units.Local.{Local}
use Rattle.c_typed_tree.specs.Types.{PlainType, Void, Int, Pointer, Array, Struct}
use Rattle.suifvm_ir.specs.declared.types.VmType.{VmType}
use Rattle.suifvm_ir.specs.declared.types.VmType.TheVariants as v
use Rattle.suifvm_ir.specs.declared.types.MemoryType.{MemoryType}
use Rattle.suifvm_ir.specs.declared.types.MemoryType.TheVariants as m

-- a value below `int` stands in a register of `int`, as its promotion does (C99 6.3.1.1)
abbrev pub signed_register : (bytes : ℕ) → VmType
signed_register bytes = if bytes == 8 then v.S64 else v.S32

abbrev pub unsigned_register : (bytes : ℕ) → VmType
unsigned_register bytes = if bytes == 8 then v.U64 else if bytes == 4 then v.U32 else v.S32

-- the type of the register in which a value stands; that of an array or a struct is its address
abbrev pub register_type : PlainType → VmType
register_type Void = v.S32
register_type (Int bytes true) = signed_register bytes
register_type (Int bytes false) = unsigned_register bytes
register_type (Pointer target) = v.P64
register_type (Array element length) = v.P64
register_type (Struct number) = v.P64

abbrev pub signed_memory : (bytes : ℕ) → MemoryType
signed_memory bytes = if bytes == 8 then m.S64 else if bytes == 4 then m.S32 else if bytes == 2 then m.S16 else m.S8

abbrev pub unsigned_memory : (bytes : ℕ) → MemoryType
unsigned_memory bytes = if bytes == 8 then m.U64 else if bytes == 4 then m.U32 else if bytes == 2 then m.U16 else m.U8

-- the type by which a scalar is loaded and stored
abbrev pub memory_type : PlainType → MemoryType
memory_type (Int bytes true) = signed_memory bytes
memory_type (Int bytes false) = unsigned_memory bytes
memory_type _ = m.P64

-- ---- registers

abbrev pub type_place : VmType → ℕ
type_place v.S32 = 0
type_place v.U32 = 1
type_place v.S64 = 2
type_place v.U64 = 3
type_place v.P64 = 4

-- the register of a type at a depth, behind those of so many locals
abbrev pub temporary : (locals depth : ℕ) → VmType → ℕ
temporary locals depth ty = locals + 5 * depth + type_place ty

-- the register of a value of a type of C
abbrev pub value_register : (locals depth : ℕ) → PlainType → ℕ
value_register locals depth ty = temporary locals depth (register_type ty)

abbrev pub address_register : (locals depth : ℕ) → ℕ
address_register locals depth = temporary locals depth v.P64

-- the register of a number of bytes, by which a pointer is moved
abbrev pub bytes_register : (locals depth : ℕ) → ℕ
bytes_register locals depth = temporary locals depth v.S64

-- ---- objects

-- the object of a memory local: the memory locals are the objects of the function, in order
abbrev pub object_index : List Local → (local : ℕ) → ℕ
object_index ls k = count_by (λ l. l.in_memory) (take k ls)
