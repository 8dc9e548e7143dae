-- What every program keeps, and its size.
use Rattle.std.specs.Prelude.{◌≡◌, ℕ, ◌+◌, ◌*◌, ◌%◌, ◌<◌, ◌≤◌, ◌==◌, ◌||◌, nat_lt, nat_le, Bool, true, false, List, [], All, IsTrue, length, sum_by, count_by, slice_get, slice_index_or, Option, Some, None, codes, bytes_eq}
use Rattle.std.specs.List.{list_all}
use Rattle.mem_objects.specs.declared.DataObject.{DataObject}
use Rattle.suifvm_ir.specs.declared.types.Alignment.{Alignment}
use Rattle.suifvm_ir.specs.declared.types.Alignment.TheVariants.{One, Two, Four, Eight}
use Rattle.suifvm_ir.specs.declared.insn.VmObject.{VmObject}
use Rattle.suifvm_ir.specs.declared.insn.VmObject.TheVariants.{Global, Local}
use Rattle.suifvm_ir.specs.declared.insn.VmBuiltin.{VmBuiltin}
use Rattle.suifvm_ir.specs.declared.insn.VmBuiltin.TheVariants as b
use Rattle.suifvm_ir.specs.declared.insn.VmCallee.{VmCallee}
use Rattle.suifvm_ir.specs.declared.insn.VmCallee.TheVariants as c
use Rattle.suifvm_ir.specs.declared.insn.VmInsn.{VmInsn}
use Rattle.suifvm_ir.specs.declared.insn.VmInsn.TheVariants.{LoadAddress, Copy, Call, Mark}
use Rattle.pass_core.specs.declared.function.MemoryLocal.{MemoryLocal}
use Rattle.pass_core.specs.declared.function.Func.{Func}
use Rattle.suifvm_ir.specs.contracts.references.VmInsnInsn.TheImpl.{ghosts}
use Rattle.suifvm_ir.specs.Insns.{targets_of}
use Rattle.pass_core.specs.Functions.{AllInsns, count_of}

-- a function over these instructions
abbrev pub VmFunction : Type 0
VmFunction = Func VmInsn ghosts

-- a function is the one where a program begins
abbrev pub is_main : VmFunction → Bool
is_main f = bytes_eq f.name (codes "main")

abbrev pub main_count : List VmFunction → ℕ
main_count functions = count_by is_main functions

-- an object is there, and has so many bytes at least
abbrev pub global_reaches : (plus : ℕ) → Option DataObject → Bool
global_reaches plus None = false
global_reaches plus (Some o) = nat_le plus o.size

abbrev pub local_reaches : (plus : ℕ) → Option MemoryLocal → Bool
local_reaches plus None = false
local_reaches plus (Some o) = nat_le plus o.size

abbrev pub place_reaches : List DataObject → List MemoryLocal → (plus : ℕ) → VmObject → Bool
place_reaches globals objects plus (Global k) = global_reaches plus (slice_get globals k)
place_reaches globals objects plus (Local k) = local_reaches plus (slice_get objects k)

-- how many arguments a built-in function takes
abbrev pub builtin_parameters : VmBuiltin → ℕ
builtin_parameters b.PutChar = 1
builtin_parameters b.GetChar = 0
builtin_parameters b.Abort = 0
builtin_parameters b.Exit = 1

-- a function is there, and takes so many arguments
abbrev pub function_takes : (count : ℕ) → Option VmFunction → Bool
function_takes count None = false
function_takes count (Some f) = f.params == count

abbrev pub callee_takes : List VmFunction → (count : ℕ) → VmCallee → Bool
callee_takes functions count (c.Function k) = function_takes count (slice_get functions k)
callee_takes functions count (c.Builtin builtin) = builtin_parameters builtin == count

-- an alignment in bytes
abbrev pub alignment_bytes : Alignment → ℕ
alignment_bytes One = 1
alignment_bytes Two = 2
alignment_bytes Four = 4
alignment_bytes Eight = 8

-- what an instruction names is there: an address lies in its object or at its end, a call gives as many arguments as
-- the function takes, a copy has a whole number of units of its alignment
abbrev pub names_what_is_there : List VmFunction → List DataObject → List MemoryLocal → VmInsn → Bool
names_what_is_there functions globals objects (LoadAddress destination place plus) =
    place_reaches globals objects plus place
names_what_is_there functions globals objects (Copy to from size align) = size % alignment_bytes align == 0
names_what_is_there functions globals objects (Call destination callee arguments) =
    callee_takes functions (length arguments) callee
names_what_is_there functions globals objects _ = true

-- a block begins with a mark
abbrev pub first_is_mark : Option VmInsn → Bool
first_is_mark (Some Mark) = true
first_is_mark _ = false

abbrev pub begins_with_mark : Option (List VmInsn) → Bool
begins_with_mark None = false
begins_with_mark (Some block) = first_is_mark (slice_get block 0)

-- each target of an instruction in a block is a later block, or one that begins with a mark
abbrev pub goes_back_to_marks : List (List VmInsn) → (block : ℕ) → VmInsn → Bool
goes_back_to_marks blocks block i =
    list_all (λ target. nat_lt block target || begins_with_mark (slice_get blocks target)) (targets_of i)

-- what a program asks of each of its functions
pub record IsLawfulFunction (functions : List VmFunction) (globals : List DataObject) (f : VmFunction) : Type 0 where
  pub parameters : f.params ≤ f.temps
  pub main : is_main f ≡ true → f.params ≡ 0
  pub names : AllInsns (λ i. IsTrue (names_what_is_there functions globals f.objects i)) f.blocks
  pub marks : (block : ℕ) → block < length f.blocks →
      All (λ i. IsTrue (goes_back_to_marks f.blocks block i)) (slice_index_or f.blocks block [])

-- what counts for an instruction besides itself: its arguments, and twice the cells that it copies
abbrev pub weight_of : VmInsn → ℕ
weight_of (Copy to from size align) = 2 * size
weight_of (Call destination callee arguments) = length arguments
weight_of _ = 0

-- how many arguments an instruction gives
abbrev pub arguments_of : VmInsn → ℕ
arguments_of (Call destination callee arguments) = length arguments
arguments_of _ = 0

abbrev pub function_size : VmFunction → ℕ
function_size f =
    length f.blocks + count_of f.blocks + f.params + sum_by (λ block. sum_by weight_of block) f.blocks

-- the blocks and instructions of all functions, with their parameters, arguments and copies
abbrev pub program_size : List VmFunction → ℕ
program_size functions = sum_by function_size functions
