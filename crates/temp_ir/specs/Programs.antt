-- What every program over temporaries keeps.
use Rattle.std.specs.Prelude.{◌≡◌, ℕ, ◌<◌, ◌||◌, ◌==◌, nat_lt, Bool, true, false, List, [], All, IsTrue, length, count_by, slice_get, slice_index_or, Option, Some, None, codes, bytes_eq}
use Rattle.std.specs.List.{list_all}
use Rattle.mem_objects.specs.declared.DataObject.{DataObject}
use Rattle.pass_core.specs.declared.function.MemoryLocal.{MemoryLocal}
use Rattle.pass_core.specs.declared.function.Func.{Func}
use Rattle.pass_core.specs.Functions.{AllInsns}
use Rattle.suifvm_ir.specs.Programs.{place_reaches}
use Rattle.temp_ir.specs.declared.insn.TempInsn.{TempInsn}
use Rattle.temp_ir.specs.declared.insn.TempInsn.TheVariants.{ObjectAddress, Call, Mark}
use Rattle.temp_ir.specs.contracts.references.TempInsnInsn.TheImpl.{ghosts}
use Rattle.temp_ir.specs.Insns.{targets_of}
use Rattle.temp_ir.specs.Fixed.{is_settled}

-- a function over these instructions
abbrev pub TempFn : Type 0
TempFn = Func TempInsn ghosts

-- a function is the one where a program begins
abbrev pub is_main : TempFn → Bool
is_main f = bytes_eq f.name (codes "main")

abbrev pub main_count : List TempFn → ℕ
main_count functions = count_by is_main functions

-- a function is there, and takes so many arguments
abbrev pub function_takes : (count : ℕ) → Option TempFn → Bool
function_takes count None = false
function_takes count (Some f) = f.params == count

-- what an instruction names is there: an address lies in its object or at its end, and a call gives as many arguments
-- as the function takes
abbrev pub names_what_is_there : List TempFn → List DataObject → List MemoryLocal → TempInsn → Bool
names_what_is_there functions globals objects (ObjectAddress destination place plus) =
    place_reaches globals objects plus place
names_what_is_there functions globals objects (Call function arguments) =
    function_takes arguments (slice_get functions function)
names_what_is_there functions globals objects _ = true

-- a block begins with a mark
abbrev pub first_is_mark : Option TempInsn → Bool
first_is_mark (Some Mark) = true
first_is_mark _ = false

abbrev pub begins_with_mark : Option (List TempInsn) → Bool
begins_with_mark None = false
begins_with_mark (Some block) = first_is_mark (slice_get block 0)

-- each target of an instruction in a block is a later block, or one that begins with a mark
abbrev pub goes_back_to_marks : List (List TempInsn) → (block : ℕ) → TempInsn → Bool
goes_back_to_marks blocks block i =
    list_all (λ target. nat_lt block target || begins_with_mark (slice_get blocks target)) (targets_of i)

-- what a program asks of each of its functions
pub record IsLawfulTempFn (functions : List TempFn) (globals : List DataObject) (f : TempFn) : Type 0 where
  pub main : is_main f ≡ true → f.params ≡ 0
  pub names : AllInsns (λ i. IsTrue (names_what_is_there functions globals f.objects i)) f.blocks
  pub marks : (block : ℕ) → block < length f.blocks →
      All (λ i. IsTrue (goes_back_to_marks f.blocks block i)) (slice_index_or f.blocks block [])
  pub settled : IsTrue (is_settled f.params f.blocks)
