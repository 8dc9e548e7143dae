-- What the blocks of a selected function keep of those of the function.
use Rattle.std.specs.Prelude.{◌≡◌, ℕ, ◌+◌, ◌≤◌, List, All, IsTrue, true, length, slice_get, Some}
use Rattle.pass_core.specs.Functions.{AllInsns, GoesToBlocks, UsesRegisters, EndsLate, stops}
use Rattle.suifvm_ir.specs.Programs.{VmFunction}
use Rattle.suifvm_ir.specs.Programs as vm
use Rattle.suifvm_ir.specs.declared.insn.VmInsn.{VmInsn}
use Rattle.mem_objects.specs.declared.DataObject.{DataObject}
use Rattle.temp_ir.specs.Programs.{TempFn, function_takes, names_what_is_there, goes_back_to_marks}
use Rattle.temp_ir.specs.declared.insn.TempInsn.{TempInsn}
use Rattle.temp_ir.specs.Fixed.{is_settled}
use Rattle.temp_ir.specs.Insns.{targets_of, flows_on_of, reads_of, writes_of}
use Rattle.selection_code.specs.Functions.{selected_blocks}

-- targets are blocks other than the entry, what goes elsewhere stands last in its block, and nothing runs off the end
pub record IsShaped (blocks : List (List TempInsn)) : Type 0 where
  pub targets : AllInsns (GoesToBlocks targets_of (length blocks)) blocks
  pub straight : All (EndsLate targets_of flows_on_of) blocks
  pub stops : IsTrue (stops flows_on_of blocks)

abbrev pub BlocksAreShaped : Type 0
BlocksAreShaped = (f : VmFunction) → IsShaped (selected_blocks f.params f.blocks)

-- four temporaries more than registers are named
abbrev pub RegistersAreUsed : Type 0
RegistersAreUsed =
    (f : VmFunction) → f.params ≤ f.temps →
    AllInsns (UsesRegisters reads_of writes_of (f.temps + 4)) (selected_blocks f.params f.blocks)

-- each fixed register that an instruction reads was written as fixed by an earlier one of its block
abbrev pub FunctionsAreSettled : Type 0
FunctionsAreSettled = (f : VmFunction) → IsTrue (is_settled f.params (selected_blocks f.params f.blocks))

-- a jump back goes to a block that begins with a mark, where each of the function does
abbrev pub SelectionKeepsMarks : Type 0
SelectionKeepsMarks =
    (f : VmFunction) →
    ((b : ℕ) (insns : List VmInsn) → slice_get f.blocks b ≡ Some insns →
    All (λ y. IsTrue (vm.goes_back_to_marks f.blocks b y)) insns) →
    (b : ℕ) (code : List TempInsn) → slice_get (selected_blocks f.params f.blocks) b ≡ Some code →
    All (λ z. IsTrue (goes_back_to_marks (selected_blocks f.params f.blocks) b z)) code

-- what the blocks name is there, where that of the function is and functions take as many arguments as before
abbrev pub SelectedNamesAreThere : Type 0
SelectedNamesAreThere =
    (fs : List VmFunction) (ts : List TempFn) (globals : List DataObject) (f : VmFunction) →
    ((k count : ℕ) → vm.function_takes count (slice_get fs k) ≡ true → function_takes count (slice_get ts k) ≡ true) →
    AllInsns (λ y. IsTrue (vm.names_what_is_there fs globals f.objects y)) f.blocks →
    AllInsns (λ z. IsTrue (names_what_is_there ts globals f.objects z)) (selected_blocks f.params f.blocks)
