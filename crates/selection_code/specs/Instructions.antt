-- What each instruction over virtual registers becomes.
use Rattle.std.specs.Prelude.{ℕ, zero, suc, ◌+◌, ◌-◌, ◌==◌, nat_lt, pos, true, false, List, [], ◌∷◌, ◌++◌, length, Option, Some, None, if◌then◌else◌}
use Rattle.suifvm_ir.specs.declared.insn.VmBuiltin.{VmBuiltin}
use Rattle.suifvm_ir.specs.declared.insn.VmBuiltin.TheVariants.{PutChar, GetChar, Abort, Exit}
use Rattle.suifvm_ir.specs.declared.insn.VmCallee.{VmCallee}
use Rattle.suifvm_ir.specs.declared.insn.VmCallee.TheVariants as c
use Rattle.suifvm_ir.specs.declared.insn.TypedRegister.{TypedRegister}
use Rattle.suifvm_ir.specs.declared.insn.VmInsn.{VmInsn}
use Rattle.suifvm_ir.specs.declared.insn.VmInsn.TheVariants as vm
use Rattle.temp_ir.specs.declared.operation.Operation.TheVariants.{Zapnot}
use Rattle.temp_ir.specs.declared.operation.Service.TheVariants.{End, PutByte, GetByte, Trap}
use Rattle.temp_ir.specs.declared.insn.FixedRegister.{FixedRegister}
use Rattle.temp_ir.specs.declared.insn.FixedRegister.TheVariants.{Value, Argument0, Argument1, Argument2, Argument3, Argument4, Argument5}
use Rattle.temp_ir.specs.declared.insn.TempInsn.{TempInsn}
use Rattle.temp_ir.specs.declared.insn.TempInsn.TheVariants as i
use Rattle.selection_forms.specs.alpha_forms.Registers.{scratch_count}
use Rattle.selection_forms.specs.alpha_forms.Constants.{constant_items}
use Rattle.selection_forms.specs.alpha_forms.Accesses.{load_items, store_items}
use Rattle.selection_forms.specs.alpha_forms.Operations.{on_literal, unary_items, binary_items, shift_items, convert_items, compare_items, temp_branch}
use Rattle.selection_forms.specs.alpha_copies.Copies.{copy_items}

-- the temporary that stands for a register
abbrev pub temp_of : (register : ℕ) → ℕ
temp_of register = register + scratch_count

-- ---- calls of functions

-- the register of one of the first six arguments
abbrev pub argument_register : (k : ℕ) → FixedRegister
argument_register k =
    if k == 0 then Argument0 else if k == 1 then Argument1 else if k == 2 then Argument2 else if k == 3 then Argument3
    else if k == 4 then Argument4 else Argument5

-- an argument with a number is put into its register, or into its argument place from the seventh on
abbrev pub pass_item : (k temp : ℕ) → TempInsn
pass_item k temp = if nat_lt k 6 then i.ToFixed (argument_register k) temp else i.WriteArgument (k - 6) temp

-- arguments from a number on
abbrev pub pass_items : (k : ℕ) → (arguments : List ℕ) → List TempInsn
pass_items k [] = []
pass_items k (a ∷ arguments) = pass_item k (temp_of a) ∷ pass_items (suc k) arguments

-- the called function takes one, and so many from a number on, into the registers with their numbers
abbrev pub take_item : (k temp : ℕ) → TempInsn
take_item k temp = if nat_lt k 6 then i.FromFixed temp (argument_register k) else i.ReadArgument temp (k - 6)

abbrev pub take_items : (k count : ℕ) → List TempInsn
take_items k zero = []
take_items k (suc count) = take_item k (temp_of k) ∷ take_items (suc k) count

-- the result is put into a register, if one is named
abbrev pub result_items : Option ℕ → List TempInsn
result_items None = []
result_items (Some d) = i.FromFixed (temp_of d) Value ∷ []

abbrev pub function_call_items : (destination : Option ℕ) → (function : ℕ) → (arguments : List ℕ) → List TempInsn
function_call_items destination function arguments =
    pass_items 0 arguments ++ i.Call function (length arguments) ∷ result_items destination

-- ---- calls of built-in functions: services of the machine, whose numbers stand in register 0

abbrev pub byte_items : Option ℕ → (argument : ℕ) → List TempInsn
byte_items None a = []
byte_items (Some d) a = on_literal Zapnot (temp_of d) (temp_of a) 1 ∷ []

-- the low byte is put, and is the result
abbrev pub put_char_items : Option ℕ → (arguments : List ℕ) → List TempInsn
put_char_items destination [] = []
put_char_items destination (a ∷ arguments) =
    i.ToFixed Argument0 (temp_of a) ∷ i.SetFixed Value (pos 2) ∷ i.Serve PutByte ∷ byte_items destination a

abbrev pub get_char_items : Option ℕ → List TempInsn
get_char_items destination = i.SetFixed Value (pos 3) ∷ i.Serve GetByte ∷ result_items destination

-- the trap 2
abbrev pub abort_items : List TempInsn
abort_items = i.SetFixed Argument0 (pos 2) ∷ i.Serve Trap ∷ []

abbrev pub exit_call_items : (arguments : List ℕ) → List TempInsn
exit_call_items [] = []
exit_call_items (a ∷ arguments) = i.ToFixed Argument0 (temp_of a) ∷ i.SetFixed Value (pos 1) ∷ i.Serve End ∷ []

abbrev pub builtin_items : Option ℕ → VmBuiltin → (arguments : List ℕ) → List TempInsn
builtin_items destination PutChar arguments = put_char_items destination arguments
builtin_items destination GetChar arguments = get_char_items destination
builtin_items destination Abort arguments = abort_items
builtin_items destination Exit arguments = exit_call_items arguments

abbrev pub call_items : Option ℕ → VmCallee → (arguments : List ℕ) → List TempInsn
call_items destination (c.Function k) arguments = function_call_items destination k arguments
call_items destination (c.Builtin b) arguments = builtin_items destination b arguments

-- ---- all instructions

abbrev pub return_items : Option TypedRegister → List TempInsn
return_items None = i.Return false ∷ []
return_items (Some value) = i.ToFixed Value (temp_of value.register) ∷ i.Return true ∷ []

abbrev pub selected_insn : VmInsn → List TempInsn
selected_insn (vm.LoadConstant ty d word) = constant_items (temp_of d) word
selected_insn (vm.LoadAddress d place plus) = i.ObjectAddress (temp_of d) place plus ∷ []
selected_insn (vm.Load ty d pointer plus) = load_items ty (temp_of d) (temp_of pointer) plus
selected_insn (vm.Store ty pointer plus value) = store_items ty (temp_of pointer) plus (temp_of value)
selected_insn (vm.Copy to from size align) = copy_items align (temp_of to) (temp_of from) size
selected_insn (vm.Unary op ty d a) = unary_items op ty (temp_of d) (temp_of a)
selected_insn (vm.Binary op ty d a b) = binary_items op ty (temp_of d) (temp_of a) (temp_of b)
selected_insn (vm.Shift op ty d a count) = shift_items op ty (temp_of d) (temp_of a) (temp_of count)
selected_insn (vm.Convert from to d a) = convert_items from to (temp_of d) (temp_of a)
selected_insn (vm.Compare op ty d a b) = compare_items op ty (temp_of d) (temp_of a) (temp_of b)
selected_insn (vm.Branch op ty a block) = i.Branch (temp_branch op) (temp_of a) block ∷ []
selected_insn (vm.Jump block) = i.Jump block ∷ []
selected_insn (vm.Call d callee arguments) = call_items d callee arguments
selected_insn (vm.Return value) = return_items value
selected_insn vm.Mark = i.Mark ∷ []
selected_insn vm.Nop = []
