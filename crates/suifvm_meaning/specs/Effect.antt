-- What each instruction does with the values that it reads, in order, and with the outer part.
use Rattle.std.specs.Prelude.{ℕ, ◌-◌, ◌%◌, ◌^◌, not, Bool, true, false, List, [], ◌∷◌, slice_index_or, Option, Some, None, if◌then◌else◌}
use Rattle.std.specs.List.{list_all}
use Rattle.mem_model.specs.declared.value.Value.{Value}
use Rattle.mem_model.specs.declared.value.Value.TheVariants.{Word, Unset}
use Rattle.mem_model.specs.Memory.{Memory}
use Rattle.mem_model.specs.World.{Outer, outer_with_memory, next_byte, take_byte, put_byte}
use Rattle.machine_model.specs.Code.{Exits, Traps, HasNoMeaning, Act, Writes, Jumps, Calls, Returns, Stops}
use Rattle.suifvm_ir.specs.declared.insn.VmBranchOp.{VmBranchOp}
use Rattle.suifvm_ir.specs.declared.insn.VmBranchOp.TheVariants.{IfTrue, IfFalse}
use Rattle.suifvm_ir.specs.declared.insn.VmBuiltin.{VmBuiltin}
use Rattle.suifvm_ir.specs.declared.insn.VmBuiltin.TheVariants.{PutChar, GetChar, Abort, Exit}
use Rattle.suifvm_ir.specs.declared.insn.VmCallee.{VmCallee}
use Rattle.suifvm_ir.specs.declared.insn.VmCallee.TheVariants as callee
use Rattle.suifvm_ir.specs.declared.insn.TypedRegister.{TypedRegister}
use Rattle.suifvm_ir.specs.declared.insn.VmInsn.{VmInsn}
use Rattle.suifvm_ir.specs.declared.insn.VmInsn.TheVariants.{LoadConstant, LoadAddress, Load, Store, Copy, Unary, Binary, Shift, Convert, Compare, Branch, Jump, Call, Return, Mark, Nop}
use Rattle.suifvm_ir.specs.Programs.{alignment_bytes}
use Rattle.suifvm_meaning.specs.Operations.{Answer, Gives, TrapsWith, Fails, is_set, is_value_of, when_value, unary_answer, convert_answer, binary_answer, shift_answer, compare_answer, value_holds, place_address, loaded_answer, stored_memory, copied_memory}

-- ---- what comes of an answer

abbrev pub fails : Outer → Act Value
fails o = Stops HasNoMeaning o

-- a value is written
abbrev pub writes : Answer → Outer → Act Value
writes (Gives v) o = Writes (v ∷ []) o
writes (TrapsWith code) o = Stops (Traps code) o
writes Fails o = fails o

-- the memory is another one
abbrev pub changes : Option Memory → Outer → Act Value
changes (Some memory) o = Writes [] (outer_with_memory o memory)
changes None o = fails o

-- a branch that is taken where the test gives this
abbrev pub is_branch_taken : VmBranchOp → Bool → Bool
is_branch_taken IfTrue test = test
is_branch_taken IfFalse test = not test

abbrev pub branches : VmBranchOp → Option Bool → Outer → Act Value
branches op (Some test) o = if is_branch_taken op test then Jumps 0 o else Writes [] o
branches op None o = fails o

-- ---- calls

-- the byte of the input as an `int`, or -1 at its end
abbrev pub input_word : Option ℕ → ℕ
input_word (Some byte) = byte
input_word None = 2 ^ 64 - 1

abbrev pub first_source : List Value → Value
first_source vs = slice_index_or vs 0 Unset

abbrev pub second_source : List Value → Value
second_source vs = slice_index_or vs 1 Unset

-- the low byte is put, and is the result
abbrev pub puts_char : Value → Outer → Act Value
puts_char (Word n) o = Writes (Word (n % 256) ∷ []) (put_byte o (n % 256))
puts_char _ o = fails o

-- the run ends with a status modulo 256
abbrev pub exits_with : Value → Outer → Act Value
exits_with (Word n) o = Stops (Exits (n % 256)) o
exits_with _ o = fails o

abbrev pub builtin_act : VmBuiltin → List Value → Outer → Act Value
builtin_act PutChar vs o = puts_char (first_source vs) o
builtin_act GetChar vs o = Writes (Word (input_word (next_byte o)) ∷ []) (take_byte o)
builtin_act Abort vs o = Stops (Traps 2) o
builtin_act Exit vs o = exits_with (first_source vs) o

abbrev pub callee_act : VmCallee → List Value → Outer → Act Value
callee_act (callee.Function k) vs o = Calls k vs o
callee_act (callee.Builtin builtin) vs o = builtin_act builtin vs o

-- each argument has to be set
abbrev pub call_act : VmCallee → List Value → Outer → Act Value
call_act c vs o = if list_all is_set vs then callee_act c vs o else fails o

abbrev pub return_act : Option TypedRegister → List Value → Outer → Act Value
return_act None vs o = Returns [] o
return_act (Some value) vs o =
    if is_value_of value.ty (first_source vs) then Returns (first_source vs ∷ []) o else fails o

-- ---- one clause for each instruction; own is the number of the first memory local of the call

abbrev pub does : VmInsn → (own : ℕ) → List Value → Outer → Act Value
does (LoadConstant ty destination word) own vs o = writes (when_value ty (Word word)) o
does (LoadAddress destination place plus) own vs o = writes (Gives (place_address own place plus)) o
does (Load ty destination pointer plus) own vs o = writes (loaded_answer o.memory ty (first_source vs) plus) o
does (Store ty pointer plus value) own vs o =
    changes (stored_memory o.memory ty (first_source vs) plus (second_source vs)) o
does (Copy to from size align) own vs o =
    changes (copied_memory o.memory (first_source vs) (second_source vs) size (alignment_bytes align)) o
does (Unary op ty destination source) own vs o = writes (unary_answer op ty (first_source vs)) o
does (Binary op ty destination left right) own vs o =
    writes (binary_answer o.memory op ty (first_source vs) (second_source vs)) o
does (Shift op ty destination source count) own vs o =
    writes (shift_answer op ty (first_source vs) (second_source vs)) o
does (Convert from to destination source) own vs o = writes (convert_answer from to (first_source vs)) o
does (Compare op ty destination left right) own vs o =
    writes (compare_answer o.memory op ty (first_source vs) (second_source vs)) o
does (Branch op ty source block) own vs o = branches op (value_holds o.memory ty (first_source vs)) o
does (Jump block) own vs o = Jumps 0 o
does (Call destination c arguments) own vs o = call_act c vs o
does (Return value) own vs o = return_act value vs o
does Mark own vs o = Writes [] o
does Nop own vs o = Writes [] o

-- a mark and a call take a turn
abbrev pub takes_turn : VmInsn → Bool
takes_turn (Call destination c arguments) = true
takes_turn Mark = true
takes_turn _ = false
