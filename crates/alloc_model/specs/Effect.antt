-- What each instruction does with what it reads, in order, wherever that stands: temporaries, then fixed registers,
-- then argument places.
use Rattle.std.specs.Prelude.{ℕ, ◌+◌, ◌-◌, ◌%◌, ◌==◌, nat_lt, ◌&&◌, max, Option, Some, None, Bool, true, false, List, [], ◌∷◌, ◌++◌, map, pos, slice_index_or, if◌then◌else◌}
use Rattle.std.specs.List.{range_with_len}
use Rattle.std.specs.Int.{w32}
use Rattle.mem_model.specs.declared.value.Value.TheVariants.{Word, Address, Unset}
use Rattle.mem_model.specs.Memory.{Memory}
use Rattle.mem_model.specs.World.{Outer, outer_with_memory, take_byte, put_byte}
use Rattle.machine_model.specs.Code.{Exits, Traps, HasNoMeaning, Act, Writes, Jumps, Calls, Returns, Stops}
use Rattle.alpha_isa.specs.Arithmetic.{word_from, sign_extension}
use Rattle.alpha_isa.specs.Step.{input_word}
use Rattle.alpha_rt.specs.Routine as rt
use Rattle.suifvm_ir.specs.declared.insn.VmObject.{VmObject}
use Rattle.suifvm_ir.specs.declared.insn.VmObject.TheVariants.{Global, Local}
use Rattle.temp_ir.specs.declared.operation.DivisionRoutine.{DivisionRoutine}
use Rattle.temp_ir.specs.declared.operation.DivisionRoutine.TheVariants.{Divq, Remq, Divqu, Remqu, Divl, Reml, Divlu, Remlu}
use Rattle.temp_ir.specs.declared.operation.Service.{Service}
use Rattle.temp_ir.specs.declared.operation.Service.TheVariants.{End, PutByte, GetByte, Trap}
use Rattle.temp_ir.specs.declared.insn.FirstOperand.{FirstOperand}
use Rattle.temp_ir.specs.declared.insn.FirstOperand.TheVariants as source
use Rattle.temp_ir.specs.declared.insn.SecondOperand.{SecondOperand}
use Rattle.temp_ir.specs.declared.insn.SecondOperand.TheVariants as operand
use Rattle.temp_ir.specs.declared.insn.TempInsn.{TempInsn}
use Rattle.temp_ir.specs.declared.insn.TempInsn.TheVariants as i
use Rattle.temp_ir.specs.Insns.{reads_of, writes_of}
use Rattle.temp_ir.specs.Fixed.{argument_registers, fixed_reads_of, fixed_writes_of}
use Rattle.alloc_model.specs.Contents.{Content, Plain, word_content, unset_content, ContentAnswer, Gives, TrapsWith, Fails, word_answer, content_answer, operate_answer, extend_answer, moved_bytes, moved_content, loaded_content, stored_memory, branch_test}

-- ---- what holds something in a call

-- a temporary, a register by its number, an argument of this call from the seventh on, one of the next call
pub data Holder : Type 0 where
  Temp : ℕ → Holder
  Fixed : ℕ → Holder
  Incoming : ℕ → Holder
  Outgoing : ℕ → Holder

abbrev pub holder_eq : Holder → Holder → Bool
holder_eq (Temp a) (Temp b) = a == b
holder_eq (Fixed a) (Fixed b) = a == b
holder_eq (Incoming a) (Incoming b) = a == b
holder_eq (Outgoing a) (Outgoing b) = a == b
holder_eq _ _ = false

-- the argument places of so many arguments
abbrev pub argument_places : (arguments : ℕ) → List ℕ
argument_places arguments = range_with_len 0 (arguments - 6)

-- where a called function finds so many arguments
abbrev pub entry_holders : (arguments : ℕ) → List Holder
entry_holders arguments = map Fixed (argument_registers arguments) ++ map Incoming (argument_places arguments)

-- what an instruction reads and writes besides temporaries
abbrev pub places_read : TempInsn → List Holder
places_read (i.Call function arguments) = map Outgoing (argument_places arguments)
places_read (i.ReadArgument destination number) = Incoming number ∷ []
places_read _ = []

abbrev pub places_written : TempInsn → List Holder
places_written (i.WriteArgument number source) = Outgoing number ∷ []
places_written _ = []

abbrev pub others_read : TempInsn → List Holder
others_read x = map Fixed (fixed_reads_of x) ++ places_read x

abbrev pub others_written : TempInsn → List Holder
others_written x = map Fixed (fixed_writes_of x) ++ places_written x

abbrev pub holders_read : TempInsn → List Holder
holders_read x = map Temp (reads_of x) ++ others_read x

abbrev pub holders_written : TempInsn → List Holder
holders_written x = map Temp (writes_of x) ++ others_written x

-- after a call its argument places hold nothing
abbrev pub calls_function : TempInsn → Bool
calls_function (i.Call function arguments) = true
calls_function _ = false

abbrev pub is_emptied : TempInsn → Holder → Bool
is_emptied x (Outgoing k) = calls_function x
is_emptied x _ = false

-- ---- what comes of an answer

abbrev pub fails : Outer → Act Content
fails o = Stops HasNoMeaning o

-- a content is written
abbrev pub writes : ContentAnswer → Outer → Act Content
writes (Gives c) o = Writes (c ∷ []) o
writes (TrapsWith code) o = Stops (Traps code) o
writes Fails o = fails o

-- the memory is another one
abbrev pub changes : Option Memory → Outer → Act Content
changes (Some m) o = Writes [] (outer_with_memory o m)
changes None o = fails o

abbrev pub branches : Option Bool → Outer → Act Content
branches (Some true) o = Jumps 0 o
branches (Some false) o = Writes [] o
branches None o = fails o

-- ---- operands

abbrev pub content_at : List Content → (k : ℕ) → Content
content_at cs k = slice_index_or cs k unset_content

abbrev pub left_content : FirstOperand → List Content → Content
left_content source.Zero cs = word_content 0
left_content (source.Temp t) cs = content_at cs 0

-- how many temporaries stand before the second operand
abbrev pub right_index : FirstOperand → ℕ
right_index source.Zero = 0
right_index (source.Temp t) = 1

abbrev pub right_content : FirstOperand → SecondOperand → List Content → Content
right_content left (operand.Temp t) cs = content_at cs (right_index left)
right_content left (operand.Literal n) cs = word_content n

abbrev pub sole_content : SecondOperand → List Content → Content
sole_content (operand.Temp t) cs = content_at cs 0
sole_content (operand.Literal n) cs = word_content n

-- the address of an object; own is the number of the first memory local of the call
abbrev pub place_content : (own : ℕ) → VmObject → (plus : ℕ) → Content
place_content own (Global k) plus = Plain (Address (record { object = k; offset = pos plus }))
place_content own (Local k) plus = Plain (Address (record { object = own + k; offset = pos plus }))

-- ---- division routines and services

abbrev pub routine_of : DivisionRoutine → rt.Routine
routine_of Divq = rt.Divq
routine_of Remq = rt.Remq
routine_of Divqu = rt.Divqu
routine_of Remqu = rt.Remqu
routine_of Divl = rt.Divl
routine_of Reml = rt.Reml
routine_of Divlu = rt.Divlu
routine_of Remlu = rt.Remlu

abbrev pub is_long : DivisionRoutine → Bool
is_long Divl = true
is_long Reml = true
is_long Divlu = true
is_long Remlu = true
is_long _ = false

-- a routine of 32 bits takes words alone that have the sign of their low 32 bits above these
abbrev pub takes_word : DivisionRoutine → ℕ → Bool
takes_word r n = if is_long r then sign_extension w32 n == n else true

abbrev pub outcome_answer : rt.RoutineEnding → ContentAnswer
outcome_answer (rt.Answers n) = word_answer n
outcome_answer (rt.Traps code) = TrapsWith code

abbrev pub words_division : DivisionRoutine → (a b : ℕ) → ContentAnswer
words_division r a b =
    if takes_word r a && takes_word r b then outcome_answer (rt.routine_outcome (routine_of r) a b) else Fails

abbrev pub division_answer : DivisionRoutine → (a b : Content) → ContentAnswer
division_answer r (Plain (Word a)) (Plain (Word b)) = words_division r a b
division_answer r _ _ = Fails

-- the number of a service in register 0
abbrev pub service_number : Service → ℕ
service_number End = 1
service_number PutByte = 2
service_number GetByte = 3
service_number Trap = 0

abbrev pub holds_number : ℕ → Content → Bool
holds_number n (Plain (Word m)) = m == n
holds_number n _ = false

abbrev pub end_act : Content → Outer → Act Content
end_act (Plain (Word n)) o = Stops (Exits (n % 256)) o
end_act _ o = fails o

abbrev pub put_act : Content → Outer → Act Content
put_act (Plain (Word n)) o = Writes [] (put_byte o (n % 256))
put_act _ o = fails o

abbrev pub trap_act : Content → Outer → Act Content
trap_act (Plain (Word n)) o = Stops (Traps n) o
trap_act _ o = fails o

abbrev pub when_number : Service → Content → Act Content → Outer → Act Content
when_number s c act o = if holds_number (service_number s) c then act else fails o

abbrev pub serve_act : Service → List Content → Outer → Act Content
serve_act End cs o = when_number End (content_at cs 0) (end_act (content_at cs 1) o) o
serve_act PutByte cs o = when_number PutByte (content_at cs 0) (put_act (content_at cs 1) o) o
serve_act GetByte cs o =
    when_number GetByte (content_at cs 0) (Writes (word_content (input_word o.input) ∷ []) (take_byte o)) o
serve_act Trap cs o = trap_act (content_at cs 0) o

-- ---- arguments

-- an argument place that holds nothing cannot be read
abbrev pub argument_answer : Content → ContentAnswer
argument_answer (Plain Unset) = Fails
argument_answer c = Gives c

-- the arguments of the widest call
abbrev pub width_of : TempInsn → ℕ
width_of (i.Call function arguments) = arguments
width_of _ = 0

abbrev pub widest_in : List TempInsn → ℕ
widest_in [] = 0
widest_in (x ∷ xs) = max (width_of x) (widest_in xs)

abbrev pub widest_call : List (List TempInsn) → ℕ
widest_call [] = 0
widest_call (block ∷ blocks) = max (widest_in block) (widest_call blocks)

-- ---- one clause for each instruction, in a function with a widest call. Moves to and from fixed registers and
-- argument places, the passing of arguments and that of a result hand over whatever is held

abbrev pub does : (widest : ℕ) → TempInsn → (own : ℕ) → List Content → Outer → Act Content
does widest (i.Address op destination base plus) own cs o =
    writes (content_answer (moved_content o.memory (left_content base cs) (moved_bytes op plus))) o
does widest (i.ObjectAddress destination place plus) own cs o = writes (Gives (place_content own place plus)) o
does widest (i.Load op destination pointer plus) own cs o =
    writes (content_answer (loaded_content o.memory op (content_at cs 0) plus)) o
does widest (i.Store op value pointer plus) own cs o =
    changes (stored_memory o.memory op (left_content value cs) (content_at cs (right_index value)) plus) o
does widest (i.Operate op destination left right) own cs o =
    writes (operate_answer o.memory op (left_content left cs) (right_content left right cs)) o
does widest (i.Extend op destination source) own cs o = writes (extend_answer op (sole_content source cs)) o
does widest (i.ToFixed register source) own cs o = Writes cs o
does widest (i.FromFixed destination register) own cs o = Writes cs o
does widest (i.SetFixed register number) own cs o = writes (word_answer (word_from number)) o
does widest (i.WriteArgument number source) own cs o = if nat_lt (number + 6) widest then Writes cs o else fails o
does widest (i.ReadArgument destination number) own cs o = writes (argument_answer (content_at cs 0)) o
does widest (i.Branch op source block) own cs o = branches (branch_test op o.memory (content_at cs 0)) o
does widest (i.Jump block) own cs o = Jumps 0 o
does widest (i.Call function arguments) own cs o = Calls function cs o
does widest (i.Divide routine) own cs o =
    writes (division_answer routine (content_at cs 0) (content_at cs 1)) o
does widest (i.Serve service) own cs o = serve_act service cs o
does widest (i.Return with_value) own cs o = Returns cs o
does widest i.Mark own cs o = Writes [] o

-- a call of a function, a service and a mark take a turn
abbrev pub takes_turn : TempInsn → Bool
takes_turn (i.Call function arguments) = true
takes_turn (i.Serve service) = true
takes_turn i.Mark = true
takes_turn _ = false
