-- Which registers an instruction over temporaries reads and writes by its kind, and which it ends, after the register
-- usage of the Alpha calling standard: registers 16 to 21 have the first six arguments, 0 what a function returns, and
-- 9 to 15 are kept by the called function. Registers 30 and 31 do not count.
use Rattle.std.specs.Prelude.{ℕ, not, ◌&&◌, ◌==◌, Bool, true, false, List, [], ◌∷◌, ◌++◌, filter, take, min}
use Rattle.std.specs.List.{list_all, list_any, range_with_len}
use Rattle.temp_ir.specs.declared.operation.Service.{Service}
use Rattle.temp_ir.specs.declared.operation.Service.TheVariants.{End, PutByte, GetByte, Trap}
use Rattle.temp_ir.specs.declared.insn.FixedRegister.{FixedRegister}
use Rattle.temp_ir.specs.declared.insn.FixedRegister.TheVariants.{Value, Argument0, Argument1, Argument2, Argument3, Argument4, Argument5, Dividend, Divisor, Answer}
use Rattle.temp_ir.specs.declared.insn.TempInsn.{TempInsn}
use Rattle.temp_ir.specs.declared.insn.TempInsn.TheVariants.{ToFixed, FromFixed, SetFixed, Call, Divide, Serve, Return}

-- the number of a fixed register
abbrev pub register_number : FixedRegister → ℕ
register_number Value = 0
register_number Argument0 = 16
register_number Argument1 = 17
register_number Argument2 = 18
register_number Argument3 = 19
register_number Argument4 = 20
register_number Argument5 = 21
register_number Dividend = 24
register_number Divisor = 25
register_number Answer = 27

-- the registers of the first six of so many arguments
abbrev pub argument_registers : (count : ℕ) → List ℕ
argument_registers count = take (min count 6) (16 ∷ 17 ∷ 18 ∷ 19 ∷ 20 ∷ 21 ∷ [])

abbrev pub service_reads : Service → List ℕ
service_reads End = 0 ∷ 16 ∷ []
service_reads PutByte = 0 ∷ 16 ∷ []
service_reads GetByte = 0 ∷ []
service_reads Trap = 16 ∷ []

abbrev pub service_writes : Service → List ℕ
service_writes GetByte = 0 ∷ []
service_writes _ = []

abbrev pub returned_registers : (with_value : Bool) → List ℕ
returned_registers true = 0 ∷ []
returned_registers false = []

-- the registers that an instruction reads as fixed, in order
abbrev pub fixed_reads_of : TempInsn → List ℕ
fixed_reads_of (FromFixed destination register) = register_number register ∷ []
fixed_reads_of (Call function arguments) = argument_registers arguments
fixed_reads_of (Divide routine) = 24 ∷ 25 ∷ []
fixed_reads_of (Serve service) = service_reads service
fixed_reads_of (Return with_value) = returned_registers with_value
fixed_reads_of _ = []

-- the registers that an instruction writes as fixed
abbrev pub fixed_writes_of : TempInsn → List ℕ
fixed_writes_of (ToFixed register source) = register_number register ∷ []
fixed_writes_of (SetFixed register number) = register_number register ∷ []
fixed_writes_of (Call function arguments) = 0 ∷ []
fixed_writes_of (Divide routine) = 27 ∷ []
fixed_writes_of (Serve service) = service_writes service
fixed_writes_of _ = []

-- the registers that a call of a function ends, and a call of a division routine
abbrev pub ended_by_calls : List ℕ
ended_by_calls = range_with_len 0 9 ++ range_with_len 16 14

abbrev pub ended_by_divisions : List ℕ
ended_by_divisions = 23 ∷ 27 ∷ 28 ∷ []

-- the registers that an instruction ends, before it writes
abbrev pub ended_of : TempInsn → List ℕ
ended_of (Call function arguments) = ended_by_calls
ended_of (Divide routine) = ended_by_divisions
ended_of _ = []

abbrev pub has_number : List ℕ → ℕ → Bool
has_number registers register = list_any (λ r. r == register) registers

-- the registers that were written as fixed and not ended since, behind an instruction
abbrev pub written_behind : (written : List ℕ) → TempInsn → List ℕ
written_behind written i = fixed_writes_of i ++ filter (λ register. not (has_number (ended_of i) register)) written

-- each register that an instruction of a block reads as fixed was written as fixed and not ended since
abbrev pub is_settled_block : (written : List ℕ) → List TempInsn → Bool
is_settled_block written [] = true
is_settled_block written (i ∷ insns) =
    list_all (has_number written) (fixed_reads_of i) && is_settled_block (written_behind written i) insns

-- so it is in each block of a function, where the arguments are written at the start of block 0
abbrev pub is_settled : (params : ℕ) → List (List TempInsn) → Bool
is_settled params [] = true
is_settled params (block ∷ blocks) =
    is_settled_block (argument_registers params) block && list_all (is_settled_block []) blocks
