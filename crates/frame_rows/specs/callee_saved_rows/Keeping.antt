-- A function that keeps a value in one of the registers 9 to 15 over a call, after the register usage of the Alpha
-- calling standard: a call ends the registers 0 to 8 and 16 to 29, and the called function keeps the others.
use Rattle.std.specs.Prelude.{ℕ, ℤ, true, List, [], ◌∷◌}
use Rattle.temp_ir.specs.declared.operation.AddressOp.TheVariants.{Lda}
use Rattle.temp_ir.specs.declared.operation.Operation.TheVariants.{Addq}
use Rattle.temp_ir.specs.declared.insn.FixedRegister.TheVariants.{Value}
use Rattle.temp_ir.specs.declared.insn.FirstOperand.TheVariants as first
use Rattle.temp_ir.specs.declared.insn.SecondOperand.TheVariants as second
use Rattle.temp_ir.specs.declared.insn.TempInsn.{TempInsn}
use Rattle.temp_ir.specs.declared.insn.TempInsn.TheVariants.{Address, Call, FromFixed, Operate, ToFixed, Return}
use Rattle.alloc_model.specs.declared.allocation.Transfer.{Transfer}
use Rattle.alloc_model.specs.Places.{Plan}
use Rattle.frame_rows.specs.declared.callee_saved_rows.registers.KeptRegister.{KeptRegister}
use Rattle.frame_rows.specs.declared.callee_saved_rows.registers.KeptRegister.TheVariants.{Register9, Register10, Register11, Register12, Register13, Register14, Register15}

-- the number of a register that is kept
abbrev pub kept_number : KeptRegister → ℕ
kept_number Register9 = 9
kept_number Register10 = 10
kept_number Register11 = 11
kept_number Register12 = 12
kept_number Register13 = 13
kept_number Register14 = 14
kept_number Register15 = 15

-- the sum of a value and of what a function returns that is called behind it
abbrev pub kept_sum : (value : ℤ) → (callee : ℕ) → List TempInsn
kept_sum value callee =
    Address Lda 0 first.Zero value ∷ Call callee 0 ∷ FromFixed 1 Value
    ∷ Operate Addq 2 (first.Temp 0) (second.Temp 1) ∷ ToFixed Value 2 ∷ Return true ∷ []

-- the value has the register, and two others are used behind the call
abbrev pub stated_registers : (register : ℕ) → List (List ℕ)
stated_registers r = (r ∷ []) ∷ [] ∷ (1 ∷ []) ∷ (r ∷ 1 ∷ 2 ∷ []) ∷ (2 ∷ []) ∷ [] ∷ []

-- nothing is moved before any of the six instructions
abbrev pub no_transfers : List (List Transfer)
no_transfers = [] ∷ [] ∷ [] ∷ [] ∷ [] ∷ [] ∷ []

abbrev pub kept_plan : (register : ℕ) → (value : ℤ) → (callee : ℕ) → Plan
kept_plan register value callee = record {
  function = record { sizes = []; blocks = kept_sum value callee ∷ [] };
  params = 0;
  temps = 3;
  top = [] ∷ [];
  bottom = [] ∷ [];
  at = no_transfers;
  regs = stated_registers register;
  edges = [];
}
