-- What one step of the machine does, a case for each instruction, after the integer part of the Alpha
-- Architecture Handbook. The services and their numbers are this project's own.
use Rattle.std.specs.Prelude.{ℕ, zero, suc, ◌+◌, ◌-◌, ◌*◌, ◌/◌, ◌%◌, ◌^◌, ℤ, pos, ◌*ℤ◌, Bool, true, false, not, int_lt, ◌==◌, List, [], ◌∷◌, ◌++◌, Option, Some, None, if◌then◌else◌}
use Rattle.std.specs.Int.{w8, w16, w32, w64, from_le_bytes, to_le_bytes}
use Rattle.alpha_isa.specs.declared.insn.Fields.{Fields}
use Rattle.alpha_isa.specs.declared.insn.Fields.TheVariants as fields
use Rattle.alpha_isa.specs.declared.insn.MemoryOp.{MemoryOp}
use Rattle.alpha_isa.specs.declared.insn.MemoryOp.TheVariants.{Lda, Ldah, Ldbu, Ldwu, Stw, Stb, Ldl, Ldq, Stl, Stq}
use Rattle.alpha_isa.specs.declared.insn.BranchOp.{BranchOp}
use Rattle.alpha_isa.specs.declared.insn.BranchOp.TheVariants.{Br, Bsr, Blbc, Beq, Blt, Ble, Blbs, Bne, Bge, Bgt}
use Rattle.alpha_isa.specs.Arithmetic.{OperationEffect, Gives, Keeps, Overflows, word_at, word_from, signed_value, sign_extension, operation_effect}
use Rattle.alpha_isa.specs.Program.{Program, instruction_at}
use Rattle.alpha_isa.specs.State.{State, register, with_register, operand_value, bytes_at, with_bytes}

-- how a run ends: with a status, by a trap, or at a place where there is nothing that it can do
pub data Halt : Type 0 where
  Done : (status : ℕ) → Halt
  Trap : (code : ℕ) → Halt
  Stuck : (pc : ℕ) → Halt

-- where the machine stands after a step, or how it ended and where it stood
pub data MachineNext : Type 0 where
  Goes : State → MachineNext
  Over : Halt → State → MachineNext

-- the machine goes on with the next instruction
abbrev pub next_pc : State → ℕ
next_pc s = s.pc + 4

abbrev pub next_instruction : State → MachineNext
next_instruction s = Goes (record s { pc = next_pc s })

abbrev pub stuck_at : State → MachineNext
stuck_at s = Over (Stuck s.pc) s

-- ---- addresses and memory

-- a register plus a displacement
abbrev pub memory_address : State → ℕ → ℤ → ℕ
memory_address s rb disp = word_at (register s rb + word_from disp)

-- a load gives what was read to a register, and a store goes on from what was written
abbrev pub load_into : (List ℕ → ℕ) → ℕ → Option (List ℕ) → State → MachineNext
load_into value ra None s = stuck_at s
load_into value ra (Some bytes) s = next_instruction (with_register ra (value bytes) s)

abbrev pub go_on_stored : Option State → State → MachineNext
go_on_stored None s = stuck_at s
go_on_stored (Some t) s = next_instruction t

abbrev pub memory_step : Program → MemoryOp → ℕ → ℕ → ℤ → State → MachineNext
memory_step p Lda ra rb disp s = next_instruction (with_register ra (memory_address s rb disp) s)
memory_step p Ldah ra rb disp s = next_instruction (with_register ra (memory_address s rb (disp *ℤ pos 65536)) s)
memory_step p Ldbu ra rb disp s = load_into (from_le_bytes w8) ra (bytes_at p s (memory_address s rb disp) 1) s
memory_step p Ldwu ra rb disp s = load_into (from_le_bytes w16) ra (bytes_at p s (memory_address s rb disp) 2) s
memory_step p Ldl ra rb disp s =
    load_into (λ bytes. sign_extension w32 (from_le_bytes w32 bytes)) ra (bytes_at p s (memory_address s rb disp) 4) s
memory_step p Ldq ra rb disp s = load_into (from_le_bytes w64) ra (bytes_at p s (memory_address s rb disp) 8) s
memory_step p Stb ra rb disp s =
    go_on_stored (with_bytes p s (memory_address s rb disp) (to_le_bytes w8 (register s ra))) s
memory_step p Stw ra rb disp s =
    go_on_stored (with_bytes p s (memory_address s rb disp) (to_le_bytes w16 (register s ra))) s
memory_step p Stl ra rb disp s =
    go_on_stored (with_bytes p s (memory_address s rb disp) (to_le_bytes w32 (register s ra))) s
memory_step p Stq ra rb disp s =
    go_on_stored (with_bytes p s (memory_address s rb disp) (to_le_bytes w64 (register s ra))) s

-- ---- branches and jumps

-- the test that a branch makes of its register
abbrev pub is_branch_taken : BranchOp → ℕ → Bool
is_branch_taken Br a = true
is_branch_taken Bsr a = true
is_branch_taken Blbc a = a % 2 == 0
is_branch_taken Blbs a = a % 2 == 1
is_branch_taken Beq a = a == 0
is_branch_taken Bne a = not (a == 0)
is_branch_taken Blt a = int_lt (signed_value w64 a) (pos 0)
is_branch_taken Bge a = not (int_lt (signed_value w64 a) (pos 0))
is_branch_taken Ble a = not (int_lt (pos 0) (signed_value w64 a))
is_branch_taken Bgt a = int_lt (pos 0) (signed_value w64 a)

-- br and bsr leave the next address in their register
abbrev pub links : BranchOp → Bool
links Br = true
links Bsr = true
links _ = false

-- so many instructions past the next one
abbrev pub branch_target : State → ℤ → ℕ
branch_target s disp = word_at (next_pc s + word_from (disp *ℤ pos 4))

abbrev pub branch_step : BranchOp → ℕ → ℤ → State → MachineNext
branch_step op ra disp s =
    let linked = if links op then with_register ra (next_pc s) s else s in
    Goes (record linked { pc = if is_branch_taken op (register s ra) then branch_target s disp else next_pc s })

-- a jump leaves the next address in its register, and goes to the other's with its two low bits cleared
abbrev pub jump_step : ℕ → ℕ → State → MachineNext
jump_step ra rb s = Goes (record (with_register ra (next_pc s) s) { pc = register s rb / 4 * 4 })

-- ---- operations

-- a trap for overflow has the code 3, and nothing is written
abbrev pub operate_step : OperationEffect → ℕ → State → MachineNext
operate_step (Gives word) rc s = next_instruction (with_register rc word s)
operate_step Keeps rc s = next_instruction s
operate_step Overflows rc s = Over (Trap 3) s

-- ---- services

-- the next byte of the input, or -1 at its end
abbrev pub input_word : List ℕ → ℕ
input_word [] = 2 ^ 64 - 1
input_word (byte ∷ bytes) = byte

abbrev pub input_rest : List ℕ → List ℕ
input_rest [] = []
input_rest (byte ∷ bytes) = bytes

-- what the program is asked by the number in register 0: 1 ends it with a status, 2 puts a byte, 3 takes one
abbrev pub service_step : ℕ → State → MachineNext
service_step number s =
    if number == 1 then Over (Done (register s 16 % 256)) s
    else if number == 2 then next_instruction (record s { output = s.output ++ (register s 16 % 256) ∷ [] })
    else if number == 3
    then next_instruction (with_register 0 (input_word s.input) (record s { input = input_rest s.input }))
    else stuck_at s

-- 83 (hexadecimal) calls a service, AA traps with the code in register 16
abbrev pub pal_step : ℕ → State → MachineNext
pal_step function s =
    if function == 0x83 then service_step (register s 0) s
    else if function == 0xAA then Over (Trap (register s 16)) s
    else stuck_at s

-- ---- steps

abbrev pub insn_step : Program → Fields → State → MachineNext
insn_step p (fields.Memory op ra rb disp) s = memory_step p op ra rb disp s
insn_step p (fields.Branch op ra disp) s = branch_step op ra disp s
insn_step p (fields.Jump op ra rb) s = jump_step ra rb s
insn_step p (fields.Operate op ra rb rc) s =
    operate_step (operation_effect op (register s ra) (operand_value s rb)) rc s
insn_step p (fields.Pal function) s = pal_step function s

abbrev pub fetched_step : Program → Option Fields → State → MachineNext
fetched_step p None s = stuck_at s
fetched_step p (Some i) s = insn_step p i s

-- one step from a state
unfoldable pub step : Program → State → MachineNext
step p s = fetched_step p (instruction_at p s.pc) s

-- at most so many steps: where the machine stands then, or how it ended
abbrev pub go_on : MachineNext → (State → MachineNext) → MachineNext
go_on (Goes s) run = run s
go_on (Over h s) run = Over h s

unfoldable pub exec : Program → ℕ → State → MachineNext
exec p zero s = Goes s
exec p (suc n) s = go_on (step p s) (exec p n)
