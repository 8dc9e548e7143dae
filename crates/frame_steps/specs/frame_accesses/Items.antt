-- Items that reach the frame, at an offset from register 30, and that move registers.
use Rattle.std.specs.Prelude.{ℕ, ◌*◌, ◌==◌, nat_lt, pos, ◌-ℤ◌, List, [], ◌∷◌, if◌then◌else◌}
use Rattle.alpha_isa.specs.declared.insn.Fields.TheVariants.{Memory, Operate}
use Rattle.alpha_isa.specs.declared.insn.Operand.TheVariants.{Reg}
use Rattle.alpha_isa.specs.declared.insn.MemoryOp.{MemoryOp}
use Rattle.alpha_isa.specs.declared.insn.MemoryOp.TheVariants.{Lda, Ldah, Ldq, Stq}
use Rattle.alpha_isa.specs.declared.insn.OperateOp.TheVariants.{Bis}
use Rattle.alpha_items.specs.declared.item.AsmItem.{AsmItem}
use Rattle.alpha_items.specs.declared.item.AsmItem.TheVariants.{Plain}
use Rattle.alpha_items.specs.Words.{high_of}

-- offsets that fit a displacement
abbrev pub near_size : ℕ
near_size = 32768

-- an instruction at an offset from register 30; where that is far, register `way` has the most of the sum
abbrev pub frame_item : MemoryOp → (way register offset : ℕ) → List AsmItem
frame_item op way r offset =
    if nat_lt offset near_size then Plain (Memory op r 30 (pos offset)) ∷ []
    else Plain (Memory Ldah way 30 (pos (high_of offset)))
    ∷ Plain (Memory op r way (pos offset -ℤ pos (high_of offset * 65536))) ∷ []

-- loads, stores and addresses in the frame
abbrev pub frame_load : (register offset : ℕ) → List AsmItem
frame_load r offset = frame_item Ldq 29 r offset

abbrev pub frame_store : (register offset : ℕ) → List AsmItem
frame_store r offset = frame_item Stq 29 r offset

abbrev pub frame_address : (register offset : ℕ) → List AsmItem
frame_address r offset = frame_item Lda 29 r offset

-- a register comes to hold what another one holds
abbrev pub register_move : (from to : ℕ) → List AsmItem
register_move from to = if from == to then [] else Plain (Operate Bis 31 (Reg from) to) ∷ []
