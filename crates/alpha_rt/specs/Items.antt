-- The routines as items of an assembly: the same instructions, whose branches name labels.
use Rattle.std.specs.Prelude.{◌≡◌, ℕ, ◌+◌, ◌≤◌, pos, Bool, false, List, [], ◌∷◌, ◌++◌, length, map, replicate}
use Rattle.alpha_isa.specs.declared.insn.Fields.{Fields}
use Rattle.alpha_isa.specs.declared.insn.Fields.TheVariants as fields
use Rattle.alpha_isa.specs.declared.insn.Operand.TheVariants.{Reg, Literal}
use Rattle.alpha_isa.specs.declared.insn.MemoryOp.TheVariants.{Lda}
use Rattle.alpha_isa.specs.declared.insn.BranchOp.TheVariants.{Br, Bsr, Beq, Bne}
use Rattle.alpha_isa.specs.declared.insn.JumpOp.TheVariants.{Ret}
use Rattle.alpha_isa.specs.declared.insn.OperateOp.{OperateOp}
use Rattle.alpha_isa.specs.declared.insn.OperateOp.TheVariants.{Addq, Subq, SublV, SubqV}
use Rattle.alpha_items.specs.declared.item.AsmItem.{AsmItem}
use Rattle.alpha_items.specs.declared.item.AsmItem.TheVariants.{Label, Plain, Branch}
use Rattle.alpha_items.specs.Layout.{label_place}
use Rattle.alpha_items.specs.Words.{text_insns}
use Rattle.alpha_rt.specs.Routine.{Routine, Divq, Remq, Divqu, Remqu, Divl, Reml, Divlu, Remlu}
use Rattle.alpha_rt.specs.Code.{place_front, place_back, preparation, prologue, epilogue, magnitudes, numbers, low_numbers, signed_quotient, signed_remainder, plain_remainder, long_quotient, long_remainder, all_code}

-- the labels of the entries
abbrev pub entry_label : Routine → ℕ
entry_label Divq = 1
entry_label Remq = 2
entry_label Divqu = 3
entry_label Remqu = 4
entry_label Divl = 5
entry_label Reml = 6
entry_label Divlu = 7
entry_label Remlu = 8

-- those of the common part and of the part that leaves, and the last one
abbrev pub common_label : ℕ
common_label = 9

abbrev pub epilogue_label : ℕ
epilogue_label = 10

abbrev pub last_label : ℕ
last_label = 20

-- instructions that stand as they are
abbrev pub plain_items : List Fields → List AsmItem
plain_items insns = map Plain insns

-- the entry, with the test for the least number in front of the label `past`
abbrev pub test_items : ℕ → OperateOp → ℕ → List AsmItem
test_items entry negation past =
    Label entry
    ∷ Plain (fields.Operate Addq 25 (Literal 1) 28)
    ∷ Branch Bne 28 past
    ∷ Plain (fields.Operate negation 31 (Reg 24) 28)
    ∷ Label past
    ∷ []

-- the operands, with the call of the common part
abbrev pub operand_items : List Fields → List AsmItem
operand_items operands = plain_items operands ++ Branch Bsr 4 common_label ∷ []

-- the answer, with the way out
abbrev pub answer_items : List Fields → List AsmItem
answer_items answer = plain_items answer ++ Branch Br 31 epilogue_label ∷ []

abbrev pub signed_items : ℕ → OperateOp → ℕ → List Fields → List AsmItem
signed_items entry negation past answer =
    test_items entry negation past ++ (plain_items prologue ++ (operand_items magnitudes ++ answer_items answer))

abbrev pub unsigned_items : ℕ → List Fields → List Fields → List AsmItem
unsigned_items entry operands answer =
    Label entry ∷ (plain_items prologue ++ (operand_items operands ++ answer_items answer))

-- the common part: label 11 stands behind its trap, 12 before its rounds, 13 to 16 behind its places
abbrev pub refusal_items : List AsmItem
refusal_items =
    Label common_label
    ∷ Branch Bne 2 11
    ∷ Plain (fields.Memory Lda 16 31 (pos 1))
    ∷ Plain (fields.Pal 0xAA)
    ∷ Label 11
    ∷ []

abbrev pub preparation_items : List AsmItem
preparation_items = plain_items preparation ++ Label 12 ∷ []

abbrev pub place_items : ℕ → List AsmItem
place_items past = plain_items place_front ++ (Branch Beq 28 past ∷ (plain_items place_back ++ Label past ∷ []))

abbrev pub turn_items : List AsmItem
turn_items = Plain (fields.Operate Subq 3 (Literal 1) 3) ∷ Branch Bne 3 12 ∷ Plain (fields.Jump Ret 31 4) ∷ []

abbrev pub common_items : List AsmItem
common_items =
    refusal_items
    ++ (preparation_items
    ++ (place_items 13 ++ (place_items 14 ++ (place_items 15 ++ (place_items 16 ++ turn_items)))))

abbrev pub epilogue_items : List AsmItem
epilogue_items = Label epilogue_label ∷ plain_items epilogue

-- all routines; labels 17 to 20 stand behind the tests of the signed ones
abbrev pub all_items : List AsmItem
all_items =
    signed_items 1 SubqV 17 signed_quotient
    ++ (signed_items 2 SubqV 18 signed_remainder
    ++ (unsigned_items 3 numbers []
    ++ (unsigned_items 4 numbers plain_remainder
    ++ (signed_items 5 SublV 19 signed_quotient
    ++ (signed_items 6 SublV 20 signed_remainder
    ++ (unsigned_items 7 low_numbers long_quotient
    ++ (unsigned_items 8 low_numbers long_remainder
    ++ (common_items
    ++ epilogue_items))))))))

-- no branch within the routines is far
abbrev pub all_near : List Bool
all_near = replicate (length all_items) false

-- Wherever a text has the items of the routines, with the words of their labels as they stand there, they give
-- the code of the routines.
abbrev pub GiveCode : Type 0
GiveCode =
    (there : ℕ → ℕ) (start before : ℕ) →
    ((l : ℕ) → 1 ≤ l → l ≤ last_label → there l ≡ before + label_place all_items all_near l) →
    text_insns there start before all_items all_near ≡ all_code
