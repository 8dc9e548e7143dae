-- The lines of an assembly text, without their line feeds. Numbers are decimal without leading zeros.
use Rattle.std.specs.Prelude.{ℕ, ◌+◌, ◌/◌, ◌%◌, ◌^◌, ◌<◌, nat_lt, ℤ, not, IsTrue, if◌then◌else◌, List, [], ◌∷◌, ◌++◌, flat_map, codes, decimal}
use Rattle.std.specs.Fmt.{signed_decimal}
use Rattle.alpha_isa.specs.declared.insn.OperateOp.{OperateOp}
use Rattle.alpha_isa.specs.declared.insn.Operand.{Operand}
use Rattle.alpha_isa.specs.declared.insn.Operand.TheVariants.{Reg, Literal}
use Rattle.alpha_isa.specs.declared.insn.Fields.{Fields}
use Rattle.alpha_isa.specs.declared.insn.Fields.TheVariants as fields
use Rattle.alpha_isa.specs.Lawful.{IsRegister, AreLawfulFields}
use Rattle.alpha_isa.specs.Words.{extends}
use Rattle.alpha_items.specs.declared.item.AsmItem.{AsmItem}
use Rattle.alpha_items.specs.declared.item.AsmItem.TheVariants.{Label, Name, Plain, Branch, TextAddress, DataAddress}
use Rattle.alpha_items.specs.declared.item.Fix.{Fix}
use Rattle.alpha_items.specs.Items.{is_name, is_branch}
use Rattle.alpha_lines.specs.Mnemonics.{memory_word, branch_word, jump_word, operate_word}

-- `$5`, `L5`, `-8($30)` and `($27)`
abbrev pub register_name : ℕ → List ℕ
register_name r = 36 ∷ decimal r

abbrev pub label_name : ℕ → List ℕ
label_name l = 76 ∷ decimal l

abbrev pub indirect_text : ℕ → List ℕ
indirect_text r = 40 ∷ (register_name r ++ 41 ∷ [])

abbrev pub address_text : ℤ → ℕ → List ℕ
address_text disp r = signed_decimal disp ++ indirect_text r

-- a second operand: `$5`, or `255`
abbrev pub operand_name : Operand → List ℕ
operand_name (Reg r) = register_name r
operand_name (Literal n) = decimal n

-- a word, a blank, and what it is said of
abbrev pub word_and_rest : List ℕ → List ℕ → List ℕ
word_and_rest word rest = word ++ 32 ∷ rest

-- two operands, with a comma and a blank between them
abbrev pub operand_pair : List ℕ → List ℕ → List ℕ
operand_pair a b = a ++ 44 ∷ 32 ∷ b

-- the operands of an operation: those that extend a sign have no first register
abbrev pub operands : OperateOp → ℕ → Operand → ℕ → List ℕ
operands op ra rb rc =
    if extends op then operand_pair (operand_name rb) (register_name rc) else operand_pair (register_name ra)
    (operand_pair (operand_name rb) (register_name rc))

-- an instruction; a branch by its displacement has no line
abbrev pub insn_line : Fields → List ℕ
insn_line (fields.Memory op ra rb disp) = word_and_rest (memory_word op)
    (operand_pair (register_name ra) (address_text disp rb))
insn_line (fields.Branch op ra disp) = []
insn_line (fields.Jump op ra rb) = word_and_rest (jump_word op) (operand_pair (register_name ra) (indirect_text rb))
insn_line (fields.Operate op ra rb rc) = word_and_rest (operate_word op) (operands op ra rb rc)
insn_line (fields.Pal function) = word_and_rest (codes "call_pal") (decimal function)

-- an item
abbrev pub item_line : AsmItem → List ℕ
item_line (Label l) = label_name l ++ 58 ∷ []
item_line (Name name) = word_and_rest (codes ".ent") name
item_line (Plain insn) = insn_line insn
item_line (Branch op ra l) = word_and_rest (branch_word op) (operand_pair (register_name ra) (label_name l))
item_line (TextAddress ra l) = word_and_rest (codes ".text") (operand_pair (register_name ra) (label_name l))
item_line (DataAddress ra offset) = word_and_rest (codes ".addr") (operand_pair (register_name ra) (decimal offset))

-- the first line of a text
abbrev pub head_line : List ℕ
head_line = codes ".msa 1"

-- how many bytes the data has
abbrev pub data_line : ℕ → List ℕ
data_line n = word_and_rest (codes ".data") (decimal n)

-- bytes of the data, each as two hexadecimal digits, the high one first
abbrev pub hex_digit : ℕ → ℕ
hex_digit d = if nat_lt d 10 then 48 + d else 87 + d

abbrev pub hex_byte : ℕ → List ℕ
hex_byte b = hex_digit (b / 16) ∷ hex_digit (b % 16) ∷ []

abbrev pub hex_line : List ℕ → List ℕ
hex_line bytes = word_and_rest (codes ".hex") (flat_map hex_byte bytes)

-- a place of the data that holds the address of another
abbrev pub fix_line : Fix → List ℕ
fix_line fix = word_and_rest (codes ".fix") (decimal fix.at ++ 32 ∷ decimal fix.offset)

-- the fields of an item are in their ranges, so that it has a line
abbrev pub HasLine : AsmItem → Type 0
HasLine (Label l) = l < 2 ^ 32
HasLine (Name name) = IsTrue (is_name name)
HasLine (Plain insn) = AreLawfulFields insn × IsTrue (not (is_branch insn))
HasLine (Branch op ra l) = IsRegister ra × (l < 2 ^ 32)
HasLine (TextAddress ra l) = IsRegister ra × (l < 2 ^ 32)
HasLine (DataAddress ra offset) = IsRegister ra × (offset < 2 ^ 32)
