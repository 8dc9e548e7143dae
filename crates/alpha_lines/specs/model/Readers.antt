-- What the operands and lines of an assembly text say, as functions of their bytes.
use Rattle.std.specs.Prelude.{ℕ, ◌-◌, ◌^◌, ℤ, ◌==◌, if◌then◌else◌, List, [], ◌∷◌, Option, Some, None, option_map}
use Rattle.alpha_isa.specs.declared.insn.MemoryOp.{MemoryOp}
use Rattle.alpha_isa.specs.declared.insn.JumpOp.{JumpOp}
use Rattle.alpha_isa.specs.declared.insn.OperateOp.{OperateOp}
use Rattle.alpha_isa.specs.declared.insn.Operand.{Operand}
use Rattle.alpha_isa.specs.declared.insn.Operand.TheVariants.{Reg, Literal}
use Rattle.alpha_isa.specs.declared.insn.Fields.TheVariants as fields
use Rattle.alpha_isa.specs.Lawful.{is_pal_function}
use Rattle.alpha_isa.specs.Words.{extends}
use Rattle.alpha_items.specs.declared.item.AsmItem.{AsmItem}
use Rattle.alpha_items.specs.declared.item.AsmItem.TheVariants.{Label, Name, Plain, Branch, TextAddress, DataAddress}
use Rattle.alpha_items.specs.Items.{is_name}
use Rattle.alpha_lines.specs.declared.mnemonic.Mnemonic.{Mnemonic}
use Rattle.alpha_lines.specs.declared.mnemonic.Mnemonic.TheVariants as m
use Rattle.alpha_lines.specs.model.Mnemonics.{mnemonic_of}
use Rattle.alpha_lines.specs.model.Parts.{cut, pair_of}
use Rattle.alpha_lines.specs.model.Numbers.{number_of, displacement_of}

-- the greatest number of a field of 32 bits
abbrev pub most_u32 : ℕ
most_u32 = 2 ^ 32 - 1

unfoldable pub number32_of : List ℕ → Option ℕ
number32_of s = number_of most_u32 s

abbrev pub both_of : {A B : Type 0} → Option A → Option B → Option (A × B)
both_of (Some a) (Some b) = Some (a, b)
both_of (Some a) None = None
both_of None b = None

abbrev pub if_empty : List ℕ → List ℕ → Option (List ℕ)
if_empty a [] = Some a
if_empty a (b ∷ s) = None

-- what stands before the mark that is the last byte, and nowhere else
abbrev pub before_end : Option (List ℕ × List ℕ) → Option (List ℕ)
before_end None = None
before_end (Some p) = if_empty p.0 p.1

unfoldable pub closed_by : ℕ → List ℕ → Option (List ℕ)
closed_by mark s = before_end (cut mark s)

unfoldable pub register_of : List ℕ → Option ℕ
register_of [] = None
register_of (b ∷ s) = if b == 36 then number_of 31 s else None

unfoldable pub label_of : List ℕ → Option ℕ
label_of [] = None
label_of (b ∷ s) = if b == 76 then number32_of s else None

unfoldable pub operand_of : List ℕ → Option Operand
operand_of [] = None
operand_of (b ∷ s) = if b == 36 then option_map Reg (number_of 31 s) else option_map Literal (number_of 255 (b ∷ s))

abbrev pub register_in : Option (List ℕ) → Option ℕ
register_in None = None
register_in (Some s) = register_of s

-- behind an opened bracket: a register and the closing one
unfoldable pub inner_of : List ℕ → Option ℕ
inner_of s = register_in (closed_by 41 s)

unfoldable pub indirect_of : List ℕ → Option ℕ
indirect_of [] = None
indirect_of (b ∷ s) = if b == 40 then inner_of s else None

abbrev pub address_in : Option (List ℕ × List ℕ) → Option (ℤ × ℕ)
address_in None = None
address_in (Some p) = both_of (displacement_of p.0) (inner_of p.1)

unfoldable pub address_of : List ℕ → Option (ℤ × ℕ)
address_of s = address_in (cut 40 s)

-- two operands, each by its reader
abbrev pub each_of : {A B : Type 0} → (List ℕ → Option A) → (List ℕ → Option B) → Option (List ℕ × List ℕ) →
    Option (A × B)
each_of f g None = None
each_of f g (Some p) = both_of (f p.0) (g p.1)

unfoldable pub two_of : {A B : Type 0} → (List ℕ → Option A) → (List ℕ → Option B) → List ℕ → Option (A × B)
two_of f g s = each_of f g (pair_of s)

abbrev pub memory_item : MemoryOp → ℕ × (ℤ × ℕ) → AsmItem
memory_item op p = Plain (fields.Memory op p.0 p.1.1 p.1.0)

abbrev pub jump_item : JumpOp → ℕ × ℕ → AsmItem
jump_item op p = Plain (fields.Jump op p.0 p.1)

abbrev pub extension_item : OperateOp → Operand × ℕ → AsmItem
extension_item op p = Plain (fields.Operate op 31 p.0 p.1)

abbrev pub operate_item : OperateOp → ℕ × (Operand × ℕ) → AsmItem
operate_item op p = Plain (fields.Operate op p.0 p.1.0 p.1.1)

unfoldable pub operation_of : OperateOp → List ℕ → Option AsmItem
operation_of op rest =
    if extends op then option_map (extension_item op) (two_of operand_of register_of rest)
    else option_map (operate_item op) (two_of register_of (two_of operand_of register_of) rest)

abbrev pub call_in : Option ℕ → Option AsmItem
call_in None = None
call_in (Some n) = if is_pal_function n then Some (Plain (fields.Pal n)) else None

-- what a line with this mnemonic says, by what stands behind it
unfoldable pub said_by : Mnemonic → List ℕ → Option AsmItem
said_by (m.Memory op) rest = option_map (memory_item op) (two_of register_of address_of rest)
said_by (m.Branch op) rest = option_map (λ p. Branch op p.0 p.1) (two_of register_of label_of rest)
said_by (m.Jump op) rest = option_map (jump_item op) (two_of register_of indirect_of rest)
said_by (m.Operate op) rest = operation_of op rest
said_by m.CallPal rest = call_in (number_of 255 rest)
said_by m.Entry rest = if is_name rest then Some (Name rest) else None
said_by m.TextAddress rest = option_map (λ p. TextAddress p.0 p.1) (two_of register_of label_of rest)
said_by m.DataAddress rest = option_map (λ p. DataAddress p.0 p.1) (two_of register_of number32_of rest)

abbrev pub said_in : Option Mnemonic → List ℕ → Option AsmItem
said_in None rest = None
said_in (Some m) rest = said_by m rest

abbrev pub label_in : Option (List ℕ) → Option AsmItem
label_in None = None
label_in (Some s) = option_map Label (label_of s)

-- the item of a line: a label where it has no blank, and else what its first word says of the rest
abbrev pub item_in : Option (List ℕ × List ℕ) → List ℕ → Option AsmItem
item_in None line = label_in (closed_by 58 line)
item_in (Some p) line = said_in (mnemonic_of p.0) p.1

unfoldable pub item_of : List ℕ → Option AsmItem
item_of line = item_in (cut 32 line) line
