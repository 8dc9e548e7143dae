-- The text of instructions, functions and programs over temporaries. An instruction is spelled as in assembly. The mark
-- that stands before the number of a temporary is `t`, or another one where the numbers stand for registers.
use Rattle.std.specs.Prelude.{ℕ, Bool, true, false, ℤ, List, [], ◌∷◌, ◌++◌, codes, decimal}
use Rattle.std.specs.Fmt.{signed_decimal}
use Rattle.alpha_lines.specs.Mnemonics as mnemonic
use Rattle.suifvm_ir.specs.Lines.{block_name, functions_text}
use Rattle.suifvm_ir.specs.Text.{place_name}
use Rattle.temp_ir.specs.declared.operation.DivisionRoutine.{DivisionRoutine}
use Rattle.temp_ir.specs.declared.operation.DivisionRoutine.TheVariants.{Divq, Remq, Divqu, Remqu, Divl, Reml, Divlu, Remlu}
use Rattle.temp_ir.specs.declared.operation.Service.{Service}
use Rattle.temp_ir.specs.declared.operation.Service.TheVariants.{Trap}
use Rattle.temp_ir.specs.declared.insn.FirstOperand.{FirstOperand}
use Rattle.temp_ir.specs.declared.insn.FirstOperand.TheVariants as source
use Rattle.temp_ir.specs.declared.insn.SecondOperand.{SecondOperand}
use Rattle.temp_ir.specs.declared.insn.SecondOperand.TheVariants as operand
use Rattle.temp_ir.specs.declared.insn.TempInsn.{TempInsn}
use Rattle.temp_ir.specs.declared.insn.TempInsn.TheVariants.{Address, ObjectAddress, Load, Store, Operate, Extend, ToFixed, FromFixed, SetFixed, WriteArgument, ReadArgument, Branch, Jump, Call, Divide, Serve, Return, Mark}
use Rattle.temp_ir.specs.Fixed.{register_number, argument_registers}
use Rattle.temp_ir.specs.Operations.{address_op, load_op, store_op, branch_op, operate_op, extend_op}
use Rattle.temp_ir.specs.Programs.{TempFn}

-- ---- operands

abbrev pub temp_text : (mark : List ℕ) → (t : ℕ) → List ℕ
temp_text mark t = mark ++ decimal t

abbrev pub register_name : ℕ → List ℕ
register_name r = codes "$" ++ decimal r

abbrev pub source_text : (mark : List ℕ) → FirstOperand → List ℕ
source_text mark source.Zero = codes "$31"
source_text mark (source.Temp t) = temp_text mark t

abbrev pub operand_text : (mark : List ℕ) → SecondOperand → List ℕ
operand_text mark (operand.Temp t) = temp_text mark t
operand_text mark (operand.Literal n) = decimal n

-- each with a comma before it
abbrev pub registers_text : List ℕ → List ℕ
registers_text [] = []
registers_text (r ∷ registers) = codes ", " ++ register_name r ++ registers_text registers

abbrev pub routine_word : DivisionRoutine → List ℕ
routine_word Divq = codes "__divq"
routine_word Remq = codes "__remq"
routine_word Divqu = codes "__divqu"
routine_word Remqu = codes "__remqu"
routine_word Divl = codes "__divl"
routine_word Reml = codes "__reml"
routine_word Divlu = codes "__divlu"
routine_word Remlu = codes "__remlu"

-- ---- instructions

-- an address, a load or a store: a register, and one that is moved by so many bytes
abbrev pub memory_text : (mark word : List ℕ) → FirstOperand → ℤ → FirstOperand → List ℕ
memory_text mark word first plus base =
    word ++ codes " " ++ source_text mark first ++ codes ", " ++ signed_decimal plus ++ codes "("
    ++ source_text mark base ++ codes ")"

abbrev pub operate_text : (mark word : List ℕ) → FirstOperand → SecondOperand → (destination : ℕ) → List ℕ
operate_text mark word left right destination =
    word ++ codes " " ++ source_text mark left ++ codes ", " ++ operand_text mark right ++ codes ", "
    ++ temp_text mark destination

abbrev pub service_text : Service → List ℕ
service_text Trap = codes "call_pal 170"
service_text _ = codes "call_pal 131"

abbrev pub return_text : (with_value : Bool) → List ℕ
return_text true = codes "ret $0"
return_text false = codes "ret"

abbrev pub insn_text : (mark : List ℕ) → TempInsn → List ℕ
insn_text mark (Address op destination base plus) =
    memory_text mark (mnemonic.memory_word (address_op op)) (source.Temp destination) plus base
insn_text mark (ObjectAddress destination place plus) =
    codes "lda " ++ temp_text mark destination ++ codes ", " ++ place_name place ++ codes "+" ++ decimal plus
insn_text mark (Load op destination pointer plus) =
    memory_text mark (mnemonic.memory_word (load_op op)) (source.Temp destination) plus (source.Temp pointer)
insn_text mark (Store op value pointer plus) =
    memory_text mark (mnemonic.memory_word (store_op op)) value plus (source.Temp pointer)
insn_text mark (Operate op destination left right) =
    operate_text mark (mnemonic.operate_word (operate_op op)) left right destination
insn_text mark (Extend op destination source) =
    mnemonic.operate_word (extend_op op) ++ codes " " ++ operand_text mark source ++ codes ", "
    ++ temp_text mark destination
insn_text mark (ToFixed register source) =
    codes "bis $31, " ++ temp_text mark source ++ codes ", " ++ register_name (register_number register)
insn_text mark (FromFixed destination register) =
    codes "bis $31, " ++ register_name (register_number register) ++ codes ", " ++ temp_text mark destination
insn_text mark (SetFixed register number) =
    codes "lda " ++ register_name (register_number register) ++ codes ", " ++ signed_decimal number ++ codes "($31)"
insn_text mark (WriteArgument number source) =
    codes "stq " ++ temp_text mark source ++ codes ", out" ++ decimal number
insn_text mark (ReadArgument destination number) =
    codes "ldq " ++ temp_text mark destination ++ codes ", in" ++ decimal number
insn_text mark (Branch op source block) =
    mnemonic.branch_word (branch_op op) ++ codes " " ++ temp_text mark source ++ codes ", " ++ block_name block
insn_text mark (Jump block) = codes "br $31, " ++ block_name block
insn_text mark (Call function arguments) =
    codes "bsr $26, " ++ decimal function ++ registers_text (argument_registers arguments)
insn_text mark (Divide routine) = codes "bsr $23, " ++ routine_word routine
insn_text mark (Serve service) = service_text service
insn_text mark (Return with_value) = return_text with_value
insn_text mark Mark = codes "mrk"

-- ---- lines

abbrev pub program_text : List TempFn → List ℕ
program_text functions =
    functions_text (insn_text (codes "t")) (λ (f : TempFn). f.name) (λ (f : TempFn). f.blocks) 0 functions
