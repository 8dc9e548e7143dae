-- The text of a program: each function with its blocks and instructions.
use Rattle.std.specs.Prelude.{ℕ, List, [], ◌∷◌, ◌++◌, slice_get, Option, Some, None, codes, decimal}
use Rattle.std.specs.Fmt.{signed_decimal}
use Rattle.std.specs.Int.{w64, cast_signed}
use Rattle.suifvm_ir.specs.declared.types.VmType.{VmType}
use Rattle.suifvm_ir.specs.declared.types.VmType.TheVariants as v
use Rattle.suifvm_ir.specs.declared.types.MemoryType.{MemoryType}
use Rattle.suifvm_ir.specs.declared.types.MemoryType.TheVariants as m
use Rattle.suifvm_ir.specs.declared.insn.VmUnaryOp.{VmUnaryOp}
use Rattle.suifvm_ir.specs.declared.insn.VmUnaryOp.TheVariants.{Move, Negate, Complement}
use Rattle.suifvm_ir.specs.declared.insn.VmBinaryOp.{VmBinaryOp}
use Rattle.suifvm_ir.specs.declared.insn.VmBinaryOp.TheVariants.{Add, Subtract, Multiply, Divide, Remainder, And, Or, ExclusiveOr}
use Rattle.suifvm_ir.specs.declared.insn.ShiftOp.{ShiftOp}
use Rattle.suifvm_ir.specs.declared.insn.ShiftOp.TheVariants.{ArithmeticRight, Left, LogicalRight}
use Rattle.suifvm_ir.specs.declared.insn.CompareOp.{CompareOp}
use Rattle.suifvm_ir.specs.declared.insn.CompareOp.TheVariants.{Equal, NotEqual, Less, LessOrEqual}
use Rattle.suifvm_ir.specs.declared.insn.VmBranchOp.{VmBranchOp}
use Rattle.suifvm_ir.specs.declared.insn.VmBranchOp.TheVariants.{IfTrue, IfFalse}
use Rattle.suifvm_ir.specs.declared.insn.VmObject.{VmObject}
use Rattle.suifvm_ir.specs.declared.insn.VmObject.TheVariants.{Global, Local}
use Rattle.suifvm_ir.specs.declared.insn.VmBuiltin.{VmBuiltin}
use Rattle.suifvm_ir.specs.declared.insn.VmBuiltin.TheVariants.{PutChar, GetChar, Abort, Exit}
use Rattle.suifvm_ir.specs.declared.insn.VmCallee.{VmCallee}
use Rattle.suifvm_ir.specs.declared.insn.VmCallee.TheVariants as callee
use Rattle.suifvm_ir.specs.declared.insn.TypedRegister.{TypedRegister}
use Rattle.suifvm_ir.specs.declared.insn.VmInsn.{VmInsn}
use Rattle.suifvm_ir.specs.declared.insn.VmInsn.TheVariants.{LoadConstant, LoadAddress, Load, Store, Copy, Unary, Binary, Shift, Convert, Compare, Branch, Jump, Call, Return, Mark, Nop}
use Rattle.suifvm_ir.specs.Lines.{block_name, functions_text}
use Rattle.suifvm_ir.specs.Programs.{VmFunction, alignment_bytes}

-- ---- words

abbrev pub type_word : VmType → List ℕ
type_word v.S32 = codes "s32"
type_word v.U32 = codes "u32"
type_word v.S64 = codes "s64"
type_word v.U64 = codes "u64"
type_word v.P64 = codes "p64"

abbrev pub memory_type_word : MemoryType → List ℕ
memory_type_word m.S8 = codes "s8"
memory_type_word m.U8 = codes "u8"
memory_type_word m.S16 = codes "s16"
memory_type_word m.U16 = codes "u16"
memory_type_word m.S32 = codes "s32"
memory_type_word m.U32 = codes "u32"
memory_type_word m.S64 = codes "s64"
memory_type_word m.U64 = codes "u64"
memory_type_word m.P64 = codes "p64"

abbrev pub unary_word : VmUnaryOp → List ℕ
unary_word Move = codes "mov"
unary_word Negate = codes "neg"
unary_word Complement = codes "not"

abbrev pub binary_word : VmBinaryOp → List ℕ
binary_word Add = codes "add"
binary_word Subtract = codes "sub"
binary_word Multiply = codes "mul"
binary_word Divide = codes "div"
binary_word Remainder = codes "rem"
binary_word And = codes "and"
binary_word Or = codes "ior"
binary_word ExclusiveOr = codes "xor"

abbrev pub shift_word : ShiftOp → List ℕ
shift_word ArithmeticRight = codes "asr"
shift_word Left = codes "lsl"
shift_word LogicalRight = codes "lsr"

abbrev pub compare_word : CompareOp → List ℕ
compare_word Equal = codes "seq"
compare_word NotEqual = codes "sne"
compare_word Less = codes "sl"
compare_word LessOrEqual = codes "sle"

abbrev pub branch_word : VmBranchOp → List ℕ
branch_word IfTrue = codes "btrue"
branch_word IfFalse = codes "bfalse"

abbrev pub builtin_word : VmBuiltin → List ℕ
builtin_word PutChar = codes "putchar"
builtin_word GetChar = codes "getchar"
builtin_word Abort = codes "abort"
builtin_word Exit = codes "exit"

-- ---- operands

abbrev pub register_text : ℕ → List ℕ
register_text register = codes "v" ++ decimal register

abbrev pub place_name : VmObject → List ℕ
place_name (Global k) = codes "g" ++ decimal k
place_name (Local k) = codes "m" ++ decimal k

-- a word is printed with its sign
abbrev pub word_text : ℕ → List ℕ
word_text word = signed_decimal (cast_signed w64 word)

abbrev pub destination_text : Option ℕ → List ℕ
destination_text None = codes "-"
destination_text (Some register) = register_text register

-- each with a comma before it
abbrev pub arguments_text : List ℕ → List ℕ
arguments_text [] = []
arguments_text (register ∷ registers) = codes ", " ++ register_text register ++ arguments_text registers

abbrev pub name_in : Option VmFunction → List ℕ
name_in None = []
name_in (Some f) = f.name

abbrev pub callee_name : List VmFunction → VmCallee → List ℕ
callee_name functions (callee.Function k) = name_in (slice_get functions k)
callee_name functions (callee.Builtin builtin) = builtin_word builtin

-- ---- instructions

-- an operation, its type and its operands
abbrev pub typed_text : (op type operands : List ℕ) → List ℕ
typed_text op type operands = op ++ codes "." ++ type ++ codes " " ++ operands

abbrev pub two_registers : (a b : ℕ) → List ℕ
two_registers a b = register_text a ++ codes ", " ++ register_text b

abbrev pub three_registers : (a b c : ℕ) → List ℕ
three_registers a b c = two_registers a b ++ codes ", " ++ register_text c

abbrev pub return_text : Option TypedRegister → List ℕ
return_text None = codes "ret"
return_text (Some value) = typed_text (codes "ret") (type_word value.ty) (register_text value.register)

abbrev pub insn_text : List VmFunction → VmInsn → List ℕ
insn_text functions (LoadConstant ty destination word) =
    typed_text (codes "ldc") (type_word ty) (register_text destination ++ codes ", " ++ word_text word)
insn_text functions (LoadAddress destination place plus) =
    codes "lda " ++ register_text destination ++ codes ", " ++ place_name place ++ codes "+" ++ decimal plus
insn_text functions (Load ty destination pointer plus) =
    typed_text (codes "lod") (memory_type_word ty)
    (two_registers destination pointer ++ codes ", " ++ signed_decimal plus)
insn_text functions (Store ty pointer plus value) =
    typed_text (codes "str") (memory_type_word ty)
    (register_text pointer ++ codes ", " ++ signed_decimal plus ++ codes ", " ++ register_text value)
insn_text functions (Copy to from size align) =
    codes "mcpy " ++ two_registers to from ++ codes ", " ++ decimal size ++ codes ", "
    ++ decimal (alignment_bytes align)
insn_text functions (Unary op ty destination source) =
    typed_text (unary_word op) (type_word ty) (two_registers destination source)
insn_text functions (Binary op ty destination left right) =
    typed_text (binary_word op) (type_word ty) (three_registers destination left right)
insn_text functions (Shift op ty destination source count) =
    typed_text (shift_word op) (type_word ty) (three_registers destination source count)
insn_text functions (Convert from to destination source) =
    typed_text (codes "cvt") (memory_type_word from ++ codes "." ++ type_word to) (two_registers destination source)
insn_text functions (Compare op ty destination left right) =
    typed_text (compare_word op) (type_word ty) (three_registers destination left right)
insn_text functions (Branch op ty source block) =
    typed_text (branch_word op) (type_word ty) (register_text source ++ codes ", " ++ block_name block)
insn_text functions (Jump block) = codes "jmp " ++ block_name block
insn_text functions (Call destination c arguments) =
    codes "cal " ++ destination_text destination ++ codes ", " ++ callee_name functions c ++ arguments_text arguments
insn_text functions (Return value) = return_text value
insn_text functions Mark = codes "mrk"
insn_text functions Nop = codes "nop"

-- ---- lines

abbrev pub program_text : List VmFunction → List ℕ
program_text functions =
    functions_text (insn_text functions) (λ (f : VmFunction). f.name) (λ (f : VmFunction). f.blocks) 0 functions
