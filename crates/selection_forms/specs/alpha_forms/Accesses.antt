-- The code of loads and stores. A displacement that fits is that of the access; another one is added to the pointer
-- first, as a word, so that the pointer moves by all of it at once.
use Rattle.std.specs.Prelude.{ℕ, ℤ, pos, List, [], ◌∷◌, ◌++◌, Option, Some, None, if◌then◌else◌}
use Rattle.std.specs.Int.{w16}
use Rattle.alpha_isa.specs.Arithmetic.{fits_signed, word_from}
use Rattle.suifvm_ir.specs.declared.types.MemoryType.{MemoryType}
use Rattle.suifvm_ir.specs.declared.types.MemoryType.TheVariants.{S8, U8, S16, U16, S32, U32, S64, U64, P64}
use Rattle.temp_ir.specs.declared.operation.LoadOp.{LoadOp}
use Rattle.temp_ir.specs.declared.operation.LoadOp.TheVariants.{Ldbu, Ldwu, Ldl, Ldq}
use Rattle.temp_ir.specs.declared.operation.StoreOp.{StoreOp}
use Rattle.temp_ir.specs.declared.operation.StoreOp.TheVariants.{Stb, Stw, Stl, Stq}
use Rattle.temp_ir.specs.declared.operation.Operation.TheVariants.{Addq}
use Rattle.temp_ir.specs.declared.operation.ExtendOp.{ExtendOp}
use Rattle.temp_ir.specs.declared.operation.ExtendOp.TheVariants.{Sextb, Sextw}
use Rattle.temp_ir.specs.declared.insn.FirstOperand.TheVariants as source
use Rattle.temp_ir.specs.declared.insn.SecondOperand.TheVariants as operand
use Rattle.temp_ir.specs.declared.insn.TempInsn.{TempInsn}
use Rattle.temp_ir.specs.declared.insn.TempInsn.TheVariants.{Load, Store, Operate, Extend}
use Rattle.selection_forms.specs.alpha_forms.Constants.{constant_items}

-- a number of bytes, where it is a displacement of 16 bits
abbrev pub near_part : ℤ → Option ℤ
near_part plus = if fits_signed w16 plus then Some plus else None

-- the pointer that is moved by a number is put into temporary 0
abbrev pub far_items : (pointer : ℕ) (plus : ℤ) → List TempInsn
far_items pointer plus =
    constant_items 0 (word_from plus) ++ Operate Addq 0 (source.Temp pointer) (operand.Temp 0) ∷ []

-- a load, and one whose sign is extended besides
abbrev pub plain_load : LoadOp → (d pointer : ℕ) (plus : ℤ) → List TempInsn
plain_load op d pointer plus = Load op d pointer plus ∷ []

abbrev pub extended_load : LoadOp → ExtendOp → (d pointer : ℕ) (plus : ℤ) → List TempInsn
extended_load op extend d pointer plus = Load op 0 pointer plus ∷ Extend extend d (operand.Temp 0) ∷ []

abbrev pub near_load : MemoryType → (d pointer : ℕ) (plus : ℤ) → List TempInsn
near_load S8 d pointer plus = extended_load Ldbu Sextb d pointer plus
near_load U8 d pointer plus = plain_load Ldbu d pointer plus
near_load S16 d pointer plus = extended_load Ldwu Sextw d pointer plus
near_load U16 d pointer plus = plain_load Ldwu d pointer plus
near_load S32 d pointer plus = plain_load Ldl d pointer plus
near_load U32 d pointer plus = plain_load Ldl d pointer plus
near_load S64 d pointer plus = plain_load Ldq d pointer plus
near_load U64 d pointer plus = plain_load Ldq d pointer plus
near_load P64 d pointer plus = plain_load Ldq d pointer plus

abbrev pub load_by : MemoryType → (d pointer : ℕ) (plus : ℤ) → Option ℤ → List TempInsn
load_by ty d pointer plus (Some near) = near_load ty d pointer near
load_by ty d pointer plus None = far_items pointer plus ++ near_load ty d 0 (pos 0)

abbrev pub load_items : MemoryType → (d pointer : ℕ) (plus : ℤ) → List TempInsn
load_items ty d pointer plus = load_by ty d pointer plus (near_part plus)

abbrev pub temp_store : MemoryType → StoreOp
temp_store S8 = Stb
temp_store U8 = Stb
temp_store S16 = Stw
temp_store U16 = Stw
temp_store S32 = Stl
temp_store U32 = Stl
temp_store S64 = Stq
temp_store U64 = Stq
temp_store P64 = Stq

abbrev pub near_store : MemoryType → (value pointer : ℕ) (plus : ℤ) → List TempInsn
near_store ty value pointer plus = Store (temp_store ty) (source.Temp value) pointer plus ∷ []

abbrev pub store_by : MemoryType → (pointer : ℕ) (plus : ℤ) (value : ℕ) → Option ℤ → List TempInsn
store_by ty pointer plus value (Some near) = near_store ty value pointer near
store_by ty pointer plus value None = far_items pointer plus ++ near_store ty value 0 (pos 0)

abbrev pub store_items : MemoryType → (pointer : ℕ) (plus : ℤ) (value : ℕ) → List TempInsn
store_items ty pointer plus value = store_by ty pointer plus value (near_part plus)
