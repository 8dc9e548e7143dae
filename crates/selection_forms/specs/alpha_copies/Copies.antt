-- The code of a copy: a load and a store of each part, as wide as the alignment allows. The parts go through temporary
-- 0, which may hold a whole pointer, a piece of one, or cells that were never written. They stand at displacements of
-- the two pointers; past 16,384 bytes both pointers are moved, in temporaries 1 and 2.
use Rattle.std.specs.Prelude.{ℕ, zero, suc, ◌+◌, ◌/◌, nat_lt, pos, List, [], ◌∷◌, ◌++◌, if◌then◌else◌}
use Rattle.suifvm_ir.specs.declared.types.Alignment.{Alignment}
use Rattle.suifvm_ir.specs.declared.types.Alignment.TheVariants.{One, Two, Four, Eight}
use Rattle.suifvm_ir.specs.Programs.{alignment_bytes}
use Rattle.temp_ir.specs.declared.operation.AddressOp.TheVariants.{Lda}
use Rattle.temp_ir.specs.declared.operation.LoadOp.{LoadOp}
use Rattle.temp_ir.specs.declared.operation.LoadOp.TheVariants.{Ldbu, Ldwu, Ldl, Ldq}
use Rattle.temp_ir.specs.declared.operation.StoreOp.{StoreOp}
use Rattle.temp_ir.specs.declared.operation.StoreOp.TheVariants.{Stb, Stw, Stl, Stq}
use Rattle.temp_ir.specs.declared.insn.FirstOperand.TheVariants as source
use Rattle.temp_ir.specs.declared.insn.TempInsn.{TempInsn}
use Rattle.temp_ir.specs.declared.insn.TempInsn.TheVariants.{Address, Load, Store}

abbrev pub part_load : Alignment → LoadOp
part_load One = Ldbu
part_load Two = Ldwu
part_load Four = Ldl
part_load Eight = Ldq

abbrev pub part_store : Alignment → StoreOp
part_store One = Stb
part_store Two = Stw
part_store Four = Stl
part_store Eight = Stq

-- one part at a displacement
abbrev pub part_items : Alignment → (to from at : ℕ) → List TempInsn
part_items align to from at =
    Load (part_load align) 0 from (pos at) ∷ Store (part_store align) (source.Temp 0) to (pos at) ∷ []

-- both pointers are moved
abbrev pub moved_items : (to from by : ℕ) → List TempInsn
moved_items to from by =
    Address Lda 1 (source.Temp to) (pos by) ∷ Address Lda 2 (source.Temp from) (pos by) ∷ []

-- the displacement from which on the pointers are moved
abbrev pub copy_reach : ℕ
copy_reach = 16384

-- so many parts, of which the first stands at a displacement
abbrev pub parts_items : Alignment → (count to from at : ℕ) → List TempInsn
parts_items align zero to from at = []
parts_items align (suc count) to from at =
    if nat_lt at copy_reach
    then part_items align to from at ++ parts_items align count to from (at + alignment_bytes align)
    else moved_items to from at ++ (part_items align 1 2 0 ++ parts_items align count 1 2 (alignment_bytes align))

abbrev pub copy_items : Alignment → (to from size : ℕ) → List TempInsn
copy_items align to from size = parts_items align (size / alignment_bytes align) to from 0
