-- What is asked of an instruction, as a test.
use Rattle.std.specs.Prelude.{ℕ, ◌^◌, ◌&&◌, nat_lt, nat_le, Bool, true, List}
use Rattle.mem_objects.specs.declared.DataObject.{DataObject}
use Rattle.pass_core.specs.declared.function.MemoryLocal.{MemoryLocal}
use Rattle.suifvm_ir.specs.Programs.{place_reaches}
use Rattle.temp_ir.specs.declared.insn.TempInsn.{TempInsn}
use Rattle.temp_ir.specs.declared.insn.TempInsn.TheVariants.{ObjectAddress, Call}
use Rattle.frame_steps.specs.instruction_items.Items.{function_label}

abbrev pub is_asked : List DataObject → List MemoryLocal → (first : ℕ) → TempInsn → Bool
is_asked globals objects first (ObjectAddress destination place plus) = place_reaches globals objects plus place
is_asked globals objects first (Call function arguments) =
    nat_lt (function_label function) first && nat_le arguments (2 ^ 24)
is_asked globals objects first _ = true
