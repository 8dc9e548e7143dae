-- Argument places that are told from others.
use Rattle.std.specs.Prelude.{◌≡◌, ◌≤◌}
use Rattle.pass_core.specs.Functions.{AllInsns}
use Rattle.temp_ir.specs.declared.insn.TempInsn.{TempInsn}
use Rattle.temp_ir.specs.declared.insn.TempInsn.TheVariants as i
use Rattle.alloc_model.specs.Places.{Plan}
use Rattle.frame_emitter.specs.Shapes.{shape_of}
use Rattle.frame_emitter.specs.Settings.{most_arguments, near_plan}

abbrev pub IsNear : TempInsn → Type 0
IsNear (i.WriteArgument number source) = number ≤ most_arguments
IsNear (i.ReadArgument destination number) = number ≤ most_arguments
IsNear _ = Unit {0}

abbrev pub NearPlansAreTheSame : Type 0
NearPlansAreTheSame = (a : Plan) → AllInsns IsNear a.function.blocks → near_plan a ≡ a

abbrev pub NearShapesAreTheSame : Type 0
NearShapesAreTheSame = (a : Plan) → shape_of (near_plan a) ≡ shape_of a
