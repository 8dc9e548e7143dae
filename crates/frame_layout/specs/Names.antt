-- What is asked of the numbers in a function.
use Rattle.std.specs.Prelude.{ℕ, ◌<◌, IsTrue, List}
use Rattle.mem_objects.specs.declared.DataObject.{DataObject}
use Rattle.pass_core.specs.declared.function.MemoryLocal.{MemoryLocal}
use Rattle.suifvm_ir.specs.Programs.{place_reaches}
use Rattle.temp_ir.specs.declared.insn.TempInsn.{TempInsn}
use Rattle.temp_ir.specs.declared.insn.TempInsn.TheVariants.{ObjectAddress, Call}
use Rattle.frame_steps.specs.instruction_items.Items.{function_label}

-- an object that is named is there, and the number added to its address is from 0 to its size
abbrev pub NamesObjects : List DataObject → List MemoryLocal → TempInsn → Type 0
NamesObjects globals objects (ObjectAddress destination place plus) = IsTrue (place_reaches globals objects plus place)
NamesObjects globals objects _ = Unit {0}

-- the label of a function that is called is below that of the first block
abbrev pub CallsBelow : (first_label : ℕ) → TempInsn → Type 0
CallsBelow first (Call function arguments) = function_label function < first
CallsBelow first _ = Unit {0}
