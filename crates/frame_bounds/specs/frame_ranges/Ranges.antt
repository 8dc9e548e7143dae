-- When the fields of the items of a function are in their ranges.
use Rattle.std.specs.Prelude.{◌≡◌, ℕ, ◌+◌, ◌≤◌, ◌<◌, ◌^◌, List, All}
use Rattle.alpha_isa.specs.Lawful.{IsDisplacement}
use Rattle.alpha_items.specs.declared.item.AsmItem.{AsmItem}
use Rattle.alpha_items.specs.Items.{IsItem}
use Rattle.alpha_items.specs.Words.{most_address}
use Rattle.mem_objects.specs.declared.DataObject.{DataObject}
use Rattle.mem_objects.specs.Layout.{ObjectsLieFrom, data_end}
use Rattle.suifvm_ir.specs.declared.insn.VmObject.TheVariants.{Global, Local}
use Rattle.pass_core.specs.Functions.{AllInsns}
use Rattle.temp_ir.specs.declared.insn.TempInsn.{TempInsn}
use Rattle.temp_ir.specs.declared.insn.TempInsn.TheVariants as i
use Rattle.alloc_model.specs.declared.allocation.Allocation.{Allocation}
use Rattle.alloc_model.specs.Places.{Plan, plan_of}
use Rattle.alloc_model.specs.Faithful.{IsGivenRegister, IsGivenOrScratch, IsTransfer}
use Rattle.frame_memory.specs.flat_frames.Shapes.{frame_size, frame_object_at}
use Rattle.frame_steps.specs.instruction_items.Items.{ItemSetting}
use Rattle.frame_steps.specs.instruction_items.Laws.{IsSmallOperand}
use Rattle.frame_layout.specs.Items.{function_items}
use Rattle.frame_layout.specs.Shapes.{shape_of}
use Rattle.frame_layout.specs.Settings.{most_arguments, near_blocks, near_plan, setting_of}
use Rattle.frame_layout.specs.Names.{NamesObjects}

-- the numbers of an instruction fit, beside data of so many bytes
abbrev pub IsInRange : ItemSetting → (size : ℕ) → TempInsn → Type 0
IsInRange g size (i.Address op destination base plus) = IsDisplacement plus
IsInRange g size (i.ObjectAddress destination (Global k) plus) = g.global_at k + plus ≤ size
IsInRange g size (i.ObjectAddress destination (Local k) plus) = frame_object_at g.shape k + plus < most_address
IsInRange g size (i.Load op destination pointer plus) = IsDisplacement plus
IsInRange g size (i.Store op value pointer plus) = IsDisplacement plus
IsInRange g size (i.Operate op destination left right) = IsSmallOperand right
IsInRange g size (i.Extend op destination source) = IsSmallOperand source
IsInRange g size (i.SetFixed register number) = IsDisplacement number
IsInRange g size (i.WriteArgument number source) = number ≤ most_arguments
IsInRange g size (i.ReadArgument destination number) = number ≤ most_arguments
IsInRange g size _ = Unit {0}

-- the registers and temporaries of an allocation are some that it may name
pub record HasRegisters (a : Plan) : Type 0 where
  pub transfers : All (All (IsTransfer a.temps IsGivenRegister)) a.at
  pub edge_transfers : All (λ e. All (IsTransfer a.temps IsGivenOrScratch) e.code) a.edges
  pub given : All (All IsGivenRegister) a.regs

abbrev pub ItemsAreInRange : Type 0
ItemsAreInRange =
    (a : Plan) (g : ItemSetting) (number size : ℕ) (rest : List AsmItem) → HasRegisters a → g.shape ≡ shape_of a →
    frame_size g.shape ≤ 2 ^ 29 → AllInsns (IsInRange g size) a.function.blocks → All (IsItem size) rest →
    All (IsItem size) (function_items a g number rest)

-- ---- from what is asked of a function that is laid out

-- the numbers that an instruction holds as code have their ranges
abbrev pub HasSmallNumbers : TempInsn → Type 0
HasSmallNumbers (i.Address op destination base plus) = IsDisplacement plus
HasSmallNumbers (i.Load op destination pointer plus) = IsDisplacement plus
HasSmallNumbers (i.Store op value pointer plus) = IsDisplacement plus
HasSmallNumbers (i.Operate op destination left right) = IsSmallOperand right
HasSmallNumbers (i.Extend op destination source) = IsSmallOperand source
HasSmallNumbers (i.SetFixed register number) = IsDisplacement number
HasSmallNumbers _ = Unit {0}

-- so they fit, in the data of the objects of static storage
abbrev pub NumbersFit : Type 0
NumbersFit =
    (a : Allocation) (globals : List DataObject) (first : ℕ) → ObjectsLieFrom 0 globals →
    AllInsns (NamesObjects globals a.func.objects) a.func.blocks → AllInsns HasSmallNumbers a.func.blocks →
    frame_size (shape_of (near_plan (plan_of a))) ≤ 2 ^ 29 →
    AllInsns (IsInRange (setting_of (near_plan (plan_of a)) globals first) (data_end globals))
    (near_blocks a.func.blocks)
