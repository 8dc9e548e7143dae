-- What is known of the functions over temporaries of a unit, behind the passes over their blocks, by the weights of the
-- unit's functions.
use Rattle.std.specs.Prelude.{◌≡◌, ◌+◌, ◌*◌, ◌^◌, ◌≤◌, ℕ, List, All, IsTrue, map, length, slice_get, Some}
use Rattle.alpha_items.specs.Items.{is_name}
use Rattle.c_typed_tree.specs.declared.types.StructDef.{StructDef}
use Rattle.c_typed_tree.specs.declared.units.TypedFn.{TypedFn}
use Rattle.c_typed_tree.specs.declared.units.TypedUnit.{TypedUnit}
use Rattle.c_typed_tree.specs.Lawful.{IsTypedFn}
use Rattle.c_typed_tree.specs.Weight.{function_weight}
use Rattle.suifvm_ir.specs.declared.program.VmProgram.{VmProgram}
use Rattle.pass_core.specs.Functions.{AllInsns}
use Rattle.suifvm_ir.specs.Programs.{VmFunction, program_size}
use Rattle.temp_ir.specs.declared.program.TempProgram.{TempProgram}
use Rattle.temp_ir.specs.Programs.{TempFn}
use Rattle.temp_ir.specs.Cost as words
use Rattle.lowering.specs.Lowered.{StandsFor, AllStandFor}
use Rattle.frame_bounds.specs.Near.{IsNear}
use Rattle.alpha_select.specs.Selection.{AreSelected, CostLittle}
use Rattle.block_passes.specs.Clauses.{IsSplit}
use Rattle.block_passes.specs.Keeps.{Keeps}
use Rattle.block_preparation_laws.specs.selected_widths.Widths.{HasWidths}

-- A function over temporaries is that of a function of a unit. It has at most four temporaries more than the code over
-- virtual registers has registers. The argument places that it writes are within its widest call, and that gives
-- at most as many arguments as the unit's function weighs; its argument places are told from others; and its words,
-- with all that is moved, are at most 2048 for each unit of the weight and one
pub record IsTempFunctionOf (ds : List StructDef) (f : TypedFn) (g : TempFn) : Type 0 where
  -- the code over virtual registers
  pub code : VmFunction
  pub stands : StandsFor ds f code
  pub name : g.name ≡ f.name
  pub params : g.params ≡ code.params
  pub temps : g.temps ≤ code.temps + 4
  pub objects : g.objects ≡ code.objects
  pub widths : HasWidths (function_weight ds f) g.blocks
  pub near : AllInsns IsNear g.blocks
  pub split : IsSplit g
  pub bulk : words.bulk g ≤ 2048 * (function_weight ds f + 1)

-- so each function of a program is one of the unit's function with its number, and there are as many
pub record AreTempFunctionsOf (unit : TypedUnit) (program : TempProgram) : Type 0 where
  pub count : length program.functions ≡ length unit.functions
  pub functions : (number : ℕ) (f : TypedFn) (g : TempFn) → slice_get unit.functions number ≡ Some f →
      slice_get program.functions number ≡ Some g → IsTempFunctionOf unit.structs f g
  pub near : All (λ (g : TempFn). AllInsns IsNear g.blocks) program.functions
  pub split : (number : ℕ) (g : TempFn) → slice_get program.functions number ≡ Some g → IsSplit g

abbrev pub TempFunctionsFit : Type 0
TempFunctionsFit =
    (unit : TypedUnit) (program : VmProgram) (selected after : TempProgram) →
    AllStandFor unit.structs unit.functions program.functions → program_size program.functions ≤ 2 ^ 24 →
    AreSelected program.functions selected.functions → CostLittle program.functions selected.functions →
    Keeps 1 selected after → All IsSplit after.functions → AreTempFunctionsOf unit after

-- the names are those of the unit's functions, and so names of an assembly
pub record HaveNames (unit : TypedUnit) (program : TempProgram) : Type 0 where
  pub same : map (λ (g : TempFn). g.name) program.functions ≡ map (λ (f : TypedFn). f.name) unit.functions
  pub names : All (IsTypedFn unit) unit.functions → All (λ (g : TempFn). IsTrue (is_name g.name)) program.functions

abbrev pub TempFunctionsHaveNames : Type 0
TempFunctionsHaveNames =
    (splits : ℕ) (unit : TypedUnit) (program : VmProgram) (selected after : TempProgram) →
    AllStandFor unit.structs unit.functions program.functions → AreSelected program.functions selected.functions →
    Keeps splits selected after → HaveNames unit after
