-- The functions of a program, each the code of a function of the unit.
use Rattle.std.specs.Prelude.{◌≡◌, ◌≤◌, ◌+◌, ◌*◌, max, List, [], ◌∷◌}
use Rattle.std.specs.List.{AllZip}
use Rattle.c_typed_tree.specs.declared.types.StructDef.{StructDef}
use Rattle.c_typed_tree.specs.declared.units.TypedFn.{TypedFn}
use Rattle.c_typed_tree.specs.Weight.{function_weight}
use Rattle.pass_core.specs.Functions.{AllInsns}
use Rattle.suifvm_ir.specs.Programs.{VmFunction, arguments_of}
use Rattle.suifvm_ir.specs.Cost.{cost}
use Rattle.lowering_code.specs.Functions.{objects_of, function_blocks}
use Rattle.lowering_layout.specs.Tops.{blocks_top}
use Rattle.lowering_layout.specs.Views.{GoesBackToMarks}

-- a function of a program is the code of one of a unit, with its name, its parameters and its memory locals. It has no
-- more registers than its parameters and its code name
pub record IsLowered (ds : List StructDef) (f : TypedFn) (g : VmFunction) : Type 0 where
  pub name : g.name ≡ f.name
  pub params : g.params ≡ f.params
  pub objects : g.objects ≡ objects_of ds f.locals
  pub blocks : g.blocks ≡ function_blocks ds f
  pub temps : g.temps ≡ max g.params (blocks_top g.blocks)
  pub marks : GoesBackToMarks g.blocks

-- all of them are, by their numbers
abbrev pub AreLowered : List StructDef → List TypedFn → List VmFunction → Type 0
AreLowered ds [] [] = Unit {0}
AreLowered ds [] (g ∷ gs) = ⊥
AreLowered ds (f ∷ fs) [] = ⊥
AreLowered ds (f ∷ fs) (g ∷ gs) = IsLowered ds f g × AreLowered ds fs gs

-- what the code of a function takes, by its weight
pub record IsWithinWeight (ds : List StructDef) (f : TypedFn) (g : VmFunction) : Type 0 where
  pub registers : g.temps ≤ 7 * function_weight ds f
  pub arguments : AllInsns (λ i. arguments_of i ≤ function_weight ds f) g.blocks
  pub cost : cost g ≤ 2048 * (function_weight ds f + 1)

abbrev pub AreWithinWeight : List StructDef → List TypedFn → List VmFunction → Type 0
AreWithinWeight ds [] gs = Unit {0}
AreWithinWeight ds (f ∷ fs) [] = Unit {0}
AreWithinWeight ds (f ∷ fs) (g ∷ gs) = IsWithinWeight ds f g × AreWithinWeight ds fs gs

-- ---- whatever the instructions are

-- A function of a program stands for one of a unit: it has its name, its parameters and its memory locals, no more
-- parameters than registers, and takes no more than its weight allows.
pub record StandsFor (ds : List StructDef) (f : TypedFn) (g : VmFunction) : Type 0 where
  pub name : g.name ≡ f.name
  pub params : g.params ≡ f.params
  pub objects : g.objects ≡ objects_of ds f.locals
  pub registers : g.params ≤ g.temps
  pub within : IsWithinWeight ds f g

-- all of them do, by their numbers
abbrev pub AllStandFor : List StructDef → List TypedFn → List VmFunction → Type 0
AllStandFor ds = AllZip (StandsFor ds)
