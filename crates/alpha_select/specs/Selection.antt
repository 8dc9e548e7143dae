-- What `select` gives.
use Rattle.std.specs.Prelude.{◌≡◌, ◌+◌, ◌≤◌, List, [], ◌∷◌, map}
use Rattle.suifvm_ir.specs.Programs.{VmFunction}
use Rattle.suifvm_ir.specs.Cost.{cost}
use Rattle.temp_ir.specs.Programs.{TempFn}
use Rattle.temp_ir.specs.Cost.{bulk_when_split}
use Rattle.suifvm_zero_branches.specs.Tests.{tested_block}
use Rattle.selection_code.specs.Functions.{selected_blocks}

-- the selected one of a function: its name, number of parameters and objects stay, it has four temporaries more than
-- the function has registers, and its code is that of the blocks in which branches test values
pub record IsSelectedFunction (f : VmFunction) (g : TempFn) : Type 0 where
  pub name : g.name ≡ f.name
  pub params : g.params ≡ f.params
  pub temps : g.temps ≡ f.temps + 4
  pub objects : g.objects ≡ f.objects
  pub blocks : g.blocks ≡ selected_blocks f.params (map tested_block f.blocks)

abbrev pub AreSelected : List VmFunction → List TempFn → Type 0
AreSelected [] [] = Unit {0}
AreSelected (f ∷ fs) (g ∷ gs) = IsSelectedFunction f g × AreSelected fs gs
AreSelected _ _ = ⊥

-- the bulk of each selected function, with all that splitting its edges may add, is at most the cost of the function
-- that was given
abbrev pub CostLittle : List VmFunction → List TempFn → Type 0
CostLittle [] [] = Unit {0}
CostLittle (f ∷ fs) (g ∷ gs) = (bulk_when_split g ≤ cost f) × CostLittle fs gs
CostLittle _ _ = ⊥
