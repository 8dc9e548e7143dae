-- Runs of functions whose jumps go on past others.
use Rattle.std.specs.Prelude.{◌≡◌, ℕ, List, [], ◌∷◌}
use Rattle.mem_model.specs.World.{World, Rooms}
use Rattle.mem_model.specs.Ending.{Ending, IsDefined}
use Rattle.machine_model.specs.Machine.{Over}
use Rattle.suifvm_meaning.specs.Behave.{FunctionCode, vm_run}
use Rattle.flow_clean.specs.Chains.{AreChained}

-- functions by number, of which the second ones have the jumps of the first past those that are only instructions
pub data FunctionsAreChained : (before after : List FunctionCode) → Type 0 where
  NoFunction : FunctionsAreChained [] []
  Function : {fs gs : List FunctionCode} → (f g : FunctionCode) → g.sizes ≡ f.sizes → AreChained f.blocks g.blocks →
      FunctionsAreChained fs gs → FunctionsAreChained (f ∷ fs) (g ∷ gs)

-- a run that ends with a meaning ends so too, in the same world
abbrev pub ChainsKeepRuns : Type 0
ChainsKeepRuns =
    (rooms : Rooms) (fs gs : List FunctionCode) → FunctionsAreChained fs gs →
    (main : ℕ) (w : World) (steps : ℕ) (e : Ending) → IsDefined e → vm_run rooms fs main w steps ≡ Over e →
    (fewer : ℕ) × (vm_run rooms gs main w fewer ≡ Over e)
