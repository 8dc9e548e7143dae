-- How a run from any configuration stops.
use Rattle.std.specs.Prelude.{◌≡◌, ℕ, List, ◌++◌, option_map}
use Rattle.bk_memory.specs.Shortage.{MemoryIsShort}
use Rattle.mem_model.specs.World.{World}
use Rattle.mem_model.specs.Ending.{Ending, Done, Trap, Undefined, More}
use Rattle.machine_model.specs.Machine.{Over}
use Rattle.suifvm_run.specs.declared.ending.VmEnding.{VmEnding}
use Rattle.suifvm_run.specs.declared.ending.VmEnding.TheVariants as e
use Rattle.suifvm_run.specs.Run.{Steps, GoesOn, TakesNext, PutsNext, input_calls}
use Rattle.bk_io.specs.Outside.{Traffic, count_plus}

-- a run is over after some number of steps
pub record EndsWith (run : Steps) (e : Ending) : Type 0 where
  pub steps : ℕ
  pub over : run steps ≡ Over e

abbrev pub StopsAs : Steps → (turns : ℕ) → VmEnding → (last : World) → Type 0
StopsAs run turns (e.Ended status) last = EndsWith run (Done last status)
StopsAs run turns (e.Trapped code) last = EndsWith run (Trap last code)
StopsAs run turns (e.Undefined pc) last = EndsWith run (Undefined last pc)
StopsAs run turns (e.Budget n) last = (n ≡ turns) × EndsWith run (More last)
StopsAs run turns e.InputFault last = TakesNext run last
StopsAs run turns e.WriteFault last = PutsNext run last
StopsAs run turns e.NoMemory last = GoesOn run last × MemoryIsShort

-- a run that stopped, of whose input this rest is left: how, and what it did to the input and the output
pub record IsRun (run : Steps) (turns : ℕ) (ending : VmEnding) (rest : List ℕ) (told after : Traffic) : Type 0 where
  pub last : World
  pub stops : StopsAs run turns ending last
  pub left : last.outer.input ≡ rest
  pub made : after.made ≡ option_map (count_plus (input_calls ending last.outer.takings)) told.made
  pub taken : after.taken ≡ option_map (λ bytes. bytes ++ last.outer.output) told.taken
