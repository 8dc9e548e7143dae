-- How a run begins in an image: its entry calls `main`, and its data holds the objects of static storage.
use Rattle.std.specs.Prelude.{◌≡◌, ℕ, ◌+◌, ◌*◌, ◌<◌, ◌≤◌, List, ◌∷◌, length}
use Rattle.alpha_isa.specs.declared.insn.BranchOp.TheVariants.{Bsr}
use Rattle.alpha_isa.specs.Program.{IsLawful, data_of, data_start, stack_start}
use Rattle.alpha_isa.specs.Behave as behave
use Rattle.alpha_isa.specs.Behave.{IsStack}
use Rattle.alpha_items.specs.declared.item.AsmItem.TheVariants.{Branch}
use Rattle.frame_steps.specs.item_steps.Standing.{ItemsAt}
use Rattle.mem_model.specs.World.{World}
use Rattle.machine_model.specs.Machine.{Config, Goes, start_config}
use Rattle.mem_objects.specs.declared.DataObject.{DataObject}
use Rattle.alloc_model.specs.Contents.{Content}
use Rattle.alloc_model.specs.Temporaries.{start_world}
use Rattle.alloc_model.specs.Places.{Places, placed_code}
use Rattle.mem_model.specs.Bytes.{AreBytes}
use Rattle.frame_steps.specs.instruction_items.Items.{function_label}
use Rattle.frame_simulation.specs.flat_runs.Builds.{Build, BuildStands}
use Rattle.frame_simulation.specs.flat_runs.Matching.{FitsStack}
use Rattle.frame_simulation.specs.flat_runs.Runs.{ComesTo}
use Rattle.frame_memory.specs.flat_globals.Globals.{AreLaidOut, DataIs, extents_of}

-- the image begins with a call of the function with a number, and is given a stack of a size
pub record IsBegun (b : Build) (main stack : ℕ) (globals : List DataObject) : Type 0 where
  pub lawful : IsLawful b.program
  pub labels : (l : ℕ) → b.there l ≤ length b.program.words
  pub entry : ItemsAt b.program b.there b.program.entry (Branch Bsr 26 (function_label main) ∷ b.start.behind)
      b.start.end
  -- `main` stands behind the start piece
  pub main_ahead : b.start.end ≤ b.there (function_label main)
  pub main_there : main < length b.plans
  pub is_stack : IsStack stack
  pub top : b.start.top ≡ stack_start b.program + stack
  pub laid_out : AreLaidOut globals
  pub data_is : DataIs globals (data_start b.program) (data_of b.program)
  pub extents : b.globals ≡ extents_of (data_start b.program) globals

-- the start of the run over registers and slots
abbrev pub first_config : Build → (main : ℕ) → World → Config Places
first_config b main w = start_config Content Places b.rooms (placed_code b.plans) main w

abbrev pub StartsAreMatched : Type 0
StartsAreMatched =
    (b : Build) (main stack : ℕ) (globals : List DataObject) → BuildStands b → IsBegun b main stack globals →
    (input : List ℕ) (turns : ℕ) → AreBytes input →
    FitsStack b (Goes (first_config b main (start_world globals input turns))) →
    ComesTo b (first_config b main (start_world globals input turns)) (2400 * length b.program.words * (turns + 2))
    (behave.start_state b.program stack input)
