-- What an image does in which the items of a program stand, with an allocation for each of its functions.
use Rattle.std.specs.Prelude.{◌≡◌, ℕ, ◌+◌, ◌*◌, ◌≤◌, List, length, map}
use Rattle.alpha_isa.specs.Program.{Program}
use Rattle.alpha_isa.specs.Behave as image
use Rattle.alpha_isa.specs.Behave.{Behaviour, behave_a}
use Rattle.mem_model.specs.Ending.{Ending, Done, Trap, Undefined, More, ending_output, ending_peak}
use Rattle.machine_model.specs.Laws.{IsPrefix}
use Rattle.temp_ir.specs.declared.program.TempProgram.{TempProgram}
use Rattle.alloc_model.specs.declared.allocation.Allocation.{Allocation}
use Rattle.alloc_model.specs.Temporaries.{code_of, main_of, TempsEnd}
use Rattle.alloc_model.specs.Places.{plan_of, functions_of}
use Rattle.mem_model.specs.Bytes.{AreBytes}
use Rattle.image_theorem.specs.flat_starts.Builds.{Build, BuildStands}
use Rattle.image_theorem.specs.flat_starts.Runs.{turns_for}
use Rattle.image_theorem.specs.flat_starts.Starts.{IsBegun}

-- a program was built in an image, by these allocations, for a stack of a size
pub record IsImageOf (b : Build) (program : TempProgram) (allocations : List Allocation) (stack : ℕ) : Type 0 where
  pub plans : b.plans ≡ map plan_of allocations
  pub functions : map code_of program.functions ≡ functions_of (map plan_of allocations)
  pub built : BuildStands b
  pub begun : IsBegun b (main_of program.functions) stack program.globals

-- the steps that an image takes at most where its program takes so many turns
abbrev pub steps_for : Program → (turns : ℕ) → ℕ
steps_for p turns = 600 * length p.words * (turns + 1)

-- In some number of steps the image does what an ending with so many turns is: it ends with the same output and status
-- or code, in so many steps at most, or has written the same output. Of an ending that is Undefined nothing is said
abbrev pub HasBehaviour : Program → (stack : ℕ) → (input : List ℕ) → (turns : ℕ) → Ending → Type 0
HasBehaviour p stack input turns (Done w status) =
    (m : ℕ) × (behave_a p stack input m ≡ image.Done w.outer.output status) × (m ≤ steps_for p turns)
HasBehaviour p stack input turns (Trap w code) =
    (m : ℕ) × (behave_a p stack input m ≡ image.Trap w.outer.output code) × (m ≤ steps_for p turns)
HasBehaviour p stack input turns (Undefined w at) = Unit {0}
HasBehaviour p stack input turns (More w) = (m : ℕ) × (behave_a p stack input m ≡ image.More w.outer.output)

-- what an image does in some number of steps is that ending, or leads to it: it is never stuck
abbrev pub AgreesWith : Behaviour → Ending → Type 0
AgreesWith x (Undefined w at) = Unit {0}
AgreesWith (image.Done output status) (Done w n) = (status ≡ n) × (output ≡ w.outer.output)
AgreesWith (image.Trap output code) (Trap w n) = (code ≡ n) × (output ≡ w.outer.output)
AgreesWith (image.More output) e = IsPrefix output (ending_output e)
AgreesWith _ _ = ⊥

-- both, where the run over temporaries may take so many turns
pub record ImageDoes (b : Build) (stack : ℕ) (input : List ℕ) (turns : ℕ) (e : Ending) : Type 0 where
  pub behaves : HasBehaviour b.program stack input turns e
  pub only : (m : ℕ) → turns_for b.plans m ≤ turns → AgreesWith (behave_a b.program stack input m) e

-- for each ending of the program whose rooms the stack holds
abbrev pub ImagesKeep : Type 0
ImagesKeep =
    (b : Build) (program : TempProgram) (allocations : List Allocation) (stack : ℕ) →
    IsImageOf b program allocations stack → (input : List ℕ) → AreBytes input → (turns : ℕ) (e : Ending) →
    TempsEnd b.rooms program input turns e → ending_peak e ≤ stack → ImageDoes b stack input turns e
