-- What the machine does in a whole run, and that it does nothing else.
use Rattle.std.specs.Prelude.{◌≡◌, ℕ, suc, ◌+◌, ◌*◌, ◌≤◌, max, List, [], ◌∷◌, length}
use Rattle.alpha_isa.specs.State.{State}
use Rattle.alpha_isa.specs.Step as step
use Rattle.mem_model.specs.Ending.{Ending, Done, Trap, Undefined, More}
use Rattle.machine_model.specs.Machine.{Config, Next, Goes, Over, exec}
use Rattle.machine_model.specs.Laws.{IsPrefix}
use Rattle.pass_core.specs.Functions.{count_of}
use Rattle.alloc_model.specs.Contents.{Content}
use Rattle.alloc_model.specs.Places.{Places, Plan, placed_code}
use Rattle.frame_simulation.specs.flat_steps.Builds.{Build, BuildStands}
use Rattle.frame_simulation.specs.flat_steps.Matching.{Matches, steps_left, FitsStack, GetsTo, IsOverSoon}

abbrev pub build_run : Build → (steps : ℕ) → Config Places → Next Places
build_run b n k = exec Content Places b.rooms (placed_code b.plans) n k

-- ---- what a run comes to, the machine comes to

-- The machine comes to where it stands for a config. Of the steps that it might take at most it has taken some, and as
-- many are left as it may take yet
pub record ComesTo (b : Build) (d : Config Places) (most : ℕ) (s : State) : Type 0 where
  pub to : State
  pub comes : GetsTo b.program s to
  pub matches : Matches b d to
  pub soon : 4 * comes.steps + steps_left b d matches.waiting to ≤ most

-- it comes to where it has written an output
pub record HasWritten (b : Build) (bytes : List ℕ) (s : State) : Type 0 where
  pub to : State
  pub comes : GetsTo b.program s to
  pub output : to.output ≡ bytes

abbrev pub RunIsDone : Build → (most : ℕ) → State → Next Places → Type 0
RunIsDone b most s (Goes d) = ComesTo b d most s
RunIsDone b most s (Over (Done w status)) = IsOverSoon b w.outer (step.Done status) most s
RunIsDone b most s (Over (Trap w code)) = IsOverSoon b w.outer (step.Trap code) most s
RunIsDone b most s (Over (Undefined w at)) = Unit {0}
RunIsDone b most s (Over (More w)) = HasWritten b w.outer.output s

abbrev pub RunsAreDone : Type 0
RunsAreDone =
    (b : Build) → BuildStands b → (n : ℕ) (k : Config Places) (s : State) (m : Matches b k s) →
    FitsStack b (build_run b n k) →
    RunIsDone b (steps_left b k m.waiting s) s (build_run b n k)

-- ---- and nothing else

-- the most instructions and blocks that a function has
abbrev pub longest_of : List Plan → ℕ
longest_of [] = 0
longest_of (a ∷ plans) = max (count_of a.function.blocks + length a.function.blocks) (longest_of plans)

-- in so many steps the machine takes fewer turns than this
abbrev pub turns_for : List Plan → (steps : ℕ) → ℕ
turns_for plans m = suc m * suc (longest_of plans)

-- where the machine has come to, or how it ended, belongs to an ending of the run, unless that is Undefined
abbrev pub IsEndOf : step.Halt → State → Ending → Type 0
IsEndOf h last (Done w status) = (h ≡ step.Done status) × (last.output ≡ w.outer.output)
IsEndOf h last (Trap w code) = (h ≡ step.Trap code) × (last.output ≡ w.outer.output)
IsEndOf h last (Undefined w at) = Unit {0}
IsEndOf h last (More w) = ⊥

abbrev pub IsFrontOf : State → Ending → Type 0
IsFrontOf t (Undefined w at) = Unit {0}
IsFrontOf t (Done w status) = IsPrefix t.output w.outer.output
IsFrontOf t (Trap w code) = IsPrefix t.output w.outer.output
IsFrontOf t (More w) = IsPrefix t.output w.outer.output

abbrev pub BelongsTo : step.MachineNext → Ending → Type 0
BelongsTo (step.Goes t) e = IsFrontOf t e
BelongsTo (step.Over h last) e = IsEndOf h last e

abbrev pub OnlyTheseEnd : Type 0
OnlyTheseEnd =
    (b : Build) → BuildStands b → (n : ℕ) (k : Config Places) (s : State) (e : Ending) → Matches b k s →
    build_run b n k ≡ Over e → FitsStack b (Over e) → (m : ℕ) → turns_for b.plans m ≤ k.world.meter.turns →
    BelongsTo (step.exec b.program m s) e
