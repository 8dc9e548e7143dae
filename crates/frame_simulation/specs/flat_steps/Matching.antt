-- When the machine stands for a run over registers and slots, and that it follows each step of the run.
use Rattle.std.specs.Prelude.{◌≡◌, ℕ, suc, ◌+◌, ◌-◌, ◌*◌, ◌≤◌, ◌⊎◌, List, [], ◌∷◌, drop, length, Option, Some, None, slice_get}
use Rattle.alpha_isa.specs.Program.{Program, stack_start, word_address}
use Rattle.alpha_isa.specs.State.{State}
use Rattle.alpha_isa.specs.Step as step
use Rattle.alpha_items.specs.declared.item.AsmItem.{AsmItem}
use Rattle.mem_model.specs.World.{Outer, Rooms, room_of}
use Rattle.mem_model.specs.Ending.{Done, Trap, Undefined, More}
use Rattle.machine_model.specs.Code.{Point}
use Rattle.machine_model.specs.Machine as machine
use Rattle.machine_model.specs.Machine.{Frame, Config, Next, Goes, Over}
use Rattle.machine_model.specs.Laws.{next_world}
use Rattle.pass_core.specs.Functions.{insn_at}
use Rattle.temp_ir.specs.declared.insn.TempInsn.{TempInsn}
use Rattle.temp_ir.specs.declared.insn.TempInsn.TheVariants as i
use Rattle.alloc_model.specs.Contents.{Content}
use Rattle.alloc_model.specs.Places.{Places, Plan, linear_number, transfers_at, do_all, placed_code}
use Rattle.frame_memory.specs.Laws.{MoreExtents}
use Rattle.frame_steps.specs.frame_transfers.Items.{items_of_transfers}
use Rattle.frame_steps.specs.frame_transfers.Laws.{CallAt, FitsTheStack, StandsFor}
use Rattle.frame_simulation.specs.stack_rooms.Laws.{is_usable, HasOuter}
use Rattle.frame_simulation.specs.call_steps.Stacks.{WaitingCall, StackIs}
use Rattle.frame_simulation.specs.edge_shapes.Items.{insns_items, end_transfers, blocks_items, exit_items}
use Rattle.frame_simulation.specs.edge_shapes.Shapes.{shape_of}
use Rattle.frame_simulation.specs.flat_steps.Builds.{Build, BuildStands}

-- ---- places

-- a point stands in a block of a plan, or at its end
pub record StandsInPlan (b : Build) (p : Point) (a : Plan) (insns : List TempInsn) : Type 0 where
  pub plan : slice_get b.plans p.function ≡ Some a
  pub block : slice_get a.function.blocks p.block ≡ Some insns
  pub within : p.at ≤ length insns

-- the items of its function from it on
abbrev pub items_from_point : Build → Plan → Point → List TempInsn → List AsmItem
items_from_point b a p insns =
    insns_items a (b.setting p.function) p.block p.at (drop p.at insns)
    (items_of_transfers (b.setting p.function).shape (end_transfers a p.block insns)
    (blocks_items a (b.setting p.function) (suc p.block) (drop (suc p.block) a.function.blocks)
    (exit_items (b.setting p.function) (b.behind p.function))))

-- ---- calls that wait

-- a call that waits stands at a call, and is kept on the stack as it is once the transfers before that are done
pub record WaitsFor (b : Build) (f : Frame Places) (g : WaitingCall) : Type 0 where
  pub plan : Plan
  pub insns : List TempInsn
  pub is_in : StandsInPlan b f.point plan insns
  pub function : ℕ
  pub arguments : ℕ
  pub stands : slice_get insns f.point.at ≡ Some (i.Call function arguments)
  pub shape : g.shape ≡ shape_of plan
  pub own : g.own ≡ f.own
  pub held : g.held ≡ do_all (transfers_at plan f.point.block f.point.at) f.store
  pub behind : g.behind ≡ items_from_point b plan (record f.point { at = suc f.point.at }) insns
  pub end : g.end ≡ b.end

abbrev pub AreWaiting : Build → List (Frame Places) → List WaitingCall → Type 0
AreWaiting b [] [] = Unit {0}
AreWaiting b (f ∷ fs) (g ∷ gs) = WaitsFor b f g × AreWaiting b fs gs
AreWaiting b _ _ = ⊥

-- the sum of the rooms of calls
abbrev pub total_rooms : Rooms → List (Frame Places) → ℕ
total_rooms rooms [] = 0
total_rooms rooms (f ∷ fs) = room_of rooms f.point.function + total_rooms rooms fs

-- ---- the machine stands for a run

pub record Matches (b : Build) (k : Config Places) (s : State) : Type 0 where
  pub call : CallAt
  pub waiting : List WaitingCall
  pub plan : Plan
  pub insns : List TempInsn
  pub is_in : StandsInPlan b k.here.point plan insns
  pub shape : call.shape ≡ shape_of plan
  pub own : call.own ≡ k.here.own
  pub is_call : FitsTheStack call
  pub globals : MoreExtents b.globals call.extents
  pub stands : StandsFor b.program b.there (items_from_point b plan k.here.point insns) b.end call
      k.world.outer.memory is_usable
      k.here.store s
  pub stack : StackIs b.program b.there b.start call waiting k.here.store s
  pub outer : HasOuter k.world.outer s
  pub waits : AreWaiting b k.callers waiting
  pub room : k.world.meter.room ≡ total_rooms b.rooms (k.here ∷ k.callers)
  pub peak : k.world.meter.room ≤ k.world.meter.peak

-- ---- how many steps the machine may take yet, four for each

abbrev pub program_end : Build → ℕ
program_end b = word_address (length b.program.words)

-- the words behind the calls that wait are gone through once more
abbrev pub waiting_steps : Build → List WaitingCall → ℕ
waiting_steps b [] = 0
waiting_steps b (g ∷ gs) = 600 * (program_end b - word_address g.place) + waiting_steps b gs

-- how often all words may be gone through from an entry or a mark: once for each turn that is left, and once more; where
-- the run stands at a mark, the turn that comes next is spent
abbrev pub passes_at : Option TempInsn → (turns : ℕ) → ℕ
passes_at (Some i.Mark) turns = turns
passes_at _ turns = suc turns

abbrev pub insn_of_plan : Option Plan → Point → Option TempInsn
insn_of_plan None p = None
insn_of_plan (Some a) p = insn_at a.function.blocks p.block p.at

abbrev pub passes_left : Build → Config Places → ℕ
passes_left b k = passes_at (insn_of_plan (slice_get b.plans k.here.point.function) k.here.point) k.world.meter.turns

-- three words stand behind the first call
abbrev pub steps_left : Build → Config Places → List WaitingCall → State → ℕ
steps_left b k gs s =
    600 * (program_end b - s.pc) + waiting_steps b gs + 2400 * length b.program.words * passes_left b k + 7200

-- ---- steps

-- in a number of steps the machine comes from a state to another, wherever that is
pub record GetsTo (p : Program) (s t : State) : Type 0 where
  pub steps : ℕ
  pub run : step.exec p steps s ≡ step.Goes t

-- how many instructions and blocks of its function stand before a point
abbrev pub place_in : Option Plan → Point → ℕ
place_in None p = 0
place_in (Some a) p = linear_number a.function.blocks p.block p.at + p.block

abbrev pub point_place : Build → Point → ℕ
point_place b p = place_in (slice_get b.plans p.function) p

-- the machine comes to where it stands for what a step leads to; where it takes no step itself, the run goes on by one
-- place
pub record IsFollowed (b : Build) (k d : Config Places) (gs : List WaitingCall) (s : State) : Type 0 where
  pub to : State
  pub comes : GetsTo b.program s to
  pub matches : Matches b d to
  pub soon : 4 * comes.steps + steps_left b d matches.waiting to ≤ steps_left b k gs s
  pub moves : (1 ≤ comes.steps) ⊎ (point_place b d.here.point ≡ suc (point_place b k.here.point))

-- so much of the stack is used as there is
abbrev pub FitsStack : Build → Next Places → Type 0
FitsStack b n = stack_start b.program + (next_world n).meter.peak ≤ b.start.top

-- the run is over within so many steps, and all words might be gone through once more
pub record IsOverSoon (b : Build) (o : Outer) (h : step.Halt) (most : ℕ) (s : State) : Type 0 where
  pub steps : ℕ
  pub last : State
  pub run : step.exec b.program steps s ≡ step.Over h last
  pub output : last.output ≡ o.output
  pub soon : 4 * steps + 2400 * length b.program.words ≤ most

-- the machine does what a step comes to, unless that is Undefined
abbrev pub StepIsDone : Build → Config Places → List WaitingCall → State → Next Places → Type 0
StepIsDone b k gs s (Goes d) = IsFollowed b k d gs s
StepIsDone b k gs s (Over (Done w status)) = IsOverSoon b w.outer (step.Done status) (steps_left b k gs s) s
StepIsDone b k gs s (Over (Trap w code)) = IsOverSoon b w.outer (step.Trap code) (steps_left b k gs s) s
StepIsDone b k gs s (Over (Undefined w at)) = Unit {0}
StepIsDone b k gs s (Over (More w)) = (k.world.meter.turns ≡ 0) × (w.outer.output ≡ s.output)

abbrev pub step_of : Build → Config Places → Next Places
step_of b k = machine.step Content Places b.rooms (placed_code b.plans) k

abbrev pub StepsAreDone : Type 0
StepsAreDone =
    (b : Build) → BuildStands b → (k : Config Places) (s : State) (m : Matches b k s) → FitsStack b (step_of b k) →
    StepIsDone b k m.waiting s (step_of b k)
