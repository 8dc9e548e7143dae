-- What the machine does at a point of a block: the transfers there, and an instruction that is no call of a function
-- and no return, with the stack of the run as it was.
use Rattle.std.specs.Prelude.{◌≡◌, ℕ, ◌+◌, ◌<◌, ◌≤◌, Bool, true, false, List, [], ◌∷◌, ◌++◌, length, Some, slice_get}
use Rattle.alpha_isa.specs.Program.{Program, word_address}
use Rattle.alpha_isa.specs.State.{State}
use Rattle.alpha_isa.specs.Step as step
use Rattle.alpha_items.specs.declared.item.AsmItem.{AsmItem}
use Rattle.frame_steps.specs.item_steps.Standing.{Labels, ItemsAt}
use Rattle.frame_steps.specs.item_steps.Steps.{Comes, Leaves}
use Rattle.mem_model.specs.World.{Outer}
use Rattle.machine_model.specs.Code.{Exits, Traps, HasNoMeaning, Act, Writes, Jumps, Calls, Returns, Stops}
use Rattle.temp_ir.specs.declared.insn.TempInsn.{TempInsn}
use Rattle.temp_ir.specs.declared.insn.TempInsn.TheVariants as i
use Rattle.temp_ir.specs.Insns.{targets_of}
use Rattle.alloc_model.specs.declared.allocation.Transfer.{Transfer}
use Rattle.alloc_model.specs.declared.allocation.Transfer.TheVariants.{Store, Load, Shift}
use Rattle.alloc_model.specs.Contents.{Content}
use Rattle.alloc_model.specs.Places.{Places, placed_site}
use Rattle.frame_memory.specs.flat_frames.Shapes.{FrameShape}
use Rattle.frame_steps.specs.frame_transfers.Items.{items_of_transfers}
use Rattle.frame_steps.specs.frame_transfers.Laws.{CallAt, FitsTheStack, StandsFor}
use Rattle.frame_simulation.specs.division_calls.Items.{ItemSetting, insn_items}
use Rattle.frame_simulation.specs.division_calls.Laws.{is_usable, MayHold, IsStated, IsThere, HasOuter, RunIsOver}
use Rattle.frame_simulation.specs.division_calls.Stacks.{WaitingCall, Start, StackIs}
use Rattle.frame_simulation.specs.division_calls.Divisions.{RoutinesStand, HasScratch}

-- transfers on slots that are there and registers in which values may stand
abbrev pub MayTransfer : FrameShape → Transfer → Type 0
MayTransfer s (Store t r) = (t < s.temps) × MayHold s r
MayTransfer s (Load t r) = (t < s.temps) × MayHold s r
MayTransfer s (Shift t from to) = MayHold s from × MayHold s to

abbrev pub AllMayTransfer : FrameShape → List Transfer → Type 0
AllMayTransfer s [] = Unit {0}
AllMayTransfer s (x ∷ xs) = MayTransfer s x × AllMayTransfer s xs

-- the instructions that this is said of
abbrev pub stays_in_call : TempInsn → Bool
stays_in_call (i.Call function arguments) = false
stays_in_call (i.Return with_value) = false
stays_in_call _ = true

-- the machine stands behind the point, or at the label of a block, with the stack of the run
pub record PointIsPassed (p : Program) (there : Labels) (start : Start) (items : List AsmItem) (end : ℕ) (c : CallAt)
    (gs : List WaitingCall) (o : Outer) (held : Places) (s : State) : Type 0 where
  pub to : State
  pub comes : Comes p s to
  pub stands : StandsFor p there items end c o.memory is_usable held to
  pub stack : StackIs p there start c gs held to
  pub outer : HasOuter o to

-- it does the latter by a branch behind which items stand
pub record PointIsLeft (p : Program) (there : Labels) (start : Start) (rest : List AsmItem) (end l : ℕ) (c : CallAt)
    (gs : List WaitingCall) (o : Outer) (held : Places) (s : State) : Type 0 where
  pub to : State
  pub next : ℕ
  pub behind : ItemsAt p there next rest end
  pub within : next ≤ length p.words
  pub comes : Leaves p (word_address next) s to
  pub pc : to.pc ≡ word_address (there l)
  pub some : 1 ≤ comes.steps
  pub stands : (items : List AsmItem) (last : ℕ) → ItemsAt p there (there l) items last →
      StandsFor p there items last c o.memory is_usable held to
  pub stack : StackIs p there start c gs held to
  pub outer : HasOuter o to

-- the machine does what an act is, where contents are written by a function of them
abbrev pub PointIsDone : Program → Labels → Start → ItemSetting → (rest : List AsmItem) → (end : ℕ) → CallAt →
    List WaitingCall →
    (written : List Content → Places) → TempInsn → State → Act Content → Type 0
PointIsDone p there start g rest end c gs written x s (Writes cs o) =
    PointIsPassed p there start rest end c gs o (written cs) s
PointIsDone p there start g rest end c gs written x s (Jumps target o) =
    (block : ℕ) → slice_get (targets_of x) target ≡ Some block →
    PointIsLeft p there start rest end (g.block_label block) c gs o (written []) s
PointIsDone p there start g rest end c gs written x s (Calls function cs o) = Unit {0}
PointIsDone p there start g rest end c gs written x s (Returns cs o) = Unit {0}
PointIsDone p there start g rest end c gs written x s (Stops (Exits status) o) = RunIsOver p o (step.Done status) s
PointIsDone p there start g rest end c gs written x s (Stops (Traps code) o) = RunIsOver p o (step.Trap code) s
PointIsDone p there start g rest end c gs written x s (Stops HasNoMeaning o) = Unit {0}

-- a site over registers and slots is done where its transfers and its instruction stand
abbrev pub PointsAreDone : Type 0
PointsAreDone =
    (p : Program) (there : Labels) (start : Start) (g : ItemSetting) (rest : List AsmItem) (end : ℕ) (c : CallAt)
    (gs : List WaitingCall) (o : Outer) (store : Places) (s : State) → FitsTheStack c → g.shape ≡ c.shape →
    StackIs p there start c gs store s → HasOuter o s → RoutinesStand p there → HasScratch p c s →
    (widest : ℕ) → widest ≤ c.shape.outgoing + 6 →
    (transfers : List Transfer) (registers : List ℕ) (x : TempInsn) → AllMayTransfer c.shape transfers →
    stays_in_call x ≡ true → IsStated c.shape registers x → IsThere p g c x →
    StandsFor p there (items_of_transfers c.shape transfers (insn_items g registers x ++ rest)) end c o.memory is_usable
    store s →
    PointIsDone p there start g rest end c gs (λ cs. (placed_site widest transfers registers x).put cs store) x s
    ((placed_site widest transfers registers x).does c.own ((placed_site widest transfers registers x).fetch store) o)
