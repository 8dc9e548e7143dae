-- What a step does to the meter, and how much of the stack the rooms of a run hold.
use Rattle.std.proofs.Common.{◌≡◌, ℕ, zero, suc, ◌+◌, ◌<◌, ◌≤◌, ◌^◌, Bool, true, false, List, [], ◌∷◌, Some, None, refl, sym, ap, subst, arith}
use Rattle.alpha_isa.specs.Program.{stack_start}
use Rattle.alpha_isa.specs.State.{State}
use Rattle.alpha_rt.specs.Calls.{scratch_size}
use Rattle.mem_model.specs.World.{Meter, room_of, turn_from}
use Rattle.machine_model.specs.Code.{Point}
use Rattle.machine_model.specs.Machine.{Frame, Config, Next, Goes, Over, turn_if, go_on}
use Rattle.machine_model.specs.Laws.{next_world}
use Rattle.machine_model.proofs.Peaks.{peak_rises}
use Rattle.temp_ir.specs.declared.insn.TempInsn.{TempInsn}
use Rattle.alloc_model.specs.Contents.{Content}
use Rattle.alloc_model.specs.Places.{Places, Plan, placed_code}
use Rattle.frame_memory.specs.flat_frames.Shapes.{FrameShape, frame_size}
use Rattle.frame_simulation.specs.call_steps.Stacks.{WaitingCall}
use Rattle.frame_simulation.specs.stack_rooms.Rooms.{rooms_size}
use Rattle.frame_simulation.specs.edge_shapes.Shapes.{shape_of}
use Rattle.frame_simulation.specs.flat_steps.Builds.{Build, BuildStands}
use Rattle.frame_simulation.specs.flat_steps.Matching.{StandsInPlan, AreWaiting, total_rooms, FitsStack, step_of, Matches}

-- a turn changes neither room nor peak
pub record IsMetered (m t : Meter) : Type 0 where
  pub room : t.room ≡ m.room
  pub peak : t.peak ≡ m.peak

from-metered : (n : ℕ) (m t : Meter) → turn_from n m ≡ Some t → IsMetered m t
from-metered zero m t e = absurd (cc)
from-metered (suc n) m t e =
    let q : record m { turns = n } ≡ t = cc in
    record { room = sym (ap (λ (x : Meter). x.room) q); peak = sym (ap (λ (x : Meter). x.peak) q) }

pub turn-metered : (turn : Bool) (m t : Meter) → turn_if turn m ≡ Some t → IsMetered m t
turn-metered false m t e =
    let q : m ≡ t = cc in
    record { room = sym (ap (λ (x : Meter). x.room) q); peak = sym (ap (λ (x : Meter). x.peak) q) }
turn-metered true m t e = from-metered m.turns m t e

from-none : (n : ℕ) (m : Meter) → turn_from n m ≡ None → n ≡ 0
from-none zero m e = refl
from-none (suc n) m e = absurd (cc)

pub turn-none : (turn : Bool) (m : Meter) → turn_if turn m ≡ None → m.turns ≡ 0
turn-none false m e = absurd (cc)
turn-none true m e = from-none m.turns m e

-- ---- the peak rises in a step

one-step : (x : Next Places) → next_world (go_on x (λ k. Goes k)) ≡ next_world x
one-step (Goes k) = refl
one-step (Over e) = refl

pub step-peak : (b : Build) (k : Config Places) → k.world.meter.peak ≤ (next_world (step_of b k)).meter.peak
step-peak b k =
    let h = peak_rises Content Places b.rooms (placed_code b.plans) 1 k in
    subst (λ w. k.world.meter.peak ≤ w.meter.peak) (one-step (step_of b k)) h

-- ---- rooms hold frames and scratch bytes

module _ (b : Build) (ok : BuildStands b) where
  frame-fits : (p : Point) (a : Plan) (insns : List TempInsn) (s : FrameShape) → StandsInPlan b p a insns → s ≡ shape_of a → frame_size s + scratch_size ≤ room_of b.rooms p.function
  frame-fits p a insns s h e = subst (λ z. frame_size z + scratch_size ≤ room_of b.rooms p.function) (sym e) (ok.functions p.function a h.plan).room

  pub rooms-hold : (here : Frame Places) (a : Plan) (insns : List TempInsn) (s : FrameShape) (fs : List (Frame Places)) (gs : List WaitingCall) → StandsInPlan b here.point a insns → s ≡ shape_of a → AreWaiting b fs gs → rooms_size s gs ≤ total_rooms b.rooms (here ∷ fs)
  rooms-hold here a insns s [] [] h e w = let fits = frame-fits here.point a insns s h e in omega (arith, fits)
  rooms-hold here a insns s (f ∷ fs) (g ∷ gs) h e w =
      let fits = frame-fits here.point a insns s h e in
      let above = rooms-hold f w.0.plan w.0.insns g.shape fs gs w.0.is_in w.0.shape w.1 in
      omega (arith, fits, above)
  rooms-hold here a insns s [] (g ∷ gs) h e w = absurd w
  rooms-hold here a insns s (f ∷ fs) [] h e w = absurd w

  -- so the stack holds them where it holds the peak
  pub rooms-fit : (k : Config Places) (s : State) (m : Matches b k s) → FitsStack b (step_of b k) → stack_start b.program + rooms_size m.call.shape m.waiting ≤ b.start.top
  rooms-fit k s m fits =
      let hold = rooms-hold k.here m.plan m.insns m.call.shape k.callers m.waiting m.is_in m.shape m.waits in
      let rises = step-peak b k in
      let room = m.room in
      let peak = m.peak in
      omega (arith, hold, rises, room, peak, fits)

  pub small-frame : (p : Point) (a : Plan) (insns : List TempInsn) (s : FrameShape) → StandsInPlan b p a insns → s ≡ shape_of a → frame_size s < 2 ^ 29
  small-frame p a insns s h e = subst (λ z. frame_size z < 2 ^ 29) (sym e) (ok.functions p.function a h.plan).small
