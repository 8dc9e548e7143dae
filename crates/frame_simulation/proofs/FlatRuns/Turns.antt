-- A step takes one turn at most, and a place of a function is not far.
use Rattle.std.proofs.Common.{◌≡◌, ℕ, zero, suc, ◌+◌, ◌≤◌, Bool, true, false, List, [], ◌∷◌, Option, Some, None, length, take, refl, subst, arith}
use Rattle.std.specs.Prelude.{slice_get, max}
use Rattle.alpha_isa.specs.State.{State}
use Rattle.mem_model.specs.World.{Meter, World, Rooms, turn_from, leave_call}
use Rattle.machine_model.specs.Code.{Act, Writes, Jumps, Calls, Returns, Stops, Site, Code}
use Rattle.machine_model.specs.Machine.{Frame, Config, Next, Goes, Over, whole_world, end_locals, turn_if, jump_to, resume, return_to, act_on, step_with, step_at, step}
use Rattle.pass_core.specs.Functions.{count_of}
use Rattle.temp_ir.specs.declared.insn.TempInsn.{TempInsn}
use Rattle.alloc_model.specs.Places.{Places, Plan}
use Rattle.frame_simulation.specs.flat_steps.Builds.{Build}
use Rattle.frame_simulation.specs.flat_steps.Matching.{point_place, Matches}
use Rattle.frame_simulation.proofs.FlatSteps.Lists.{count-cons, count-behind, get-below}
use Rattle.frame_simulation.proofs.FlatSteps.Points.{place-is}
use Rattle.frame_simulation.specs.flat_runs.Runs.{longest_of}

-- with so many turns before a step there is at most one fewer behind it
abbrev pub TakesOne : {S : Type 0} → (turns : ℕ) → Next S → Type 0
TakesOne n (Goes d) = n ≤ suc d.world.meter.turns
TakesOne n (Over e) = Unit {0}

module _ (V S : Type 0) (rooms : Rooms) (c : Code V S) where
  jump-one : (n : ℕ) (k : Config S) (w : World) (s : Site V S) (o : Option ℕ) → n ≤ suc w.meter.turns → TakesOne n (jump_to V S rooms c k w s o)
  jump-one n k w s None h = tt
  jump-one n k w s (Some block) h = h

  resume-one : (n : ℕ) (f : Frame S) (fs : List (Frame S)) (w : World) (vs : List V) (o : Option (Site V S)) → n ≤ suc w.meter.turns → TakesOne n (resume V S rooms c f fs w vs o)
  resume-one n f fs w vs None h = tt
  resume-one n f fs w vs (Some s) h = h

  return-one : (n at : ℕ) (vs : List V) (w : World) (fs : List (Frame S)) → n ≤ suc w.meter.turns → TakesOne n (return_to V S rooms c at vs w fs)
  return-one n at vs w [] h = tt
  return-one n at vs w (f ∷ fs) h = resume-one n f fs w vs (c.site f.point) h

  act-one : (n : ℕ) (k : Config S) (m : Meter) (s : Site V S) (a : Act V) → n ≤ suc m.turns → TakesOne n (act_on V S rooms c k m s a)
  act-one n k m s (Writes vs o) h = h
  act-one n k m s (Jumps target o) h = jump-one n k (whole_world o m) s (slice_get s.targets target) h
  act-one n k m s (Calls function vs o) h = h
  act-one n k m s (Returns vs o) h =
      return-one n (c.number k.here.point) vs (whole_world (end_locals o k.here.own (length (c.locals k.here.point.function))) (leave_call rooms k.here.point.function m)) k.callers h
  act-one n k m s (Stops e o) h = tt

  from-one : (n : ℕ) (m t : Meter) → turn_from n m ≡ Some t → n ≤ suc t.turns
  from-one zero m t e = omega arith
  from-one (suc n) m t e =
      let q : record m { turns = n } ≡ t = cc in
      subst (λ (z : Meter). suc n ≤ suc z.turns) q (omega arith)

  turn-one : (b : Bool) (m t : Meter) → turn_if b m ≡ Some t → m.turns ≤ suc t.turns
  turn-one false m t e = let q : m ≡ t = cc in subst (λ (z : Meter). m.turns ≤ suc z.turns) q (omega arith)
  turn-one true m t e = from-one m.turns m t e

  with-one : (k : Config S) (s : Site V S) (o : Option Meter) → turn_if s.turn k.world.meter ≡ o → TakesOne k.world.meter.turns (step_with V S rooms c k s o)
  with-one k s None e = tt
  with-one k s (Some m) e = act-one k.world.meter.turns k m s (s.does k.here.own (s.fetch k.here.store) k.world.outer) (turn-one s.turn k.world.meter m e)

  at-one : (k : Config S) (o : Option (Site V S)) → TakesOne k.world.meter.turns (step_at V S rooms c k o)
  at-one k None = tt
  at-one k (Some s) = with-one k s (turn_if s.turn k.world.meter) refl

  pub step-one : (k : Config S) → TakesOne k.world.meter.turns (step V S rooms c k)
  step-one k = at-one k (c.site k.here.point)

-- ---- places

longest-holds : (plans : List Plan) (f : ℕ) (a : Plan) → slice_get plans f ≡ Some a → count_of a.function.blocks + length a.function.blocks ≤ longest_of plans
longest-holds [] f a e = absurd (cc)
longest-holds (z ∷ plans) zero a e =
    let is : z ≡ a = cc in
    subst (λ (y : Plan). count_of y.function.blocks + length y.function.blocks ≤ max (count_of z.function.blocks + length z.function.blocks) (longest_of plans)) is (omega arith)
longest-holds (z ∷ plans) (suc f) a e = let h = longest-holds plans f a e in omega (arith, h)

front-count : (n : ℕ) (blocks : List (List TempInsn)) → count_of (take n blocks) ≤ count_of blocks
front-count zero blocks = omega arith
front-count (suc n) [] = omega arith
front-count (suc n) (x ∷ blocks) =
    let h = front-count n blocks in
    let front = count-cons x (take n blocks) in
    let all = count-cons x blocks in
    omega (arith, h, front, all)

pub place-below : (b : Build) (k : Config Places) (s : State) → Matches b k s → point_place b k.here.point ≤ longest_of b.plans
place-below b k s m =
    let is = place-is b k.here.point m.plan m.is_in.plan in
    let most = longest-holds b.plans k.here.point.function m.plan m.is_in.plan in
    let below = get-below m.plan.function.blocks k.here.point.block m.insns m.is_in.block in
    let within = m.is_in.within in
    let behind = count-behind m.plan.function.blocks k.here.point.block m.insns m.is_in.block in
    let front = front-count (suc k.here.point.block) m.plan.function.blocks in
    omega (arith, is, most, below, within, behind, front)
