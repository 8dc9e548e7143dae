-- The peak along a run.
use Rattle.std.proofs.Common.{◌≡◌, ℕ, zero, suc, ◌≤◌, List, [], ◌∷◌, length, Option, Some, None, Bool, true, false, refl, sym, ap, arith}
use Rattle.std.specs.Prelude.{slice_get}
use Rattle.mem_model.specs.World.{Meter, World, Rooms, turn_from, leave_call}
use Rattle.mem_model.specs.Ending.{ending_world}
use Rattle.machine_model.specs.Code.{Stop, Exits, Traps, HasNoMeaning, Act, Writes, Jumps, Calls, Returns, Stops, Site, Code}
use Rattle.machine_model.specs.Machine.{Frame, Config, Next, Goes, Over, whole_world, end_locals, turn_if, stop_ending, jump_to, resume, status_ending, return_to, act_on, step_with, step_at, step, go_on, exec}
use Rattle.machine_model.specs.Laws.{next_world}

abbrev peak : {S : Type 0} → Next S → ℕ
peak x = (next_world x).meter.peak

module _ (V S : Type 0) (rooms : Rooms) (c : Code V S) where
  jump_peak : (k : Config S) (w : World) (s : Site V S) (o : Option ℕ) → peak (jump_to V S rooms c k w s o) ≡ w.meter.peak
  jump_peak k w s None = refl
  jump_peak k w s (Some block) = refl

  resume_peak : (f : Frame S) (fs : List (Frame S)) (w : World) (vs : List V) (o : Option (Site V S)) → peak (resume V S rooms c f fs w vs o) ≡ w.meter.peak
  resume_peak f fs w vs None = refl
  resume_peak f fs w vs (Some s) = refl

  status_peak : (at : ℕ) (w : World) (o : Option ℕ) → (ending_world (status_ending V S rooms c at w o)).meter.peak ≡ w.meter.peak
  status_peak at w None = refl
  status_peak at w (Some status) = refl

  return_peak : (at : ℕ) (vs : List V) (w : World) (fs : List (Frame S)) → peak (return_to V S rooms c at vs w fs) ≡ w.meter.peak
  return_peak at vs w [] = status_peak at w (c.status vs)
  return_peak at vs w (f ∷ fs) = resume_peak f fs w vs (c.site f.point)

  stop_peak : (e : Stop) (at : ℕ) (w : World) → (ending_world (stop_ending e at w)).meter.peak ≡ w.meter.peak
  stop_peak (Exits status) at w = refl
  stop_peak (Traps code) at w = refl
  stop_peak HasNoMeaning at w = refl

  act_peak : (k : Config S) (m : Meter) (s : Site V S) (a : Act V) → m.peak ≤ peak (act_on V S rooms c k m s a)
  act_peak k m s (Writes vs o) = omega arith
  act_peak k m s (Jumps target o) = let e = jump_peak k (whole_world o m) s (slice_get s.targets target) in omega (arith, e)
  act_peak k m s (Calls function vs o) = omega arith
  act_peak k m s (Returns vs o) =
      let w : World = whole_world (end_locals o k.here.own (length (c.locals k.here.point.function))) (leave_call rooms k.here.point.function m) in
      let e = return_peak (c.number k.here.point) vs (whole_world (end_locals o k.here.own (length (c.locals k.here.point.function))) (leave_call rooms k.here.point.function m)) k.callers in omega (arith, e)
  act_peak k m s (Stops e o) = let h = stop_peak e (c.number k.here.point) (whole_world o m) in omega (arith, h)

  from_peak : (n : ℕ) (m u : Meter) → turn_from n m ≡ Some u → u.peak ≡ m.peak
  from_peak zero m u e = absurd (cc)
  from_peak (suc n) m u e = let q : record m { turns = n } ≡ u = cc in sym (ap (λ (x : Meter). x.peak) q)

  turn_peak : (b : Bool) (m u : Meter) → turn_if b m ≡ Some u → u.peak ≡ m.peak
  turn_peak false m u e = let q : m ≡ u = cc in sym (ap (λ (x : Meter). x.peak) q)
  turn_peak true m u e = from_peak m.turns m u e

  with_peak : (k : Config S) (s : Site V S) (o : Option Meter) → turn_if s.turn k.world.meter ≡ o → k.world.meter.peak ≤ peak (step_with V S rooms c k s o)
  with_peak k s None e = omega arith
  with_peak k s (Some m) e =
      let same = turn_peak s.turn k.world.meter m e in
      let rises = act_peak k m s (s.does k.here.own (s.fetch k.here.store) k.world.outer) in omega (arith, same, rises)

  at_peak : (k : Config S) (o : Option (Site V S)) → k.world.meter.peak ≤ peak (step_at V S rooms c k o)
  at_peak k None = omega arith
  at_peak k (Some s) = with_peak k s (turn_if s.turn k.world.meter) refl

  on_peak : (p n : ℕ) (x : Next S) → ((k : Config S) → k.world.meter.peak ≤ peak (exec V S rooms c n k)) → p ≤ peak x → p ≤ peak (go_on x (exec V S rooms c n))
  on_peak p n (Goes k) h le = let rises = h k in omega (arith, rises, le)
  on_peak p n (Over e) h le = le

  pub peak_rises : (n : ℕ) (k : Config S) → k.world.meter.peak ≤ peak (exec V S rooms c n k)
  peak_rises zero k = omega arith
  peak_rises (suc n) k = on_peak k.world.meter.peak n (step V S rooms c k) (peak_rises n) (at_peak k (c.site k.here.point))
