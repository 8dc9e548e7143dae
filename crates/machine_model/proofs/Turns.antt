-- Runs with more turns.
use Rattle.std.proofs.Common.{◌≡◌, ℕ, zero, suc, ◌+◌, List, [], ◌∷◌, length, Option, Some, None, Bool, true, false, refl, sym, ap, ◌∙◌, subst, arith}
use Rattle.std.specs.Prelude.{slice_get}
use Rattle.mem_model.specs.World.{Meter, World, Rooms, turn_from, with_turns, leave_call}
use Rattle.mem_model.specs.Ending.{Ending, Done, Trap, Undefined, More}
use Rattle.machine_model.specs.Code.{Stop, Exits, Traps, HasNoMeaning, Act, Writes, Jumps, Calls, Returns, Stops, Site, Code}
use Rattle.machine_model.specs.Machine.{Frame, Config, Next, Goes, Over, whole_world, end_locals, turn_if, stop_ending, jump_to, resume, status_ending, return_to, act_on, step_with, step_at, step, go_on, exec}
use Rattle.machine_model.specs.Laws.{world_with_turns, config_with_turns, ending_with_turns, IsFinal}

abbrev next_with_turns : {S : Type 0} → ℕ → Next S → Next S
next_with_turns more (Goes k) = Goes (config_with_turns more k)
next_with_turns more (Over e) = Over (ending_with_turns more e)

-- the same with more turns, unless turns were wanting
abbrev pub Keeps : {S : Type 0} → ℕ → Next S → Next S → Type 0
Keeps more (Over (More w)) y = Unit {0}
Keeps more (Over (Done w status)) y = y ≡ Over (Done (world_with_turns more w) status)
Keeps more (Over (Trap w code)) y = y ≡ Over (Trap (world_with_turns more w) code)
Keeps more (Over (Undefined w at)) y = y ≡ Over (Undefined (world_with_turns more w) at)
Keeps more (Goes k) y = y ≡ Goes (config_with_turns more k)

module _ (V S : Type 0) (rooms : Rooms) (c : Code V S) (more : ℕ) where
  jump_more : (k : Config S) (w : World) (s : Site V S) (o : Option ℕ) → jump_to V S rooms c (config_with_turns more k) (world_with_turns more w) s o ≡ next_with_turns more (jump_to V S rooms c k w s o)
  jump_more k w s None = refl
  jump_more k w s (Some block) = refl

  resume_more : (f : Frame S) (fs : List (Frame S)) (w : World) (vs : List V) (o : Option (Site V S)) → resume V S rooms c f fs (world_with_turns more w) vs o ≡ next_with_turns more (resume V S rooms c f fs w vs o)
  resume_more f fs w vs None = refl
  resume_more f fs w vs (Some s) = refl

  status_more : (at : ℕ) (w : World) (o : Option ℕ) → status_ending V S rooms c at (world_with_turns more w) o ≡ ending_with_turns more (status_ending V S rooms c at w o)
  status_more at w None = refl
  status_more at w (Some status) = refl

  return_more : (at : ℕ) (vs : List V) (w : World) (fs : List (Frame S)) → return_to V S rooms c at vs (world_with_turns more w) fs ≡ next_with_turns more (return_to V S rooms c at vs w fs)
  return_more at vs w [] = ap (λ e. Over e) (status_more at w (c.status vs))
  return_more at vs w (f ∷ fs) = resume_more f fs w vs (c.site f.point)

  stop_more : (e : Stop) (at : ℕ) (w : World) → stop_ending e at (world_with_turns more w) ≡ ending_with_turns more (stop_ending e at w)
  stop_more (Exits status) at w = refl
  stop_more (Traps code) at w = refl
  stop_more HasNoMeaning at w = refl

  act_more : (k : Config S) (m : Meter) (s : Site V S) (a : Act V) → act_on V S rooms c (config_with_turns more k) (with_turns more m) s a ≡ next_with_turns more (act_on V S rooms c k m s a)
  act_more k m s (Writes vs o) = refl
  act_more k m s (Jumps target o) = jump_more k (whole_world o m) s (slice_get s.targets target)
  act_more k m s (Calls function vs o) = refl
  act_more k m s (Returns vs o) =
      return_more (c.number k.here.point) vs (whole_world (end_locals o k.here.own (length (c.locals k.here.point.function))) (leave_call rooms k.here.point.function m)) k.callers
  act_more k m s (Stops e o) = ap (λ x. Over x) (stop_more e (c.number k.here.point) (whole_world o m))

  from_more : (n : ℕ) (m u : Meter) → turn_from n m ≡ Some u → turn_from (n + more) (with_turns more m) ≡ Some (with_turns more u)
  from_more zero m u e = absurd (cc)
  from_more (suc n) m u e =
      let q : record m { turns = n } ≡ u = cc in
      let sum : suc n + more ≡ suc (n + more) = omega arith in
      ap (λ x. turn_from x (with_turns more m)) sum ∙ ap (λ x. Some (with_turns more x)) q

  pub turn_more : (b : Bool) (m u : Meter) → turn_if b m ≡ Some u → turn_if b (with_turns more m) ≡ Some (with_turns more u)
  turn_more false m u e = let q : m ≡ u = cc in ap (λ x. Some (with_turns more x)) q
  turn_more true m u e = from_more m.turns m u e

  keeps : (x y : Next S) → y ≡ next_with_turns more x → Keeps more x y
  keeps (Goes k) y e = e
  keeps (Over (Done w status)) y e = e
  keeps (Over (Trap w code)) y e = e
  keeps (Over (Undefined w at)) y e = e
  keeps (Over (More w)) y e = tt

  with_more : (k : Config S) (s : Site V S) (o : Option Meter) → turn_if s.turn k.world.meter ≡ o → Keeps more (step_with V S rooms c k s o) (step_with V S rooms c (config_with_turns more k) s (turn_if s.turn (with_turns more k.world.meter)))
  with_more k s None e = tt
  with_more k s (Some m) e =
      let a : Act V = s.does k.here.own (s.fetch k.here.store) k.world.outer in
      keeps (act_on V S rooms c k m s (s.does k.here.own (s.fetch k.here.store) k.world.outer)) _
      (ap (step_with V S rooms c (config_with_turns more k) s) (turn_more s.turn k.world.meter m e) ∙ act_more k m s (s.does k.here.own (s.fetch k.here.store) k.world.outer))

  at_more : (k : Config S) (o : Option (Site V S)) → Keeps more (step_at V S rooms c k o) (step_at V S rooms c (config_with_turns more k) o)
  at_more k None = refl
  at_more k (Some s) = with_more k s (turn_if s.turn k.world.meter) refl

  pub step_more : (k : Config S) → Keeps more (step V S rooms c k) (step V S rooms c (config_with_turns more k))
  step_more k = at_more k (c.site k.here.point)

  on_more : (n : ℕ) (x y : Next S) → ((k : Config S) → Keeps more (exec V S rooms c n k) (exec V S rooms c n (config_with_turns more k))) → Keeps more x y → Keeps more (go_on x (exec V S rooms c n)) (go_on y (exec V S rooms c n))
  on_more n (Goes k) y h e = subst (λ z. Keeps more (exec V S rooms c n k) (go_on z (exec V S rooms c n))) (sym e) (h k)
  on_more n (Over (Done w status)) y h e = ap (λ z. go_on z (exec V S rooms c n)) e
  on_more n (Over (Trap w code)) y h e = ap (λ z. go_on z (exec V S rooms c n)) e
  on_more n (Over (Undefined w at)) y h e = ap (λ z. go_on z (exec V S rooms c n)) e
  on_more n (Over (More w)) y h e = tt

  pub exec_more : (n : ℕ) (k : Config S) → Keeps more (exec V S rooms c n k) (exec V S rooms c n (config_with_turns more k))
  exec_more zero k = refl
  exec_more (suc n) k = on_more n (step V S rooms c k) (step V S rooms c (config_with_turns more k)) (exec_more n) (step_more k)

  final_is : (e : Ending) (y : Next S) → IsFinal e → Keeps more (Over e) y → y ≡ Over (ending_with_turns more e)
  final_is (Done w status) y f h = h
  final_is (Trap w code) y f h = h
  final_is (Undefined w at) y f h = h
  final_is (More w) y f h = absurd f

  pub turns_keep : (n : ℕ) (k : Config S) (e : Ending) → exec V S rooms c n k ≡ Over e → IsFinal e → exec V S rooms c n (config_with_turns more k) ≡ Over (ending_with_turns more e)
  turns_keep n k e is f = final_is e (exec V S rooms c n (config_with_turns more k)) f (subst (λ x. Keeps more x (exec V S rooms c n (config_with_turns more k))) is (exec_more n k))
