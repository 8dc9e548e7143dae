-- The output along a run, and with more turns.
use Rattle.std.proofs.Common.{◌≡◌, ℕ, zero, suc, ◌+◌, List, [], ◌∷◌, ◌++◌, length, Option, Some, None, refl, sym, ap, ◌∙◌, subst, arith}
use Rattle.std.specs.Prelude.{slice_get}
use Rattle.std.proofs.lemmas.List.{append_assoc, append-nil}
use Rattle.mem_model.specs.World.{Meter, World, Rooms, with_turns, leave_call}
use Rattle.mem_model.specs.Ending.{Ending, ending_output}
use Rattle.machine_model.specs.Code.{Stop, Exits, Traps, HasNoMeaning, Act, Writes, Jumps, Calls, Returns, Stops, Site, Code}
use Rattle.machine_model.specs.Machine.{Frame, Config, Next, Goes, Over, whole_world, end_locals, turn_if, stop_ending, jump_to, resume, status_ending, return_to, act_on, step_with, step_at, step, go_on, exec}
use Rattle.machine_model.specs.Laws.{IsPrefix, config_with_turns, next_world, act_outer, KeepsOutput}
use Rattle.machine_model.proofs.Runs.{steps_keep}
use Rattle.machine_model.proofs.Turns.{Keeps, turn_more, step_more}

abbrev output : {S : Type 0} → Next S → List ℕ
output x = (next_world x).outer.output

prefix-itself : (xs : List ℕ) → IsPrefix xs xs
prefix-itself xs = ([], sym (append-nil xs))

prefix-through : (xs ys zs : List ℕ) → IsPrefix xs ys → IsPrefix ys zs → IsPrefix xs zs
prefix-through xs ys zs a b = (a.0 ++ b.0, b.1 ∙ ap (λ l. l ++ b.0) a.1 ∙ append_assoc xs a.0 b.0)

prefix-equal : (xs ys : List ℕ) → ys ≡ xs → IsPrefix xs ys
prefix-equal xs ys e = subst (IsPrefix xs) (sym e) (prefix-itself xs)

module _ (V S : Type 0) (rooms : Rooms) (c : Code V S) (grows : KeepsOutput V S c) where
  jump_output : (k : Config S) (w : World) (s : Site V S) (o : Option ℕ) → output (jump_to V S rooms c k w s o) ≡ w.outer.output
  jump_output k w s None = refl
  jump_output k w s (Some block) = refl

  resume_output : (f : Frame S) (fs : List (Frame S)) (w : World) (vs : List V) (o : Option (Site V S)) → output (resume V S rooms c f fs w vs o) ≡ w.outer.output
  resume_output f fs w vs None = refl
  resume_output f fs w vs (Some s) = refl

  status_output : (at : ℕ) (w : World) (o : Option ℕ) → ending_output (status_ending V S rooms c at w o) ≡ w.outer.output
  status_output at w None = refl
  status_output at w (Some status) = refl

  return_output : (at : ℕ) (vs : List V) (w : World) (fs : List (Frame S)) → output (return_to V S rooms c at vs w fs) ≡ w.outer.output
  return_output at vs w [] = status_output at w (c.status vs)
  return_output at vs w (f ∷ fs) = resume_output f fs w vs (c.site f.point)

  stop_output : (e : Stop) (at : ℕ) (w : World) → ending_output (stop_ending e at w) ≡ w.outer.output
  stop_output (Exits status) at w = refl
  stop_output (Traps code) at w = refl
  stop_output HasNoMeaning at w = refl

  act_output : (k : Config S) (m : Meter) (s : Site V S) (a : Act V) → output (act_on V S rooms c k m s a) ≡ (act_outer a).output
  act_output k m s (Writes vs o) = refl
  act_output k m s (Jumps target o) = jump_output k (whole_world o m) s (slice_get s.targets target)
  act_output k m s (Calls function vs o) = refl
  act_output k m s (Returns vs o) =
      return_output (c.number k.here.point) vs (whole_world (end_locals o k.here.own (length (c.locals k.here.point.function))) (leave_call rooms k.here.point.function m)) k.callers
  act_output k m s (Stops e o) = stop_output e (c.number k.here.point) (whole_world o m)

  with_output : (k : Config S) (s : Site V S) (o : Option Meter) → c.site k.here.point ≡ Some s → IsPrefix k.world.outer.output (output (step_with V S rooms c k s o))
  with_output k s None is = prefix-itself k.world.outer.output
  with_output k s (Some m) is =
      subst (IsPrefix k.world.outer.output) (sym (act_output k m s (s.does k.here.own (s.fetch k.here.store) k.world.outer)))
      (grows k.here.point s is k.here.own (s.fetch k.here.store) k.world.outer)

  at_output : (k : Config S) (o : Option (Site V S)) → c.site k.here.point ≡ o → IsPrefix k.world.outer.output (output (step_at V S rooms c k o))
  at_output k None is = prefix-itself k.world.outer.output
  at_output k (Some s) is = with_output k s (turn_if s.turn k.world.meter) is

  on_output : (front : List ℕ) (n : ℕ) (x : Next S) → ((k : Config S) → IsPrefix k.world.outer.output (output (exec V S rooms c n k))) → IsPrefix front (output x) → IsPrefix front (output (go_on x (exec V S rooms c n)))
  on_output front n (Goes k) h e = prefix-through front k.world.outer.output (output (exec V S rooms c n k)) e (h k)
  on_output front n (Over f) h e = e

  pub output_grows : (n : ℕ) (k : Config S) → IsPrefix k.world.outer.output (output (exec V S rooms c n k))
  output_grows zero k = prefix-itself k.world.outer.output
  output_grows (suc n) k = on_output k.world.outer.output n (step V S rooms c k) (output_grows n) (at_output k (c.site k.here.point) refl)

  module _ (more : ℕ) where
    with_prefix : (k : Config S) (s : Site V S) (o : Option Meter) → turn_if s.turn k.world.meter ≡ o → c.site k.here.point ≡ Some s →
        IsPrefix (output (step_with V S rooms c k s o)) (output (step_with V S rooms c (config_with_turns more k) s (turn_if s.turn (with_turns more k.world.meter))))
    with_prefix k s None e is = with_output (config_with_turns more k) s (turn_if s.turn (with_turns more k.world.meter)) is
    with_prefix k s (Some m) e is =
        prefix-equal (output (step_with V S rooms c k s (Some m))) (output (step_with V S rooms c (config_with_turns more k) s (turn_if s.turn (with_turns more k.world.meter))))
        (ap (λ o. output (step_with V S rooms c (config_with_turns more k) s o)) (turn_more V S rooms c more s.turn k.world.meter m e)
        ∙ act_output (config_with_turns more k) (with_turns more m) s (s.does k.here.own (s.fetch k.here.store) k.world.outer)
        ∙ sym (act_output k m s (s.does k.here.own (s.fetch k.here.store) k.world.outer)))

    at_prefix : (k : Config S) (o : Option (Site V S)) → c.site k.here.point ≡ o → IsPrefix (output (step_at V S rooms c k o)) (output (step_at V S rooms c (config_with_turns more k) o))
    at_prefix k None is = prefix-itself k.world.outer.output
    at_prefix k (Some s) is = with_prefix k s (turn_if s.turn k.world.meter) refl is

    on_prefix : (n : ℕ) (x y : Next S) → ((k : Config S) → IsPrefix (output (exec V S rooms c n k)) (output (exec V S rooms c n (config_with_turns more k)))) → Keeps more x y → IsPrefix (output x) (output y) →
        IsPrefix (output (go_on x (exec V S rooms c n))) (output (go_on y (exec V S rooms c n)))
    on_prefix n (Goes k) y h e front = subst (λ z. IsPrefix (output (exec V S rooms c n k)) (output (go_on z (exec V S rooms c n)))) (sym e) (h k)
    on_prefix n (Over f) y h e front = on_output (ending_output f) n y (output_grows n) front

    exec_prefix : (n : ℕ) (k : Config S) → IsPrefix (output (exec V S rooms c n k)) (output (exec V S rooms c n (config_with_turns more k)))
    exec_prefix zero k = prefix-itself k.world.outer.output
    exec_prefix (suc n) k =
        on_prefix n (step V S rooms c k) (step V S rooms c (config_with_turns more k)) (exec_prefix n) (step_more V S rooms c more k) (at_prefix k (c.site k.here.point) refl)

    pub turns_extend : (n m : ℕ) (k : Config S) (e f : Ending) → exec V S rooms c n k ≡ Over e → exec V S rooms c m (config_with_turns more k) ≡ Over f → IsPrefix (ending_output e) (ending_output f)
    turns_extend n m k e f x y =
        let sum : n + m ≡ m + n = omega arith in
        let first : exec V S rooms c (n + m) k ≡ Over e = steps_keep V S rooms c n m k e x in
        let second : exec V S rooms c (n + m) (config_with_turns more k) ≡ Over f =
        ap (λ j. exec V S rooms c j (config_with_turns more k)) sum ∙ steps_keep V S rooms c m n (config_with_turns more k) f y in
        subst (λ (z : Next S). IsPrefix (output z) (ending_output f)) first (subst (λ (z : Next S). IsPrefix (output (exec V S rooms c (n + m) k)) (output z)) second (exec_prefix (n + m) k))
