-- The machine does nothing else than what the run comes to.
use Rattle.std.proofs.Common.{◌≡◌, ℕ, zero, suc, ◌+◌, ◌-◌, ◌*◌, ◌<◌, ◌≤◌, ◌⊎◌, List, ◌++◌, refl, sym, ap, ◌∙◌, subst, arith, inl, inr, ⊎_elim, append_assoc}
use Rattle.std.proofs.lemmas.Bool.{cases_lt}
use Rattle.alpha_isa.specs.State.{State}
use Rattle.alpha_isa.specs.Step as step
use Rattle.mem_model.specs.World.{Outer}
use Rattle.mem_model.specs.Ending.{Ending, Done, Trap, Undefined, More, ending_output}
use Rattle.machine_model.specs.Machine.{Config, Next, Goes, Over, go_on}
use Rattle.machine_model.specs.Laws.{IsPrefix, KeepsOutput, next_world}
use Rattle.machine_model.proofs.Outputs.{output_grows}
use Rattle.alloc_model.specs.Contents.{Content}
use Rattle.alloc_model.specs.Places.{Places, Plan, placed_code}
use Rattle.frame_simulation.specs.flat_steps.Stacks.{WaitingCall}
use Rattle.frame_simulation.specs.flat_steps.Builds.{Build, BuildStands}
use Rattle.frame_simulation.specs.flat_steps.Matching.{point_place, Matches, steps_left, IsFollowed, IsOverSoon, FitsStack, StepIsDone, step_of}
use Rattle.frame_simulation.proofs.FlatSteps.Steps.{steps_are_done}
use Rattle.frame_simulation.specs.flat_runs.Runs.{build_run, longest_of, turns_for, IsEndOf, IsFrontOf, BelongsTo}
use Rattle.frame_simulation.proofs.FlatRuns.Machines.{rest-of, one-end, goes-before, over-behind, front-of}
use Rattle.frame_simulation.proofs.FlatRuns.Turns.{TakesOne, step-one, place-below}
use Rattle.frame_simulation.proofs.FlatRuns.Forward.{fits-first}

front-through : (a b c : List ℕ) → IsPrefix a b → IsPrefix b c → IsPrefix a c
front-through a b c x y = (x.0 ++ y.0, y.1 ∙ ap (λ l. l ++ y.0) x.1 ∙ append_assoc a x.0 y.0)

-- what the machine has written where the output of the run is at an ending
front-is : (t : State) (e : Ending) → IsPrefix t.output (ending_output e) → IsFrontOf t e
front-is t (Done w status) h = h
front-is t (Trap w code) h = h
front-is t (Undefined w at) h = tt
front-is t (More w) h = h

-- ---- numbers

-- behind a step of the machine there is one fewer of them, and so many turns fewer
fewer-steps : (j m S turns later place L : ℕ) → S ≡ suc L → suc j ≤ m → m * S + L < turns + place → place ≤ L → turns ≤ suc later → (m - suc j) * S + L < later
fewer-steps j m S turns later place L is le enough below one =
    let rest : m ≡ m - suc j + suc j = omega (arith, le) in
    let split : m * S ≡ (m - suc j + suc j) * S = ap (λ n. n * S) rest in
    let whole : m * suc L + L < turns + place = subst (λ z. m * z + L < turns + place) is enough in
    let cut : m * suc L ≡ (m - suc j) * suc L + suc j * suc L = subst (λ n. n * suc L ≡ (m - suc j) * suc L + suc j * suc L) (sym rest) (spread (m - suc j) (suc j) (suc L)) in
    let each : suc j * suc L ≡ j * suc L + suc L = omega arith in
    subst (λ z. (m - suc j) * z + L < later) (sym is) (omega (arith, whole, cut, each, below, one))
  where
    spread : (a c d : ℕ) → (a + c) * d ≡ a * d + c * d
    spread a c d = omega arith

no-more-steps : (j m S turns later place next L : ℕ) → m * S + L < turns + place → next ≡ suc place → turns ≤ suc later → (m - j) * S ≤ m * S → (m - j) * S + L < later + next
no-more-steps j m S turns later place next L enough is one le = omega (arith, enough, is, one, le)

less-times : (j m S : ℕ) → j ≤ m → (m - j) * S ≤ m * S
less-times j m S le =
    let rest : m - j + j ≡ m = omega (arith, le) in
    subst (λ n. (m - j) * S ≤ n * S) rest (spread (m - j) j S)
  where
    spread : (a c d : ℕ) → a * d ≤ (a + c) * d
    spread a c d = let e : (a + c) * d ≡ a * d + c * d = omega arith in omega (arith, e)

-- ---- one step

module _ (b : Build) (ok : BuildStands b) (keeps : KeepsOutput Content Places (placed_code b.plans)) where
  -- turns are left for so many steps of the machine
  abbrev Enough : (m : ℕ) → Config Places → Type 0
  Enough m k = m * suc (longest_of b.plans) + longest_of b.plans < k.world.meter.turns + point_place b k.here.point

  -- the machine ends, and so it belongs to that end
  at-end : (s : State) (e : Ending) (o : Outer) (h : step.Halt) (most m : ℕ) → IsOverSoon b o h most s → ((last : State) → last.output ≡ o.output → IsEndOf h last e) → ((t : State) → IsPrefix t.output o.output → IsFrontOf t e) → (x : step.MachineNext) → step.exec b.program m s ≡ x → BelongsTo x e
  at-end s e o h most m d ends fronts (step.Goes t) is =
      let before = goes-before b.program d.steps m s t d.last h is d.run in
      fronts t (subst (λ l. IsPrefix t.output l) d.output (front-of b.program m d.steps s (step.Goes t) (step.Over h d.last) (omega (arith, before)) is d.run))
  at-end s e o h most m d ends fronts (step.Over g t) is =
      subst (λ x. BelongsTo x e) (sym (one-end b.program d.steps m s h g d.last t d.run is)) (ends d.last d.output)

  -- what belongs to the rest of the run
  module _ (n : ℕ) (e : Ending) (ih : (d : Config Places) (t : State) → Matches b d t → build_run b n d ≡ Over e → (m : ℕ) → Enough m d → BelongsTo (step.exec b.program m t) e) where
    -- the machine has not yet come so far
    early : (d : Config Places) (s : State) (k : Config Places) (gs : List WaitingCall) (h : IsFollowed b k d gs s) → build_run b n d ≡ Over e → (m : ℕ) → m < h.comes.steps → (x : step.MachineNext) → step.exec b.program m s ≡ x → BelongsTo x e
    early d s k gs h over m lt (step.Goes t) is =
        let first = front-of b.program m h.comes.steps s (step.Goes t) (step.Goes h.to) (omega (arith, lt)) is h.comes.run in
        let then = output_grows Content Places b.rooms (placed_code b.plans) keeps n d in
        let later : IsPrefix h.to.output (ending_output e) = subst (λ l. IsPrefix l (ending_output e)) (sym h.matches.outer.output) (subst (λ z. IsPrefix d.world.outer.output (next_world z).outer.output) over then) in
        front-is t e (front-through t.output h.to.output (ending_output e) first later)
    early d s k gs h over m lt (step.Over g t) is =
        let after = over-behind b.program h.comes.steps m s h.to t g is h.comes.run in
        absurd (omega (arith, lt, after))

    late : (d : Config Places) (s : State) (k : Config Places) (was : Matches b k s) (h : IsFollowed b k d was.waiting s) → build_run b n d ≡ Over e → k.world.meter.turns ≤ suc d.world.meter.turns → (m : ℕ) → h.comes.steps ≤ m → Enough m k → BelongsTo (step.exec b.program m s) e
    late d s k was h over one m le enough =
        let j = h.comes.steps in
        subst (λ x. BelongsTo x e) (sym (rest-of b.program h.comes.steps m s h.to le h.comes.run))
        (ih d h.to h.matches over (m - h.comes.steps) (left h.comes.steps le h.moves))
      where
        left : (j : ℕ) → j ≤ m → (1 ≤ j) ⊎ (point_place b d.here.point ≡ suc (point_place b k.here.point)) → Enough (m - j) d
        left zero le (inl some) = absurd (omega (arith, some))
        left (suc j) le (inl some) =
            let fewer = fewer-steps j m (suc (longest_of b.plans)) k.world.meter.turns d.world.meter.turns (point_place b k.here.point) (longest_of b.plans) refl le enough (place-below b k s was) one in
            omega (arith, fewer)
        left j le (inr is) = no-more-steps j m (suc (longest_of b.plans)) k.world.meter.turns d.world.meter.turns (point_place b k.here.point) (point_place b d.here.point) (longest_of b.plans) enough is one (less-times j m (suc (longest_of b.plans)) le)

    belongs : (k : Config Places) (s : State) (was : Matches b k s) → (m : ℕ) → Enough m k → (x : Next Places) → StepIsDone b k was.waiting s x → TakesOne k.world.meter.turns x → go_on x (build_run b n) ≡ Over e → BelongsTo (step.exec b.program m s) e
    belongs k s was m enough (Goes d) h one over = ⊎_elim
        (λ lt. early d s k was.waiting h over m lt (step.exec b.program m s) refl)
        (λ le. late d s k was h over one m le enough)
        (cases_lt m h.comes.steps)
    belongs k s was m enough (Over (Done w status)) h one over =
        let is : Done w status ≡ e = cc in
        subst (λ z. BelongsTo (step.exec b.program m s) z) is
        (at-end s (Done w status) w.outer (step.Done status) (steps_left b k was.waiting s) m h (λ last o. (refl, o)) (λ t f. f) (step.exec b.program m s) refl)
    belongs k s was m enough (Over (Trap w code)) h one over =
        let is : Trap w code ≡ e = cc in
        subst (λ z. BelongsTo (step.exec b.program m s) z) is
        (at-end s (Trap w code) w.outer (step.Trap code) (steps_left b k was.waiting s) m h (λ last o. (refl, o)) (λ t f. f) (step.exec b.program m s) refl)
    belongs k s was m enough (Over (Undefined w at)) h one over =
        let is : Undefined w at ≡ e = cc in
        subst (λ z. BelongsTo (step.exec b.program m s) z) is (undefined (step.exec b.program m s))
      where
        undefined : (x : step.MachineNext) → BelongsTo x (Undefined w at)
        undefined (step.Goes t) = tt
        undefined (step.Over g t) = tt
    belongs k s was m enough (Over (More w)) h one over =
        let none = h.0 in
        let below = place-below b k s was in
        absurd (omega (arith, none, below, enough))

  fits-end : (n : ℕ) (x : Next Places) (e : Ending) → go_on x (build_run b n) ≡ Over e → FitsStack b (Over e) → FitsStack b x
  fits-end n x e over fits = fits-first b ok n x (subst (FitsStack b) (sym over) fits)

  only-these : (e : Ending) → FitsStack b (Over e) → (n : ℕ) (k : Config Places) (s : State) → Matches b k s → build_run b n k ≡ Over e → (m : ℕ) → Enough m k → BelongsTo (step.exec b.program m s) e
  only-these e fits zero k s was over m enough = absurd (goes k e over)
    where
      goes : (k : Config Places) (e : Ending) → Goes k ≡ Over e → ⊥
      goes k e is = cc
  only-these e fits (suc n) k s was over m enough =
      belongs n e (only-these e fits n) k s was m enough (step_of b k) (steps_are_done b ok k s was (fits-end n (step_of b k) e over fits)) (step-one Content Places b.rooms (placed_code b.plans) k) over

pub only_these_end : ((plans : List Plan) → KeepsOutput Content Places (placed_code plans)) → (b : Build) → BuildStands b → (n : ℕ) (k : Config Places) (s : State) (e : Ending) → Matches b k s → build_run b n k ≡ Over e → FitsStack b (Over e) → (m : ℕ) → turns_for b.plans m ≤ k.world.meter.turns → BelongsTo (step.exec b.program m s) e
only_these_end keeps b ok n k s e was over fits m enough =
    let each : turns_for b.plans m ≡ m * suc (longest_of b.plans) + suc (longest_of b.plans) = omega arith in
    only-these b ok (keeps b.plans) e fits n k s was over m (omega (arith, each, enough))
