-- What a run comes to, the machine comes to.
use Rattle.std.proofs.Common.{◌≡◌, ℕ, zero, suc, ◌+◌, ◌*◌, ◌≤◌, List, refl, sym, ap, ◌∙◌, arith}
use Rattle.alpha_isa.specs.Program.{Program}
use Rattle.alpha_isa.specs.State.{State}
use Rattle.alpha_isa.specs.Step as step
use Rattle.alpha_isa.proofs.Runs.{exec_split}
use Rattle.mem_model.specs.World.{Outer}
use Rattle.mem_model.specs.Ending.{Done, Trap, Undefined, More}
use Rattle.machine_model.specs.Machine.{Config, Next, Goes, Over, go_on}
use Rattle.machine_model.proofs.Peaks.{peak_rises}
use Rattle.alloc_model.specs.Contents.{Content}
use Rattle.alloc_model.specs.Places.{Places, placed_code}
use Rattle.frame_simulation.specs.flat_steps.Stacks.{WaitingCall}
use Rattle.frame_simulation.specs.flat_steps.Builds.{Build, BuildStands}
use Rattle.frame_simulation.specs.flat_steps.Matching.{Matches, steps_left, GetsTo, IsOverSoon, FitsStack, StepIsDone, step_of}
use Rattle.frame_simulation.proofs.FlatSteps.Steps.{steps_are_done}
use Rattle.frame_simulation.specs.flat_runs.Runs.{build_run, RunIsDone}

-- the machine has come to where it stands
stays : (p : Program) (s : State) → GetsTo p s s
unfolding step.exec
stays p s = record { steps = 0; run = refl }

stays-run : (p : Program) (s : State) → step.exec p 0 s ≡ step.Goes s
unfolding step.exec
stays-run p s = refl

through : (p : Program) (s t u : State) → GetsTo p s t → GetsTo p t u → GetsTo p s u
through p s t u a c = record { steps = a.steps + c.steps; run = exec_split p a.steps c.steps s ∙ ap (λ z. step.go_on z (step.exec p c.steps)) a.run ∙ c.run }

module _ (b : Build) (ok : BuildStands b) where
  -- what the machine does from where it came to
  over-from : (most left : ℕ) (s t : State) (o : Outer) (h : step.Halt) (c : GetsTo b.program s t) → 4 * c.steps + left ≤ most → IsOverSoon b o h left t → IsOverSoon b o h most s
  over-from most left s t o h c soon d =
      let rest = d.soon in
      record {
        steps = c.steps + d.steps;
        last = d.last;
        run = exec_split b.program c.steps d.steps s ∙ ap (λ z. step.go_on z (step.exec b.program d.steps)) c.run ∙ d.run;
        output = d.output;
        soon = omega (arith, soon, rest);
      }

  carried : (most left : ℕ) (s t : State) (c : GetsTo b.program s t) → 4 * c.steps + left ≤ most → (x : Next Places) → RunIsDone b left t x → RunIsDone b most s x
  carried most left s t c soon (Goes d) h =
      let rest = h.soon in
      record {
        to = h.to;
        comes = record { steps = c.steps + h.comes.steps; run = exec_split b.program c.steps h.comes.steps s ∙ ap (λ z. step.go_on z (step.exec b.program h.comes.steps)) c.run ∙ h.comes.run };
        matches = h.matches;
        soon = omega (arith, soon, rest);
      }
  carried most left s t c soon (Over (Done w status)) h = over-from most left s t w.outer (step.Done status) c soon h
  carried most left s t c soon (Over (Trap w code)) h = over-from most left s t w.outer (step.Trap code) c soon h
  carried most left s t c soon (Over (Undefined w at)) h = tt
  carried most left s t c soon (Over (More w)) h = record { to = h.to; comes = through b.program s t h.to c h.comes; output = h.output }

  -- the stack holds a step where it holds the run
  pub fits-first : (n : ℕ) (x : Next Places) → FitsStack b (go_on x (build_run b n)) → FitsStack b x
  fits-first n (Goes d) fits = let rises = peak_rises Content Places b.rooms (placed_code b.plans) n d in omega (arith, rises, fits)
  fits-first n (Over e) fits = fits

  onward : (n : ℕ) (k : Config Places) (gs : List WaitingCall) (s : State) (x : Next Places) → ((d : Config Places) (t : State) (z : Matches b d t) → FitsStack b (build_run b n d) → RunIsDone b (steps_left b d z.waiting t) t (build_run b n d)) → StepIsDone b k gs s x → FitsStack b (go_on x (build_run b n)) → RunIsDone b (steps_left b k gs s) s (go_on x (build_run b n))
  onward n k gs s (Goes d) ih h fits = carried (steps_left b k gs s) (steps_left b d h.matches.waiting h.to) s h.to h.comes h.soon (build_run b n d) (ih d h.to h.matches fits)
  onward n k gs s (Over (Done w status)) ih h fits = h
  onward n k gs s (Over (Trap w code)) ih h fits = h
  onward n k gs s (Over (Undefined w at)) ih h fits = tt
  onward n k gs s (Over (More w)) ih h fits = record { to = s; comes = stays b.program s; output = sym h.1 }

  pub runs_done : (n : ℕ) (k : Config Places) (s : State) (m : Matches b k s) → FitsStack b (build_run b n k) → RunIsDone b (steps_left b k m.waiting s) s (build_run b n k)
  runs_done zero k s m fits = record { to = s; comes = record { steps = 0; run = stays-run b.program s }; matches = m; soon = omega arith }
  runs_done (suc n) k s m fits = onward n k m.waiting s (step_of b k) (runs_done n) (steps_are_done b ok k s m (fits-first n (step_of b k) fits)) fits

pub runs_are_done : (b : Build) → BuildStands b → (n : ℕ) (k : Config Places) (s : State) (m : Matches b k s) → FitsStack b (build_run b n k) → RunIsDone b (steps_left b k m.waiting s) s (build_run b n k)
runs_are_done b ok n k s m fits = runs_done b ok n k s m fits
