-- What `run` does for a text that has a unit.
use Rattle.std.proofs.Common.{◌≡◌, ℕ, List, inl, inr, Some, refl, sym, subst, ⊎_elim}
use Rattle.std.proofs.lemmas.Bool.{cases_lt}
use Rattle.alpha_isa.specs.Program.{Program}
use Rattle.alpha_isa.specs.Behave.{IsStack, behave_a, output_of, More}
use Rattle.alpha_run.specs.declared.ending.Ending.{Ending}
use Rattle.alpha_run.specs.declared.ending.Ending.TheVariants as ending
use Rattle.alpha_run.specs.Run.{MachineBehaves}
use Rattle.bk_io.specs.Outside.{taken_with, Traffic, OnInput}
use Rattle.bk_io.proofs.Inputs.{on_nothing, on_same}
use Rattle.machine_model.specs.Laws.{IsPrefix}
use Rattle.mem_model.specs.Bytes.{AreBytes}
use Rattle.c_mean.specs.Behaviour as c
use Rattle.c_mean.specs.Behaviour.{Good}
use Rattle.c_typed_tree.specs.declared.units.TypedUnit.{TypedUnit}
use Rattle.c_typed_tree.specs.Weight.{unit_weight}
use Rattle.c_semantics.specs.Behaves.{meaning, behave_c}
use Rattle.call_outcomes.specs.declared.outcome.Outcome.{Outcome}
use Rattle.call_outcomes.specs.declared.outcome.Outcome.TheVariants.{FileFault, NoMemory}
use Rattle.call_words.specs.declared.compile_options.MachineLimits.{MachineLimits}
use Rattle.call_images.specs.RunImage.{outcome_of_ending, RunsImageOn}
use Rattle.compile_calls.specs.Correct.{SameOn, IsCorrectFor}
use Rattle.compile_calls.specs.Run.{enough_steps}
use Rattle.compile_calls.proofs.Units.{OneTree, right_for}
use Rattle.compile_calls.proofs.Steps.{has_ended}
use Rattle.compile_call_laws.specs.Laws.{RunsUnit, RunsUnitOn, PutsFront, AreTooFew, TextsWithAUnitAreNotRefused, RunDoesWhatTheTextMeans}

module _ (text : List ℕ) (unit : TypedUnit) (input : List ℕ) (before after : Traffic) where
  module _ (p : Program) (stack budget : ℕ) (is_stack : IsStack stack) (bytes : AreBytes input) (good : Good (meaning unit) input stack) (right : IsCorrectFor unit p) where
    same : SameOn (meaning unit) p stack input
    same = right.same stack is_stack input bytes good

    -- what an image put that goes on is a front of what the unit puts
    front : (k : ℕ) (put : List ℕ) → behave_a p stack input k ≡ More put → after.taken ≡ taken_with put before.taken → PutsFront (meaning unit) input before.taken after.taken
    front k put goes taken =
        let w = same.writes_only k in
        record { turns = w.0; put = put; front = subst (λ b. IsPrefix (output_of b) (c.output_of (behave_c unit input w.0))) goes w.1; taken = taken }

    -- where it goes on, the steps were too few
    too_few : (put : List ℕ) → behave_a p stack input budget ≡ More put → AreTooFew unit input budget
    too_few put goes turns ended =
        ⊎_elim
        (λ lt. lt)
        (λ le. absurd (has_ended unit p stack is_stack right input bytes good turns budget ended le put goes))
        (cases_lt budget (enough_steps (unit_weight unit) turns))

    by_ending : (rest : List ℕ) (e : Ending) → MachineBehaves p stack input rest budget e before after → RunsUnit text unit input budget before after (outcome_of_ending budget e)
    by_ending rest (ending.Done status) b = let w = same.ends_only budget b.place.output status b.gives in RunsUnit.ran w.0 b.place.output status w.1 b.taken
    by_ending rest (ending.Trap code) b = let w = same.traps_only budget b.place.output code b.gives in RunsUnit.trapped w.0 b.place.output code w.1 b.taken
    by_ending rest (ending.Stuck pc) b = absurd (same.never_stuck budget b.place.output pc b.gives)
    by_ending rest ending.Budget b = RunsUnit.out_of_steps (front budget b.place.output b.gives b.taken) (too_few b.place.output b.gives)
    by_ending rest ending.InputFault b = RunsUnit.input_fault (front b.gives.0 b.place.output b.gives.2 b.taken)
    by_ending rest ending.WriteFault b = RunsUnit.write_fault (front b.gives.0 b.place.output b.gives.2 b.taken)

-- where nothing was done this is due on each input
on_each : (text : List ℕ) (unit : TypedUnit) (limits : MachineLimits) (answer outcome : Outcome) (before after : Traffic) → answer ≡ outcome → after ≡ before → ((input : List ℕ) → RunsUnit text unit input limits.budget before after outcome) → OnInput before.left after.left (RunsUnitOn text unit limits answer before after)
on_each text unit limits answer outcome before after is same runs =
    subst (λ t. OnInput before.left t.left (RunsUnitOn text unit limits answer before after)) (sym same)
    (on_nothing before.left (RunsUnitOn text unit limits answer before after) (λ rest may bytes good. subst (RunsUnit text unit rest limits.budget before after) (sym is) (runs rest)))

pub runs : OneTree → TextsWithAUnitAreNotRefused → RunDoesWhatTheTextMeans
runs one_tree not_refused text unit limits answer before after has is_stack does = elim does [
  | inl w ↦ elim (not_refused text unit answer has w.0) [
    | inl file ↦ on_each text unit limits answer FileFault before after file w.1 (λ input. RunsUnit.file_fault w.1)
    | inr memory ↦ on_each text unit limits answer NoMemory before after memory.0 w.1 (λ input. RunsUnit.no_memory w.1 memory.1)
  ]
  | inr w ↦ elim w.2 [
    | inl none ↦ on_each text unit limits answer NoMemory before after none.0 none.1 (λ input. RunsUnit.no_memory none.1 (inl none.2))
    | inr e ↦
        let right : IsCorrectFor unit w.0 = right_for one_tree (Some text) w.0 text has.tree unit refl has.is_unit.is_unit w.1 in
        on_same before.left after.left (RunsImageOn limits w.0 e.0 before after) (RunsUnitOn text unit limits answer before after)
        (λ input rest behaves bytes good. subst (RunsUnit text unit input limits.budget before after) (sym e.1)
        (by_ending text unit input before after w.0 limits.stack limits.budget is_stack bytes good right rest e.0 behaves))
        e.2
  ]
]
