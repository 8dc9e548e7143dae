-- How many steps are enough.
use Rattle.std.proofs.Common.{◌≡◌, ℕ, ◌+◌, ◌-◌, ◌*◌, ◌≤◌, List, inl, inr, length, Option, refl, sym, ap, ◌∙◌, subst, arith}
use Rattle.bk_io.specs.Outside.{Traffic, OnInput}
use Rattle.bk_io.proofs.Inputs.{on_nothing, on_same}
use Rattle.mem_model.specs.Bytes.{AreBytes}
use Rattle.alpha_isa.specs.Program.{Program}
use Rattle.alpha_isa.specs.Behave.{IsStack, behave_a}
use Rattle.alpha_isa.specs.Behave as alpha
use Rattle.alpha_run.specs.declared.ending.Ending.{Ending}
use Rattle.alpha_run.specs.declared.ending.Ending.TheVariants as ending
use Rattle.alpha_run.specs.Run.{MachineBehaves}
use Rattle.c_mean.specs.Behaviour as c
use Rattle.c_mean.specs.Behaviour.{CBehaviour, Good}
use Rattle.c_typed_tree.specs.declared.units.TypedUnit.{TypedUnit}
use Rattle.c_typed_tree.specs.Weight.{unit_weight}
use Rattle.c_semantics.specs.Behaves.{meaning, behave_c, IsEnded}
use Rattle.call_outcomes.specs.declared.outcome.Outcome.{Outcome}
use Rattle.call_outcomes.specs.declared.outcome.Outcome.TheVariants.{Budget, NoMemory}
use Rattle.call_outcomes.specs.FromFile.{IsCause}
use Rattle.call_words.specs.declared.compile_options.MachineLimits.{MachineLimits}
use Rattle.call_images.specs.RunImage.{outcome_of_ending, RunsImageOn}
use Rattle.compiler.specs.Correct.{IsCorrectFor, EndsSoonOn}
use Rattle.compile_calls.specs.Compile.{RefusesText, HasCorrectImage}
use Rattle.compile_calls.specs.Run.{Runs, enough_steps, HasEnoughSteps, EndsWithEnoughSteps}
use Rattle.compile_calls.proofs.Units.{OneTree, right_for}

-- ---- numbers

spread : (l d t : ℕ) → 600 * (l + d) * t ≡ 600 * l * t + 600 * d * t
spread l d t = omega arith

longer : (l d m t : ℕ) → l + d ≡ m → 600 * l * t ≤ 600 * m * t
longer l d m t rest =
    let both : 600 * m * t ≡ 600 * l * t + 600 * d * t = ap (λ n. 600 * n * t) (sym rest) ∙ spread l d t in
    omega (arith, both)

-- the steps by the words are within those by the weight
by_weight : (words weight t : ℕ) → words ≤ 2048 * weight → 600 * words * t ≤ 1228800 * weight * t
by_weight words weight t short =
    let more = longer words (2048 * weight - words) (2048 * weight) t (omega (arith, short)) in
    let same : 600 * (2048 * weight) * t ≡ 1228800 * weight * t = omega arith in
    omega (arith, more, same)

-- ---- an image that is right for a unit has ended

module _ (unit : TypedUnit) (p : Program) (stack : ℕ) (input : List ℕ) (soon : EndsSoonOn (meaning unit) p stack input) (turns budget : ℕ) (enough : 600 * length p.words * (turns + 1) ≤ budget) (put : List ℕ) (goes : behave_a p stack input budget ≡ alpha.More put) where
  by_behaviour : (b : CBehaviour) → behave_c unit input turns ≡ b → IsEnded b → ⊥
  by_behaviour (c.Done output status) is ended =
      let done : behave_a p stack input budget ≡ alpha.Done output status = soon.ends turns output status is budget enough in
      let clash : alpha.Done output status ≡ alpha.More put = sym done ∙ goes in
      cc
  by_behaviour (c.Trap output code) is ended =
      let trap : behave_a p stack input budget ≡ alpha.Trap output code = soon.traps turns output code is budget enough in
      let clash : alpha.Trap output code ≡ alpha.More put = sym trap ∙ goes in
      cc
  by_behaviour c.Undefined is ended = absurd ended
  by_behaviour (c.More output) is ended = absurd ended

pub has_ended : (unit : TypedUnit) (p : Program) (stack : ℕ) → IsStack stack → IsCorrectFor unit p → (input : List ℕ) → AreBytes input → Good (meaning unit) input stack → (turns budget : ℕ) → IsEnded (behave_c unit input turns)
    → enough_steps (unit_weight unit) turns ≤ budget → (put : List ℕ) → behave_a p stack input budget ≡ alpha.More put → ⊥
has_ended unit p stack is_stack right input bytes good turns budget ended enough put goes =
    let fewer = by_weight (length p.words) (unit_weight unit) (turns + 1) right.short in
    by_behaviour unit p stack input (right.soon stack is_stack input bytes good) turns budget (omega (arith, fewer, enough)) put goes (behave_c unit input turns) refl ended

-- ---- so its run does not use up its steps

goes_on : (p : Program) (stack : ℕ) (input rest : List ℕ) (budget : ℕ) (before after : Traffic) (e : Ending) → MachineBehaves p stack input rest budget e before after → outcome_of_ending budget e ≡ Budget budget → (put : List ℕ) × (behave_a p stack input budget ≡ alpha.More put)
goes_on p stack input rest budget before after (ending.Done status) b is = absurd (cc)
goes_on p stack input rest budget before after (ending.Trap code) b is = absurd (cc)
goes_on p stack input rest budget before after (ending.Stuck pc) b is = absurd (cc)
goes_on p stack input rest budget before after ending.Budget b is = (b.place.output, b.gives)
goes_on p stack input rest budget before after ending.InputFault b is = absurd (cc)
goes_on p stack input rest budget before after ending.WriteFault b is = absurd (cc)

refused_on : (limits : MachineLimits) (told : Option (List ℕ)) (answer : Outcome) → IsCause (RefusesText told) answer → (input rest : List ℕ) → HasEnoughSteps limits told answer input rest
refused_on limits told answer cause input rest text tree unit turns is_told is_unit bytes good ended enough is =
    subst (IsCause (RefusesText told)) is cause

pub refused : (limits : MachineLimits) (told : Option (List ℕ)) (answer : Outcome) (before after : Traffic) → IsCause (RefusesText told) answer → after ≡ before → EndsWithEnoughSteps limits told answer before after
refused limits told answer before after cause same =
    subst (λ t. OnInput before.left t.left (HasEnoughSteps limits told answer)) (sym same)
    (on_nothing before.left (HasEnoughSteps limits told answer) (λ rest may. refused_on limits told answer cause rest rest))

enough_on : OneTree → (limits : MachineLimits) (told : Option (List ℕ)) (answer : Outcome) (before after : Traffic) (p : Program) (e : Ending) → IsStack limits.stack → HasCorrectImage told p → answer ≡ outcome_of_ending limits.budget e → (input rest : List ℕ) → RunsImageOn limits p e before after input rest → HasEnoughSteps limits told answer input rest
enough_on one_tree limits told answer before after p e is_stack right is_answer input rest behaves text tree unit turns is_told is_unit bytes good ended much is =
    let goes = goes_on p limits.stack input rest limits.budget before after e behaves (sym is_answer ∙ is) in
    has_ended unit p limits.stack is_stack (right_for one_tree told p text tree unit is_told is_unit.is_unit right) input bytes good turns limits.budget ended much goes.0 goes.1

-- where memory is short nothing is used up
short_on : (limits : MachineLimits) (told : Option (List ℕ)) (answer : Outcome) → answer ≡ NoMemory → (input rest : List ℕ) → HasEnoughSteps limits told answer input rest
short_on limits told answer none input rest text tree unit turns is_told is_unit bytes good ended enough is =
    let clash : NoMemory ≡ Budget limits.budget = sym none ∙ is in cc

pub enough : OneTree → (limits : MachineLimits) (told : Option (List ℕ)) (answer : Outcome) (before after : Traffic) → IsStack limits.stack → Runs limits told answer before after → EndsWithEnoughSteps limits told answer before after
enough one_tree limits told answer before after is_stack runs = elim runs [
  | inl w ↦ refused limits told answer before after w.0 w.1
  | inr w ↦ elim w.2 [
    | inl none ↦
        subst (λ t. OnInput before.left t.left (HasEnoughSteps limits told answer)) (sym none.1)
        (on_nothing before.left (HasEnoughSteps limits told answer) (λ rest may. short_on limits told answer none.0 rest rest))
    | inr e ↦ on_same before.left after.left (RunsImageOn limits w.0 e.0 before after) (HasEnoughSteps limits told answer)
        (enough_on one_tree limits told answer before after w.0 e.0 is_stack w.1 e.1) e.2
  ]
]
