-- What `vm` answers for a text that has a unit.
use Rattle.std.proofs.Common.{◌≡◌, ◌≢◌, ℕ, List, inl, inr, refl, sym, ap, ◌∙◌, subst}
use Rattle.mem_model.specs.World.{World, Rooms}
use Rattle.mem_model.specs.Ending.{Ending, Done, Trap, Undefined, More, ending_output}
use Rattle.suifvm_meaning.specs.Behave.{behave_vm}
use Rattle.suifvm_meaning.specs.Laws.{OneVmEnding, VmKeepsOutput}
use Rattle.machine_model.specs.Laws.{IsPrefix}
use Rattle.bk_io.specs.Outside.{taken_with, Traffic, OnInput}
use Rattle.bk_io.proofs.Inputs.{on_nothing, on_same}
use Rattle.c_mean.specs.Behaviour as c
use Rattle.c_mean.specs.Behaviour.{CBehaviour, output_of}
use Rattle.c_typed_tree.specs.declared.units.TypedUnit.{TypedUnit}
use Rattle.c_semantics.specs.Behaves.{behave_c, behaviour_of, rooms_of}
use Rattle.suifvm_ir.specs.declared.program.VmProgram.{VmProgram}
use Rattle.suifvm_run.specs.declared.ending.VmEnding.{VmEnding}
use Rattle.suifvm_run.specs.declared.ending.VmEnding.TheVariants as ending
use Rattle.suifvm_run.specs.Run.{VmBehaves, VmBehavesOn, GoesOn, program_run}
use Rattle.compiler_theorem.specs.RefinedCode.{CodeRefines, BehavesBelow, BehavioursAreRefined}
use Rattle.call_outcomes.specs.declared.outcome.Outcome.{Outcome}
use Rattle.call_outcomes.specs.declared.outcome.Outcome.TheVariants.{Ran, Trapped, Budget}
use Rattle.compile_calls.specs.Built.{IsBuilt}
use Rattle.compile_calls.specs.Vm.{outcome_of_ending, RunsProgram}
use Rattle.compile_call_laws.specs.Laws.{IsOutcomeOf, PutsFrontOf, AnswersAs, AnswersOn, TextsWithAUnitAreNotRefused, VmAnswersAsTheTextMeans}
use Rattle.compile_calls.proofs.Units.{OneTree}
use Rattle.compile_call_laws.proofs.Builds.{of_text, same_unit}
use Rattle.compile_call_laws.proofs.Fronts.{front_of_ending}

-- a front of what is put at an ending is one of what is put by its behaviour
of_behaviour : (put : List ℕ) (e : Ending) → behaviour_of e ≢ c.Undefined → IsPrefix put (ending_output e) → IsPrefix put (output_of (behaviour_of e))
of_behaviour put (Done w status) ne front = front
of_behaviour put (Trap w code) ne front = front
of_behaviour put (Undefined w at) ne front = absurd (ne refl)
of_behaviour put (More w) ne front = front

module _ (text : List ℕ) (turns : ℕ) (before after : Traffic) (b : CBehaviour) where
  -- what is answered for an ending is answered for its behaviour
  meant : (e : Ending) (answer : Outcome) → behaviour_of e ≡ b → IsOutcomeOf turns (behaviour_of e) answer → after.taken ≡ taken_with (output_of (behaviour_of e)) before.taken
      → AnswersAs text turns b before after answer
  meant e answer is outcome taken = subst (λ x. AnswersAs text turns x before after answer) is (AnswersAs.as_meant outcome taken)

  module _ (one_ending : OneVmEnding) (keeps : VmKeepsOutput) (ne : b ≢ c.Undefined) (rooms : Rooms) (program : VmProgram) (input : List ℕ) (e : Ending) (means : behave_vm rooms program input turns e) (is : behaviour_of e ≡ b) where
    -- an ending of the run is the one that is meant
    same : (f : Ending) → behave_vm rooms program input turns f → behaviour_of f ≡ b
    same f other = ap behaviour_of (one_ending rooms program input turns f e other means) ∙ is

    -- a run that goes on has put a front
    puts_front : (last : World) → GoesOn (program_run rooms program input turns) last → after.taken ≡ taken_with last.outer.output before.taken → PutsFrontOf b before.taken after.taken
    puts_front last goes taken =
        let front : IsPrefix last.outer.output (ending_output e) = front_of_ending rooms program input turns keeps last e means goes in
        let of_e : IsPrefix last.outer.output (output_of (behaviour_of e)) = of_behaviour last.outer.output e (λ u. ne (sym is ∙ u)) front in
        (last.outer.output, subst (λ x. IsPrefix last.outer.output (output_of x)) is of_e, taken)

    by_ending : (rest : List ℕ) (v : VmEnding) → VmBehaves rooms program input rest turns v before after → AnswersAs text turns b before after (outcome_of_ending turns v)
    by_ending rest (ending.Ended status) r = meant (Done r.last status) (Ran status) (same (Done r.last status) r.stops) refl r.taken
    by_ending rest (ending.Trapped code) r = meant (Trap r.last code) (Trapped code) (same (Trap r.last code) r.stops) refl r.taken
    by_ending rest (ending.Undefined pc) r = absurd (ne (sym (same (Undefined r.last pc) r.stops)))
    by_ending rest (ending.Budget left) r = meant (More r.last) (Budget turns) (same (More r.last) r.stops.1) refl r.taken
    by_ending rest ending.InputFault r = AnswersAs.input_fault refl (puts_front r.last r.stops.before r.taken)
    by_ending rest ending.WriteFault r = AnswersAs.write_fault refl (puts_front r.last r.stops.before r.taken)
    by_ending rest ending.NoMemory r = AnswersAs.short_later refl r.stops.1 (puts_front r.last r.stops.0 r.taken)

-- where nothing was done this is due on each input
on_each : (text : List ℕ) (unit : TypedUnit) (turns : ℕ) (answer : Outcome) (before after : Traffic) → after ≡ before → ((b : CBehaviour) → AnswersAs text turns b before after answer) → OnInput before.left after.left (AnswersOn text unit turns answer before after)
on_each text unit turns answer before after same answers =
    subst (λ t. OnInput before.left t.left (AnswersOn text unit turns answer before after)) (sym same)
    (on_nothing before.left (AnswersOn text unit turns answer before after) (λ rest may bytes ne. answers (behave_c unit rest turns)))

module _ (one_tree : OneTree) (not_refused : TextsWithAUnitAreNotRefused) (one_ending : OneVmEnding) (keeps : VmKeepsOutput) (refined : BehavioursAreRefined) where
  by_ending_on : (text : List ℕ) (unit : TypedUnit) (turns : ℕ) (before after : Traffic) (program : VmProgram) (v : VmEnding) → CodeRefines unit program
      → (input rest : List ℕ) → VmBehavesOn program turns v before after input rest → AnswersOn text unit turns (outcome_of_ending turns v) before after input rest
  by_ending_on text unit turns before after program v does input rest behaves bytes ne =
      let it : BehavesBelow unit program input turns = refined unit program does input turns bytes ne in
      by_ending text turns before after (behave_c unit input turns) one_ending keeps ne (rooms_of unit) program input it.ending it.ends it.behaviour rest v (behaves (rooms_of unit))

  by_program : (text : List ℕ) (unit : TypedUnit) (turns : ℕ) (answer : Outcome) (before after : Traffic) (program : VmProgram) → CodeRefines unit program
      → RunsProgram turns program answer before after → OnInput before.left after.left (AnswersOn text unit turns answer before after)
  by_program text unit turns answer before after program does runs =
      subst (λ a. OnInput before.left after.left (AnswersOn text unit turns a before after)) (sym runs.1)
      (on_same before.left after.left (VmBehavesOn program turns runs.0 before after) (AnswersOn text unit turns (outcome_of_ending turns runs.0) before after)
      (by_ending_on text unit turns before after program runs.0 does) runs.2)

  pub answers : VmAnswersAsTheTextMeans
  answers text unit allocator turns answer before after has runs = elim runs [
    | inl w ↦ elim (not_refused text unit answer has w.0) [
      | inl file ↦ on_each text unit turns answer before after w.1 (λ b. AnswersAs.file_fault file w.1)
      | inr memory ↦ on_each text unit turns answer before after w.1 (λ b. AnswersAs.no_memory memory.0 w.1 memory.1)
    ]
    | inr m ↦
        let is : IsBuilt text allocator m.0 = of_text text allocator m.0 m.1 in
        let same : m.0.typed.unit ≡ unit = same_unit one_tree text unit allocator m.0 has is in
        by_program text unit turns answer before after m.0.vm (subst (λ u. CodeRefines u m.0.vm) same is.made.code_runs) m.2
  ]
