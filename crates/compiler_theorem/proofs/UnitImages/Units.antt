-- From the endings of a unit to those of the code, and from those to the image.
use Rattle.std.proofs.Common.{◌≡◌, ℕ, ◌<◌, ◌≤◌, List, [], ◌∷◌, All, refl, sym, ap, ◌∙◌, subst, arith}
use Rattle.std.proofs.lemmas.List.Elements.{All-nil, All-cons}
use Rattle.alpha_isa.specs.Program.{Program}
use Rattle.alpha_isa.specs.Behave as image
use Rattle.alpha_isa.specs.Behave.{behave_a, output_of, IsStack}
use Rattle.mem_model.specs.World.{World, Rooms}
use Rattle.mem_model.specs.Ending.{Ending, Done, Trap, Undefined, More, ending_output, ending_peak, IsDefined}
use Rattle.machine_model.specs.Laws.{IsPrefix}
use Rattle.mem_model.specs.Bytes.{AreBytes}
use Rattle.selection_laws.specs.Laws as selection
use Rattle.image_theorem.specs.same_runs.Programs.{ProgramsBehave, plans_of}
use Rattle.image_theorem.specs.same_runs.Same.{IsSame, RunsAreSame}
use Rattle.c_typed_tree.specs.declared.units.TypedUnit.{TypedUnit}
use Rattle.c_typed_tree.specs.Lawful.{IsTypedUnit}
use Rattle.c_semantics.specs.Behaves.{run_main}
use Rattle.compiler_theorem.specs.RefinedCode.{EndsBelow, VmRunsBelow}
use Rattle.compiler_theorem.specs.unit_images.Laws.{IsMadeOf, InputIsGood, UnitsAreSame}

-- ---- endings that are alike

defined_too : (e o : Ending) → IsDefined o → EndsBelow e o → IsDefined e
defined_too e (Undefined w n) defined h = absurd defined
defined_too (Done v m) o defined h = tt
defined_too (Trap v m) o defined h = tt
defined_too (More v) o defined h = tt
defined_too (Undefined v m) (Done w n) defined h = absurd h
defined_too (Undefined v m) (Trap w n) defined h = absurd h
defined_too (Undefined v m) (More w) defined h = absurd h

alike : (e o : Ending) → IsDefined o → EndsBelow e o → (ending_output e ≡ ending_output o) × (ending_peak e ≤ ending_peak o)
alike e (Undefined w n) defined h = absurd defined
alike (Done v m) (Done w n) defined h = (h.1.output, h.1.peak)
alike (Done v m) (Trap w n) defined h = absurd h
alike (Done v m) (More w) defined h = absurd h
alike (Trap v m) (Done w n) defined h = absurd h
alike (Trap v m) (Trap w n) defined h = (h.1.output, h.1.peak)
alike (Trap v m) (More w) defined h = absurd h
alike (More v) (Done w n) defined h = absurd h
alike (More v) (Trap w n) defined h = absurd h
alike (More v) (More w) defined h = (h.output, h.peak)
alike (Undefined v m) (Done w n) defined h = absurd h
alike (Undefined v m) (Trap w n) defined h = absurd h
alike (Undefined v m) (More w) defined h = absurd h

-- one that ended with a status, or trapped, with an output
record DoneIs (e : Ending) (output : List ℕ) (status : ℕ) : Type 0 where
  world : World
  is : e ≡ Done world status
  same : world.outer.output ≡ output

record TrapIs (e : Ending) (output : List ℕ) (code : ℕ) : Type 0 where
  world : World
  is : e ≡ Trap world code
  same : world.outer.output ≡ output

done_before : (e : Ending) (w : World) (status : ℕ) → EndsBelow e (Done w status) → DoneIs e w.outer.output status
done_before (Done v m) w status h = record { world = v; is = ap (Done v) h.0; same = h.1.output }
done_before (Trap v m) w status h = absurd h
done_before (Undefined v m) w status h = absurd h
done_before (More v) w status h = absurd h

done_after : (o : Ending) (v : World) (status : ℕ) → IsDefined o → EndsBelow (Done v status) o → DoneIs o v.outer.output status
done_after (Done w n) v status defined h = record { world = w; is = ap (Done w) (sym h.0); same = sym h.1.output }
done_after (Trap w n) v status defined h = absurd h
done_after (Undefined w n) v status defined h = absurd defined
done_after (More w) v status defined h = absurd h

trap_before : (e : Ending) (w : World) (code : ℕ) → EndsBelow e (Trap w code) → TrapIs e w.outer.output code
trap_before (Done v m) w code h = absurd h
trap_before (Trap v m) w code h = record { world = v; is = ap (Trap v) h.0; same = h.1.output }
trap_before (Undefined v m) w code h = absurd h
trap_before (More v) w code h = absurd h

trap_after : (o : Ending) (v : World) (code : ℕ) → IsDefined o → EndsBelow (Trap v code) o → TrapIs o v.outer.output code
trap_after (Done w n) v code defined h = absurd h
trap_after (Trap w n) v code defined h = record { world = w; is = ap (Trap w) (sym h.0); same = sym h.1.output }
trap_after (Undefined w n) v code defined h = absurd defined
trap_after (More w) v code defined h = absurd h

-- what is the same as endings is the same as others that are alike
module _ (p : Program) (stack : ℕ) (input : List ℕ) (at bt : (turns : ℕ) → Ending) (ends : (n : ℕ) → EndsBelow (at n) (bt n)) (defined : (n : ℕ) → IsDefined (bt n)) (same : IsSame p stack input at) where
  through : IsSame p stack input bt
  through = record {
    done = λ n w status e.
        let d = done_before (at n) w status (subst (λ z. EndsBelow (at n) z) e (ends n)) in
        let x = same.done n d.world status d.is in
        (x.0, x.1 ∙ ap (λ z. image.Done z status) d.same, x.2);
    traps = λ n w code e.
        let d = trap_before (at n) w code (subst (λ z. EndsBelow (at n) z) e (ends n)) in
        let x = same.traps n d.world code d.is in
        (x.0, x.1 ∙ ap (λ z. image.Trap z code) d.same, x.2);
    only_done = λ m output status e.
        let x = same.only_done m output status e in
        let d = done_after (bt x.turns) x.world status (defined x.turns) (subst (λ z. EndsBelow z (bt x.turns)) x.is (ends x.turns)) in
        record { turns = x.turns; world = d.world; is = d.is; same = d.same ∙ x.same };
    only_traps = λ m output code e.
        let x = same.only_traps m output code e in
        let d = trap_after (bt x.turns) x.world code (defined x.turns) (subst (λ z. EndsBelow z (bt x.turns)) x.is (ends x.turns)) in
        record { turns = x.turns; world = d.world; is = d.is; same = d.same ∙ x.same };
    never_stuck = same.never_stuck;
    outputs = λ n.
        let x = same.outputs n in
        (x.0, subst (λ z. IsPrefix z (output_of (behave_a p stack input x.0))) (alike (at n) (bt n) (defined n) (ends n)).0 x.1);
    only_outputs = λ m.
        let x = same.only_outputs m in
        (x.0, subst (λ z. IsPrefix (output_of (behave_a p stack input m)) z) (alike (at x.0) (bt x.0) (defined x.0) (ends x.0)).0 x.1);
  }

-- ---- a unit

bytes_all : (input : List ℕ) → AreBytes input → All (λ byte. byte < 256) input
bytes_all [] h = All-nil (λ byte. byte < 256)
bytes_all (b ∷ bs) h = All-cons (λ byte. byte < 256) b bs h.0 (bytes_all bs h.1)

module _ (behave : ProgramsBehave) (are_same : RunsAreSame) (u : TypedUnit) (rooms : Rooms) (p : Program) (typed : IsTypedUnit u) (made : IsMadeOf u rooms p) (stack : ℕ) (is_stack : IsStack stack) (input : List ℕ) (bytes : AreBytes input) (good : InputIsGood u rooms stack input) where
  at : (turns : ℕ) → VmRunsBelow rooms made.code input turns (run_main u rooms input turns)
  at n = made.runs rooms input n (bytes_all input bytes) (good.defined n)

  defined : (n : ℕ) → IsDefined (at n).ending
  defined n = defined_too (at n).ending (run_main u rooms input n) (good.defined n) (at n).below

  room : (n : ℕ) → ending_peak (at n).ending ≤ stack
  room n =
      let low = (alike (at n).ending (run_main u rooms input n) (good.defined n) (at n).below).1 in
      let high = good.room n in
      omega (arith, low, high)

  unit_is_same : IsSame p stack input (λ turns. run_main u rooms input turns)
  unit_is_same =
      through p stack input (λ n. (at n).ending) (λ n. run_main u rooms input n) (λ n. (at n).below) good.defined
      (are_same p (plans_of made.allocations) stack input (λ n. (at n).ending)
      (λ n.
      behave made.assembly p made.lawful made.whole made.words made.selected made.allocations rooms made.placing made.allocated made.items stack is_stack input bytes n (at n).ending
      (made.keeps rooms input n (at n).ending (bytes_all input bytes) (at n).ends (defined n)).ends (room n))
      defined)

pub units_are_same : ProgramsBehave → RunsAreSame → UnitsAreSame
units_are_same behave are_same u rooms p typed made stack is_stack input bytes good = unit_is_same behave are_same u rooms p typed made stack is_stack input bytes good
