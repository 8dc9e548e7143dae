-- What holds of the endings of a unit, said of its behaviours.
use Rattle.std.proofs.Common.{◌≡◌, ◌≢◌, ℕ, ◌+◌, ◌-◌, ◌≤◌, List, refl, sym, ap, ◌∙◌, subst, arith}
use Rattle.c_mean.specs.Behaviour as c
use Rattle.c_mean.specs.Behaviour.{CBehaviour, Good}
use Rattle.alpha_isa.specs.Program.{Program}
use Rattle.alpha_isa.specs.Behave as alpha
use Rattle.alpha_isa.specs.Behave.{Behaviour, IsStack, behave_a, behaviour, start_state, output_of}
use Rattle.alpha_isa.specs.Step as step
use Rattle.alpha_isa.proofs.Runs.{exec_split}
use Rattle.mem_model.specs.World.{World}
use Rattle.mem_model.specs.Bytes.{AreBytes}
use Rattle.mem_model.specs.Ending.{Ending, Done, Trap, Undefined, More, ending_output, IsDefined}
use Rattle.machine_model.specs.Laws.{IsPrefix}
use Rattle.compiler_theorem.specs.unit_images.Same.{IsSame}
use Rattle.c_typed_tree.specs.declared.units.TypedUnit.{TypedUnit}
use Rattle.c_typed_tree.specs.Lawful.{IsTypedUnit}
use Rattle.c_semantics.specs.Behaves.{meaning, rooms_of, behaviour_of, run_main}
use Rattle.compiler_theorem.specs.unit_images.Laws.{IsMadeOf, UnitsAreSame}
use Rattle.compiler_theorem.specs.Correct.{SameOn, EndsSoonOn}
use Rattle.compiler_theorem.specs.same_behaviour.Same.{UnitsBehaveAlike, UnitsEndSoon}

-- a behaviour that is not undefined is that of a defined ending
defined : (e : Ending) → behaviour_of e ≢ c.Undefined → IsDefined e
defined (Done w status) h = tt
defined (Trap w code) h = tt
defined (Undefined w at) h = absurd (h refl)
defined (More w) h = tt

-- the ending of a behaviour
record DoneIs (e : Ending) (output : List ℕ) (status : ℕ) : Type 0 where
  world : World
  is : e ≡ Done world status
  same : world.outer.output ≡ output

record TrapIs (e : Ending) (output : List ℕ) (code : ℕ) : Type 0 where
  world : World
  is : e ≡ Trap world code
  same : world.outer.output ≡ output

-- the number in a behaviour that ended
abbrev number_of : CBehaviour → ℕ
number_of (c.Done output status) = status
number_of (c.Trap output code) = code
number_of c.Undefined = 0
number_of (c.More output) = 0

done_is : (e : Ending) (output : List ℕ) (status : ℕ) → behaviour_of e ≡ c.Done output status → DoneIs e output status
done_is (Done w m) output status h = record { world = w; is = ap (Done w) (ap number_of h); same = ap c.output_of h }
done_is (Trap w m) output status h = cc
done_is (Undefined w m) output status h = cc
done_is (More w) output status h = cc

trap_is : (e : Ending) (output : List ℕ) (code : ℕ) → behaviour_of e ≡ c.Trap output code → TrapIs e output code
trap_is (Trap w m) output code h = record { world = w; is = ap (Trap w) (ap number_of h); same = ap c.output_of h }
trap_is (Done w m) output code h = cc
trap_is (Undefined w m) output code h = cc
trap_is (More w) output code h = cc

-- a behaviour of a machine that has ended
abbrev IsOver : Behaviour → Type 0
IsOver (alpha.More output) = ⊥
IsOver _ = Unit {0}

-- a defined ending and its behaviour put the same
same_output : (e : Ending) → IsDefined e → ending_output e ≡ c.output_of (behaviour_of e)
same_output (Done w status) h = refl
same_output (Trap w code) h = refl
same_output (Undefined w at) h = absurd h
same_output (More w) h = refl

module _ (p : Program) (stack : ℕ) (input : List ℕ) (at : (turns : ℕ) → Ending) (is_defined : (n : ℕ) → IsDefined (at n)) (same : IsSame p stack input at) where
  on_behaviours : (u : TypedUnit) → ((n : ℕ) → (meaning u).behave input n ≡ behaviour_of (at n)) → SameOn (meaning u) p stack input
  on_behaviours u is = record {
    ends = λ n output status e.
        let d = done_is (at n) output status (sym (is n) ∙ e) in
        let x = same.done n d.world status d.is in
        (x.0, x.1 ∙ ap (λ z. alpha.Done z status) d.same);
    traps = λ n output code e.
        let d = trap_is (at n) output code (sym (is n) ∙ e) in
        let x = same.traps n d.world code d.is in
        (x.0, x.1 ∙ ap (λ z. alpha.Trap z code) d.same);
    ends_only = λ k output status e.
        let x = same.only_done k output status e in
        (x.turns, is x.turns ∙ ap behaviour_of x.is ∙ ap (λ z. c.Done z status) x.same);
    traps_only = λ k output code e.
        let x = same.only_traps k output code e in
        (x.turns, is x.turns ∙ ap behaviour_of x.is ∙ ap (λ z. c.Trap z code) x.same);
    never_stuck = same.never_stuck;
    writes = λ n.
        let x = same.outputs n in
        (x.0, subst (λ z. IsPrefix z (output_of (behave_a p stack input x.0))) (same_output (at n) (is_defined n) ∙ ap c.output_of (sym (is n))) x.1);
    writes_only = λ k.
        let x = same.only_outputs k in
        (x.0, subst (λ z. IsPrefix (output_of (behave_a p stack input k)) z) (same_output (at x.0) (is_defined x.0) ∙ ap c.output_of (sym (is x.0))) x.1);
  }

-- ---- in how many steps

-- a run that is over does no further step
over-stays : (p : Program) (n : ℕ) (x : step.MachineNext) (y : Behaviour) → IsOver y → behaviour x ≡ y → behaviour (step.go_on x (step.exec p n)) ≡ y
over-stays p n (step.Over halt s) y over is = is
over-stays p n (step.Goes s) (alpha.More output) over is = absurd over
over-stays p n (step.Goes s) (alpha.Done output status) over is = absurd (cc)
over-stays p n (step.Goes s) (alpha.Trap output code) over is = absurd (cc)
over-stays p n (step.Goes s) (alpha.Stuck output pc) over is = absurd (cc)

-- so an image that has ended within some steps has ended so within more
stays : (p : Program) (stack : ℕ) (input : List ℕ) (m k : ℕ) (y : Behaviour) → IsOver y → m ≤ k → behave_a p stack input m ≡ y → behave_a p stack input k ≡ y
stays p stack input m k y over le is =
    let s = start_state p stack input in
    let whole : m + (k - m) ≡ k = omega (arith, le) in
    ap (λ j. behaviour (step.exec p j s)) (sym whole) ∙ ap behaviour (exec_split p m (k - m) s)
    ∙ over-stays p (k - m) (step.exec p m s) y over is

module _ (p : Program) (stack : ℕ) (input : List ℕ) (at : (turns : ℕ) → Ending) (same : IsSame p stack input at) where
  soon_on_behaviours : (u : TypedUnit) → ((n : ℕ) → (meaning u).behave input n ≡ behaviour_of (at n)) → EndsSoonOn (meaning u) p stack input
  soon_on_behaviours u is = record {
    ends = λ n output status e k enough.
        let d = done_is (at n) output status (sym (is n) ∙ e) in
        let x = same.done n d.world status d.is in
        let le : x.0 ≤ k = (let most = x.2 in omega (arith, most, enough)) in
        stays p stack input x.0 k (alpha.Done output status) tt le (x.1 ∙ ap (λ z. alpha.Done z status) d.same);
    traps = λ n output code e k enough.
        let d = trap_is (at n) output code (sym (is n) ∙ e) in
        let x = same.traps n d.world code d.is in
        let le : x.0 ≤ k = (let most = x.2 in omega (arith, most, enough)) in
        stays p stack input x.0 k (alpha.Trap output code) tt le (x.1 ∙ ap (λ z. alpha.Trap z code) d.same);
  }

-- ---- a unit

module _ (are_same : UnitsAreSame) (u : TypedUnit) (image : Program) (typed : IsTypedUnit u) (made : IsMadeOf u (rooms_of u) image) (stack : ℕ) (is_stack : IsStack stack) (input : List ℕ) (bytes : AreBytes input) (good : Good (meaning u) input stack) where
  is_defined : (n : ℕ) → IsDefined (run_main u (rooms_of u) input n)
  is_defined n = defined (run_main u (rooms_of u) input n) (good.defined n)

  is_same : IsSame image stack input (λ turns. run_main u (rooms_of u) input turns)
  is_same = are_same u (rooms_of u) image typed made stack is_stack input bytes (record { defined = is_defined; room = good.has_room })

  same_on : SameOn (meaning u) image stack input
  same_on = on_behaviours image stack input (λ turns. run_main u (rooms_of u) input turns) is_defined is_same u (λ n. refl)

  ends_soon_on : EndsSoonOn (meaning u) image stack input
  ends_soon_on = soon_on_behaviours image stack input (λ turns. run_main u (rooms_of u) input turns) is_same u (λ n. refl)

pub behave_alike : UnitsAreSame → UnitsBehaveAlike
behave_alike are_same u image typed made stack is_stack input bytes good = same_on are_same u image typed made stack is_stack input bytes good

pub end_soon : UnitsAreSame → UnitsEndSoon
end_soon are_same u image typed made stack is_stack input bytes good = ends_soon_on are_same u image typed made stack is_stack input bytes good
