-- The code of a unit that refines another one ends as the other one does.
use Rattle.std.proofs.Common.{◌≡◌, ◌≢◌, ℕ, ◌≤◌, List, refl, sym, ap, ap₂, subst, arith}
use Rattle.mem_model.specs.World.{World}
use Rattle.mem_model.specs.Ending.{Ending, Done, Trap, Undefined, More, SameShown, EndsAs, ending_peak, IsDefined}
use Rattle.c_mean.specs.Behaviour as b
use Rattle.c_typed_tree.specs.declared.units.TypedUnit.{TypedUnit}
use Rattle.c_semantics.specs.Behaves.{behaviour_of, rooms_of, run_main}
use Rattle.c_semantics.specs.Refines.{with_peak, EndingRefines}
use Rattle.lowering_theorem.specs.Laws.{VmRunsTo}
use Rattle.compiler_theorem.specs.RefinedCode.{IsShownBelow, EndsBelow, VmRunsBelow, RefinedUnitsHaveCode, BehavioursAreRefined}

-- ---- endings

-- what refines a defined ending is defined
still_defined : (e o : Ending) → IsDefined o → EndingRefines e o → IsDefined e
still_defined e (Done w n) defined h = subst IsDefined (sym h.holds) tt
still_defined e (Trap w n) defined h = subst IsDefined (sym h.holds) tt
still_defined e (Undefined w n) defined h = absurd defined
still_defined e (More w) defined h = subst IsDefined (sym h.holds) tt

shown_below : (v w : World) (p : ℕ) → p ≤ w.meter.peak → SameShown v (with_peak p w) → IsShownBelow v w
shown_below v w p low h =
    let same : v.meter.peak ≡ p = h.peak in
    record { output = h.output; input = h.input; takings = h.takings; turns = h.turns; peak = omega (arith, low, same) }

-- what ends as an ending that is lower ends below it
done_below : (e : Ending) (w : World) (n p : ℕ) → p ≤ w.meter.peak → EndsAs e (Done (with_peak p w) n) → EndsBelow e (Done w n)
done_below (Done v m) w n p low h = (h.0, shown_below v w p low h.1)
done_below (Trap v m) w n p low h = absurd h
done_below (Undefined v m) w n p low h = absurd h
done_below (More v) w n p low h = absurd h

trap_below : (e : Ending) (w : World) (n p : ℕ) → p ≤ w.meter.peak → EndsAs e (Trap (with_peak p w) n) → EndsBelow e (Trap w n)
trap_below (Done v m) w n p low h = absurd h
trap_below (Trap v m) w n p low h = (h.0, shown_below v w p low h.1)
trap_below (Undefined v m) w n p low h = absurd h
trap_below (More v) w n p low h = absurd h

more_below : (e : Ending) (w : World) (p : ℕ) → p ≤ w.meter.peak → EndsAs e (More (with_peak p w)) → EndsBelow e (More w)
more_below (Done v m) w p low h = absurd h
more_below (Trap v m) w p low h = absurd h
more_below (Undefined v m) w p low h = absurd h
more_below (More v) w p low h = shown_below v w p low h

-- what ends as an ending that refines another one ends below the other one
ends_below : (e r o : Ending) → EndsAs e r → EndingRefines r o → EndsBelow e o
ends_below e r (Done w n) same h = done_below e w n h.peak h.low (subst (λ x. EndsAs e x) h.holds same)
ends_below e r (Trap w n) same h = trap_below e w n h.peak h.low (subst (λ x. EndsAs e x) h.holds same)
ends_below e r (Undefined w n) same h = tt
ends_below e r (More w) same h = more_below e w h.peak h.low (subst (λ x. EndsAs e x) h.holds same)

-- ---- programs

pub refined_units_have_code : RefinedUnitsHaveCode
refined_units_have_code u r p refines runs rooms input turns bytes defined =
    let low : EndingRefines (run_main r rooms input turns) (run_main u rooms input turns) = refines.runs rooms input turns in
    let it : VmRunsTo rooms p input turns (run_main r rooms input turns) =
    runs rooms input turns bytes (still_defined (run_main r rooms input turns) (run_main u rooms input turns) defined low) in
    record {
      ending = it.ending;
      ends = it.ends;
      below = ends_below it.ending (run_main r rooms input turns) (run_main u rooms input turns) it.same low;
      only = it.only;
    }

-- ---- behaviours

defined_is : (o : Ending) → behaviour_of o ≢ b.Undefined → IsDefined o
defined_is (Done w n) ne = tt
defined_is (Trap w n) ne = tt
defined_is (Undefined w n) ne = absurd (ne refl)
defined_is (More w) ne = tt

behaves_below : (e o : Ending) → IsDefined o → EndsBelow e o → (behaviour_of e ≡ behaviour_of o) × (ending_peak e ≤ ending_peak o)
behaves_below e (Undefined w n) h s = absurd h
behaves_below (Done v m) (Done w n) h s = (ap₂ b.Done s.1.output s.0, s.1.peak)
behaves_below (Done v m) (Trap w n) h s = absurd s
behaves_below (Done v m) (More w) h s = absurd s
behaves_below (Trap v m) (Done w n) h s = absurd s
behaves_below (Trap v m) (Trap w n) h s = (ap₂ b.Trap s.1.output s.0, s.1.peak)
behaves_below (Trap v m) (More w) h s = absurd s
behaves_below (More v) (Done w n) h s = absurd s
behaves_below (More v) (Trap w n) h s = absurd s
behaves_below (More v) (More w) h s = (ap b.More s.output, s.peak)
behaves_below (Undefined v m) (Done w n) h s = absurd s
behaves_below (Undefined v m) (Trap w n) h s = absurd s
behaves_below (Undefined v m) (More w) h s = absurd s

pub behaviours_are_refined : BehavioursAreRefined
behaviours_are_refined u p runs input turns bytes ne =
    let o : Ending = run_main u (rooms_of u) input turns in
    let defined = defined_is o ne in
    let it : VmRunsBelow (rooms_of u) p input turns o = runs (rooms_of u) input turns bytes defined in
    let below = behaves_below it.ending o defined it.below in
    record { ending = it.ending; ends = it.ends; behaviour = below.0; peak = below.1 }
