-- The laws of whole runs.
use Rattle.std.proofs.Common.{◌≡◌, ◌<◌, ◌≢◌, ℕ, suc, ◌+◌, ◌≤◌, List, [], Option, Some, None, refl, sym, ap, ◌∙◌, subst, arith}
use Rattle.std.specs.Prelude.{slice_get}
use Rattle.mem_model.specs.declared.value.Value.{Value}
use Rattle.mem_model.specs.declared.value.Value.TheVariants.{Word, Address, Unset}
use Rattle.mem_model.specs.World.{World, Rooms}
use Rattle.mem_model.specs.Ending.{Ending, Done, Trap, Undefined, More, ending_world, ending_peak, Evaluation, Gives, Ends}
use Rattle.mem_objects.specs.Start.{start_memory}
use Rattle.c_typed_tree.specs.declared.units.TypedFn.{TypedFn}
use Rattle.c_typed_tree.specs.declared.units.TypedUnit.{TypedUnit}
use Rattle.c_mean.specs.Behaviour as b
use Rattle.c_mean.specs.Behaviour.{CBehaviour, output_of}
use Rattle.c_semantics.specs.Runs.{CallState}
use Rattle.c_semantics.specs.Executes.{StatementFlow, Goes, Breaks, Continues, Returns, level, enter_function, leave_function}
use Rattle.c_semantics.specs.Behaves.{world_of, status_of, ended_by, ending_of, run_of, main_of, run_main, rooms_of, behaviour_of, behave_c}
use Rattle.c_semantics.specs.Laws.{EndingsStay, OutputsGrow, UnitPeaksRise, UnitHasOneEnding, TurnsAreOne}
use Rattle.c_semantics.proofs.Grown.{Starts, starts_same, Later, Reaches, more_turns, Grows}
use Rattle.c_semantics.proofs.Trees.{body_grown, level_grown}

-- what an ending is with so many turns more
abbrev EndGrows : ℕ → Ending → Ending → Type 0
EndGrows d (Done w status) e = e ≡ Done (more_turns d w) status
EndGrows d (Trap w code) e = e ≡ Trap (more_turns d w) code
EndGrows d (Undefined w at) e = e ≡ Undefined (more_turns d w) at
EndGrows d (More w) e = Later w (ending_world e)

status_grows : (d : ℕ) (w : World) (v : Value) → EndGrows d (status_of w v) (status_of (more_turns d w) v)
status_grows d w (Word n) = refl
status_grows d w (Address p) = refl
status_grows d w Unset = refl

ended_grows : (d : ℕ) (w : World) (f : StatementFlow) → EndGrows d (ended_by w f) (ended_by (more_turns d w) f)
ended_grows d w (Returns (Some v)) = status_grows d w v
ended_grows d w (Returns None) = refl
ended_grows d w Goes = refl
ended_grows d w Breaks = refl
ended_grows d w Continues = refl

status_world : (w : World) (v : Value) → ending_world (status_of w v) ≡ w
status_world w (Word n) = refl
status_world w (Address p) = refl
status_world w Unset = refl

ended_world : (w : World) (f : StatementFlow) → ending_world (ended_by w f) ≡ w
ended_world w (Returns (Some v)) = status_world w v
ended_world w (Returns None) = refl
ended_world w Goes = refl
ended_world w Breaks = refl
ended_world w Continues = refl

later_left : (rooms : Rooms) (n : ℕ) (v w : World) → Later v w → Later v (leave_function rooms n w)
later_left rooms n v w h = record { output = h.output; peak = h.peak }

reaches_ending : (rooms : Rooms) (n : ℕ) (w : World) (r : Evaluation StatementFlow CallState) → Reaches w r → Later w (ending_world (ending_of (leave_function rooms n) r))
reaches_ending rooms n w (Gives f s) h = subst (Later w) (sym (ended_world (leave_function rooms n s.world) f)) (later_left rooms n w s.world h)
reaches_ending rooms n w (Ends e) h = h

ending_grows : (rooms : Rooms) (n d : ℕ) (r r' : Evaluation StatementFlow CallState) → Grows d r r' → EndGrows d (ending_of (leave_function rooms n) r) (ending_of (leave_function rooms n) r')
ending_grows rooms n d (Gives f s) r' g =
    subst (λ x. EndGrows d (ended_by (leave_function rooms n s.world) f) (ending_of (leave_function rooms n) x)) (sym g) (ended_grows d (leave_function rooms n s.world) f)
ending_grows rooms n d (Ends (Done w status)) r' g = ap (ending_of (leave_function rooms n)) g
ending_grows rooms n d (Ends (Trap w code)) r' g = ap (ending_of (leave_function rooms n)) g
ending_grows rooms n d (Ends (Undefined w at)) r' g = ap (ending_of (leave_function rooms n)) g
ending_grows rooms n d (Ends (More w)) r' g = reaches_ending rooms n w r' g

run_of_grows : (unit : TypedUnit) (rooms : Rooms) (n : ℕ) (f : Option TypedFn) (w : World) (m k : ℕ)
    → EndGrows k (run_of unit rooms n f w m) (run_of unit rooms n f (more_turns k w) (m + k))
run_of_grows unit rooms n None w m k = refl
run_of_grows unit rooms n (Some f) w m k =
    ending_grows rooms n k _ _
    ((body_grown unit.structs (level unit rooms (suc m)) (level unit rooms (suc (m + k)))
    (level_grown unit rooms (suc m) (suc (m + k)) (omega arith)) n f []).by
    (record { registers = λ j. Unset; world = enter_function rooms n w }) k)

run_grows : (unit : TypedUnit) (rooms : Rooms) (input : List ℕ) (n k : ℕ) → EndGrows k (run_main unit rooms input n) (run_main unit rooms input (n + k))
run_grows unit rooms input n k =
    run_of_grows unit rooms (main_of unit) (slice_get unit.functions (main_of unit)) (world_of (start_memory unit.globals) input n) n k

-- ---- the laws

peak_of : (k : ℕ) (e e' : Ending) → EndGrows k e e' → ending_peak e ≤ ending_peak e'
peak_of k (Done w status) e' g = subst (λ x. w.meter.peak ≤ ending_peak x) (sym g) (omega arith)
peak_of k (Trap w code) e' g = subst (λ x. w.meter.peak ≤ ending_peak x) (sym g) (omega arith)
peak_of k (Undefined w at) e' g = subst (λ x. w.meter.peak ≤ ending_peak x) (sym g) (omega arith)
peak_of k (More w) e' g = g.peak

pub peaks_rise : UnitPeaksRise
peaks_rise unit rooms input n k = peak_of k (run_main unit rooms input n) (run_main unit rooms input (n + k)) (run_grows unit rooms input n k)

ending_stays : (k : ℕ) (e e' : Ending) → EndGrows k e e' → ((output : List ℕ) → behaviour_of e ≢ b.More output) → behaviour_of e' ≡ behaviour_of e
ending_stays k (Done w status) e' g h = ap behaviour_of g
ending_stays k (Trap w code) e' g h = ap behaviour_of g
ending_stays k (Undefined w at) e' g h = ap behaviour_of g
ending_stays k (More w) e' g h = absurd (h w.outer.output refl)

pub endings_stay : EndingsStay
endings_stay unit input n k h =
    ending_stays k (run_main unit (rooms_of unit) input n) (run_main unit (rooms_of unit) input (n + k)) (run_grows unit (rooms_of unit) input n k) h

output_behind : (w : World) (e : Ending) → Later w (ending_world e) → behaviour_of e ≢ b.Undefined → Starts w.outer.output (output_of (behaviour_of e))
output_behind w (Done v status) h d = h.output
output_behind w (Trap v code) h d = h.output
output_behind w (Undefined v at) h d = absurd (d refl)
output_behind w (More v) h d = h.output

output_grows : (k : ℕ) (e e' : Ending) → EndGrows k e e' → behaviour_of e' ≢ b.Undefined → Starts (output_of (behaviour_of e)) (output_of (behaviour_of e'))
output_grows k (Done w status) e' g h = subst (λ x. Starts w.outer.output (output_of (behaviour_of x))) (sym g) (starts_same w.outer.output)
output_grows k (Trap w code) e' g h = subst (λ x. Starts w.outer.output (output_of (behaviour_of x))) (sym g) (starts_same w.outer.output)
output_grows k (Undefined w at) e' g h = absurd (h (ap behaviour_of g))
output_grows k (More w) e' g h = output_behind w e' g h

pub outputs_grow : OutputsGrow
outputs_grow unit input n k h =
    output_grows k (run_main unit (rooms_of unit) input n) (run_main unit (rooms_of unit) input (n + k)) (run_grows unit (rooms_of unit) input n k) h

pub one_ending : UnitHasOneEnding
one_ending unit input n m h g =
    let a : behave_c unit input (n + m) ≡ behave_c unit input n = endings_stay unit input n m h in
    let c : behave_c unit input (m + n) ≡ behave_c unit input m = endings_stay unit input m n g in
    let e : n + m ≡ m + n = omega arith in
    sym a ∙ ap (behave_c unit input) e ∙ c

pub turns_are_one : TurnsAreOne
turns_are_one unit input n m h g =
    let not_below : n < m → ⊥ = λ lt. g.least n lt h.ends in
    let not_above : m < n → ⊥ = λ lt. h.least m lt g.ends in
    omega (arith, not_below, not_above)
