-- Two runs of which the second is the first with more turns: an ending stays, and where the first ends for want of a
-- turn the second one only goes on. One lemma for each way to put runs together.
use Rattle.std.proofs.Common.{◌≡◌, ℕ, zero, suc, ◌+◌, ◌≤◌, List, [], ◌++◌, Bool, true, false, Option, Some, None, refl, sym, ap, ◌∙◌, subst, arith, append_assoc, append-nil}
use Rattle.std.specs.Prelude.{length, if◌then◌else◌}
use Rattle.mem_model.specs.declared.value.Value.{Value}
use Rattle.mem_model.specs.declared.value.Value.TheVariants.{Word, Address, Unset}
use Rattle.mem_model.specs.Memory.{Memory, end_object, begin_object}
use Rattle.mem_model.specs.World.{Meter, World, Rooms, with_memory, with_meter, with_turns, turn_from}
use Rattle.mem_model.specs.Ending.{Done, Trap, Undefined, More, ending_world, Evaluation, Gives, Ends}
use Rattle.c_semantics.specs.Reasons.{Reason}
use Rattle.c_semantics.specs.Runs.{CallState, in_world, Run, and_then, ◌>>=◌, pure, undefined_behaviour, trap, exit, no_turn, spend_turn, turn, on_memory, set_memory, or_undefined, use_value, use_number, read_register, write_register}
use Rattle.c_semantics.specs.Objects.{Scope, bind_object, with_local_object}
use Rattle.c_semantics.specs.Executes.{enter_function, leave_function, within_call}

-- a list begins with another one
abbrev pub Starts : List ℕ → List ℕ → Type 0
Starts xs ys = (rest : List ℕ) × (ys ≡ xs ++ rest)

pub starts_same : (xs : List ℕ) → Starts xs xs
starts_same xs = ([], sym (append-nil xs))

starts_on : (xs ys zs : List ℕ) → Starts xs ys → Starts ys zs → Starts xs zs
starts_on xs ys zs a b = (a.0 ++ b.0, b.1 ∙ ap (λ l. l ++ b.0) a.1 ∙ append_assoc xs a.0 b.0)

-- a world comes behind another one: output was only put behind, and the peak only rose
pub record Later (v w : World) : Type 0 where
  pub output : Starts v.outer.output w.outer.output
  pub peak : v.meter.peak ≤ w.meter.peak

pub later_same : (w : World) → Later w w
later_same w = record { output = starts_same w.outer.output; peak = omega arith }

later_on : (u v w : World) → Later u v → Later v w → Later u w
later_on u v w a b = record {
  output = starts_on u.outer.output v.outer.output w.outer.output a.output b.output;
  peak = omega (arith, a.peak, b.peak);
}

-- a run that came to a value or an ending comes behind a world
abbrev pub Reaches : {A : Type 0} → World → Evaluation A CallState → Type 0
Reaches w (Gives a s) = Later w s.world
Reaches w (Ends e) = Later w (ending_world e)

reaches_on : {A : Type 0} (v w : World) (r : Evaluation A CallState) → Later v w → Reaches w r → Reaches v r
reaches_on v w (Gives a s) h g = later_on v w s.world h g
reaches_on v w (Ends e) h g = later_on v w (ending_world e) h g

-- so many turns more
abbrev pub more_turns : (more : ℕ) → World → World
more_turns d w = with_meter w (with_turns d w.meter)

abbrev pub with_more : (more : ℕ) → CallState → CallState
with_more d s = in_world s (more_turns d s.world)

-- what a run with so many turns more comes to
abbrev pub Grows : {A : Type 0} → ℕ → Evaluation A CallState → Evaluation A CallState → Type 0
Grows d (Gives a s) r = r ≡ Gives a (with_more d s)
Grows d (Ends (Done w status)) r = r ≡ Ends (Done (more_turns d w) status)
Grows d (Ends (Trap w code)) r = r ≡ Ends (Trap (more_turns d w) code)
Grows d (Ends (Undefined w at)) r = r ≡ Ends (Undefined (more_turns d w) at)
Grows d (Ends (More w)) r = Reaches w r

pub record RunGrows {A : Type 0} (c c' : Run A) : Type 0 where
  pub by : (s : CallState) (d : ℕ) → Grows d (c s) (c' (with_more d s))
  pub low : (s : CallState) → Reaches s.world (c s)
  pub high : (s : CallState) → Reaches s.world (c' s)

-- a run that is the same with more turns
abbrev pub Steady : {A : Type 0} → Run A → Type 0
Steady c = RunGrows c c

reaches_bind : {A B : Type 0} (w : World) (r : Evaluation A CallState) (k : A → Run B) → Reaches w r
    → ((a : A) (s : CallState) → Reaches s.world (k a s)) → Reaches w (and_then r k)
reaches_bind w (Gives a s) k h g = reaches_on w s.world (k a s) h (g a s)
reaches_bind w (Ends e) k h g = h

grows_bind : {A B : Type 0} (d : ℕ) (r r' : Evaluation A CallState) (k k' : A → Run B) → Grows d r r'
    → ((a : A) → RunGrows (k a) (k' a)) → Grows d (and_then r k) (and_then r' k')
grows_bind d (Gives a s) r' k k' e g = subst (λ x. Grows d (k a s) (and_then x k')) (sym e) ((g a).by s d)
grows_bind d (Ends (Done w status)) r' k k' e g = ap (λ x. and_then x k') e
grows_bind d (Ends (Trap w code)) r' k k' e g = ap (λ x. and_then x k') e
grows_bind d (Ends (Undefined w at)) r' k k' e g = ap (λ x. and_then x k') e
grows_bind d (Ends (More w)) r' k k' e g = reaches_bind w r' k' e (λ a s. (g a).high s)

pub bind : {A B : Type 0} {m m' : Run A} {k k' : A → Run B} → RunGrows m m' → ((a : A) → RunGrows (k a) (k' a))
    → RunGrows (m >>= k) (m' >>= k')
unfolding ◌>>=◌
bind {m = m} {m' = m'} {k = k} {k' = k'} h g = record {
  by = λ s d. grows_bind d (m s) (m' (with_more d s)) k k' (h.by s d) g;
  low = λ s. reaches_bind s.world (m s) k (h.low s) (λ a t. (g a).low t);
  high = λ s. reaches_bind s.world (m' s) k' (h.high s) (λ a t. (g a).high t);
}

-- ---- what takes no turn

pub steady_pure : {A : Type 0} (a : A) → Steady (pure a)
unfolding pure
steady_pure a = record { by = λ s d. refl; low = λ s. later_same s.world; high = λ s. later_same s.world }

pub steady_undefined : {A : Type 0} (reason : Reason) → Steady (undefined_behaviour {A = A} reason)
unfolding undefined_behaviour
steady_undefined reason = record { by = λ s d. refl; low = λ s. later_same s.world; high = λ s. later_same s.world }

pub steady_trap : {A : Type 0} (code : ℕ) → Steady (trap {A = A} code)
unfolding trap
steady_trap code = record { by = λ s d. refl; low = λ s. later_same s.world; high = λ s. later_same s.world }

pub steady_exit : {A : Type 0} (status : ℕ) → Steady (exit {A = A} status)
unfolding exit
steady_exit status = record { by = λ s d. refl; low = λ s. later_same s.world; high = λ s. later_same s.world }

pub steady_memory : (m : Memory) → Steady (set_memory m)
unfolding set_memory
steady_memory m = record {
  by = λ s d. refl;
  low = λ s. record { output = starts_same s.world.outer.output; peak = omega arith };
  high = λ s. record { output = starts_same s.world.outer.output; peak = omega arith };
}

pub steady_write : (k : ℕ) (v : Value) → Steady (write_register k v)
unfolding write_register
steady_write k v = record { by = λ s d. refl; low = λ s. later_same s.world; high = λ s. later_same s.world }

pub grown_seen : {A : Type 0} {k k' : Memory → Run A} → ((m : Memory) → RunGrows (k m) (k' m)) → RunGrows (on_memory k) (on_memory k')
unfolding on_memory
grown_seen g = record {
  by = λ s d. (g s.world.outer.memory).by s d;
  low = λ s. (g s.world.outer.memory).low s;
  high = λ s. (g s.world.outer.memory).high s;
}

pub steady_known : {A : Type 0} (reason : Reason) (o : Option A) → Steady (or_undefined reason o)
steady_known reason (Some a) = steady_pure a
steady_known reason None = steady_undefined reason

pub steady_used : (reason : Reason) (v : Value) → Steady (use_value reason v)
steady_used reason (Word n) = steady_pure _
steady_used reason (Address p) = steady_pure _
steady_used reason Unset = steady_undefined reason

pub steady_number : (v : Value) → Steady (use_number v)
steady_number (Word n) = steady_pure n
steady_number (Address p) = steady_undefined _
steady_number Unset = steady_undefined _

pub steady_read : (k : ℕ) → Steady (read_register k)
unfolding read_register
steady_read k = record {
  by = λ s d. (steady_used _ (s.registers k)).by s d;
  low = λ s. (steady_used _ (s.registers k)).low s;
  high = λ s. (steady_used _ (s.registers k)).high s;
}

pub grown_if : {A : Type 0} (c : Bool) {a a' b b' : Run A} → RunGrows a a' → RunGrows b b'
    → RunGrows (if c then a else b) (if c then a' else b')
grown_if true g h = g
grown_if false g h = h

-- ---- turns

-- a run that has no turn may be any run
pub grown_no_turn : {A : Type 0} (c : Run A) → ((s : CallState) → Reaches s.world (c s)) → RunGrows no_turn c
unfolding no_turn
grown_no_turn c h = record {
  by = λ s d. reaches_on s.world (more_turns d s.world) (c (with_more d s)) (record { output = starts_same s.world.outer.output; peak = omega arith }) (h (with_more d s));
  low = λ s. later_same s.world;
  high = h;
}

reaches_turned : (n : ℕ) (m : Meter) (s : CallState) → m.peak ≡ s.world.meter.peak → Reaches s.world (spend_turn (turn_from n m) s)
unfolding no_turn
reaches_turned zero m s e = later_same s.world
reaches_turned (suc n) m s e = record { output = starts_same s.world.outer.output; peak = omega (arith, e) }

grows_turned : (n d : ℕ) (m : Meter) (s : CallState) → m.peak ≡ s.world.meter.peak
    → Grows d (spend_turn (turn_from n m) s) (spend_turn (turn_from (n + d) (with_turns d m)) (with_more d s))
unfolding no_turn
grows_turned zero d m s e = reaches_on s.world (more_turns d s.world) (spend_turn (turn_from (zero + d) (with_turns d m)) (with_more d s)) (record { output = starts_same s.world.outer.output; peak = omega arith }) (reaches_turned (zero + d) (with_turns d m) (with_more d s) e)
grows_turned (suc n) d m s e = let step : suc n + d ≡ suc (n + d) = omega arith in ap (λ t. spend_turn (turn_from t (with_turns d m)) (with_more d s)) step

pub steady_turn : Steady turn
unfolding turn
steady_turn = record {
  by = λ s d. grows_turned s.world.meter.turns d s.world.meter s refl;
  low = λ s. reaches_turned s.world.meter.turns s.world.meter s refl;
  high = λ s. reaches_turned s.world.meter.turns s.world.meter s refl;
}

-- ---- scopes and calls

-- what is done to the world behind a run that goes on
abbrev leaving : {A : Type 0} → (object : ℕ) → A → Run A
leaving object a = λ s. Gives a (in_world s (with_memory s.world (end_object s.world.outer.memory object)))

abbrev begun : (size : ℕ) → CallState → CallState
begun size s = in_world s (with_memory s.world (begin_object s.world.outer.memory size true))

steady_leaving : {A : Type 0} (object : ℕ) (a : A) → Steady (leaving object a)
steady_leaving object a = record {
  by = λ s d. refl;
  low = λ s. record { output = starts_same s.world.outer.output; peak = omega arith };
  high = λ s. record { output = starts_same s.world.outer.output; peak = omega arith };
}

reaches_object : {A : Type 0} (size k : ℕ) (run : Scope → Run A) (scope : Scope) → ((inner : Scope) (s : CallState) → Reaches s.world (run inner s))
    → (s : CallState) → Reaches s.world (with_local_object size k run scope s)
reaches_object size k run scope h s =
    let o = length s.world.outer.memory in
    reaches_bind s.world (run (bind_object scope k o) (begun size s)) (leaving o)
    (reaches_on s.world (begun size s).world (run (bind_object scope k o) (begun size s)) (record { output = starts_same s.world.outer.output; peak = omega arith }) (h (bind_object scope k o) (begun size s)))
    (λ a t. (steady_leaving o a).low t)

pub grown_object : {A : Type 0} (size k : ℕ) {run run' : Scope → Run A} (scope : Scope) → ((inner : Scope) → RunGrows (run inner) (run' inner))
    → RunGrows (with_local_object size k run scope) (with_local_object size k run' scope)
grown_object size k {run = run} {run' = run'} scope g = record {
  by = λ s d.
      let o = length s.world.outer.memory in
      grows_bind d (run (bind_object scope k o) (begun size s)) (run' (bind_object scope k o) (with_more d (begun size s))) (leaving o) (leaving o)
      ((g (bind_object scope k o)).by (begun size s) d) (λ a. steady_leaving o a);
  low = reaches_object size k run scope (λ inner s. (g inner).low s);
  high = reaches_object size k run' scope (λ inner s. (g inner).high s);
}

abbrev inside : Rooms → (function : ℕ) → CallState → CallState
inside rooms n s = record { registers = λ k. Unset; world = enter_function rooms n s.world }

abbrev behind : {A : Type 0} → Rooms → (function : ℕ) → (ℕ → Value) → A → Run A
behind rooms n r a = λ t. Gives a (record { registers = r; world = leave_function rooms n t.world })

steady_behind : {A : Type 0} (rooms : Rooms) (n : ℕ) (r : ℕ → Value) (a : A) → Steady (behind rooms n r a)
steady_behind rooms n r a = record {
  by = λ s d. refl;
  low = λ s. record { output = starts_same s.world.outer.output; peak = omega arith };
  high = λ s. record { output = starts_same s.world.outer.output; peak = omega arith };
}

later_inside : (rooms : Rooms) (n : ℕ) (s : CallState) → Later s.world (inside rooms n s).world
later_inside rooms n s = record { output = starts_same s.world.outer.output; peak = omega arith }

reaches_call : {A : Type 0} (rooms : Rooms) (n : ℕ) (run : Run A) → ((s : CallState) → Reaches s.world (run s))
    → (s : CallState) → Reaches s.world (within_call rooms n run s)
reaches_call rooms n run h s =
    reaches_bind s.world (run (inside rooms n s)) (behind rooms n s.registers)
    (reaches_on s.world (inside rooms n s).world (run (inside rooms n s)) (later_inside rooms n s) (h (inside rooms n s)))
    (λ a t. (steady_behind rooms n s.registers a).low t)

pub grown_call : {A : Type 0} (rooms : Rooms) (n : ℕ) {run run' : Run A} → RunGrows run run'
    → RunGrows (within_call rooms n run) (within_call rooms n run')
grown_call rooms n {run = run} {run' = run'} g = record {
  by = λ s d. grows_bind d (run (inside rooms n s)) (run' (with_more d (inside rooms n s))) (behind rooms n s.registers) (behind rooms n s.registers)
      (g.by (inside rooms n s) d) (λ a. steady_behind rooms n s.registers a);
  low = reaches_call rooms n run (λ s. g.low s);
  high = reaches_call rooms n run' (λ s. g.high s);
}
