-- From a state with a lower peak a run comes to the same, with a peak that is not above. One lemma for each way in which
-- runs are put together.
use Rattle.std.proofs.Common.{◌≡◌, ℕ, zero, suc, ◌+◌, ◌≤◌, max, true, refl, sym, ap, subst, arith}
use Rattle.std.specs.Prelude.{length}
use Rattle.mem_model.specs.declared.value.Value.{Value}
use Rattle.mem_model.specs.declared.value.Value.TheVariants.{Word, Address, Unset}
use Rattle.mem_model.specs.Memory.{Memory, begin_object}
use Rattle.mem_model.specs.World.{Rooms, room_of, with_memory, turn_from}
use Rattle.mem_model.specs.Ending.{Done, Trap, Undefined, More, Evaluation, Gives, Ends}
use Rattle.c_semantics.specs.Reasons.{Reason}
use Rattle.c_semantics.specs.Runs.{CallState, in_world, Run, and_then, ◌>>=◌, pure, undefined_behaviour, trap, exit, no_turn, spend_turn, turn, on_memory, set_memory, use_value, read_register, write_register}
use Rattle.c_semantics.specs.Objects.{Scope, bind_object, with_local_object}
use Rattle.c_semantics.specs.Evaluates.{put_character, get}
use Rattle.c_semantics.specs.Executes.{enter_function, within_call}
use Rattle.c_semantics.specs.Refines.{lower_peak, WithPeak, GivesBelow, RunRefines, IsBelow}
use Rattle.c_semantics.proofs.Forms.{Congruence}

-- ---- evaluations

pub below_same : {A : Type 0} (e : Evaluation A CallState) → GivesBelow e e
below_same (Gives a s) = record { peak = s.world.meter.peak; low = omega arith; holds = refl }
below_same (Ends (Done w status)) = record { peak = w.meter.peak; low = omega arith; holds = refl }
below_same (Ends (Trap w code)) = record { peak = w.meter.peak; low = omega arith; holds = refl }
below_same (Ends (Undefined w at)) = tt
below_same (Ends (More w)) = record { peak = w.meter.peak; low = omega arith; holds = refl }

lower_still : {P Q : ℕ → Type 0} (most : ℕ) (h : WithPeak most P) → WithPeak h.peak Q → WithPeak most Q
lower_still most h g = record { peak = g.peak; low = omega (arith, g.low, h.low); holds = g.holds }

pub gives_on : {A : Type 0} (c d e : Evaluation A CallState) → GivesBelow c d → GivesBelow d e → GivesBelow c e
gives_on c d (Ends (Undefined w at)) h g = tt
gives_on c d (Gives a t) h g = lower_still _ g (subst (GivesBelow c) g.holds h)
gives_on c d (Ends (Done w status)) h g = lower_still _ g (subst (GivesBelow c) g.holds h)
gives_on c d (Ends (Trap w code)) h g = lower_still _ g (subst (GivesBelow c) g.holds h)
gives_on c d (Ends (More w)) h g = lower_still _ g (subst (GivesBelow c) g.holds h)

pub gives_then : {A B : Type 0} (c d : Evaluation A CallState) (k l : A → Run B) → GivesBelow c d → ((a : A) → IsBelow (k a) (l a)) → GivesBelow (and_then c k) (and_then d l)
gives_then c (Gives a t) k l h g = subst (λ x. GivesBelow (and_then x k) (l a t)) (sym h.holds) ((g a).by t h.peak h.low)
gives_then c (Ends (Done w status)) k l h g = record { peak = h.peak; low = h.low; holds = ap (λ x. and_then x k) h.holds }
gives_then c (Ends (Trap w code)) k l h g = record { peak = h.peak; low = h.low; holds = ap (λ x. and_then x k) h.holds }
gives_then c (Ends (Undefined w at)) k l h g = tt
gives_then c (Ends (More w)) k l h g = record { peak = h.peak; low = h.low; holds = ap (λ x. and_then x k) h.holds }

-- ---- runs

pub below_on : {A : Type 0} {c d e : Run A} → IsBelow c d → IsBelow d e → IsBelow c e
below_on {c = c} {d = d} {e = e} h g = record {
  by = λ s p l. gives_on (c (lower_peak p s)) (d (lower_peak p s)) (e s) (h.by (lower_peak p s) p (omega arith)) (g.by s p l);
}

-- a refinement of a run that does not look at the peak
pub refines_below : {A : Type 0} {c d : Run A} → IsBelow d d → RunRefines c d → IsBelow c d
refines_below {c = c} {d = d} g h = record {
  by = λ s p l. gives_on (c (lower_peak p s)) (d (lower_peak p s)) (d s) (h.by (lower_peak p s)) (g.by s p l);
}

same_state : (s : CallState) → lower_peak s.world.meter.peak s ≡ s
same_state s = refl

pub below_refines : {A : Type 0} {c d : Run A} → IsBelow c d → RunRefines c d
below_refines {c = c} {d = d} h = record {
  by = λ s. subst (λ x. GivesBelow (c x) (d s)) (same_state s) (h.by s s.world.meter.peak (omega arith));
}

pub onto : {A : Type 0} {c d : Run A} → c ≡ d → IsBelow c c → IsBelow c d
onto {c = c} e h = subst (λ x. IsBelow c x) e h

bind_below : {A B : Type 0} {c d : Run A} {k l : A → Run B} → IsBelow c d → ((a : A) → IsBelow (k a) (l a)) → IsBelow (c >>= k) (d >>= l)
unfolding ◌>>=◌
bind_below {c = c} {d = d} {k = k} {l = l} h g = record { by = λ s p m. gives_then (c (lower_peak p s)) (d s) k l (h.by s p m) g }

pure_below : {A : Type 0} (a : A) → IsBelow (pure a) (pure a)
unfolding pure
pure_below a = record { by = λ s p l. record { peak = p; low = l; holds = refl } }

undefined_below : {A : Type 0} (reason : Reason) → IsBelow (undefined_behaviour {A = A} reason) (undefined_behaviour reason)
unfolding undefined_behaviour
undefined_below reason = record { by = λ s p l. tt }

trap_below : {A : Type 0} (code : ℕ) → IsBelow (trap {A = A} code) (trap code)
unfolding trap
trap_below code = record { by = λ s p l. record { peak = p; low = l; holds = refl } }

exit_below : {A : Type 0} (status : ℕ) → IsBelow (exit {A = A} status) (exit status)
unfolding exit
exit_below status = record { by = λ s p l. record { peak = p; low = l; holds = refl } }

memory_below : (m : Memory) → IsBelow (set_memory m) (set_memory m)
unfolding set_memory
memory_below m = record { by = λ s p l. record { peak = p; low = l; holds = refl } }

write_below : (k : ℕ) (v : Value) → IsBelow (write_register k v) (write_register k v)
unfolding write_register
write_below k v = record { by = λ s p l. record { peak = p; low = l; holds = refl } }

used_below : (reason : Reason) (v : Value) → IsBelow (use_value reason v) (use_value reason v)
used_below reason (Word n) = pure_below _
used_below reason (Address p) = pure_below _
used_below reason Unset = undefined_below reason

register_below : (k : ℕ) → IsBelow (read_register k) (read_register k)
unfolding read_register
register_below k = record { by = λ s p l. (used_below _ (s.registers k)).by s p l }

seen_below : {A : Type 0} {k l : Memory → Run A} → ((m : Memory) → IsBelow (k m) (l m)) → IsBelow (on_memory k) (on_memory l)
unfolding on_memory
seen_below g = record { by = λ s p l. (g s.world.outer.memory).by s p l }

pub no_turn_below : {A : Type 0} → IsBelow (no_turn {A = A}) no_turn
unfolding no_turn
no_turn_below = record { by = λ s p l. record { peak = p; low = l; holds = refl } }

turned_below : (n p : ℕ) (s : CallState) → p ≤ s.world.meter.peak
    → GivesBelow (spend_turn (turn_from n (lower_peak p s).world.meter) (lower_peak p s)) (spend_turn (turn_from n s.world.meter) s)
unfolding no_turn
turned_below zero p s l = record { peak = p; low = l; holds = refl }
turned_below (suc n) p s l = record { peak = p; low = l; holds = refl }

turn_below : IsBelow turn turn
unfolding turn
turn_below = record { by = λ s p l. turned_below s.world.meter.turns p s l }

put_below : (n : ℕ) → IsBelow (put_character n) (put_character n)
unfolding put_character
put_below n = record { by = λ s p l. record { peak = p; low = l; holds = refl } }

get_below : IsBelow get get
unfolding get
get_below = record { by = λ s p l. record { peak = p; low = l; holds = refl } }

object_below : {A : Type 0} (size k : ℕ) {run other : Scope → Run A} (scope : Scope) → ((inner : Scope) → IsBelow (run inner) (other inner))
    → IsBelow (with_local_object size k run scope) (with_local_object size k other scope)
object_below size k {run = run} {other = other} scope g = record {
  by = λ s p l.
      let o = length s.world.outer.memory in
      let t = in_world s (with_memory s.world (begin_object s.world.outer.memory size true)) in
      gives_then (run (bind_object scope k o) (lower_peak p t)) (other (bind_object scope k o) t) _ _ ((g (bind_object scope k o)).by t p l)
      (λ a. record { by = λ u q m. record { peak = q; low = m; holds = refl } });
}

call_below : {A : Type 0} (rooms : Rooms) (n : ℕ) {run other : Run A} → IsBelow run other → IsBelow (within_call rooms n run) (within_call rooms n other)
call_below rooms n {run = run} {other = other} g = record {
  by = λ s p l.
      let t : CallState = record { registers = λ k. Unset; world = enter_function rooms n s.world } in
      let q = max p (s.world.meter.room + room_of rooms n) in
      gives_then (run (lower_peak q t)) (other t) _ _ (g.by t q (omega (arith, l)))
      (λ a. record { by = λ u i m. record { peak = i; low = m; holds = refl } });
}

abbrev pub BelowOf : (A : Type 0) → Run A → Run A → Type 0
BelowOf A c d = IsBelow c d

pub kept_below : Congruence BelowOf
kept_below = record {
  bind = bind_below;
  pure = pure_below;
  undefined = undefined_below;
  trap = trap_below;
  exit = exit_below;
  memory = memory_below;
  write = write_below;
  register = register_below;
  on_memory = seen_below;
  turn = turn_below;
  put = put_below;
  get = get_below;
  object = object_below;
  call = call_below;
}
