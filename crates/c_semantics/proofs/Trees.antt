-- With more levels and turns an ending of a tree stays, and an output only grows.
use Rattle.std.proofs.Common.{ℕ, zero, suc, ◌≤◌, List, refl, arith}
use Rattle.std.specs.Prelude.{slice_get}
use Rattle.mem_model.specs.declared.value.Value.{Value}
use Rattle.mem_model.specs.World.{Rooms}
use Rattle.c_typed_tree.specs.declared.types.StructDef.{StructDef}
use Rattle.c_typed_tree.specs.declared.units.TypedFn.{TypedFn}
use Rattle.c_typed_tree.specs.declared.units.TypedUnit.{TypedUnit}
use Rattle.c_semantics.specs.Runs.{CallState, Run, no_turn}
use Rattle.c_semantics.specs.Evaluates.{put_character, get}
use Rattle.c_semantics.specs.Executes.{StatementFlow, Level, body_of, calls_of, function_locals, level_above, level}
use Rattle.c_semantics.proofs.Grown.{starts_same, later_same, Reaches, RunGrows, Steady, bind, steady_pure, steady_undefined, steady_trap, steady_exit, steady_memory, steady_write, grown_seen, steady_read, grown_no_turn, steady_turn, grown_object, grown_call}
use Rattle.c_semantics.proofs.Forms as forms

steady_put : (n : ℕ) → Steady (put_character n)
unfolding put_character
steady_put n = record {
  by = λ s d. refl;
  low = λ s. record { output = (_, refl); peak = omega arith };
  high = λ s. record { output = (_, refl); peak = omega arith };
}

steady_get : Steady get
unfolding get
steady_get = record {
  by = λ s d. refl;
  low = λ s. record { output = starts_same s.world.outer.output; peak = omega arith };
  high = λ s. record { output = starts_same s.world.outer.output; peak = omega arith };
}

abbrev pub GrownOf : (A : Type 0) → Run A → Run A → Type 0
GrownOf A c d = RunGrows c d

pub kept_grown : forms.Congruence GrownOf
kept_grown = record {
  bind = bind;
  pure = steady_pure;
  undefined = steady_undefined;
  trap = steady_trap;
  exit = steady_exit;
  memory = steady_memory;
  write = steady_write;
  register = steady_read;
  on_memory = grown_seen;
  turn = steady_turn;
  put = steady_put;
  get = steady_get;
  object = grown_object;
  call = grown_call;
}

-- two levels of which the second goes as far at least
abbrev pub Above : Level → Level → Type 0
Above l l' = forms.Above GrownOf kept_grown l l'

pub body_grown : (ds : List StructDef) (l l' : Level) → Above l l' → (n : ℕ) (g : TypedFn) (vs : List Value) → RunGrows (body_of ds l n g vs) (body_of ds l' n g vs)
body_grown ds l l' h n g vs = forms.body_related GrownOf kept_grown ds l l' h n g vs

above_grown : (unit : TypedUnit) (rooms : Rooms) (l l' : Level) → Above l l' → Above (level_above unit rooms l) (level_above unit rooms l')
above_grown unit rooms l l' h n scope s =
    forms.exec_related GrownOf kept_grown unit.structs (function_locals (slice_get unit.functions n)) (calls_of unit rooms l) (calls_of unit rooms l')
    (λ m vs. forms.call_of_related GrownOf kept_grown unit.structs rooms l l' h m (slice_get unit.functions m) vs) (l n) (l' n) (h n) scope s

no_turn_reaches : (s : CallState) → Reaches s.world (no_turn {A = StatementFlow} s)
unfolding no_turn
no_turn_reaches s = later_same s.world

pub level_grown : (unit : TypedUnit) (rooms : Rooms) (m n : ℕ) → m ≤ n → Above (level unit rooms m) (level unit rooms n)
level_grown unit rooms zero zero le k scope s = grown_no_turn no_turn no_turn_reaches
level_grown unit rooms zero (suc n) le k scope s =
    grown_no_turn (level unit rooms (suc n) k scope s)
    (λ t. (above_grown unit rooms (level unit rooms n) (level unit rooms n) (level_grown unit rooms n n (omega arith)) k scope s).low t)
level_grown unit rooms (suc m) zero le k scope s = absurd (omega arith)
level_grown unit rooms (suc m) (suc n) le k scope s =
    above_grown unit rooms (level unit rooms m) (level unit rooms n) (level_grown unit rooms m n (omega arith)) k scope s
