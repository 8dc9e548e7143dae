-- Initialisers that fit nothing: what they are made of is judged all the same, and what they are is a fault where no
-- part of them has one.
use Rattle.std.specs.Prelude.{ℕ, Bool, true, false, Option, Some, None}
use Rattle.std.specs.Option.{option_map}
use Rattle.c_tree.specs.declared.expressions.Expr.{Expr}
use Rattle.c_tree.specs.declared.declarations.Init as i
use Rattle.c_typing_faults.specs.declared.faults.Kind.{Kind}
use Rattle.c_typing_rules.specs.declared.typed.TypedExpression.{TypedExpression}
use Rattle.c_typing_state.specs.Checks.{Check, pure, and_then, each, fault}
use Rattle.c_typing_judgements.specs.Types.{JudgementState, in_env}
use Rattle.c_typing_expressions.specs.Expressions.{judge}

abbrev pub place_in_text : TypedExpression → ℕ
place_in_text a = a.at

-- the place of an expression, if it has no fault
abbrev pub judge_value : Expr → JudgementState → Option ℕ × JudgementState
judge_value x s = and_then (judge x s) (λ a. pure (option_map place_in_text a))

-- a list is without fault where its items are
abbrev pub list_place : ℕ → (whole : Bool) → Option ℕ
list_place at false = None
list_place at true = Some at

abbrev pub is_whole_with : (whole : Bool) → Option ℕ → Bool
is_whole_with false place = false
is_whole_with true None = false
is_whole_with true (Some at) = true

-- the place of an initialiser, if no expression in it has a fault
unfoldable mutual
  pub judge_init : i.Init → JudgementState → Option ℕ × JudgementState
  judge_init (i.Value x) s = judge_value x s
  judge_init (i.List' at _ items) s = and_then (judge_items items true s) (λ whole. pure (list_place at whole))

  pub judge_items : {m : _} → i.Row_of-Init m → (whole : Bool) → JudgementState → Bool × JudgementState
  judge_items i.end_of-Init whole s = (whole, s)
  judge_items (i.more_of-Init x xs) whole s =
      and_then (judge_init x s) (λ place. judge_items xs (is_whole_with whole place))

abbrev pub no_place : Kind → ℕ → Check (Option ℕ)
no_place kind at = fault at kind

-- an initialiser that has this fault
abbrev pub faulty_init : Kind → i.Init → JudgementState → Option ℕ × JudgementState
faulty_init kind x s = and_then (judge_init x s) (λ place u. in_env u.0 (each place (no_place kind) u.1))
