-- Enumeration constants (C99 6.7.2.2). The scope of each begins behind its expression (6.2.1).
use Rattle.std.specs.Prelude.{ℕ, if◌then◌else◌, List, Option, Some, None}
use Rattle.c_typing_scopes.specs.Names.{find}
use Rattle.c_tree.specs.declared.expressions.Expr.TheBlock as k
use Rattle.c_typing_faults.specs.declared.faults.Kind.TheVariants.{Redeclared}
use Rattle.c_typing_rules.specs.declared.typed.TypedExpression.{TypedExpression}
use Rattle.c_typing_constants.specs.c_constant_rules.Values.{given_value, next_value}
use Rattle.c_typing_state.specs.declared.meanings.NameMeaning.{NameMeaning}
use Rattle.c_typing_state.specs.declared.meanings.NameMeaning.TheVariants as m
use Rattle.c_typing_state.specs.Checks.{Check, and_then, each, note_fault}
use Rattle.c_typing_state.specs.Notes.{with_fault}
use Rattle.c_typing_state.specs.Scopes.{with_meaning, stands_here}
use Rattle.c_typing_judgements.specs.Types.{JudgementState, in_env}
use Rattle.c_typing_expressions.specs.Expressions.{judge}

abbrev pub explicit_value : TypedExpression → Check (Option ℕ)
explicit_value a n = note_fault (given_value a) n

abbrev pub one_above : ℕ → (before : ℕ) → Check (Option ℕ)
one_above at before n = note_fault (next_value at before) n

-- without an expression the first is 0, and each other one is 1 above the one before it, if that has no fault
abbrev pub value_behind : ℕ → (before : Option (Option ℕ)) → Check (Option ℕ)
value_behind at None n = (Some 0, n)
value_behind at (Some before) n = each before (one_above at) n

abbrev pub judge_value_held : ℕ → k.Held-Constant-value → (before : Option (Option ℕ)) → JudgementState →
    Option ℕ × JudgementState
judge_value_held at k.Constant-value-None' before s = in_env s.0 (value_behind at before s.1)
judge_value_held at (k.Constant-value-Some' x) before s =
    and_then (judge x s) (λ a u. in_env u.0 (each a explicit_value u.1))

abbrev pub constant_meaning : Option ℕ → NameMeaning
constant_meaning None = m.Faulty
constant_meaning (Some word) = m.Constant word

-- a name that stands in the scope keeps its meaning
abbrev pub constant_declared : ℕ → List ℕ → Option ℕ → JudgementState → JudgementState
constant_declared at name value s =
    if stands_here s.0 (find name s.0.names) then (s.0, with_fault at Redeclared s.1)
    else (with_meaning name (constant_meaning value) s.0, s.1)

-- what follows a part of a list
abbrev pub then_rest : {A S T : Type 0} → A × S → (A → S → T) → T
then_rest x rest = rest x.0 x.1

-- the constants of a body in their order
unfoldable pub judge_constant_row : {m : _} → k.Row_of-Constant m → (before : Option (Option ℕ)) → JudgementState →
    JudgementState
judge_constant_row k.end_of-Constant before s = s
judge_constant_row (k.more_of-Constant at name value rest) before s =
    then_rest (judge_value_held at value before s)
    (λ v u. judge_constant_row rest (Some v) (constant_declared at name v u))
