-- The parts of a list that code sees are those of the row that the definitions go over.
use Rattle.std.proofs.Common.{◌≡◌, ℕ, List, [], Option, Some, None, refl, ap, ◌∙◌}
use mathlib.Core.Former.{Count}
use Rattle.c_tree.specs.declared.expressions.Expr as e
use Rattle.c_tree.specs.declared.types.TypeNode as t
use Rattle.c_tree.specs.declared.types.Parameter.{Parameter}
use Rattle.c_tree.specs.declared.expressions.Expr.TheBlock as k
use Rattle.c_typing_rules.specs.declared.c_typing_declared_types.declared.DeclaredType.{DeclaredType}
use Rattle.c_typed_tree.specs.declared.types.CType.{CType}
use Rattle.c_typing_rules.specs.declared.typed.TypedExpression.{TypedExpression}
use Rattle.c_typing_state.specs.Checks.{and_then, both_parts, walk, append_part}
use Rattle.c_typing_state.specs.Scopes.{enter, leave, meaning_of}
use Rattle.c_typing_judgements.specs.Operators.{commas}
use Rattle.c_typing_judgements.specs.Calls.{call_by_meaning}
use Rattle.c_typing_judgements.specs.Types.{JudgementState, in_env, array, function}
use Rattle.c_typing_expressions.specs.Expressions.{judge, judge_row, derive, judge_parameter_row}
use Rattle.c_typing_expressions.specs.model.Parts.{one_parameter, optional_length}
use Rattle.c_typing_expressions.specs.model.Opens.{opens}

judge_row_is : (m : Count) (xs : k.Row_of-Expr m) (found : Option (List TypedExpression)) (s : JudgementState) → judge_row xs found s ≡ walk judge (k.items-the_row-Expr m xs) found s
unfolding judge
judge_row_is m k.end_of-Expr found s = refl
judge_row_is m (k.more_of-Expr x xs) found s = judge_row_is _ xs (append_part found (judge x s).0) (judge x s).1

pub judge_row-hidden : (xs : List e.Expr) (found : Option (List TypedExpression)) (s : JudgementState) → judge_row (k.hidden-the_row-Expr-0 xs) found s ≡ walk judge xs found s
judge_row-hidden xs found s = judge_row_is _ (k.hidden-the_row-Expr-0 xs) found s ∙ ap (λ l. walk judge l found s) (k.items_hidden-the_row-Expr-0 xs)

parameter_row_is : (m : Count) (xs : k.Row_of-Parameter m) (found : Option (List CType)) (s : JudgementState) → judge_parameter_row xs found s ≡ walk one_parameter (k.items-the_row-Parameter m xs) found s
unfolding judge
parameter_row_is m k.end_of-Parameter found s = refl
parameter_row_is m (k.more_of-Parameter at name ty rest) found s =
    parameter_row_is _ rest (append_part found (one_parameter (record { at = at; name = name; ty = ty }) s).0) (one_parameter (record { at = at; name = name; ty = ty }) s).1

pub parameter_row-hidden : (xs : List Parameter) (found : Option (List CType)) (s : JudgementState) → judge_parameter_row (k.hidden-the_row-Parameter-6 xs) found s ≡ walk one_parameter xs found s
parameter_row-hidden xs found s = parameter_row_is _ (k.hidden-the_row-Parameter-6 xs) found s ∙ ap (λ l. walk one_parameter l found s) (k.items_hidden-the_row-Parameter-6 xs)

-- ---- forms with lists, as code sees them

pub judge-Call : (at : ℕ) (name : List ℕ) (xs : List e.Expr) (s : JudgementState)
    → judge (e.Call at name xs) s ≡ and_then (walk judge xs (Some []) s) (λ vs u. in_env u.0 (call_by_meaning at (meaning_of u.0 name) vs u.1))
unfolding opens
judge-Call at name xs s = ap (λ q. and_then q (λ vs (u : JudgementState). in_env u.0 (call_by_meaning at (meaning_of u.0 name) vs u.1))) (judge_row-hidden xs (Some []) s)

pub judge-Comma : (at : ℕ) (xs : List e.Expr) (s : JudgementState) → judge (e.Comma at xs) s ≡ and_then (walk judge xs (Some []) s) (λ vs u. in_env u.0 (commas at vs u.1))
unfolding opens
judge-Comma at xs s = ap (λ q. and_then q (λ vs (u : JudgementState). in_env u.0 (commas at vs u.1))) (judge_row-hidden xs (Some []) s)

pub derive-Array : (at : ℕ) (x : t.TypeNode) (length : Option e.Expr) (of : Option DeclaredType) (s : JudgementState)
    → derive at (t.Array x length) of s ≡ and_then (optional_length length s) (λ count u. and_then (derive at x of u) (λ ty v. in_env v.0 (both_parts count ty (array at) v.1)))
unfolding opens
derive-Array at x None of s = refl
derive-Array at x (Some y) of s = refl

pub derive-Takes : (at : ℕ) (x : t.TypeNode) (list : List Parameter) (of : Option DeclaredType) (s : JudgementState)
    → derive at (t.Takes x list) of s ≡ and_then (walk one_parameter list (Some []) (enter s.0, s.1)) (λ found u. and_then (derive at x of (leave s.0.outside u.0, u.1)) (λ ty v. in_env v.0 (both_parts found ty (function at) v.1)))
unfolding opens
derive-Takes at x list of s =
    ap (λ q. and_then q (λ found (u : JudgementState). and_then (derive at x of (leave s.0.outside u.0, u.1)) (λ ty v. in_env v.0 (both_parts found ty (function at) v.1)))) (parameter_row-hidden list (Some []) (enter s.0, s.1))

pub ruleset rows = (judge-Call, judge-Comma, derive-Array, derive-Takes)
