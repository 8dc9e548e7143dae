-- The parts of statements that are no statements (C99 6.7, 6.8): expressions, locals with their initialisers, and
-- labels.
use Rattle.std.specs.Prelude.{ℕ, [], Option, Some, None}
use Rattle.std.specs.Option.{option_map}
use Rattle.bk_arithmetic.specs.declared.integer_type.IntegerType.{IntegerType}
use Rattle.c_tree.specs.declared.expressions.Expr.{Expr}
use Rattle.c_tree.specs.declared.types.TypeNode.{TypeNode}
use Rattle.c_tree.specs.declared.statements.LocalDeclarator.{LocalDeclarator}
use Rattle.c_tree.specs.declared.statements.ForFirst.{ForFirst}
use Rattle.c_tree.specs.declared.statements.ForFirst.TheVariants as g
use Rattle.c_tree.specs.declared.statements.Label.{Label}
use Rattle.c_tree.specs.declared.statements.Label.TheVariants as l
use Rattle.c_typing_rules.specs.declared.c_typing_declared_types.declared.DeclaredType.{DeclaredType}
use Rattle.c_typed_tree.specs.declared.types.CType.{CType}
use Rattle.c_typed_tree.specs.declared.expressions.TExpr.{TExpr}
use Rattle.c_typed_tree.specs.declared.statements.TStmt.{TStmt}
use Rattle.c_typed_tree.specs.declared.statements.TLabel.{TLabel}
use Rattle.c_typed_tree.specs.declared.statements.TLocal.{TLocal}
use Rattle.c_typed_tree.specs.declared.statements.TFirst.{TFirst}
use Rattle.c_typed_tree.specs.declared.statements.TFirst.TheVariants as f
use Rattle.c_typing_primary_rules.specs.declared.switches.SwitchValue.{SwitchValue}
use Rattle.c_typing_state.specs.declared.env.Env.{Env}
use Rattle.c_typing_state.specs.Checks.{pure, and_then, each, both_parts, walk}
use Rattle.c_typing_judgements.specs.Leaves.{leaf}
use Rattle.c_typing_judgements.specs.Types.{JudgementState, in_env}
use Rattle.c_typing_expressions.specs.Expressions.{judge, derive}
use Rattle.c_typing_statement_rules.specs.declared.labels.Labels.{Labels}
use Rattle.c_typing_statement_parts.specs.declared.c_typing_local_rules.locals.NewLocal.{NewLocal}
use Rattle.c_typing_statement_rules.specs.Values.{condition_check, switch_check, full_expression, return_value, return_nothing}
use Rattle.c_typing_statement_rules.specs.Labels.{LabelState, beside_labels, case_label, default_label}
use Rattle.c_typing_statement_parts.specs.c_typing_local_rules.Locals.{BodyState, locals_beside, in_body, local_declared, local_with_value, without_initialiser}
use Rattle.c_typing_statement_rules.specs.Forms.{some_part, first_value, first_locals}

-- ---- expressions

abbrev pub condition_of : Expr → JudgementState → Option TExpr × JudgementState
condition_of x s = and_then (judge x s) (λ a u. in_env u.0 (each a condition_check u.1))

abbrev pub full_value : Expr → JudgementState → Option TExpr × JudgementState
full_value x s = and_then (judge x s) (λ a. pure (option_map full_expression a))

abbrev pub operand_of : Expr → JudgementState → Option SwitchValue × JudgementState
operand_of x s = and_then (judge x s) (λ a u. in_env u.0 (each a switch_check u.1))

abbrev pub optional_condition : Option Expr → JudgementState → Option (Option TExpr) × JudgementState
optional_condition None s = (Some None, s)
optional_condition (Some x) s = and_then (condition_of x s) (λ c. pure (some_part c))

abbrev pub optional_value : Option Expr → JudgementState → Option (Option TExpr) × JudgementState
optional_value None s = (Some None, s)
optional_value (Some x) s = and_then (full_value x s) (λ v. pure (some_part v))

-- in a function of which the result has a type
abbrev pub return_statement : Option CType → ℕ → Option Expr → JudgementState → Option TStmt × JudgementState
return_statement of at None s = in_env s.0 (each of (return_nothing at) s.1)
return_statement of at (Some x) s = and_then (judge x s) (λ a u. in_env u.0 (both_parts of a (return_value at) u.1))

-- ---- locals. A specifier in a function has no body (6.7.2), and a name is in scope in its own initialiser (6.2.1)

abbrev pub judge_type : ℕ → TypeNode → JudgementState → Option DeclaredType × JudgementState
judge_type at ty s = and_then (in_env s.0 (leaf s.0 at ty s.1)) (λ of. derive at ty of)

abbrev pub initialiser_of : Option NewLocal → Option Expr → BodyState → Option TLocal × BodyState
initialiser_of new None s = (option_map without_initialiser new, s)
initialiser_of new (Some x) s =
    and_then (locals_beside s.0 (judge x s.1)) (λ a u. in_body u (both_parts new a local_with_value u.1.1))

abbrev pub local_of : LocalDeclarator → BodyState → Option TLocal × BodyState
local_of d s =
    and_then (locals_beside s.0 (judge_type d.declaration.at d.declaration.ty s.1)) (λ ty u.
    and_then (local_declared d.declaration.at d.declaration.name ty u) (λ new. initialiser_of new d.init))

abbrev pub first_of : ForFirst → BodyState → Option TFirst × BodyState
first_of g.Nothing s = (Some f.Nothing, s)
first_of (g.Value x) s = locals_beside s.0 (and_then (full_value x s.1) (λ v. pure (first_value v)))
first_of (g.Locals ds) s = and_then (walk local_of ds (Some []) s) (λ vs. pure (first_locals vs))

-- ---- labels, with those that stand before in the same `switch`

abbrev pub with_env : {A : Type 0} → Env → A × LabelState → A × (Labels × JudgementState)
with_env env x = (x.0, (x.1.0, (env, x.1.1)))

abbrev pub label_of : Option IntegerType → Label → Labels × JudgementState → Option TLabel × (Labels × JudgementState)
label_of ty (l.Case at x) s =
    and_then (beside_labels s.0 (judge x s.1)) (λ a u. with_env u.1.0 (each a (case_label ty at) (u.0, u.1.1)))
label_of ty (l.Default at) s = with_env s.1.0 (default_label at (s.0, s.1.1))
