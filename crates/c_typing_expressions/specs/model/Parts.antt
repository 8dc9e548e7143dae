-- The parts of types, as records and options that code sees.
use Rattle.std.specs.Prelude.{ℕ, Option, Some, None}
use Rattle.c_tree.specs.declared.expressions.Expr as e
use Rattle.c_tree.specs.declared.types.Parameter.{Parameter}
use Rattle.c_typed_tree.specs.declared.types.CType.{CType}
use Rattle.c_typing_state.specs.Checks.{and_then, each}
use Rattle.c_typing_judgements.specs.Leaves.{leaf}
use Rattle.c_typing_judgements.specs.Types.{JudgementState, in_env, given_length, parameter_declared}
use Rattle.c_typing_expressions.specs.Expressions.{judge, derive}

abbrev pub one_parameter : Parameter → JudgementState → Option CType × JudgementState
one_parameter p s =
    and_then (in_env s.0 (leaf s.0 p.at p.ty s.1))
    (λ of u. and_then (derive p.at p.ty of u) (λ r. parameter_declared p.at p.name r))

abbrev pub optional_length : Option e.Expr → JudgementState → Option (Option ℕ) × JudgementState
optional_length None s = (Some None, s)
optional_length (Some x) s = and_then (judge x s) (λ a u. in_env u.0 (each a given_length u.1))
