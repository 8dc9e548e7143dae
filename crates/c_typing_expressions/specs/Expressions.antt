-- What expressions and type names are, with every fault that is in them (C99 6.5, 6.7.6). The parts are judged in the
-- order of the text; each form is judged where its parts are without fault.
use Rattle.std.specs.Prelude.{ℕ, List, [], Option, Some, None}
use Rattle.c_tree.specs.declared.expressions.Expr as e
use Rattle.c_tree.specs.declared.types.TypeNode as t
use Rattle.c_tree.specs.declared.types.TypeName.{TypeName}
use Rattle.c_tree.specs.declared.expressions.Expr.TheBlock as k
use Rattle.c_typing_rules.specs.declared.c_typing_declared_types.declared.DeclaredType.{DeclaredType}
use Rattle.c_typed_tree.specs.declared.types.CType.{CType}
use Rattle.c_typing_rules.specs.declared.typed.TypedExpression.{TypedExpression}
use Rattle.c_typing_primary_rules.specs.Primary.{integer_constant, character_constant}
use Rattle.c_typing_state.specs.Checks.{and_then, each, both_parts, note_fault, append_part}
use Rattle.c_typing_state.specs.Notes.{nothing_taken, rejoin}
use Rattle.c_typing_state.specs.Scopes.{enter, leave, meaning_of}
use Rattle.c_typing_judgements.specs.Operators.{apply_prefix, binary_check, assignment_check, subscript_check, choice_of_parts, cast_check, size_of_value, size_of_name, postfix_check, commas}
use Rattle.c_typing_judgements.specs.Texts.{string}
use Rattle.c_typing_judgements.specs.Names.{name_of}
use Rattle.c_typing_judgements.specs.Calls.{call_by_meaning}
use Rattle.c_typing_judgements.specs.Members.{field_named, arrow_named}
use Rattle.c_typing_judgements.specs.Leaves.{leaf}
use Rattle.c_typing_judgements.specs.Types.{JudgementState, in_env, pointer, given_length, array, function, type_named, parameter_declared}

unfoldable mutual
  pub judge : e.Expr → JudgementState → Option TypedExpression × JudgementState
  judge (e.Name at name) s = in_env s.0 (name_of at (meaning_of s.0 name) s.1)
  judge (e.Number at spelling) s = in_env s.0 (note_fault (integer_constant at spelling) s.1)
  judge (e.Character at spelling) s = in_env s.0 (note_fault (character_constant at spelling) s.1)
  judge (e.Text at spellings) s = in_env s.0 (string at spellings s.1)
  judge (e.Call' at name _ arguments) s =
      and_then (judge_row arguments (Some []) s) (λ vs u. in_env u.0 (call_by_meaning at (meaning_of u.0 name) vs u.1))
  judge (e.Unary' at op _ (k.more_of-Expr x k.end_of-Expr)) s =
      and_then (judge x s) (λ a u. in_env u.0 (each a (apply_prefix at op) u.1))
  judge (e.Binary' at op _ (k.more_of-Expr x k.end_of-Expr) _ (k.more_of-Expr y k.end_of-Expr)) s =
      and_then (judge x s) (λ a u. and_then (judge y u) (λ b v. in_env v.0 (both_parts a b (binary_check at op) v.1)))
  judge (e.Assign' at op _ (k.more_of-Expr x k.end_of-Expr) _ (k.more_of-Expr y k.end_of-Expr)) s =
      and_then (judge x s) (λ a u. and_then (judge y u)
      (λ b v. in_env v.0 (both_parts a b (assignment_check at op) v.1)))
  judge (e.Conditional' at _ (k.more_of-Expr x k.end_of-Expr) _ (k.more_of-Expr y k.end_of-Expr) _
      (k.more_of-Expr z k.end_of-Expr)) s =
      and_then (judge x s) (λ c u. and_then (judge y u) (λ a v. and_then (judge z v) (λ b w.
      in_env w.0 (choice_of_parts at c a b w.1))))
  judge (e.Cast' at _ (k.more_of-TypeName place ty k.end_of-TypeName) _ (k.more_of-Expr x k.end_of-Expr)) s =
      and_then (and_then (in_env s.0 (leaf s.0 place ty s.1)) (λ of u. and_then (derive place ty of u) (λ r v.
      in_env v.0 (each r (type_named place) v.1)))) (λ to w. and_then (judge x w) (λ a z.
      in_env z.0 (both_parts to a (cast_check at) z.1)))
  -- an operand that is not evaluated takes no memory
  judge (e.SizeOfValue' at _ (k.more_of-Expr x k.end_of-Expr)) s =
      and_then (judge x (s.0, nothing_taken s.1)) (λ a u.
      in_env u.0 (each a (size_of_value at) (rejoin s.1.addressed s.1.texts u.1)))
  judge (e.SizeOfType' at _ (k.more_of-TypeName place ty k.end_of-TypeName)) s =
      and_then (and_then (in_env s.0 (leaf s.0 place ty s.1)) (λ of u. and_then (derive place ty of u) (λ r v.
      in_env v.0 (each r (type_named place) v.1)))) (λ ty w. in_env w.0 (each ty (size_of_name at) w.1))
  judge (e.Index' at _ (k.more_of-Expr x k.end_of-Expr) _ (k.more_of-Expr y k.end_of-Expr)) s =
      and_then (judge x s) (λ a u. and_then (judge y u) (λ b v. in_env v.0 (both_parts a b (subscript_check at) v.1)))
  judge (e.Field' at _ (k.more_of-Expr x k.end_of-Expr) name) s =
      and_then (judge x s) (λ a u. in_env u.0 (each a (field_named at name) u.1))
  judge (e.Arrow' at _ (k.more_of-Expr x k.end_of-Expr) name) s =
      and_then (judge x s) (λ a u. in_env u.0 (each a (arrow_named at name) u.1))
  judge (e.Postfix' at op _ (k.more_of-Expr x k.end_of-Expr)) s =
      and_then (judge x s) (λ a u. in_env u.0 (each a (postfix_check at op) u.1))
  judge (e.Comma' at _ operands) s =
      and_then (judge_row operands (Some []) s) (λ vs u. in_env u.0 (commas at vs u.1))

  pub judge_row : {m : _} → k.Row_of-Expr m → Option (List TypedExpression) → JudgementState →
      Option (List TypedExpression) × JudgementState
  judge_row k.end_of-Expr found s = (found, s)
  judge_row (k.more_of-Expr x xs) found s = and_then (judge x s) (λ r. judge_row xs (append_part found r))

  -- what a declarator makes of the type that its specifier gives. The parts that stand first in the text are the outer
  -- ones: lengths and lists of parameters go before what they are of
  pub derive : ℕ → t.TypeNode → Option DeclaredType → JudgementState → Option DeclaredType × JudgementState
  derive at (t.Basic words) of s = (of, s)
  derive at (t.Named name) of s = (of, s)
  derive at (t.Enum' place tag constants) of s = (of, s)
  derive at (t.Struct' place tag members) of s = (of, s)
  derive at (t.Pointer' _ (k.more_of-TypeNode x k.end_of-TypeNode)) of s =
      and_then (derive at x of s) (λ ty u. in_env u.0 (each ty (pointer at) u.1))
  derive at (t.Array' _ (k.more_of-TypeNode x k.end_of-TypeNode) length) of s =
      and_then (judge_length_held length s) (λ count u. and_then (derive at x of u) (λ ty v.
      in_env v.0 (both_parts count ty (array at) v.1)))
  derive at (t.Takes' _ (k.more_of-TypeNode x k.end_of-TypeNode) _ list) of s =
      and_then (judge_parameter_row list (Some []) (enter s.0, s.1)) (λ found u.
      and_then (derive at x of (leave s.0.outside u.0, u.1))
      (λ ty v. in_env v.0 (both_parts found ty (function at) v.1)))

  pub judge_length_held : k.Held-TypeNode-Array-1 → JudgementState → Option (Option ℕ) × JudgementState
  judge_length_held k.TypeNode-Array-1-None' s = (Some None, s)
  judge_length_held (k.TypeNode-Array-1-Some' _ (k.more_of-Expr x k.end_of-Expr)) s =
      and_then (judge x s) (λ a u. in_env u.0 (each a given_length u.1))

  -- the parameters of a list, whose names are declared as they come
  pub judge_parameter_row : {m : _} → k.Row_of-Parameter m → Option (List CType) → JudgementState →
      Option (List CType) × JudgementState
  judge_parameter_row k.end_of-Parameter found s = (found, s)
  judge_parameter_row (k.more_of-Parameter at name ty rest) found s =
      and_then (and_then (in_env s.0 (leaf s.0 at ty s.1)) (λ of u. and_then (derive at ty of u) (λ r.
      parameter_declared at name r))) (λ r. judge_parameter_row rest (append_part found r))

-- a type name: the type of its specifier, and what its declarator makes of it
abbrev pub judge_type_name : TypeName → JudgementState → Option DeclaredType × JudgementState
judge_type_name name s =
    and_then (in_env s.0 (leaf s.0 name.at name.ty s.1)) (λ of u. and_then (derive name.at name.ty of u) (λ r v.
    in_env v.0 (each r (type_named name.at) v.1)))
