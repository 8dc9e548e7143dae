-- The body of a function (C99 6.9.1). Parameters and the outermost block are one scope. Where the declarator has no
-- fault the parameters have the types that it gives; else they are judged once more there, and what the declarator has
-- noted of them is noted at the same places.
use Rattle.std.specs.Prelude.{ℕ, ◌&&◌, Bool, true, false, List, [], ◌∷◌, Option, Some, None, length, is_some}
use Rattle.c_tree.specs.declared.types.TypeNode as n
use Rattle.c_tree.specs.declared.types.Declaration.{Declaration}
use Rattle.c_tree.specs.declared.types.Parameter.{Parameter}
use Rattle.c_tree.specs.declared.expressions.Expr.TheBlock as k
use Rattle.c_tree.specs.declared.statements.Stmt.{Stmt}
use Rattle.c_typed_tree.specs.declared.types.CType.{CType}
use Rattle.c_typed_tree.specs.declared.statements.TStmt as t
use Rattle.c_typed_tree.specs.declared.units.Local.{Local}
use Rattle.c_typed_tree.specs.declared.units.TypedFn.{TypedFn}
use Rattle.c_typing_state.specs.declared.notes.Notes.{Notes}
use Rattle.c_typing_state.specs.Checks.{and_then, walk}
use Rattle.c_typing_state.specs.Notes.{with_taken}
use Rattle.c_typing_state.specs.Scopes.{enter, leave}
use Rattle.c_typing_judgements.specs.Types.{JudgementState}
use Rattle.c_typing_statement_parts.specs.declared.c_typing_local_rules.locals.NewLocal.{NewLocal}
use Rattle.c_typing_statement_rules.specs.Jumps.{no_jumps}
use Rattle.c_typing_statement_parts.specs.c_typing_local_rules.Locals.{BodyState, locals_beside, parameter_named, parameter_declared, with_addressed}
use Rattle.c_typing_statements.specs.declared.c_typing_function_bodies.functions.FunctionType.{FunctionType}
use Rattle.c_typing_statement_parts.specs.Parts.{judge_type}
use Rattle.c_typing_statements.specs.Statements.{statement}

-- ---- parameters

-- those of a declarator of a function
unfoldable pub parameters_of : n.TypeNode → List Parameter
parameters_of (n.Basic words) = []
parameters_of (n.Named name) = []
parameters_of (n.Enum' at tag constants) = []
parameters_of (n.Struct' at tag members) = []
parameters_of (n.Pointer' _ target) = []
parameters_of (n.Array' _ element length) = []
parameters_of (n.Takes' _ result _ list) = k.items-the_row-Parameter _ list

abbrev pub judge_parameter : Parameter → BodyState → Option NewLocal × BodyState
judge_parameter p s = and_then (locals_beside s.0 (judge_type p.at p.ty s.1)) (λ ty. parameter_declared p.at p.name ty)

-- whether none has a fault
abbrev pub parameters : List Parameter → (sound : Bool) → BodyState → Bool × BodyState
parameters [] sound s = (sound, s)
parameters (p ∷ ps) sound s = and_then (judge_parameter p s) (λ r. parameters ps (sound && is_some r))

-- whether none has a fault, and each has its type
abbrev pub typed_parameters : List Parameter → List CType → (sound : Bool) → BodyState → Bool × BodyState
typed_parameters [] [] sound s = (sound, s)
typed_parameters [] (ty ∷ tys) sound s = (false, s)
typed_parameters (p ∷ ps) [] sound s = (false, s)
typed_parameters (p ∷ ps) (ty ∷ tys) sound s =
    and_then (parameter_named p.at p.name (Some ty) s) (λ r. typed_parameters ps tys (sound && is_some r))

abbrev pub declared_parameters : Option FunctionType → List Parameter → BodyState → Bool × BodyState
declared_parameters None ps s = parameters ps true s
declared_parameters (Some of) ps s = typed_parameters ps of.parameters true s

abbrev pub result_of : Option FunctionType → Option CType
result_of None = None
result_of (Some of) = Some of.result

-- ---- the function, where nothing in it has a fault

abbrev pub typed_body : List ℕ → CType → (params : ℕ) → List Local → Option (List t.TStmt) → Option TypedFn
typed_body name ty params ls None = None
typed_body name ty params ls (Some list) =
    Some (record { name = name; result = ty; params = params; locals = ls; body = t.Block list })

abbrev pub typed_function :
    List ℕ → Option CType → (sound : Bool) → (params : ℕ) → List Local → Option (List t.TStmt) → Option TypedFn
typed_function name None sound params ls list = None
typed_function name (Some ty) false params ls list = None
typed_function name (Some ty) true params ls list = typed_body name ty params ls list

abbrev pub without_addresses : Notes → Notes
without_addresses n = with_taken [] n.texts n

-- the locals whose address was taken are objects of memory
abbrev pub judge_function : Declaration → Option FunctionType → List Stmt → JudgementState →
    Option TypedFn × JudgementState
judge_function d of list s =
    and_then (declared_parameters of (parameters_of d.ty) ([], (enter s.0, s.1))) (λ sound u.
    and_then (walk (statement (result_of of) no_jumps) list (Some []) u) (λ found v. (
      typed_function d.name (result_of of) sound (length u.0) (with_addressed v.1.1.addressed v.0) found,
      (leave s.0.outside v.1.0, without_addresses v.1.1),
    )))
