-- Locals and parameters (C99 6.2.1, 6.7, 6.7.8): each has the next number of its function, and is an object of memory
-- where it is no scalar, or where its address is taken.
use Rattle.std.specs.Prelude.{ℕ, if◌then◌else◌, true, not, List, [], ◌∷◌, ◌++◌, Option, Some, None, length, slice_get, slice_set}
use Rattle.std.specs.Option.{option_map}
use Rattle.c_typing_scopes.specs.Names.{find}
use Rattle.c_typing_rules.specs.declared.c_typing_declared_types.declared.DeclaredType.{DeclaredType}
use Rattle.c_typed_tree.specs.declared.types.CType.{CType}
use Rattle.c_typed_tree.specs.declared.expressions.TExpr.{TExpr}
use Rattle.c_typed_tree.specs.declared.statements.TLocal.{TLocal}
use Rattle.c_typed_tree.specs.declared.units.Local.{Local}
use Rattle.c_typed_tree.specs.Typing.{is_array, is_scalar}
use Rattle.c_typed_tree.specs.View.{type_view}
use Rattle.c_typing_faults.specs.declared.faults.Kind.TheVariants.{BadType, BadInit, Redeclared}
use Rattle.c_typing_rules.specs.declared.typed.TypedExpression.{TypedExpression}
use Rattle.c_typing_judgements.specs.c_typing_operators.Null.{take_value}
use Rattle.c_typing_state.specs.declared.env.Env.{Env}
use Rattle.c_typing_state.specs.declared.meanings.NameMeaning.TheVariants as m
use Rattle.c_typing_state.specs.declared.notes.Notes.{Notes}
use Rattle.c_typing_state.specs.Checks.{Check, pure, and_then, each, fault, note_fault}
use Rattle.c_typing_state.specs.Notes.{with_fault}
use Rattle.c_typing_state.specs.Scopes.{with_meaning, stands_here}
use Rattle.c_typing_judgements.specs.Types.{JudgementState, in_env, parameter_type}
use Rattle.c_typing_statement_parts.specs.declared.c_typing_local_rules.locals.NewLocal.{NewLocal}
use Rattle.c_typing_statement_parts.specs.c_typing_local_rules.Objects.{object_type}

-- the locals of the function, the names in scope, and what was noted
abbrev pub BodyState : Type 0
BodyState = List Local × JudgementState

-- a judgement that declares no local
abbrev pub locals_beside : {A : Type 0} → List Local → A × JudgementState → A × BodyState
locals_beside ls x = (x.0, (ls, x.1))

-- a judgement that declares nothing
abbrev pub in_body : {A : Type 0} → BodyState → A × Notes → A × BodyState
in_body s x = locals_beside s.0 (in_env s.1.0 x)

-- ---- a name that is declared

abbrev pub new_local : List ℕ → CType → List Local × Env → Option NewLocal × (List Local × Env)
new_local name ty s = (
  Some (record { number = length s.0; ty = ty }),
  (
    s.0 ++ record { ty = ty; in_memory = not (is_scalar (type_view ty)) } ∷ [],
    with_meaning name (m.Local (length s.0) ty) s.1,
  ),
)

-- nothing is judged of a name whose declaration has a fault
abbrev pub local_of_type : List ℕ → Option CType → List Local × Env → Option NewLocal × (List Local × Env)
local_of_type name None s = (None, (s.0, with_meaning name m.Faulty s.1))
local_of_type name (Some ty) s = new_local name ty s

abbrev pub with_notes : {A : Type 0} → Notes → A × (List Local × Env) → A × BodyState
with_notes n x = (x.0, (x.1.0, (x.1.1, n)))

-- a name is declared once in its scope
abbrev pub local_named : ℕ → List ℕ → Option CType → BodyState → Option NewLocal × BodyState
local_named at name ty s =
    if stands_here s.1.0 (find name s.1.0.names) then (None, (s.0, (s.1.0, with_fault at Redeclared s.1.1)))
    else with_notes s.1.1 (local_of_type name ty (s.0, s.1.0))

-- ---- locals of blocks, and parameters of a definition, which have names (6.9.1)

abbrev pub local_declared : ℕ → List ℕ → Option DeclaredType → BodyState → Option NewLocal × BodyState
local_declared at name ty s =
    and_then (in_body s (each ty (object_type at) s.1.1)) (λ r. local_named at name r)

abbrev pub nameless_local : ℕ → CType → Check (Option NewLocal)
nameless_local at ty = fault at BadType

abbrev pub parameter_named : ℕ → (name : Option (List ℕ)) → Option CType → BodyState → Option NewLocal × BodyState
parameter_named at None ty s = in_body s (each ty (nameless_local at) s.1.1)
parameter_named at (Some name) ty s = local_named at name ty s

abbrev pub parameter_declared : ℕ → (name : Option (List ℕ)) → Option DeclaredType → BodyState →
    Option NewLocal × BodyState
parameter_declared at name ty s =
    and_then (in_body s (each ty (parameter_type at) s.1.1)) (λ r. parameter_named at name r)

-- ---- initialisers of locals, which are expressions: a local array has none

abbrev pub no_initialiser : ℕ → Check (Option TExpr)
no_initialiser at = fault at BadInit

abbrev pub initialiser : CType → TypedExpression → Check (Option TExpr)
initialiser ty a n = if is_array (type_view ty) then no_initialiser a.at n else note_fault (take_value ty a) n

abbrev pub with_initialiser : (number : ℕ) → TExpr → TLocal
with_initialiser number value = record { number = number; init = Some value }

abbrev pub local_with_value : NewLocal → TypedExpression → Check (Option TLocal)
local_with_value new a n = and_then (initialiser new.ty a n) (λ r. pure (option_map (with_initialiser new.number) r))

abbrev pub without_initialiser : NewLocal → TLocal
without_initialiser new = record { number = new.number; init = None }

-- ---- the locals whose address was taken

abbrev pub memory_local_at : (number : ℕ) → Option Local → List Local → List Local
memory_local_at number None ls = ls
memory_local_at number (Some l) ls = slice_set ls number (record { ty = l.ty; in_memory = true })

abbrev pub put_in_memory : (number : ℕ) → List Local → List Local
put_in_memory number ls = memory_local_at number (slice_get ls number) ls

abbrev pub with_addressed : (numbers : List ℕ) → List Local → List Local
with_addressed [] ls = ls
with_addressed (n ∷ ns) ls = with_addressed ns (put_in_memory n ls)
