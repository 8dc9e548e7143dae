-- What stars, lengths and lists of parameters make of a type, and what type names and parameters are (C99 6.7.5,
-- 6.7.6). `at` is the place of what is declared, or of the type name.
use Rattle.std.specs.Prelude.{ℕ, if◌then◌else◌, List, Option, Some, None}
use Rattle.std.specs.Option.{option_map}
use Rattle.c_typing_scopes.specs.Names.{find}
use Rattle.c_typing_rules.specs.declared.c_typing_declared_types.declared.DeclaredType.{DeclaredType}
use Rattle.c_typing_rules.specs.c_typing_declared_types.Declarators.{pointer_to, array_of, adjusted_parameter, function_of}
use Rattle.c_typing_rules.specs.c_typing_declared_types.Depth.{is_declarable, is_deep_at_most}
use Rattle.c_typed_tree.specs.Typing.{most_depth}
use Rattle.c_typed_tree.specs.declared.types.CType.{CType}
use Rattle.c_typing_faults.specs.declared.faults.Kind.{Kind}
use Rattle.c_typing_faults.specs.declared.faults.Kind.TheVariants.{Redeclared, BadType}
use Rattle.c_typing_rules.specs.declared.typed.TypedExpression.{TypedExpression}
use Rattle.c_typing_constants.specs.c_constant_rules.Values.{length_value}
use Rattle.c_typing_state.specs.declared.env.Env.{Env}
use Rattle.c_typing_state.specs.declared.meanings.NameMeaning.{NameMeaning}
use Rattle.c_typing_state.specs.declared.meanings.NameMeaning.TheVariants as m
use Rattle.c_typing_state.specs.declared.notes.Notes.{Notes}
use Rattle.c_typing_state.specs.Checks.{Check, pure, and_then, each, fault, note_fault}
use Rattle.c_typing_state.specs.Scopes.{with_meaning, stands_here}
use Rattle.c_typing_judgements.specs.Leaves.{no_type}

-- the names in scope, and what was noted
abbrev pub JudgementState : Type 0
JudgementState = Env × Notes

-- a judgement that declares nothing
abbrev pub in_env : {A : Type 0} → Env → A × Notes → A × JudgementState
in_env env x = (x.0, (env, x.1))

-- the type that there is
abbrev pub required_type : ℕ → Option DeclaredType → Check (Option DeclaredType)
required_type at None n = no_type at BadType n
required_type at (Some ty) n = (Some ty, n)

abbrev pub pointer : ℕ → DeclaredType → Check (Option DeclaredType)
pointer at target n = required_type at (pointer_to target) n

abbrev pub given_length : TypedExpression → Check (Option (Option ℕ))
given_length a n = and_then (note_fault (length_value a) n) (λ r. pure (option_map Some r))

abbrev pub array : ℕ → (length : Option ℕ) → DeclaredType → Check (Option DeclaredType)
array at count element n = required_type at (array_of n.structs element count) n

abbrev pub function : ℕ → (parameters : List CType) → (result : DeclaredType) → Check (Option DeclaredType)
function at parameters ty n = required_type at (function_of ty parameters) n

abbrev pub type_named : ℕ → DeclaredType → Check (Option DeclaredType)
type_named at ty n = if is_declarable n.structs ty then (Some ty, n) else no_type at BadType n

-- ---- parameters (6.7.5.3): an array becomes a pointer; a name is declared once in its list

abbrev pub no_parameter : ℕ → Kind → Check (Option CType)
no_parameter at kind = fault at kind

abbrev pub within_depth : ℕ → Option CType → Check (Option CType)
within_depth at None n = no_parameter at BadType n
within_depth at (Some ty) n =
    if is_deep_at_most n.structs most_depth ty then (Some ty, n) else no_parameter at BadType n

abbrev pub parameter_type : ℕ → DeclaredType → Check (Option CType)
parameter_type at ty n = within_depth at (adjusted_parameter ty) n

-- outside a definition a parameter has no number in a function
abbrev pub parameter_meaning : Option CType → NameMeaning
parameter_meaning None = m.Faulty
parameter_meaning (Some ty) = m.Local 0 ty

abbrev pub named_parameter : ℕ → List ℕ → Option CType → JudgementState → Option CType × JudgementState
named_parameter at name ty s =
    if stands_here s.0 (find name s.0.names) then in_env s.0 (no_parameter at Redeclared s.1)
    else (ty, (with_meaning name (parameter_meaning ty) s.0, s.1))

abbrev pub declared_parameter : ℕ → (name : Option (List ℕ)) → Option CType → JudgementState →
    Option CType × JudgementState
declared_parameter at None ty s = (ty, s)
declared_parameter at (Some name) ty s = named_parameter at name ty s

abbrev pub parameter_declared : ℕ → (name : Option (List ℕ)) → Option DeclaredType → JudgementState →
    Option CType × JudgementState
parameter_declared at name ty s =
    and_then (in_env s.0 (each ty (parameter_type at) s.1)) (λ r. declared_parameter at name r)
