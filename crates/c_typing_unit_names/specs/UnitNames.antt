-- Names that are declared at file scope, but for enumeration constants (C99 6.2.7, 6.7, 6.9).
use Rattle.std.specs.Prelude.{ℕ, ◌+◌, if◌then◌else◌, Bool, true, false, not, ◌&&◌, ◌||◌, List, [], ◌∷◌, Option, Some, None}
use Rattle.std.specs.Bool.{beq}
use Rattle.c_typing_scopes.specs.Names.{find}
use Rattle.c_typing_rules.specs.declared.c_typing_declared_types.declared.DeclaredType.{DeclaredType}
use Rattle.c_typing_rules.specs.declared.c_typing_declared_types.declared.DeclaredType.TheVariants as d
use Rattle.c_typing_definitions.specs.declared.names.Definitions.{Definitions}
use Rattle.c_typed_tree.specs.declared.types.CType.{CType}
use Rattle.c_typed_tree.specs.declared.expressions.Callee.TheVariants as c
use Rattle.c_typing_faults.specs.declared.faults.Kind.TheVariants.{Redeclared}
use Rattle.c_typing_rules.specs.Values.{is_same}
use Rattle.std.specs.Prelude.{is_some}
use Rattle.c_typing_state.specs.declared.meanings.NameMeaning.{NameMeaning}
use Rattle.c_typing_state.specs.declared.meanings.NameMeaning.TheVariants as m
use Rattle.c_typing_state.specs.declared.env.Env.{Env}
use Rattle.c_typing_state.specs.declared.notes.Notes.{Notes}
use Rattle.c_typing_state.specs.Notes.{with_fault}
use Rattle.c_typing_state.specs.Scopes.{with_meaning, meaning_of}
use Rattle.c_typing_judgements.specs.Types.{JudgementState}
use Rattle.c_typing_unit_names.specs.declared.names.NameDeclaration.{NameDeclaration}
use Rattle.c_typing_unit_names.specs.declared.names.UnitNames.{UnitNames}
use Rattle.c_typing_unit_names.specs.declared.names.PriorMeaning.{PriorMeaning}
use Rattle.c_typing_unit_names.specs.declared.names.PriorMeaning.TheVariants as g
use Rattle.c_typing_state.specs.Checks.{and_then}

-- ---- a name that is declared again

abbrev pub are_same : List CType → List CType → Bool
are_same [] [] = true
are_same [] (y ∷ ys) = false
are_same (x ∷ xs) [] = false
are_same (x ∷ xs) (y ∷ ys) = is_same x y && are_same xs ys

abbrev pub is_same_declared : DeclaredType → DeclaredType → Bool
is_same_declared (d.Value a) (d.Value b) = is_same a b
is_same_declared (d.Value a) (d.Unsized b) = false
is_same_declared (d.Value a) (d.Function b ys) = false
is_same_declared (d.Unsized a) (d.Value b) = false
is_same_declared (d.Unsized a) (d.Unsized b) = is_same a b
is_same_declared (d.Unsized a) (d.Function b ys) = false
is_same_declared (d.Function a xs) (d.Value b) = false
is_same_declared (d.Function a xs) (d.Unsized b) = false
is_same_declared (d.Function a xs) (d.Function b ys) = is_same a b && are_same xs ys

-- of one kind and type, with one initialiser or body at most
abbrev pub may_follow : (before behind : NameDeclaration) → Bool
may_follow a b =
    beq a.is_typedef b.is_typedef && is_same_declared a.ty b.ty && not (a.has_value && b.has_value)

-- ---- a name that is declared first: what is defined has the next number of its kind, and so has what is not

abbrev pub with_counts : (functions objects undefined : ℕ) → UnitNames → UnitNames
with_counts functions objects undefined u =
    record { declared = u.declared; functions = functions; objects = objects; undefined = undefined }

abbrev pub undefined_name : UnitNames → NameMeaning × UnitNames
undefined_name u = (m.Undefined u.undefined, with_counts u.functions u.objects (u.undefined + 1) u)

abbrev pub object_name : (defined : Bool) → CType → UnitNames → NameMeaning × UnitNames
object_name false ty u = undefined_name u
object_name true ty u = (m.Object u.objects ty, with_counts u.functions (u.objects + 1) u.undefined u)

abbrev pub function_name : (defined : Bool) → CType → List CType → UnitNames → NameMeaning × UnitNames
function_name false ty parameters u = undefined_name u
function_name true ty parameters u =
    (m.Function (c.Function u.functions) ty parameters, with_counts (u.functions + 1) u.objects u.undefined u)

-- an array has a length once it is an object
abbrev pub value_name : Definitions → List ℕ → DeclaredType → UnitNames → NameMeaning × UnitNames
value_name ds name (d.Value ty) u = object_name (is_some (find name ds.objects)) ty u
value_name ds name (d.Unsized element) u = (m.Faulty, u)
value_name ds name (d.Function ty parameters) u =
    function_name (is_some (find name ds.functions)) ty parameters u

abbrev pub first_meaning : Definitions → List ℕ → NameDeclaration → UnitNames → NameMeaning × UnitNames
first_meaning ds name new u =
    if new.is_typedef then (m.Typedef new.ty, u) else value_name ds name new.ty u

abbrev pub with_declared : List ℕ → NameDeclaration → UnitNames → UnitNames
with_declared name new u = record {
  declared = record { name = name; value = new } ∷ u.declared;
  functions = u.functions;
  objects = u.objects;
  undefined = u.undefined;
}

abbrev pub named_first : Definitions → List ℕ → NameDeclaration → UnitNames → Env → UnitNames × Env
named_first ds name new u env =
    and_then (first_meaning ds name new u) (λ meaning v. (with_declared name new v, with_meaning name meaning env))

-- ---- what stands there already

abbrev pub meaning_before : Option NameMeaning → PriorMeaning
meaning_before None = g.Nothing
meaning_before (Some m.Faulty) = g.Faulty
meaning_before (Some (m.Undefined number)) = g.Other
meaning_before (Some (m.Local number ty)) = g.Other
meaning_before (Some (m.Object number ty)) = g.Other
meaning_before (Some (m.Constant word)) = g.Other
meaning_before (Some (m.Function callee ty parameters)) = g.Other
meaning_before (Some (m.Typedef ty)) = g.Other

abbrev pub redeclare : ℕ → UnitNames → JudgementState → UnitNames × JudgementState
redeclare at u s = (u, (s.0, with_fault at Redeclared s.1))

abbrev pub notes_beside : UnitNames × Env → Notes → UnitNames × JudgementState
notes_beside r n = (r.0, (r.1, n))

-- behind a declaration with a fault nothing is judged; every other name that stands there is an enumeration constant
abbrev pub first_by : PriorMeaning → Definitions → ℕ → List ℕ → NameDeclaration → UnitNames → JudgementState →
    UnitNames × JudgementState
first_by g.Nothing ds at name new u s = notes_beside (named_first ds name new u s.0) s.1
first_by g.Faulty ds at name new u s = (u, s)
first_by g.Other ds at name new u s = redeclare at u s

abbrev pub first_declared : Definitions → ℕ → List ℕ → NameDeclaration → UnitNames → JudgementState →
    UnitNames × JudgementState
first_declared ds at name new u s = first_by (meaning_before (meaning_of s.0 name)) ds at name new u s

-- whether a declaration may follow what was declared of the name, and whether it has a value then
abbrev pub follows : Option (ℕ × NameDeclaration) → NameDeclaration → Option (Option Bool)
follows None new = None
follows (Some old) new =
    if may_follow old.1 new then Some (Some (old.1.has_value || new.has_value)) else Some None

abbrev pub with_value : Bool → NameDeclaration → NameDeclaration
with_value has_value new = record { is_typedef = new.is_typedef; ty = new.ty; has_value = has_value }

abbrev pub known_by :
    Option (Option Bool) → Definitions → ℕ → List ℕ → NameDeclaration → UnitNames → JudgementState →
    UnitNames × JudgementState
known_by None ds at name new u s = first_declared ds at name new u s
known_by (Some None) ds at name new u s = redeclare at u s
known_by (Some (Some has_value)) ds at name new u s = (with_declared name (with_value has_value new) u, s)

abbrev pub known_declared : Definitions → ℕ → List ℕ → NameDeclaration → UnitNames → JudgementState →
    UnitNames × JudgementState
known_declared ds at name new u s = known_by (follows (find name u.declared) new) ds at name new u s

abbrev pub faulty_by : PriorMeaning → List ℕ → Env → Env
faulty_by g.Nothing name env = with_meaning name m.Faulty env
faulty_by g.Faulty name env = env
faulty_by g.Other name env = env

abbrev pub faulty_name : List ℕ → Env → Env
faulty_name name env = faulty_by (meaning_before (meaning_of env name)) name env

-- a declaration at file scope, or one that has a fault
abbrev pub judge_declaration : Definitions → ℕ → List ℕ → Option NameDeclaration → UnitNames → JudgementState →
    UnitNames × JudgementState
judge_declaration ds at name None u s = (u, (faulty_name name s.0, s.1))
judge_declaration ds at name (Some new) u s = known_declared ds at name new u s
