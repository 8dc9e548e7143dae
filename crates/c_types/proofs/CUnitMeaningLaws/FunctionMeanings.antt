-- A name that was declared as a function, and that the unit defines as one, means a function.
use Rattle.std.proofs.Common.{◌≡◌, ℕ, Bool, true, false, not, ◌&&◌, ◌||◌, IsTrue, List, Option, Some, None, is_some, refl, sym, ap, ◌∙◌, subst, if◌then◌else◌}
use Rattle.std.specs.Bool.{beq}
use Rattle.c_tree.specs.declared.declarations.External.{External}
use Rattle.c_typing_scopes.specs.Names.{find}
use Rattle.c_typing_definitions.specs.declared.names.Definitions.{Definitions}
use Rattle.c_typing_rules.specs.declared.c_typing_declared_types.declared.DeclaredType.{DeclaredType}
use Rattle.c_typing_rules.specs.declared.c_typing_declared_types.declared.DeclaredType.TheVariants as d
use Rattle.c_typed_tree.specs.declared.types.CType.{CType}
use Rattle.c_typing_state.specs.declared.env.Env.{Env}
use Rattle.c_typing_state.specs.declared.meanings.NameMeaning.{NameMeaning}
use Rattle.c_typing_state.specs.declared.meanings.NameMeaning.TheVariants as m
use Rattle.c_typing_state.specs.Scopes.{with_meaning, meaning_of}
use Rattle.c_typing_unit_names.specs.declared.names.NameDeclaration.{NameDeclaration}
use Rattle.c_typing_unit_names.specs.declared.names.UnitNames.{UnitNames}
use Rattle.c_typing_unit_names.specs.UnitNames.{is_same_declared, may_follow, function_name, first_meaning, with_declared, with_value, value_name}
use Rattle.c_typing_declarations.specs.Walk.{UnitWalk, with_names, add_object}
use Rattle.c_typing_declarations.specs.Functions.{main_seen, function_declared}
use Rattle.c_typing_declarations.specs.Objects.{object_declared}
use Rattle.c_typing_units.specs.Externals.{typedef_of}
use Rattle.c_typing_expression_sound.proofs.CTypeLaws.Truth.{no_true, front, back, also}
use Rattle.c_types.specs.model.c_found_unit_laws.Bodies.{is_function_type}
use Rattle.c_types.specs.c_unit_walk_laws.Steps.{DeclaresName, First, Again, declared_as}
use Rattle.c_types.specs.c_unit_walk_laws.Walks.{WalkSteps, Stays, Follows, AddsConstant, AddsNotes, DeclaresType, DeclaresFunction, DefinesFunction, DeclaresObject, InitialisesObject}
use Rattle.c_types.proofs.CUnitMeaningLaws.Names.{by_name, own_meaning, other_meaning, same_declared, declared_by, kept_names, object_names, cells_names}
use Rattle.c_types.proofs.CUnitMeaningLaws.Types.{same_kind}

abbrev pub is_function : NameDeclaration → Bool
is_function a = not a.is_typedef && is_function_type a.ty

abbrev pub means_function : Option NameMeaning → Bool
means_function None = false
means_function (Some m.Faulty) = false
means_function (Some (m.Undefined number)) = false
means_function (Some (m.Local number ty)) = false
means_function (Some (m.Object number ty)) = false
means_function (Some (m.Constant word)) = false
means_function (Some (m.Function callee of tys)) = true
means_function (Some (m.Typedef ty)) = false

abbrev pub HasKinds : Definitions → UnitNames → Env → Type 0
HasKinds ds u env = (q : List ℕ) (a : ℕ × NameDeclaration) → find q u.declared ≡ Some a → IsTrue (is_function a.1) → IsTrue (is_some (find q ds.functions)) → IsTrue (means_function (meaning_of env q))

first_means : (ds : Definitions) (name : List ℕ) (new : NameDeclaration) (u : UnitNames) → IsTrue (is_function new) → IsTrue (is_some (find name ds.functions)) → IsTrue (means_function (Some (first_meaning ds name new u).0))
first_means ds name new u h g = choose new.is_typedef (front (not new.is_typedef) (is_function_type new.ty) h)
  where
    function : (b : Bool) (ty : CType) (tys : List CType) → IsTrue b → IsTrue (means_function (Some (function_name b ty tys u).0))
    function true ty tys h = refl
    function false ty tys h = no_true h

    value : (ty : DeclaredType) → IsTrue (is_function_type ty) → IsTrue (means_function (Some (value_name ds name ty u).0))
    value (d.Value ty) h = no_true h
    value (d.Unsized ty) h = no_true h
    value (d.Function ty tys) h = function (is_some (find name ds.functions)) ty tys g

    choose : (b : Bool) → IsTrue (not b) → IsTrue (means_function (Some (if b then (m.Typedef new.ty, u) else value_name ds name new.ty u).0))
    choose true k = no_true k
    choose false k = value new.ty (back (not new.is_typedef) (is_function_type new.ty) h)

old_kind : (a b : Bool) → IsTrue (beq a b) → IsTrue (not b) → IsTrue (not a)
old_kind true true h g = g
old_kind true false h g = no_true h
old_kind false true h g = refl
old_kind false false h g = refl

old_type : (a b : DeclaredType) → IsTrue (is_same_declared a b) → IsTrue (is_function_type b) → IsTrue (is_function_type a)
old_type a (d.Value b) h g = no_true g
old_type a (d.Unsized b) h g = no_true g
old_type (d.Value a) (d.Function b ys) h g = no_true h
old_type (d.Unsized a) (d.Function b ys) h g = no_true h
old_type (d.Function a xs) (d.Function b ys) h g = refl

old_function : (old new : NameDeclaration) → IsTrue (may_follow old new) → IsTrue (is_function new) → IsTrue (is_function old)
old_function old new may h =
    let both = front (beq old.is_typedef new.is_typedef && is_same_declared old.ty new.ty) (not (old.has_value && new.has_value)) may in
    also (not old.is_typedef) (is_function_type old.ty) (old_kind old.is_typedef new.is_typedef (front (beq old.is_typedef new.is_typedef) (is_same_declared old.ty new.ty) both) (front (not new.is_typedef) (is_function_type new.ty) h))
    (old_type old.ty new.ty (same_kind old new may) (back (not new.is_typedef) (is_function_type new.ty) h))

constant_kinds : (ds : Definitions) (name : List ℕ) (word : ℕ) (u : UnitNames) (env : Env) → meaning_of env name ≡ None → HasKinds ds u env → HasKinds ds u (with_meaning name (m.Constant word) env)
constant_kinds ds name word u env free h q a e fn defined =
    by_name q name (λ same. no_true (subst (λ o. IsTrue (means_function o)) (ap (meaning_of env) same ∙ free) (h q a e fn defined)))
    (λ differs. subst (λ o. IsTrue (means_function o)) (sym (other_meaning name (m.Constant word) env q differs)) (h q a e fn defined))

first_kinds : (ds : Definitions) (name : List ℕ) (new : NameDeclaration) (u : UnitNames) (env : Env) → HasKinds ds u env → (let r = first_meaning ds name new u in HasKinds ds (with_declared name new r.1) (with_meaning name r.0 env))
first_kinds ds name new u env h q a e fn defined =
    let r = first_meaning ds name new u in
    declared_by name new r.1 q a
    (λ same is. subst (λ o. IsTrue (means_function o)) (sym (ap (meaning_of (with_meaning name r.0 env)) same ∙ own_meaning name r.0 env))
    (first_means ds name new u (subst (λ b. IsTrue (is_function b)) is fn) (subst (λ n. IsTrue (is_some (find n ds.functions))) same defined)))
    (λ differs found. subst (λ o. IsTrue (means_function o)) (sym (other_meaning name r.0 env q differs)) (h q a (sym (ap (find q) (same_declared ds name new u)) ∙ found) fn defined)) e

again_kinds : (ds : Definitions) (name : List ℕ) (new : NameDeclaration) (has_value : Bool) (u : UnitNames) (env : Env) (old : ℕ × NameDeclaration) → find name u.declared ≡ Some old → IsTrue (may_follow old.1 new) → HasKinds ds u env
    → HasKinds ds (with_declared name (with_value has_value new) u) env
again_kinds ds name new has_value u env old there may h q a e fn defined =
    declared_by name (with_value has_value new) u q a
    (λ same is. h q old (ap (λ n. find n u.declared) same ∙ there) (old_function old.1 new may (subst (λ b. IsTrue (is_function b)) is fn)) defined)
    (λ differs found. h q a found fn defined) e

pub declared_kinds : (ds : Definitions) (name : List ℕ) (new : NameDeclaration) {u names : UnitNames} {env later : Env} → DeclaresName ds name new u env names later → HasKinds ds u env → HasKinds ds names later
declared_kinds ds name new (First {u = u} {env = env} e free) h = first_kinds ds name new u env h
declared_kinds ds name new (Again {u = u} {env = env} old e may) h = again_kinds ds name new (old.1.has_value || new.has_value) u env old e may h

pub steps_kinds : (ds : Definitions) {es : List External} {w v : UnitWalk} → WalkSteps ds es w v → HasKinds ds w.0.names w.1.0 → HasKinds ds v.0.names v.1.0
steps_kinds ds Stays h = h
steps_kinds ds (Follows g k) h = steps_kinds ds k (steps_kinds ds g h)
steps_kinds ds (AddsConstant {u = u} {env = env} name word e g) h = constant_kinds ds name word u.names env (free e) h
  where
    free : find name env.names ≡ None → meaning_of env name ≡ None
    free e = ap (λ (o : Option (ℕ × NameMeaning)). meaning_in o) e
      where
        meaning_in : Option (ℕ × NameMeaning) → Option NameMeaning
        meaning_in None = None
        meaning_in (Some r) = Some r.1
steps_kinds ds (AddsNotes g) h = h
steps_kinds ds (DeclaresType name ty g k) h = declared_kinds ds name (typedef_of ty) k h
steps_kinds ds (DeclaresFunction name of g k) h = declared_kinds ds name (function_declared false (declared_as of)) k h
steps_kinds ds (DefinesFunction {u = u} {names = names} {later = later} e of list f g counted k made) h =
    subst (λ n. HasKinds ds n later) (sym (kept_names later e.name f (with_names names (main_seen e.name (declared_as of) u)))) (declared_kinds ds e.name (function_declared true (declared_as of)) k h)
steps_kinds ds (DeclaresObject {u = u} {names = names} {later = later} name ty g k) h =
    subst (λ n. HasKinds ds n later) (sym (object_names later name ty (with_names names u))) (declared_kinds ds name (object_declared ty false) k h)
steps_kinds ds (InitialisesObject {u = u} {names = names} {later = later} name ty x cells g k made listed) h =
    subst (λ n. HasKinds ds n later) (sym (cells_names later name cells (add_object later name ty (with_names names u)) ∙ object_names later name ty (with_names names u)))
    (declared_kinds ds name (object_declared ty true) k h)
