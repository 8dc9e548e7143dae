-- The declarations of a name have one type, that of what it means.
use Rattle.std.proofs.Common.{◌≡◌, ℕ, Bool, true, false, not, ◌&&◌, ◌||◌, IsTrue, List, [], ◌∷◌, map, Option, Some, None, is_some, refl, sym, ap, ◌∙◌, subst, if◌then◌else◌}
use Rattle.std.specs.Bool.{beq}
use Rattle.c_tree.specs.declared.declarations.External.{External}
use Rattle.c_typing_scopes.specs.Names.{find}
use Rattle.c_typing_definitions.specs.declared.names.Definitions.{Definitions}
use Rattle.c_typing_rules.specs.declared.c_typing_declared_types.declared.DeclaredType.{DeclaredType}
use Rattle.c_typing_rules.specs.declared.c_typing_declared_types.declared.DeclaredType.TheVariants as d
use Rattle.c_typed_tree.specs.declared.types.CType.{CType}
use Rattle.c_typed_tree.specs.View.{type_view}
use Rattle.c_typing_rules.specs.Values.{is_same}
use Rattle.c_typing_state.specs.declared.env.Env.{Env}
use Rattle.c_typing_state.specs.declared.meanings.NameMeaning.{NameMeaning}
use Rattle.c_typing_state.specs.declared.meanings.NameMeaning.TheVariants as m
use Rattle.c_typing_state.specs.Scopes.{with_meaning, meaning_of}
use Rattle.c_typing_unit_names.specs.declared.names.NameDeclaration.{NameDeclaration}
use Rattle.c_typing_unit_names.specs.declared.names.UnitNames.{UnitNames}
use Rattle.c_typing_unit_names.specs.UnitNames.{are_same, is_same_declared, may_follow, object_name, function_name, value_name, first_meaning, with_declared, with_value}
use Rattle.c_typing_declarations.specs.Walk.{UnitWalk, with_names, add_object}
use Rattle.c_typing_declarations.specs.Functions.{main_seen, function_declared}
use Rattle.c_typing_declarations.specs.Objects.{object_declared}
use Rattle.c_typing_units.specs.Externals.{typedef_of}
use Rattle.c_typing_expression_sound.proofs.CTypeLaws.Truth.{no_true, front, back}
use Rattle.c_typing_expression_sound.proofs.CTypeLaws.Types.{same}
use Rattle.c_types.specs.c_unit_walk_laws.Steps.{DeclaresName, First, Again, declared_as}
use Rattle.c_types.specs.c_unit_walk_laws.Walks.{WalkSteps, Stays, Follows, AddsConstant, AddsNotes, DeclaresType, DeclaresFunction, DefinesFunction, DeclaresObject, InitialisesObject}
use Rattle.c_types.specs.c_unit_meaning_laws.Meanings.{IsDeclaredValue, IsFunctionLike, Agrees, MeaningAgrees, HasTypes}
use Rattle.c_types.proofs.CUnitMeaningLaws.Names.{by_name, own_meaning, other_meaning, same_declared, declared_by, kept_names, object_names, cells_names}

pub first_agrees : (ds : Definitions) (name : List ℕ) (new : NameDeclaration) (u : UnitNames) → Agrees new.ty (first_meaning ds name new u).0
first_agrees ds name new u = choose new.is_typedef
  where
    object : (b : Bool) (ty : CType) → Agrees (d.Value ty) (object_name b ty u).0
    object true ty = refl
    object false ty = tt

    function : (b : Bool) (ty : CType) (tys : List CType) → Agrees (d.Function ty tys) (function_name b ty tys u).0
    function true ty tys = (refl, refl)
    function false ty tys = tt

    value : (ty : DeclaredType) → Agrees ty (value_name ds name ty u).0
    value (d.Value ty) = object (is_some (find name ds.objects)) ty
    value (d.Unsized ty) = tt
    value (d.Function ty tys) = function (is_some (find name ds.functions)) ty tys

    choose : (b : Bool) → Agrees new.ty (if b then (m.Typedef new.ty, u) else value_name ds name new.ty u).0
    choose true = tt
    choose false = value new.ty

-- ---- a declaration of the same type

views_same : (xs ys : List CType) → IsTrue (are_same xs ys) → map type_view xs ≡ map type_view ys
views_same [] [] h = refl
views_same [] (y ∷ ys) h = no_true h
views_same (x ∷ xs) [] h = no_true h
views_same (x ∷ xs) (y ∷ ys) h =
    ap (λ v. v ∷ map type_view xs) (same (type_view x) (type_view y) (front (is_same x y) (are_same xs ys) h)) ∙ ap (λ vs. type_view y ∷ vs) (views_same xs ys (back (is_same x y) (are_same xs ys) h))

value_again : (a b : DeclaredType) (ty : CType) → IsTrue (is_same_declared a b) → IsDeclaredValue a ty → IsDeclaredValue b ty
value_again (d.Value a) (d.Value b) ty h g = sym (same (type_view a) (type_view b) h) ∙ g
value_again (d.Value a) (d.Unsized b) ty h g = no_true h
value_again (d.Value a) (d.Function b ys) ty h g = no_true h
value_again (d.Unsized a) b ty h g = absurd g
value_again (d.Function a xs) b ty h g = absurd g

function_again : (a b : DeclaredType) (of : CType) (tys : List CType) → IsTrue (is_same_declared a b) → IsFunctionLike a of tys → IsFunctionLike b of tys
function_again (d.Value a) b of tys h g = absurd g
function_again (d.Unsized a) b of tys h g = absurd g
function_again (d.Function a xs) (d.Value b) of tys h g = no_true h
function_again (d.Function a xs) (d.Unsized b) of tys h g = no_true h
function_again (d.Function a xs) (d.Function b ys) of tys h g =
    (sym (same (type_view a) (type_view b) (front (is_same a b) (are_same xs ys) h)) ∙ g.0, sym (views_same xs ys (back (is_same a b) (are_same xs ys) h)) ∙ g.1)

again_agrees : (a b : DeclaredType) (o : Option NameMeaning) → IsTrue (is_same_declared a b) → MeaningAgrees a o → MeaningAgrees b o
again_agrees a b None h g = tt
again_agrees a b (Some m.Faulty) h g = tt
again_agrees a b (Some (m.Undefined number)) h g = tt
again_agrees a b (Some (m.Local number ty)) h g = tt
again_agrees a b (Some (m.Object number ty)) h g = value_again a b ty h g
again_agrees a b (Some (m.Constant word)) h g = tt
again_agrees a b (Some (m.Function callee of tys)) h g = function_again a b of tys h g
again_agrees a b (Some (m.Typedef ty)) h g = tt

-- ---- names

pub same_kind : (old new : NameDeclaration) → IsTrue (may_follow old new) → IsTrue (is_same_declared old.ty new.ty)
same_kind old new h =
    back (beq old.is_typedef new.is_typedef) (is_same_declared old.ty new.ty)
    (front (beq old.is_typedef new.is_typedef && is_same_declared old.ty new.ty) (not (old.has_value && new.has_value)) h)

constant_types : (name : List ℕ) (word : ℕ) (u : UnitNames) (env : Env) → HasTypes u env → HasTypes u (with_meaning name (m.Constant word) env)
constant_types name word u env h q a e =
    by_name q name (λ same. subst (MeaningAgrees a.1.ty) (sym (ap (meaning_of (with_meaning name (m.Constant word) env)) same ∙ own_meaning name (m.Constant word) env)) tt)
    (λ differs. subst (MeaningAgrees a.1.ty) (sym (other_meaning name (m.Constant word) env q differs)) (h q a e))

first_types : (ds : Definitions) (name : List ℕ) (new : NameDeclaration) (u : UnitNames) (env : Env) → HasTypes u env → (let r = first_meaning ds name new u in HasTypes (with_declared name new r.1) (with_meaning name r.0 env))
first_types ds name new u env h q a =
    let r = first_meaning ds name new u in
    declared_by name new r.1 q a
    (λ same e. subst (λ (b : NameDeclaration). MeaningAgrees b.ty (meaning_of (with_meaning name r.0 env) q)) (sym e)
    (subst (MeaningAgrees new.ty) (sym (ap (meaning_of (with_meaning name r.0 env)) same ∙ own_meaning name r.0 env)) (first_agrees ds name new u)))
    (λ differs e. subst (MeaningAgrees a.1.ty) (sym (other_meaning name r.0 env q differs)) (h q a (sym (ap (find q) (same_declared ds name new u)) ∙ e)))

again_types : (name : List ℕ) (new : NameDeclaration) (has_value : Bool) (u : UnitNames) (env : Env) (old : ℕ × NameDeclaration) → find name u.declared ≡ Some old → IsTrue (may_follow old.1 new) → HasTypes u env → HasTypes (with_declared name (with_value has_value new) u) env
again_types name new has_value u env old e may h q a =
    declared_by name (with_value has_value new) u q a
    (λ same g. subst (λ (b : NameDeclaration). MeaningAgrees b.ty (meaning_of env q)) (sym g)
    (subst (λ n. MeaningAgrees new.ty (meaning_of env n)) (sym same) (again_agrees old.1.ty new.ty (meaning_of env name) (same_kind old.1 new may) (h name old e))))
    (λ differs g. h q a g)

pub declared_types : (ds : Definitions) (name : List ℕ) (new : NameDeclaration) {u names : UnitNames} {env later : Env} → DeclaresName ds name new u env names later → HasTypes u env → HasTypes names later
declared_types ds name new (First {u = u} {env = env} e free) h = first_types ds name new u env h
declared_types ds name new (Again {u = u} {env = env} old e may) h = again_types name new (old.1.has_value || new.has_value) u env old e may h

pub steps_types : (ds : Definitions) {es : List External} {w v : UnitWalk} → WalkSteps ds es w v → HasTypes w.0.names w.1.0 → HasTypes v.0.names v.1.0
steps_types ds Stays h = h
steps_types ds (Follows g k) h = steps_types ds k (steps_types ds g h)
steps_types ds (AddsConstant {u = u} {env = env} name word e g) h = constant_types name word u.names env h
steps_types ds (AddsNotes g) h = h
steps_types ds (DeclaresType name ty g k) h = declared_types ds name (typedef_of ty) k h
steps_types ds (DeclaresFunction name of g k) h = declared_types ds name (function_declared false (declared_as of)) k h
steps_types ds (DefinesFunction {u = u} {names = names} {later = later} e of list f g counted k made) h =
    subst (λ n. HasTypes n later) (sym (kept_names later e.name f (with_names names (main_seen e.name (declared_as of) u)))) (declared_types ds e.name (function_declared true (declared_as of)) k h)
steps_types ds (DeclaresObject {u = u} {names = names} {later = later} name ty g k) h =
    subst (λ n. HasTypes n later) (sym (object_names later name ty (with_names names u))) (declared_types ds name (object_declared ty false) k h)
steps_types ds (InitialisesObject {u = u} {names = names} {later = later} name ty x cells g k made listed) h =
    subst (λ n. HasTypes n later) (sym (cells_names later name cells (add_object later name ty (with_names names u)) ∙ object_names later name ty (with_names names u)))
    (declared_types ds name (object_declared ty true) k h)
