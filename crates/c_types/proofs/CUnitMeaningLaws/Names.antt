-- A name that is added changes no other one.
use Rattle.std.proofs.Common.{◌≡◌, ℕ, Bool, true, false, List, length, bytes_eq, Option, Some, None, is_some, refl, sym, ap, ◌∙◌, ◌==◌, if◌then◌else◌}
use Rattle.std.specs.Option.{option_map}
use Rattle.std.proofs.lemmas.Slice.Eq.{bytes_eq-Decides}
use Rattle.mem_objects.specs.declared.DataCell.{DataCell}
use Rattle.c_tree.specs.declared.declarations.External.{External}
use Rattle.c_typing_scopes.specs.Names.{find}
use Rattle.c_typing_definitions.specs.declared.names.Definitions.{Definitions}
use Rattle.c_typing_rules.specs.declared.c_typing_declared_types.declared.DeclaredType.{DeclaredType}
use Rattle.c_typing_rules.specs.declared.c_typing_declared_types.declared.DeclaredType.TheVariants as d
use Rattle.c_typed_tree.specs.declared.types.CType.{CType}
use Rattle.c_typed_tree.specs.declared.units.TypedFn.{TypedFn}
use Rattle.c_typing_state.specs.declared.env.Env.{Env}
use Rattle.c_typing_state.specs.declared.meanings.NameMeaning.{NameMeaning}
use Rattle.c_typing_state.specs.declared.meanings.NameMeaning.TheVariants as m
use Rattle.c_typing_state.specs.Scopes.{with_meaning, meaning_of}
use Rattle.c_typing_unit_names.specs.declared.names.NameDeclaration.{NameDeclaration}
use Rattle.c_typing_unit_names.specs.declared.names.UnitNames.{UnitNames}
use Rattle.c_typing_unit_names.specs.UnitNames.{object_name, function_name, value_name, first_meaning, with_declared}
use Rattle.c_typing_declarations.specs.declared.walk.UnitSoFar.{UnitSoFar}
use Rattle.c_typing_declarations.specs.Walk.{UnitWalk, add_numbered, next_object, object_number, add_object, fill_numbered, keep_cells, function_at, add_function, keep_function}
use Rattle.c_typing_declarations.specs.Functions.{function_declared}
use Rattle.c_typing_declarations.specs.Objects.{object_declared}
use Rattle.c_typing_units.specs.Externals.{typedef_of}
use Rattle.c_typing_expression_sound.proofs.CTypeLaws.Truth.{no_true}
use Rattle.c_types.specs.c_unit_walk_laws.Steps.{DeclaresName, First, Again, declared_as}
use Rattle.c_types.specs.c_unit_walk_laws.Walks.{WalkSteps, Stays, Follows, AddsConstant, AddsNotes, DeclaresType, DeclaresFunction, DefinesFunction, DeclaresObject, InitialisesObject}
use Rattle.c_types.specs.c_unit_meaning_laws.Meanings.{Keeps}

-- a name is the other one, or the test says that it is not
pub by_name : {X : Type 0} (q name : List ℕ) → (q ≡ name → X) → (bytes_eq q name ≡ false → X) → X
by_name {X = X} q name f g = choose (bytes_eq q name) refl
  where
    choose : (b : Bool) → bytes_eq q name ≡ b → X
    choose true e = f ((bytes_eq-Decides q name).0 e)
    choose false e = g e

pub none_some : {A X : Type 0} {a : A} → None ≡ Some a → X
none_some e = let clash : ⊥ = cc in absurd clash

pub some_same : {A : Type 0} {a b : A} → Some a ≡ Some b → a ≡ b
some_same e = cc

-- ---- names in scope

pub own_meaning : (name : List ℕ) (x : NameMeaning) (env : Env) → meaning_of (with_meaning name x env) name ≡ Some x
own_meaning name x env = choose (bytes_eq name name) ((bytes_eq-Decides name name).1 refl)
  where
    choose : (b : Bool) → b ≡ true → option_map (λ r. r.1) (if b then Some (length env.names, x) else find name env.names) ≡ Some x
    choose true e = refl
    choose false e = no_true e

pub other_meaning : (name : List ℕ) (x : NameMeaning) (env : Env) (q : List ℕ) → bytes_eq q name ≡ false → meaning_of (with_meaning name x env) q ≡ meaning_of env q
other_meaning name x env q e = ap (λ (b : Bool). option_map (λ r. r.1) (if b then Some (length env.names, x) else find q env.names)) e

-- what a name means behind an added one: it is the added one, or it meant that before
pub meant_by : {X : Type 0} (name : List ℕ) (x : NameMeaning) (env : Env) (q : List ℕ) (y : NameMeaning) → (q ≡ name → x ≡ y → X) → (bytes_eq q name ≡ false → meaning_of env q ≡ Some y → X) → meaning_of (with_meaning name x env) q ≡ Some y → X
meant_by name x env q y f g e =
    by_name q name (λ same. f same (some_same (sym (own_meaning name x env) ∙ (sym (ap (meaning_of (with_meaning name x env)) same) ∙ e)))) (λ differs. g differs (sym (other_meaning name x env q differs) ∙ e))

pub free_name : (name : List ℕ) (env : Env) → find name env.names ≡ None → meaning_of env name ≡ None
free_name name env e = ap (option_map (λ r. r.1)) e

-- ---- they keep their meanings

pub keeps_then : (a b c : Env) → Keeps a b → Keeps b c → Keeps a c
keeps_then a b c h g q x e = g q x (h q x e)

pub keeps_name : (name : List ℕ) (x : NameMeaning) (env : Env) → meaning_of env name ≡ None → Keeps env (with_meaning name x env)
keeps_name name x env free q y e =
    by_name q name (λ same. none_some (sym (ap (meaning_of env) same ∙ free) ∙ e)) (λ differs. other_meaning name x env q differs ∙ e)

declared_keeps : (ds : Definitions) (name : List ℕ) (new : NameDeclaration) {u names : UnitNames} {env later : Env} → DeclaresName ds name new u env names later → Keeps env later
declared_keeps ds name new (First {u = u} {env = env} e free) = keeps_name name (first_meaning ds name new u).0 env free
declared_keeps ds name new (Again old e may) = λ q x h. h

pub steps_mean : (ds : Definitions) {es : List External} {w v : UnitWalk} → WalkSteps ds es w v → Keeps w.1.0 v.1.0
steps_mean ds Stays = λ q x h. h
steps_mean ds (Follows h g) = λ q x e. steps_mean ds g q x (steps_mean ds h q x e)
steps_mean ds (AddsConstant {env = env} name word e g) = keeps_name name (m.Constant word) env (free_name name env e)
steps_mean ds (AddsNotes g) = λ q x h. h
steps_mean ds (DeclaresType name ty g h) = declared_keeps ds name (typedef_of ty) h
steps_mean ds (DeclaresFunction name of g h) = declared_keeps ds name (function_declared false (declared_as of)) h
steps_mean ds (DefinesFunction e of list f g counted h same) = declared_keeps ds e.name (function_declared true (declared_as of)) h
steps_mean ds (DeclaresObject name ty g h) = declared_keeps ds name (object_declared ty false) h
steps_mean ds (InitialisesObject name ty x cells g h same listed) = declared_keeps ds name (object_declared ty true) h

-- ---- names that were declared

pub same_declared : (ds : Definitions) (name : List ℕ) (new : NameDeclaration) (u : UnitNames) → (first_meaning ds name new u).1.declared ≡ u.declared
same_declared ds name new u = choose new.is_typedef
  where
    object : (b : Bool) (ty : CType) → (object_name b ty u).1.declared ≡ u.declared
    object true ty = refl
    object false ty = refl

    function : (b : Bool) (ty : CType) (tys : List CType) → (function_name b ty tys u).1.declared ≡ u.declared
    function true ty tys = refl
    function false ty tys = refl

    value : (ty : DeclaredType) → (value_name ds name ty u).1.declared ≡ u.declared
    value (d.Value ty) = object (is_some (find name ds.objects)) ty
    value (d.Unsized ty) = refl
    value (d.Function ty tys) = function (is_some (find name ds.functions)) ty tys

    choose : (b : Bool) → (if b then (m.Typedef new.ty, u) else value_name ds name new.ty u).1.declared ≡ u.declared
    choose true = refl
    choose false = value new.ty

-- what is found of a name behind one that is declared
pub declared_by : {X : Type 0} (name : List ℕ) (new : NameDeclaration) (u : UnitNames) (q : List ℕ) (a : ℕ × NameDeclaration) → (q ≡ name → a.1 ≡ new → X) → (bytes_eq q name ≡ false → find q u.declared ≡ Some a → X) → find q (with_declared name new u).declared ≡ Some a → X
declared_by {X = X} name new u q a f g = choose (bytes_eq q name) refl
  where
    choose : (b : Bool) → bytes_eq q name ≡ b → (if b then Some (length u.declared, new) else find q u.declared) ≡ Some a → X
    choose true e h = f ((bytes_eq-Decides q name).0 e) (ap (λ (r : ℕ × NameDeclaration). r.1) (sym (some_same h)))
    choose false e h = g e h

-- ---- the names of a unit are its own

pub added_names : (o : Option ℕ) (made : TypedFn) (u : UnitSoFar) → (add_function o made u).names ≡ u.names
added_names None made u = refl
added_names (Some number) made u = refl

pub kept_names : (env : Env) (name : List ℕ) (made : TypedFn) (u : UnitSoFar) → (keep_function env name (Some made) u).names ≡ u.names
kept_names env name made u = added_names (function_at env name) made u

numbered_names : (o : Option ℕ) (name : List ℕ) (ty : CType) (u : UnitSoFar) → (add_numbered o name ty u).names ≡ u.names
numbered_names None name ty u = refl
numbered_names (Some number) name ty u = next (number == length u.objects)
  where
    next : (b : Bool) → (next_object b name ty u).names ≡ u.names
    next true = refl
    next false = refl

pub object_names : (env : Env) (name : List ℕ) (ty : CType) (u : UnitSoFar) → (add_object env name ty u).names ≡ u.names
object_names env name ty u = numbered_names (object_number env name) name ty u

filled_names : (o : Option ℕ) (cells : List DataCell) (u : UnitSoFar) → (fill_numbered o cells u).names ≡ u.names
filled_names None cells u = refl
filled_names (Some number) cells u = refl

pub cells_names : (env : Env) (name : List ℕ) (cells : List DataCell) (u : UnitSoFar) → (keep_cells env name (Some cells) u).names ≡ u.names
cells_names env name cells u = filled_names (object_number env name) cells u
