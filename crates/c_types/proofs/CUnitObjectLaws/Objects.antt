-- An object that a name means stands at its number.
use Rattle.std.proofs.Common.{◌≡◌, ℕ, zero, suc, ◌+◌, ◌==◌, arith, Bool, true, false, List, [], ◌∷◌, ◌++◌, length, slice_get, slice_set, Option, Some, None, is_some, refl, sym, ap, ◌∙◌, subst}
use Rattle.std.proofs.lemmas.Bool.Decides.{Decides-eqb}
use Rattle.std.proofs.lemmas.List.{length-set}
use Rattle.mem_objects.specs.declared.DataCell.{DataCell}
use Rattle.c_tree.specs.declared.declarations.External.{External}
use Rattle.c_typing_scopes.specs.Names.{find}
use Rattle.c_typing_definitions.specs.declared.names.Definitions.{Definitions}
use Rattle.c_typing_rules.specs.declared.c_typing_declared_types.declared.DeclaredType.{DeclaredType}
use Rattle.c_typed_tree.specs.declared.types.CType.{CType}
use Rattle.c_typed_tree.specs.declared.units.TypedFn.{TypedFn}
use Rattle.c_typed_tree.specs.View.{type_view}
use Rattle.c_typing_state.specs.declared.env.Env.{Env}
use Rattle.c_typing_state.specs.declared.meanings.NameMeaning.{NameMeaning}
use Rattle.c_typing_state.specs.declared.meanings.NameMeaning.TheVariants as m
use Rattle.c_typing_state.specs.Scopes.{with_meaning, meaning_of}
use Rattle.c_typing_globals.specs.declared.objects.UnitObject.{UnitObject}
use Rattle.c_typing_globals.specs.Globals.{with_cells, replace_cells, set_cells}
use Rattle.c_typing_statements.specs.declared.c_typing_function_bodies.functions.FunctionType.{FunctionType}
use Rattle.c_typing_unit_names.specs.declared.names.NameDeclaration.{NameDeclaration}
use Rattle.c_typing_unit_names.specs.declared.names.UnitNames.{UnitNames}
use Rattle.c_typing_unit_names.specs.UnitNames.{object_name, function_name, first_meaning, with_declared}
use Rattle.c_typing_declarations.specs.declared.walk.UnitSoFar.{UnitSoFar}
use Rattle.c_typing_declarations.specs.Walk.{UnitWalk, with_names, set_objects, next_object, defined_object, object_number, add_numbered, add_object, fill_numbered, function_at, add_function}
use Rattle.c_typing_declarations.specs.Functions.{main_seen, function_declared}
use Rattle.c_typing_declarations.specs.Objects.{object_declared}
use Rattle.c_types.specs.c_unit_meaning_laws.Externals.{typedef_of}
use Rattle.c_types.specs.c_unit_meaning_laws.Builtins.{builtins}
use Rattle.c_types.specs.c_unit_meaning_laws.Units.{unit_start}
use Rattle.c_types.specs.c_unit_meaning_laws.Steps.{DeclaresName, First, Again, declared_as}
use Rattle.c_types.specs.c_unit_meaning_laws.Walks.{WalkSteps, Stays, Follows, AddsConstant, AddsNotes, DeclaresType, DeclaresFunction, DefinesFunction, DeclaresObject, InitialisesObject}
use Rattle.c_types.proofs.CUnitMeaningLaws.Names.{none_some, own_meaning, meant_by}
use Rattle.c_types.specs.c_unit_object_laws.Meant.{ObjectIsOfType, HasObjects}

-- ---- lists of objects

longer : (xs : List UnitObject) (x : UnitObject) → length (xs ++ x ∷ []) ≡ length xs + 1
longer [] x = refl
longer (y ∷ xs) x = ap suc (longer xs x) ∙ one_over (length xs)
  where
    one_over : (n : ℕ) → suc (n + 1) ≡ suc n + 1
    one_over n = omega arith

front_stays : (xs : List UnitObject) (x : UnitObject) (k : ℕ) (ty : CType) → ObjectIsOfType (slice_get xs k) ty → ObjectIsOfType (slice_get (xs ++ x ∷ []) k) ty
front_stays [] x k ty h = absurd h
front_stays (y ∷ xs) x zero ty h = h
front_stays (y ∷ xs) x (suc k) ty h = front_stays xs x k ty h

pub last_there : (xs : List UnitObject) (x : UnitObject) → slice_get (xs ++ x ∷ []) (length xs) ≡ Some x
last_there [] x = refl
last_there (y ∷ xs) x = last_there xs x

none_behind : (xs : List UnitObject) → slice_get xs (length xs) ≡ None
none_behind [] = refl
none_behind (y ∷ xs) = none_behind xs

set_stays : (xs : List UnitObject) (n : ℕ) (o : UnitObject) (cells : List DataCell) (k : ℕ) (ty : CType) → slice_get xs n ≡ Some o → ObjectIsOfType (slice_get xs k) ty → ObjectIsOfType (slice_get (slice_set xs n (with_cells cells o)) k) ty
set_stays [] n o cells k ty e h = h
set_stays (x ∷ xs) zero o cells zero ty e h = subst (λ z. ObjectIsOfType (Some z) ty) (same e) h
  where
    same : {a z : UnitObject} → Some a ≡ Some z → a ≡ z
    same e = cc
set_stays (x ∷ xs) zero o cells (suc k) ty e h = h
set_stays (x ∷ xs) (suc n) o cells zero ty e h = h
set_stays (x ∷ xs) (suc n) o cells (suc k) ty e h = set_stays xs n o cells k ty e h

cells_stay : (xs : List UnitObject) (n : ℕ) (cells : List DataCell) (k : ℕ) (ty : CType) → ObjectIsOfType (slice_get xs k) ty → ObjectIsOfType (slice_get (set_cells n cells xs) k) ty
cells_stay xs n cells k ty h = by (slice_get xs n) refl
  where
    by : (o : Option UnitObject) → slice_get xs n ≡ o → ObjectIsOfType (slice_get (replace_cells n cells o xs) k) ty
    by None e = h
    by (Some o) e = set_stays xs n o cells k ty e h

as_many : (xs : List UnitObject) (n : ℕ) (cells : List DataCell) → length (set_cells n cells xs) ≡ length xs
as_many xs n cells = by (slice_get xs n)
  where
    by : (o : Option UnitObject) → length (replace_cells n cells o xs) ≡ length xs
    by None = refl
    by (Some o) = length-set xs n (with_cells cells o)

-- ---- names that mean no object

other : (name : List ℕ) (x : NameMeaning) (env : Env) (u v : UnitSoFar) → ((k : ℕ) (ty : CType) → x ≡ m.Object k ty → ⊥) → v.objects ≡ u.objects → v.names.objects ≡ u.names.objects → HasObjects u env → HasObjects v (with_meaning name x env)
other name x env u v plain same count h = record {
  count = ap length same ∙ (h.count ∙ sym count);
  objects = λ q k ty. meant_by name x env q (m.Object k ty) (λ own e. absurd (plain k ty e)) (λ differs e. subst (λ os. ObjectIsOfType (slice_get os k) ty) (sym same) (h.objects q k ty e));
}

-- a function or a typedef name
plain_declared : (ds : Definitions) (name : List ℕ) (new : NameDeclaration) (u : UnitSoFar) {names : UnitNames} {env later : Env} → ((n : UnitNames) (k : ℕ) (ty : CType) → (first_meaning ds name new n).0 ≡ m.Object k ty → ⊥) → ((n : UnitNames) → (first_meaning ds name new n).1.objects ≡ n.objects)
    → DeclaresName ds name new u.names env names later → HasObjects u env → HasObjects (with_names names u) later
plain_declared ds name new u plain count (First {env = env} e free) h =
    let r = first_meaning ds name new u.names in
    other name r.0 env u (with_names (with_declared name new r.1) u) (plain u.names) refl (count u.names) h
plain_declared ds name new u plain count (Again old e may) h = record { count = h.count; objects = h.objects }

typedef_plain : (ds : Definitions) (name : List ℕ) (ty : DeclaredType) (n : UnitNames) (k : ℕ) (of : CType) → (first_meaning ds name (typedef_of ty) n).0 ≡ m.Object k of → ⊥
typedef_plain ds name ty n k of e = cc

function_plain : (ds : Definitions) (name : List ℕ) (has_body : Bool) (of : FunctionType) (n : UnitNames) (k : ℕ) (ty : CType) → (first_meaning ds name (function_declared has_body (declared_as of)) n).0 ≡ m.Object k ty → ⊥
function_plain ds name has_body of n k ty = choose (is_some (find name ds.functions))
  where
    choose : (z : Bool) → (function_name z of.result of.parameters n).0 ≡ m.Object k ty → ⊥
    choose true e = cc
    choose false e = cc

function_count : (ds : Definitions) (name : List ℕ) (has_body : Bool) (of : FunctionType) (n : UnitNames) → (first_meaning ds name (function_declared has_body (declared_as of)) n).1.objects ≡ n.objects
function_count ds name has_body of n = choose (is_some (find name ds.functions))
  where
    choose : (z : Bool) → (function_name z of.result of.parameters n).1.objects ≡ n.objects
    choose true = refl
    choose false = refl

-- ---- objects

-- one that has the next number
next_there : (n : ℕ) (name : List ℕ) (ty : CType) (u : UnitSoFar) (o : Option NameMeaning) → o ≡ Some (m.Object n ty) → length u.objects ≡ n
    → add_numbered (defined_object o) name ty u ≡ set_objects (u.objects ++ record { name = name; ty = ty; cells = [] } ∷ []) u
next_there n name ty u o e count = subst (λ o. add_numbered (defined_object o) name ty u ≡ set_objects (u.objects ++ record { name = name; ty = ty; cells = [] } ∷ []) u) (sym e) (ap (λ z. next_object z name ty u) ((Decides-eqb n (length u.objects)).1 (sym count)))

-- what a name means that is no new object adds none
none_next : (name : List ℕ) (ty : CType) (u : UnitSoFar) (env : Env) (o : Option NameMeaning) → ((k : ℕ) (of : CType) → o ≡ Some (m.Object k of) → ObjectIsOfType (slice_get u.objects k) of) → add_numbered (defined_object o) name ty u ≡ u
none_next name ty u env None h = refl
none_next name ty u env (Some m.Faulty) h = refl
none_next name ty u env (Some (m.Undefined number)) h = refl
none_next name ty u env (Some (m.Local number of)) h = refl
none_next name ty u env (Some (m.Object k of)) h = choose (k == length u.objects) refl
  where
    choose : (z : Bool) → k == length u.objects ≡ z → next_object z name ty u ≡ u
    choose true e = absurd (nowhere (h k of refl))
      where
        nowhere : ObjectIsOfType (slice_get u.objects k) of → ⊥
        nowhere there = subst (λ o. ObjectIsOfType o of) (ap (slice_get u.objects) ((Decides-eqb k (length u.objects)).0 e) ∙ none_behind u.objects) there
    choose false e = refl
none_next name ty u env (Some (m.Constant word)) h = refl
none_next name ty u env (Some (m.Function callee of tys)) h = refl
none_next name ty u env (Some (m.Typedef of)) h = refl

same_object : {k n : ℕ} {a z : CType} → m.Object n a ≡ m.Object k z → (k ≡ n) × (a ≡ z)
same_object e = (number e, type e)
  where
    number : {k n : ℕ} {a z : CType} → m.Object n a ≡ m.Object k z → k ≡ n
    number e = cc

    type : {k n : ℕ} {a z : CType} → m.Object n a ≡ m.Object k z → a ≡ z
    type e = cc

module _ (ds : Definitions) (name : List ℕ) (ty : CType) (has_value : Bool) where
  abbrev new_object : UnitObject
  new_object = record { name = name; ty = ty; cells = [] }

  first_object : (u : UnitSoFar) (env : Env) → meaning_of env name ≡ None → HasObjects u env
      → (let r = first_meaning ds name (object_declared ty has_value) u.names in let later = with_meaning name r.0 env in HasObjects (add_object later name ty (with_names (with_declared name (object_declared ty has_value) r.1) u)) later)
  first_object u env free h = choose (is_some (find name ds.objects))
    where
      later : Bool → Env
      later z = with_meaning name (object_name z ty u.names).0 env

      after : Bool → UnitSoFar
      after z = with_names (with_declared name (object_declared ty has_value) (object_name z ty u.names).1) u

      choose : (z : Bool) → HasObjects (add_object (later z) name ty (after z)) (later z)
      choose true =
          let n = u.names.objects in
          subst (λ v. HasObjects v (later true)) (sym (next_there n name ty (after true) (meaning_of (later true) name) (own_meaning name (m.Object n ty) env) h.count)) (record {
            count = longer u.objects new_object ∙ ap (λ k. k + 1) h.count;
            objects = λ q k of. meant_by name (m.Object n ty) env q (m.Object k of)
                (λ own e. subst (λ j. ObjectIsOfType (slice_get (u.objects ++ new_object ∷ []) j) of) (h.count ∙ sym (same_object e).0)
                (subst (λ o. ObjectIsOfType o of) (sym (last_there u.objects new_object)) (ap type_view (same_object e).1)))
                (λ differs e. front_stays u.objects new_object k of (h.objects q k of e));
          })
      choose false =
          subst (λ v. HasObjects v (later false)) (sym (ap (λ o. add_numbered (defined_object o) name ty (after false)) (own_meaning name (m.Undefined u.names.undefined) env)))
          (other name (m.Undefined u.names.undefined) env u (after false) (λ k of e. cc) refl refl h)

  pub declared_object : (u : UnitSoFar) {names : UnitNames} {env later : Env} → DeclaresName ds name (object_declared ty has_value) u.names env names later → HasObjects u env → HasObjects (add_object later name ty (with_names names u)) later
  declared_object u (First {env = env} e free) h = first_object u env free h
  declared_object u {names = names} (Again {env = env} old e may) h =
      subst (λ v. HasObjects v env) (sym (none_next name ty (with_names names u) env (meaning_of env name) (λ k of e. h.objects name k of e))) (record { count = h.count; objects = h.objects })

kept_objects : (o : Option ℕ) (f : TypedFn) (u : UnitSoFar) (env : Env) → HasObjects u env → HasObjects (add_function o f u) env
kept_objects None f u env h = h
kept_objects (Some number) f u env h = record { count = h.count; objects = h.objects }

filled_objects : (o : Option ℕ) (cells : List DataCell) (u : UnitSoFar) (env : Env) → HasObjects u env → HasObjects (fill_numbered o cells u) env
filled_objects None cells u env h = h
filled_objects (Some number) cells u env h = record {
  count = as_many u.objects number cells ∙ h.count;
  objects = λ q k ty e. cells_stay u.objects number cells k ty (h.objects q k ty e);
}

pub steps_objects : (ds : Definitions) {es : List External} {w v : UnitWalk} → WalkSteps ds es w v → HasObjects w.0 w.1.0 → HasObjects v.0 v.1.0
steps_objects ds Stays h = h
steps_objects ds (Follows one two) h = steps_objects ds two (steps_objects ds one h)
steps_objects ds (AddsConstant {u = u} {env = env} name word e k) h = other name (m.Constant word) env u u (λ k ty e. cc) refl refl h
steps_objects ds (AddsNotes k) h = h
steps_objects ds (DeclaresType {u = u} name ty k r) h = plain_declared ds name (typedef_of ty) u (typedef_plain ds name ty) (λ n. refl) r h
steps_objects ds (DeclaresFunction {u = u} name of k r) h = plain_declared ds name (function_declared false (declared_as of)) u (function_plain ds name false of) (function_count ds name false of) r h
steps_objects ds (DefinesFunction {u = u} {names = names} {later = later} e of list f k counted r made) h =
    let one = plain_declared ds e.name (function_declared true (declared_as of)) u (function_plain ds e.name true of) (function_count ds e.name true of) r h in
    kept_objects (function_at later e.name) f (with_names names (main_seen e.name (declared_as of) u)) later (record { count = one.count; objects = one.objects })
steps_objects ds (DeclaresObject {u = u} name ty k r) h = declared_object ds name ty false u r h
steps_objects ds (InitialisesObject {u = u} {names = names} {later = later} name ty x cells k r made listed) h =
    filled_objects (object_number later name) cells (add_object later name ty (with_names names u)) later (declared_object ds name ty true u r h)

-- ---- before the first declaration

record Builtins (env : Env) : Type 0 where
  none : (q : List ℕ) (k : ℕ) (ty : CType) → meaning_of env q ≡ Some (m.Object k ty) → ⊥

builtin_there : (name : List ℕ) (callee : _) (of : CType) (tys : List CType) (env : Env) → Builtins env → Builtins (with_meaning name (m.Function callee of tys) env)
builtin_there name callee of tys env h = record { none = λ q k ty. meant_by name (m.Function callee of tys) env q (m.Object k ty) (λ own e. let clash : ⊥ = cc in clash) (λ differs e. h.none q k ty e) }

all_builtins : Builtins builtins.1
all_builtins =
    builtin_there _ _ _ _ _ (builtin_there _ _ _ _ _ (builtin_there _ _ _ _ _ (builtin_there _ _ _ _ _ (record { none = λ q k ty e. none_some e }))))

pub start_objects : (ds : Definitions) → HasObjects (unit_start ds).0 (unit_start ds).1.1.0
start_objects ds = record { count = refl; objects = λ q k ty e. absurd (all_builtins.none q k ty e) }
