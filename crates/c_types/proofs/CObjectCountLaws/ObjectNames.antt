-- A name that is declared as an object, and that the unit defines, means one.
use Rattle.std.proofs.Common.{◌≡◌, ℕ, Bool, true, false, not, ◌&&◌, ◌||◌, IsTrue, List, length, bytes_eq, Option, Some, None, is_some, refl, sym, ap, ◌∙◌, subst, if◌then◌else◌}
use Rattle.std.specs.Bool.{beq}
use Rattle.std.proofs.lemmas.Slice.Eq.{bytes_eq-Decides}
use Rattle.c_typing_scopes.specs.Names.{find}
use Rattle.c_typing_definitions.specs.declared.names.Definitions.{Definitions}
use Rattle.c_typing_rules.specs.declared.c_typing_declared_types.declared.DeclaredType.{DeclaredType}
use Rattle.c_typing_rules.specs.declared.c_typing_declared_types.declared.DeclaredType.TheVariants as d
use Rattle.c_typed_tree.specs.declared.types.CType.{CType}
use Rattle.c_typed_tree.specs.declared.units.TypedFn.{TypedFn}
use Rattle.c_typing_state.specs.declared.env.Env.{Env}
use Rattle.c_typing_state.specs.declared.meanings.NameMeaning.{NameMeaning}
use Rattle.c_typing_state.specs.declared.meanings.NameMeaning.TheVariants as m
use Rattle.c_typing_state.specs.Scopes.{with_meaning, meaning_of}
use Rattle.c_typing_unit_names.specs.declared.names.NameDeclaration.{NameDeclaration}
use Rattle.c_typing_unit_names.specs.declared.names.UnitNames.{UnitNames}
use Rattle.c_typing_unit_names.specs.UnitNames.{is_same_declared, may_follow, object_name, function_name, value_name, first_meaning, with_declared, with_value}
use Rattle.c_typing_declarations.specs.declared.walk.UnitSoFar.{UnitSoFar}
use Rattle.c_typing_declarations.specs.Walk.{with_names, object_number, function_at, add_function}
use Rattle.c_typing_declarations.specs.Functions.{function_declared}
use Rattle.c_typing_declarations.specs.Objects.{object_declared}
use Rattle.c_types.specs.c_found_unit_laws.Externals.{typedef_of}
use Rattle.c_typing_expression_sound.proofs.CTypeLaws.Truth.{no_true, front, back, also}
use Rattle.c_types.specs.c_found_unit_laws.Steps.{DeclaresName, First, Again, declared_as, UnitSteps, Stays, Follows, AddsConstant, SeesMain, DeclaresType, DeclaresFunction, DefinesFunction, DeclaresObject, KeepsCells}
use Rattle.c_types.proofs.CFoundUnitLaws.Externals.{added_body, filled_names}
use Rattle.c_types.proofs.CObjectCountLaws.Counts.{is_object, own_meaning, other_meaning, free_name}

-- ---- declarations of objects

abbrev pub is_value : DeclaredType → Bool
is_value (d.Value ty) = true
is_value (d.Unsized element) = false
is_value (d.Function of tys) = false

abbrev pub is_of_object : NameDeclaration → Bool
is_of_object a = not a.is_typedef && is_value a.ty

abbrev pub is_of_object_in : Option (ℕ × NameDeclaration) → Bool
is_of_object_in None = false
is_of_object_in (Some r) = is_of_object r.1

abbrev pub declares_object : List ℕ → UnitNames → Bool
declares_object q u = is_of_object_in (find q u.declared)

-- a declaration that may follow one of an object is one, and the other way round
same_kind : (a b : Bool) → IsTrue (beq a b) → IsTrue (not a) → IsTrue (not b)
same_kind true true h g = g
same_kind true false h g = no_true h
same_kind false true h g = no_true h
same_kind false false h g = refl

same_kind_back : (a b : Bool) → IsTrue (beq a b) → IsTrue (not b) → IsTrue (not a)
same_kind_back true true h g = g
same_kind_back true false h g = no_true h
same_kind_back false true h g = refl
same_kind_back false false h g = refl

same_value : (a b : DeclaredType) → IsTrue (is_same_declared a b) → IsTrue (is_value a) → IsTrue (is_value b)
same_value (d.Value a) (d.Value b) h g = refl
same_value (d.Value a) (d.Unsized b) h g = no_true h
same_value (d.Value a) (d.Function b ys) h g = no_true h
same_value (d.Unsized a) b h g = no_true g
same_value (d.Function a xs) b h g = no_true g

same_value_back : (a b : DeclaredType) → IsTrue (is_same_declared a b) → IsTrue (is_value b) → IsTrue (is_value a)
same_value_back a (d.Unsized b) h g = no_true g
same_value_back a (d.Function b ys) h g = no_true g
same_value_back (d.Value a) (d.Value b) h g = refl
same_value_back (d.Unsized a) (d.Value b) h g = no_true h
same_value_back (d.Function a xs) (d.Value b) h g = no_true h

module _ (old new : NameDeclaration) (may : IsTrue (may_follow old new)) where
  kinds : IsTrue (beq old.is_typedef new.is_typedef && is_same_declared old.ty new.ty)
  kinds = front (beq old.is_typedef new.is_typedef && is_same_declared old.ty new.ty) (not (old.has_value && new.has_value)) may

  behind_object : IsTrue (is_of_object old) → IsTrue (is_of_object new)
  behind_object g =
      also (not new.is_typedef) (is_value new.ty)
      (same_kind old.is_typedef new.is_typedef (front (beq old.is_typedef new.is_typedef) (is_same_declared old.ty new.ty) kinds) (front (not old.is_typedef) (is_value old.ty) g))
      (same_value old.ty new.ty (back (beq old.is_typedef new.is_typedef) (is_same_declared old.ty new.ty) kinds) (back (not old.is_typedef) (is_value old.ty) g))

  before_object : IsTrue (is_of_object new) → IsTrue (is_of_object old)
  before_object g =
      also (not old.is_typedef) (is_value old.ty)
      (same_kind_back old.is_typedef new.is_typedef (front (beq old.is_typedef new.is_typedef) (is_same_declared old.ty new.ty) kinds) (front (not new.is_typedef) (is_value new.ty) g))
      (same_value_back old.ty new.ty (back (beq old.is_typedef new.is_typedef) (is_same_declared old.ty new.ty) kinds) (back (not new.is_typedef) (is_value new.ty) g))

-- ---- what is found behind a declaration

pub declared_here : (name : List ℕ) (a : NameDeclaration) (rest : UnitNames) → IsTrue (is_of_object a) → IsTrue (declares_object name (with_declared name a rest))
declared_here name a rest h = choose (bytes_eq name name) ((bytes_eq-Decides name name).1 refl)
  where
    choose : (b : Bool) → b ≡ true → IsTrue (is_of_object_in (if b then Some (length rest.declared, a) else find name rest.declared))
    choose true e = h
    choose false e = no_true e

-- the names that are there stay
declared_same : (ds : Definitions) (name : List ℕ) (new : NameDeclaration) (u : UnitNames) → (first_meaning ds name new u).1.declared ≡ u.declared
declared_same ds name new u = choose new.is_typedef
  where
    object : (b : Bool) (ty : CType) → (object_name b ty u).1.declared ≡ u.declared
    object true ty = refl
    object false ty = refl

    function : (b : Bool) (ty : CType) (tys : List CType) → (function_name b ty tys u).1.declared ≡ u.declared
    function true ty tys = refl
    function false ty tys = refl

    value : (ty : DeclaredType) → (value_name ds name ty u).1.declared ≡ u.declared
    value (d.Value ty) = object (is_some (find name ds.objects)) ty
    value (d.Unsized ty) = refl
    value (d.Function ty tys) = function (is_some (find name ds.functions)) ty tys

    choose : (b : Bool) → (if b then (m.Typedef new.ty, u) else value_name ds name new.ty u).1.declared ≡ u.declared
    choose true = refl
    choose false = value new.ty

-- an object that the unit defines means one, where it is declared first
first_object : (ds : Definitions) (name : List ℕ) (new : NameDeclaration) (u : UnitNames) → IsTrue (is_of_object new) → IsTrue (is_some (find name ds.objects)) → IsTrue (is_object (Some (first_meaning ds name new u).0))
first_object ds name new u h g = choose new.is_typedef new.ty h
  where
    value : (ty : CType) (b : Bool) → IsTrue b → IsTrue (is_object (Some (object_name b ty u).0))
    value ty true k = refl
    value ty false k = no_true k

    choose : (t : Bool) (ty : DeclaredType) → IsTrue (not t && is_value ty) → IsTrue (is_object (Some (if t then (m.Typedef ty, u) else value_name ds name ty u).0))
    choose true ty k = no_true k
    choose false (d.Value ty) k = value ty (is_some (find name ds.objects)) g
    choose false (d.Unsized ty) k = no_true k
    choose false (d.Function ty tys) k = no_true k

module _ (ds : Definitions) where
  abbrev pub MeansObjects : UnitNames → Env → Type 0
  MeansObjects u env = (q : List ℕ) → IsTrue (declares_object q u) → IsTrue (is_some (find q ds.objects)) → IsTrue (is_object (meaning_of env q))

  first_means : (name : List ℕ) (new : NameDeclaration) (u : UnitNames) (env : Env) → meaning_of env name ≡ None → MeansObjects u env
      → MeansObjects (with_declared name new (first_meaning ds name new u).1) (with_meaning name (first_meaning ds name new u).0 env)
  first_means name new u env free h q k g = choose (bytes_eq q name) refl k
    where
      r : NameMeaning × UnitNames
      r = first_meaning ds name new u

      choose : (b : Bool) → bytes_eq q name ≡ b → IsTrue (is_of_object_in (if b then Some (length r.1.declared, new) else find q r.1.declared)) → IsTrue (is_object (meaning_of (with_meaning name r.0 env) q))
      choose true e k =
          let same = (bytes_eq-Decides q name).0 e in
          ap is_object (ap (meaning_of (with_meaning name r.0 env)) same ∙ own_meaning name r.0 env) ∙ first_object ds name new u k (subst (λ n. IsTrue (is_some (find n ds.objects))) same g)
      choose false e k = ap is_object (other_meaning q name r.0 env e) ∙ h q (ap (λ xs. is_of_object_in (find q xs)) (sym (declared_same ds name new u)) ∙ k) g

  again_means : (name : List ℕ) (new : NameDeclaration) (u : UnitNames) (env : Env) (old : ℕ × NameDeclaration) (has_value : Bool) → find name u.declared ≡ Some old → IsTrue (may_follow old.1 new) → MeansObjects u env
      → MeansObjects (with_declared name (with_value has_value new) u) env
  again_means name new u env old has_value e may h q k g = choose (bytes_eq q name) refl k
    where
      choose : (b : Bool) → bytes_eq q name ≡ b → IsTrue (is_of_object_in (if b then Some (length u.declared, with_value has_value new) else find q u.declared)) → IsTrue (is_object (meaning_of env q))
      choose true same k = h q (ap is_of_object_in (ap (λ n. find n u.declared) ((bytes_eq-Decides q name).0 same) ∙ e) ∙ before_object old.1 new may k) g
      choose false same k = h q k g

  declared_means : (name : List ℕ) (new : NameDeclaration) {u names : UnitNames} {env later : Env} → DeclaresName ds name new u env names later → MeansObjects u env → MeansObjects names later
  declared_means name new (First {u = u} {env = env} e free) h = first_means name new u env free h
  declared_means name new (Again {u = u} {env = env} old e may) h = again_means name new u env old (old.1.has_value || new.has_value) e may h

  added_names : (o : Option ℕ) (made : TypedFn) (u : UnitSoFar) → (add_function o made u).names ≡ u.names
  added_names None made u = refl
  added_names (Some number) made u = refl

  same_names : (later : Env) {v w : UnitNames} → v ≡ w → MeansObjects w later → MeansObjects v later
  same_names later e h q k g = h q (ap (declares_object q) (sym e) ∙ k) g

  constant_means : (name : List ℕ) (word : ℕ) (u : UnitNames) (env : Env) → find name env.names ≡ None → MeansObjects u env → MeansObjects u (with_meaning name (m.Constant word) env)
  constant_means name word u env e h q k l = choose (bytes_eq q name) refl
    where
      choose : (b : Bool) → bytes_eq q name ≡ b → IsTrue (is_object (meaning_of (with_meaning name (m.Constant word) env) q))
      choose true same = no_true (sym (ap is_object (ap (meaning_of env) ((bytes_eq-Decides q name).0 same) ∙ free_name name env e)) ∙ h q k l)
      choose false same = ap is_object (other_meaning q name (m.Constant word) env same) ∙ h q k l

  pub steps_mean : {u v : UnitSoFar} {env later : Env} → UnitSteps ds u env v later → MeansObjects u.names env → MeansObjects v.names later
  steps_mean Stays h = h
  steps_mean (Follows g k) h = steps_mean k (steps_mean g h)
  steps_mean (AddsConstant {u = u} {env = env} name word e g) h = constant_means name word u.names env e h
  steps_mean (SeesMain b) h = h
  steps_mean (DeclaresType name ty g) h = declared_means name (typedef_of ty) g h
  steps_mean (DeclaresFunction name of g) h = declared_means name (function_declared false (declared_as of)) g h
  steps_mean (DefinesFunction {u = u} {names = names} {later = later} e of list n made g same) h =
      same_names later (added_names (function_at later e.name) made (with_names names u)) (declared_means e.name (function_declared true (declared_as of)) g h)
  steps_mean (DeclaresObject {u = u} {names = names} {later = later} name ty has_value g) h =
      same_names later (added_body (object_number later name) name ty (with_names names u)) (declared_means name (object_declared ty has_value) g h)
  steps_mean (KeepsCells {u = u} {env = env} name cells) h = same_names env (filled_names (object_number env name) cells u) h

  -- ---- a declaration that is there stays

  declared_keeps : (q name : List ℕ) (new : NameDeclaration) {u names : UnitNames} {env later : Env} → DeclaresName ds name new u env names later → IsTrue (declares_object q u) → IsTrue (declares_object q names)
  declared_keeps q name new (First {u = u} e free) h = choose (bytes_eq q name) refl
    where
      r : NameMeaning × UnitNames
      r = first_meaning ds name new u

      choose : (b : Bool) → bytes_eq q name ≡ b → IsTrue (is_of_object_in (if b then Some (length r.1.declared, new) else find q r.1.declared))
      choose true same = no_true (sym (ap is_of_object_in (ap (λ n. find n u.declared) ((bytes_eq-Decides q name).0 same) ∙ e)) ∙ h)
      choose false same = ap (λ xs. is_of_object_in (find q xs)) (declared_same ds name new u) ∙ h
  declared_keeps q name new (Again {u = u} old e may) h = choose (bytes_eq q name) refl
    where
      choose : (b : Bool) → bytes_eq q name ≡ b → IsTrue (is_of_object_in (if b then Some (length u.declared, with_value (old.1.has_value || new.has_value) new) else find q u.declared))
      choose true same = behind_object old.1 new may (sym (ap is_of_object_in (ap (λ n. find n u.declared) ((bytes_eq-Decides q name).0 same) ∙ e)) ∙ h)
      choose false same = h

  pub steps_keep_object : (q : List ℕ) {u v : UnitSoFar} {env later : Env} → UnitSteps ds u env v later → IsTrue (declares_object q u.names) → IsTrue (declares_object q v.names)
  steps_keep_object q Stays h = h
  steps_keep_object q (Follows g k) h = steps_keep_object q k (steps_keep_object q g h)
  steps_keep_object q (AddsConstant name word e g) h = h
  steps_keep_object q (SeesMain b) h = h
  steps_keep_object q (DeclaresType name ty g) h = declared_keeps q name (typedef_of ty) g h
  steps_keep_object q (DeclaresFunction name of g) h = declared_keeps q name (function_declared false (declared_as of)) g h
  steps_keep_object q (DefinesFunction {u = u} {names = names} {later = later} e of list n made g same) h =
      ap (declares_object q) (added_names (function_at later e.name) made (with_names names u)) ∙ declared_keeps q e.name (function_declared true (declared_as of)) g h
  steps_keep_object q (DeclaresObject {u = u} {names = names} {later = later} name ty has_value g) h =
      ap (declares_object q) (added_body (object_number later name) name ty (with_names names u)) ∙ declared_keeps q name (object_declared ty has_value) g h
  steps_keep_object q (KeepsCells {u = u} {env = env} name cells) h = ap (declares_object q) (filled_names (object_number env name) cells u) ∙ h
