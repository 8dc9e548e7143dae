-- Each function that is numbered has a body that was kept, and its name means it.
use Rattle.std.proofs.Common.{◌≡◌, ℕ, zero, suc, ◌+◌, ◌<◌, ◌==◌, Bool, true, false, not, ◌&&◌, ◌||◌, IsTrue, List, [], ◌∷◌, ◌++◌, length, bytes_eq, Option, Some, None, is_some, refl, sym, ap, ◌∙◌, subst, arith, eqb-true, if◌then◌else◌}
use Rattle.std.specs.Bool.{beq}
use Rattle.std.specs.List.{list_any}
use Rattle.std.specs.Option.{option_map}
use Rattle.std.proofs.lemmas.Slice.Eq.{bytes_eq-Decides}
use Rattle.std.proofs.lemmas.Bool.Decides.{Decides-eqb}
use Rattle.c_tree.specs.declared.types.Declaration.{Declaration}
use Rattle.c_typing_scopes.specs.Names.{Entry, find}
use Rattle.mem_objects.specs.declared.DataCell.{DataCell}
use Rattle.c_typing_rules.specs.declared.c_typing_declared_types.declared.DeclaredType.{DeclaredType}
use Rattle.c_typing_rules.specs.declared.c_typing_declared_types.declared.DeclaredType.TheVariants as d
use Rattle.c_typing_definitions.specs.declared.names.Definitions.{Definitions}
use Rattle.c_typed_tree.specs.declared.types.CType.{CType}
use Rattle.c_typed_tree.specs.declared.expressions.Callee.{Callee}
use Rattle.c_typed_tree.specs.declared.expressions.Callee.TheVariants as c
use Rattle.c_typed_tree.specs.declared.expressions.Builtin.{Builtin}
use Rattle.c_typed_tree.specs.declared.units.TypedFn.{TypedFn}
use Rattle.c_typing_state.specs.declared.env.Env.{Env}
use Rattle.c_typing_state.specs.declared.meanings.NameMeaning.{NameMeaning}
use Rattle.c_typing_state.specs.declared.meanings.NameMeaning.TheVariants as m
use Rattle.c_typing_state.specs.Scopes.{with_meaning, meaning_of}
use Rattle.c_typing_statements.specs.declared.c_typing_function_bodies.functions.FunctionType.{FunctionType}
use Rattle.c_typing_unit_names.specs.declared.names.NameDeclaration.{NameDeclaration}
use Rattle.c_typing_unit_names.specs.declared.names.UnitNames.{UnitNames}
use Rattle.c_typing_unit_names.specs.UnitNames.{is_same_declared, may_follow, object_name, function_name, value_name, first_meaning, with_declared, with_value}
use Rattle.c_typing_declarations.specs.declared.walk.UnitFunction.{UnitFunction}
use Rattle.c_typing_declarations.specs.declared.walk.UnitSoFar.{UnitSoFar}
use Rattle.c_typing_declarations.specs.Walk.{with_names, add_numbered, next_object, object_number, add_object, fill_numbered, keep_cells, function_called, function_by, function_at, add_function, keep_function}
use Rattle.c_typing_declarations.specs.Functions.{function_declared}
use Rattle.c_typing_declarations.specs.Objects.{object_declared}
use Rattle.c_typing_units.specs.Externals.{typedef_of}
use Rattle.c_typing_units.specs.Builtins.{no_names, builtin_declared, builtins}
use Rattle.c_typing_units.specs.Units.{unit_start}
use Rattle.c_typing_expression_sound.proofs.CTypeLaws.Truth.{no_true, front, back, also, either_left, either_right}
use Rattle.c_types.specs.c_found_unit_laws.Laws.{is_tree_kept}
use Rattle.c_types.specs.c_found_unit_laws.Steps.{DeclaresName, First, Again, declared_as, UnitSteps, Stays, Follows, AddsConstant, SeesMain, DeclaresType, DeclaresFunction, DefinesFunction, DeclaresObject, KeepsCells}
use Rattle.c_types.specs.model.c_found_unit_laws.Bodies.{is_function_type, is_body, is_body_in, has_body}
use Rattle.c_types.proofs.CFoundUnitLaws.Externals.{same_function, same_kind, added_body, filled_names}

-- ---- what is said of names

-- a name is declared as a function
abbrev is_function : NameDeclaration → Bool
is_function a = not a.is_typedef && is_function_type a.ty

abbrev is_function_in : Option (ℕ × NameDeclaration) → Bool
is_function_in None = false
is_function_in (Some r) = is_function r.1

abbrev declares_function : List ℕ → UnitNames → Bool
declares_function q u = is_function_in (find q u.declared)

-- the unit defines a function of the name
abbrev is_defined : Definitions → List ℕ → Bool
is_defined ds q = is_some (find q ds.functions)

-- the name means a function
abbrev means_function : Option NameMeaning → Bool
means_function None = false
means_function (Some m.Faulty) = false
means_function (Some (m.Undefined number)) = false
means_function (Some (m.Local number ty)) = false
means_function (Some (m.Object number ty)) = false
means_function (Some (m.Constant word)) = false
means_function (Some (m.Function callee of tys)) = true
means_function (Some (m.Typedef ty)) = false

abbrev is_callee_kept : List UnitFunction → Callee → Bool
is_callee_kept fs (c.Function k) = is_tree_kept fs k
is_callee_kept fs (c.Builtin b) = true

-- the function that the name means was kept
abbrev has_tree : List UnitFunction → Option NameMeaning → Bool
has_tree fs None = false
has_tree fs (Some m.Faulty) = false
has_tree fs (Some (m.Undefined number)) = false
has_tree fs (Some (m.Local number ty)) = false
has_tree fs (Some (m.Object number ty)) = false
has_tree fs (Some (m.Constant word)) = false
has_tree fs (Some (m.Function callee of tys)) = is_callee_kept fs callee
has_tree fs (Some (m.Typedef ty)) = false

-- a name that means the function with a number
record NamedFunction (ds : Definitions) (env : Env) (k : ℕ) : Type 0 where
  q : List ℕ
  of : CType
  tys : List CType
  meaning : meaning_of env q ≡ Some (m.Function (c.Function k) of tys)
  defined : IsTrue (is_defined ds q)

pub record HasFunctions (ds : Definitions) (u : UnitSoFar) (env : Env) : Type 0 where
  kinds : (q : List ℕ) → IsTrue (declares_function q u.names) → IsTrue (is_defined ds q) → IsTrue (means_function (meaning_of env q))
  trees : (q : List ℕ) → IsTrue (has_body q u.names) → IsTrue (is_defined ds q) → IsTrue (has_tree u.functions (meaning_of env q))
  numbers : (k : ℕ) → k < u.names.functions → NamedFunction ds env k

-- ---- names that are added

abbrev named_by : (q name : List ℕ) → NameMeaning → Env → Bool → Option (ℕ × NameMeaning)
named_by q name x env b = if b then Some (length env.names, x) else find q env.names

-- of a name that was not there nothing was said
module _ (test : Option NameMeaning → Bool) (nothing : IsTrue (test None) → IsTrue false) (name : List ℕ) (x : NameMeaning) (env : Env) (free : meaning_of env name ≡ None) where
  still_says : (q : List ℕ) → IsTrue (test (meaning_of env q)) → IsTrue (test (meaning_of (with_meaning name x env) q))
  still_says q h = choose (bytes_eq q name) refl
    where
      choose : (b : Bool) → bytes_eq q name ≡ b → IsTrue (test (option_map (λ r. r.1) (named_by q name x env b)))
      choose true e = no_true (nothing (subst (λ o. IsTrue (test o)) (ap (meaning_of env) ((bytes_eq-Decides q name).0 e) ∙ free) h))
      choose false e = h

still_named : (ds : Definitions) (name : List ℕ) (x : NameMeaning) (env : Env) (k : ℕ) → meaning_of env name ≡ None → NamedFunction ds env k → NamedFunction ds (with_meaning name x env) k
still_named ds name x env k free n = record {
  q = n.q;
  of = n.of;
  tys = n.tys;
  meaning = choose (bytes_eq n.q name) refl;
  defined = n.defined;
}
  where
    choose : (b : Bool) → bytes_eq n.q name ≡ b → option_map (λ r. r.1) (named_by n.q name x env b) ≡ Some (m.Function (c.Function k) n.of n.tys)
    choose true e = none_some (sym (ap (meaning_of env) ((bytes_eq-Decides n.q name).0 e) ∙ free) ∙ n.meaning)
      where
        none_some : {A X : Type 0} {a : A} → None ≡ Some a → X
        none_some e = let clash : ⊥ = cc in absurd clash
    choose false e = n.meaning

free_name : (name : List ℕ) (env : Env) → find name env.names ≡ None → meaning_of env name ≡ None
free_name name env e = ap (option_map (λ r. r.1)) e

nothing_means : IsTrue (means_function None) → IsTrue false
nothing_means h = h

nothing_kept : (fs : List UnitFunction) → IsTrue (has_tree fs None) → IsTrue false
nothing_kept fs h = h

-- ---- functions that are added

more_or : (b c d : Bool) → (IsTrue c → IsTrue d) → IsTrue (b || c) → IsTrue (b || d)
more_or true c d f h = refl
more_or false c d f h = f h

any_front : {A : Type 0} (test : A → Bool) (xs : List A) (y : A) → IsTrue (list_any test xs) → IsTrue (list_any test (xs ++ y ∷ []))
any_front test [] y h = no_true h
any_front test (x ∷ xs) y h = more_or (test x) (list_any test xs) (list_any test (xs ++ y ∷ [])) (any_front test xs y) h

any_last : {A : Type 0} (test : A → Bool) (xs : List A) (y : A) → IsTrue (test y) → IsTrue (list_any test (xs ++ y ∷ []))
any_last test [] y h = either_left (test y) false h
any_last test (x ∷ xs) y h = either_right (test x) (list_any test (xs ++ y ∷ [])) (any_last test xs y h)

-- ---- what a declaration means

-- a declaration that may follow one of a function is one of a function, and the other way round
same_kind_back : (a b : Bool) → IsTrue (beq a b) → IsTrue (not b) → IsTrue (not a)
same_kind_back true true h g = g
same_kind_back true false h g = no_true h
same_kind_back false true h g = refl
same_kind_back false false h g = refl

same_function_back : (a b : DeclaredType) → IsTrue (is_same_declared a b) → IsTrue (is_function_type b) → IsTrue (is_function_type a)
same_function_back a (d.Value b) h g = no_true g
same_function_back a (d.Unsized b) h g = no_true g
same_function_back (d.Value a) (d.Function b ys) h g = no_true h
same_function_back (d.Unsized a) (d.Function b ys) h g = no_true h
same_function_back (d.Function a xs) (d.Function b ys) h g = refl

before_function : (old new : NameDeclaration) → IsTrue (may_follow old new) → IsTrue (is_function new) → IsTrue (is_function old)
before_function old new h g = also (not old.is_typedef) (is_function_type old.ty) (same_kind_back old.is_typedef new.is_typedef (front (beq old.is_typedef new.is_typedef) (is_same_declared old.ty new.ty) kinds) (front (not new.is_typedef) (is_function_type new.ty) g)) (same_function_back old.ty new.ty (back (beq old.is_typedef new.is_typedef) (is_same_declared old.ty new.ty) kinds) (back (not new.is_typedef) (is_function_type new.ty) g))
  where
    kinds : IsTrue (beq old.is_typedef new.is_typedef && is_same_declared old.ty new.ty)
    kinds = front (beq old.is_typedef new.is_typedef && is_same_declared old.ty new.ty) (not (old.has_value && new.has_value)) h

-- another name stands where it stood
skipped : (q name : List ℕ) (a : NameDeclaration) (u : UnitNames) → bytes_eq q name ≡ false → has_body q (with_declared name a u) ≡ has_body q u
skipped q name a u e = ap (λ (b : Bool). is_body_in (if b then Some (length u.declared, a) else find q u.declared)) e

-- a function that is declared here means one, where the unit defines it
first_function : (ds : Definitions) (name : List ℕ) (b : Bool) (of : FunctionType) (u : UnitNames) (defined : Bool) → IsTrue defined → IsTrue (means_function (Some (function_name defined of.result of.parameters u).0))
first_function ds name b of u true h = refl
first_function ds name b of u false h = no_true h

module _ (ds : Definitions) (name : List ℕ) (new : NameDeclaration) where
  -- the meanings of functions that are declared here
  abbrev MeansWell : Type 0
  MeansWell = (u : UnitNames) → IsTrue (is_function new) → IsTrue (is_defined ds name) → IsTrue (means_function (Some (first_meaning ds name new u).0))

  abbrev Kinds : UnitNames → Env → Type 0
  Kinds u env = (q : List ℕ) → IsTrue (declares_function q u) → IsTrue (is_defined ds q) → IsTrue (means_function (meaning_of env q))

  same_declared : (u : UnitNames) → (first_meaning ds name new u).1.declared ≡ u.declared
  same_declared u = choose new.is_typedef
    where
      object : (b : Bool) (ty : CType) → (object_name b ty u).1.declared ≡ u.declared
      object true ty = refl
      object false ty = refl

      function : (b : Bool) (ty : CType) (tys : List CType) → (function_name b ty tys u).1.declared ≡ u.declared
      function true ty tys = refl
      function false ty tys = refl

      value : (ty : DeclaredType) → (value_name ds name ty u).1.declared ≡ u.declared
      value (d.Value ty) = object (is_some (find name ds.objects)) ty
      value (d.Unsized ty) = refl
      value (d.Function ty tys) = function (is_some (find name ds.functions)) ty tys

      choose : (b : Bool) → (if b then (m.Typedef new.ty, u) else value_name ds name new.ty u).1.declared ≡ u.declared
      choose true = refl
      choose false = value new.ty

  first_kinds : (u : UnitNames) (env : Env) → MeansWell → meaning_of env name ≡ None → Kinds u env → Kinds (with_declared name new (first_meaning ds name new u).1) (with_meaning name (first_meaning ds name new u).0 env)
  first_kinds u env well free kinds q h g = choose (bytes_eq q name) refl h
    where
      rest : UnitNames
      rest = (first_meaning ds name new u).1

      choose : (b : Bool) → bytes_eq q name ≡ b → IsTrue (is_function_in (if b then Some (length rest.declared, new) else find q rest.declared))
          → IsTrue (means_function (option_map (λ r. r.1) (named_by q name (first_meaning ds name new u).0 env b)))
      choose true e h = well u h (subst (λ n. IsTrue (is_defined ds n)) ((bytes_eq-Decides q name).0 e) g)
      choose false e h = kinds q (ap (λ xs. is_function_in (find q xs)) (sym (same_declared u)) ∙ h) g

  again_kinds : (u : UnitNames) (env : Env) (old : ℕ × NameDeclaration) (has_value : Bool) → find name u.declared ≡ Some old → IsTrue (may_follow old.1 new) → Kinds u env → Kinds (with_declared name (with_value has_value new) u) env
  again_kinds u env old has_value e may kinds q h g = choose (bytes_eq q name) refl h
    where
      choose : (b : Bool) → bytes_eq q name ≡ b → IsTrue (is_function_in (if b then Some (length u.declared, with_value has_value new) else find q u.declared)) → IsTrue (means_function (meaning_of env q))
      choose true same h = kinds q (ap is_function_in (ap (λ n. find n u.declared) ((bytes_eq-Decides q name).0 same) ∙ e) ∙ before_function old.1 new may h) g
      choose false same h = kinds q h g

  declared_kinds : {u names : UnitNames} {env later : Env} → MeansWell → DeclaresName ds name new u env names later → Kinds u env → Kinds names later
  declared_kinds well (First {u = u} {env = env} e free) kinds = first_kinds u env well free kinds
  declared_kinds well (Again {u = u} {env = env} old e may) kinds = again_kinds u env old (old.1.has_value || new.has_value) e may kinds

  -- the functions that were kept before
  abbrev Trees : List UnitFunction → UnitNames → Env → Type 0
  Trees fs u env = (q : List ℕ) → IsTrue (has_body q u) → IsTrue (is_defined ds q) → IsTrue (has_tree fs (meaning_of env q))

  -- other names have the bodies that they had
  other_trees : {u names : UnitNames} {env later : Env} (fs : List UnitFunction) → DeclaresName ds name new u env names later → Trees fs u env → (q : List ℕ) → bytes_eq q name ≡ false → IsTrue (has_body q names) → IsTrue (is_defined ds q) → IsTrue (has_tree fs (meaning_of later q))
  other_trees fs (First {u = u} {env = env} e free) trees q differs h g =
      still_says (has_tree fs) (nothing_kept fs) name (first_meaning ds name new u).0 env free q
      (trees q (sym_body q u differs h) g)
    where
      sym_body : (q : List ℕ) (u : UnitNames) → bytes_eq q name ≡ false → IsTrue (has_body q (with_declared name new (first_meaning ds name new u).1)) → IsTrue (has_body q u)
      sym_body q u differs h = ap (λ xs. is_body_in (find q xs)) (sym (same_declared u)) ∙ (sym (skipped q name new (first_meaning ds name new u).1 differs) ∙ h)
  other_trees fs (Again {u = u} old e may) trees q differs h g = trees q (sym (skipped q name (with_value (old.1.has_value || new.has_value) new) u differs) ∙ h) g

-- ---- numbers

zero_less : (n : ℕ) → 0 < suc n
zero_less n = omega arith

none_below : (k : ℕ) → suc k < 0 + 1 → ⊥
none_below k h = omega arith

less_before : (k n : ℕ) → suc k < suc n + 1 → k < n + 1
less_before k n h = omega arith

less_after : (k n : ℕ) → k < n → suc k < suc n
less_after k n h = omega arith

-- below one more than a number is what is below it, and itself
below : {X : Type 0} (k n : ℕ) → k < n + 1 → (k < n → X) → (n ≡ k → X) → X
below zero zero h f g = g refl
below zero (suc n) h f g = f (zero_less n)
below (suc k) zero h f g = absurd (none_below k h)
below (suc k) (suc n) h f g = below k n (less_before k n h) (λ l. f (less_after k n l)) (λ e. g (ap suc e))

module _ (ds : Definitions) (name : List ℕ) (new : NameDeclaration) where
  abbrev Numbers : UnitNames → Env → Type 0
  Numbers u env = (k : ℕ) → k < u.functions → NamedFunction ds env k

  -- what a first declaration makes of the numbers
  abbrev NumbersWell : Type 0
  NumbersWell = (u : UnitNames) (env : Env) → meaning_of env name ≡ None → Numbers u env → Numbers (first_meaning ds name new u).1 (with_meaning name (first_meaning ds name new u).0 env)

  declared_numbers : {u names : UnitNames} {env later : Env} → NumbersWell → DeclaresName ds name new u env names later → Numbers u env → Numbers names later
  declared_numbers well (First {u = u} {env = env} e free) numbers = well u env free numbers
  declared_numbers well (Again old e may) numbers = numbers

-- the name itself, in front
own_name : (name : List ℕ) (x : NameMeaning) (env : Env) → meaning_of (with_meaning name x env) name ≡ Some x
own_name name x env = choose (bytes_eq name name) ((bytes_eq-Decides name name).1 refl)
  where
    choose : (b : Bool) → b ≡ true → option_map (λ r. r.1) (named_by name name x env b) ≡ Some x
    choose true e = refl
    choose false e = no_true e

typedef_numbers : (ds : Definitions) (name : List ℕ) (ty : DeclaredType) → NumbersWell ds name (typedef_of ty)
typedef_numbers ds name ty u env free numbers k h = still_named ds name (m.Typedef ty) env k free (numbers k h)

object_numbers : (ds : Definitions) (name : List ℕ) (ty : CType) (has_value : Bool) → NumbersWell ds name (object_declared ty has_value)
object_numbers ds name ty has_value u env free numbers k = choose (is_some (find name ds.objects))
  where
    choose : (b : Bool) → k < (object_name b ty u).1.functions → NamedFunction ds (with_meaning name (object_name b ty u).0 env) k
    choose true h = still_named ds name (object_name true ty u).0 env k free (numbers k h)
    choose false h = still_named ds name (object_name false ty u).0 env k free (numbers k h)

function_numbers : (ds : Definitions) (name : List ℕ) (has_body : Bool) (of : FunctionType) → NumbersWell ds name (function_declared has_body (declared_as of))
function_numbers ds name has_body of u env free numbers k = choose (is_some (find name ds.functions)) refl
  where
    choose : (b : Bool) → is_some (find name ds.functions) ≡ b → k < (function_name b of.result of.parameters u).1.functions → NamedFunction ds (with_meaning name (function_name b of.result of.parameters u).0 env) k
    choose true e h = below k u.functions h (λ less. still_named ds name (m.Function (c.Function u.functions) of.result of.parameters) env k free (numbers k less))
        (λ same. subst (λ n. NamedFunction ds (with_meaning name (m.Function (c.Function u.functions) of.result of.parameters) env) n) same (record {
          q = name;
          of = of.result;
          tys = of.parameters;
          meaning = own_name name (m.Function (c.Function u.functions) of.result of.parameters) env;
          defined = e;
        }))
    choose false e h = still_named ds name (m.Undefined u.undefined) env k free (numbers k h)

-- ---- what steps keep

typedef_well : (ds : Definitions) (name : List ℕ) (ty : DeclaredType) → MeansWell ds name (typedef_of ty)
typedef_well ds name ty u h g = no_true h

object_well : (ds : Definitions) (name : List ℕ) (ty : CType) (has_value : Bool) → MeansWell ds name (object_declared ty has_value)
object_well ds name ty has_value u h g = no_true h

function_well : (ds : Definitions) (name : List ℕ) (has_body : Bool) (of : FunctionType) → MeansWell ds name (function_declared has_body (declared_as of))
function_well ds name has_body of u h g = first_function ds name has_body of u (is_some (find name ds.functions)) g

-- what is found of the name that was declared
own_body : (name q : List ℕ) (a : NameDeclaration) (u : UnitNames) → q ≡ name → IsTrue (has_body q (with_declared name a u)) → IsTrue (is_body a)
own_body name q a u same h = choose (bytes_eq q name) ((bytes_eq-Decides q name).1 same) h
  where
    choose : (b : Bool) → b ≡ true → IsTrue (is_body_in (if b then Some (length u.declared, a) else find q u.declared)) → IsTrue (is_body a)
    choose true e h = h
    choose false e h = no_true e

-- a declaration of a function without a body is none
no_value : (a : NameDeclaration) → (IsTrue (is_function a) → a.has_value ≡ false) → is_body a ≡ false
no_value a f = choose (not a.is_typedef) a.has_value (is_function_type a.ty) f
  where
    choose : (x y z : Bool) → (IsTrue (x && z) → y ≡ false) → (x && y && z) ≡ false
    choose true true true f = f refl
    choose true true false f = refl
    choose true false z f = refl
    choose false y z f = refl

old_body : (old new : NameDeclaration) → IsTrue (may_follow old new) → (IsTrue (is_function new) → new.has_value ≡ false) → IsTrue (is_body (with_value (old.has_value || new.has_value) new)) → IsTrue (is_body old)
old_body old new may f h =
    let kind = front (not new.is_typedef) (old.has_value || new.has_value) (front (not new.is_typedef && (old.has_value || new.has_value)) (is_function_type new.ty) h) in
    let value = back (not new.is_typedef) (old.has_value || new.has_value) (front (not new.is_typedef && (old.has_value || new.has_value)) (is_function_type new.ty) h) in
    let type = back (not new.is_typedef && (old.has_value || new.has_value)) (is_function_type new.ty) h in
    let own = also (not new.is_typedef) (is_function_type new.ty) kind type in
    let before = before_function old new may own in
    also (not old.is_typedef && old.has_value) (is_function_type old.ty)
    (also (not old.is_typedef) old.has_value (front (not old.is_typedef) (is_function_type old.ty) before) (old_value old.has_value new.has_value (f own) value)) (back (not old.is_typedef) (is_function_type old.ty) before)
  where
    old_value : (a b : Bool) → b ≡ false → IsTrue (a || b) → IsTrue a
    old_value true b e h = refl
    old_value false b e h = no_true (sym e ∙ h)

-- the tree of a name that is declared again, without a body
own_tree : (ds : Definitions) (name : List ℕ) (new : NameDeclaration) → (IsTrue (is_function new) → new.has_value ≡ false) → {u names : UnitNames} {env later : Env} (fs : List UnitFunction) → DeclaresName ds name new u env names later → Trees ds name new fs u env → (q : List ℕ) → q ≡ name
    → IsTrue (has_body q names) → IsTrue (is_defined ds q) → IsTrue (has_tree fs (meaning_of later q))
own_tree ds name new no_body fs (First {u = u} e free) trees q same body defined = no_true (sym (no_value new no_body) ∙ own_body name q new (first_meaning ds name new u).1 same body)
own_tree ds name new no_body fs (Again {u = u} old e may) trees q same body defined =
    trees q (ap is_body_in (ap (λ n. find n u.declared) same ∙ e) ∙ old_body old.1 new may no_body (own_body name q (with_value (old.1.has_value || new.has_value) new) u same body)) defined

-- a declaration that is no body of a function
plain_trees : (ds : Definitions) (name : List ℕ) (new : NameDeclaration) → (IsTrue (is_function new) → new.has_value ≡ false) → {u names : UnitNames} {env later : Env} (fs : List UnitFunction) → DeclaresName ds name new u env names later → Trees ds name new fs u env → Trees ds name new fs names later
plain_trees ds name new no_body {later = later} fs h trees q body defined = choose (bytes_eq q name) refl
  where
    choose : (b : Bool) → bytes_eq q name ≡ b → IsTrue (has_tree fs (meaning_of later q))
    choose true e = own_tree ds name new no_body fs h trees q ((bytes_eq-Decides q name).0 e) body defined
    choose false e = other_trees ds name new fs h trees q e body defined

-- ---- a function that is kept

own_function : (name : List ℕ) (a : NameDeclaration) (u : UnitNames) → IsTrue (is_function a) → IsTrue (declares_function name (with_declared name a u))
own_function name a u h = choose (bytes_eq name name) ((bytes_eq-Decides name name).1 refl)
  where
    choose : (b : Bool) → b ≡ true → IsTrue (is_function_in (if b then Some (length u.declared, a) else find name u.declared))
    choose true e = h
    choose false e = no_true e

body_is_function : (ds : Definitions) (name : List ℕ) (of : FunctionType) {u names : UnitNames} {env later : Env} → DeclaresName ds name (function_declared true (declared_as of)) u env names later → IsTrue (declares_function name names)
body_is_function ds name of (First {u = u} e g) = own_function name (function_declared true (declared_as of)) (first_meaning ds name (function_declared true (declared_as of)) u).1 refl
body_is_function ds name of (Again {u = u} old e g) = own_function name (with_value (old.1.has_value || true) (function_declared true (declared_as of))) u refl

module _ (ds : Definitions) (name : List ℕ) (made : TypedFn) (v : UnitSoFar) (later : Env) where
  -- of the number that the name means
  abbrev KeptTrees : Option ℕ → Type 0
  KeptTrees number = (q : List ℕ) → IsTrue (has_body q v.names) → IsTrue (is_defined ds q) → IsTrue (has_tree (add_function number made v).functions (meaning_of later q))

  more_trees : (number : Option ℕ) (o : Option NameMeaning) → IsTrue (has_tree v.functions o) → IsTrue (has_tree (add_function number made v).functions o)
  more_trees None o h = h
  more_trees (Some number) None h = no_true h
  more_trees (Some number) (Some m.Faulty) h = no_true h
  more_trees (Some number) (Some (m.Undefined k)) h = no_true h
  more_trees (Some number) (Some (m.Local k ty)) h = no_true h
  more_trees (Some number) (Some (m.Object k ty)) h = no_true h
  more_trees (Some number) (Some (m.Constant word)) h = no_true h
  more_trees (Some number) (Some (m.Function (c.Function k) of tys)) h = any_front (λ (f : UnitFunction). f.number == k) v.functions (record { number = number; function = made }) h
  more_trees (Some number) (Some (m.Function (c.Builtin b) of tys)) h = refl
  more_trees (Some number) (Some (m.Typedef ty)) h = no_true h

  -- the name itself
  own_kept : (o : Option NameMeaning) → IsTrue (means_function o) → IsTrue (has_tree (add_function (function_by o) made v).functions o)
  own_kept None h = no_true h
  own_kept (Some m.Faulty) h = no_true h
  own_kept (Some (m.Undefined k)) h = no_true h
  own_kept (Some (m.Local k ty)) h = no_true h
  own_kept (Some (m.Object k ty)) h = no_true h
  own_kept (Some (m.Constant word)) h = no_true h
  own_kept (Some (m.Function (c.Function k) of tys)) h = any_last (λ (f : UnitFunction). f.number == k) v.functions (record { number = k; function = made }) ((Decides-eqb k k).1 refl)
  own_kept (Some (m.Function (c.Builtin b) of tys)) h = refl
  own_kept (Some (m.Typedef ty)) h = no_true h

  kept_same : (number : Option ℕ) → (add_function number made v).names ≡ v.names
  kept_same None = refl
  kept_same (Some number) = refl

  defined_functions : ((q : List ℕ) → IsTrue (declares_function q v.names) → IsTrue (is_defined ds q) → IsTrue (means_function (meaning_of later q)))
      → ((q : List ℕ) → bytes_eq q name ≡ false → IsTrue (has_body q v.names) → IsTrue (is_defined ds q) → IsTrue (has_tree v.functions (meaning_of later q)))
      → ((k : ℕ) → k < v.names.functions → NamedFunction ds later k) → IsTrue (declares_function name v.names) → HasFunctions ds (keep_function later name (Some made) v) later
  defined_functions kinds others numbers function = record {
    kinds = λ q a b. kinds q (subst (λ n. IsTrue (declares_function q n)) (kept_same (function_at later name)) a) b;
    trees = λ q a b. tree q (subst (λ n. IsTrue (has_body q n)) (kept_same (function_at later name)) a) b;
    numbers = λ k a. numbers k (subst (λ n. k < n.functions) (kept_same (function_at later name)) a);
  }
    where
      tree : (q : List ℕ) → IsTrue (has_body q v.names) → IsTrue (is_defined ds q) → IsTrue (has_tree (keep_function later name (Some made) v).functions (meaning_of later q))
      tree q a b = choose (bytes_eq q name) refl
        where
          choose : (x : Bool) → bytes_eq q name ≡ x → IsTrue (has_tree (keep_function later name (Some made) v).functions (meaning_of later q))
          choose true e =
              let same = (bytes_eq-Decides q name).0 e in
              subst (λ n. IsTrue (has_tree (keep_function later name (Some made) v).functions (meaning_of later n))) (sym same)
              (own_kept (meaning_of later name) (kinds name function (subst (λ n. IsTrue (is_defined ds n)) same b)))
          choose false e = more_trees (function_at later name) (meaning_of later q) (others q e a b)

-- ---- objects are no functions

object_kept : (ds : Definitions) (o : Option ℕ) (name : List ℕ) (ty : CType) (v : UnitSoFar) (later : Env) → HasFunctions ds v later → HasFunctions ds (add_numbered o name ty v) later
object_kept ds None name ty v later h = h
object_kept ds (Some number) name ty v later h = next (number == length v.objects)
  where
    next : (b : Bool) → HasFunctions ds (next_object b name ty v) later
    next true = record { kinds = h.kinds; trees = h.trees; numbers = h.numbers }
    next false = h

cells_kept : (ds : Definitions) (o : Option ℕ) (cells : List DataCell) (v : UnitSoFar) (later : Env) → HasFunctions ds v later → HasFunctions ds (fill_numbered o cells v) later
cells_kept ds None cells v later h = h
cells_kept ds (Some number) cells v later h = record { kinds = h.kinds; trees = h.trees; numbers = h.numbers }

pub steps_keep_functions : (ds : Definitions) {u v : UnitSoFar} {env later : Env} → UnitSteps ds u env v later → HasFunctions ds u env → HasFunctions ds v later
steps_keep_functions ds Stays h = h
steps_keep_functions ds (Follows g k) h = steps_keep_functions ds k (steps_keep_functions ds g h)
steps_keep_functions ds (AddsConstant {u = u} {env = env} name word e g) h = record {
  kinds = λ q a b. still_says means_function nothing_means name (m.Constant word) env (free_name name env e) q (h.kinds q a b);
  trees = λ q a b. still_says (has_tree u.functions) (nothing_kept u.functions) name (m.Constant word) env (free_name name env e) q (h.trees q a b);
  numbers = λ k a. still_named ds name (m.Constant word) env k (free_name name env e) (h.numbers k a);
}
steps_keep_functions ds (SeesMain b) h = record { kinds = h.kinds; trees = h.trees; numbers = h.numbers }
steps_keep_functions ds (DeclaresType {u = u} name ty g) h = record {
  kinds = declared_kinds ds name (typedef_of ty) (typedef_well ds name ty) g h.kinds;
  trees = plain_trees ds name (typedef_of ty) (λ a. no_true a) u.functions g h.trees;
  numbers = declared_numbers ds name (typedef_of ty) (typedef_numbers ds name ty) g h.numbers;
}
steps_keep_functions ds (DeclaresFunction {u = u} name of g) h = record {
  kinds = declared_kinds ds name (function_declared false (declared_as of)) (function_well ds name false of) g h.kinds;
  trees = plain_trees ds name (function_declared false (declared_as of)) (λ a. refl) u.functions g h.trees;
  numbers = declared_numbers ds name (function_declared false (declared_as of)) (function_numbers ds name false of) g h.numbers;
}
steps_keep_functions ds (DefinesFunction {u = u} {names = names} {later = later} e of list n made g same) h =
    let new = function_declared true (declared_as of) in
    defined_functions ds e.name made (with_names names u) later (declared_kinds ds e.name new (function_well ds e.name true of) g h.kinds) (other_trees ds e.name new u.functions g h.trees)
    (declared_numbers ds e.name new (function_numbers ds e.name true of) g h.numbers) (body_is_function ds e.name of g)
steps_keep_functions ds (DeclaresObject {u = u} {names = names} {later = later} name ty has_value g) h =
    object_kept ds (object_number later name) name ty (with_names names u) later (record {
      kinds = declared_kinds ds name (object_declared ty has_value) (object_well ds name ty has_value) g h.kinds;
      trees = plain_trees ds name (object_declared ty has_value) (λ a. no_true a) u.functions g h.trees;
      numbers = declared_numbers ds name (object_declared ty has_value) (object_numbers ds name ty has_value) g h.numbers;
    })
steps_keep_functions ds (KeepsCells {u = u} {env = env} name cells) h = cells_kept ds (object_number env name) cells u env h

-- ---- at the end

kept_here : (fs : List UnitFunction) (k : ℕ) (of : CType) (tys : List CType) (o : Option NameMeaning) → o ≡ Some (m.Function (c.Function k) of tys) → IsTrue (has_tree fs o) → IsTrue (is_tree_kept fs k)
kept_here fs k of tys o e h = subst (λ o. IsTrue (has_tree fs o)) e h

-- where each function that the unit defines has a body, each that has a number was kept
pub all_kept : (ds : Definitions) (u : UnitSoFar) (env : Env) → HasFunctions ds u env → ((q : List ℕ) → IsTrue (is_some (find q ds.functions)) → IsTrue (has_body q u.names)) → (k : ℕ) → k < u.names.functions → IsTrue (is_tree_kept u.functions k)
all_kept ds u env h bodies k less =
    let n = h.numbers k less in
    kept_here u.functions k n.of n.tys (meaning_of env n.q) n.meaning (h.trees n.q (bodies n.q n.defined) n.defined)

-- ---- before the first declaration

-- the functions that are there before
record HasBuiltins (u : UnitNames) (env : Env) : Type 0 where
  kinds : (q : List ℕ) → IsTrue (declares_function q u) → IsTrue (means_function (meaning_of env q))
  trees : (q : List ℕ) → IsTrue (has_body q u) → IsTrue (has_tree [] (meaning_of env q))

builtin_there : (name : List ℕ) (b : Builtin) (of : CType) (tys : List CType) (r : UnitNames × Env) → HasBuiltins r.0 r.1 → (let v = builtin_declared name b of tys r in HasBuiltins v.0 v.1)
builtin_there name b of tys r h = record { kinds = λ q g. kind q (bytes_eq q name) g; trees = λ q g. tree q (bytes_eq q name) g }
  where
    a : NameDeclaration
    a = record { is_typedef = false; ty = d.Function of tys; has_value = true }

    kind : (q : List ℕ) (x : Bool) → IsTrue (is_function_in (if x then Some (length r.0.declared, a) else find q r.0.declared)) → IsTrue (means_function (option_map (λ r. r.1) (named_by q name (m.Function (c.Builtin b) of tys) r.1 x)))
    kind q true g = refl
    kind q false g = h.kinds q g

    tree : (q : List ℕ) (x : Bool) → IsTrue (is_body_in (if x then Some (length r.0.declared, a) else find q r.0.declared)) → IsTrue (has_tree [] (option_map (λ r. r.1) (named_by q name (m.Function (c.Builtin b) of tys) r.1 x)))
    tree q true g = refl
    tree q false g = h.trees q g

no_builtins : HasBuiltins no_names (record { names = []; outside = 0 })
no_builtins = record { kinds = λ q g. no_true g; trees = λ q g. no_true g }

all_builtins : HasBuiltins builtins.0 builtins.1
all_builtins =
    builtin_there _ _ _ _ _ (builtin_there _ _ _ _ _ (builtin_there _ _ _ _ _ (builtin_there _ _ _ _ _ no_builtins)))

no_less : {X : Type 0} (k : ℕ) → k < 0 → X
no_less k h = absurd (none k h)
  where
    none : (k : ℕ) → k < 0 → ⊥
    none k h = omega arith

pub start_functions : (ds : Definitions) → HasFunctions ds (unit_start ds).0 (unit_start ds).1.1.0
start_functions ds = record {
  kinds = λ q g k. all_builtins.kinds q g;
  trees = λ q g k. all_builtins.trees q g;
  numbers = λ k h. no_less k h;
}
