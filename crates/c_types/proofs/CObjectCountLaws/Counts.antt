-- As many names mean an object as have a number.
use Rattle.std.proofs.Common.{◌≡◌, ℕ, suc, ◌+◌, Bool, true, false, IsTrue, List, [], ◌∷◌, length, bytes_eq, Option, Some, None, is_some, refl, sym, ap, ◌∙◌, subst, arith, zero-add, if◌then◌else◌}
use Rattle.std.specs.Option.{option_map}
use Rattle.std.proofs.lemmas.Slice.Eq.{bytes_eq-Decides}
use Rattle.c_typing_scopes.specs.Names.{Entry, find}
use Rattle.c_typing_definitions.specs.declared.names.Definitions.{Definitions}
use Rattle.c_typing_definitions.specs.Definitions.{NameSet}
use Rattle.c_typing_rules.specs.declared.c_typing_declared_types.declared.DeclaredType.{DeclaredType}
use Rattle.c_typing_rules.specs.declared.c_typing_declared_types.declared.DeclaredType.TheVariants as d
use Rattle.c_typed_tree.specs.declared.types.CType.{CType}
use Rattle.c_typed_tree.specs.declared.units.TypedFn.{TypedFn}
use Rattle.c_typing_state.specs.declared.env.Env.{Env}
use Rattle.c_typing_state.specs.declared.meanings.NameMeaning.{NameMeaning}
use Rattle.c_typing_state.specs.declared.meanings.NameMeaning.TheVariants as m
use Rattle.c_typing_state.specs.Scopes.{with_meaning, meaning_of}
use Rattle.c_typing_unit_names.specs.declared.names.NameDeclaration.{NameDeclaration}
use Rattle.c_typing_unit_names.specs.declared.names.UnitNames.{UnitNames}
use Rattle.c_typing_unit_names.specs.UnitNames.{object_name, function_name, value_name, first_meaning}
use Rattle.c_typing_declarations.specs.declared.walk.UnitSoFar.{UnitSoFar}
use Rattle.c_typing_declarations.specs.Walk.{with_names, object_number, function_at, add_function}
use Rattle.c_typing_declarations.specs.Functions.{function_declared}
use Rattle.c_typing_declarations.specs.Objects.{object_declared}
use Rattle.c_types.specs.c_found_unit_laws.Externals.{typedef_of}
use Rattle.c_typing_expression_sound.proofs.CTypeLaws.Truth.{no_true}
use Rattle.c_types.specs.c_found_unit_laws.Steps.{DeclaresName, First, Again, declared_as, UnitSteps, Stays, Follows, AddsConstant, SeesMain, DeclaresType, DeclaresFunction, DefinesFunction, DeclaresObject, KeepsCells}
use Rattle.c_types.proofs.CFoundUnitLaws.Externals.{added_body, filled_names}

-- ---- names and what they mean

pub none_some : {A X : Type 0} {a : A} → Some a ≡ None → X
none_some e = let clash : ⊥ = cc in absurd clash

pub is_none : {A : Type 0} (o : Option A) → is_some o ≡ false → o ≡ None
is_none None e = refl
is_none (Some a) e = no_true (sym e)

abbrev named_by : (q name : List ℕ) → NameMeaning → Env → Bool → Option (ℕ × NameMeaning)
named_by q name x env b = if b then Some (length env.names, x) else find q env.names

pub own_meaning : (name : List ℕ) (x : NameMeaning) (env : Env) → meaning_of (with_meaning name x env) name ≡ Some x
own_meaning name x env = ap (λ (b : Bool). option_map (λ r. r.1) (named_by name name x env b)) ((bytes_eq-Decides name name).1 refl)

pub other_meaning : (q name : List ℕ) (x : NameMeaning) (env : Env) → bytes_eq q name ≡ false → meaning_of (with_meaning name x env) q ≡ meaning_of env q
other_meaning q name x env e = ap (λ (b : Bool). option_map (λ r. r.1) (named_by q name x env b)) e

not_same : (q name : List ℕ) → (q ≡ name → ⊥) → bytes_eq q name ≡ false
not_same q name h = choose (bytes_eq q name) refl
  where
    choose : (b : Bool) → bytes_eq q name ≡ b → bytes_eq q name ≡ false
    choose true e = absurd (h ((bytes_eq-Decides q name).0 e))
    choose false e = e

pub free_name : (name : List ℕ) (env : Env) → find name env.names ≡ None → meaning_of env name ≡ None
free_name name env e = ap (option_map (λ r. r.1)) e

-- ---- names that mean objects

abbrev pub is_object : Option NameMeaning → Bool
is_object None = false
is_object (Some m.Faulty) = false
is_object (Some (m.Undefined number)) = false
is_object (Some (m.Local number ty)) = false
is_object (Some (m.Object number ty)) = true
is_object (Some (m.Constant word)) = false
is_object (Some (m.Function callee of tys)) = false
is_object (Some (m.Typedef ty)) = false

abbrev pub one_if : Bool → ℕ
one_if false = 0
one_if true = 1

abbrev pub count : Env → NameSet → ℕ
count env [] = 0
count env (e ∷ ns) = one_if (is_object (meaning_of env e.name)) + count env ns

-- each name stands once
abbrev pub AreDistinct : NameSet → Type 0
AreDistinct [] = Unit {0}
AreDistinct (e ∷ ns) = (find e.name ns ≡ None) × AreDistinct ns

module _ (name : List ℕ) (x : NameMeaning) (env : Env) where
  abbrev Later : Env
  Later = with_meaning name x env

  first_skipped : (e : Entry (Unit {0})) (ns : NameSet) (b : Bool) → bytes_eq name e.name ≡ b → (if b then Some (length ns, e.value) else find name ns) ≡ None → (name ≡ e.name → ⊥) × (find name ns ≡ None)
  first_skipped e ns true g h = none_some h
  first_skipped e ns false g h = (λ same. no_true (sym g ∙ (bytes_eq-Decides name e.name).1 same), h)

  count_free : (ns : NameSet) → find name ns ≡ None → count Later ns ≡ count env ns
  count_free [] h = refl
  count_free (e ∷ ns) h =
      let r = first_skipped e ns (bytes_eq name e.name) refl h in
      ap (λ o. one_if (is_object o) + count Later ns) (other_meaning e.name name x env (not_same e.name name (λ same. r.0 (sym same))))
      ∙ ap (λ n. one_if (is_object (meaning_of env e.name)) + n) (count_free ns r.1)

  one_more : (a c n k : ℕ) → k ≡ c + n → a + k ≡ c + (a + n)
  one_more a c n k e = omega arith

  -- the name was not there
  module _ (free : meaning_of env name ≡ None) where
    own_here : (e : Entry (Unit {0})) (ns : NameSet) → name ≡ e.name → find e.name ns ≡ None → count Later (e ∷ ns) ≡ one_if (is_object (Some x)) + count env (e ∷ ns)
    own_here e ns same apart =
        subst (λ q. find q ns ≡ None → one_if (is_object (meaning_of Later q)) + count Later ns ≡ one_if (is_object (Some x)) + (one_if (is_object (meaning_of env q)) + count env ns)) same here apart
      where
        zero_more : (c n : ℕ) → c + n ≡ c + (0 + n)
        zero_more c n = omega arith

        here : find name ns ≡ None → one_if (is_object (meaning_of Later name)) + count Later ns ≡ one_if (is_object (Some x)) + (one_if (is_object (meaning_of env name)) + count env ns)
        here apart =
            ap (λ o. one_if (is_object o) + count Later ns) (own_meaning name x env)
            ∙ (ap (λ n. one_if (is_object (Some x)) + n) (count_free ns apart)
            ∙ (zero_more (one_if (is_object (Some x))) (count env ns) ∙ ap (λ o. one_if (is_object (Some x)) + (one_if (is_object o) + count env ns)) (sym free)))

    found_by : (e : Entry (Unit {0})) (ns : NameSet) (b : Bool) → bytes_eq name e.name ≡ b → find e.name ns ≡ None → IsTrue (is_some (if b then Some (length ns, e.value) else find name ns))
        → (IsTrue (is_some (find name ns)) → count Later ns ≡ one_if (is_object (Some x)) + count env ns) → count Later (e ∷ ns) ≡ one_if (is_object (Some x)) + count env (e ∷ ns)
    found_by e ns true g apart h rest = own_here e ns ((bytes_eq-Decides name e.name).0 g) apart
    found_by e ns false g apart h rest =
        ap (λ o. one_if (is_object o) + count Later ns) (other_meaning e.name name x env (not_same e.name name (λ same. no_true (sym g ∙ (bytes_eq-Decides name e.name).1 (sym same)))))
        ∙ one_more (one_if (is_object (meaning_of env e.name))) (one_if (is_object (Some x))) (count env ns) (count Later ns) (rest h)

    count_found : (ns : NameSet) → AreDistinct ns → IsTrue (is_some (find name ns)) → count Later ns ≡ one_if (is_object (Some x)) + count env ns
    count_found [] apart h = no_true h
    count_found (e ∷ ns) apart h = found_by e ns (bytes_eq name e.name) refl apart.0 h (λ k. count_found ns apart.1 k)

    -- only a name that is in the list may mean an object
    count_with : (ns : NameSet) → AreDistinct ns → (IsTrue (is_object (Some x)) → IsTrue (is_some (find name ns))) → count Later ns ≡ one_if (is_object (Some x)) + count env ns
    count_with ns apart own = either (is_some (find name ns)) refl
      where
        either : (b : Bool) → is_some (find name ns) ≡ b → count Later ns ≡ one_if (is_object (Some x)) + count env ns
        either true e = count_found ns apart e
        either false e = no_object (is_object (Some x)) refl
          where
            no_object : (c : Bool) → is_object (Some x) ≡ c → count Later ns ≡ one_if (is_object (Some x)) + count env ns
            no_object true g = no_true (sym e ∙ own g)
            no_object false g = count_free ns (is_none (find name ns) e) ∙ (sym (zero-add (count env ns)) ∙ ap (λ (c : Bool). one_if c + count env ns) (sym g))

-- ---- declarations

-- a name that is declared first has the next number, if it is an object
first_counts : (ds : Definitions) (name : List ℕ) (new : NameDeclaration) (u : UnitNames) → (let r = first_meaning ds name new u in (r.1.objects ≡ one_if (is_object (Some r.0)) + u.objects) × (IsTrue (is_object (Some r.0)) → IsTrue (is_some (find name ds.objects))))
first_counts ds name new u = choose new.is_typedef
  where
    Counts : NameMeaning × UnitNames → Type 0
    Counts r = (r.1.objects ≡ one_if (is_object (Some r.0)) + u.objects) × (IsTrue (is_object (Some r.0)) → IsTrue (is_some (find name ds.objects)))

    next : (n : ℕ) → n + 1 ≡ 1 + n
    next n = omega arith

    object : (b : Bool) → is_some (find name ds.objects) ≡ b → (ty : CType) → Counts (object_name b ty u)
    object true e ty = (next u.objects, λ h. e)
    object false e ty = (sym (zero-add u.objects), λ h. no_true h)

    function : (b : Bool) (ty : CType) (tys : List CType) → Counts (function_name b ty tys u)
    function true ty tys = (sym (zero-add u.objects), λ h. no_true h)
    function false ty tys = (sym (zero-add u.objects), λ h. no_true h)

    value : (ty : DeclaredType) → Counts (value_name ds name ty u)
    value (d.Value ty) = object (is_some (find name ds.objects)) refl ty
    value (d.Unsized ty) = (sym (zero-add u.objects), λ h. no_true h)
    value (d.Function ty tys) = function (is_some (find name ds.functions)) ty tys

    choose : (b : Bool) → Counts (if b then (m.Typedef new.ty, u) else value_name ds name new.ty u)
    choose true = (sym (zero-add u.objects), λ h. no_true h)
    choose false = value new.ty

module _ (ds : Definitions) (apart : AreDistinct ds.objects) where
  abbrev pub IsCounted : UnitNames → Env → Type 0
  IsCounted u env = u.objects ≡ count env ds.objects

  declared_counts : (name : List ℕ) (new : NameDeclaration) {u names : UnitNames} {env later : Env} → DeclaresName ds name new u env names later → IsCounted u env → IsCounted names later
  declared_counts name new (First {u = u} {env = env} e free) h =
      let r = first_meaning ds name new u in
      let c = first_counts ds name new u in
      c.0 ∙ (ap (λ n. one_if (is_object (Some r.0)) + n) h ∙ sym (count_with name r.0 env free ds.objects apart c.1))
  declared_counts name new (Again old e may) h = h

  -- what is no object changes no number
  plain_count : (name : List ℕ) (x : NameMeaning) (env : Env) → meaning_of env name ≡ None → is_object (Some x) ≡ false → count (with_meaning name x env) ds.objects ≡ count env ds.objects
  plain_count name x env free e =
      count_with name x env free ds.objects apart (λ t. no_true (sym e ∙ t)) ∙ (ap (λ (b : Bool). one_if b + count env ds.objects) e ∙ zero-add (count env ds.objects))

  added_names : (o : Option ℕ) (made : TypedFn) (u : UnitSoFar) → (add_function o made u).names ≡ u.names
  added_names None made u = refl
  added_names (Some number) made u = refl

  same_names : (later : Env) {v w : UnitNames} → v ≡ w → IsCounted w later → IsCounted v later
  same_names later e h = ap (λ (n : UnitNames). n.objects) e ∙ h

  pub steps_count : {u v : UnitSoFar} {env later : Env} → UnitSteps ds u env v later → IsCounted u.names env → IsCounted v.names later
  steps_count Stays h = h
  steps_count (Follows g k) h = steps_count k (steps_count g h)
  steps_count (AddsConstant {env = env} name word e g) h = h ∙ sym (plain_count name (m.Constant word) env (free_name name env e) refl)
  steps_count (SeesMain b) h = h
  steps_count (DeclaresType name ty g) h = declared_counts name (typedef_of ty) g h
  steps_count (DeclaresFunction name of g) h = declared_counts name (function_declared false (declared_as of)) g h
  steps_count (DefinesFunction {u = u} {names = names} {later = later} e of list n made g same) h =
      same_names later (added_names (function_at later e.name) made (with_names names u)) (declared_counts e.name (function_declared true (declared_as of)) g h)
  steps_count (DeclaresObject {u = u} {names = names} {later = later} name ty has_value g) h =
      same_names later (added_body (object_number later name) name ty (with_names names u)) (declared_counts name (object_declared ty has_value) g h)
  steps_count (KeepsCells {u = u} {env = env} name cells) h = same_names env (filled_names (object_number env name) cells u) h

-- ---- all names, and none

pub count_all : (env : Env) (ns : NameSet) → AreDistinct ns → ((q : List ℕ) → IsTrue (is_some (find q ns)) → IsTrue (is_object (meaning_of env q))) → count env ns ≡ length ns
count_all env [] apart h = refl
count_all env (e ∷ ns) apart h =
    ap (λ (b : Bool). one_if b + count env ns) (h e.name here) ∙ (ap (λ n. 1 + n) (count_all env ns apart.1 (λ q k. h q (behind q k))) ∙ next (length ns))
  where
    next : (n : ℕ) → 1 + n ≡ suc n
    next n = omega arith

    here : IsTrue (is_some (find e.name (e ∷ ns)))
    here = ap (λ (b : Bool). is_some (if b then Some (length ns, e.value) else find e.name ns)) ((bytes_eq-Decides e.name e.name).1 refl)

    behind : (q : List ℕ) → IsTrue (is_some (find q ns)) → IsTrue (is_some (find q (e ∷ ns)))
    behind q k = either (bytes_eq q e.name)
      where
        either : (b : Bool) → IsTrue (is_some (if b then Some (length ns, e.value) else find q ns))
        either true = refl
        either false = k

pub count_none : (env : Env) (ns : NameSet) → ((q : List ℕ) → is_object (meaning_of env q) ≡ false) → count env ns ≡ 0
count_none env [] h = refl
count_none env (e ∷ ns) h = ap (λ (b : Bool). one_if b + count env ns) (h e.name) ∙ (zero-add (count env ns) ∙ count_none env ns h)
