-- The names of functions that were kept, and `main`.
use Rattle.std.proofs.Common.{◌≡◌, ℕ, ◌+◌, ◌<◌, ◌≤◌, arith, Bool, true, false, ◌&&◌, ◌||◌, ◌==◌, IsTrue, List, [], ◌∷◌, ◌++◌, length, map, bytes_eq, codes, Option, Some, None, IfSome, is_some, refl, sym, ap, ◌∙◌, subst, if◌then◌else◌}
use Rattle.std.specs.Prelude.{IsFalse}
use Rattle.std.proofs.lemmas.Slice.Eq.{bytes_eq-Decides}
use Rattle.bk_arithmetic.specs.declared.integer_type.IntegerType.TheVariants.{Int}
use Rattle.mem_objects.specs.declared.DataCell.{DataCell}
use Rattle.c_tree.specs.declared.declarations.TranslationUnit.{TranslationUnit}
use Rattle.c_tree.specs.declared.types.Declaration.{Declaration}
use Rattle.c_tree.specs.declared.declarations.External.{External}
use Rattle.c_typing_scopes.specs.Names.{find}
use Rattle.c_typing_definitions.specs.declared.names.Definitions.{Definitions}
use Rattle.c_typing_definitions.specs.Definitions.{definitions}
use Rattle.c_typing_faults.specs.declared.faults.Kind.TheVariants.{MissingMain}
use Rattle.c_typing_rules.specs.declared.c_typing_declared_types.declared.DeclaredType.{DeclaredType}
use Rattle.c_typing_rules.specs.declared.c_typing_declared_types.declared.DeclaredType.TheVariants as d
use Rattle.c_typed_tree.specs.declared.types.CType.{CType}
use Rattle.c_typed_tree.specs.declared.units.TypedFn.{TypedFn}
use Rattle.c_typed_tree.specs.declared.expressions.Builtin.{Builtin}
use Rattle.c_typed_tree.specs.declared.expressions.Callee.TheVariants as c
use Rattle.c_typed_tree.specs.Typing.{is_same_type}
use Rattle.c_typed_tree.specs.Typing as typing
use Rattle.c_typed_tree.specs.View.{type_view}
use Rattle.c_typing_state.specs.declared.env.Env.{Env}
use Rattle.c_typing_state.specs.declared.notes.Notes.{Notes}
use Rattle.c_typing_state.specs.declared.meanings.NameMeaning.{NameMeaning}
use Rattle.c_typing_state.specs.declared.meanings.NameMeaning.TheVariants as m
use Rattle.c_typing_state.specs.Scopes.{with_meaning, meaning_of}
use Rattle.c_typing_statements.specs.declared.c_typing_function_bodies.functions.FunctionType.{FunctionType}
use Rattle.c_typing_unit_names.specs.declared.names.NameDeclaration.{NameDeclaration}
use Rattle.c_typing_unit_names.specs.declared.names.UnitNames.{UnitNames}
use Rattle.c_typing_unit_names.specs.UnitNames.{object_name, function_name, value_name, first_meaning, with_declared, with_value}
use Rattle.c_typing_declarations.specs.declared.walk.UnitFunction.{UnitFunction}
use Rattle.c_typing_declarations.specs.declared.walk.UnitSoFar.{UnitSoFar}
use Rattle.c_typing_declarations.specs.Walk.{UnitWalk, with_names, is_main, add_numbered, next_object, object_number, add_object, fill_numbered, function_by, function_at, add_function}
use Rattle.c_typing_declarations.specs.Functions.{main_seen, function_declared, is_start}
use Rattle.c_typing_declarations.specs.Objects.{object_declared}
use Rattle.c_typing_units.specs.Externals.{typedef_of, externals}
use Rattle.c_typing_units.specs.Undefined.{undefined_noted}
use Rattle.c_typing_units.specs.Builtins.{no_names, builtin_declared, builtins}
use Rattle.c_typing_units.specs.Units.{unit_start, main_missed, whole_unit}
use Rattle.c_typing_expression_sound.proofs.CTypeLaws.Truth.{no_true, front, back, either}
use Rattle.c_typing_expression_sound.proofs.CTypeLaws.Types.{integer_is}
use Rattle.c_types.specs.c_unit_walk_laws.Steps.{DeclaresName, First, Again, declared_as}
use Rattle.c_typing_function_sound.specs.c_signature_laws.Laws.{HasItsType}
use Rattle.c_typing_function_sound.proofs.CSignatureLaws.Functions.{function_has_type}
use Rattle.c_types.specs.c_unit_walk_laws.Walks.{WalkSteps, Stays, Follows, AddsConstant, AddsNotes, DeclaresType, DeclaresFunction, DefinesFunction, DeclaresObject, InitialisesObject}
use Rattle.c_types.proofs.CUnitWalkLaws.Units.{unit_walk}
use Rattle.c_types.specs.c_unit_meaning_laws.Meanings.{Keeps, MeaningAgrees, HasTypes, IsNamed, AreNamed, IsStart, HasNamedFunctions}
use Rattle.c_types.proofs.CUnitMeaningLaws.Names.{none_some, own_meaning, other_meaning, meant_by, free_name, keeps_name, declared_by}
use Rattle.c_types.proofs.CUnitMeaningLaws.Types.{declared_types, steps_types}
use Rattle.c_types.proofs.CUnitMeaningLaws.FunctionMeanings.{is_function, means_function, HasKinds, declared_kinds, steps_kinds}

-- ---- names that are added

-- a new name means a function only by the next number, and no built-in one
record IsNew (before after : UnitNames) (x : NameMeaning) : Type 0 where
  number : (k : ℕ) (of : CType) (tys : List CType) → x ≡ m.Function (c.Function k) of tys → (k ≡ before.functions) × (k < after.functions)
  more : before.functions ≤ after.functions
  plain : (b : Builtin) (of : CType) (tys : List CType) → x ≡ m.Function (c.Builtin b) of tys → ⊥

same_number : {k n : ℕ} {of also : CType} {tys others : List CType} → m.Function (c.Function n) of tys ≡ m.Function (c.Function k) also others → k ≡ n
same_number e = cc

no_less : (k : ℕ) → k < k → ⊥
no_less k h = omega arith

less_more : (k n p : ℕ) → k < n → n ≤ p → k < p
less_more k n p h g = omega arith

itself_least : (n : ℕ) → n ≤ n
itself_least n = omega arith

one_least : (n : ℕ) → n ≤ n + 1
one_least n = omega arith

one_below : (k n : ℕ) → k ≡ n → k < n + 1
one_below k n e = omega arith

first_new : (ds : Definitions) (name : List ℕ) (new : NameDeclaration) (u : UnitNames) → (let r = first_meaning ds name new u in IsNew u (with_declared name new r.1) r.0)
first_new ds name new u = choose new.is_typedef
  where
    Is : NameMeaning × UnitNames → Type 0
    Is r = IsNew u (with_declared name new r.1) r.0

    object : (b : Bool) (ty : CType) → Is (object_name b ty u)
    object true ty = record { number = λ k of tys e. let clash : ⊥ = cc in absurd clash; more = itself_least u.functions; plain = λ b of tys e. let clash : ⊥ = cc in clash }
    object false ty = record { number = λ k of tys e. let clash : ⊥ = cc in absurd clash; more = itself_least u.functions; plain = λ b of tys e. let clash : ⊥ = cc in clash }

    function : (b : Bool) (ty : CType) (tys : List CType) → Is (function_name b ty tys u)
    function true ty tys = record {
      number = λ k of others e. (same_number e, one_below k u.functions (same_number e));
      more = one_least u.functions;
      plain = λ b of others e. let clash : ⊥ = cc in clash;
    }
    function false ty tys = record { number = λ k of others e. let clash : ⊥ = cc in absurd clash; more = itself_least u.functions; plain = λ b of others e. let clash : ⊥ = cc in clash }

    value : (ty : DeclaredType) → Is (value_name ds name ty u)
    value (d.Value ty) = object (is_some (find name ds.objects)) ty
    value (d.Unsized ty) = record { number = λ k of others e. let clash : ⊥ = cc in absurd clash; more = itself_least u.functions; plain = λ b of others e. let clash : ⊥ = cc in clash }
    value (d.Function ty tys) = function (is_some (find name ds.functions)) ty tys

    choose : (b : Bool) → Is (if b then (m.Typedef new.ty, u) else value_name ds name new.ty u)
    choose true = record { number = λ k of others e. let clash : ⊥ = cc in absurd clash; more = itself_least u.functions; plain = λ b of others e. let clash : ⊥ = cc in clash }
    choose false = value new.ty

-- ---- what is kept along names

named_later : (env later : Env) → Keeps env later → (g : UnitFunction) → IsNamed env g → IsNamed later g
named_later env later keeps g h = record {
  of = h.of;
  tys = h.tys;
  meaning = keeps g.function.name (m.Function (c.Function g.number) h.of h.tys) h.meaning;
  result = h.result;
  parameters = h.parameters;
}

all_later : (env later : Env) → Keeps env later → (gs : List UnitFunction) → AreNamed env gs → AreNamed later gs
all_later env later keeps [] h = tt
all_later env later keeps (g ∷ gs) h = (named_later env later keeps g h.0, all_later env later keeps gs h.1)

start_later : (env later : Env) → Keeps env later → IsStart (meaning_of env (codes "main")) → IsStart (meaning_of later (codes "main"))
start_later env later keeps = by (meaning_of env (codes "main")) refl
  where
    by : (o : Option NameMeaning) → meaning_of env (codes "main") ≡ o → IsStart o → IsStart (meaning_of later (codes "main"))
    by None e h = absurd h
    by (Some x) e h = subst IsStart (sym (keeps (codes "main") x e)) h

-- a name is added, and what is kept stays
added : (name : List ℕ) (x : NameMeaning) (env : Env) (u : UnitSoFar) (names : UnitNames) → meaning_of env name ≡ None → IsNew u.names names x → HasNamedFunctions u env → HasNamedFunctions (with_names names u) (with_meaning name x env)
added name x env u names free new h = record {
  below = λ q k of tys. meant_by name x env q (m.Function (c.Function k) of tys) (λ same e. (new.number k of tys e).1) (λ differs e. less_more k u.names.functions names.functions (h.below q k of tys e) new.more);
  one = λ q r k of tys also others e f. meant_by name x env q (m.Function (c.Function k) of tys)
      (λ same e. meant_by name x env r (m.Function (c.Function k) also others) (λ like g. same ∙ sym like) (λ differs g. absurd (clash k (new.number k of tys e).0 (h.below r k also others g))) f)
      (λ differs e. meant_by name x env r (m.Function (c.Function k) also others) (λ like g. absurd (clash k (new.number k also others g).0 (h.below q k of tys e))) (λ unlike g. h.one q r k of tys also others e g) f) e;
  kept = all_later env (with_meaning name x env) keeps u.functions h.kept;
  apart = λ q b of tys. meant_by name x env q (m.Function (c.Builtin b) of tys) (λ same e. absurd (new.plain b of tys e)) (λ differs e. h.apart q b of tys e);
  main = λ has. start_later env (with_meaning name x env) keeps (h.main has);
}
  where
    keeps : Keeps env (with_meaning name x env)
    keeps = keeps_name name x env free

    clash : (k : ℕ) → k ≡ u.names.functions → k < u.names.functions → ⊥
    clash k e less = no_less k (subst (λ n. k < n) (sym e) less)

declared_named : (ds : Definitions) (name : List ℕ) (new : NameDeclaration) (u : UnitSoFar) {names : UnitNames} {env later : Env} → DeclaresName ds name new u.names env names later → HasNamedFunctions u env → HasNamedFunctions (with_names names u) later
declared_named ds name new u (First {env = env} e free) h =
    let r = first_meaning ds name new u.names in
    added name r.0 env u (with_declared name new r.1) free (first_new ds name new u.names) h
declared_named ds name new u (Again old e may) h = record { below = h.below; one = h.one; kept = h.kept; apart = h.apart; main = h.main }

object_named : (o : Option ℕ) (name : List ℕ) (ty : CType) (u : UnitSoFar) (env : Env) → HasNamedFunctions u env → HasNamedFunctions (add_numbered o name ty u) env
object_named None name ty u env h = h
object_named (Some number) name ty u env h = next (number == length u.objects)
  where
    next : (b : Bool) → HasNamedFunctions (next_object b name ty u) env
    next true = record { below = h.below; one = h.one; kept = h.kept; apart = h.apart; main = h.main }
    next false = h

cells_named : (o : Option ℕ) (cells : List DataCell) (u : UnitSoFar) (env : Env) → HasNamedFunctions u env → HasNamedFunctions (fill_numbered o cells u) env
cells_named None cells u env h = h
cells_named (Some number) cells u env h = record { below = h.below; one = h.one; kept = h.kept; apart = h.apart; main = h.main }

-- ---- a function that is kept

-- what is found of a name that was just declared
own_found : (name : List ℕ) (new : NameDeclaration) (u : UnitNames) → find name (with_declared name new u).declared ≡ Some (length u.declared, new)
own_found name new u = choose (bytes_eq name name) ((bytes_eq-Decides name name).1 refl)
  where
    choose : (b : Bool) → b ≡ true → (if b then Some (length u.declared, new) else find name u.declared) ≡ Some (length u.declared, new)
    choose true e = refl
    choose false e = no_true e

-- the meaning of a name agrees with the declaration at hand
pub agrees_here : (ds : Definitions) (name : List ℕ) (new : NameDeclaration) {u names : UnitNames} {env later : Env} → DeclaresName ds name new u env names later → HasTypes names later → MeaningAgrees new.ty (meaning_of later name)
agrees_here ds name new (First {u = u} e free) h = h name _ (own_found name new (first_meaning ds name new u).1)
agrees_here ds name new (Again {u = u} old e may) h = h name _ (own_found name (with_value (old.1.has_value || new.has_value) new) u)

module _ (ds : Definitions) (e : Declaration) (of : FunctionType) (f : TypedFn) (later : Env) (type : HasItsType e of f) where
  named_more : (gs : List UnitFunction) (g : UnitFunction) → AreNamed later gs → IsNamed later g → AreNamed later (gs ++ g ∷ [])
  named_more [] g h k = (k, tt)
  named_more (x ∷ gs) g h k = (h.0, named_more gs g h.1 k)

  kept_by : (o : Option NameMeaning) (u : UnitSoFar) → meaning_of later e.name ≡ o → MeaningAgrees (declared_as of) o → AreNamed later u.functions → AreNamed later (add_function (function_by o) f u).functions
  kept_by None u same agrees h = h
  kept_by (Some m.Faulty) u same agrees h = h
  kept_by (Some (m.Undefined number)) u same agrees h = h
  kept_by (Some (m.Local number ty)) u same agrees h = h
  kept_by (Some (m.Object number ty)) u same agrees h = h
  kept_by (Some (m.Constant word)) u same agrees h = h
  kept_by (Some (m.Function (c.Builtin b) result tys)) u same agrees h = h
  kept_by (Some (m.Function (c.Function k) result tys)) u same agrees h = named_more u.functions (record { number = k; function = f }) h (record {
    of = result;
    tys = tys;
    meaning = ap (meaning_of later) type.name ∙ same;
    result = ap type_view type.result ∙ agrees.0;
    parameters = type.parameters ∙ agrees.1;
  })
  kept_by (Some (m.Typedef ty)) u same agrees h = h

  -- `main` is one of type `int (void)`
  start_by : (o : Option NameMeaning) → MeaningAgrees (declared_as of) o → ((b : Builtin) (result : CType) (tys : List CType) → o ≡ Some (m.Function (c.Builtin b) result tys) → ⊥) → IsTrue (means_function o) → IsTrue (is_start (declared_as of)) → IsStart o
  start_by None agrees plain h starts = no_true h
  start_by (Some m.Faulty) agrees plain h starts = no_true h
  start_by (Some (m.Undefined number)) agrees plain h starts = no_true h
  start_by (Some (m.Local number ty)) agrees plain h starts = no_true h
  start_by (Some (m.Object number ty)) agrees plain h starts = no_true h
  start_by (Some (m.Constant word)) agrees plain h starts = no_true h
  start_by (Some (m.Function (c.Builtin b) result tys)) agrees plain h starts = absurd (plain b result tys refl)
  start_by (Some (m.Function (c.Function k) result tys)) agrees plain h starts = (
    subst (λ v. IsTrue (is_same_type v typing.int)) agrees.0 (result_is of.parameters starts),
    sym agrees.1 ∙ none_taken of.parameters starts,
  )
    where
      result_is : (tys : List CType) → IsTrue (is_start (d.Function of.result tys)) → IsTrue (is_same_type (type_view of.result) typing.int)
      result_is [] start = subst (λ v. IsTrue (is_same_type (type_view of.result) v)) (integer_is Int) start
      result_is (ty ∷ tys) start = no_true start

      none_taken : (tys : List CType) → IsTrue (is_start (d.Function of.result tys)) → map type_view tys ≡ []
      none_taken [] start = refl
      none_taken (ty ∷ tys) start = no_true start
  start_by (Some (m.Typedef ty)) agrees plain h starts = no_true h

clash_main : (name : List ℕ) → IsFalse (is_main name) → IsTrue (is_main name) → ⊥
clash_main name h g = by (is_main name) h g
  where
    by : (b : Bool) → IsFalse b → IsTrue b → ⊥
    by b h g = cc

same_main : (name : List ℕ) → IsTrue (is_main name) → name ≡ codes "main"
same_main name h = (bytes_eq-Decides name (codes "main")).0 h

with_kept : (o : Option ℕ) (f : TypedFn) (u : UnitSoFar) (env : Env) → AreNamed env (add_function o f u).functions → HasNamedFunctions u env → HasNamedFunctions (add_function o f u) env
with_kept None f u env kept h = h
with_kept (Some number) f u env kept h = record { below = h.below; one = h.one; kept = kept; apart = h.apart; main = h.main }

pub steps_named : (ds : Definitions) {es : List External} {w v : UnitWalk} → WalkSteps ds es w v → HasKinds ds w.0.names w.1.0 → HasTypes w.0.names w.1.0 → HasNamedFunctions w.0 w.1.0 → HasNamedFunctions v.0 v.1.0
steps_named ds Stays fs types h = h
steps_named ds (Follows g k) fs types h = steps_named ds k (steps_kinds ds g fs) (steps_types ds g types) (steps_named ds g fs types h)
steps_named ds (AddsConstant {u = u} {env = env} name word e g) fs types h =
    let r = added name (m.Constant word) env u u.names (free_name name env e) (record { number = λ k of tys e. let clash : ⊥ = cc in absurd clash; more = itself_least u.names.functions; plain = λ b of tys e. let clash : ⊥ = cc in clash }) h in
    record { below = r.below; one = r.one; kept = r.kept; apart = r.apart; main = r.main }
steps_named ds (AddsNotes g) fs types h = h
steps_named ds (DeclaresType {u = u} name ty g k) fs types h = declared_named ds name (typedef_of ty) u k h
steps_named ds (DeclaresFunction {u = u} name of g k) fs types h = declared_named ds name (function_declared false (declared_as of)) u k h
steps_named ds (DefinesFunction {u = u} {n = n} {names = names} {later = later} e of list f g counted k made) fs types h =
    let new = function_declared true (declared_as of) in
    let seen = with_names names (main_seen e.name (declared_as of) u) in
    let one = declared_named ds e.name new u k h in
    let agrees = agrees_here ds e.name new k (declared_types ds e.name new k types) in
    let type = subst (λ (o : Option TypedFn). IfSome o (HasItsType e of)) made (function_has_type e of list (later, n)) in
    let means = kind_here new k refl (declared_kinds ds e.name new k fs) counted in
    with_kept (function_at later e.name) f seen later (kept_by ds e of f later type (meaning_of later e.name) seen refl agrees one.kept) (record {
      below = one.below;
      one = one.one;
      kept = one.kept;
      apart = one.apart;
      main = either u.has_main (is_main e.name && is_start (declared_as of)) one.main
          (λ both. let main = front (is_main e.name) (is_start (declared_as of)) both in
          subst (λ q. IsStart (meaning_of later q)) (same_main e.name main)
          (start_by ds e of f later type (meaning_of later e.name) agrees (λ b result tys same. clash_main e.name (one.apart e.name b result tys same) main) means (back (is_main e.name) (is_start (declared_as of)) both)));
    })
  where
    kind_here : (new : NameDeclaration) {u names : UnitNames} {env later : Env} → DeclaresName ds e.name new u env names later → IsTrue (is_function new) → HasKinds ds names later → IsTrue (is_some (find e.name ds.functions)) → IsTrue (means_function (meaning_of later e.name))
    kind_here new (First {u = u} x free) fn h = h e.name _ (own_found e.name new (first_meaning ds e.name new u).1) fn
    kind_here new (Again {u = u} old x may) fn h = h e.name _ (own_found e.name (with_value (old.1.has_value || new.has_value) new) u) fn
steps_named ds (DeclaresObject {u = u} {names = names} {later = later} name ty g k) fs types h =
    object_named (object_number later name) name ty (with_names names u) later (declared_named ds name (object_declared ty false) u k h)
steps_named ds (InitialisesObject {u = u} {names = names} {later = later} name ty x cells g k made listed) fs types h =
    cells_named (object_number later name) cells (add_object later name ty (with_names names u)) later
    (object_named (object_number later name) name ty (with_names names u) later (declared_named ds name (object_declared ty true) u k h))

-- ---- before the first declaration

record Builtins (u : UnitNames) (env : Env) : Type 0 where
  none : (q : List ℕ) (k : ℕ) (of : CType) (tys : List CType) → meaning_of env q ≡ Some (m.Function (c.Function k) of tys) → ⊥
  apart : (q : List ℕ) (b : Builtin) (of : CType) (tys : List CType) → meaning_of env q ≡ Some (m.Function (c.Builtin b) of tys) → IsFalse (is_main q)
  types : HasTypes u env
  kinds : (ds : Definitions) → HasKinds ds u env

builtin_there : (name : List ℕ) (b : Builtin) (of : CType) (tys : List CType) (r : UnitNames × Env) → IsFalse (is_main name) → Builtins r.0 r.1 → (let v = builtin_declared name b of tys r in Builtins v.0 v.1)
builtin_there name b of tys r other h = record {
  none = λ q k result others. meant_by name x r.1 q (m.Function (c.Function k) result others) (λ same e. let clash : ⊥ = cc in clash) (λ differs e. h.none q k result others e);
  apart = λ q b result others. meant_by name x r.1 q (m.Function (c.Builtin b) result others) (λ same e. subst (λ n. IsFalse (is_main n)) (sym same) other) (λ differs e. h.apart q b result others e);
  types = λ q a. declared_by name new r.0 q a
      (λ same e. subst (λ (z : NameDeclaration). MeaningAgrees z.ty (meaning_of (with_meaning name x r.1) q)) (sym e)
      (subst (MeaningAgrees new.ty) (sym (ap (meaning_of (with_meaning name x r.1)) same ∙ own_meaning name x r.1)) (refl, refl)))
      (λ differs e. subst (MeaningAgrees a.1.ty) (sym (other_meaning name x r.1 q differs)) (h.types q a e));
  kinds = λ ds q a e fn defined. declared_by name new r.0 q a
      (λ same is. subst (λ o. IsTrue (means_function o)) (sym (ap (meaning_of (with_meaning name x r.1)) same ∙ own_meaning name x r.1)) refl)
      (λ differs found. subst (λ o. IsTrue (means_function o)) (sym (other_meaning name x r.1 q differs)) (h.kinds ds q a found fn defined)) e;
}
  where
    x : NameMeaning
    x = m.Function (c.Builtin b) of tys

    new : NameDeclaration
    new = record { is_typedef = false; ty = d.Function of tys; has_value = true }

no_builtins : Builtins no_names (record { names = []; outside = 0 })
no_builtins = record {
  none = λ q k of tys e. none_some e;
  apart = λ q b of tys e. none_some e;
  types = λ q a e. none_some e;
  kinds = λ ds q a e. none_some e;
}

all_builtins : Builtins builtins.0 builtins.1
all_builtins =
    builtin_there _ _ _ _ _ refl (builtin_there _ _ _ _ _ refl (builtin_there _ _ _ _ _ refl (builtin_there _ _ _ _ _ refl no_builtins)))

pub start_types : (ds : Definitions) → HasTypes (unit_start ds).0.names (unit_start ds).1.1.0
start_types ds = all_builtins.types

pub start_kinds : (ds : Definitions) → HasKinds ds (unit_start ds).0.names (unit_start ds).1.1.0
start_kinds ds = all_builtins.kinds ds

start_named : (ds : Definitions) → HasNamedFunctions (unit_start ds).0 (unit_start ds).1.1.0
start_named ds = record {
  below = λ q k of tys e. absurd (all_builtins.none q k of tys e);
  one = λ q r k of tys also others e f. absurd (all_builtins.none q k of tys e);
  kept = tt;
  apart = all_builtins.apart;
  main = λ h. no_true h;
}

-- ---- whole units

pub unit_named : (unit : TranslationUnit) → (whole_unit unit).1.1.1.faults ≡ [] → HasNamedFunctions (whole_unit unit).0 (whole_unit unit).1.1.0
unit_named unit e =
    let ds = definitions unit.externals in
    steps_named ds (unit_walk unit e) (start_kinds ds) (start_types ds) (start_named ds)

more_is_not : {A X : Type 0} (xs : List A) (x : A) → xs ++ x ∷ [] ≡ [] → X
more_is_not [] x e = let clash : ⊥ = cc in absurd clash
more_is_not (y ∷ ys) x e = let clash : ⊥ = cc in absurd clash

main_there : (size : ℕ) (has_main : Bool) (n : Notes) → (main_missed size has_main n).faults ≡ [] → IsTrue has_main
main_there size true n e = refl
main_there size false n e = more_is_not n.faults (record { at = size; kind = MissingMain }) e

pub unit_main : (unit : TranslationUnit) → (whole_unit unit).1.1.1.faults ≡ [] → IsTrue (whole_unit unit).0.has_main
unit_main unit e =
    let ds = definitions unit.externals in
    let behind = externals ds unit.externals (unit_start ds) in
    main_there unit.length behind.0.has_main (undefined_noted behind.1.1.1) e
