-- Exactly one function is `main`.
use Rattle.std.proofs.Common.{◌≡◌, ℕ, zero, suc, ◌≤◌, ◌==◌, arith, Bool, true, false, IsTrue, List, [], ◌∷◌, length, map, take, slice_get, codes, Option, Some, None, refl, sym, ap, ◌∙◌, subst, if◌then◌else◌}
use Rattle.std.specs.Prelude.{filter}
use Rattle.std.specs.List.{list_all}
use Rattle.std.proofs.lemmas.Slice.Eq.{bytes_eq-Decides}
use Rattle.std.proofs.lemmas.Bool.Decides.{Decides-eqb}
use Rattle.c_typed_tree.specs.declared.types.CType.{CType}
use Rattle.c_typed_tree.specs.declared.units.Local.{Local}
use Rattle.c_typed_tree.specs.declared.units.TypedFn.{TypedFn}
use Rattle.c_typed_tree.specs.declared.units.TypedUnit.{TypedUnit}
use Rattle.c_typed_tree.specs.declared.expressions.Callee.TheVariants as c
use Rattle.c_typed_tree.specs.Typing.{is_same_type, int}
use Rattle.c_typed_tree.specs.View.{type_view}
use Rattle.c_typed_tree.specs.Lawful.{type_of_local, is_main, is_start, HasMain}
use Rattle.c_typing_state.specs.declared.env.Env.{Env}
use Rattle.c_typing_state.specs.declared.meanings.NameMeaning.{NameMeaning}
use Rattle.c_typing_state.specs.declared.meanings.NameMeaning.TheVariants as m
use Rattle.c_typing_state.specs.Scopes.{meaning_of}
use Rattle.c_typing_struct_bodies.specs.Bodies.{TagScope}
use Rattle.c_typing_declarations.specs.declared.walk.UnitSoFar.{UnitSoFar}
use Rattle.c_typing_expression_sound.proofs.CTypeLaws.Truth.{also}
use Rattle.c_types.specs.c_unit_object_laws.Meanings.{IsStart, IsNamed, HasNamedFunctions}
use Rattle.c_types.proofs.CUnitObjectLaws.Names.{none_some, some_same}
use Rattle.c_types.specs.c_typed_unit_laws.Made.{TypedIsMadeOf}
use Rattle.c_types.proofs.CTypedUnitLaws.Contexts.{kept_name, function_of}

-- ---- lists of functions

no_main : (fs : List TypedFn) → ((j : ℕ) (g : TypedFn) → slice_get fs j ≡ Some g → IsTrue (is_main g) → ⊥) → filter is_main fs ≡ []
no_main [] h = refl
no_main (x ∷ fs) h = by (is_main x) refl (no_main fs (λ j g. h (suc j) g))
  where
    by : (b : Bool) → is_main x ≡ b → filter is_main fs ≡ [] → filter is_main (x ∷ fs) ≡ []
    by true e rest = absurd (h zero x refl e)
    by false e rest = ap (λ (b : Bool). if b then x ∷ filter is_main fs else filter is_main fs) e ∙ rest

zero_is_not : (k : ℕ) → zero ≡ suc k → ⊥
zero_is_not k e = omega arith

suc_is_not : (k : ℕ) → suc k ≡ zero → ⊥
suc_is_not k e = omega arith

same_suc : (j k : ℕ) → suc j ≡ suc k → j ≡ k
same_suc j k e = omega arith

one_main : (fs : List TypedFn) (k : ℕ) (f : TypedFn) → slice_get fs k ≡ Some f → IsTrue (is_main f) → ((j : ℕ) (g : TypedFn) → slice_get fs j ≡ Some g → IsTrue (is_main g) → j ≡ k) → length (filter is_main fs) ≡ 1
one_main [] k f e h one = none_some e
one_main (x ∷ fs) zero f e h one =
    ap (λ (b : Bool). length (if b then x ∷ filter is_main fs else filter is_main fs)) (ap is_main (some_same e) ∙ h)
    ∙ ap (λ xs. suc (length xs)) (no_main fs (λ j g there main. suc_is_not j (one (suc j) g there main)))
one_main (x ∷ fs) (suc k) f e h one = by (is_main x) refl (one_main fs k f e h (λ j y there main. same_suc j k (one (suc j) y there main)))
  where
    by : (b : Bool) → is_main x ≡ b → length (filter is_main fs) ≡ 1 → length (filter is_main (x ∷ fs)) ≡ 1
    by true g rest = absurd (zero_is_not k (one zero x refl g))
    by false g rest = ap (λ (b : Bool). length (if b then x ∷ filter is_main fs else filter is_main fs)) g ∙ rest

all_start : (fs : List TypedFn) → ((j : ℕ) (g : TypedFn) → slice_get fs j ≡ Some g → IsTrue (is_main g) → IsTrue (is_start g)) → IsTrue (list_all is_start (filter is_main fs))
all_start [] h = refl
all_start (x ∷ fs) h = by (is_main x) refl (all_start fs (λ j g. h (suc j) g))
  where
    by : (b : Bool) → is_main x ≡ b → IsTrue (list_all is_start (filter is_main fs)) → IsTrue (list_all is_start (filter is_main (x ∷ fs)))
    by true e rest = subst (λ (b : Bool). IsTrue (list_all is_start (if b then x ∷ filter is_main fs else filter is_main fs))) (sym e) (also (is_start x) (list_all is_start (filter is_main fs)) (h zero x refl e) rest)
    by false e rest = subst (λ (b : Bool). IsTrue (list_all is_start (if b then x ∷ filter is_main fs else filter is_main fs))) (sym e) rest

-- ---- a function that takes nothing

no_first : (n : ℕ) (xs : List Local) → n ≤ length xs → map type_of_local (take n xs) ≡ [] → n ≡ 0
no_first zero xs h e = refl
no_first (suc n) [] h e = absurd (too_long n h)
  where
    too_long : (n : ℕ) → suc n ≤ 0 → ⊥
    too_long n h = omega arith
no_first (suc n) (x ∷ xs) h e = let clash : ⊥ = cc in absurd clash

main_name : (f : TypedFn) → IsTrue (is_main f) → f.name ≡ codes "main"
main_name f h = (bytes_eq-Decides f.name (codes "main")).0 h

-- what the name of a start means
record Means (o : Option NameMeaning) : Type 0 where
  k : ℕ
  of : CType
  tys : List CType
  is : o ≡ Some (m.Function (c.Function k) of tys)
  result : IsTrue (is_same_type (type_view of) int)
  none : map type_view tys ≡ []

start_means : (o : Option NameMeaning) → IsStart o → Means o
start_means None h = absurd h
start_means (Some m.Faulty) h = absurd h
start_means (Some (m.Undefined number)) h = absurd h
start_means (Some (m.Local number ty)) h = absurd h
start_means (Some (m.Object number ty)) h = absurd h
start_means (Some (m.Constant word)) h = absurd h
start_means (Some (m.Function (c.Builtin b) of tys)) h = absurd h
start_means (Some (m.Function (c.Function k) of tys)) h = record { k = k; of = of; tys = tys; is = refl; result = h.0; none = h.1 }
start_means (Some (m.Typedef ty)) h = absurd h

same_function : {k n : ℕ} {of also : CType} {tys others : List CType} → m.Function (c.Function k) of tys ≡ m.Function (c.Function n) also others → (k ≡ n) × (of ≡ also) × (tys ≡ others)
same_function e = (first e, second e, third e)
  where
    first : {k n : ℕ} {of also : CType} {tys others : List CType} → m.Function (c.Function k) of tys ≡ m.Function (c.Function n) also others → k ≡ n
    first e = cc

    second : {k n : ℕ} {of also : CType} {tys others : List CType} → m.Function (c.Function k) of tys ≡ m.Function (c.Function n) also others → of ≡ also
    second e = cc

    third : {k n : ℕ} {of also : CType} {tys others : List CType} → m.Function (c.Function k) of tys ≡ m.Function (c.Function n) also others → tys ≡ others
    third e = cc

pub has_main : (s : UnitSoFar × TagScope) (typed : TypedUnit) → TypedIsMadeOf s typed → HasNamedFunctions s.0 s.1.1.0 → IsTrue s.0.has_main → ((k : ℕ) (f : TypedFn) → slice_get typed.functions k ≡ Some f → f.params ≤ length f.locals) → HasMain typed
has_main s typed made fs main within =
    let means = start_means (meaning_of s.1.1.0 (codes "main")) (fs.main main) in
    let at = function_of s typed made [] fs (codes "main") means.k means.of means.tys means.is in
    record {
      one = one_main typed.functions means.k at.it at.there (own_main at.it means.k at.there means.of means.tys means.is) (λ j g there h. (alike j g there h means.k means.of means.tys means.is).0);
      type = all_start typed.functions (λ j g there h. starts j g there h means.k means.of means.tys means.is means.result means.none);
    }
  where
    env : Env
    env = s.1.1.0

    named : (k : ℕ) (f : TypedFn) → slice_get typed.functions k ≡ Some f → IsNamed env (record { number = k; function = f })
    named k f there = kept_name s typed made [] fs k f there

    own_main : (f : TypedFn) (k : ℕ) → slice_get typed.functions k ≡ Some f → (of : CType) (tys : List CType) → meaning_of env (codes "main") ≡ Some (m.Function (c.Function k) of tys) → IsTrue (is_main f)
    own_main f k there of tys e =
        let own = named k f there in
        (bytes_eq-Decides f.name (codes "main")).1 (sym (fs.one (codes "main") f.name k of tys own.of own.tys e own.meaning))

    alike : (j : ℕ) (g : TypedFn) (there : slice_get typed.functions j ≡ Some g) → IsTrue (is_main g) → (k : ℕ) (of : CType) (tys : List CType) → meaning_of env (codes "main") ≡ Some (m.Function (c.Function k) of tys)
        → (j ≡ k) × ((named j g there).of ≡ of) × ((named j g there).tys ≡ tys)
    alike j g there h k of tys e = same_function (some_same (sym (named j g there).meaning ∙ (ap (meaning_of env) (main_name g h) ∙ e)))

    starts : (j : ℕ) (g : TypedFn) → slice_get typed.functions j ≡ Some g → IsTrue (is_main g) → (k : ℕ) (of : CType) (tys : List CType) → meaning_of env (codes "main") ≡ Some (m.Function (c.Function k) of tys)
        → IsTrue (is_same_type (type_view of) int) → map type_view tys ≡ [] → IsTrue (is_start g)
    starts j g there h k of tys e result none =
        let own = named j g there in
        let same = alike j g there h k of tys e in
        also (is_same_type (type_view g.result) int) (g.params == 0) (subst (λ v. IsTrue (is_same_type v int)) (sym (own.result ∙ ap type_view same.1)) result)
        ((Decides-eqb g.params 0).1 (no_first g.params g.locals (within j g there) (own.parameters ∙ (ap (map type_view) same.2 ∙ none))))
