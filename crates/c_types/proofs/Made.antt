-- The functions of a typed unit are those that were kept, each at its number.
use Rattle.std.proofs.Common.{◌≡◌, ℕ, zero, suc, List, [], ◌∷◌, ◌++◌, length, map, slice_get, slice_set, replicate, Option, Some, None, refl, sym, ap, ◌∙◌, subst, append_assoc}
use Rattle.std.proofs.lemmas.List.{length-set}
use Rattle.c_tree.specs.declared.declarations.TranslationUnit.{TranslationUnit}
use Rattle.c_typed_tree.specs.declared.units.TypedFn.{TypedFn}
use Rattle.c_typed_tree.specs.declared.units.TypedUnit.{TypedUnit}
use Rattle.c_typing_globals.specs.Globals.{globals}
use Rattle.c_typing_struct_bodies.specs.Bodies.{TagScope}
use Rattle.c_typing_declarations.specs.declared.walk.UnitFunction.{UnitFunction}
use Rattle.c_typing_declarations.specs.declared.walk.UnitSoFar.{UnitSoFar}
use Rattle.c_typing_units.specs.Units.{whole_unit}
use Rattle.c_types.specs.Units.{with_trees, functions_in, append_functions, typed_from, typed_unit}
use Rattle.c_types.specs.c_typed_unit_laws.Made.{IsKeptAs, TypedIsMadeOf}

none_some : {A X : Type 0} {a : A} → None ≡ Some a → X
none_some e = let clash : ⊥ = cc in absurd clash

some_same : {A : Type 0} {a b : A} → Some a ≡ Some b → a ≡ b
some_same e = cc

-- ---- places that all have a tree

-- all places have these trees
record AreAll (acc : List TypedFn) (places : List (Option TypedFn)) (list : List TypedFn) : Type 0 where
  rest : List TypedFn
  same : list ≡ acc ++ rest
  each : places ≡ map Some rest

append_none : {A : Type 0} (xs : List A) → xs ≡ xs ++ []
append_none [] = refl
append_none (x ∷ xs) = ap (λ ys. x ∷ ys) (append_none xs)

none_appended : (places : List (Option TypedFn)) → append_functions None places ≡ None
none_appended [] = refl
none_appended (p ∷ ps) = none_appended ps

all_appended : (acc : List TypedFn) (places : List (Option TypedFn)) (list : List TypedFn) → append_functions (Some acc) places ≡ Some list → AreAll acc places list
all_appended acc [] list e = record { rest = []; same = sym (some_same e) ∙ append_none acc; each = refl }
all_appended acc (None ∷ ps) list e = none_some (sym (none_appended ps) ∙ e)
all_appended acc (Some f ∷ ps) list e =
    let more = all_appended (acc ++ f ∷ []) ps list e in
    record { rest = f ∷ more.rest; same = more.same ∙ append_assoc acc (f ∷ []) more.rest; each = ap (λ ys. Some f ∷ ys) more.each }

mapped : (xs : List TypedFn) (k : ℕ) (f : TypedFn) → slice_get xs k ≡ Some f → slice_get (map Some xs) k ≡ Some (Some f)
mapped [] k f e = none_some e
mapped (x ∷ xs) zero f e = ap Some e
mapped (x ∷ xs) (suc k) f e = mapped xs k f e

mapped_length : (xs : List TypedFn) → length (map Some xs) ≡ length xs
mapped_length [] = refl
mapped_length (x ∷ xs) = ap suc (mapped_length xs)

-- ---- trees at their numbers

-- what stands at a place that is set: the new one there, or what stood before
set_by : {X : Type 0} (places : List (Option TypedFn)) (n k : ℕ) (g f : TypedFn) → slice_get (slice_set places n (Some g)) k ≡ Some (Some f) → (n ≡ k → g ≡ f → X) → (slice_get places k ≡ Some (Some f) → X) → X
set_by [] n k g f e own old = old e
set_by (p ∷ ps) zero zero g f e own old = own refl (some_same (some_same e))
set_by (p ∷ ps) zero (suc k) g f e own old = old e
set_by (p ∷ ps) (suc n) zero g f e own old = old e
set_by (p ∷ ps) (suc n) (suc k) g f e own old = set_by ps n k g f e (λ same like. own (ap suc same) like) old

tree_from : {X : Type 0} (fs : List UnitFunction) (places : List (Option TypedFn)) (k : ℕ) (f : TypedFn) → slice_get (with_trees fs places) k ≡ Some (Some f) → (IsKeptAs fs k f → X) → (slice_get places k ≡ Some (Some f) → X) → X
tree_from [] places k f e kept old = old e
tree_from (x ∷ fs) places k f e kept old =
    tree_from fs (slice_set places x.number (Some x.function)) k f e (λ later. kept (record { place = suc later.place; there = later.there }))
    (λ set. set_by places x.number k x.function f set (λ same like. kept (record { place = zero; there = ap Some (is_function x k f same like) })) old)
  where
    is_function : (x : UnitFunction) (k : ℕ) (f : TypedFn) → x.number ≡ k → x.function ≡ f → x ≡ record { number = k; function = f }
    is_function x k f same like = ap (λ n. record { number = n; function = x.function }) same ∙ ap (λ g. record { number = k; function = g }) like

none_there : {X : Type 0} (count k : ℕ) (f : TypedFn) → slice_get (replicate count None) k ≡ Some (Some f) → X
none_there zero k f e = none_some e
none_there (suc count) zero f e = none_some (some_same e)
none_there (suc count) (suc k) f e = none_there count k f e

trees_length : (fs : List UnitFunction) (places : List (Option TypedFn)) → length (with_trees fs places) ≡ length places
trees_length [] places = refl
trees_length (x ∷ fs) places = trees_length fs (slice_set places x.number (Some x.function)) ∙ length-set places x.number (Some x.function)

replicate_length : (n : ℕ) → length (replicate {A = Option TypedFn} n None) ≡ n
replicate_length zero = refl
replicate_length (suc n) = ap suc (replicate_length n)

-- ---- the unit

made_by : (s : UnitSoFar × TagScope) (typed : TypedUnit) (o : Option (List TypedFn)) → append_functions (Some []) (functions_in s.0.names.functions s.0.functions) ≡ o → typed_from s.1.1.1.structs s.0.objects s.1.1.1.texts o ≡ Some typed → TypedIsMadeOf s typed
made_by s typed None same e = none_some e
made_by s typed (Some list) same e = subst (TypedIsMadeOf s) (some_same e) (record {
  structs = refl;
  globals = refl;
  functions = λ k f there. tree_from s.0.functions (replicate s.0.names.functions None) k f (at k f there) (λ kept. kept) (λ none. none_there s.0.names.functions k f none);
  count = sym (mapped_length list) ∙ (ap length (sym places) ∙ (trees_length s.0.functions (replicate s.0.names.functions None) ∙ replicate_length s.0.names.functions));
})
  where
    all : AreAll [] (functions_in s.0.names.functions s.0.functions) list
    all = all_appended [] (functions_in s.0.names.functions s.0.functions) list same

    places : functions_in s.0.names.functions s.0.functions ≡ map Some list
    places = all.each ∙ ap (map Some) (sym all.same)

    at : (k : ℕ) (f : TypedFn) → slice_get list k ≡ Some f → slice_get (functions_in s.0.names.functions s.0.functions) k ≡ Some (Some f)
    at k f there = subst (λ ps. slice_get ps k ≡ Some (Some f)) (sym places) (mapped list k f there)

pub unit_made : (unit : TranslationUnit) (typed : TypedUnit) → typed_unit unit ≡ Some typed → TypedIsMadeOf (whole_unit unit) typed
unit_made unit typed e = let s = whole_unit unit in made_by s typed (append_functions (Some []) (functions_in s.0.names.functions s.0.functions)) refl e
