-- Where each function that has a number was kept, each place of a function has its tree.
use Rattle.std.proofs.Common.{◌≡◌, ℕ, zero, suc, ◌<◌, ◌==◌, Bool, true, false, IsTrue, List, [], ◌∷◌, ◌++◌, length, slice_get, slice_set, replicate, Option, Some, None, is_some, refl, sym, ap, ◌∙◌, subst, arith}
use Rattle.std.specs.List.{list_all}
use Rattle.std.proofs.lemmas.List.{length-set}
use Rattle.std.proofs.lemmas.Bool.Decides.{Decides-eqb}
use Rattle.c_tree.specs.declared.declarations.TranslationUnit.{TranslationUnit}
use Rattle.c_typing_faults.specs.Faults.{sort_faults, head}
use Rattle.c_typing_faults.proofs.First.{some}
use Rattle.c_typed_tree.specs.declared.units.TypedFn.{TypedFn}
use Rattle.c_typing_struct_bodies.specs.Bodies.{TagScope}
use Rattle.c_typing_declarations.specs.declared.walk.UnitFunction.{UnitFunction}
use Rattle.c_typing_declarations.specs.declared.walk.UnitSoFar.{UnitSoFar}
use Rattle.c_typing_units.specs.Units.{whole_unit}
use Rattle.c_typing_expression_sound.proofs.CTypeLaws.Truth.{no_true, front, back, also, either}
use Rattle.c_types.specs.c_found_unit_laws.Laws.{is_tree_kept}
use Rattle.c_types.proofs.CFoundUnitLaws.Units.{functions_kept}
use Rattle.c_types.specs.Units.{with_trees, functions_in, append_functions}

-- a place that has a tree
abbrev has_tree : Option (Option TypedFn) → Bool
has_tree None = false
has_tree (Some o) = is_some o

set_here : (places : List (Option TypedFn)) (k : ℕ) (f : TypedFn) → k < length places → IsTrue (has_tree (slice_get (slice_set places k (Some f)) k))
set_here [] k f h = absurd (nothing k h)
  where
    nothing : (k : ℕ) → k < 0 → ⊥
    nothing k h = omega arith
set_here (p ∷ ps) zero f h = refl
set_here (p ∷ ps) (suc k) f h = set_here ps k f (less k (length ps) h)
  where
    less : (k n : ℕ) → suc k < suc n → k < n
    less k n h = omega arith

set_keeps : (places : List (Option TypedFn)) (at k : ℕ) (f : TypedFn) → IsTrue (has_tree (slice_get places k)) → IsTrue (has_tree (slice_get (slice_set places at (Some f)) k))
set_keeps [] at k f h = h
set_keeps (p ∷ ps) zero zero f h = refl
set_keeps (p ∷ ps) zero (suc k) f h = h
set_keeps (p ∷ ps) (suc at) zero f h = h
set_keeps (p ∷ ps) (suc at) (suc k) f h = set_keeps ps at k f h

trees_keep : (fs : List UnitFunction) (places : List (Option TypedFn)) (k : ℕ) → IsTrue (has_tree (slice_get places k)) → IsTrue (has_tree (slice_get (with_trees fs places) k))
trees_keep [] places k h = h
trees_keep (f ∷ fs) places k h = trees_keep fs (slice_set places f.number (Some f.function)) k (set_keeps places f.number k f.function h)

trees_length : (fs : List UnitFunction) (places : List (Option TypedFn)) → length (with_trees fs places) ≡ length places
trees_length [] places = refl
trees_length (f ∷ fs) places = trees_length fs (slice_set places f.number (Some f.function)) ∙ length-set places f.number (Some f.function)

kept_place : (fs : List UnitFunction) (places : List (Option TypedFn)) (k : ℕ) → k < length places → IsTrue (is_tree_kept fs k) → IsTrue (has_tree (slice_get (with_trees fs places) k))
kept_place [] places k less h = no_true h
kept_place (f ∷ fs) places k less h =
    let later = slice_set places f.number (Some f.function) in
    either (f.number == k) (is_tree_kept fs k)
    (λ same. trees_keep fs later k (subst (λ n. IsTrue (has_tree (slice_get (slice_set places n (Some f.function)) k))) (sym ((Decides-eqb f.number k).0 same)) (set_here places k f.function less)))
    (λ rest. kept_place fs later k (subst (λ n. k < n) (sym (length-set places f.number (Some f.function))) less) rest) h

all_there : (places : List (Option TypedFn)) → ((k : ℕ) → k < length places → IsTrue (has_tree (slice_get places k))) → IsTrue (list_all is_some places)
all_there [] h = refl
all_there (p ∷ ps) h = also (is_some p) (list_all is_some ps) (h zero (first (length ps))) (all_there ps (λ k less. h (suc k) (more k (length ps) less)))
  where
    first : (n : ℕ) → 0 < suc n
    first n = omega arith

    more : (k n : ℕ) → k < n → suc k < suc n
    more k n h = omega arith

appended : (found : List TypedFn) (places : List (Option TypedFn)) → IsTrue (list_all is_some places) → IsTrue (is_some (append_functions (Some found) places))
appended found [] h = refl
appended found (None ∷ ps) h = no_true (front false (list_all is_some ps) h)
appended found (Some f ∷ ps) h = appended (found ++ f ∷ []) ps (back true (list_all is_some ps) h)

replicate_length : (n : ℕ) → length (replicate {A = Option TypedFn} n None) ≡ n
replicate_length zero = refl
replicate_length (suc n) = ap suc (replicate_length n)

pub functions_there : (count : ℕ) (fs : List UnitFunction) → ((k : ℕ) → k < count → IsTrue (is_tree_kept fs k)) → IsTrue (is_some (append_functions (Some []) (functions_in count fs)))
functions_there count fs h =
    let places = replicate count None in
    appended [] (functions_in count fs)
    (all_there (functions_in count fs) (λ k less. kept_place fs places k (subst (λ n. k < n) (trees_length fs places) less)
    (h k (subst (λ n. k < n) (trees_length fs places ∙ replicate_length count) less))))

-- so it is of a unit without a fault
pub unit_trees : (unit : TranslationUnit) (s : UnitSoFar × TagScope) → s ≡ whole_unit unit → head (sort_faults s.1.1.1.faults) ≡ None → IsTrue (is_some (append_functions (Some []) (functions_in s.0.names.functions s.0.functions)))
unit_trees unit s same none =
    functions_there s.0.names.functions s.0.functions (λ k less.
    subst (λ (v : UnitSoFar × TagScope). IsTrue (is_tree_kept v.0.functions k)) (sym same)
    (functions_kept unit (some (whole_unit unit).1.1.1.faults (ap (λ (v : UnitSoFar × TagScope). head (sort_faults v.1.1.1.faults)) (sym same) ∙ none)) k
    (subst (λ (v : UnitSoFar × TagScope). k < v.0.names.functions) same less)))
