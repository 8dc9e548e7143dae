-- The head of the sorted list is the least so far.
use Rattle.std.proofs.Common.{◌≡◌, ℕ, ◌+◌, ◌<◌, Bool, true, false, cond, List, [], ◌∷◌, ◌++◌, Option, Some, refl, sym, ap, ◌∙◌, length, take, get_or}
use Rattle.std.proofs.lemmas.List.{take_more}
use Rattle.c_typing_faults.specs.declared.faults.Fault.{Fault}
use Rattle.c_typing_faults.specs.Faults.{is_before, insert_fault, sorted_onto, sort_faults, head}
use Rattle.c_typing_faults.specs.model.Earlier.{earlier}

pub head-inserted : (f : Fault) (gs : List Fault) → head (insert_fault f gs) ≡ Some (earlier f (head gs))
head-inserted f [] = refl
head-inserted f (g ∷ gs) = by (is_before f g) (is_before g f)
  where
    by : (a b : Bool) → head (cond a (f ∷ g ∷ gs) (cond b (g ∷ insert_fault f gs) (g ∷ gs))) ≡ Some (cond a f g)
    by true b = refl
    by false true = refl
    by false false = refl

onto-append : (done fs : List Fault) (f : Fault) → sorted_onto done (fs ++ f ∷ []) ≡ insert_fault f (sorted_onto done fs)
onto-append done [] f = refl
onto-append done (g ∷ gs) f = onto-append (insert_fault g done) gs f

pub least-more : (fs : List Fault) (i : ℕ) (d : Fault) (so_far : Option Fault) (first : Fault) → i < length fs
    → so_far ≡ head (sort_faults (take i fs)) → first ≡ earlier (get_or fs i d) so_far
    → Some first ≡ head (sort_faults (take (i + 1) fs))
least-more fs i d so_far first within invariant least =
    ap Some (least ∙ ap (earlier (get_or fs i d)) invariant)
    ∙ (sym (head-inserted (get_or fs i d) (sort_faults (take i fs)))
    ∙ ap head (sym (ap sort_faults (take_more fs i d within) ∙ onto-append [] (take i fs) (get_or fs i d))))
