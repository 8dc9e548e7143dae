-- A test of lists, element by element.
use Rattle.std.proofs.Common.{◌≡◌, ℕ, ◌+◌, ◌<◌, Bool, true, false, List, length, get_or, take, sym, ap, ◌∙◌}
use Rattle.std.specs.Prelude.{◌||◌}
use Rattle.std.specs.List.{list_any}
use Rattle.std.proofs.lemmas.List.Folds.{list_any_at, list_any_more}

pub any_here : {X : Type 0} (p : X → Bool) (xs : List X) (i : ℕ) (x : X) → i < length xs → x ≡ get_or xs i x → p x ≡ true → list_any p xs ≡ true
any_here p xs i x lt is e = list_any_at p xs i x lt (sym (ap p is) ∙ e)

or-none : (a b : Bool) → a ≡ false → b ≡ false → (a || b) ≡ false
or-none a b e f = ap (λ z. z || b) e ∙ f

pub any_left : {X : Type 0} (p : X → Bool) (xs : List X) (i next : ℕ) (x : X) → next ≡ i + 1 → i < length xs → x ≡ get_or xs i x
    → list_any p (take i xs) ≡ false → p x ≡ false → list_any p (take next xs) ≡ false
any_left p xs i next x n lt is before e =
    ap (λ k. list_any p (take k xs)) n ∙ list_any_more p xs i x lt
    ∙ or-none (list_any p (take i xs)) (p (get_or xs i x)) before (sym (ap p is) ∙ e)
