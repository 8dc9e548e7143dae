-- Turns of the loop over functions.
use Rattle.std.proofs.Common.{◌≡◌, ℕ, zero, suc, ◌+◌, ◌<◌, List, [], ◌∷◌, ◌++◌, length, take, get_or, All, sym, ap, ◌∙◌, subst, arith}
use Rattle.suifvm_ir.specs.Programs.{VmFunction}
use Rattle.temp_ir.specs.Programs.{TempFn}
use Rattle.alpha_select.specs.Selection.{IsSelectedFunction, AreSelected}

take_more : {A : Type 0} (xs : List A) (i : ℕ) (x d : A) → i < length xs → x ≡ get_or xs i d → take (i + 1) xs ≡ take i xs ++ x ∷ []
take_more [] i x d lt e = absurd (omega (arith, lt))
take_more (y ∷ ys) zero x d lt e = ap (λ z. z ∷ []) (sym e)
take_more (y ∷ ys) (suc i) x d lt e =
    let next : suc i + 1 ≡ suc (i + 1) = omega arith in
    ap (λ k. take k (y ∷ ys)) next ∙ ap (λ l. y ∷ l) (take_more ys i x d (omega (arith, lt)) e)

selected_push : (fs : List VmFunction) (gs : List TempFn) (f : VmFunction) (g : TempFn) → AreSelected fs gs → IsSelectedFunction f g → AreSelected (fs ++ f ∷ []) (gs ++ g ∷ [])
selected_push [] [] f g h new = (new, tt)
selected_push [] (y ∷ gs) f g h new = absurd h
selected_push (x ∷ fs) [] f g h new = absurd h
selected_push (x ∷ fs) (y ∷ gs) f g h new = (h.0, selected_push fs gs f g h.1 new)

pub selected_turn : (i : ℕ) (fs : List VmFunction) (gs news : List TempFn) (f d : VmFunction) (g : TempFn) → i < length fs → f ≡ get_or fs i d →
    AreSelected (take i fs) gs → IsSelectedFunction f g → news ≡ gs ++ g ∷ [] → AreSelected (take (i + 1) fs) news
selected_turn i fs gs news f d g lt at so_far new put =
    subst (λ l. AreSelected l news) (sym (take_more fs i f d lt at))
    (subst (AreSelected (take i fs ++ f ∷ [])) (sym put) (selected_push (take i fs) gs f g so_far new))

all_push : {A : Type 0} (P : A → Type 0) (xs : List A) (x : A) → All P xs → P x → All P (xs ++ x ∷ [])
all_push P [] x h p zero d lt = p
all_push P [] x h p (suc k) d lt = absurd (omega (arith, lt))
all_push P (y ∷ ys) x h p zero d lt = h 0 d (omega arith)
all_push P (y ∷ ys) x h p (suc k) d lt = all_push P ys x (λ j e below. h (suc j) e (omega (arith, below))) p k d (omega (arith, lt))

pub all_turn : {A : Type 0} (P : A → Type 0) (i : ℕ) (xs : List A) (x d : A) → i < length xs → x ≡ get_or xs i d → All P (take i xs) → P x → All P (take (i + 1) xs)
all_turn P i xs x d lt at so_far new = subst (All P) (sym (take_more xs i x d lt at)) (all_push P (take i xs) x so_far new)
