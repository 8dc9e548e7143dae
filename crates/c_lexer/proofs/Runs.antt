-- Runs of bytes that pass a test, and what a front of a text keeps.
use Rattle.std.proofs.Common.{◌≡◌, ℕ, zero, suc, ◌+◌, ◌<◌, ◌≤◌, Bool, true, false, cond, List, [], ◌∷◌, length, take, refl, ap, arith}
use Rattle.std.specs.Prelude.{◌&&◌}
use Rattle.std.specs.List.{list_all, prefix_len}

within_by : (t : Bool) (n i : ℕ) (rest : Bool) → suc i ≤ cond t (1 + n) 0 → (i ≤ n → rest ≡ true) → (t && rest) ≡ true
within_by true n i rest h g = g (omega arith)
within_by false n i rest h g = absurd (omega arith)

over_by : (t : Bool) (n i : ℕ) (rest : Bool) → cond t (1 + n) 0 < suc i → (n < i → rest ≡ false) → (t && rest) ≡ false
over_by true n i rest h g = g (omega arith)
over_by false n i rest h g = refl

pub all_within : (f : ℕ → Bool) (s : List ℕ) (i : ℕ) → i ≤ prefix_len f s → list_all f (take i s) ≡ true
all_within f [] zero h = refl
all_within f [] (suc i) h = refl
all_within f (b ∷ s) zero h = refl
all_within f (b ∷ s) (suc i) h = within_by (f b) (prefix_len f s) i (list_all f (take i s)) h (λ le. all_within f s i le)

pub all_over : (f : ℕ → Bool) (s : List ℕ) (i : ℕ) → prefix_len f s < i → i ≤ length s → list_all f (take i s) ≡ false
all_over f s zero h le = absurd (omega arith)
all_over f [] (suc i) h le = absurd (omega arith)
all_over f (b ∷ s) (suc i) h le = over_by (f b) (prefix_len f s) i (list_all f (take i s)) h (λ lt. all_over f s i lt (omega arith))

pub first_run : (f : ℕ → Bool) (b : ℕ) (s : List ℕ) → f b ≡ true → prefix_len f s + 1 ≡ prefix_len f (b ∷ s)
first_run f b s h = rw h (omega arith)

stays_by : (t : Bool) (n m i : ℕ) → cond t (1 + n) 0 ≤ suc i → (n ≤ i → m ≡ n) → cond t (1 + m) 0 ≡ cond t (1 + n) 0
stays_by true n m i h g = let e : m ≡ n = g (omega arith) in ap (λ n. 1 + n) e
stays_by false n m i h g = refl

-- a run does not depend on what stands behind it
pub run_stays : (f : ℕ → Bool) (s : List ℕ) (k : ℕ) → prefix_len f s ≤ k → prefix_len f (take k s) ≡ prefix_len f s
run_stays f [] zero h = refl
run_stays f [] (suc k) h = refl
run_stays f (b ∷ s) zero h = omega arith
run_stays f (b ∷ s) (suc k) h = stays_by (f b) (prefix_len f s) (prefix_len f (take k s)) k h (λ le. run_stays f s k le)

pub take_comm : (a b : ℕ) (s : List ℕ) → take a (take b s) ≡ take b (take a s)
take_comm zero zero s = refl
take_comm zero (suc b) [] = refl
take_comm zero (suc b) (x ∷ s) = refl
take_comm (suc a) zero [] = refl
take_comm (suc a) zero (x ∷ s) = refl
take_comm (suc a) (suc b) [] = refl
take_comm (suc a) (suc b) (x ∷ s) = ap (λ r. x ∷ r) (take_comm a b s)
