-- Numbers and their bytes.
use Rattle.std.proofs.Common.{◌≡◌, ◌≢◌, ℕ, zero, suc, ◌+◌, ◌*◌, ◌/◌, ◌%◌, ◌^◌, ◌<◌, ◌≤◌, ◌⊎◌, Bool, true, false, List, [], ◌∷◌, length, refl, sym, ap, ◌∙◌, subst, arith, inl, inr, ⊎_elim, eq-eqb}
use Rattle.std.specs.Prelude.{◌==◌, if◌then◌else◌}
use Rattle.std.proofs.lemmas.Bool.{eqb-true}
use Rattle.mem_model.specs.Bytes.{AreBytes}
use Rattle.frame_memory.specs.Bytes.{Bytes, bytes_from, put_bytes, low_bytes, number_from}

pub bytes_come_back : (bs : List ℕ) → AreBytes bs → low_bytes (length bs) (number_from bs) ≡ bs
unfolding low_bytes number_from
bytes_come_back [] h = refl
bytes_come_back (b ∷ bs) h =
    let small : b < 256 = h.0 in
    let low : (b + 256 * number_from bs) % 256 ≡ b = omega arith in
    let high : (b + 256 * number_from bs) / 256 ≡ number_from bs = omega arith in
    rw (low, high, bytes_come_back bs h.1) refl

power : (count : ℕ) → 256 ^ suc count ≡ 256 * 256 ^ count
power count = omega arith

pub numbers_come_back : (count n : ℕ) → n < 256 ^ count → number_from (low_bytes count n) ≡ n
unfolding low_bytes number_from
numbers_come_back zero n h = omega arith
numbers_come_back (suc count) n h =
    let bound : n < 256 * 256 ^ count = subst (λ k. n < k) (power count) h in
    let less : n / 256 < 256 ^ count = omega arith in
    let rest = numbers_come_back count (n / 256) less in
    omega (arith, rest)

pub low_bytes-length : (count n : ℕ) → length (low_bytes count n) ≡ count
unfolding low_bytes
low_bytes-length zero n = refl
low_bytes-length (suc count) n = ap suc (low_bytes-length count (n / 256))

pub low_bytes-are : (count n : ℕ) → AreBytes (low_bytes count n)
unfolding low_bytes
low_bytes-are zero n = tt
low_bytes-are (suc count) n = (omega arith, low_bytes-are count (n / 256))

pub bytes_from-length : (m : Bytes) (a count : ℕ) → length (bytes_from m a count) ≡ count
unfolding bytes_from
bytes_from-length m a zero = refl
bytes_from-length m a (suc count) = ap suc (bytes_from-length m (suc a) count)

pub bytes_from-are : (m : Bytes) → ((y : ℕ) → m y < 256) → (a count : ℕ) → AreBytes (bytes_from m a count)
unfolding bytes_from
bytes_from-are m small a zero = tt
bytes_from-are m small a (suc count) = (small a, bytes_from-are m small (suc a) count)

pub number_from-low : (bs : List ℕ) → AreBytes bs → number_from bs < 256 ^ length bs
unfolding number_from
number_from-low [] h = omega arith
number_from-low (b ∷ bs) h =
    let small : b < 256 = h.0 in
    let rest = number_from-low bs h.1 in
    let bound : b + 256 * number_from bs < 256 * 256 ^ length bs = omega (arith, rest) in
    subst (λ k. b + 256 * number_from bs < k) (sym (power (length bs))) bound

-- ---- bytes that are put

pub untrue : (b : Bool) → (b ≡ true → ⊥) → b ≡ false
untrue true h = absurd (h refl)
untrue false h = refl

pub put-out : (bs : List ℕ) (m : Bytes) (a y : ℕ) → (y < a) ⊎ (a + length bs ≤ y) → put_bytes m a bs y ≡ m y
unfolding put_bytes
put-out [] m a y h = refl
put-out (b ∷ bs) m a y h =
    let ne : y ≢ a = ⊎_elim (λ lt. omega arith) (λ le. omega arith) h in
    ap (λ t. if t then b else put_bytes m (suc a) bs y) (untrue (y == a) (λ e. ne (eqb-true y a e)))
    ∙ put-out bs m (suc a) y (⊎_elim (λ lt. inl (omega arith)) (λ le. inr (omega arith)) h)

pub put-step : (b : ℕ) (bs : List ℕ) (m : Bytes) (a y : ℕ) → suc a ≤ y → put_bytes m a (b ∷ bs) y ≡ put_bytes m (suc a) bs y
unfolding put_bytes
put-step b bs m a y le =
    let ne : y ≢ a = omega arith in
    ap (λ t. if t then b else put_bytes m (suc a) bs y) (untrue (y == a) (λ e. ne (eqb-true y a e)))

pub put-here : (b : ℕ) (bs : List ℕ) (m : Bytes) (a : ℕ) → put_bytes m a (b ∷ bs) a ≡ b
unfolding put_bytes
put-here b bs m a = ap (λ t. if t then b else put_bytes m (suc a) bs a) (eq-eqb a a refl)

small_if : (t : Bool) (b c : ℕ) → b < 256 → c < 256 → (if t then b else c) < 256
small_if true b c h k = h
small_if false b c h k = k

pub put-small : (bs : List ℕ) (m : Bytes) (a : ℕ) → AreBytes bs → ((y : ℕ) → m y < 256) → (y : ℕ) → put_bytes m a bs y < 256
unfolding put_bytes
put-small [] m a h small y = small y
put-small (b ∷ bs) m a h small y = small_if (y == a) b (put_bytes m (suc a) bs y) h.0 (put-small bs m (suc a) h.1 small y)

pub bytes_from-same : (m k : Bytes) (a count : ℕ) → ((y : ℕ) → a ≤ y → y < a + count → k y ≡ m y) → bytes_from k a count ≡ bytes_from m a count
unfolding bytes_from
bytes_from-same m k a zero h = refl
bytes_from-same m k a (suc count) h = cc (h a (omega arith) (omega arith), bytes_from-same m k (suc a) count (λ y le lt. h y (omega arith) (omega arith)))

pub bytes_from-put : (bs : List ℕ) (m : Bytes) (a : ℕ) → bytes_from (put_bytes m a bs) a (length bs) ≡ bs
unfolding bytes_from
bytes_from-put [] m a = refl
bytes_from-put (b ∷ bs) m a =
    let t = bytes_from-same (put_bytes m (suc a) bs) (put_bytes m a (b ∷ bs)) (suc a) (length bs) (λ y le lt. put-step b bs m a y le) in
    cc (put-here b bs m a, t, bytes_from-put bs m (suc a))
