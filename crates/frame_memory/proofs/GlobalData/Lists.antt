-- Bytes in lists, and lists with a part put.
use Rattle.std.proofs.Common.{◌≡◌, ℕ, zero, suc, ◌+◌, ◌-◌, ◌<◌, ◌≤◌, ◌⊎◌, List, [], ◌∷◌, ◌++◌, Some, length, map, take, drop, replicate, get_or, refl, ap, ◌∙◌, arith, inl, inr, length-append, length-drop}
use Rattle.std.specs.Prelude.{slice_get, slice_index}
use Rattle.std.proofs.lemmas.List.{length-take-le, get_or-take, get_or-drop, get_or_append_left, get_or-append_right}
use Rattle.alpha_isa.specs.State.{with_part}
use Rattle.mem_model.specs.Bytes.{AreBytes}

pub part-length : (bytes new : List ℕ) (i : ℕ) → i + length new ≤ length bytes → length (with_part bytes i new) ≡ length bytes
part-length bytes new i le =
    omega (arith, length-append (take i bytes) (new ++ drop (i + length new) bytes), length-append new (drop (i + length new) bytes), length-take-le i bytes (omega arith), length-drop (i + length new) bytes)

pub part-apart : (bytes new : List ℕ) (i k : ℕ) → i + length new ≤ length bytes → (k < i) ⊎ (i + length new ≤ k) → get_or (with_part bytes i new) k 0 ≡ get_or bytes k 0
part-apart bytes new i k le (inl lt) =
    let len = length-take-le i bytes (omega arith) in
    get_or_append_left (take i bytes) (new ++ drop (i + length new) bytes) 0 k (omega (arith, len)) ∙ get_or-take i bytes k 0 lt
part-apart bytes new i k le (inr ge) =
    let len : length (take i bytes) ≡ i = length-take-le i bytes (omega arith) in
    let f : (i + length new) + (k - i - length new) ≡ k = omega arith in
    get_or-append_right (take i bytes) (new ++ drop (i + length new) bytes) i k 0 len (omega arith)
    ∙ get_or-append_right new (drop (i + length new) bytes) (length new) (k - i) 0 refl (omega arith)
    ∙ get_or-drop (i + length new) bytes (k - i - length new) 0
    ∙ ap (λ j. get_or bytes j 0) f

pub part-inside : (bytes new : List ℕ) (i k : ℕ) → i + length new ≤ length bytes → k < length new → get_or (with_part bytes i new) (i + k) 0 ≡ get_or new k 0
part-inside bytes new i k le lt =
    let len : length (take i bytes) ≡ i = length-take-le i bytes (omega arith) in
    let e : i + k - i ≡ k = omega arith in
    get_or-append_right (take i bytes) (new ++ drop (i + length new) bytes) i (i + k) 0 len (omega arith)
    ∙ ap (λ j. get_or (new ++ drop (i + length new) bytes) j 0) e
    ∙ get_or_append_left new (drop (i + length new) bytes) 0 k lt

-- ---- lists of bytes

pub bytes-append : (xs ys : List ℕ) → AreBytes xs → AreBytes ys → AreBytes (xs ++ ys)
bytes-append [] ys h k = k
bytes-append (x ∷ xs) ys h k = (h.0, bytes-append xs ys h.1 k)

pub bytes-take : (n : ℕ) (xs : List ℕ) → AreBytes xs → AreBytes (take n xs)
bytes-take zero xs h = tt
bytes-take (suc n) [] h = tt
bytes-take (suc n) (x ∷ xs) h = (h.0, bytes-take n xs h.1)

pub bytes-drop : (n : ℕ) (xs : List ℕ) → AreBytes xs → AreBytes (drop n xs)
bytes-drop zero xs h = h
bytes-drop (suc n) [] h = tt
bytes-drop (suc n) (x ∷ xs) h = bytes-drop n xs h.1

pub bytes-zeros : (n : ℕ) → AreBytes (replicate n 0)
bytes-zeros zero = tt
bytes-zeros (suc n) = (omega arith, bytes-zeros n)

pub zeros-index : (n k : ℕ) → slice_index (replicate n 0) k ≡ 0
zeros-index zero k = refl
zeros-index (suc n) zero = refl
zeros-index (suc n) (suc k) = zeros-index n k

pub map-index : {X : Type 0} (f : X → ℕ) (xs : List X) (k : ℕ) (x : X) → slice_get xs k ≡ Some x → slice_index (map f xs) k ≡ f x
map-index f [] k x e = absurd (cc)
map-index f (y ∷ xs) zero x e = let is : y ≡ x = cc in ap f is
map-index f (y ∷ xs) (suc k) x e = map-index f xs k x e
