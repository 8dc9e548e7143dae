-- What two displacements make, and what halves do.
use Rattle.std.proofs.Common.{◌≡◌, ℕ, zero, suc, ◌+◌, ◌-◌, ◌*◌, ◌/◌, ◌%◌, ◌^◌, ◌<◌, ◌≤◌, ◌⊎◌, inl, inr, pos, negsuc, ◌*ℤ◌, neg_ℤ, Bool, true, false, cond, ltb, refl, ◌∙◌, arith}
use Rattle.std.proofs.lemmas.Bool.{ltb-true, ltb-false}
use Rattle.alpha_isa.specs.Arithmetic.{word_at, word_from}
use Rattle.alpha_constants.specs.Recipes.{low_part, high_part, near_word, upper_part}

-- a displacement as a word, and moved up by 16 bits
abbrev Low : (l w : ℕ) → Type 0
Low l w = ((w ≡ l) × (l < 2 ^ 15)) ⊎ ((w ≡ l + (2 ^ 64 - 2 ^ 16)) × (2 ^ 15 ≤ l))

abbrev High : (h w : ℕ) → Type 0
High h w = ((w ≡ h * 2 ^ 16) × (h < 2 ^ 15)) ⊎ ((w ≡ h * 2 ^ 16 + (2 ^ 64 - 2 ^ 32)) × (2 ^ 15 ≤ h))

low_by : (l : ℕ) (b : Bool) → ltb l (2 ^ 15) ≡ b → l < 2 ^ 16 → Low l (word_from (cond b (pos l) (negsuc (2 ^ 16 - suc l))))
low_by l true t small = let lt : l < 2 ^ 15 = ltb-true l (2 ^ 15) t in inl (omega arith, lt)
low_by l false t small = let ge : 2 ^ 15 ≤ l = ltb-false l (2 ^ 15) t in inr (omega arith, ge)

low_is : (n : ℕ) → Low (n % 2 ^ 16) (word_from (low_part n))
low_is n = low_by (n % 2 ^ 16) (ltb (n % 2 ^ 16) (2 ^ 15)) refl (omega arith)

negative_word : (m : ℕ) → 0 < m → m < 2 ^ 63 → word_from (neg_ℤ (pos m)) ≡ 2 ^ 64 - m
negative_word zero some small = absurd (omega arith)
negative_word (suc m) some small = omega arith

negative_high : (k : ℕ) → k < 2 ^ 16 → word_from (negsuc k *ℤ pos 65536) ≡ 2 ^ 64 - suc k * 65536
negative_high k small = negative_word (suc k * 65536) (omega arith) (omega arith)

high_by : (h : ℕ) (b : Bool) → ltb h (2 ^ 15) ≡ b → h < 2 ^ 16 → High h (word_from (cond b (pos h) (negsuc (2 ^ 16 - suc h)) *ℤ pos 65536))
high_by h true t small = let lt : h < 2 ^ 15 = ltb-true h (2 ^ 15) t in inl (omega arith, lt)
high_by h false t small =
    let ge : 2 ^ 15 ≤ h = ltb-false h (2 ^ 15) t in
    inr (negative_high (2 ^ 16 - suc h) (omega arith) ∙ omega arith, ge)

high_is : (n : ℕ) → High ((n / 2 ^ 16 + n / 2 ^ 15 % 2) % 2 ^ 16) (word_from (high_part n *ℤ pos 65536))
high_is n = high_by ((n / 2 ^ 16 + n / 2 ^ 15 % 2) % 2 ^ 16) (ltb ((n / 2 ^ 16 + n / 2 ^ 15 % 2) % 2 ^ 16) (2 ^ 15)) refl (omega arith)

sum_low : (n h l : ℕ) → High ((n / 2 ^ 16 + n / 2 ^ 15 % 2) % 2 ^ 16) h → Low (n % 2 ^ 16) l → word_at (h + l) % 2 ^ 32 ≡ n % 2 ^ 32
sum_low n h l (inl a) (inl b) = omega (arith, a.0, a.1, b.0, b.1)
sum_low n h l (inl a) (inr b) = omega (arith, a.0, a.1, b.0, b.1)
sum_low n h l (inr a) (inl b) = omega (arith, a.0, a.1, b.0, b.1)
sum_low n h l (inr a) (inr b) = omega (arith, a.0, a.1, b.0, b.1)

-- two displacements make the low 32 bits
pub near_word-low : (n : ℕ) → near_word n % 2 ^ 32 ≡ n % 2 ^ 32
near_word-low n = sum_low n (word_from (high_part n *ℤ pos 65536)) (word_from (low_part n)) (high_is n) (low_is n)

near_word-below : (n : ℕ) → near_word n < 2 ^ 64
near_word-below n = omega arith

halves_by : (n near upper : ℕ) → n < 2 ^ 64 → near < 2 ^ 64 → near % 2 ^ 32 ≡ n % 2 ^ 32 → upper % 2 ^ 32 ≡ word_at (n + (2 ^ 64 - near)) / 2 ^ 32 % 2 ^ 32 → word_at (word_at (upper * 2 ^ 32) + near) ≡ n
halves_by n near upper small below low high = omega arith

-- halves make any word
pub halves_make : (n : ℕ) → n < 2 ^ 64 → word_at (word_at (near_word (upper_part n) * 2 ^ 32) + near_word n) ≡ n
halves_make n small = halves_by n (near_word n) (near_word (upper_part n)) small (near_word-below n) (near_word-low n) (near_word-low (upper_part n))
