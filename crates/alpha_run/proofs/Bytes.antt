-- The bytes of a word that a mask keeps, from the highest down.
use Rattle.std.proofs.Common.{◌≡◌, ℕ, zero, suc, ◌+◌, ◌-◌, ◌*◌, ◌/◌, ◌%◌, ◌^◌, ◌<◌, ◌≤◌, Bool, true, false, cond, eqb, refl, sym, ap, ◌∙◌, arith, lit<}
use Rattle.std.proofs.lemmas.Nat.{shr-shr}
use Rattle.std.proofs.Math.Nat.{pow-suc, pow-le-pow_right}
use Rattle.alpha_isa.specs.Arithmetic.{kept_bytes}

byte_small : (b : Bool) (n : ℕ) → cond b (n % 256) 0 < 256
byte_small true n = omega arith
byte_small false n = omega arith

kept_small : (k n mask : ℕ) → kept_bytes k n mask < 256 ^ k
kept_small zero n mask = omega arith
kept_small (suc k) n mask =
    omega (arith, kept_small k (n / 256) (mask / 2), byte_small (eqb (mask % 2) 1) n, pow-suc 256 k)

-- where a byte is still to come, there is room for it
pub kept_room : (place n mask kept : ℕ) → kept ≡ kept_bytes (8 - place) n mask → 0 < place → kept < 256 ^ 7
kept_room place n mask kept e h =
    let few : 8 - place ≤ 7 = omega arith in
    let some : 0 < 256 = lit< tt in
    omega (arith, e, kept_small (8 - place) n mask, pow-le-pow_right some few)

-- one more byte below those that were kept
kept_more : (p n mask kept : ℕ) → p < 8 → kept ≡ kept_bytes (7 - p) (n / 2 ^ (8 * p + 8)) (mask / 2 ^ (p + 1)) → cond (eqb (mask / 2 ^ p % 2) 1) (n / 2 ^ (8 * p) % 256) 0 + 256 * kept ≡ kept_bytes (8 - p) (n / 2 ^ (8 * p)) (mask / 2 ^ p)
kept_more p n mask kept h e =
    let count : 8 - p ≡ suc (7 - p) = omega arith in
    let bytes : n / 2 ^ (8 * p) / 2 ^ 8 ≡ n / 2 ^ (8 * p + 8) = shr-shr n (8 * p) 8 in
    let bits : mask / 2 ^ p / 2 ^ 1 ≡ mask / 2 ^ (p + 1) = shr-shr mask p 1 in
    rw (count, bytes, bits, e) refl

pub kept_next : (place n mask kept byte : ℕ) → 0 < place → place ≤ 8 → kept ≡ kept_bytes (8 - place) (n / 2 ^ (8 * place)) (mask / 2 ^ place) → byte ≡ cond (eqb (mask / 2 ^ (place - 1) % 2) 1) (n / 2 ^ (8 * (place - 1)) % 256) 0 → byte + 256 * kept ≡ kept_bytes (8 - (place - 1)) (n / 2 ^ (8 * (place - 1))) (mask / 2 ^ (place - 1))
kept_next zero n mask kept byte low high e is = elim low [ ]
kept_next (suc p) n mask kept byte low high e is =
    let same : suc p - 1 ≡ p = omega arith in
    let count : 8 - suc p ≡ 7 - p = omega arith in
    let bytes : 8 * suc p ≡ 8 * p + 8 = omega arith in
    let bits : suc p ≡ p + 1 = omega arith in
    let below : p < 8 = omega arith in
    let here : kept ≡ kept_bytes (7 - p) (n / 2 ^ (8 * p + 8)) (mask / 2 ^ (p + 1)) = e ∙ ap (λ k. kept_bytes k (n / 2 ^ (8 * suc p)) (mask / 2 ^ suc p)) count ∙ ap (λ k. kept_bytes (7 - p) (n / 2 ^ k) (mask / 2 ^ suc p)) bytes ∙ ap (λ k. kept_bytes (7 - p) (n / 2 ^ (8 * p + 8)) (mask / 2 ^ k)) bits in
    let byte_is : byte ≡ cond (eqb (mask / 2 ^ p % 2) 1) (n / 2 ^ (8 * p) % 256) 0 = is ∙ ap (λ k. cond (eqb (mask / 2 ^ k % 2) 1) (n / 2 ^ (8 * k) % 256) 0) same in
    ap (λ b. b + 256 * kept) byte_is ∙ kept_more p n mask kept below here ∙ ap (λ k. kept_bytes (8 - k) (n / 2 ^ (8 * k)) (mask / 2 ^ k)) (sym same)

-- all of them
pub kept_all : (place n mask kept : ℕ) → place ≤ 0 → kept ≡ kept_bytes (8 - place) (n / 2 ^ (8 * place)) (mask / 2 ^ place) → kept ≡ kept_bytes 8 n mask
kept_all zero n mask kept low e =
    let whole : n / 1 ≡ n = omega arith in
    let bits : mask / 1 ≡ mask = omega arith in
    e ∙ ap (λ k. kept_bytes 8 k (mask / 1)) whole ∙ ap (λ k. kept_bytes 8 n k) bits
kept_all (suc place) n mask kept low e = absurd (omega arith)
