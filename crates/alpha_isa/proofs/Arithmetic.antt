-- Sign extension and wrapping: what the operations on 8, 16 and 32 bits keep of a word, for every width that a word has.
use Rattle.std.proofs.Common.{◌≡◌, ℕ, ◌+◌, ◌-◌, ◌*◌, ◌%◌, ◌^◌, ◌<◌, ◌≤◌, suc, ℤ, pos, negsuc, ◌+ℤ◌, ◌*ℤ◌, Bool, true, false, cond, ltb, refl, sym, ap, ◌∙◌, arith}
use Rattle.std.specs.Int.{Width, w8, w16, w32, w64, w128, cast_signed, cast_unsigned, int_wrap}
use Rattle.std.specs.Int.RustNames.{FitsSigned}
use Rattle.std.proofs.lemmas.Int.{to_z-of_z, wrapping_add-bits, wrapping_mul-bits}
use Rattle.std.proofs.lemmas.Nat.{mul-mod_first, pow_pos, mod_below}
use Rattle.std.proofs.lemmas.Bool.{ltb-false}
use Rattle.std.proofs.Math.Nat.{mul_comm}
use Rattle.std.proofs.Math.Facts.{sfits_to_z}
use mir.Val.{bits}
use Rattle.alpha_isa.specs.Arithmetic.{word_at, word_from, signed_value, sign_extension, kept_bytes}

-- ---- words

pub word_at-small : (n : ℕ) → n < 2 ^ 64 → word_at n ≡ n
word_at-small n small = omega arith

pub word_at-below : (n : ℕ) → word_at n < 2 ^ 64
word_at-below n = omega arith

-- ---- sign extension, by its low bits

-- a signed number of a narrow width, as a word, by its sign
low_8 : (n : ℕ) (b : Bool) → ltb n (2 ^ 7) ≡ b → n < 2 ^ 8 → (let z : ℤ = cond b (pos n) (negsuc (2 ^ 8 - suc n)) in (word_from z % 2 ^ 8 ≡ n) × (word_from z < 2 ^ 64))
low_8 n true e small = (omega arith, omega arith)
low_8 n false e small = let high : 2 ^ 7 ≤ n = ltb-false n (2 ^ 7) e in (omega arith, omega arith)

low_16 : (n : ℕ) (b : Bool) → ltb n (2 ^ 15) ≡ b → n < 2 ^ 16 → (let z : ℤ = cond b (pos n) (negsuc (2 ^ 16 - suc n)) in (word_from z % 2 ^ 16 ≡ n) × (word_from z < 2 ^ 64))
low_16 n true e small = (omega arith, omega arith)
low_16 n false e small = let high : 2 ^ 15 ≤ n = ltb-false n (2 ^ 15) e in (omega arith, omega arith)

low_32 : (n : ℕ) (b : Bool) → ltb n (2 ^ 31) ≡ b → n < 2 ^ 32 → (let z : ℤ = cond b (pos n) (negsuc (2 ^ 32 - suc n)) in (word_from z % 2 ^ 32 ≡ n) × (word_from z < 2 ^ 64))
low_32 n true e small = (omega arith, omega arith)
low_32 n false e small = let high : 2 ^ 31 ≤ n = ltb-false n (2 ^ 31) e in (omega arith, omega arith)

low_64 : (n : ℕ) (b : Bool) → ltb n (2 ^ 63) ≡ b → n < 2 ^ 64 → (let z : ℤ = cond b (pos n) (negsuc (2 ^ 64 - suc n)) in (word_from z % 2 ^ 64 ≡ n) × (word_from z < 2 ^ 64))
low_64 n true e small = (omega arith, omega arith)
low_64 n false e small = let high : 2 ^ 63 ≤ n = ltb-false n (2 ^ 63) e in (omega arith, omega arith)

from_low : (w : Width) (n : ℕ) → bits w ≤ 64 → n < 2 ^ bits w → (word_from (cast_signed w n) % 2 ^ bits w ≡ n) × (word_from (cast_signed w n) < 2 ^ 64)
from_low w8 n narrow small = low_8 n (ltb n (2 ^ 7)) refl small
from_low w16 n narrow small = low_16 n (ltb n (2 ^ 15)) refl small
from_low w32 n narrow small = low_32 n (ltb n (2 ^ 31)) refl small
from_low w64 n narrow small = low_64 n (ltb n (2 ^ 63)) refl small
from_low w128 n narrow small = absurd (omega arith)

pub low_below : (w : Width) (n : ℕ) → n % 2 ^ bits w < 2 ^ bits w
low_below w n = mod_below n (2 ^ bits w) (pow_pos (bits w))

pub sign_extended-low : (w : Width) (n : ℕ) → bits w ≤ 64 → sign_extension w n % 2 ^ bits w ≡ n % 2 ^ bits w
sign_extended-low w n narrow = (from_low w (n % 2 ^ bits w) narrow (low_below w n)).0

pub sign_extended-below : (w : Width) (n : ℕ) → bits w ≤ 64 → sign_extension w n < 2 ^ 64
sign_extended-below w n narrow = (from_low w (n % 2 ^ bits w) narrow (low_below w n)).1

-- numbers with the same low bits have the same extension and the same signed reading
pub signed_same : (w : Width) (n m : ℕ) → n % 2 ^ bits w ≡ m % 2 ^ bits w → signed_value w n ≡ signed_value w m
signed_same w n m e = ap (cast_signed w) e

pub sign_extended-same : (w : Width) (n m : ℕ) → n % 2 ^ bits w ≡ m % 2 ^ bits w → sign_extension w n ≡ sign_extension w m
sign_extended-same w n m e = ap word_from (signed_same w n m e)

pub sign_extended-again : (w : Width) (n : ℕ) → bits w ≤ 64 → sign_extension w (sign_extension w n) ≡ sign_extension w n
sign_extended-again w n narrow = sign_extended-same w (sign_extension w n) n (sign_extended-low w n narrow)

fits_to_z : (w : Width) (n : ℕ) → n < 2 ^ bits w → FitsSigned w (cast_signed w n)
fits_to_z w n small = sfits_to_z {w = w} {n = n} (record { fits = small })

-- a word that was extended reads as the number of its low bits
widened : (w : Width) (z : ℤ) → bits w ≤ 64 → FitsSigned w z → FitsSigned w64 z
widened w8 z narrow fits = record { sfits = omega (arith, fits.sfits) }
widened w16 z narrow fits = record { sfits = omega (arith, fits.sfits) }
widened w32 z narrow fits = record { sfits = omega (arith, fits.sfits) }
widened w64 z narrow fits = record { sfits = omega (arith, fits.sfits) }
widened w128 z narrow fits = absurd (omega arith)

signed_word : (w : Width) (n : ℕ) → bits w ≤ 64 → n < 2 ^ bits w → cast_signed w64 (word_from (cast_signed w n)) ≡ cast_signed w n
signed_word w n narrow small = to_z-of_z w64 (cast_signed w n) (widened w (cast_signed w n) narrow (fits_to_z w n small))

pub signed-sign_extended : (w : Width) (n : ℕ) → bits w ≤ 64 → signed_value w64 (sign_extension w n) ≡ signed_value w n
signed-sign_extended w n narrow =
    ap (cast_signed w64) (word_at-small (sign_extension w n) (sign_extended-below w n narrow)) ∙ signed_word w (n % 2 ^ bits w) narrow (low_below w n)

-- a signed number that fits is read back from its word
from_fits : (w : Width) (z : ℤ) → bits w ≤ 64 → FitsSigned w z → word_from z % 2 ^ bits w ≡ cast_unsigned w z
from_fits w8 (pos n) narrow fits = omega (arith, fits.sfits)
from_fits w8 (negsuc n) narrow fits = omega (arith, fits.sfits)
from_fits w16 (pos n) narrow fits = omega (arith, fits.sfits)
from_fits w16 (negsuc n) narrow fits = omega (arith, fits.sfits)
from_fits w32 (pos n) narrow fits = omega (arith, fits.sfits)
from_fits w32 (negsuc n) narrow fits = omega (arith, fits.sfits)
from_fits w64 (pos n) narrow fits = omega (arith, fits.sfits)
from_fits w64 (negsuc n) narrow fits = omega (arith, fits.sfits)
from_fits w128 z narrow fits = absurd (omega arith)

pub signed-word_from : (w : Width) (z : ℤ) → bits w ≤ 64 → FitsSigned w z → signed_value w (word_from z) ≡ z
signed-word_from w z narrow fits = ap (cast_signed w) (from_fits w z narrow fits) ∙ to_z-of_z w z fits

-- ---- wrapping: an operation that is extended needs no more than the low bits of its operands

low_sum : (w : Width) (n m k : ℕ) → n % 2 ^ bits w ≡ m % 2 ^ bits w → (n + k) % 2 ^ bits w ≡ (m + k) % 2 ^ bits w
low_sum w8 n m k e = omega arith
low_sum w16 n m k e = omega arith
low_sum w32 n m k e = omega arith
low_sum w64 n m k e = omega arith
low_sum w128 n m k e = omega arith

low_product : (w : Width) (n m k : ℕ) → n % 2 ^ bits w ≡ m % 2 ^ bits w → (n * k) % 2 ^ bits w ≡ (m * k) % 2 ^ bits w
low_product w n m k e = sym (mul-mod_first n k (2 ^ bits w)) ∙ ap (λ j. (j * k) % 2 ^ bits w) e ∙ mul-mod_first m k (2 ^ bits w)

low_both : (w : Width) (n k : ℕ) → (n + k) % 2 ^ bits w ≡ (n % 2 ^ bits w + k % 2 ^ bits w) % 2 ^ bits w
low_both w8 n k = omega arith
low_both w16 n k = omega arith
low_both w32 n k = omega arith
low_both w64 n k = omega arith
low_both w128 n k = omega arith

low_factors : (w : Width) (n k : ℕ) → (n * k) % 2 ^ bits w ≡ (n % 2 ^ bits w * (k % 2 ^ bits w)) % 2 ^ bits w
low_factors w n k =
    sym (mul-mod_first n k (2 ^ bits w))
    ∙ ap (λ j. j % 2 ^ bits w) (mul_comm (n % 2 ^ bits w) k)
    ∙ sym (mul-mod_first k (n % 2 ^ bits w) (2 ^ bits w))
    ∙ ap (λ j. j % 2 ^ bits w) (mul_comm (k % 2 ^ bits w) (n % 2 ^ bits w))

pub sign_extended-sum : (w : Width) (n k : ℕ) → bits w ≤ 64 → sign_extension w (sign_extension w n + k) ≡ sign_extension w (n + k)
sign_extended-sum w n k narrow = sign_extended-same w (sign_extension w n + k) (n + k) (low_sum w (sign_extension w n) n k (sign_extended-low w n narrow))

pub sign_extended-product : (w : Width) (n k : ℕ) → bits w ≤ 64 → sign_extension w (sign_extension w n * k) ≡ sign_extension w (n * k)
sign_extended-product w n k narrow = sign_extended-same w (sign_extension w n * k) (n * k) (low_product w (sign_extension w n) n k (sign_extended-low w n narrow))

-- the signed sum and product of the low bits, wrapped
pub signed-sum : (w : Width) (n k : ℕ) → signed_value w (n + k) ≡ int_wrap w (signed_value w n +ℤ signed_value w k)
signed-sum w n k = signed_same w (n + k) (n % 2 ^ bits w + k % 2 ^ bits w) (low_both w n k) ∙ wrapping_add-bits w (n % 2 ^ bits w) (k % 2 ^ bits w) (low_below w n) (low_below w k)

pub signed-product : (w : Width) (n k : ℕ) → signed_value w (n * k) ≡ int_wrap w (signed_value w n *ℤ signed_value w k)
signed-product w n k = ap (cast_signed w) (low_factors w n k) ∙ wrapping_mul-bits w (n % 2 ^ bits w) (k % 2 ^ bits w) (low_below w n) (low_below w k)

-- ---- zero extension

pub kept_bytes-long : (n : ℕ) → kept_bytes 8 n 0x0F ≡ n % 2 ^ 32
kept_bytes-long n = omega arith
