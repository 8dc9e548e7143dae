-- What a word of a type keeps of a word: its low bits, and with them its value.
use Rattle.std.proofs.Common.{◌≡◌, ℕ, ◌-◌, ◌%◌, ◌^◌, ◌<◌, ◌≤◌, suc, ℤ, pos, negsuc, Bool, true, false, cond, ltb, refl, ap, arith}
use Rattle.std.specs.Int.{Width, w8, w16, w32, w64, w128, cast_signed, cast_unsigned}
use Rattle.std.proofs.lemmas.Nat.{pow_pos, mod_below}
use Rattle.std.proofs.lemmas.Bool.{ltb-false}
use mir.Val.{bits}
use Rattle.bk_arithmetic.specs.declared.integer_type.IntegerType.{IntegerType}
use Rattle.bk_arithmetic.specs.declared.integer_type.IntegerType.TheVariants.{Char, UnsignedChar, Short, UnsignedShort, Int, UnsignedInt, Long, UnsignedLong}
use Rattle.bk_arithmetic.specs.IntegerTypes.{width, is_signed}
use Rattle.bk_arithmetic.specs.Words.{low_bits, value, sign_extension, extension}

pub low_bits-below : (t : IntegerType) (n : ℕ) → low_bits t n < 2 ^ bits (width t)
low_bits-below t n = mod_below n (2 ^ bits (width t)) (pow_pos (bits (width t)))

-- ---- a number of a narrow width by its sign, as a word of 64 bits

signed_8 : (n : ℕ) (b : Bool) → ltb n (2 ^ 7) ≡ b → n < 2 ^ 8 → (let z : ℤ = cond b (pos n) (negsuc (2 ^ 8 - suc n)) in (cast_unsigned w64 z % 2 ^ 8 ≡ n) × (cast_unsigned w64 z < 2 ^ 64))
signed_8 n true e small = (omega arith, omega arith)
signed_8 n false e small = let high : 2 ^ 7 ≤ n = ltb-false n (2 ^ 7) e in (omega arith, omega arith)

signed_16 : (n : ℕ) (b : Bool) → ltb n (2 ^ 15) ≡ b → n < 2 ^ 16 → (let z : ℤ = cond b (pos n) (negsuc (2 ^ 16 - suc n)) in (cast_unsigned w64 z % 2 ^ 16 ≡ n) × (cast_unsigned w64 z < 2 ^ 64))
signed_16 n true e small = (omega arith, omega arith)
signed_16 n false e small = let high : 2 ^ 15 ≤ n = ltb-false n (2 ^ 15) e in (omega arith, omega arith)

signed_32 : (n : ℕ) (b : Bool) → ltb n (2 ^ 31) ≡ b → n < 2 ^ 32 → (let z : ℤ = cond b (pos n) (negsuc (2 ^ 32 - suc n)) in (cast_unsigned w64 z % 2 ^ 32 ≡ n) × (cast_unsigned w64 z < 2 ^ 64))
signed_32 n true e small = (omega arith, omega arith)
signed_32 n false e small = let high : 2 ^ 31 ≤ n = ltb-false n (2 ^ 31) e in (omega arith, omega arith)

signed_64 : (n : ℕ) (b : Bool) → ltb n (2 ^ 63) ≡ b → n < 2 ^ 64 → (let z : ℤ = cond b (pos n) (negsuc (2 ^ 64 - suc n)) in (cast_unsigned w64 z % 2 ^ 64 ≡ n) × (cast_unsigned w64 z < 2 ^ 64))
signed_64 n true e small = (omega arith, omega arith)
signed_64 n false e small = let high : 2 ^ 63 ≤ n = ltb-false n (2 ^ 63) e in (omega arith, omega arith)

signed_any : (w : Width) (n : ℕ) → bits w ≤ 64 → n < 2 ^ bits w → (cast_unsigned w64 (cast_signed w n) % 2 ^ bits w ≡ n) × (cast_unsigned w64 (cast_signed w n) < 2 ^ 64)
signed_any w8 n narrow small = signed_8 n (ltb n (2 ^ 7)) refl small
signed_any w16 n narrow small = signed_16 n (ltb n (2 ^ 15)) refl small
signed_any w32 n narrow small = signed_32 n (ltb n (2 ^ 31)) refl small
signed_any w64 n narrow small = signed_64 n (ltb n (2 ^ 63)) refl small
signed_any w128 n narrow small = absurd (omega arith)

pub narrow : (t : IntegerType) → bits (width t) ≤ 64
narrow Char = omega arith
narrow UnsignedChar = omega arith
narrow Short = omega arith
narrow UnsignedShort = omega arith
narrow Int = omega arith
narrow UnsignedInt = omega arith
narrow Long = omega arith
narrow UnsignedLong = omega arith

signed_low : (t : IntegerType) (n : ℕ) → sign_extension t n % 2 ^ bits (width t) ≡ low_bits t n
signed_low t n = (signed_any (width t) (low_bits t n) (narrow t) (low_bits-below t n)).0

pub signed_small : (t : IntegerType) (n : ℕ) → sign_extension t n < 2 ^ 64
signed_small t n = (signed_any (width t) (low_bits t n) (narrow t) (low_bits-below t n)).1

-- ---- the low bits of a word of a type

pub low_bits-extension : (t : IntegerType) (n : ℕ) → low_bits t (extension t n) ≡ low_bits t n
low_bits-extension Char n = signed_low Char n
low_bits-extension UnsignedChar n = omega arith
low_bits-extension Short n = signed_low Short n
low_bits-extension UnsignedShort n = omega arith
low_bits-extension Int n = signed_low Int n
low_bits-extension UnsignedInt n = signed_low UnsignedInt n
low_bits-extension Long n = omega arith
low_bits-extension UnsignedLong n = omega arith

pub extension-below : (t : IntegerType) (n : ℕ) → extension t n < 2 ^ 64
extension-below Char n = signed_small Char n
extension-below UnsignedChar n = omega arith
extension-below Short n = signed_small Short n
extension-below UnsignedShort n = omega arith
extension-below Int n = signed_small Int n
extension-below UnsignedInt n = signed_small UnsignedInt n
extension-below Long n = omega arith
extension-below UnsignedLong n = omega arith

-- words with the same low bits have the same value, and the same word of the type
pub value-same : (t : IntegerType) (n m : ℕ) → low_bits t n ≡ low_bits t m → value t n ≡ value t m
value-same t n m e = ap (λ l. cond (is_signed t) (cast_signed (width t) l) (pos l)) e

sign_extension-same : (t : IntegerType) (n m : ℕ) → low_bits t n ≡ low_bits t m → sign_extension t n ≡ sign_extension t m
sign_extension-same t n m e = ap (λ l. cast_unsigned w64 (cast_signed (width t) l)) e

pub extension-same : (t : IntegerType) (n m : ℕ) → low_bits t n ≡ low_bits t m → extension t n ≡ extension t m
extension-same Char n m e = sign_extension-same Char n m e
extension-same UnsignedChar n m e = e
extension-same Short n m e = sign_extension-same Short n m e
extension-same UnsignedShort n m e = e
extension-same Int n m e = sign_extension-same Int n m e
extension-same UnsignedInt n m e = sign_extension-same UnsignedInt n m e
extension-same Long n m e = e
extension-same UnsignedLong n m e = e

pub extension-again : (t : IntegerType) (n : ℕ) → extension t (extension t n) ≡ extension t n
extension-again t n = extension-same t (extension t n) n (low_bits-extension t n)

pub value-extension : (t : IntegerType) (n : ℕ) → value t (extension t n) ≡ value t n
value-extension t n = value-same t (extension t n) n (low_bits-extension t n)

-- the signed reading is found from the low bits, and the low bits from it
pub sign_extension-low : (t : IntegerType) (n : ℕ) → low_bits t (sign_extension t n) ≡ low_bits t n
sign_extension-low t n = signed_low t n
