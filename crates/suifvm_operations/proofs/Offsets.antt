-- Offsets of pointers.
use Rattle.std.proofs.Common.{◌≡◌, ℕ, ◌+◌, ◌-◌, ◌%◌, ◌<◌, ◌^◌, ℤ, pos, negsuc, ◌-ℤ◌, sym, ap, ◌∙◌, arith}
use Rattle.std.specs.Int.{w64, cast_signed, cast_unsigned}
use Rattle.std.specs.Int.RustNames.{FitsSigned}
use Rattle.std.proofs.lemmas.Int.{to_z-of_z}
use Rattle.bk_arithmetic.specs.declared.integer_type.IntegerType.TheVariants.{Long}
use Rattle.bk_arithmetic.specs.Words.{value, word}
use Rattle.bk_arithmetic.proofs.Sums.{word-difference}

bits_below : (z : ℤ) → FitsSigned w64 z → cast_unsigned w64 z < 2 ^ 64
bits_below (pos n) f = omega (arith, f.sfits)
bits_below (negsuc n) f = omega arith

-- the bits of a number stand for it
held : (z : ℤ) → FitsSigned w64 z → value Long (cast_unsigned w64 z) ≡ z
held z f =
    let low : cast_unsigned w64 z % 2 ^ 64 ≡ cast_unsigned w64 z = omega (arith, bits_below z f) in
    ap (cast_signed w64) low ∙ to_z-of_z w64 z f

pub distance_word : (to from : ℤ) (n : ℕ) → FitsSigned w64 to → FitsSigned w64 from → n ≡ (cast_unsigned w64 to + (2 ^ 64 - cast_unsigned w64 from)) % 2 ^ 64 → n ≡ word Long (to -ℤ from)
distance_word to from n f g is =
    is ∙ sym (word-difference Long (cast_unsigned w64 to) (cast_unsigned w64 from) (bits_below from g))
    ∙ ap (λ z. word Long (z -ℤ value Long (cast_unsigned w64 from))) (held to f)
    ∙ ap (λ z. word Long (to -ℤ z)) (held from g)
