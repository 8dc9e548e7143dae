-- The number that bytes spell is the one whose decimal text they are.
use Rattle.std.proofs.Common.{rules, ◌≡◌, ℕ, ◌^◌, ◌<◌, ◌≤◌, Bool, true, false, ◌&&◌, leb, List, [], ◌∷◌, length, suc, ◌-◌, eqb, Option, Some, None, Result, refl, sym, ap, ◌∙◌, subst, arith, w16}
use mir.Val.{to_z, of_z}
use Rattle.std.proofs.lemmas.Int.{to_z-of_z}
use lib.Signed.{mag}
use mir.Val.{SFits as FitsSigned}
use Rattle.std.specs.Prelude.{ℤ, pos, negsuc, decimal, bytes_eq, if◌then◌else◌, option_map, IsUtf8}
use Rattle.std.specs.Fmt.{signed_decimal}
use Rattle.std.specs.Str.Parse.{digits_value, AllDigits, ParsesUnsigned, ParsesSigned}
use Rattle.std.proofs.lemmas.Bool.{le-leb, eqb-true}
use Rattle.std.proofs.lemmas.Bool.Decides.{nat_tests}
use Rattle.std.proofs.lemmas.Slice.Eq.{bytes_eq-Decides}
use Rattle.std.proofs.lemmas.Str.{IsUtf8-from_ascii}
use Rattle.std.proofs.lemmas.Fmt.{decimal_nonempty, decimal_is_IsNumeral, IsAscii-decimal, IsAscii-signed, parse-decimal, parse-signed_decimal}
use Rattle.std.proofs.lemmas.Str.Parse.{digit_from_value}
use Rattle.alpha_isa.specs.Lawful.{IsDisplacement}
use Rattle.alpha_lines.specs.model.Numbers.{number_of, negate, displacement_of}

abbrev checked : {X : Type 0} → Bool → Bool → X → Option X
checked a b x = if a && b then Some x else None

passed : {X : Type 0} (a b : Bool) (x y : X) → checked a b x ≡ Some y → (a ≡ true) × (b ≡ true) × (x ≡ y)
passed true true x y e = (refl, refl, cc)
passed true false x y e = absurd (cc)
passed false b x y e = absurd (cc)

failed : {X : Type 0} (a b : Bool) (x : X) → (a ≡ true → b ≡ true → ⊥) → checked a b x ≡ None
failed true true x none = absurd (none refl refl)
failed true false x none = refl
failed false b x none = refl

pub number_sound : (most : ℕ) (s : List ℕ) (n : ℕ) → number_of most s ≡ Some n → (n ≤ most) × (s ≡ decimal n)
unfolding number_of
number_sound most s n e =
    let h = passed (leb (digits_value 10 s) most) (bytes_eq (decimal (digits_value 10 s)) s) (digits_value 10 s) n e in
    let low : digits_value 10 s ≤ most = grind (arith, nat_tests, h.0) in
    let text : decimal (digits_value 10 s) ≡ s = (bytes_eq-Decides (decimal (digits_value 10 s)) s).0 h.1 in
    (subst (λ m. m ≤ most) h.2 low, sym text ∙ ap decimal h.2)

pub number_complete : (most : ℕ) (s : List ℕ) (n : ℕ) → most < 2 ^ 64 → n ≤ most → s ≡ decimal n → number_of most s ≡ Some n
unfolding number_of
number_complete most s n small low e =
    let value : digits_value 10 s ≡ n = ap (digits_value 10) e ∙ (decimal_is_IsNumeral n (omega arith)).1 in
    let fits : leb (digits_value 10 s) most ≡ true = rw value (le-leb n most low) in
    let same : bytes_eq (decimal (digits_value 10 s)) s ≡ true = (bytes_eq-Decides (decimal (digits_value 10 s)) s).1 (ap decimal value ∙ sym e) in
    rw (fits, same) (ap Some value)

pub number_absent : (most : ℕ) (s : List ℕ) → ((n : ℕ) → n ≤ most → s ≡ decimal n → ⊥) → number_of most s ≡ None
unfolding number_of
number_absent most s none = failed (leb (digits_value 10 s) most) (bytes_eq (decimal (digits_value 10 s)) s) (digits_value 10 s)
    (λ a b. none (digits_value 10 s) (grind (arith, nat_tests, a)) (sym ((bytes_eq-Decides (decimal (digits_value 10 s)) s).0 b)))

pub parses : {E : Type 0} (s : List ℕ) (n : ℕ) (r : Result ℕ E) → n < 2 ^ 64 → s ≡ decimal n → ParsesUnsigned 64 10 s r → r ≡ Rattle.std.specs.Prelude.Ok n
parses s n r small e h = parse-decimal 64 n s r small small e h

pub spelled_is_text : (s : List ℕ) (n : ℕ) → n < 2 ^ 64 → s ≡ decimal n → IsUtf8 s
spelled_is_text s n small e = subst IsUtf8 (sym e) (IsUtf8-from_ascii (decimal n) (IsAscii-decimal n small))

small_signed : (z : ℤ) → IsDisplacement z → FitsSigned w16 z × (mag z < 2 ^ 63)
small_signed (pos n) h = (search (rules, h), omega (arith, h))
small_signed (negsuc n) h = (search (rules, h), omega (arith, h))

-- such a number is as it was in 16 bits
pub held_displacement : (z : ℤ) → IsDisplacement z → to_z w16 (of_z w16 z) ≡ z
held_displacement z small = to_z-of_z w16 z (small_signed z small).0

pub parses_signed : {E : Type 0} (s : List ℕ) (z : ℤ) (r : Result ℤ E) → IsDisplacement z → s ≡ signed_decimal z → ParsesSigned w16 10 s r → r ≡ Rattle.std.specs.Prelude.Ok z
parses_signed s z r small e h = parse-signed_decimal w16 z s r (small_signed z small).0 (small_signed z small).1 e h

pub signed_is_text : (s : List ℕ) (z : ℤ) → IsDisplacement z → s ≡ signed_decimal z → IsUtf8 s
signed_is_text s z small e = subst IsUtf8 (sym e) (IsUtf8-from_ascii (signed_decimal z) (IsAscii-signed z (small_signed z small).1))

-- the digits of a number
pub digits_of_decimal : (n : ℕ) → n < 2 ^ 64 → AllDigits 10 (decimal n)
digits_of_decimal n small = (decimal_is_IsNumeral n small).0.1

positive_at : (s : List ℕ) (n : ℕ) → n < 2 ^ 15 → s ≡ decimal n → displacement_of s ≡ Some (pos n)
unfolding displacement_of
positive_at [] n small e = let some = decimal_nonempty n (omega arith) in absurd (omega (arith, ap length e))
positive_at (b ∷ s) n small e =
    let digits : AllDigits 10 (b ∷ s) = subst (AllDigits 10) (sym e) (digits_of_decimal n (omega arith)) in
    let range = digit_from_value b digits.0 in
    let differs : eqb b 45 ≡ false = grind (arith, nat_tests, range) in
    rw (differs, number_complete (2 ^ 15 - 1) (b ∷ s) n (omega arith) (omega arith) e) refl

past : (n : ℕ) → 0 < n → eqb n 0 ≡ false
past n some = grind (arith, nat_tests)

negative_at : (n : ℕ) → n < 2 ^ 15 → displacement_of (45 ∷ decimal (suc n)) ≡ Some (negsuc n)
unfolding displacement_of
negative_at n small = let found : number_of (2 ^ 15) (decimal (suc n)) ≡ Some (suc n) = number_complete (2 ^ 15) (decimal (suc n)) (suc n) (omega arith) (omega arith) refl in
    let back : suc n - 1 ≡ n = omega arith in
    rw (found, past (suc n) (omega arith)) (ap (λ m. Some (negsuc m)) back)

pub displacement_complete : (z : ℤ) → IsDisplacement z → displacement_of (signed_decimal z) ≡ Some z
displacement_complete (pos n) small = positive_at (decimal n) n small refl
displacement_complete (negsuc n) small = negative_at n small

negative_read : (s : List ℕ) (n : ℕ) (z : ℤ) → number_of (2 ^ 15) s ≡ Some n → (t : Bool) → eqb n 0 ≡ t → (if t then None else Some (negsuc (n - 1))) ≡ Some z → IsDisplacement z × (45 ∷ s ≡ signed_decimal z)
negative_read s n z found true is e = absurd (cc)
negative_read s n z found false is e =
    let h = number_sound (2 ^ 15) s n found in
    let value : z ≡ negsuc (n - 1) = cc in
    let some : 0 < n = grind (arith, nat_tests, is) in
    let same : suc (n - 1) ≡ n = omega arith in
    rw value (omega (arith, h.0), rw same (ap (λ t. 45 ∷ t) h.1))

minus_read : (s : List ℕ) (z : ℤ) (r : Option ℕ) → number_of (2 ^ 15) s ≡ r → negate r ≡ Some z → IsDisplacement z × (45 ∷ s ≡ signed_decimal z)
minus_read s z None found e = absurd (cc)
minus_read s z (Some n) found e = negative_read s n z found (eqb n 0) refl e

plus_read : (s : List ℕ) (z : ℤ) (r : Option ℕ) → number_of (2 ^ 15 - 1) s ≡ r → option_map pos r ≡ Some z → IsDisplacement z × (s ≡ signed_decimal z)
plus_read s z None found e = absurd (cc)
plus_read s z (Some n) found e =
    let h = number_sound (2 ^ 15 - 1) s n found in
    let value : z ≡ pos n = cc in
    rw value (omega (arith, h.0), h.1)

sign_read : (b : ℕ) (s : List ℕ) (z : ℤ) (t : Bool) → eqb b 45 ≡ t → (if t then negate (number_of (2 ^ 15) s) else option_map pos (number_of (2 ^ 15 - 1) (b ∷ s))) ≡ Some z → IsDisplacement z × (b ∷ s ≡ signed_decimal z)
sign_read b s z true is e =
    let same : b ≡ 45 = eqb-true b 45 is in
    rw same (minus_read s z (number_of (2 ^ 15) s) refl e)
sign_read b s z false is e = plus_read (b ∷ s) z (number_of (2 ^ 15 - 1) (b ∷ s)) refl e

pub displacement_sound : (s : List ℕ) (z : ℤ) → displacement_of s ≡ Some z → IsDisplacement z × (s ≡ signed_decimal z)
unfolding displacement_of
displacement_sound [] z e = absurd (cc)
displacement_sound (b ∷ s) z e = sign_read b s z (eqb b 45) refl e

pub displacement_absent : (s : List ℕ) → ((z : ℤ) → IsDisplacement z → s ≡ signed_decimal z → ⊥) → displacement_of s ≡ None
displacement_absent s none = by (displacement_of s) refl
  where
    by : (r : Option ℤ) → displacement_of s ≡ r → displacement_of s ≡ None
    by None e = e
    by (Some z) e = let h = displacement_sound s z e in absurd (none z h.0 h.1)

-- where what was parsed is not the number, there is none
pub number_missed : (most : ℕ) (s : List ℕ) → most < 2 ^ 64 → ((n : ℕ) → n < 2 ^ 64 → s ≡ decimal n → ◌≡◌ {A = Option ℕ} None (Some n)) → None ≡ number_of most s
number_missed most s small only = sym (number_absent most s (λ n low e. let h = only n (omega arith) e in absurd (cc)))

pub number_other : (most : ℕ) (s : List ℕ) (m : ℕ) → most < 2 ^ 64 → ((n : ℕ) → n < 2 ^ 64 → s ≡ decimal n → ◌≡◌ {A = Option ℕ} (Some m) (Some n)) → (m ≤ most → s ≡ decimal m → ⊥) → None ≡ number_of most s
number_other most s m small only apart = sym (number_absent most s (λ n low e. let h = only n (omega arith) e in let same : n ≡ m = cc in apart (omega arith) (e ∙ ap decimal same)))

pub displacement_missed : (s : List ℕ) → ((z : ℤ) → IsDisplacement z → s ≡ signed_decimal z → ◌≡◌ {A = Option ℤ} None (Some z)) → None ≡ displacement_of s
displacement_missed s only = sym (displacement_absent s (λ z small e. let h = only z small e in absurd (cc)))

pub displacement_other : (s : List ℕ) (y : ℤ) → ((z : ℤ) → IsDisplacement z → s ≡ signed_decimal z → ◌≡◌ {A = Option ℤ} (Some y) (Some z)) → (s ≡ signed_decimal y → ⊥) → None ≡ displacement_of s
displacement_other s y only apart = sym (displacement_absent s (λ z small e. let h = only z small e in let same : z ≡ y = cc in apart (e ∙ ap signed_decimal same)))
