-- Integers in registers: how words of C's types stand in registers of the four types, and what conversions and operators
-- do with them.
use Rattle.std.proofs.Common.{◌≡◌, ◌⊎◌, ℕ, ◌<◌, ◌≤◌, ◌^◌, ◌%◌, ℤ, pos, negsuc, true, Some, refl, sym, ap, ◌∙◌, subst, arith, inl, inr, FitsSigned}
use Rattle.std.specs.Int.{w64, cast_unsigned}
use Rattle.std.proofs.lemmas.Bool.{eqb-true}
use Rattle.mem_model.specs.declared.value.Value.TheVariants.{Word}
use Rattle.bk_arithmetic.specs.declared.integer_type.IntegerType.{IntegerType}
use Rattle.bk_arithmetic.specs.declared.integer_type.IntegerType.TheVariants.{Char, UnsignedChar, Short, UnsignedShort, Int, UnsignedInt, Long, UnsignedLong}
use Rattle.bk_arithmetic.specs.IntegerTypes.{bytes, is_signed, promote, fits}
use Rattle.bk_arithmetic.specs.Words.{sign_extension, value, extension, is_word, residue, word}
use Rattle.bk_arithmetic.specs.Operations.{conversion}
use Rattle.bk_arithmetic.proofs.Conversions.{conversion-same, conversion-narrower, value-promotion}
use Rattle.bk_arithmetic.proofs.LowBits.{value-extension, sign_extension-low, signed_small}
use Rattle.bk_arithmetic.proofs.Values.{fits-value, value-word}
use Rattle.bk_arithmetic.proofs.Fits.{fits-wide, residue-fits}
use Rattle.bk_arithmetic.proofs.Results.{is_word-extension}
use Rattle.c_semantics.specs.Objects as objects
use Rattle.suifvm_meaning.specs.declared.answer.Answer.TheVariants.{Gives}
use Rattle.suifvm_meaning.specs.Operations as vm
use Rattle.lowering_code.specs.Registers.{register_type, memory_type}
use Rattle.lowering_code.specs.Expressions.{plain_of, keeps_register, narrow_type}

-- ---- types

pub integer_of-plain : (t : IntegerType) → objects.integer_or_word (plain_of t) ≡ t
integer_of-plain Char = refl
integer_of-plain UnsignedChar = refl
integer_of-plain Short = refl
integer_of-plain UnsignedShort = refl
integer_of-plain Int = refl
integer_of-plain UnsignedInt = refl
integer_of-plain Long = refl
integer_of-plain UnsignedLong = refl

pub register-plain : (t : IntegerType) → vm.integer_of (register_type (plain_of t)) ≡ Some (promote t)
register-plain Char = refl
register-plain UnsignedChar = refl
register-plain Short = refl
register-plain UnsignedShort = refl
register-plain Int = refl
register-plain UnsignedInt = refl
register-plain Long = refl
register-plain UnsignedLong = refl

pub memory-plain : (t : IntegerType) → vm.memory_integer (memory_type (plain_of t)) ≡ Some t
memory-plain Char = refl
memory-plain UnsignedChar = refl
memory-plain Short = refl
memory-plain UnsignedShort = refl
memory-plain Int = refl
memory-plain UnsignedInt = refl
memory-plain Long = refl
memory-plain UnsignedLong = refl

-- the register of a promoted type is that of the type itself
pub register-promoted : (t : IntegerType) → register_type (plain_of (promote t)) ≡ register_type (plain_of t)
register-promoted Char = refl
register-promoted UnsignedChar = refl
register-promoted Short = refl
register-promoted UnsignedShort = refl
register-promoted Int = refl
register-promoted UnsignedInt = refl
register-promoted Long = refl
register-promoted UnsignedLong = refl

-- ---- words

pub word_is : (t : IntegerType) (n : ℕ) → is_word t n ≡ true → extension t n ≡ n
word_is t n h = eqb-true (extension t n) n h

-- a word of a type stands for its value among all words, but of `unsigned int`, whose sign bit is in the bits above
abbrev pub IsPlainWord : IntegerType → Type 0
IsPlainWord UnsignedInt = ⊥
IsPlainWord t = Unit {0}

pub residue_small : (k : ℕ) → k < 2 ^ 64 → residue (pos k) ≡ k
residue_small k lt = omega (arith, lt)

signed_residue : (t : IntegerType) (n : ℕ) → is_signed t ≡ true → residue (value t n) ≡ cast_unsigned w64 (value t n)
signed_residue t n s = residue-fits (value t n) (fits-wide t (value t n) s (fits-value t n))

long_is : (a n : ℕ) → a % 2 ^ 64 ≡ n % 2 ^ 64 → a < 2 ^ 64 → n % 2 ^ 64 ≡ n → a ≡ n
long_is a n low small e = omega (arith, low, small, e)

pub residue_is : (t : IntegerType) (n : ℕ) → IsPlainWord t → is_word t n ≡ true → residue (value t n) ≡ n
residue_is Char n h w = signed_residue Char n refl ∙ word_is Char n w
residue_is UnsignedChar n h w = let e : n % 2 ^ 8 ≡ n = word_is UnsignedChar n w in residue_small (n % 2 ^ 8) (omega arith) ∙ e
residue_is Short n h w = signed_residue Short n refl ∙ word_is Short n w
residue_is UnsignedShort n h w = let e : n % 2 ^ 16 ≡ n = word_is UnsignedShort n w in residue_small (n % 2 ^ 16) (omega arith) ∙ e
residue_is Int n h w = signed_residue Int n refl ∙ word_is Int n w
residue_is UnsignedInt n h w = absurd h
residue_is Long n h w =
    let low : sign_extension Long n % 2 ^ 64 ≡ n % 2 ^ 64 = sign_extension-low Long n in
    let small : sign_extension Long n < 2 ^ 64 = signed_small Long n in
    let e : n % 2 ^ 64 ≡ n = word_is Long n w in
    signed_residue Long n refl ∙ long_is (sign_extension Long n) n low small e
residue_is UnsignedLong n h w = let e : n % 2 ^ 64 ≡ n = word_is UnsignedLong n w in residue_small (n % 2 ^ 64) (omega arith) ∙ e

-- a conversion to a type that is no longer, or of a word that stands for its value, is an extension
pub conversion_is : (s t : IntegerType) (n : ℕ) → is_word s n ≡ true → (bytes t ≤ bytes s) ⊎ IsPlainWord s → conversion s t n ≡ extension t n
conversion_is s t n w (inl le) = conversion-narrower s t n le
conversion_is s t n w (inr h) = ap (extension t) (residue_is s n h w)

-- a value of a signed type as a word of it
pub signed_word : (t : IntegerType) (z : ℤ) → is_signed t ≡ true → FitsSigned w64 z → fits t z ≡ true → extension t (residue z) ≡ residue z
signed_word Char z s f h = ap (cast_unsigned w64) (sym (value-extension Char (residue z)) ∙ value-word Char z h) ∙ sym (residue-fits z f)
signed_word UnsignedChar z s f h = absurd (cc)
signed_word Short z s f h = ap (cast_unsigned w64) (sym (value-extension Short (residue z)) ∙ value-word Short z h) ∙ sym (residue-fits z f)
signed_word UnsignedShort z s f h = absurd (cc)
signed_word Int z s f h = ap (cast_unsigned w64) (sym (value-extension Int (residue z)) ∙ value-word Int z h) ∙ sym (residue-fits z f)
signed_word UnsignedInt z s f h = absurd (cc)
signed_word Long z s f h = extension_residue z
  where
    extension_residue : (z : ℤ) → extension Long (residue z) ≡ residue z
    extension_residue (pos n) = omega arith
    extension_residue (negsuc n) = omega arith
signed_word UnsignedLong z s f h = absurd (cc)

-- ---- promotions

promote_fits : (t : IntegerType) (n : ℕ) → fits (promote t) (value t n) ≡ true
promote_fits t n = ap (fits (promote t)) (sym (value-promotion t n)) ∙ fits-value (promote t) (conversion t (promote t) n)

int_word : (t : IntegerType) (n : ℕ) → IsPlainWord t → is_word t n ≡ true → fits Int (value t n) ≡ true → extension Int n ≡ n
int_word t n h w f =
    ap (extension Int) (sym (residue_is t n h w)) ∙ signed_word Int (value t n) refl (fits-wide Int (value t n) refl f) f ∙ residue_is t n h w

-- a word of a type is one of its promotion
pub promoted_word : (t : IntegerType) (n : ℕ) → is_word t n ≡ true → extension (promote t) n ≡ n
promoted_word Char n w = int_word Char n tt w (promote_fits Char n)
promoted_word UnsignedChar n w = int_word UnsignedChar n tt w (promote_fits UnsignedChar n)
promoted_word Short n w = int_word Short n tt w (promote_fits Short n)
promoted_word UnsignedShort n w = int_word UnsignedShort n tt w (promote_fits UnsignedShort n)
promoted_word Int n w = word_is Int n w
promoted_word UnsignedInt n w = word_is UnsignedInt n w
promoted_word Long n w = word_is Long n w
promoted_word UnsignedLong n w = word_is UnsignedLong n w

int_conversion : (t : IntegerType) (n : ℕ) → IsPlainWord t → promote t ≡ Int → conversion t Int n ≡ extension t n
int_conversion t n h p =
    let m = extension t n in
    let w = is_word-extension t n in
    ap (word Int) (sym (value-extension t n)) ∙ ap (extension Int) (residue_is t m h w) ∙ subst (λ u. extension u m ≡ m) p (promoted_word t m w)

-- what a conversion to the promoted type does: it extends the low bytes
pub promotion_is : (t : IntegerType) (n : ℕ) → conversion t (promote t) n ≡ extension t n
promotion_is Char n = int_conversion Char n tt refl
promotion_is UnsignedChar n = int_conversion UnsignedChar n tt refl
promotion_is Short n = int_conversion Short n tt refl
promotion_is UnsignedShort n = int_conversion UnsignedShort n tt refl
promotion_is Int n = conversion-same Int n
promotion_is UnsignedInt n = conversion-same UnsignedInt n
promotion_is Long n = conversion-same Long n
promotion_is UnsignedLong n = conversion-same UnsignedLong n

-- ---- conversions in code

pub kept_is : (s t : IntegerType) → keeps_register (plain_of s) (plain_of t) ≡ true → promote s ≡ t
kept_is Char Char h = absurd (cc)
kept_is Char UnsignedChar h = absurd (cc)
kept_is Char Short h = absurd (cc)
kept_is Char UnsignedShort h = absurd (cc)
kept_is Char Int h = refl
kept_is Char UnsignedInt h = absurd (cc)
kept_is Char Long h = absurd (cc)
kept_is Char UnsignedLong h = absurd (cc)
kept_is UnsignedChar Char h = absurd (cc)
kept_is UnsignedChar UnsignedChar h = absurd (cc)
kept_is UnsignedChar Short h = absurd (cc)
kept_is UnsignedChar UnsignedShort h = absurd (cc)
kept_is UnsignedChar Int h = refl
kept_is UnsignedChar UnsignedInt h = absurd (cc)
kept_is UnsignedChar Long h = absurd (cc)
kept_is UnsignedChar UnsignedLong h = absurd (cc)
kept_is Short Char h = absurd (cc)
kept_is Short UnsignedChar h = absurd (cc)
kept_is Short Short h = absurd (cc)
kept_is Short UnsignedShort h = absurd (cc)
kept_is Short Int h = refl
kept_is Short UnsignedInt h = absurd (cc)
kept_is Short Long h = absurd (cc)
kept_is Short UnsignedLong h = absurd (cc)
kept_is UnsignedShort Char h = absurd (cc)
kept_is UnsignedShort UnsignedChar h = absurd (cc)
kept_is UnsignedShort Short h = absurd (cc)
kept_is UnsignedShort UnsignedShort h = absurd (cc)
kept_is UnsignedShort Int h = refl
kept_is UnsignedShort UnsignedInt h = absurd (cc)
kept_is UnsignedShort Long h = absurd (cc)
kept_is UnsignedShort UnsignedLong h = absurd (cc)
kept_is Int Char h = absurd (cc)
kept_is Int UnsignedChar h = absurd (cc)
kept_is Int Short h = absurd (cc)
kept_is Int UnsignedShort h = absurd (cc)
kept_is Int Int h = refl
kept_is Int UnsignedInt h = absurd (cc)
kept_is Int Long h = absurd (cc)
kept_is Int UnsignedLong h = absurd (cc)
kept_is UnsignedInt Char h = absurd (cc)
kept_is UnsignedInt UnsignedChar h = absurd (cc)
kept_is UnsignedInt Short h = absurd (cc)
kept_is UnsignedInt UnsignedShort h = absurd (cc)
kept_is UnsignedInt Int h = absurd (cc)
kept_is UnsignedInt UnsignedInt h = refl
kept_is UnsignedInt Long h = absurd (cc)
kept_is UnsignedInt UnsignedLong h = absurd (cc)
kept_is Long Char h = absurd (cc)
kept_is Long UnsignedChar h = absurd (cc)
kept_is Long Short h = absurd (cc)
kept_is Long UnsignedShort h = absurd (cc)
kept_is Long Int h = absurd (cc)
kept_is Long UnsignedInt h = absurd (cc)
kept_is Long Long h = refl
kept_is Long UnsignedLong h = absurd (cc)
kept_is UnsignedLong Char h = absurd (cc)
kept_is UnsignedLong UnsignedChar h = absurd (cc)
kept_is UnsignedLong Short h = absurd (cc)
kept_is UnsignedLong UnsignedShort h = absurd (cc)
kept_is UnsignedLong Int h = absurd (cc)
kept_is UnsignedLong UnsignedInt h = absurd (cc)
kept_is UnsignedLong Long h = absurd (cc)
kept_is UnsignedLong UnsignedLong h = refl

-- where no instruction stands, the word is the converted one already
pub kept_conversion : (s t : IntegerType) (n : ℕ) → is_word s n ≡ true → keeps_register (plain_of s) (plain_of t) ≡ true → conversion s t n ≡ n
kept_conversion s t n w h = subst (λ u. conversion s u n ≡ n) (kept_is s t h) (promotion_is s n ∙ word_is s n w)

shorter : (s t : IntegerType) → bytes t ≤ 4 → (bytes t ≤ bytes s) ⊎ IsPlainWord s
shorter Char u le = inr tt
shorter UnsignedChar u le = inr tt
shorter Short u le = inr tt
shorter UnsignedShort u le = inr tt
shorter Int u le = inr tt
shorter UnsignedInt u le = inl le
shorter Long u le = inr tt
shorter UnsignedLong u le = inr tt

narrow_is : (s t : IntegerType) (n : ℕ) → is_word s n ≡ true → bytes t ≤ 4 → Gives (Word (conversion t (promote t) n)) ≡ Gives (Word (conversion s t n))
narrow_is s t n w le = ap (λ k. Gives (Word k)) (promotion_is t n ∙ sym (conversion_is s t n w (shorter s t le)))

-- and else the instruction gives it
pub made_conversion : (s t : IntegerType) (n : ℕ) → is_word s n ≡ true
    → vm.convert_answer (narrow_type (plain_of s) (plain_of t)) (register_type (plain_of t)) (Word n) ≡ Gives (Word (conversion s t n))
made_conversion s Char n w = narrow_is s Char n w (omega arith)
made_conversion s UnsignedChar n w = narrow_is s UnsignedChar n w (omega arith)
made_conversion s Short n w = narrow_is s Short n w (omega arith)
made_conversion s UnsignedShort n w = narrow_is s UnsignedShort n w (omega arith)
made_conversion s Int n w = narrow_is s Int n w (omega arith)
made_conversion s UnsignedInt n w = narrow_is s UnsignedInt n w (omega arith)
made_conversion s Long n w = ap (λ x. vm.conversion_answer x (Some Long) (Word n)) (memory-plain s)
made_conversion s UnsignedLong n w = ap (λ x. vm.conversion_answer x (Some UnsignedLong) (Word n)) (memory-plain s)
