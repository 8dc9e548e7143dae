-- Each line of the data is read as what it was printed of, and what is read is printed so.
use Rattle.std.proofs.Common.{◌≡◌, ℕ, ◌+◌, ◌-◌, ◌*◌, ◌/◌, ◌%◌, ◌^◌, ◌<◌, ◌&&◌, true, leb, List, [], ◌∷◌, ◌++◌, Option, Some, None, refl, ap, ◌∙◌, subst, inl, inr, arith}
use Rattle.std.specs.Prelude.{if◌then◌else◌, decimal, codes, bytes_eq, flat_map}
use Rattle.std.specs.List.{All}
use Rattle.std.proofs.lemmas.Bool.Decides.{nat_tests}
use Rattle.std.proofs.lemmas.Slice.Eq.{bytes_eq-Decides}
use Rattle.std.proofs.lemmas.List.Elements.{All-nil, All-cons, All-head, All-tail}
use Rattle.alpha_items.specs.declared.item.Fix.{Fix}
use Rattle.alpha_lines.specs.Lines.{word_and_rest, data_line, hex_digit, hex_byte, hex_line, fix_line}
use Rattle.alpha_lines.specs.model.Parts.{cut}
use Rattle.alpha_lines.specs.model.Readers.{number32_of}
use Rattle.alpha_lines.specs.model.Data.{behind_in, behind_of, most_u64, number_in, data_of, fix_with, fix_parts, fix_in, fix_of, hex_value, hex_pair, with_first, hex_of, hex_in, hex_line_of}
use Rattle.alpha_lines.proofs.Parts.{Lacks, cut_front, cut_sound}
use Rattle.alpha_lines.proofs.Numbers.{number_sound, number_complete}
use Rattle.alpha_lines.proofs.Options.{guarded_some, split}
use Rattle.alpha_lines.proofs.Operands.{decimal_lacks, number32_complete, number32_sound}

behind_complete : (word rest : List ℕ) → Lacks 32 word → behind_of word (word_and_rest word rest) ≡ Some rest
unfolding behind_of
behind_complete word rest lacks =
    let same : bytes_eq word word ≡ true = (bytes_eq-Decides word word).1 refl in
    rw (cut_front 32 word rest lacks, same) refl

behind_sound : (word line rest : List ℕ) → behind_of word line ≡ Some rest → line ≡ word_and_rest word rest
unfolding behind_of
behind_sound word line rest e = by (cut 32 line) refl e
  where
    by : (o : Option (List ℕ × List ℕ)) → cut 32 line ≡ o → behind_in word o ≡ Some rest → line ≡ word_and_rest word rest
    by None was h = absurd (cc)
    by (Some p) was h =
        let g = guarded_some (bytes_eq p.0 word) (Some p.1) rest h in
        let first : p.0 ≡ word = (bytes_eq-Decides p.0 word).0 g.0 in
        let second : p.1 ≡ rest = cc in
        cut_sound 32 line p.0 p.1 was ∙ rw (first, second) refl

-- how many bytes there are

data_lacks : Lacks 32 (codes ".data")
data_lacks = (refl, (refl, (refl, (refl, (refl, tt)))))

pub data_complete : (n : ℕ) → n < 2 ^ 64 → data_of (data_line n) ≡ Some n
unfolding data_of
data_complete n small = rw (behind_complete (codes ".data") (decimal n) data_lacks) (number_complete most_u64 (decimal n) n (omega arith) (omega arith) refl)

pub data_sound : (line : List ℕ) (n : ℕ) → data_of line ≡ Some n → (n < 2 ^ 64) × (line ≡ data_line n)
unfolding data_of
data_sound line n e = by (behind_of (codes ".data") line) refl e
  where
    by : (o : Option (List ℕ)) → behind_of (codes ".data") line ≡ o → number_in o ≡ Some n → (n < 2 ^ 64) × (line ≡ data_line n)
    by None was h = absurd (cc)
    by (Some s) was h =
        let d = number_sound most_u64 s n h in
        (omega (arith, d.0), behind_sound (codes ".data") line s was ∙ ap (word_and_rest (codes ".data")) d.1)

-- fixes

fix_lacks : Lacks 32 (codes ".fix")
fix_lacks = (refl, (refl, (refl, (refl, tt))))

pub fix_complete : (fix : Fix) → fix.at < 2 ^ 32 → fix.offset < 2 ^ 32 → fix_of (fix_line fix) ≡ Some fix
unfolding fix_of
fix_complete fix a o =
    let low : fix.at < 2 ^ 64 = omega arith in
    rw (behind_complete (codes ".fix") (decimal fix.at ++ 32 ∷ decimal fix.offset) fix_lacks, cut_front 32 (decimal fix.at) (decimal fix.offset) (decimal_lacks 32 fix.at low refl), number32_complete fix.at a, number32_complete fix.offset o) refl

pub fix_sound : (line : List ℕ) (fix : Fix) → fix_of line ≡ Some fix → (fix.at < 2 ^ 32) × (fix.offset < 2 ^ 32) × (line ≡ fix_line fix)
unfolding fix_of
fix_sound line fix e = by (behind_of (codes ".fix") line) refl e
  where
    made : (s : List ℕ) (p : List ℕ × List ℕ) → behind_of (codes ".fix") line ≡ Some s → cut 32 s ≡ Some p → (a o : Option ℕ) → number32_of p.0 ≡ a → number32_of p.1 ≡ o → fix_with a o ≡ Some fix → (fix.at < 2 ^ 32) × (fix.offset < 2 ^ 32) × (line ≡ fix_line fix)
    made s p was parts None o first second h = absurd (cc)
    made s p was parts (Some a) None first second h = absurd (cc)
    made s p was parts (Some a) (Some o) first second h =
        let x = number32_sound p.0 a first in
        let y = number32_sound p.1 o second in
        let same : ◌≡◌ {A = Fix} (record { at = a; offset = o }) fix = cc in
        subst (λ f. (f.at < 2 ^ 32) × (f.offset < 2 ^ 32) × (line ≡ fix_line f)) same
        (x.0, y.0, behind_sound (codes ".fix") line s was ∙ ap (word_and_rest (codes ".fix")) (cut_sound 32 s p.0 p.1 parts ∙ rw (x.1, y.1) refl))

    inner : (s : List ℕ) (o : Option (List ℕ × List ℕ)) → behind_of (codes ".fix") line ≡ Some s → cut 32 s ≡ o → fix_parts o ≡ Some fix → (fix.at < 2 ^ 32) × (fix.offset < 2 ^ 32) × (line ≡ fix_line fix)
    inner s None was parts h = absurd (cc)
    inner s (Some p) was parts h = made s p was parts (number32_of p.0) (number32_of p.1) refl refl h

    by : (o : Option (List ℕ)) → behind_of (codes ".fix") line ≡ o → fix_in o ≡ Some fix → (fix.at < 2 ^ 32) × (fix.offset < 2 ^ 32) × (line ≡ fix_line fix)
    by None was h = absurd (cc)
    by (Some s) was h = inner s (cut 32 s) was refl h

-- bytes

value_of_digit : (d : ℕ) → d < 16 → hex_value (hex_digit d) ≡ Some d
value_of_digit d small = grind (arith, nat_tests)

digit_of_value : (b d : ℕ) → hex_value b ≡ Some d → (d < 16) × (b ≡ hex_digit d)
digit_of_value b d e = elim (split (leb 48 b && leb b 57) (Some (b - 48)) (if leb 97 b && leb b 102 then Some (b - 87) else None) (Some d) e) [
  | inl h ↦ decimal_digit b d h.0 (some_is (b - 48) d h.1)
  | inr h ↦ (let g = guarded_some (leb 97 b && leb b 102) (Some (b - 87)) d h.1 in letter_digit b d g.0 (some_is (b - 87) d g.1))
]
  where
    some_is : (x y : ℕ) → Some x ≡ Some y → x ≡ y
    some_is x y e = cc

    decimal_digit : (b d : ℕ) → (leb 48 b && leb b 57) ≡ true → b - 48 ≡ d → (d < 16) × (b ≡ hex_digit d)
    decimal_digit b d t e = (grind (arith, nat_tests), grind (arith, nat_tests))

    letter_digit : (b d : ℕ) → (leb 97 b && leb b 102) ≡ true → b - 87 ≡ d → (d < 16) × (b ≡ hex_digit d)
    letter_digit b d t e = (grind (arith, nat_tests), grind (arith, nat_tests))

byte_again : (b : ℕ) → b < 256 → hex_pair (hex_value (hex_digit (b / 16))) (hex_value (hex_digit (b % 16))) ≡ Some b
byte_again b small =
    let high : b / 16 < 16 = omega arith in
    let low : b % 16 < 16 = omega arith in
    let whole : b / 16 * 16 + b % 16 ≡ b = omega arith in
    rw (value_of_digit (b / 16) high, value_of_digit (b % 16) low) (ap Some whole)

pub hex_complete : (bytes : List ℕ) → All (λ b. b < 256) bytes → hex_of (flat_map hex_byte bytes) ≡ Some bytes
hex_complete [] h = refl
hex_complete (b ∷ bytes) h = rw (byte_again b (All-head (λ x. x < 256) b bytes h), hex_complete bytes (All-tail (λ x. x < 256) b bytes h)) refl

-- the two digits of a byte
pair_digits : (a b x : ℕ) (high low : Option ℕ) → hex_value a ≡ high → hex_value b ≡ low → hex_pair high low ≡ Some x → (x < 256) × (a ∷ b ∷ [] ≡ hex_byte x)
pair_digits a b x None low was next e = absurd (cc)
pair_digits a b x (Some h) None was next e = absurd (cc)
pair_digits a b x (Some h) (Some l) was next e =
    let p = digit_of_value a h was in
    let q = digit_of_value b l next in
    let same : h * 16 + l ≡ x = cc in
    let high : x / 16 ≡ h = omega (arith, p.0, q.0, same) in
    let low : x % 16 ≡ l = omega (arith, p.0, q.0, same) in
    (omega (arith, p.0, q.0), rw (high, low, p.1, q.1) refl)

pub hex_sound : (s bytes : List ℕ) → hex_of s ≡ Some bytes → All (λ b. b < 256) bytes × (s ≡ flat_map hex_byte bytes)
hex_sound [] bytes e = let same : [] ≡ bytes = cc in rw (← same) (All-nil (λ x. x < 256), refl)
hex_sound (a ∷ []) bytes e = absurd (cc)
hex_sound (a ∷ b ∷ s) bytes e = joined a b s bytes (hex_pair (hex_value a) (hex_value b)) (hex_of s) refl refl (hex_sound s) e
  where
    joined : (a b : ℕ) (s bytes : List ℕ) (x : Option ℕ) (r : Option (List ℕ)) → hex_pair (hex_value a) (hex_value b) ≡ x → hex_of s ≡ r → ((t : List ℕ) → hex_of s ≡ Some t → All (λ c. c < 256) t × (s ≡ flat_map hex_byte t)) → with_first x r ≡ Some bytes → All (λ c. c < 256) bytes × (a ∷ b ∷ s ≡ flat_map hex_byte bytes)
    joined a b s bytes None r was rest on e = absurd (cc)
    joined a b s bytes (Some x) None was rest on e = absurd (cc)
    joined a b s bytes (Some x) (Some t) was rest on e =
        let p = pair_digits a b x (hex_value a) (hex_value b) refl refl was in
        let q = on t rest in
        let same : x ∷ t ≡ bytes = cc in
        subst (λ y. All (λ c. c < 256) y × (a ∷ b ∷ s ≡ flat_map hex_byte y)) same
        (All-cons (λ c. c < 256) x t p.0 q.0, ap (λ u. u ++ s) p.1 ∙ ap (λ u. hex_byte x ++ u) q.1)

hex_lacks : Lacks 32 (codes ".hex")
hex_lacks = (refl, (refl, (refl, (refl, tt))))

pub hex_line_complete : (bytes : List ℕ) → All (λ b. b < 256) bytes → hex_line_of (hex_line bytes) ≡ Some bytes
unfolding hex_line_of
hex_line_complete bytes h = rw (behind_complete (codes ".hex") (flat_map hex_byte bytes) hex_lacks) (hex_complete bytes h)

pub hex_line_sound : (line bytes : List ℕ) → hex_line_of line ≡ Some bytes → All (λ b. b < 256) bytes × (line ≡ hex_line bytes)
unfolding hex_line_of
hex_line_sound line bytes e = by (behind_of (codes ".hex") line) refl e
  where
    by : (o : Option (List ℕ)) → behind_of (codes ".hex") line ≡ o → hex_in o ≡ Some bytes → All (λ b. b < 256) bytes × (line ≡ hex_line bytes)
    by None was h = absurd (cc)
    by (Some s) was h =
        let d = hex_sound s bytes h in
        (d.0, behind_sound (codes ".hex") line s was ∙ ap (word_and_rest (codes ".hex")) d.1)
