-- A front that is longer than any image has the fault of the whole.
use Rattle.std.proofs.Common.{◌≡◌, ℕ, zero, suc, ◌+◌, ◌*◌, ◌-◌, ◌<◌, ◌≤◌, Bool, true, false, cond, List, [], ◌∷◌, Option, Some, None, length, take, drop, nat_eq, ◌==◌, nat_lt, nat_le, ◌&&◌, ◌||◌, refl, sym, ◌∙◌, ap, arith, length-take}
use Rattle.std.proofs.lemmas.List.{take-take, drop-take}
use Rattle.std.proofs.lemmas.Bool.{le-ltb, lt-ltb, leb-true}
use Rattle.std.specs.Int.{w32, from_le_bytes}
use Rattle.alpha_isa.specs.Program.{most_words, most_bytes}
use Rattle.alpha_isa.specs.ImageFormat.{mark}
use Rattle.alpha_image.specs.Limits.{most_image}
use Rattle.alpha_image.specs.ImageFault.{number_at, version_of, word_count, byte_count, entry_of, zeros_of, has_zeros_field, text_offset, due_length, first_place, differs_at, field_fault, mark_fault, version_fault, words_fault, bytes_fault, entry_fault, zeros_fault, version_part_fault, size_part_fault, length_fault, header_fault, image_fault}
use Rattle.alpha_image.proofs.ImageFaults.{field_is, none_first}

-- one more byte than the longest image has
abbrev limit : ℕ
limit = most_image + 1

number_take : (n k : ℕ) (bytes : List ℕ) → k + 4 ≤ n → number_at (take n bytes) k ≡ number_at bytes k
number_take n k bytes within =
    let parts : k + (n - k) ≡ n = omega arith in
    ap (λ m. number_at (take m bytes) k) (sym parts)
    ∙ ap (λ rest. from_le_bytes w32 (take 4 rest)) (drop-take k (n - k) bytes)
    ∙ ap (from_le_bytes w32) (take-take 4 (n - k) (drop k bytes) (omega arith))

mark_take : (dues bytes : List ℕ) (n i : ℕ) → length dues ≤ n → differs_at dues (take n bytes) i ≡ differs_at dues bytes i
mark_take [] bytes n i within = refl
mark_take (d ∷ ds) bytes zero i within = absurd (omega arith)
mark_take (d ∷ ds) [] (suc n) i within = refl
mark_take (d ∷ ds) (b ∷ bs) (suc n) i within = ap (λ rest. cond (nat_eq b d) rest (Some i)) (mark_take ds bs n (suc i) (omega arith))

-- a field that is whole in the front has there the fault that it has in the whole
field_take : (bytes : List ℕ) (at : ℕ) (a b : Bool) → at + 4 ≤ limit → limit ≤ length bytes → a ≡ b → field_fault (take limit bytes) at a ≡ field_fault bytes at b
field_take bytes at a b within long same =
    let front : nat_lt (length (take limit bytes)) (at + 4) ≡ false = le-ltb _ _ (simp length-take (omega arith)) in
    let whole : nat_lt (length bytes) (at + 4) ≡ false = le-ltb _ _ (omega arith) in
    rw (front, whole, same) refl

version_take : (bytes : List ℕ) → version_of (take limit bytes) ≡ version_of bytes
version_take bytes = number_take limit 4 bytes (omega arith)

words_take : (bytes : List ℕ) → word_count (take limit bytes) ≡ word_count bytes
words_take bytes = number_take limit 8 bytes (omega arith)

count_take : (bytes : List ℕ) → byte_count (take limit bytes) ≡ byte_count bytes
count_take bytes = number_take limit 12 bytes (omega arith)

has_take : (bytes : List ℕ) → has_zeros_field (take limit bytes) ≡ has_zeros_field bytes
has_take bytes = ap (λ n. n == 2) (version_take bytes)

zeros_take : (bytes : List ℕ) → zeros_of (take limit bytes) ≡ zeros_of bytes
zeros_take bytes =
    ap (λ b. cond b (number_at (take limit bytes) 20) 0) (has_take bytes)
    ∙ ap (λ n. cond (has_zeros_field bytes) n 0) (number_take limit 20 bytes (omega arith))

text_take : (bytes : List ℕ) → text_offset (take limit bytes) ≡ text_offset bytes
text_take bytes = ap (λ b. cond b 24 20) (has_take bytes)

zeros_fault_take : (bytes : List ℕ) → limit ≤ length bytes → zeros_fault (take limit bytes) ≡ zeros_fault bytes
zeros_fault_take bytes long =
    let front : Bool = nat_le (byte_count (take limit bytes) + zeros_of (take limit bytes)) most_bytes in
    let whole : Bool = nat_le (byte_count bytes + zeros_of bytes) most_bytes in
    let same : front ≡ whole = ap (λ n. nat_le (n + zeros_of (take limit bytes)) most_bytes) (count_take bytes) ∙ ap (λ n. nat_le (byte_count bytes + n) most_bytes) (zeros_take bytes) in
    ap (λ b. cond b (field_fault (take limit bytes) 20 front) None) (has_take bytes)
    ∙ ap (λ o. cond (has_zeros_field bytes) o None) (field_take bytes 20 front whole (omega arith) long same)

both_same : (a a' b b' : Option ℕ) → a ≡ a' → b ≡ b' → first_place a b ≡ first_place a' b'
both_same a a' b b' p q = ap (λ x. first_place x b) p ∙ ap (λ y. first_place a' y) q

header_take : (bytes : List ℕ) → limit ≤ length bytes → header_fault (take limit bytes) ≡ header_fault bytes
unfolding header_fault
header_take bytes long =
    let front : List ℕ = take limit bytes in
    both_same (version_part_fault front) (version_part_fault bytes) (size_part_fault front) (size_part_fault bytes)
    (both_same (mark_fault front) (mark_fault bytes) (version_fault front) (version_fault bytes)
    (mark_take mark bytes limit 0 (omega arith))
    (field_take bytes 4 _ _ (omega arith) long (ap (λ n. n == 1 || n == 2) (version_take bytes))))
    (both_same (words_fault front) (words_fault bytes) _ _
    (field_take bytes 8 _ _ (omega arith) long (ap (λ n. nat_le 1 n && nat_le n most_words) (words_take bytes)))
    (both_same (bytes_fault front) (bytes_fault bytes) _ _
    (field_take bytes 12 _ _ (omega arith) long (ap (λ n. nat_le n most_bytes) (count_take bytes)))
    (both_same (entry_fault front) (entry_fault bytes) (zeros_fault front) (zeros_fault bytes)
    (field_take bytes 16 _ _ (omega arith) long (ap (λ n. nat_lt n (word_count front)) (number_take limit 16 bytes (omega arith)) ∙ ap (nat_lt (entry_of bytes)) (words_take bytes)))
    (zeros_fault_take bytes long))))

-- right fields keep the limits
second_true : (a b : Bool) → a && b ≡ true → b ≡ true
second_true true b e = e
second_true false b e = let clash : ⊥ = cc in absurd clash

few : (bytes : List ℕ) → header_fault bytes ≡ None → (word_count bytes ≤ most_words) × (byte_count bytes ≤ most_bytes)
unfolding header_fault
few bytes e =
    let behind_bytes : Option ℕ = first_place (entry_fault bytes) (zeros_fault bytes) in
    let behind_words : Option ℕ = first_place (bytes_fault bytes) behind_bytes in
    let parts = none_first (version_part_fault bytes) (size_part_fault bytes) e in
    let c = none_first (words_fault bytes) behind_words parts.1 in
    let d = none_first (bytes_fault bytes) behind_bytes c.1 in
    let words = field_is bytes 8 (nat_le 1 (word_count bytes) && nat_le (word_count bytes) most_words) c.0 in
    let size = field_is bytes 12 (nat_le (byte_count bytes) most_bytes) d.0 in
    (leb-true (word_count bytes) most_words (second_true (nat_le 1 (word_count bytes)) (nat_le (word_count bytes) most_words) words.1), leb-true (byte_count bytes) most_bytes size.1)

text_within : (b : Bool) → cond b 24 20 ≤ 24
text_within true = omega arith
text_within false = omega arith

-- more bytes than are due
too_many : (bytes : List ℕ) (due : ℕ) → due_length bytes ≡ due → due < length bytes → length_fault bytes ≡ Some due
too_many bytes due e long =
    let enough : nat_lt (length bytes) (due_length bytes) ≡ false = le-ltb (length bytes) (due_length bytes) (omega arith) in
    let more : nat_lt (due_length bytes) (length bytes) ≡ true = lt-ltb (due_length bytes) (length bytes) (omega arith) in
    rw (enough, more, e) refl

-- the fault of the front, by the fault of the fields
by_header : (bytes : List ℕ) → limit ≤ length bytes → (header : Option ℕ) → header_fault bytes ≡ header → image_fault (take limit bytes) ≡ image_fault bytes
unfolding image_fault
by_header bytes long (Some at) e =
    ap (λ h. first_place h (length_fault (take limit bytes))) (header_take bytes long ∙ e) ∙ sym (ap (λ h. first_place h (length_fault bytes)) e)
by_header bytes long None e =
    let bounds = few bytes e in
    let text : text_offset bytes ≤ 24 = text_within (has_zeros_field bytes) in
    let due : due_length (take limit bytes) ≡ due_length bytes =
    ap (λ t. t + 4 * word_count (take limit bytes) + byte_count (take limit bytes)) (text_take bytes)
    ∙ ap (λ w. text_offset bytes + 4 * w + byte_count (take limit bytes)) (words_take bytes)
    ∙ ap (λ n. text_offset bytes + 4 * word_count bytes + n) (count_take bytes) in
    let short : due_length bytes < limit = omega (arith, bounds.0, bounds.1, text) in
    let front : due_length bytes < length (take limit bytes) = simp length-take (omega (arith, short)) in
    ap (λ h. first_place h (length_fault (take limit bytes))) (header_take bytes long ∙ e)
    ∙ too_many (take limit bytes) (due_length bytes) due front
    ∙ sym (too_many bytes (due_length bytes) refl (omega (arith, short)))
    ∙ sym (ap (λ h. first_place h (length_fault bytes)) e)

pub front_fault : (bytes : List ℕ) → limit ≤ length bytes → image_fault (take limit bytes) ≡ image_fault bytes
front_fault bytes long = by_header bytes long (header_fault bytes) refl
