-- The bytes of an image have no fault, and are those of no other image.
use Rattle.std.proofs.Common.{◌≡◌, ℕ, suc, ◌+◌, ◌*◌, ◌<◌, ◌≤◌, ◌^◌, Bool, true, false, cond, inl, inr, List, [], ◌∷◌, ◌++◌, Option, None, length, take, drop, get_or, ◌==◌, nat_lt, nat_le, ◌&&◌, ◌||◌, refl, sym, ◌∙◌, ap, subst, arith, length-append}
use Rattle.std.proofs.lemmas.Nat.{from_le_bytes-to_le_bytes_4}
use Rattle.std.proofs.lemmas.Bool.{le-ltb, lt-ltb, le-leb}
use Rattle.std.specs.Prelude.{flat_map}
use Rattle.std.specs.Int.{w32, from_le_bytes}
use Rattle.alpha_isa.specs.Program.{Program, IsLawful, most_bytes}
use Rattle.alpha_isa.specs.ImageFormat.{four_bytes, image_spelling, version_one_spelling, IsImage}
use Rattle.alpha_image.specs.Limits.{most_image}
use Rattle.alpha_image.specs.ImageFault.{version_of, word_count, byte_count, entry_of, zeros_of, has_zeros_field, text_offset, due_length, first_place, field_fault, mark_fault, version_fault, words_fault, bytes_fault, entry_fault, zeros_fault, version_part_fault, size_part_fault, length_fault, header_fault, image_fault}

abbrev AreWords : List ℕ → Type 0
AreWords words = (i : ℕ) → get_or words i 0 < 2 ^ 32

-- a number of 32 bits is read again
again : (n : ℕ) → n < 2 ^ 32 → from_le_bytes w32 (four_bytes n) ≡ n
again n small = from_le_bytes-to_le_bytes_4 n small

length-numbers : (words : List ℕ) → length (flat_map four_bytes words) ≡ 4 * length words
length-numbers [] = refl
length-numbers (w ∷ ws) = ap (λ n. suc (suc (suc (suc n)))) (length-numbers ws) ∙ omega arith

length-behind : (p : Program) → length (flat_map four_bytes p.words ++ p.bytes) ≡ 4 * length p.words + length p.bytes
length-behind p = length-append (flat_map four_bytes p.words) p.bytes ∙ ap (λ n. n + length p.bytes) (length-numbers p.words)

-- the fields of an image's bytes, whose text begins at t
record HasFields (bytes : List ℕ) (p : Program) (t : ℕ) : Type 0 where
  pub mark : mark_fault bytes ≡ None
  pub version : version_of bytes == 1 || version_of bytes == 2 ≡ true
  pub words : word_count bytes ≡ length p.words
  pub count : byte_count bytes ≡ length p.bytes
  pub entry : entry_of bytes ≡ p.entry
  pub zeros : zeros_of bytes ≡ p.zeros
  pub text : text_offset bytes ≡ t
  pub least : 20 ≤ t
  pub most : t ≤ 24
  pub size : length bytes ≡ t + 4 * length p.words + length p.bytes
  pub behind : drop t bytes ≡ flat_map four_bytes p.words ++ p.bytes

fields_two : (p : Program) → IsLawful p → HasFields (image_spelling p) p 24
unfolding image_spelling
fields_two p lawful = record {
  mark = refl;
  version = refl;
  words = again (length p.words) (omega (arith, lawful.words));
  count = again (length p.bytes) (omega (arith, lawful.bytes));
  entry = again p.entry (omega (arith, lawful.words, lawful.entry));
  zeros = again p.zeros (omega (arith, lawful.bytes));
  text = refl;
  least = omega arith;
  most = omega arith;
  size = omega (arith, length-behind p);
  behind = refl;
}

fields_one : (p : Program) → IsLawful p → p.zeros ≡ 0 → HasFields (version_one_spelling p) p 20
unfolding version_one_spelling
fields_one p lawful none = record {
  mark = refl;
  version = refl;
  words = again (length p.words) (omega (arith, lawful.words));
  count = again (length p.bytes) (omega (arith, lawful.bytes));
  entry = again p.entry (omega (arith, lawful.words, lawful.entry));
  zeros = sym none;
  text = refl;
  least = omega arith;
  most = omega arith;
  size = omega (arith, length-behind p);
  behind = refl;
}

fields_of : (bytes : List ℕ) (p : Program) → IsImage bytes p → (t : ℕ) × HasFields bytes p t
fields_of bytes p is = elim is.bytes_are [
  | inl two ↦ (24, subst (λ b. HasFields b p 24) (sym two) (fields_two p is.lawful))
  | inr one ↦ (20, subst (λ b. HasFields b p 20) (sym one.0) (fields_one p is.lawful one.1))
]

no_field_fault : (bytes : List ℕ) (at : ℕ) (is_right : Bool) → at + 4 ≤ length bytes → is_right ≡ true → field_fault bytes at is_right ≡ None
no_field_fault bytes at is_right whole right =
    let long : nat_lt (length bytes) (at + 4) ≡ false = le-ltb (length bytes) (at + 4) whole in
    rw (long, right) refl

both_none : (a b : Option ℕ) → a ≡ None → b ≡ None → first_place a b ≡ None
both_none a b e f = ap (λ x. first_place x b) e ∙ f

no_length_fault : (bytes : List ℕ) → length bytes ≡ due_length bytes → length_fault bytes ≡ None
no_length_fault bytes e =
    let enough : nat_lt (length bytes) (due_length bytes) ≡ false = le-ltb (length bytes) (due_length bytes) (omega arith) in
    let no_more : nat_lt (due_length bytes) (length bytes) ≡ false = le-ltb (due_length bytes) (length bytes) (omega arith) in
    rw (enough, no_more) refl

within : (a n m : ℕ) → 1 ≤ n → n ≤ m → a ≡ n → nat_le 1 a && nat_le a m ≡ true
within a n m low high e =
    let least : nat_le 1 a ≡ true = le-leb 1 a (omega arith) in
    let most : nat_le a m ≡ true = le-leb a m (omega arith) in
    rw (least, most) refl

no_zeros_fault : (bytes : List ℕ) (b : Bool) → has_zeros_field bytes ≡ b → text_offset bytes ≤ length bytes → byte_count bytes + zeros_of bytes ≤ most_bytes → zeros_fault bytes ≡ None
no_zeros_fault bytes true has long few =
    let right : Bool = nat_le (byte_count bytes + zeros_of bytes) most_bytes in
    let text : text_offset bytes ≡ 24 = ap (λ b. cond b 24 20) has in
    ap (λ b. cond b (field_fault bytes 20 right) None) has ∙ no_field_fault bytes 20 right (omega (arith, text, long)) (le-leb (byte_count bytes + zeros_of bytes) most_bytes few)
no_zeros_fault bytes false has long few = ap (λ b. cond b (field_fault bytes 20 (nat_le (byte_count bytes + zeros_of bytes) most_bytes)) None) has

no_fields_fault : (bytes : List ℕ) (p : Program) (t : ℕ) → IsLawful p → HasFields bytes p t → image_fault bytes ≡ None
unfolding image_fault header_fault
no_fields_fault bytes p t lawful f =
    let long : 20 ≤ length bytes = omega (arith, f.size, f.least) in
    let behind_bytes : Option ℕ = first_place (entry_fault bytes) (zeros_fault bytes) in
    let behind_words : Option ℕ = first_place (bytes_fault bytes) behind_bytes in
    both_none (header_fault bytes) (length_fault bytes)
    (both_none (version_part_fault bytes) (size_part_fault bytes)
    (both_none (mark_fault bytes) (version_fault bytes) f.mark (no_field_fault bytes 4 _ (omega arith) f.version))
    (both_none (words_fault bytes) behind_words (no_field_fault bytes 8 _ (omega arith) (within (word_count bytes) (length p.words) _ lawful.some_words lawful.words f.words))
    (both_none (bytes_fault bytes) behind_bytes (no_field_fault bytes 12 _ (omega arith) (le-leb (byte_count bytes) _ (omega (arith, f.count, lawful.bytes))))
    (both_none (entry_fault bytes) (zeros_fault bytes) (no_field_fault bytes 16 _ (omega arith) (lt-ltb (entry_of bytes) (word_count bytes) (omega (arith, f.entry, f.words, lawful.entry))))
    (no_zeros_fault bytes (has_zeros_field bytes) refl (omega (arith, f.text, f.size)) (omega (arith, f.count, f.zeros, lawful.bytes)))))))
    (no_length_fault bytes (f.size ∙ ap (λ n. n + 4 * length p.words + length p.bytes) (sym f.text) ∙ ap (λ n. text_offset bytes + 4 * n + length p.bytes) (sym f.words) ∙ ap (λ n. text_offset bytes + 4 * word_count bytes + n) (sym f.count)))

pub no_fault : (bytes : List ℕ) (p : Program) → IsImage bytes p → image_fault bytes ≡ None
no_fault bytes p is = let f = fields_of bytes p is in no_fields_fault bytes p f.0 is.lawful f.1

pub longest : (bytes : List ℕ) (p : Program) → IsImage bytes p → length bytes ≤ most_image
longest bytes p is = let f = fields_of bytes p is in omega (arith, f.1.size, f.1.most, is.lawful.words, is.lawful.bytes)

-- lists of words with the same bytes, and what follows them
words_once : (ws vs r s : List ℕ) → AreWords ws → AreWords vs → length ws ≡ length vs → flat_map four_bytes ws ++ r ≡ flat_map four_bytes vs ++ s → (ws ≡ vs) × (r ≡ s)
words_once [] [] r s a b n e = (refl, e)
words_once [] (v ∷ vs) r s a b n e = absurd (omega arith)
words_once (w ∷ ws) [] r s a b n e = absurd (omega arith)
words_once (w ∷ ws) (v ∷ vs) r s a b n e =
    let same : w ≡ v = sym (again w (a 0)) ∙ ap (λ bytes. from_le_bytes w32 (take 4 bytes)) e ∙ again v (b 0) in
    let rest : flat_map four_bytes ws ++ r ≡ flat_map four_bytes vs ++ s = ap (drop 4) e in
    let tail = words_once ws vs r s (λ i. a (suc i)) (λ i. b (suc i)) (omega arith) rest in
    (ap (λ x. x ∷ ws) same ∙ ap (λ xs. v ∷ xs) tail.0, tail.1)

same_fields : (bytes : List ℕ) (p q : Program) (t u : ℕ) → IsLawful p → IsLawful q → HasFields bytes p t → HasFields bytes q u → p ≡ q
same_fields bytes p q t u is_p is_q f g =
    let counts : length p.words ≡ length q.words = sym f.words ∙ g.words in
    let entries : p.entry ≡ q.entry = sym f.entry ∙ g.entry in
    let zeros : p.zeros ≡ q.zeros = sym f.zeros ∙ g.zeros in
    let rest : flat_map four_bytes p.words ++ p.bytes ≡ flat_map four_bytes q.words ++ q.bytes = sym f.behind ∙ ap (λ k. drop k bytes) (sym f.text ∙ g.text) ∙ g.behind in
    let parts = words_once p.words q.words p.bytes q.bytes is_p.are_words is_q.are_words counts rest in
    ap (λ (words : List ℕ). let r : Program = record { words = words; bytes = p.bytes; zeros = p.zeros; entry = p.entry } in r) parts.0
    ∙ ap (λ (rest : List ℕ). let r : Program = record { words = q.words; bytes = rest; zeros = p.zeros; entry = p.entry } in r) parts.1
    ∙ ap (λ n. let r : Program = record { words = q.words; bytes = q.bytes; zeros = n; entry = p.entry } in r) zeros
    ∙ ap (λ n. let r : Program = record { words = q.words; bytes = q.bytes; zeros = q.zeros; entry = n } in r) entries

pub one : (bytes : List ℕ) (p q : Program) → IsImage bytes p → IsImage bytes q → p ≡ q
one bytes p q is js =
    let f = fields_of bytes p is in
    let g = fields_of bytes q js in
    same_fields bytes p q f.0 g.0 is.lawful js.lawful f.1 g.1
