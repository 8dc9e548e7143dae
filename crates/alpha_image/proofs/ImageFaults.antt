-- The laws of the places at which bytes stop being an image.
use Rattle.std.proofs.Common.{◌≡◌, ℕ, zero, suc, ◌+◌, ◌*◌, ◌<◌, ◌≤◌, Bool, true, false, cond, ◌||◌, inl, inr, ◌⊎◌, subst, nat_le, List, [], ◌∷◌, ◌++◌, Option, Some, None, length, take, drop, get_or, slice_get, nat_eq, ◌==◌, nat_lt, refl, sym, ◌∙◌, ap, arith, append-nil, length-take, length-drop, take-append-drop}
use Rattle.std.proofs.lemmas.List.{drop-drop}
use Rattle.std.proofs.lemmas.Grind.{flat_map-append}
use Rattle.std.proofs.lemmas.Nat.{le_bytes_4}
use Rattle.std.proofs.lemmas.Bool.{ltb-false, eqb-true}
use Rattle.std.proofs.Math.Seq.{take-add}
use Rattle.std.specs.Prelude.{flat_map}
use Rattle.alpha_isa.specs.Program.{Program, IsLawful, most_bytes}
use Rattle.alpha_isa.specs.ImageFormat.{mark, four_bytes, spelling_with, image_spelling, version_one_spelling, IsImage}
use Rattle.std.specs.Option.{option_eq}
use Rattle.alpha_image.specs.ImageFault.{number_at, version_of, word_count, byte_count, entry_of, zeros_of, has_zeros_field, text_offset, first_place, differs_at, field_fault, mark_fault, version_fault, words_fault, bytes_fault, entry_fault, zeros_fault, version_part_fault, size_part_fault, length_fault, header_fault, image_fault}

drop-nil : {A : Type 0} (k : ℕ) → ◌≡◌ {A = List A} (drop k []) []
drop-nil zero = refl
drop-nil (suc k) = refl

-- one byte more is compared
pub differs_step : (dues bytes : List ℕ) (k i due : ℕ) → k < length dues → due ≡ get_or dues k due → differs_at (drop k dues) (drop k bytes) i ≡ cond (option_eq nat_eq (slice_get bytes k) (Some due)) (differs_at (drop (suc k) dues) (drop (suc k) bytes) (suc i)) (Some i)
differs_step [] bytes k i due within is = absurd (omega arith)
differs_step (d ∷ ds) [] zero i due within is = refl
differs_step (d ∷ ds) (b ∷ bs) zero i due within is = ap (λ x. cond (nat_eq b x) (differs_at ds bs (suc i)) (Some i)) (sym is)
differs_step (d ∷ ds) (b ∷ bs) (suc k) i due within is = differs_step ds bs k i due (omega arith) is
differs_step (d ∷ ds) [] (suc k) i due within is =
    ap (λ rest. differs_at (drop k ds) rest i) (sym (drop-nil {A = ℕ} k)) ∙ differs_step ds [] k i due (omega arith) is

-- inside a list it doesn't matter what is given for the outside
pub get_or-in : (xs : List ℕ) (i d : ℕ) → i < length xs → get_or xs i d ≡ get_or xs i (get_or xs i d)
get_or-in [] i d within = absurd (omega arith)
get_or-in (x ∷ xs) zero d within = refl
get_or-in (x ∷ xs) (suc i) d within = get_or-in xs i d (omega arith)

-- each is a byte
abbrev pub AreBytes : List ℕ → Type 0
AreBytes bytes = (i : ℕ) → get_or bytes i 0 < 256

bytes-drop : (n : ℕ) (xs : List ℕ) → AreBytes xs → AreBytes (drop n xs)
bytes-drop zero xs h i = h i
bytes-drop (suc n) [] h i = h i
bytes-drop (suc n) (x ∷ xs) h i = bytes-drop n xs (λ k. h (suc k)) i

bytes-take : (n : ℕ) (xs : List ℕ) → AreBytes xs → AreBytes (take n xs)
bytes-take zero xs h i = omega arith
bytes-take (suc n) [] h i = h i
bytes-take (suc n) (x ∷ xs) h zero = h zero
bytes-take (suc n) (x ∷ xs) h (suc i) = bytes-take n xs (λ k. h (suc k)) i

-- four bytes are spelled by their number
number-number_at : (bytes : List ℕ) (at : ℕ) → AreBytes bytes → at + 4 ≤ length bytes → four_bytes (number_at bytes at) ≡ take 4 (drop at bytes)
number-number_at bytes at h within =
    le_bytes_4 (take 4 (drop at bytes)) (number_at bytes at) (simp (length-take, length-drop) (omega arith)) (bytes-take 4 (drop at bytes) (bytes-drop at bytes h)) refl

field_split : (bytes : List ℕ) (at : ℕ) → AreBytes bytes → at + 4 ≤ length bytes → drop at bytes ≡ four_bytes (number_at bytes at) ++ drop (at + 4) bytes
field_split bytes at h within =
    sym (take-append-drop 4 (drop at bytes))
    ∙ ap (λ front. front ++ drop 4 (drop at bytes)) (sym (number-number_at bytes at h within))
    ∙ ap (λ rest. four_bytes (number_at bytes at) ++ rest) (drop-drop 4 at bytes)

-- one number more is read
pub more_numbers : (bytes words : List ℕ) (start i n : ℕ) → AreBytes bytes → start + 4 * i + 4 ≤ length bytes → flat_map four_bytes words ≡ take (4 * i) (drop start bytes) → n ≡ number_at bytes (start + 4 * i) → flat_map four_bytes (words ++ n ∷ []) ≡ take (4 * (i + 1)) (drop start bytes)
more_numbers bytes words start i n h within so_far is =
    let longer : 4 * (i + 1) ≡ 4 * i + 4 = omega arith in
    flat_map-append four_bytes words (n ∷ [])
    ∙ ap (λ front. front ++ (four_bytes n ++ [])) so_far
    ∙ ap (λ last. take (4 * i) (drop start bytes) ++ last) (append-nil (four_bytes n) ∙ ap four_bytes is ∙ number-number_at bytes (start + 4 * i) h within ∙ ap (take 4) (sym (drop-drop (4 * i) start bytes)))
    ∙ sym (take-add (4 * i) 4 (drop start bytes))
    ∙ ap (λ k. take k (drop start bytes)) (sym longer)

pub none_first : (a b : Option ℕ) → first_place a b ≡ None → (a ≡ None) × (b ≡ None)
none_first None b e = (refl, e)
none_first (Some x) b e = let clash : ⊥ = cc in absurd clash

pub field_is : (bytes : List ℕ) (at : ℕ) (is_right : Bool) → field_fault bytes at is_right ≡ None → (at + 4 ≤ length bytes) × (is_right ≡ true)
field_is bytes at is_right e = go (nat_lt (length bytes) (at + 4)) is_right refl e
  where
    go : (short right : Bool) → nat_lt (length bytes) (at + 4) ≡ short → cond short (Some (length bytes)) (cond right None (Some at)) ≡ None → (at + 4 ≤ length bytes) × (right ≡ true)
    go true right s e = let clash : ⊥ = cc in absurd clash
    go false true s e = (ltb-false (length bytes) (at + 4) s, refl)
    go false false s e = let clash : ⊥ = cc in absurd clash

mark_step : (d b : ℕ) (ds bs : List ℕ) (i : ℕ) (same : Bool) → nat_eq b d ≡ same → cond same (differs_at ds bs (suc i)) (Some i) ≡ None → (differs_at ds bs (suc i) ≡ None → bs ≡ ds ++ drop (length ds) bs) → b ∷ bs ≡ d ∷ (ds ++ drop (length ds) bs)
mark_step d b ds bs i true s e rest = ap (λ x. x ∷ bs) (eqb-true b d s) ∙ ap (λ tail. d ∷ tail) (rest e)
mark_step d b ds bs i false s e rest = let clash : ⊥ = cc in absurd clash

mark_is : (dues bytes : List ℕ) (i : ℕ) → differs_at dues bytes i ≡ None → bytes ≡ dues ++ drop (length dues) bytes
mark_is [] bytes i e = refl
mark_is (d ∷ ds) [] i e = let clash : ⊥ = cc in absurd clash
mark_is (d ∷ ds) (b ∷ bs) i e = mark_step d b ds bs i (nat_eq b d) refl e (mark_is ds bs (suc i))

-- what fields without a fault are
record AreFields (bytes : List ℕ) : Type 0 where
  pub mark : bytes ≡ mark ++ drop 4 bytes
  pub version : version_of bytes == 1 || version_of bytes == 2 ≡ true
  pub whole : 20 ≤ length bytes
  pub zeros : zeros_fault bytes ≡ None

fields_are : (bytes : List ℕ) → header_fault bytes ≡ None → AreFields bytes
unfolding header_fault
fields_are bytes e =
    let behind_bytes : Option ℕ = first_place (entry_fault bytes) (zeros_fault bytes) in
    let behind_words : Option ℕ = first_place (bytes_fault bytes) behind_bytes in
    let parts = none_first (version_part_fault bytes) (size_part_fault bytes) e in
    let front = none_first (mark_fault bytes) (version_fault bytes) parts.0 in
    let words = none_first (words_fault bytes) behind_words parts.1 in
    let count = none_first (bytes_fault bytes) behind_bytes words.1 in
    let last = none_first (entry_fault bytes) (zeros_fault bytes) count.1 in
    let version = field_is bytes 4 (version_of bytes == 1 || version_of bytes == 2) front.1 in
    let entry = field_is bytes 16 (nat_lt (entry_of bytes) (word_count bytes)) last.0 in
    record {
      mark = mark_is mark bytes 0 front.0;
      version = version.1;
      whole = entry.0;
      zeros = last.1;
    }

-- what they spell
header_is : (bytes : List ℕ) → AreBytes bytes → AreFields bytes → bytes ≡ mark ++ (four_bytes (version_of bytes) ++ (four_bytes (word_count bytes) ++ (four_bytes (byte_count bytes) ++ (four_bytes (entry_of bytes) ++ drop 20 bytes))))
header_is bytes h fields =
    let whole : 20 ≤ length bytes = fields.whole in
    fields.mark
    ∙ ap (λ rest. mark ++ rest) (field_split bytes 4 h (omega arith)
    ∙ ap (λ rest. four_bytes (version_of bytes) ++ rest) (field_split bytes 8 h (omega arith)
    ∙ ap (λ rest. four_bytes (word_count bytes) ++ rest) (field_split bytes 12 h (omega arith)
    ∙ ap (λ rest. four_bytes (byte_count bytes) ++ rest) (field_split bytes 16 h (omega arith)))))

-- an image that was read of bytes, whose text begins at t
pub record WasRead (bytes : List ℕ) (t : ℕ) (p : Program) : Type 0 where
  pub words : flat_map four_bytes p.words ≡ take (4 * word_count bytes) (drop t bytes)
  pub rest : p.bytes ≡ drop (t + 4 * word_count bytes) bytes
  pub word_count : length p.words ≡ word_count bytes
  pub byte_count : length p.bytes ≡ byte_count bytes
  pub entry : p.entry ≡ entry_of bytes

-- The image whose words and bytes stand behind right fields, for the fields that its version has besides.
spelled_as : (bytes fields : List ℕ) (version t : ℕ) (p : Program) → WasRead bytes t p
    → bytes ≡ mark ++ (four_bytes version ++ (four_bytes (word_count bytes) ++ (four_bytes (byte_count bytes) ++ (four_bytes (entry_of bytes) ++ (fields ++ drop t bytes)))))
    → bytes ≡ spelling_with version fields p
spelled_as bytes fields version t p r e =
    let behind : drop t bytes ≡ flat_map four_bytes p.words ++ p.bytes =
    sym (take-append-drop (4 * word_count bytes) (drop t bytes))
    ∙ ap (λ front. front ++ drop (4 * word_count bytes) (drop t bytes)) (sym r.words)
    ∙ ap (λ rest. flat_map four_bytes p.words ++ rest) (drop-drop (4 * word_count bytes) t bytes ∙ sym r.rest) in
    e
    ∙ ap (λ n. mark ++ (four_bytes version ++ (four_bytes n ++ (four_bytes (byte_count bytes) ++ (four_bytes (entry_of bytes) ++ (fields ++ drop t bytes)))))) (sym r.word_count)
    ∙ ap (λ n. mark ++ (four_bytes version ++ (four_bytes (length p.words) ++ (four_bytes n ++ (four_bytes (entry_of bytes) ++ (fields ++ drop t bytes)))))) (sym r.byte_count)
    ∙ ap (λ n. mark ++ (four_bytes version ++ (four_bytes (length p.words) ++ (four_bytes (length p.bytes) ++ (four_bytes n ++ (fields ++ drop t bytes)))))) (sym r.entry)
    ∙ ap (λ rest. mark ++ (four_bytes version ++ (four_bytes (length p.words) ++ (four_bytes (length p.bytes) ++ (four_bytes p.entry ++ (fields ++ rest)))))) behind

with_version : (bytes : List ℕ) (version : ℕ) (rest : List ℕ) → version_of bytes ≡ version
    → bytes ≡ mark ++ (four_bytes (version_of bytes) ++ (four_bytes (word_count bytes) ++ (four_bytes (byte_count bytes) ++ (four_bytes (entry_of bytes) ++ drop 20 bytes))))
    → drop 20 bytes ≡ rest
    → bytes ≡ mark ++ (four_bytes version ++ (four_bytes (word_count bytes) ++ (four_bytes (byte_count bytes) ++ (four_bytes (entry_of bytes) ++ rest))))
with_version bytes version rest is header behind =
    header
    ∙ ap (λ n. mark ++ (four_bytes n ++ (four_bytes (word_count bytes) ++ (four_bytes (byte_count bytes) ++ (four_bytes (entry_of bytes) ++ drop 20 bytes))))) is
    ∙ ap (λ b. mark ++ (four_bytes version ++ (four_bytes (word_count bytes) ++ (four_bytes (byte_count bytes) ++ (four_bytes (entry_of bytes) ++ b))))) behind

-- a version with a field for the zeros is 2, and the field is whole; one without is 1
second_one : (a : Bool) → a || false ≡ true → a ≡ true
second_one true e = refl
second_one false e = e

zeros_whole : (bytes : List ℕ) → has_zeros_field bytes ≡ true → zeros_fault bytes ≡ None → 24 ≤ length bytes
zeros_whole bytes has e =
    let right : Bool = nat_le (byte_count bytes + zeros_of bytes) most_bytes in
    let field : field_fault bytes 20 right ≡ None = ap (λ b. cond b (field_fault bytes 20 right) None) (sym has) ∙ e in
    (field_is bytes 20 right field).0

-- what was read is the image of the bytes
spelled_two : (bytes : List ℕ) (p : Program) → AreBytes bytes → AreFields bytes → has_zeros_field bytes ≡ true → p.zeros ≡ zeros_of bytes → WasRead bytes 24 p → bytes ≡ image_spelling p
unfolding image_spelling
spelled_two bytes p h fields has zeros r =
    let whole : 24 ≤ length bytes = zeros_whole bytes has fields.zeros in
    let is : number_at bytes 20 ≡ p.zeros = sym (zeros ∙ ap (λ b. cond b (number_at bytes 20) 0) has) in
    spelled_as bytes (four_bytes p.zeros) 2 24 p r
    (with_version bytes 2 (four_bytes p.zeros ++ drop 24 bytes) (eqb-true (version_of bytes) 2 has) (header_is bytes h fields)
    (field_split bytes 20 h whole ∙ ap (λ n. four_bytes n ++ drop 24 bytes) is))

spelled_one : (bytes : List ℕ) (p : Program) → AreBytes bytes → AreFields bytes → has_zeros_field bytes ≡ false → WasRead bytes 20 p → bytes ≡ version_one_spelling p
unfolding version_one_spelling
spelled_one bytes p h fields has r =
    let one : version_of bytes == 1 ≡ true = second_one (version_of bytes == 1) (ap (λ b. version_of bytes == 1 || b) (sym has) ∙ fields.version) in
    spelled_as bytes [] 1 20 p r (with_version bytes 1 (drop 20 bytes) (eqb-true (version_of bytes) 1 one) (header_is bytes h fields) refl)

spelled_by : (bytes : List ℕ) (p : Program) (b : Bool) → has_zeros_field bytes ≡ b → AreBytes bytes → AreFields bytes → p.zeros ≡ zeros_of bytes → WasRead bytes (text_offset bytes) p
    → (bytes ≡ image_spelling p) ⊎ ((bytes ≡ version_one_spelling p) × (p.zeros ≡ 0))
spelled_by bytes p true has h fields zeros r = inl (spelled_two bytes p h fields has zeros (subst (λ b. WasRead bytes (cond b 24 20) p) has r))
spelled_by bytes p false has h fields zeros r =
    inr (spelled_one bytes p h fields has (subst (λ b. WasRead bytes (cond b 24 20) p) has r), zeros ∙ ap (λ b. cond b (number_at bytes 20) 0) has)

pub found_image_fault : (bytes : List ℕ) (p : Program) → AreBytes bytes → header_fault bytes ≡ None → p.zeros ≡ zeros_of bytes → WasRead bytes (text_offset bytes) p → IsLawful p → IsImage bytes p
found_image_fault bytes p h e zeros r lawful = record {
  lawful = lawful;
  bytes_are = spelled_by bytes p (has_zeros_field bytes) refl h (fields_are bytes e) zeros r;
}

-- the parts of an image as they were read
pub was_read : (bytes words rest : List ℕ) (w n entry z t : ℕ) → w ≡ word_count bytes → n ≡ byte_count bytes → entry ≡ entry_of bytes → t ≡ text_offset bytes
    → length bytes ≡ t + 4 * w + n → flat_map four_bytes words ≡ take (4 * w) (drop t bytes) → length words ≡ w → rest ≡ drop (t + 4 * w) bytes
    → WasRead bytes (text_offset bytes) (record { words = words; bytes = rest; zeros = z; entry = entry })
was_read bytes words rest w n entry z t w_is n_is entry_is t_is due spelled_words count rest_is =
    let size : length rest ≡ n = ap length rest_is ∙ simp length-drop (omega arith) in
    record {
      words = spelled_words ∙ ap (λ k. take (4 * k) (drop t bytes)) w_is ∙ ap (λ k. take (4 * word_count bytes) (drop k bytes)) t_is;
      rest = rest_is ∙ ap (λ k. drop (t + 4 * k) bytes) w_is ∙ ap (λ k. drop (k + 4 * word_count bytes) bytes) t_is;
      word_count = count ∙ w_is;
      byte_count = size ∙ n_is;
      entry = entry_is;
    }

-- behind right fields the length alone decides
pub image_fault-length : (bytes : List ℕ) (fault : Option ℕ) → header_fault bytes ≡ None → length_fault bytes ≡ fault → image_fault bytes ≡ fault
unfolding image_fault
image_fault-length bytes fault header e = ap (λ h. first_place h (length_fault bytes)) header ∙ e
