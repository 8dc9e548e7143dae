-- What fixes do to the bytes of data.
use Rattle.std.proofs.Common.{◌≡◌, ℕ, zero, suc, ◌+◌, ◌-◌, ◌/◌, ◌<◌, ◌≤◌, ◌⊎◌, List, [], ◌∷◌, ◌++◌, length, drop, take, refl, sym, ap, ◌∙◌, subst, arith, inl, inr, ⊎_elim}
use Rattle.std.specs.Prelude.{slice_index}
use Rattle.std.specs.Int.{w64, to_le_bytes}
use Rattle.std.proofs.lemmas.Bool.{cases_lt}
use Rattle.alpha_items.specs.declared.item.Fix.{Fix}
use Rattle.alpha_items.specs.Words.{with_fix, fixed_data}
use Rattle.mem_model.specs.Bytes.{AreBytes}
use Rattle.frame_memory.specs.Bytes.{low_bytes}
use Rattle.frame_memory.proofs.Machine.{numbers_of_accesses}
use Rattle.frame_memory.proofs.GlobalData.Lists.{part-length, part-apart, part-inside, bytes-append, bytes-take, bytes-drop}

-- of each fix, and of some fix
abbrev pub OfEach : (Fix → Type 0) → List Fix → Type 0
OfEach P [] = Unit {0}
OfEach P (f ∷ fixes) = P f × OfEach P fixes

abbrev pub OfSome : (Fix → Type 0) → List Fix → Type 0
OfSome P [] = ⊥
OfSome P (f ∷ fixes) = P f ⊎ OfSome P fixes

pub each-append : (P : Fix → Type 0) (xs ys : List Fix) → OfEach P xs → OfEach P ys → OfEach P (xs ++ ys)
each-append P [] ys h k = k
each-append P (x ∷ xs) ys h k = (h.0, each-append P xs ys h.1 k)

pub some-first : (P : Fix → Type 0) (xs ys : List Fix) → OfSome P xs → OfSome P (xs ++ ys)
some-first P [] ys h = absurd h
some-first P (x ∷ xs) ys h = ⊎_elim (λ a. inl a) (λ r. inr (some-first P xs ys r)) h

pub some-second : (P : Fix → Type 0) (xs ys : List Fix) → OfSome P ys → OfSome P (xs ++ ys)
some-second P [] ys h = h
some-second P (x ∷ xs) ys h = inr (some-second P xs ys h)

-- a fix covers a byte, and puts one there
pub record Covers (k : ℕ) (f : Fix) : Type 0 where
  pub from : f.at ≤ k
  pub to : k < f.at + 8

abbrev pub fix_byte : (start k : ℕ) → Fix → ℕ
fix_byte start k f = slice_index (to_le_bytes w64 (start + f.offset)) (k - f.at)

low-length : (n v : ℕ) → length (low_bytes n v) ≡ n
unfolding low_bytes
low-length zero v = refl
low-length (suc n) v = ap suc (low-length n (v / 256))

pub eight : (v : ℕ) → length (to_le_bytes w64 v) ≡ 8
eight v = ap length (numbers_of_accesses.quad_of v) ∙ low-length 8 v

low-are-bytes : (n v : ℕ) → AreBytes (low_bytes n v)
unfolding low_bytes
low-are-bytes zero v = tt
low-are-bytes (suc n) v = (omega arith, low-are-bytes n (v / 256))

abbrev pub FitsIn : (size : ℕ) → Fix → Type 0
FitsIn size f = f.at + 8 ≤ size

-- the length stays, and bytes are bytes
fix-length : (start : ℕ) (bytes : List ℕ) (f : Fix) → FitsIn (length bytes) f → length (with_fix start bytes f) ≡ length bytes
fix-length start bytes f fits = let n = eight (start + f.offset) in part-length bytes (to_le_bytes w64 (start + f.offset)) f.at (omega (arith, n, fits))

pub fixed-length : (start : ℕ) (fixes : List Fix) (bytes : List ℕ) → OfEach (FitsIn (length bytes)) fixes → length (fixed_data start bytes fixes) ≡ length bytes
fixed-length start [] bytes h = refl
fixed-length start (f ∷ fixes) bytes h =
    let same = fix-length start bytes f h.0 in
    fixed-length start fixes (with_fix start bytes f) (subst (λ n. OfEach (FitsIn n) fixes) (sym same) h.1) ∙ same

pub fixed-bytes : (start : ℕ) (fixes : List Fix) (bytes : List ℕ) → AreBytes bytes → AreBytes (fixed_data start bytes fixes)
fixed-bytes start [] bytes h = h
fixed-bytes start (f ∷ fixes) bytes h =
    let new = to_le_bytes w64 (start + f.offset) in
    let are = subst AreBytes (sym (numbers_of_accesses.quad_of (start + f.offset))) (low-are-bytes 8 (start + f.offset)) in
    fixed-bytes start fixes (with_fix start bytes f)
    (bytes-append (take f.at bytes) (to_le_bytes w64 (start + f.offset) ++ drop (f.at + length (to_le_bytes w64 (start + f.offset))) bytes) (bytes-take f.at bytes h)
    (bytes-append (to_le_bytes w64 (start + f.offset)) (drop (f.at + length (to_le_bytes w64 (start + f.offset))) bytes) are (bytes-drop (f.at + length (to_le_bytes w64 (start + f.offset))) bytes h)))

-- a byte that is covered, and one that is not
covered : (start : ℕ) (bytes : List ℕ) (f : Fix) (k : ℕ) → FitsIn (length bytes) f → Covers k f → slice_index (with_fix start bytes f) k ≡ fix_byte start k f
covered start bytes f k fits c =
    let n = eight (start + f.offset) in
    let from = c.from in
    let to = c.to in
    let sum : f.at + (k - f.at) ≡ k = omega (arith, from) in
    ap (slice_index (with_fix start bytes f)) (sym sum)
    ∙ part-inside bytes (to_le_bytes w64 (start + f.offset)) f.at (k - f.at) (omega (arith, n, fits)) (omega (arith, n, from, to))

uncovered : (start : ℕ) (bytes : List ℕ) (f : Fix) (k : ℕ) → FitsIn (length bytes) f → (k < f.at) ⊎ (f.at + 8 ≤ k) → slice_index (with_fix start bytes f) k ≡ slice_index bytes k
uncovered start bytes f k fits beside =
    let n = eight (start + f.offset) in
    part-apart bytes (to_le_bytes w64 (start + f.offset)) f.at k (omega (arith, n, fits)) (⊎_elim (λ lt. inl lt) (λ le. inr (omega (arith, n, le))) beside)

covers-or-not : (k : ℕ) (f : Fix) → Covers k f ⊎ ((k < f.at) ⊎ (f.at + 8 ≤ k))
covers-or-not k f = ⊎_elim
    (λ lt. inr (inl lt))
    (λ from. ⊎_elim (λ to. inl (record { from = omega (arith, from); to = to })) (λ le. inr (inr (omega (arith, le)))) (cases_lt k (f.at + 8)))
    (cases_lt k f.at)

-- a byte on which all fixes that cover it agree, where one does or the byte was so
pub byte-is : (start k v : ℕ) (fixes : List Fix) (bytes : List ℕ) → OfEach (FitsIn (length bytes)) fixes → OfEach (λ f. Covers k f → fix_byte start k f ≡ v) fixes → OfSome (Covers k) fixes ⊎ (slice_index bytes k ≡ v) → slice_index (fixed_data start bytes fixes) k ≡ v
byte-is start k v [] bytes fits agree is = ⊎_elim (λ none. absurd none) (λ e. e) is
byte-is start k v (f ∷ fixes) bytes fits agree is =
    let same = fix-length start bytes f fits.0 in
    byte-is start k v fixes (with_fix start bytes f) (subst (λ n. OfEach (FitsIn n) fixes) (sym same) fits.1) agree.1
    (⊎_elim
    (λ c. inr (covered start bytes f k fits.0 c ∙ agree.0 c))
    (λ beside. ⊎_elim
    (λ some. ⊎_elim
    (λ c. inr (covered start bytes f k fits.0 c ∙ agree.0 c))
    (λ r. inl r)
    some)
    (λ e. inr (uncovered start bytes f k fits.0 beside ∙ e))
    is)
    (covers-or-not k f))
