-- Words at addresses, and bytes with a word put among them.
use Rattle.std.proofs.Common.{◌≡◌, ℕ, ◌+◌, ◌^◌, ◌<◌, ◌≤◌, ◌⊎◌, length, sym, ap, ◌∙◌, subst, arith, inl, inr, ⊎_elim}
use Rattle.frame_memory.specs.Bytes.{Bytes, bytes_from, put_bytes, low_bytes, number_from}
use Rattle.frame_memory.proofs.Numbers.{numbers_come_back, low_bytes-length, put-out, bytes_from-same, bytes_from-put}
use Rattle.frame_memory.specs.flat_frames.Frames.{word_in, put_word}

-- bytes beside a word that is put are as before,
pub put-beside : (m : Bytes) (a w y : ℕ) → (y < a) ⊎ (a + 8 ≤ y) → put_word m a w y ≡ m y
put-beside m a w y h =
    let n : length (low_bytes 8 w) ≡ 8 = low_bytes-length 8 w in
    put-out (low_bytes 8 w) m a y (subst (λ k. (y < a) ⊎ (a + k ≤ y)) (sym n) h)

-- so are words beside it,
pub word-beside : (m : Bytes) (a b w : ℕ) → (b + 8 ≤ a) ⊎ (a + 8 ≤ b) → word_in (put_word m a w) b ≡ word_in m b
word-beside m a b w h = ap number_from (bytes_from-same m (put_word m a w) b 8 (λ y from to. put-beside m a w y (⊎_elim (λ le. inl (omega (arith, le, to))) (λ le. inr (omega (arith, le, from))) h)))

-- and the word stands where it was put
pub word-there : (m : Bytes) (a w : ℕ) → w < 2 ^ 64 → word_in (put_word m a w) a ≡ w
word-there m a w small =
    let n : length (low_bytes 8 w) ≡ 8 = low_bytes-length 8 w in
    ap number_from (subst (λ k. bytes_from (put_bytes m a (low_bytes 8 w)) a k ≡ low_bytes 8 w) n (bytes_from-put (low_bytes 8 w) m a)) ∙ numbers_come_back 8 w (omega arith)
