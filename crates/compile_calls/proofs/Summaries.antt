-- What is put in pieces stands there as one.
use Rattle.std.proofs.Common.{◌≡◌, ℕ, List, ◌++◌, ap, ◌∙◌, append_assoc}

pub two_pieces : (old mid new a b : List ℕ) → mid ≡ old ++ a → new ≡ mid ++ b → new ≡ old ++ (a ++ b)
two_pieces old mid new a b first second = second ∙ ap (λ x. x ++ b) first ∙ append_assoc old a b

pub five_pieces : (t0 t1 t2 t3 t4 t5 a b c d e : List ℕ) → t1 ≡ t0 ++ a → t2 ≡ t1 ++ b → t3 ≡ t2 ++ c → t4 ≡ t3 ++ d → t5 ≡ t4 ++ e → t5 ≡ t0 ++ (a ++ (b ++ (c ++ (d ++ e))))
five_pieces t0 t1 t2 t3 t4 t5 a b c d e first second third fourth fifth =
    two_pieces t0 t1 t5 a (b ++ (c ++ (d ++ e))) first
    (two_pieces t1 t2 t5 b (c ++ (d ++ e)) second
    (two_pieces t2 t3 t5 c (d ++ e) third (two_pieces t3 t4 t5 d e fourth fifth)))
