-- One turn of the loop over registers, and its end.
use Rattle.std.proofs.Common.{◌≡◌, ℕ, ◌+◌, ◌<◌, ◌≤◌, List, [], ◌∷◌, ◌++◌, length, get_or, drop, sym, ap, ◌∙◌, append_assoc, append-nil}
use Rattle.std.proofs.lemmas.List.{at_drop_more, at_drop_all}
use Rattle.temp_ir.specs.Text.{register_name, registers_text}

-- what stands behind two pieces
two_pieces : (out a b rest : List ℕ) → (out ++ a ++ b) ++ rest ≡ out ++ (a ++ b ++ rest)
two_pieces out a b rest = append_assoc (out ++ a) b rest ∙ append_assoc out a (b ++ rest) ∙ ap (λ x. out ++ x) (sym (append_assoc a b rest))

pub registers_next : (out registers : List ℕ) (i r : ℕ) → r ≡ get_or registers i r → i < length registers → (out ++ 44 ∷ 32 ∷ [] ++ register_name r) ++ registers_text (drop (i + 1) registers) ≡ out ++ registers_text (drop i registers)
registers_next out registers i r is within =
    two_pieces out (44 ∷ 32 ∷ []) (register_name r) (registers_text (drop (i + 1) registers))
    ∙ ap (λ x. out ++ (44 ∷ 32 ∷ [] ++ register_name x ++ registers_text (drop (i + 1) registers))) is
    ∙ ap (λ x. out ++ x) (sym (at_drop_more registers_text registers i r within))

pub registers_end : (out registers : List ℕ) (i : ℕ) → length registers ≤ i → out ++ registers_text (drop i registers) ≡ out
registers_end out registers i past = ap (λ x. out ++ x) (at_drop_all registers_text registers i past) ∙ append-nil out
