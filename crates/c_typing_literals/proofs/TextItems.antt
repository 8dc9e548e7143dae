-- The bytes of a string literal, item by item.
use Rattle.std.proofs.Common.{◌≡◌, ℕ, zero, suc, ◌-◌, ◌<◌, List, [], ◌∷◌, ◌++◌, Option, Some, None, refl, sym, ap, ◌∙◌, append_assoc, append-nil, length, drop, take, arith, length-drop, take_all}
use Rattle.c_lexer.specs.declared.literals.Item.{Item}
use Rattle.c_lexer.specs.Literals.{item_at}
use Rattle.c_typing_literals.specs.Texts.{with_item_byte, bytes_behind}

skipped : (k : ℕ) (s : List ℕ) → bytes_behind k s ≡ bytes_behind 0 (drop k s)
skipped zero s = refl
skipped (suc k) [] = refl
skipped (suc k) (b ∷ s) = skipped k s

no_item : (i : Item) → item_at 34 [] ≡ Some i → ⊥
unfolding item_at
no_item i e = cc

one_more : (s : List ℕ) (i : Item) → item_at 34 s ≡ Some i → 0 < i.len → bytes_behind 0 s ≡ i.value ∷ bytes_behind 0 (drop i.len s)
one_more [] i is some = absurd (no_item i is)
one_more (b ∷ s) i is some =
    let one : suc (i.len - 1) ≡ i.len = omega arith in
    ap (λ f. with_item_byte f (λ skip. bytes_behind skip s)) is ∙ ap (λ r. i.value ∷ r) (skipped (i.len - 1) s ∙ ap (λ k. bytes_behind 0 (drop k (b ∷ s))) one)

pub text_turn : (found s : List ℕ) (r : Option Item) (i : Item) → r ≡ item_at 34 s → r ≡ Some i → 0 < i.len
    → found ++ bytes_behind 0 s ≡ (found ++ i.value ∷ []) ++ bytes_behind 0 (take (length s - i.len) (drop i.len s))
text_turn found s r i is there some =
    let rest : take (length s - i.len) (drop i.len s) ≡ drop i.len s = take_all (length s - i.len) (drop i.len s) (omega (arith, length-drop i.len s)) in
    ap (λ t. found ++ t) (one_more s i (sym is ∙ there) some ∙ ap (λ t. i.value ∷ bytes_behind 0 t) (sym rest)) ∙ sym (append_assoc found (i.value ∷ []) (bytes_behind 0 (take (length s - i.len) (drop i.len s))))

pub text_stop : (found s : List ℕ) (r : Option Item) → r ≡ item_at 34 s → r ≡ None → found ≡ found ++ bytes_behind 0 s
text_stop found s r is none = sym (append-nil found) ∙ ap (λ t. found ++ t) (sym (over s (sym is ∙ none)))
  where
    over : (s : List ℕ) → item_at 34 s ≡ None → bytes_behind 0 s ≡ []
    over [] e = refl
    over (b ∷ s) e = ap (λ f. with_item_byte f (λ skip. bytes_behind skip s)) e
