-- The bytes of a linemarker's name.
use Rattle.std.proofs.Common.{◌≡◌, ℕ, ◌<◌, List, length, get_or, drop, Some, refl, sym, subst, arith, drop-cons}
use Rattle.std.proofs.lemmas.Bool.Decides.{nat_tests}
use Rattle.c_lexer.specs.Blanks.{name_item, name_item_len}

pub name_item_at : (s : List ℕ) (at : ℕ) → at < length s → name_item (drop at s) ≡ Some (name_item_len (get_or s at 0))
unfolding name_item
name_item_at s at h =
    let P : List ℕ → Type 0 = λ r. name_item r ≡ Some (name_item_len (get_or s at 0)) in
    subst P (sym (drop-cons s at 0 h)) refl

pub name_item_some : (b n : ℕ) → n ≡ name_item_len b → 0 < n
name_item_some b n e = grind (arith, nat_tests)
