-- String literals (C99 6.4.5).
use Rattle.std.specs.Prelude.{ℕ, zero, suc, ◌-◌, nat_lt, if◌then◌else◌, List, [], ◌∷◌, length, Option, Some, None}
use Rattle.c_lexer.specs.Limits.{text_limit}
use Rattle.c_lexer.specs.Literals.{item_at}
use Rattle.c_lexer.specs.declared.literals.Item.{Item}

-- the byte of an item in front, and those of the items behind it
abbrev pub with_item_byte : Option Item → (ℕ → List ℕ) → List ℕ
with_item_byte None next = []
with_item_byte (Some i) next = i.value ∷ next (i.len - 1)

-- the bytes that items stand for, up to the closing quote, which is no item; the first `skip` bytes belong to an item
-- before
abbrev pub bytes_behind : (skip : ℕ) → List ℕ → List ℕ
bytes_behind skip [] = []
bytes_behind zero (b ∷ s) = with_item_byte (item_at 34 (b ∷ s)) (λ skip. bytes_behind skip s)
bytes_behind (suc skip) (b ∷ s) = bytes_behind skip s

-- the bytes that a string literal stands for, without the zero at its end. A spelling that is longer than any text
-- stands for none
abbrev pub text_bytes : List ℕ → List ℕ
text_bytes [] = []
text_bytes (q ∷ s) = if nat_lt text_limit (length s) then [] else bytes_behind 0 s
