-- What the code finds at the front of a text. No public contract speaks of it.
use Rattle.std.specs.Prelude.{ℕ, ◌+◌, Bool, ◌&&◌, ◌==◌, if◌then◌else◌, List, [], ◌∷◌, take, Option, Some, None}
use Rattle.std.specs.List.{prefix_len}
use Rattle.c_lexer.specs.declared.token.Punct.{Punct}
use Rattle.c_lexer.specs.declared.token.TokenKind.TheVariants as k
use Rattle.c_lexer.specs.declared.piece.Piece.{Piece}
use Rattle.c_lexer.specs.declared.piece.Piece.TheVariants as p
use Rattle.c_lexer.specs.declared.piece.Cut.{Cut}
use Rattle.c_lexer.specs.Bytes.{is_blank, is_digit, is_letter, is_word_byte, is_run, is_inner}
use Rattle.c_lexer.specs.Marks.{mark1, mark2, mark3}
use Rattle.c_lexer.specs.Words.{kind_of_word}
use Rattle.c_lexer.specs.Numbers.{is_number}
use Rattle.c_lexer.specs.Literals.{char_end, text_end}
use Rattle.c_lexer.specs.Blanks.{close_at, is_linemarker}
use Rattle.c_lexer.specs.Pieces.{first_passes}

abbrev pub mark_cut : Punct → ℕ → Option Cut
mark_cut mark n = Some (record { piece = p.Token (k.Mark mark); len = n })

abbrev pub mark_or : ℕ → Option Punct → Option Cut → Option Cut
mark_or n None next = next
mark_or n (Some mark) next = mark_cut mark n

abbrev pub one_byte_mark : ℕ → Option Cut
one_byte_mark a = mark_or 1 (mark1 a) None

abbrev pub two_byte_mark : ℕ → ℕ → Option Cut
two_byte_mark a b = mark_or 2 (mark2 a b) (one_byte_mark a)

abbrev pub three_byte_mark : ℕ → ℕ → ℕ → Option Cut
three_byte_mark a b c = mark_or 3 (mark3 a b c) (two_byte_mark a b)

unfoldable pub mark_at : List ℕ → Option Cut
mark_at [] = None
mark_at (a ∷ []) = one_byte_mark a
mark_at (a ∷ b ∷ []) = two_byte_mark a b
mark_at (a ∷ b ∷ c ∷ s) = three_byte_mark a b c

unfoldable pub word_at : List ℕ → Option Cut
word_at s = let n = prefix_len is_word_byte s in Some (record { piece = p.Token (kind_of_word (take n s)); len = n })

unfoldable pub number_at : List ℕ → Option Cut
number_at s = let n = prefix_len is_run s in
    if is_number (take n s) then Some (record { piece = p.Token k.Number; len = n }) else None

abbrev pub cut_to_end : ℕ → Piece → Option ℕ → Option Cut
cut_to_end before x None = None
cut_to_end before x (Some n) = Some (record { piece = x; len = n + before })

unfoldable pub slash_at : List ℕ → Option Cut
slash_at [] = None
slash_at (a ∷ []) = mark_at (a ∷ [])
slash_at (a ∷ b ∷ s) = if b == 42 then cut_to_end 2 p.Blank (close_at s)
    else if b == 47 then Some (record { piece = p.Blank; len = prefix_len is_inner s + 2 })
    else mark_at (a ∷ b ∷ s)

unfoldable pub dot_at : List ℕ → Option Cut
dot_at [] = None
dot_at (a ∷ s) = if first_passes is_digit s then None else mark_at (a ∷ s)

unfoldable pub marker_at : Bool → List ℕ → Option Cut
marker_at first s = let n = prefix_len is_inner s in
    if first && is_linemarker (take n s) then Some (record { piece = p.Blank; len = n + 1 }) else None

-- what a byte that begins neither blanks, a word nor a number begins
unfoldable pub other_at : Bool → List ℕ → Option Cut
other_at first [] = None
other_at first (b ∷ s) = if b == 39 then cut_to_end 1 (p.Token k.Char) (char_end s)
    else if b == 34 then cut_to_end 1 (p.Token k.Text) (text_end s)
    else if b == 35 then marker_at first s
    else if b == 47 then slash_at (b ∷ s)
    else if b == 46 then dot_at (b ∷ s)
    else mark_at (b ∷ s)

unfoldable pub front : Bool → List ℕ → Option Cut
front first [] = None
front first (b ∷ s) = if is_blank b then Some (record { piece = p.Blank; len = prefix_len is_blank (b ∷ s) })
    else if is_letter b then word_at (b ∷ s)
    else if is_digit b then number_at (b ∷ s)
    else other_at first (b ∷ s)
