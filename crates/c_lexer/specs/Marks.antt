-- The punctuators (C99 6.4.6), without the digraphs and the marks of the preprocessor.
use Rattle.std.specs.Prelude.{ℕ, ◌&&◌, ◌==◌, if◌then◌else◌, List, [], ◌∷◌, Option, Some, None}
use Rattle.c_lexer.specs.declared.token.Punct.{Punct}
use Rattle.c_lexer.specs.declared.token.Punct.TheVariants as m

-- the marks of one byte
unfoldable pub mark1 : ℕ → Option Punct
mark1 a = if a == 91 then Some m.LeftBracket
    else if a == 93 then Some m.RightBracket
    else if a == 40 then Some m.LeftParen
    else if a == 41 then Some m.RightParen
    else if a == 123 then Some m.LeftBrace
    else if a == 125 then Some m.RightBrace
    else if a == 46 then Some m.Dot
    else if a == 38 then Some m.Ampersand
    else if a == 42 then Some m.Star
    else if a == 43 then Some m.Plus
    else if a == 45 then Some m.Minus
    else if a == 126 then Some m.Tilde
    else if a == 33 then Some m.Exclamation
    else if a == 47 then Some m.Slash
    else if a == 37 then Some m.Percent
    else if a == 60 then Some m.LessThan
    else if a == 62 then Some m.GreaterThan
    else if a == 94 then Some m.Caret
    else if a == 124 then Some m.Bar
    else if a == 63 then Some m.Question
    else if a == 58 then Some m.Colon
    else if a == 59 then Some m.Semicolon
    else if a == 61 then Some m.Assign
    else if a == 44 then Some m.Comma
    else None

-- the marks of two bytes: `->`, the doubled ones, and those that end in `=`
unfoldable pub mark2 : ℕ → ℕ → Option Punct
mark2 a b = if a == 45 && b == 62 then Some m.Arrow
    else if a == 43 && b == 43 then Some m.Increment
    else if a == 45 && b == 45 then Some m.Decrement
    else if a == 60 && b == 60 then Some m.ShiftLeft
    else if a == 62 && b == 62 then Some m.ShiftRight
    else if a == 60 && b == 61 then Some m.LessOrEqual
    else if a == 62 && b == 61 then Some m.GreaterOrEqual
    else if a == 61 && b == 61 then Some m.EqualEqual
    else if a == 33 && b == 61 then Some m.NotEqual
    else if a == 38 && b == 38 then Some m.AndAnd
    else if a == 124 && b == 124 then Some m.OrOr
    else if a == 42 && b == 61 then Some m.StarAssign
    else if a == 47 && b == 61 then Some m.SlashAssign
    else if a == 37 && b == 61 then Some m.PercentAssign
    else if a == 43 && b == 61 then Some m.PlusAssign
    else if a == 45 && b == 61 then Some m.MinusAssign
    else if a == 38 && b == 61 then Some m.AmpersandAssign
    else if a == 94 && b == 61 then Some m.CaretAssign
    else if a == 124 && b == 61 then Some m.BarAssign
    else None

-- the marks of three bytes: `...`, `<<=`, `>>=`
unfoldable pub mark3 : ℕ → ℕ → ℕ → Option Punct
mark3 a b c = if a == 46 && b == 46 && c == 46 then Some m.Ellipsis
    else if a == 60 && b == 60 && c == 61 then Some m.ShiftLeftAssign
    else if a == 62 && b == 62 && c == 61 then Some m.ShiftRightAssign
    else None

-- the mark that these bytes spell
unfoldable pub mark_of : List ℕ → Option Punct
mark_of [] = None
mark_of (a ∷ []) = mark1 a
mark_of (a ∷ b ∷ []) = mark2 a b
mark_of (a ∷ b ∷ c ∷ []) = mark3 a b c
mark_of (a ∷ b ∷ c ∷ d ∷ s) = None
