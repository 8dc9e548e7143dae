-- The keywords by their first letter. No public contract speaks of them.
use Rattle.std.specs.Prelude.{ℕ, ◌==◌, if◌then◌else◌, List, [], ◌∷◌}
use Rattle.c_lexer.specs.declared.token.Keyword.{Keyword}
use Rattle.c_lexer.specs.declared.token.Keyword.TheVariants as w

-- the keywords that begin with this byte
unfoldable pub keywords_with : ℕ → List Keyword
keywords_with a = if a == 97 then w.Auto ∷ []
    else if a == 98 then w.Break ∷ []
    else if a == 99 then w.Case ∷ w.Char ∷ w.Const ∷ w.Continue ∷ []
    else if a == 100 then w.Default ∷ w.Do ∷ w.Double ∷ []
    else if a == 101 then w.Else ∷ w.Enum ∷ w.Extern ∷ []
    else if a == 102 then w.Float ∷ w.For ∷ []
    else if a == 103 then w.Goto ∷ []
    else if a == 105 then w.If ∷ w.Inline ∷ w.Int ∷ []
    else if a == 108 then w.Long ∷ []
    else if a == 114 then w.Register ∷ w.Restrict ∷ w.Return ∷ []
    else if a == 115 then w.Short ∷ w.Signed ∷ w.Sizeof ∷ w.Static ∷ w.Struct ∷ w.Switch ∷ []
    else if a == 116 then w.Typedef ∷ []
    else if a == 117 then w.Union ∷ w.Unsigned ∷ []
    else if a == 118 then w.Void ∷ w.Volatile ∷ []
    else if a == 119 then w.While ∷ []
    else if a == 95 then w.Bool ∷ w.Complex ∷ w.Imaginary ∷ []
    else []
