-- The keywords (C99 6.4.1).
use Rattle.std.specs.Prelude.{ℕ, List, [], ◌∷◌, Option, Some, None, codes, find}
use Rattle.std.specs.Str.{bytes_eq}
use Rattle.c_lexer.specs.declared.token.Keyword.{Keyword}
use Rattle.c_lexer.specs.declared.token.Keyword.TheVariants as w
use Rattle.c_lexer.specs.declared.token.TokenKind.{TokenKind}
use Rattle.c_lexer.specs.declared.token.TokenKind.TheVariants as k

-- how a keyword is spelled
unfoldable pub spelling : Keyword → List ℕ
spelling w.Auto = codes "auto"
spelling w.Break = codes "break"
spelling w.Case = codes "case"
spelling w.Char = codes "char"
spelling w.Const = codes "const"
spelling w.Continue = codes "continue"
spelling w.Default = codes "default"
spelling w.Do = codes "do"
spelling w.Double = codes "double"
spelling w.Else = codes "else"
spelling w.Enum = codes "enum"
spelling w.Extern = codes "extern"
spelling w.Float = codes "float"
spelling w.For = codes "for"
spelling w.Goto = codes "goto"
spelling w.If = codes "if"
spelling w.Inline = codes "inline"
spelling w.Int = codes "int"
spelling w.Long = codes "long"
spelling w.Register = codes "register"
spelling w.Restrict = codes "restrict"
spelling w.Return = codes "return"
spelling w.Short = codes "short"
spelling w.Signed = codes "signed"
spelling w.Sizeof = codes "sizeof"
spelling w.Static = codes "static"
spelling w.Struct = codes "struct"
spelling w.Switch = codes "switch"
spelling w.Typedef = codes "typedef"
spelling w.Union = codes "union"
spelling w.Unsigned = codes "unsigned"
spelling w.Void = codes "void"
spelling w.Volatile = codes "volatile"
spelling w.While = codes "while"
spelling w.Bool = codes "_Bool"
spelling w.Complex = codes "_Complex"
spelling w.Imaginary = codes "_Imaginary"

-- all of them
unfoldable pub keywords : List Keyword
keywords = w.Auto ∷ w.Break ∷ w.Case ∷ w.Char ∷ w.Const ∷ w.Continue ∷ w.Default ∷ w.Do ∷
    w.Double ∷ w.Else ∷ w.Enum ∷ w.Extern ∷ w.Float ∷ w.For ∷ w.Goto ∷ w.If ∷
    w.Inline ∷ w.Int ∷ w.Long ∷ w.Register ∷ w.Restrict ∷ w.Return ∷ w.Short ∷ w.Signed ∷
    w.Sizeof ∷ w.Static ∷ w.Struct ∷ w.Switch ∷ w.Typedef ∷ w.Union ∷ w.Unsigned ∷ w.Void ∷
    w.Volatile ∷ w.While ∷ w.Bool ∷ w.Complex ∷ w.Imaginary ∷ []

-- the keyword that these bytes spell
unfoldable pub keyword_of : List ℕ → Option Keyword
keyword_of s = find (λ word. bytes_eq s (spelling word)) keywords

-- what a name is: a keyword, if it is spelled as one
abbrev pub kind_by : Option Keyword → TokenKind
kind_by None = k.Name
kind_by (Some word) = k.Word word

abbrev pub kind_of_word : List ℕ → TokenKind
kind_of_word s = kind_by (keyword_of s)
