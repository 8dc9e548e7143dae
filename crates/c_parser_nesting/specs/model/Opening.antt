-- The open constructs of a walk over the tokens, which keeps them on a stack.
use Rattle.std.specs.Prelude.{List, [], ◌∷◌, Option, Some, None, reverse}
use Rattle.c_lexer.specs.declared.token.Token.{Token}
use Rattle.c_lexer.specs.declared.token.TokenKind.{TokenKind}
use Rattle.c_lexer.specs.declared.token.TokenKind.TheVariants as k
use Rattle.c_parser_nesting.specs.declared.open.Construct.{Construct}
use Rattle.c_parser_nesting.specs.declared.open.OpenWalk.{OpenWalk}

-- innermost first
abbrev pub open_of : OpenWalk → List Construct
open_of walk = reverse walk.opened.items

abbrev pub head : List Construct → Option Construct
head [] = None
head (x ∷ opened) = Some x

abbrev pub tail : List Construct → List Construct
tail [] = []
tail (x ∷ opened) = opened

-- ---- the tokens that are left

abbrev pub first : List Token → Option TokenKind
first [] = None
first (t ∷ ts) = Some t.kind

abbrev pub first_kind : List Token → TokenKind
first_kind [] = k.End
first_kind (t ∷ ts) = t.kind

abbrev pub behind_first : List Token → List Token
behind_first [] = []
behind_first (t ∷ ts) = ts
