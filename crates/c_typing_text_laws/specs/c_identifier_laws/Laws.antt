-- What is read as a name is an identifier.
use Rattle.std.specs.Prelude.{◌≡◌, ℕ, List, All}
use Rattle.c_lexer.specs.declared.token.TokenKind.TheVariants as k
use Rattle.c_lexer.specs.Pieces.{Toks, Tokens}
use Rattle.c_tree.specs.declared.declarations.TranslationUnit.{TranslationUnit}
use Rattle.c_parser.specs.Reading.{IsRead}
use Rattle.c_typing_text_laws.specs.c_identifier_laws.Identifiers.{IsIdentifier, HasIdentifier}

-- each name among the tokens of a text
abbrev pub NameTokensAreIdentifiers : Type 0
NameTokensAreIdentifiers =
    (text : List ℕ) (toks : Toks) → Tokens text toks → All (λ t. t.kind ≡ k.Name → IsIdentifier t.spelling) toks.items

-- each name that the tree of a text declares at file scope
abbrev pub DeclaredNamesAreIdentifiers : Type 0
DeclaredNamesAreIdentifiers =
    (text : List ℕ) (tree : TranslationUnit) → IsRead text tree → All HasIdentifier tree.externals
