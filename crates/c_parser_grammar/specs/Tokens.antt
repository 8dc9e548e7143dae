-- Tokens with their spellings, and the names of types so far.
use Rattle.std.specs.Prelude.{ℕ, Bool, true, false, List, [], ◌∷◌, bytes_eq}
use Rattle.std.specs.List.{list_any}
use denote.Enum.Bare.{sameb}
use Rattle.c_lexer.specs.contracts.token.Keyword as keyword
use Rattle.c_lexer.specs.contracts.token.Punct as punct
use Rattle.c_lexer.specs.declared.token.TokenKind.{TokenKind}
use Rattle.c_lexer.specs.declared.token.TokenKind.TheVariants as k
use Rattle.c_lexer.specs.declared.token.Keyword.{Keyword}
use Rattle.c_lexer.specs.declared.token.Punct.{Punct}
use Rattle.c_lexer.specs.Pieces.{Lexeme}
use Rattle.c_parser_grammar.specs.Classes.{specifier_of, begins_type_by}

-- The names that `typedef` has made so far.
abbrev pub TypeNames : Type 0
TypeNames = List (List ℕ)

-- whether a name is that of a type
unfoldable pub is_type_name : TypeNames → List ℕ → Bool
is_type_name s name = list_any (λ x. bytes_eq x name) s

abbrev pub is_type : TypeNames → Lexeme → Bool
is_type s t = is_type_name s t.spelling

-- where the first of the tokens stands
abbrev pub token_place : List Lexeme → ℕ
token_place [] = 0
token_place (t ∷ ts) = t.at

abbrev pub is_mark : Punct → TokenKind → Bool
is_mark p (k.Mark q) = sameb punct.the_type q p
is_mark p _ = false

abbrev pub is_keyword : Keyword → TokenKind → Bool
is_keyword w (k.Word v) = sameb keyword.the_type v w
is_keyword w _ = false

abbrev pub is_name_token : TokenKind → Bool
is_name_token k.Name = true
is_name_token _ = false

abbrev pub is_text : TokenKind → Bool
is_text k.Text = true
is_text _ = false

-- the kind of the first token, or the end
abbrev pub kind_at : List Lexeme → TokenKind
kind_at [] = k.End
kind_at (t ∷ ts) = t.kind

abbrev pub spelling_at : List Lexeme → List ℕ
spelling_at [] = []
spelling_at (t ∷ ts) = t.spelling

abbrev pub token_tail : List Lexeme → List Lexeme
token_tail [] = []
token_tail (t ∷ ts) = ts

abbrev pub is_type_at : TypeNames → List Lexeme → Bool
is_type_at s ts = is_type_name s (spelling_at ts)

-- whether a type begins here
abbrev pub begins_type : TypeNames → List Lexeme → Bool
begins_type s ts = begins_type_by (specifier_of (kind_at ts)) (is_type_at s ts)
