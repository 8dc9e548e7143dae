-- The loops: a turn more of each, and none. A turn is what the grammar's function of that name does with one more than it has left.
use Rattle.std.proofs.Common.{◌≡◌, ℕ, ◌+◌, ◌-◌, ◌<◌, ◌≤◌, List, [], ◌∷◌, ◌++◌, Ok, Err}
use Rattle.std.specs.Prelude.{if◌then◌else◌}
use Rattle.c_lexer.specs.Pieces.{Lexeme}
use Rattle.c_lexer.specs.declared.token.Punct.TheVariants as p
use Rattle.c_tree.specs.declared.types.TypeNode.{TypeNode}
use Rattle.c_tree.specs.declared.types.Declaration.{Declaration}
use Rattle.c_parser_grammar.specs.declared.shapes.NameRequirement.TheVariants as nm
use Rattle.c_parser_grammar.specs.Types.{without_body}
use Rattle.c_parser_grammar.specs.Tokens.{TypeNames, is_mark, kind_at, token_tail}
use Rattle.c_parser_grammar.specs.Parser.{Parser, and_then}
use Rattle.c_parser_grammar.specs.ParseSpecifiers.{declaration, braced_list_from, declarators_from, struct_declaration, struct_declarations_from}
use Rattle.c_parser_cursor.proofs.Loops.{turn, end}

-- elements with commas between, and perhaps a comma before the brace that closes
pub braced_turn : {A : Type 0} (item : Parser A) (n at : ℕ) (found : List A) (ts : List Lexeme) → at < n
    → braced_list_from item (n - at) found ts ≡ and_then (item ts) (λ x r. if is_mark p.Comma (kind_at r) then (if is_mark p.RightBrace (kind_at (token_tail r)) then Ok (found ++ x ∷ [], token_tail r) else braced_list_from item (n - (at + 1)) (found ++ x ∷ []) (token_tail r)) else Ok (found ++ x ∷ [], r))
unfolding braced_list_from
braced_turn item n at found ts = turn (λ m. braced_list_from item m found ts) n at

pub braced_end : {A : Type 0} (item : Parser A) (n at : ℕ) (found : List A) (ts : List Lexeme) → n ≤ at → braced_list_from item (n - at) found ts ≡ Err ts
unfolding braced_list_from
braced_end item n at found ts = end (λ m. braced_list_from item m found ts) n at

pub declarators_turn : (s : TypeNames) (depth n at : ℕ) (ty : TypeNode) (found : List Declaration) (ts : List Lexeme) → at < n
    → declarators_from s depth (n - at) ty found ts ≡ and_then (declaration s depth nm.Member ty ts) (λ d r. if is_mark p.Comma (kind_at r) then declarators_from s depth (n - (at + 1)) (without_body ty) (found ++ d ∷ []) (token_tail r) else Ok (found ++ d ∷ [], r))
unfolding declarators_from
declarators_turn s depth n at ty found ts = turn (λ m. declarators_from s depth m ty found ts) n at

pub declarators_end : (s : TypeNames) (depth n at : ℕ) (ty : TypeNode) (found : List Declaration) (ts : List Lexeme) → n ≤ at
    → declarators_from s depth (n - at) ty found ts ≡ Err ts
unfolding declarators_from
declarators_end s depth n at ty found ts = end (λ m. declarators_from s depth m ty found ts) n at

pub members_turn : (s : TypeNames) (depth : ℕ) (specifier : Parser TypeNode) (n at : ℕ) (found : List Declaration) (ts : List Lexeme) → at < n
    → struct_declarations_from s depth specifier (n - at) found ts ≡ and_then (struct_declaration s depth specifier ts) (λ ds r. if is_mark p.RightBrace (kind_at r) then Ok (found ++ ds, r) else struct_declarations_from s depth specifier (n - (at + 1)) (found ++ ds) r)
unfolding struct_declarations_from
members_turn s depth specifier n at found ts = turn (λ m. struct_declarations_from s depth specifier m found ts) n at

pub members_end : (s : TypeNames) (depth : ℕ) (specifier : Parser TypeNode) (n at : ℕ) (found : List Declaration) (ts : List Lexeme) → n ≤ at
    → struct_declarations_from s depth specifier (n - at) found ts ≡ Err ts
unfolding struct_declarations_from
members_end s depth specifier n at found ts = end (λ m. struct_declarations_from s depth specifier m found ts) n at
