-- The loops: a turn more of each, and none. A turn is what the grammar's function of that name does with one more than it has left.
use Rattle.std.proofs.Common.{◌≡◌, ℕ, ◌+◌, ◌-◌, ◌<◌, ◌≤◌, List, [], ◌∷◌, ◌++◌, Ok, Err}
use Rattle.std.specs.Prelude.{if◌then◌else◌}
use Rattle.c_lexer.specs.Pieces.{Lexeme}
use Rattle.c_lexer.specs.declared.token.Punct.TheVariants as p
use Rattle.c_tree.specs.declared.statements.Stmt.{Stmt}
use Rattle.c_tree.specs.declared.statements.Section.{Section}
use Rattle.c_parser_grammar.specs.Statements.{locals_of}
use Rattle.c_parser_grammar.specs.Tokens.{TypeNames, is_mark, kind_at, token_tail, begins_type}
use Rattle.c_parser_grammar.specs.Parser.{Parser, and_then}
use Rattle.c_parser_grammar.specs.ParseStatements.{line, items_from, ends_section, stmts_from, section, sections_from}
use Rattle.c_parser_cursor.proofs.Loops.{turn, end}

pub items_turn : (s : TypeNames) (depth : ℕ) (stmt : Parser Stmt) (n at : ℕ) (found : List Stmt) (ts : List Lexeme) → at < n
    → items_from s depth stmt (n - at) found ts ≡ (if is_mark p.RightBrace (kind_at ts) then Ok (found, token_tail ts)
    else if begins_type s ts then and_then (line s depth ts) (λ xs. items_from s depth stmt (n - (at + 1)) (found ++ locals_of xs))
    else and_then (stmt ts) (λ x. items_from s depth stmt (n - (at + 1)) (found ++ x ∷ [])))
unfolding items_from
items_turn s depth stmt n at found ts = turn (λ m. items_from s depth stmt m found ts) n at

pub items_end : (s : TypeNames) (depth : ℕ) (stmt : Parser Stmt) (n at : ℕ) (found : List Stmt) (ts : List Lexeme) → n ≤ at → items_from s depth stmt (n - at) found ts ≡ Err ts
unfolding items_from
items_end s depth stmt n at found ts = end (λ m. items_from s depth stmt m found ts) n at

pub stmts_turn : (s : TypeNames) (depth : ℕ) (stmt : Parser Stmt) (n at : ℕ) (found : List Stmt) (ts : List Lexeme) → at < n
    → stmts_from s depth stmt (n - at) found ts ≡ (if ends_section ts then Ok (found, ts) else and_then (stmt ts) (λ x. stmts_from s depth stmt (n - (at + 1)) (found ++ x ∷ [])))
unfolding stmts_from
stmts_turn s depth stmt n at found ts = turn (λ m. stmts_from s depth stmt m found ts) n at

pub stmts_end : (s : TypeNames) (depth : ℕ) (stmt : Parser Stmt) (n at : ℕ) (found : List Stmt) (ts : List Lexeme) → n ≤ at → stmts_from s depth stmt (n - at) found ts ≡ Err ts
unfolding stmts_from
stmts_end s depth stmt n at found ts = end (λ m. stmts_from s depth stmt m found ts) n at

pub sections_turn : (s : TypeNames) (depth : ℕ) (stmt : Parser Stmt) (n at : ℕ) (found : List Section) (ts : List Lexeme) → at < n
    → sections_from s depth stmt (n - at) found ts ≡ (if is_mark p.RightBrace (kind_at ts) then Ok (found, token_tail ts) else and_then (section s depth stmt ts) (λ x. sections_from s depth stmt (n - (at + 1)) (found ++ x ∷ [])))
unfolding sections_from
sections_turn s depth stmt n at found ts = turn (λ m. sections_from s depth stmt m found ts) n at

pub sections_end : (s : TypeNames) (depth : ℕ) (stmt : Parser Stmt) (n at : ℕ) (found : List Section) (ts : List Lexeme) → n ≤ at → sections_from s depth stmt (n - at) found ts ≡ Err ts
unfolding sections_from
sections_end s depth stmt n at found ts = end (λ m. sections_from s depth stmt m found ts) n at
