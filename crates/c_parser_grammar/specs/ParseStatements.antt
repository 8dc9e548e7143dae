-- How statements are read.
use Rattle.std.specs.Prelude.{ℕ, zero, suc, Bool, if◌then◌else◌, ◌||◌, List, [], ◌∷◌, ◌++◌, length, Option, Some, None, Ok, Err}
use Rattle.c_lexer.specs.declared.token.Keyword.TheVariants as w
use Rattle.c_lexer.specs.declared.token.Punct.TheVariants as p
use Rattle.c_lexer.specs.Pieces.{Lexeme}
use Rattle.c_tree.specs.declared.expressions.Expr.{Expr}
use Rattle.c_tree.specs.declared.types.TypeNode.{TypeNode}
use Rattle.c_tree.specs.declared.types.Declaration.{Declaration}
use Rattle.c_lexer.specs.declared.token.Punct.{Punct}
use Rattle.c_tree.specs.declared.statements.Stmt.{Stmt}
use Rattle.c_tree.specs.declared.statements.Stmt as u
use Rattle.c_tree.specs.declared.statements.LocalDeclarator.{LocalDeclarator}
use Rattle.c_tree.specs.declared.statements.Section.{Section}
use Rattle.c_tree.specs.declared.statements.Label.{Label}
use Rattle.c_tree.specs.declared.statements.Label.TheVariants as l
use Rattle.c_tree.specs.declared.statements.ForFirst.{ForFirst}
use Rattle.c_tree.specs.declared.statements.ForFirst.TheVariants as f
use Rattle.c_parser_grammar.specs.declared.classes.Head.{Head}
use Rattle.c_parser_grammar.specs.declared.classes.Head.TheVariants as h
use Rattle.c_parser_grammar.specs.declared.shapes.NameRequirement.TheVariants as nm
use Rattle.c_parser_grammar.specs.Classes.{head_of}
use Rattle.c_parser_grammar.specs.Levels as levels
use Rattle.c_parser_grammar.specs.Tokens.{TypeNames, token_place, is_mark, is_keyword, kind_at, token_tail, begins_type}
use Rattle.c_parser_grammar.specs.Statements.{locals_of}
use Rattle.c_parser_grammar.specs.Parser.{Parser, and_then, ◌>>=◌, pure, expect, expect_word}
use Rattle.c_parser_grammar.specs.ParseExpr.{plain, list_from, whole, expr, declarator}
use Rattle.c_parser_grammar.specs.ParseSpecifiers.{declaration}

-- whether the statements under a label end here
abbrev pub ends_section : List Lexeme → Bool
ends_section ts =
    is_mark p.RightBrace (kind_at ts) || (is_keyword w.Case (kind_at ts) || is_keyword w.Default (kind_at ts))

module _ (s : TypeNames) (n : ℕ) where
  -- an expression with its commas
  abbrev pub expression : Parser Expr
  expression = whole s (expr s n) (declarator s n)

  abbrev pub local_by : Declaration → Parser LocalDeclarator
  local_by d ts =
      if is_mark p.Assign (kind_at ts) then and_then (expr s n levels.assignment (token_tail ts))
      (λ x. pure (record { declaration = d; init = Some x }))
      else Ok (record { declaration = d; init = None }, ts)

  unfoldable pub local_declarator : TypeNode → Parser LocalDeclarator
  local_declarator ty ts = and_then (declaration s n nm.Required ty ts) local_by

  unfoldable pub line : Parser (List LocalDeclarator)
  line ts =
      and_then (plain s ts) (λ ty r. and_then (list_from (local_declarator ty) (length r) [] r)
      (λ xs. expect p.Semicolon >>= λ _. pure xs))

  -- an expression that is missing where this mark stands
  unfoldable pub optional_expression : Punct → Parser (Option Expr)
  optional_expression mark ts = if is_mark mark (kind_at ts) then Ok (None, ts) else and_then (expression ts)
      (λ x. pure (Some x))

  unfoldable pub controlling_expression : Parser Expr
  controlling_expression ts = and_then (expect p.LeftParen ts)
      (λ _. expression >>= λ x. expect p.RightParen >>= λ _. pure x)

  unfoldable pub first_expression : Parser ForFirst
  first_expression ts = and_then (expression ts) (λ x. expect p.Semicolon >>= λ _. pure (f.Value x))

  unfoldable pub first_clause : Parser ForFirst
  first_clause ts = if is_mark p.Semicolon (kind_at ts) then Ok (f.Nothing, token_tail ts)
      else if begins_type s ts then and_then (line ts) (λ xs. pure (f.Locals xs)) else first_expression ts

  unfoldable pub case_behind : ℕ → Parser Label
  case_behind at ts = and_then (expr s n levels.conditional ts) (λ x. expect p.Colon >>= λ _. pure (l.Case at x))

  unfoldable pub label : Parser Label
  label ts = if is_keyword w.Case (kind_at ts) then case_behind (token_place ts) (token_tail ts)
      else and_then (expect_word w.Default ts) (λ _. expect p.Colon >>= λ _. pure (l.Default (token_place ts)))

  -- behind `return_behind`
  unfoldable pub return_behind : ℕ → Parser Stmt
  return_behind at ts = and_then (optional_expression p.Semicolon ts)
      (λ x. expect p.Semicolon >>= λ _. pure (u.Return at x))

  unfoldable pub value_line : Parser Stmt
  value_line ts = and_then (expression ts) (λ x. expect p.Semicolon >>= λ _. pure (u.Expression x))

  -- over statements that are read a level below
  module _ (stmt : Parser Stmt) where
    -- what stands in a block, and the brace that closes it
    unfoldable pub items_from : ℕ → List Stmt → Parser (List Stmt)
    items_from zero found ts = Err ts
    items_from (suc j) found ts = if is_mark p.RightBrace (kind_at ts) then Ok (found, token_tail ts)
        else if begins_type s ts then and_then (line ts) (λ xs. items_from j (found ++ locals_of xs))
        else and_then (stmt ts) (λ x. items_from j (found ++ x ∷ []))

    unfoldable pub stmts_from : ℕ → List Stmt → Parser (List Stmt)
    stmts_from zero found ts = Err ts
    stmts_from (suc j) found ts =
        if ends_section ts then Ok (found, ts) else and_then (stmt ts) (λ x. stmts_from j (found ++ x ∷ []))

    unfoldable pub section : Parser Section
    section ts =
        and_then (label ts) (λ x r. and_then (stmts_from (length r) [] r)
        (λ ys. pure (record { label = x; statements = ys })))

    unfoldable pub sections_from : ℕ → List Section → Parser (List Section)
    sections_from zero found ts = Err ts
    sections_from (suc j) found ts =
        if is_mark p.RightBrace (kind_at ts) then Ok (found, token_tail ts) else and_then (section ts)
        (λ x. sections_from j (found ++ x ∷ []))

    -- behind the first branch
    unfoldable pub alternative : Expr → Stmt → Parser Stmt
    alternative x v ts =
        if is_keyword w.Else (kind_at ts) then and_then (stmt (token_tail ts)) (λ z. pure (u.If x v (Some z)))
        else Ok (u.If x v None, ts)

    unfoldable pub if_behind : Parser Stmt
    if_behind ts = and_then (controlling_expression ts) (λ x. stmt >>= λ v. alternative x v)

    unfoldable pub while_behind : Parser Stmt
    while_behind ts = and_then (controlling_expression ts) (λ x. stmt >>= λ v. pure (u.While x v))

    unfoldable pub do_behind : Parser Stmt
    do_behind ts =
        and_then (stmt ts) (λ v. expect_word w.While >>= λ _. controlling_expression >>= λ x. expect p.Semicolon
        >>= λ _. pure (u.Do v x))

    unfoldable pub for_behind : Parser Stmt
    for_behind ts =
        and_then (expect p.LeftParen ts) (λ _. first_clause >>= λ x. optional_expression p.Semicolon
        >>= λ y. expect p.Semicolon >>= λ _. optional_expression p.RightParen
        >>= λ z. expect p.RightParen >>= λ _. stmt >>= λ v. pure (u.For x y z v))

    unfoldable pub switch_behind : Parser Stmt
    switch_behind ts =
        and_then (controlling_expression ts) (λ x. expect p.LeftBrace
        >>= λ _ r. and_then (sections_from (length r) [] r)
        (λ xs. pure (u.Switch x xs)))

    abbrev pub stmt_by : Head → Parser Stmt
    stmt_by h.Block ts = and_then (items_from (length (token_tail ts)) [] (token_tail ts)) (λ xs. pure (u.Block xs))
    stmt_by h.Empty ts = Ok (u.Empty, token_tail ts)
    stmt_by h.If ts = if_behind (token_tail ts)
    stmt_by h.While ts = while_behind (token_tail ts)
    stmt_by h.Do ts = do_behind (token_tail ts)
    stmt_by h.For ts = for_behind (token_tail ts)
    stmt_by h.Switch ts = switch_behind (token_tail ts)
    stmt_by h.Break ts = and_then (expect p.Semicolon (token_tail ts)) (λ _. pure (u.Break (token_place ts)))
    stmt_by h.Continue ts = and_then (expect p.Semicolon (token_tail ts)) (λ _. pure (u.Continue (token_place ts)))
    stmt_by h.Return ts = return_behind (token_place ts) (token_tail ts)
    stmt_by h.Other ts = value_line ts

unfoldable pub stmt : TypeNames → ℕ → Parser Stmt
stmt s zero ts = Err ts
stmt s (suc n) ts = stmt_by s (suc n) (stmt s n) (head_of (kind_at ts)) ts
