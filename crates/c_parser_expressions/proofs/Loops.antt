-- The loops: a turn more of each, and none. A turn is what the grammar's function of that name does with one more than it has left.
use Rattle.std.proofs.Common.{◌≡◌, ℕ, suc, ◌+◌, ◌-◌, ◌<◌, ◌≤◌, Bool, true, false, List, [], ◌∷◌, ◌++◌, Some, None, Ok, Err, refl, sym, ap, ◌∙◌}
use Rattle.std.proofs.lemmas.Grind.{common_steps}
use Rattle.std.specs.Prelude.{if◌then◌else◌, nat_lt}
use Rattle.c_lexer.specs.Pieces.{Lexeme}
use Rattle.c_lexer.specs.declared.token.Punct.TheVariants as p
use Rattle.c_tree.specs.declared.expressions.Expr.{Expr}
use Rattle.c_parser_grammar.specs.declared.shapes.Shape.TheVariants as h
use Rattle.c_parser_grammar.specs.declared.shapes.Declarator.{Declarator}
use Rattle.c_parser_grammar.specs.declared.shapes.NameRequirement.{NameRequirement}
use Rattle.c_parser_grammar.specs.Classes.{infix_of}
use Rattle.c_parser_grammar.specs.Levels.{binding_level, operand_level, result_level}
use Rattle.c_parser_grammar.specs.Types.{with_shape, without_void}
use Rattle.c_parser_grammar.specs.Tokens.{TypeNames, is_mark, kind_at, token_tail}
use Rattle.c_parser_grammar.specs.Levels as levels
use Rattle.c_parser_grammar.specs.Parser.{ParseOutcome, Parser, and_then, ◌>>=◌, pure, expect}
use Rattle.c_parser_expressions.specs.model.Suffixes.{array_length}
use Rattle.c_parser_grammar.specs.ParseExpr.{list_from, climb, step_by, suffixes, length_behind, parameters_behind}
use Rattle.c_parser_cursor.proofs.Loops.{turn, end}

-- elements with commas between
pub list_turn : {A : Type 0} (item : Parser A) (n at : ℕ) (found : List A) (ts : List Lexeme) → at < n
    → list_from item (n - at) found ts ≡ and_then (item ts) (λ x r. if is_mark p.Comma (kind_at r) then list_from item (n - (at + 1)) (found ++ x ∷ []) (token_tail r) else Ok (found ++ x ∷ [], r))
unfolding list_from
list_turn item n at found ts = turn (λ m. list_from item m found ts) n at

pub list_end : {A : Type 0} (item : Parser A) (n at : ℕ) (found : List A) (ts : List Lexeme) → n ≤ at → list_from item (n - at) found ts ≡ Err ts
unfolding list_from
list_end item n at found ts = end (λ m. list_from item m found ts) n at

pub climb_turn : (s : TypeNames) (e : ℕ → Parser Expr) (d : NameRequirement → Parser Declarator) (place least n at level : ℕ) (left : Expr) (ts : List Lexeme) → at < n
    → climb s e d place least (n - at) level left ts ≡ (if nat_lt (binding_level (infix_of (kind_at ts))) least then Ok (left, ts)
    else if nat_lt level (operand_level (infix_of (kind_at ts))) then Err ts
    else and_then (step_by s e d (infix_of (kind_at ts)) place left (token_tail ts)) (climb s e d place least (n - (at + 1)) (result_level (infix_of (kind_at ts)))))
unfolding climb
climb_turn s e d place least n at level left ts = turn (λ m. climb s e d place least m level left ts) n at

pub climb_end : (s : TypeNames) (e : ℕ → Parser Expr) (d : NameRequirement → Parser Declarator) (place least n at level : ℕ) (left : Expr) (ts : List Lexeme) → n ≤ at
    → climb s e d place least (n - at) level left ts ≡ Ok (left, ts)
unfolding climb
climb_end s e d place least n at level left ts = end (λ m. climb s e d place least m level left ts) n at

pub ruleset climbing = (common_steps, climb_turn, climb_end)

-- one after another, from the left or from the right
pub then_then : {A B C : Type 0} (o : ParseOutcome A) (f : A → Parser B) (g : B → Parser C) → and_then o (λ a r. and_then (f a r) g) ≡ and_then (and_then o f) g
then_then (Ok p) f g = refl
then_then (Err r) f g = refl

-- the length of an array is read, and then the shape is put behind the others
length_by : (s : TypeNames) (e : ℕ → Parser Expr) (d : NameRequirement → Parser Declarator) (found : Declarator) (ts : List Lexeme)
    → length_behind s e d found ts ≡ and_then (array_length e ts) (λ x. pure (with_shape found (h.Array x)))
unfolding length_behind array_length
length_by s e d found ts = by_test (is_mark p.RightBracket (kind_at ts))
  where
    over : (o : ParseOutcome Expr) → and_then o (λ x. expect p.RightBracket >>= λ _. pure (with_shape found (h.Array (Some x))))
        ≡ and_then (and_then o (λ x. expect p.RightBracket >>= λ _. pure (Some x))) (λ x. pure (with_shape found (h.Array x)))
    over (Ok q) = then_then (expect p.RightBracket q.1) (λ _. pure (Some q.0)) (λ x. pure (with_shape found (h.Array x)))
    over (Err r) = refl

    by_test : (b : Bool) → (if b then Ok (with_shape found (h.Array None), token_tail ts) else and_then (e levels.conditional ts) (λ x. expect p.RightBracket >>= λ _. pure (with_shape found (h.Array (Some x)))))
        ≡ and_then (if b then Ok (None, token_tail ts) else and_then (e levels.conditional ts) (λ x. expect p.RightBracket >>= λ _. pure (Some x))) (λ x. pure (with_shape found (h.Array x)))
    by_test true = refl
    by_test false = over (e levels.conditional ts)

suffixes_more : (s : TypeNames) (e : ℕ → Parser Expr) (d : NameRequirement → Parser Declarator) (n : ℕ) (found : Declarator) (ts : List Lexeme)
    → suffixes s e d (suc n) found ts ≡ (if is_mark p.LeftBracket (kind_at ts) then and_then (array_length e (token_tail ts)) (λ x. suffixes s e d n (with_shape found (h.Array x)))
    else if is_mark p.LeftParen (kind_at ts) then and_then (parameters_behind s e d (token_tail ts)) (λ xs. suffixes s e d n (with_shape found (h.Takes (without_void xs))))
    else Ok (found, ts))
unfolding suffixes
suffixes_more s e d n found ts = ap (λ o. if is_mark p.LeftBracket (kind_at ts) then o else if is_mark p.LeftParen (kind_at ts) then and_then (parameters_behind s e d (token_tail ts)) (λ xs. suffixes s e d n (with_shape found (h.Takes (without_void xs)))) else Ok (found, ts))
    (ap (λ o. and_then o (suffixes s e d n)) (length_by s e d found (token_tail ts)) ∙ sym (then_then (array_length e (token_tail ts)) (λ x. pure (with_shape found (h.Array x))) (suffixes s e d n)))

pub suffixes_turn : (s : TypeNames) (e : ℕ → Parser Expr) (d : NameRequirement → Parser Declarator) (n at : ℕ) (found : Declarator) (ts : List Lexeme) → at < n
    → suffixes s e d (n - at) found ts ≡ (if is_mark p.LeftBracket (kind_at ts) then and_then (array_length e (token_tail ts)) (λ x. suffixes s e d (n - (at + 1)) (with_shape found (h.Array x)))
    else if is_mark p.LeftParen (kind_at ts) then and_then (parameters_behind s e d (token_tail ts)) (λ xs. suffixes s e d (n - (at + 1)) (with_shape found (h.Takes (without_void xs))))
    else Ok (found, ts))
suffixes_turn s e d n at found ts below = turn (λ m. suffixes s e d m found ts) n at below ∙ suffixes_more s e d (n - (at + 1)) found ts

pub suffixes_end : (s : TypeNames) (e : ℕ → Parser Expr) (d : NameRequirement → Parser Declarator) (n at : ℕ) (found : Declarator) (ts : List Lexeme) → n ≤ at
    → suffixes s e d (n - at) found ts ≡ Ok (found, ts)
unfolding suffixes
suffixes_end s e d n at found ts = end (λ m. suffixes s e d m found ts) n at
