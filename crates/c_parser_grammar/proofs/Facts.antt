-- What the classes of tokens rule out.
use Rattle.std.proofs.Common.{◌≡◌, ℕ, ◌≤◌, ◌<◌, Bool, true, false, List, ◌∷◌, refl, sym, ap, ◌∙◌, subst, arith}
use Rattle.c_lexer.specs.declared.token.TokenKind.{TokenKind}
use Rattle.c_lexer.specs.declared.token.TokenKind.TheVariants as k
use Rattle.c_lexer.specs.declared.token.Keyword.TheVariants as w
use Rattle.c_lexer.specs.declared.token.Punct.{Punct}
use Rattle.c_lexer.specs.declared.token.Punct.TheVariants as p
use Rattle.c_lexer.specs.Pieces.{Lexeme}
use Rattle.c_tree.specs.declared.expressions.BinaryOp.{BinaryOp}
use Rattle.c_tree.specs.declared.expressions.BinaryOp.TheVariants as b
use Rattle.c_parser_grammar.specs.declared.classes.Infix.{Infix}
use Rattle.c_parser_grammar.specs.declared.classes.Infix.TheVariants as i
use Rattle.c_parser_grammar.specs.Classes.{infix_of, prefix_of, specifier_of, begins_type_by}
use Rattle.c_parser_grammar.specs.Levels.{level_of, binding_level}
use Rattle.c_parser_grammar.specs.Tokens.{TypeNames, is_mark, is_text, kind_at, is_type_at, begins_type}
use Rattle.c_parser_grammar.specs.model.Begins.{begins, begins_by}
use Rattle.c_parser_grammar.proofs.Outcomes.{no_true, fails, mark_is, text_is}

abbrev pub infix_at : List Lexeme → Infix
infix_at ts = infix_of (kind_at ts)

pub levels : (op : BinaryOp) → (6 ≤ level_of op) × (level_of op ≤ 15)
levels b.LogicalOr = (omega arith, omega arith)
levels b.LogicalAnd = (omega arith, omega arith)
levels b.Or = (omega arith, omega arith)
levels b.Xor = (omega arith, omega arith)
levels b.And = (omega arith, omega arith)
levels b.Equal = (omega arith, omega arith)
levels b.NotEqual = (omega arith, omega arith)
levels b.Less = (omega arith, omega arith)
levels b.Greater = (omega arith, omega arith)
levels b.LessEqual = (omega arith, omega arith)
levels b.GreaterEqual = (omega arith, omega arith)
levels b.ShiftLeft = (omega arith, omega arith)
levels b.ShiftRight = (omega arith, omega arith)
levels b.Add = (omega arith, omega arith)
levels b.Subtract = (omega arith, omega arith)
levels b.Multiply = (omega arith, omega arith)
levels b.Divide = (omega arith, omega arith)
levels b.Remainder = (omega arith, omega arith)

-- no token binds between the binary operators and the postfix forms
pub gap : (x : Infix) → binding_level x ≤ 17 → binding_level x < 16
gap i.Comma h = omega arith
gap (i.Assign op) h = omega arith
gap i.Conditional h = omega arith
gap (i.Binary op) h = let l = levels op in omega arith
gap i.Index h = absurd (omega arith)
gap i.Field h = absurd (omega arith)
gap i.Arrow h = absurd (omega arith)
gap (i.Step op) h = absurd (omega arith)
gap i.Tight h = absurd (omega arith)
gap i.Nothing h = omega arith

-- none binds at the level of assignments or of conditional expressions
pub no_two : (x : Infix) → binding_level x ≤ 2 → binding_level x < 2
no_two i.Comma h = omega arith
no_two (i.Assign op) h = absurd (omega arith)
no_two i.Conditional h = absurd (omega arith)
no_two (i.Binary op) h = let l = levels op in absurd (omega arith)
no_two i.Index h = absurd (omega arith)
no_two i.Field h = absurd (omega arith)
no_two i.Arrow h = absurd (omega arith)
no_two (i.Step op) h = absurd (omega arith)
no_two i.Tight h = absurd (omega arith)
no_two i.Nothing h = omega arith

pub no_four : (x : Infix) → binding_level x ≤ 4 → binding_level x < 4
no_four i.Comma h = omega arith
no_four (i.Assign op) h = omega arith
no_four i.Conditional h = absurd (omega arith)
no_four (i.Binary op) h = let l = levels op in absurd (omega arith)
no_four i.Index h = absurd (omega arith)
no_four i.Field h = absurd (omega arith)
no_four i.Arrow h = absurd (omega arith)
no_four (i.Step op) h = absurd (omega arith)
no_four i.Tight h = absurd (omega arith)
no_four i.Nothing h = omega arith

-- a mark that is not here
pub not_mark : (m : Punct) (kind : TokenKind) → (kind ≡ k.Mark m → ⊥) → is_mark m kind ≡ false
not_mark m kind f = fails (is_mark m kind) (λ e. f (mark_is m kind e))

pub no_tight : (kind : TokenKind) → binding_level (infix_of kind) ≤ 19 → (is_mark p.LeftParen kind ≡ false) × (is_text kind ≡ false)
no_tight kind h = (
  not_mark p.LeftParen kind (λ e. let P : TokenKind → Type 0 = λ x. binding_level (infix_of x) ≤ 19 in let no : 20 ≤ 19 = subst P e h in omega arith),
  fails (is_text kind) (λ e. let P : TokenKind → Type 0 = λ x. binding_level (infix_of x) ≤ 19 in let no : 20 ≤ 19 = subst P (text_is kind e) h in omega arith),
)

-- the comma does not stand where nothing binds
pub no_comma : (kind : TokenKind) → binding_level (infix_of kind) < 1 → is_mark p.Comma kind ≡ false
no_comma kind h = not_mark p.Comma kind (λ e. let P : TokenKind → Type 0 = λ x. binding_level (infix_of x) < 1 in let no : 1 < 1 = subst P e h in omega arith)

-- what binds behind a mark
pub weak : (t : Lexeme) (r : List Lexeme) (m : Punct) (n : ℕ) → t.kind ≡ k.Mark m → binding_level (infix_of (k.Mark m)) < n → binding_level (infix_at (t ∷ r)) < n
weak t r m n e h = let P : TokenKind → Type 0 = λ x. binding_level (infix_of x) < n in subst P (sym e) h

-- where an expression begins, no type does
no_type_by : (kind : TokenKind) (listed : Bool) → begins_by (prefix_of kind) listed ≡ true → begins_type_by (specifier_of kind) listed ≡ false
no_type_by k.Name true e = no_true e
no_type_by k.Name false e = refl
no_type_by k.Number listed e = refl
no_type_by k.Char listed e = refl
no_type_by k.Text listed e = refl
no_type_by (k.Word w.Sizeof) listed e = refl
no_type_by (k.Word _) listed e = no_true e
no_type_by (k.Mark m) listed e = refl
no_type_by k.End listed e = no_true e

pub no_type : (s : TypeNames) (ts : List Lexeme) → begins s ts ≡ true → begins_type s ts ≡ false
no_type s ts e = no_type_by (kind_at ts) (is_type_at s ts) e

-- nor a mark or word with which none begins
pub begins_no_mark : (s : TypeNames) (ts : List Lexeme) (m : Punct) → begins_by (prefix_of (k.Mark m)) (is_type_at s ts) ≡ false → begins s ts ≡ true → is_mark m (kind_at ts) ≡ false
begins_no_mark s ts m h e = not_mark m (kind_at ts) (λ q. no_true (sym h ∙ ap (λ x. begins_by (prefix_of x) (is_type_at s ts)) (sym q) ∙ e))

pub type_no_mark : (s : TypeNames) (ts : List Lexeme) (m : Punct) → begins_type s ts ≡ true → is_mark m (kind_at ts) ≡ false
type_no_mark s ts m e = not_mark m (kind_at ts) (λ q. no_true (ap (λ x. begins_type_by (specifier_of x) (is_type_at s ts)) (sym q) ∙ e))
