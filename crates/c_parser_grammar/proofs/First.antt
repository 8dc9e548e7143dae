-- What expressions begin with.
use Rattle.std.proofs.Common.{◌≡◌, ℕ, ◌≤◌, ◌<◌, Bool, true, false, not, List, [], ◌∷◌, ◌++◌, length, refl, sym, ap, ◌∙◌, subst, append_assoc, length-append, arith}
use Rattle.c_lexer.specs.declared.token.TokenKind.{TokenKind}
use Rattle.c_lexer.specs.declared.token.TokenKind.TheVariants as k
use Rattle.c_lexer.specs.declared.token.Keyword.TheVariants as w
use Rattle.c_lexer.specs.declared.token.Punct.TheVariants as p
use Rattle.c_lexer.specs.Pieces.{Lexeme}
use Rattle.c_tree.specs.declared.expressions.Expr.{Expr}
use Rattle.c_parser_grammar.specs.declared.classes.Prefix.{Prefix}
use Rattle.c_parser_grammar.specs.declared.classes.Prefix.TheVariants as f
use Rattle.c_parser_grammar.specs.Classes.{prefix_of}
use Rattle.c_parser_grammar.specs.Tokens.{TypeNames, is_type, is_mark, kind_at, token_tail, is_type_at, begins_type}
use Rattle.c_parser_grammar.specs.model.Begins.{begins, begins_by}
use Rattle.c_parser_grammar.specs.Grammar.{AreTexts, IsExpr, IsWhole, AreAssignments}
use Rattle.c_parser_grammar.proofs.Outcomes.{no_true, mark_is}
use Rattle.c_parser_grammar.proofs.Facts.{levels, no_type}

abbrev pub Begins : TypeNames → List Lexeme → Type 0
Begins s a = (0 < length a) × ((r : List Lexeme) → begins s (a ++ r) ≡ true)

class_begins : (s : TypeNames) (t : Lexeme) (class : Prefix) (a : List Lexeme) → prefix_of t.kind ≡ class → ((listed : Bool) → begins_by class listed ≡ true) → Begins s (t ∷ a)
class_begins s t class a e h = (omega arith, λ r. ap (λ cl. begins_by cl (is_type s t)) e ∙ h (is_type s t))

grows : (s : TypeNames) (a b : List Lexeme) → Begins s a → Begins s (a ++ b)
grows s a b h = (omega (arith, length-append a b, h.0), λ r. ap (begins s) (append_assoc a b r) ∙ h.1 (b ++ r))

name_begins : (s : TypeNames) (t : Lexeme) (a : List Lexeme) → t.kind ≡ k.Name → is_type s t ≡ false → Begins s (t ∷ a)
name_begins s t a kind listed = (omega arith, λ r. ap (λ kd. begins_by (prefix_of kd) (is_type s t)) kind ∙ ap not listed)

pub texts_first : (s : TypeNames) {a : List Lexeme} {xs : List (List ℕ)} → AreTexts a xs → (0 < length a) × ((r : List Lexeme) → kind_at (a ++ r) ≡ k.Text)
texts_first s (AreTexts.one t kind) = (omega arith, λ r. kind)
texts_first s (AreTexts.more t a xs kind h) = (omega arith, λ r. kind)

texts_begin : (s : TypeNames) (a : List Lexeme) → (0 < length a) × ((r : List Lexeme) → kind_at (a ++ r) ≡ k.Text) → Begins s a
texts_begin s a h = (h.0, λ r. ap (λ kd. begins_by (prefix_of kd) (is_type_at s (a ++ r))) (h.1 r))

pub first : (s : TypeNames) {m : ℕ} {a : List Lexeme} {x : Expr} → IsExpr s m a x → Begins s a
first s (IsExpr.name t low kind listed) = name_begins s t [] kind listed
first s (IsExpr.number t low kind) = class_begins s t f.Number [] (ap prefix_of kind) (λ _. refl)
first s (IsExpr.character t low kind) = class_begins s t f.Character [] (ap prefix_of kind) (λ _. refl)
first s (IsExpr.texts a xs low h) = texts_begin s a (texts_first s h)
first s (IsExpr.brackets l a r x low lk h rk) = class_begins s l f.Bracket (a ++ r ∷ []) (ap prefix_of lk) (λ _. refl)
first s (IsExpr.call t l a r xs low kind listed lk h rk) = name_begins s t (l ∷ a ++ r ∷ []) kind listed
first s (IsExpr.index a l b r x z low h lk g rk) = grows s a (l ∷ b ++ r ∷ []) (first s h)
first s (IsExpr.field a t n x low h tk nk) = grows s a (t ∷ n ∷ []) (first s h)
first s (IsExpr.arrow a t n x low h tk nk) = grows s a (t ∷ n ∷ []) (first s h)
first s (IsExpr.postfix a t op x low h kind) = grows s a (t ∷ []) (first s h)
first s (IsExpr.prefix_step t a op x low kind h) = class_begins s t (f.Step op) a kind (λ _. refl)
first s (IsExpr.unary t a op x low kind h) = class_begins s t (f.Unary op) a kind (λ _. refl)
first s (IsExpr.size_of t a x low kind h) = class_begins s t f.SizeOf a (ap prefix_of kind) (λ _. refl)
first s (IsExpr.size_of_type t l a r ty low kind lk h rk) = class_begins s t f.SizeOf (l ∷ a ++ r ∷ []) (ap prefix_of kind) (λ _. refl)
first s (IsExpr.cast l a r b ty x low lk h rk g) = class_begins s l f.Bracket (a ++ r ∷ b) (ap prefix_of lk) (λ _. refl)
first s (IsExpr.binary a t b op x z low kind h g) = grows s a (t ∷ b) (first s h)
first s (IsExpr.conditional a t b r d x v z low h tk g rk k) = grows s a (t ∷ b ++ r ∷ d) (first s h)
first s (IsExpr.assignment a t b op x z low h kind g) = grows s a (t ∷ b) (first s h)

pub first_listed : (s : TypeNames) {a : List Lexeme} {xs : List Expr} → AreAssignments s a xs → Begins s a
first_listed s (AreAssignments.one a x h) = first s h
first_listed s (AreAssignments.more a t b x xs h kind g) = grows s a (t ∷ b) (first s h)

pub first_whole : (s : TypeNames) {a : List Lexeme} {x : Expr} → IsWhole s a x → Begins s a
first_whole s (IsWhole.commas a xs h) = first_listed s h

-- a bracket before a unary expression holds no type
abbrev pub NoCast : TypeNames → List Lexeme → Type 0
NoCast s ts = is_mark p.LeftParen (kind_at ts) ≡ true → begins_type s (token_tail ts) ≡ false

other : (s : TypeNames) (ts : List Lexeme) (kind : TokenKind) → kind_at ts ≡ kind → is_mark p.LeftParen kind ≡ false → NoCast s ts
other s ts kind e h q = no_true (sym h ∙ ap (is_mark p.LeftParen) (sym e) ∙ q)

class_other : (s : TypeNames) (t : Lexeme) (a r : List Lexeme) (class : Prefix) → prefix_of t.kind ≡ class → (class ≡ f.Bracket → ⊥) → NoCast s (t ∷ a ++ r)
class_other s t a r class e h q = absurd (h (sym e ∙ ap prefix_of (mark_is p.LeftParen t.kind q)))

pub no_cast : (s : TypeNames) {m : ℕ} {a : List Lexeme} {x : Expr} → IsExpr s m a x → 17 ≤ m → (r : List Lexeme) → NoCast s (a ++ r)
no_cast s (IsExpr.name t low kind listed) le u = other s (t ∷ u) k.Name kind refl
no_cast s (IsExpr.number t low kind) le u = other s (t ∷ u) k.Number kind refl
no_cast s (IsExpr.character t low kind) le u = other s (t ∷ u) k.Char kind refl
no_cast s (IsExpr.texts a xs low h) le u = other s (a ++ u) k.Text ((texts_first s h).1 u) refl
no_cast s (IsExpr.brackets l a r x low lk h rk) le u = λ q. ap (begins_type s) (append_assoc a (r ∷ []) u) ∙ no_type s (a ++ r ∷ u) ((first_whole s h).1 (r ∷ u))
no_cast s (IsExpr.call t l a r xs low kind listed lk h rk) le u = other s ((t ∷ l ∷ a ++ r ∷ []) ++ u) k.Name kind refl
no_cast s (IsExpr.index a l b r x z low h lk g rk) le u = subst (NoCast s) (sym (append_assoc a (l ∷ b ++ r ∷ []) u)) (no_cast s h (omega arith) ((l ∷ b ++ r ∷ []) ++ u))
no_cast s (IsExpr.field a t n x low h tk nk) le u = subst (NoCast s) (sym (append_assoc a (t ∷ n ∷ []) u)) (no_cast s h (omega arith) (t ∷ n ∷ u))
no_cast s (IsExpr.arrow a t n x low h tk nk) le u = subst (NoCast s) (sym (append_assoc a (t ∷ n ∷ []) u)) (no_cast s h (omega arith) (t ∷ n ∷ u))
no_cast s (IsExpr.postfix a t op x low h kind) le u = subst (NoCast s) (sym (append_assoc a (t ∷ []) u)) (no_cast s h (omega arith) (t ∷ u))
no_cast s (IsExpr.prefix_step t a op x low kind h) le u = class_other s t a u (f.Step op) kind (λ e. cc)
no_cast s (IsExpr.unary t a op x low kind h) le u = class_other s t a u (f.Unary op) kind (λ e. cc)
no_cast s (IsExpr.size_of t a x low kind h) le u = other s (t ∷ a ++ u) (k.Word w.Sizeof) kind refl
no_cast s (IsExpr.size_of_type t l a r ty low kind lk h rk) le u = other s ((t ∷ l ∷ a ++ r ∷ []) ++ u) (k.Word w.Sizeof) kind refl
no_cast s (IsExpr.cast l a r b ty x low lk h rk g) le u = absurd (omega arith)
no_cast s (IsExpr.binary a t b op x z low kind h g) le u = let l = levels op in absurd (omega arith)
no_cast s (IsExpr.conditional a t b r d x v z low h tk g rk k) le u = absurd (omega arith)
no_cast s (IsExpr.assignment a t b op x z low h kind g) le u = absurd (omega arith)
