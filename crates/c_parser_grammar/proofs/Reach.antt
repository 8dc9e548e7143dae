-- What is in the grammar is read: every expression brings the parser to the loop over operators with its tree.
use Rattle.std.proofs.Common.{◌≡◌, ℕ, zero, suc, ◌≤◌, ◌<◌, true, false, ltb, List, [], ◌∷◌, ◌++◌, length, Ok, refl, sym, ap, ◌∙◌, subst, append_assoc, length-append, arith}
use Rattle.std.proofs.lemmas.Bool.Decides.{nat_tests}
use Rattle.c_lexer.specs.Pieces.{Lexeme}
use Rattle.c_tree.specs.declared.expressions.Expr.{Expr}
use Rattle.c_parser_grammar.specs.declared.classes.Infix.{Infix}
use Rattle.c_parser_grammar.specs.declared.shapes.Declarator.{Declarator}
use Rattle.c_parser_grammar.specs.declared.shapes.NameRequirement.{NameRequirement}
use Rattle.c_parser_grammar.specs.Classes.{infix_of}
use Rattle.c_parser_grammar.specs.Levels.{binding_level, operand_level, result_level}
use Rattle.c_parser_grammar.specs.Tokens.{TypeNames, token_place, kind_at, token_tail}
use Rattle.c_parser_grammar.specs.Parser.{Parser}
use Rattle.c_parser_grammar.specs.ParseExpr.{operand, step_by, climb, expr, declarator}
use Rattle.c_parser_grammar.proofs.Facts.{infix_at}

-- ---- one turn of the loop

pub below_is : (a b : ℕ) → a < b → ltb a b ≡ true
below_is a b h = grind (arith, nat_tests)

above_is : (a b : ℕ) → b ≤ a → ltb a b ≡ false
above_is a b h = grind (arith, nat_tests)

pub place-append : (a b : List Lexeme) → 0 < length a → token_place (a ++ b) ≡ token_place a
place-append [] b some = absurd (omega arith)
place-append (t ∷ a) b some = refl

module _ (s : TypeNames) (rec : ℕ → Parser Expr) (dec : NameRequirement → Parser Declarator) where
  climb_done : (at least j level : ℕ) (x : Expr) (ts : List Lexeme) → binding_level (infix_at ts) < least → climb s rec dec at least j level x ts ≡ Ok (x, ts)
  unfolding climb
  climb_done at least zero level x ts b = refl
  climb_done at least (suc j) level x ts b = rw (below_is (binding_level (infix_of (kind_at ts))) least b) refl

  climb_turn : (at least j level : ℕ) (x z : Expr) (ts r : List Lexeme) → least ≤ binding_level (infix_at ts) → operand_level (infix_at ts) ≤ level
      → step_by s rec dec (infix_at ts) at x (token_tail ts) ≡ Ok (z, r)
      → climb s rec dec at least (suc j) level x ts ≡ climb s rec dec at least j (result_level (infix_at ts)) z r
  unfolding climb
  climb_turn at least j level x z ts r b d g = rw (above_is (binding_level (infix_of (kind_at ts))) least b, above_is level (operand_level (infix_of (kind_at ts))) d, g) refl

  turn_at : (at least level turns : ℕ) (t : Lexeme) (b r : List Lexeme) (v x : Expr)
      → length (t ∷ b ++ r) ≤ turns → least ≤ binding_level (infix_of t.kind) → operand_level (infix_of t.kind) ≤ level → step_by s rec dec (infix_of t.kind) at v (b ++ r) ≡ Ok (x, r)
      → (j : ℕ) × (length r ≤ j) × (climb s rec dec at least turns level v (t ∷ b ++ r) ≡ climb s rec dec at least j (result_level (infix_of t.kind)) x r)
  turn_at at least level zero t b r v x len l d g = absurd (omega arith)
  turn_at at least level (suc j) t b r v x len l d g =
      (j, omega (arith, length-append b r), climb_turn at least j level v x (t ∷ b ++ r) r l d g)

pub record ReachedClimb (s : TypeNames) (n least m at : ℕ) (ts r : List Lexeme) (x : Expr) : Type 0 where
  pub level : ℕ
  pub turns : ℕ
  pub loose : m ≤ level
  pub enough : length r ≤ turns
  pub gives : expr s (suc n) least ts ≡ climb s (expr s n) (declarator s n) at least turns level x r

abbrev pub Reaches : TypeNames → ℕ → List Lexeme → Expr → Type 0
Reaches s m a x = (n least : ℕ) (r : List Lexeme) → length (a ++ r) ≤ suc n → 1 ≤ least → least ≤ m → binding_level (infix_at r) ≤ m → ReachedClimb s n least m (token_place a) (a ++ r) r x

abbrev pub Reads : TypeNames → ℕ → List Lexeme → Expr → Type 0
Reads s m a x = (n : ℕ) (r : List Lexeme) → length (a ++ r) ≤ n → binding_level (infix_at r) < m → expr s n m (a ++ r) ≡ Ok (x, r)

pub reads : (s : TypeNames) (m : ℕ) (a : List Lexeme) (x : Expr) → 1 ≤ m → 0 < length a → Reaches s m a x → Reads s m a x
reads s m a x one some reach zero r len b = absurd (omega (arith, length-append a r))
reads s m a x one some reach (suc n) r len b =
    let h = reach n m r len one (omega arith) (omega arith) in
    h.gives ∙ climb_done s (expr s n) (declarator s n) (token_place a) m h.turns h.level x r b

advance : (s : TypeNames) (m q : ℕ) (t : Lexeme) (a b : List Lexeme) (v x : Expr) → m ≤ result_level (infix_of t.kind) → result_level (infix_of t.kind) ≤ binding_level (infix_of t.kind) → binding_level (infix_of t.kind) ≤ q → operand_level (infix_of t.kind) ≤ q → 0 < length a
    → Reaches s q a v
    → ((n : ℕ) (r : List Lexeme) → length (b ++ r) ≤ n → binding_level (infix_at r) ≤ m → step_by s (expr s n) (declarator s n) (infix_of t.kind) (token_place a) v (b ++ r) ≡ Ok (x, r))
    → Reaches s m (a ++ t ∷ b) x
advance s m q t a b v x low under_it high demand some reach step n least r len one under next =
    let e : (a ++ t ∷ b) ++ r ≡ a ++ (t ∷ b ++ r) = append_assoc a (t ∷ b) r in
    let all : length (a ++ (t ∷ b ++ r)) ≤ suc n = subst (λ ts. length ts ≤ suc n) e len in
    let sizes = length-append a (t ∷ b ++ r) in
    let h = reach n least (t ∷ b ++ r) all one (omega arith) high in
    let u = turn_at s (expr s n) (declarator s n) (token_place a) least h.level h.turns t b r v x h.enough (omega arith) (omega (arith, h.loose)) (step n r (omega arith) next) in
    let P : ℕ → Type 0 = λ at. ReachedClimb s n least m at ((a ++ t ∷ b) ++ r) r x in
    let f : P (token_place a) = record { level = result_level (infix_of t.kind); turns = u.0; loose = low; enough = u.1; gives = ap (expr s (suc n) least) e ∙ h.gives ∙ u.2 } in
    subst P (sym (place-append a (t ∷ b) some)) f

pub record Fits (m q : ℕ) (class : Infix) : Type 0 where
  pub low : m ≤ result_level class
  pub under : result_level class ≤ binding_level class
  pub high : binding_level class ≤ q
  pub demand : operand_level class ≤ q

-- a token of this class behind an expression that it demands
pub advance_by : (s : TypeNames) (m q : ℕ) (class : Infix) (t : Lexeme) (a b : List Lexeme) (v x : Expr) → infix_of t.kind ≡ class → Fits m q class → 0 < length a
    → Reaches s q a v
    → ((n : ℕ) (r : List Lexeme) → length (b ++ r) ≤ n → binding_level (infix_at r) ≤ m → step_by s (expr s n) (declarator s n) class (token_place a) v (b ++ r) ≡ Ok (x, r))
    → Reaches s m (a ++ t ∷ b) x
advance_by s m q class t a b v x is fits some reach step =
    let P : Infix → Type 0 = λ cl. Fits m q cl → ((n : ℕ) (r : List Lexeme) → length (b ++ r) ≤ n → binding_level (infix_at r) ≤ m → step_by s (expr s n) (declarator s n) cl (token_place a) v (b ++ r) ≡ Ok (x, r)) → Reaches s m (a ++ t ∷ b) x in
    let f : P (infix_of t.kind) = λ o g. advance s m q t a b v x o.low o.under o.high o.demand some reach g in
    subst P is f fits step

pub start : (s : TypeNames) (m level : ℕ) (a : List Lexeme) (x : Expr) → m ≤ level → 0 < length a
    → ((n least : ℕ) (r : List Lexeme) → length (a ++ r) ≤ suc n → least ≤ m → binding_level (infix_at r) ≤ m → operand s (expr s n) (declarator s n) least (a ++ r) ≡ Ok ((x, level), r))
    → Reaches s m a x
unfolding expr
start s m level a x low some begin n least r len one under next =
    let P : ℕ → Type 0 = λ at. ReachedClimb s n least m at (a ++ r) r x in
    let f : P (token_place (a ++ r)) = record { level = level; turns = length r; loose = low; enough = omega arith; gives = rw (begin n least r len under next) refl } in
    subst P (place-append a r some) f
