-- Statements: what is in the grammar is read.
use Rattle.std.proofs.Common.{◌≡◌, ℕ, zero, suc, ◌≤◌, ◌<◌, Bool, true, false, List, [], ◌∷◌, ◌++◌, length, Option, Ok, refl, sym, ap, ◌∙◌, subst, append_assoc, length-append, arith}
use Rattle.std.specs.Prelude.{◌||◌}
use Rattle.c_lexer.specs.declared.token.TokenKind.{TokenKind}
use Rattle.c_lexer.specs.declared.token.TokenKind.TheVariants as k
use Rattle.c_lexer.specs.declared.token.Keyword.{Keyword}
use Rattle.c_lexer.specs.declared.token.Keyword.TheVariants as w
use Rattle.c_lexer.specs.declared.token.Punct.{Punct}
use Rattle.c_lexer.specs.declared.token.Punct.TheVariants as p
use Rattle.c_lexer.specs.Pieces.{Lexeme}
use Rattle.c_tree.specs.declared.expressions.Expr.{Expr}
use Rattle.c_tree.specs.declared.types.TypeNode.{TypeNode}
use Rattle.c_tree.specs.declared.statements.Stmt.{Stmt}
use Rattle.c_tree.specs.declared.statements.LocalDeclarator.{LocalDeclarator}
use Rattle.c_tree.specs.declared.statements.Label.{Label}
use Rattle.c_tree.specs.declared.statements.ForFirst.{ForFirst}
use Rattle.c_parser_grammar.specs.declared.classes.Head.TheVariants as h
use Rattle.c_parser_grammar.specs.Classes.{infix_of, prefix_of, specifier_of, head_of, begins_type_by}
use Rattle.c_parser_grammar.specs.Levels.{binding_level}
use Rattle.c_parser_grammar.specs.Tokens.{TypeNames, is_mark, is_keyword, kind_at, is_type_at, begins_type}
use Rattle.c_parser_grammar.specs.model.Begins.{begins, begins_by}
use Rattle.c_parser_grammar.specs.Grammar.{IsWhole}
use Rattle.c_parser_grammar.specs.Statements.{IsLocalDeclarator, AreLocals, IsLine, IsOptional, IsFirst, IsLabel, IsStmt}
use Rattle.c_parser_grammar.specs.ParseExpr.{list_from}
use Rattle.c_parser_grammar.specs.ParseStatements.{expression, local_declarator, line, optional_expression, controlling_expression, first_expression, first_clause, case_behind, label, ends_section}
use Rattle.c_parser_grammar.proofs.Outcomes.{no_true, fails, is_mark_of, word_is, is_word_of, expect_at, expect_word_at}
use Rattle.c_parser_grammar.proofs.Facts.{infix_at, weak, no_type, begins_no_mark, type_no_mark}
use Rattle.c_parser_grammar.proofs.ReadPlain.{plain_read, plain_begins, BeginsType}
use Rattle.c_parser_grammar.proofs.First.{first_whole}
use Rattle.c_parser_grammar.proofs.RulesExpr.{EndsKind, list_last, list_more}
use Rattle.c_parser_grammar.proofs.ReadExpr.{read_expr, reach_whole}
use Rattle.c_parser_grammar.proofs.ReadSpecifiers.{Fronts, declared_fronts, wider, mark_ends, comma_ends, semicolon_ends, declared_read}

-- ---- words that do not stand here

not_word : (v : Keyword) (kind : TokenKind) → (kind ≡ k.Word v → ⊥) → is_keyword v kind ≡ false
not_word v kind f = fails (is_keyword v kind) (λ e. f (word_is v kind e))

begins_no_word : (s : TypeNames) (ts : List Lexeme) (v : Keyword) → begins_by (prefix_of (k.Word v)) (is_type_at s ts) ≡ false → begins s ts ≡ true → is_keyword v (kind_at ts) ≡ false
begins_no_word s ts v h e = not_word v (kind_at ts) (λ q. no_true (sym h ∙ ap (λ kd. begins_by (prefix_of kd) (is_type_at s ts)) (sym q) ∙ e))

pub type_no_word : (s : TypeNames) (ts : List Lexeme) (v : Keyword) → begins_type_by (specifier_of (k.Word v)) (is_type_at s ts) ≡ false → begins_type s ts ≡ true → is_keyword v (kind_at ts) ≡ false
type_no_word s ts v h e = not_word v (kind_at ts) (λ q. no_true (sym h ∙ ap (λ kd. begins_type_by (specifier_of kd) (is_type_at s ts)) (sym q) ∙ e))

pub other_head : (kind : TokenKind) (listed : Bool) → begins_by (prefix_of kind) listed ≡ true → head_of kind ≡ h.Other
other_head k.Name listed e = refl
other_head k.Number listed e = refl
other_head k.Char listed e = refl
other_head k.Text listed e = refl
other_head (k.Word w.Sizeof) listed e = refl
other_head (k.Word _) listed e = no_true e
other_head (k.Mark p.LeftBrace) listed e = no_true e
other_head (k.Mark p.Semicolon) listed e = no_true e
other_head (k.Mark _) listed e = refl
other_head k.End listed e = no_true e

-- what a statement does not begin with
pub record Front (s : TypeNames) (ts : List Lexeme) : Type 0 where
  pub no_brace : is_mark p.RightBrace (kind_at ts) ≡ false
  pub no_type : begins_type s ts ≡ false
  pub no_else : is_keyword w.Else (kind_at ts) ≡ false
  pub no_case : is_keyword w.Case (kind_at ts) ≡ false
  pub no_default : is_keyword w.Default (kind_at ts) ≡ false

value_front : (s : TypeNames) (ts : List Lexeme) → begins s ts ≡ true → Front s ts
value_front s ts e = record {
  no_brace = begins_no_mark s ts p.RightBrace refl e;
  no_type = no_type s ts e;
  no_else = begins_no_word s ts w.Else refl e;
  no_case = begins_no_word s ts w.Case refl e;
  no_default = begins_no_word s ts w.Default refl e;
}

-- a front by its kind
pub record FrontKind (kind : TokenKind) : Type 0 where
  pub brace : is_mark p.RightBrace kind ≡ false
  pub type : (listed : Bool) → begins_type_by (specifier_of kind) listed ≡ false
  pub else : is_keyword w.Else kind ≡ false
  pub case : is_keyword w.Case kind ≡ false
  pub default : is_keyword w.Default kind ≡ false

kind_front : (s : TypeNames) (t : Lexeme) (r : List Lexeme) (kind : TokenKind) → t.kind ≡ kind → FrontKind kind → Front s (t ∷ r)
kind_front s t r kind e g =
    let h : FrontKind t.kind = subst FrontKind (sym e) g in
    record { no_brace = h.brace; no_type = h.type (is_type_at s (t ∷ r)); no_else = h.else; no_case = h.case; no_default = h.default }

abbrev pub StartsStmt : TypeNames → List Lexeme → Type 0
StartsStmt s a = (0 < length a) × ((r : List Lexeme) → Front s (a ++ r))

word_starts : (s : TypeNames) (t : Lexeme) (a : List Lexeme) (kind : TokenKind) → t.kind ≡ kind → FrontKind kind → StartsStmt s (t ∷ a)
word_starts s t a kind e g = (omega arith, λ r. kind_front s t (a ++ r) kind e g)

plain_kind : (kind : TokenKind) → is_mark p.RightBrace kind ≡ false → ((listed : Bool) → begins_type_by (specifier_of kind) listed ≡ false) → is_keyword w.Else kind ≡ false → is_keyword w.Case kind ≡ false → is_keyword w.Default kind ≡ false → FrontKind kind
plain_kind kind a b c d e = record { brace = a; type = b; else = c; case = d; default = e }

pub stmt_starts : (s : TypeNames) {m : ℕ} {a : List Lexeme} {v : Stmt} → IsStmt s m a v → StartsStmt s a
stmt_starts s (IsStmt.block l a r xs lk h rk) = word_starts s l (a ++ r ∷ []) _ lk (plain_kind _ refl (λ _. refl) refl refl refl)
stmt_starts s (IsStmt.empty t kind) = word_starts s t [] _ kind (plain_kind _ refl (λ _. refl) refl refl refl)
stmt_starts s (IsStmt.expression a t v h kind) = let g = first_whole s h in (omega (arith, length-append a (t ∷ []), g.0), λ r. subst (Front s) (sym (append_assoc a (t ∷ []) r)) (value_front s (a ++ t ∷ r) (g.1 (t ∷ r))))
stmt_starts s (IsStmt.if_only t l a r b v z low kind lk h rk g) = word_starts s t (l ∷ a ++ r ∷ b) _ kind (plain_kind _ refl (λ _. refl) refl refl refl)
stmt_starts s (IsStmt.if_else t l a r b o c v y z kind lk h rk g ok q) = word_starts s t (l ∷ a ++ (r ∷ b ++ o ∷ c)) _ kind (plain_kind _ refl (λ _. refl) refl refl refl)
stmt_starts s (IsStmt.while t l a r b v z kind lk h rk g) = word_starts s t (l ∷ a ++ r ∷ b) _ kind (plain_kind _ refl (λ _. refl) refl refl refl)
stmt_starts s (IsStmt.do_while t a o l b r e v z kind h ok lk g rk ek) = word_starts s t (a ++ (o ∷ l ∷ b ++ r ∷ e ∷ [])) _ kind (plain_kind _ refl (λ _. refl) refl refl refl)
stmt_starts s (IsStmt.for t l a b e c r d v y z q kind lk h g ek o rk j) = word_starts s t (l ∷ a ++ (b ++ (e ∷ c ++ r ∷ d))) _ kind (plain_kind _ refl (λ _. refl) refl refl refl)
stmt_starts s (IsStmt.switch t l a r o b e v xs kind lk h rk ok g ek) = word_starts s t (l ∷ a ++ (r ∷ o ∷ b ++ e ∷ [])) _ kind (plain_kind _ refl (λ _. refl) refl refl refl)
stmt_starts s (IsStmt.break t r kind rk) = word_starts s t (r ∷ []) _ kind (plain_kind _ refl (λ _. refl) refl refl refl)
stmt_starts s (IsStmt.continue t r kind rk) = word_starts s t (r ∷ []) _ kind (plain_kind _ refl (λ _. refl) refl refl refl)
stmt_starts s (IsStmt.return t a r v kind h rk) = word_starts s t (a ++ r ∷ []) _ kind (plain_kind _ refl (λ _. refl) refl refl refl)

-- ---- parts of statements

module _ (s : TypeNames) where
  -- an expression up to a mark that goes on none
  whole_read : {a : List Lexeme} {v : Expr} → IsWhole s a v → (n : ℕ) (t : Lexeme) (r : List Lexeme) (m : Punct) → t.kind ≡ k.Mark m → binding_level (infix_of (k.Mark m)) < 1 → length (a ++ t ∷ r) ≤ n → expression s n (a ++ t ∷ r) ≡ Ok (v, t ∷ r)
  whole_read h n t r m kind b len = reach_whole s h n (t ∷ r) len (weak t r m 1 kind b)

  pub condition_read : {a : List Lexeme} {v : Expr} → IsWhole s a v → (n : ℕ) (l r : Lexeme) (u : List Lexeme) → l.kind ≡ k.Mark p.LeftParen → r.kind ≡ k.Mark p.RightParen → length (a ++ r ∷ u) ≤ n → controlling_expression s n (l ∷ (a ++ r ∷ u)) ≡ Ok (v, u)
  unfolding controlling_expression
  condition_read {a} h n l r u lk rk len =
      let o = expect_at l (a ++ r ∷ u) p.LeftParen lk in
      let e = whole_read h n r u p.RightParen rk (omega arith) len in
      let c = expect_at r u p.RightParen rk in
      rw (o, e, c) refl

  pub optional_read : {a : List Lexeme} {v : Option Expr} → IsOptional s a v → (n : ℕ) (t : Lexeme) (r : List Lexeme) (m : Punct) → t.kind ≡ k.Mark m → binding_level (infix_of (k.Mark m)) < 1 → ((listed : Bool) → begins_by (prefix_of (k.Mark m)) listed ≡ false)
      → length (a ++ t ∷ r) ≤ n → optional_expression s n m (a ++ t ∷ r) ≡ Ok (v, t ∷ r)
  unfolding optional_expression
  optional_read IsOptional.none n t r m kind b f len = let o = is_mark_of m t.kind kind in rw o refl
  optional_read (IsOptional.some a v h) n t r m kind b f len =
      let o = begins_no_mark s (a ++ t ∷ r) m (f (is_type_at s (a ++ t ∷ r))) ((first_whole s h).1 (t ∷ r)) in
      let e = whole_read h n t r m kind b len in
      rw (o, e) refl

  -- a declarator in a block, up to a comma or a semicolon
  local_read : {ty : TypeNode} {a : List Lexeme} {v : LocalDeclarator} → IsLocalDeclarator s ty a v → (n : ℕ) (r : List Lexeme) → length (a ++ r) < n → EndsKind (kind_at r) → binding_level (infix_at r) < 2 → is_mark p.Assign (kind_at r) ≡ false → local_declarator s n ty (a ++ r) ≡ Ok (v, r)
  unfolding local_declarator
  local_read (IsLocalDeclarator.plain a d h) n r len ends under other = let g = declared_read s h n r len ends in rw (g, other) refl
  local_read (IsLocalDeclarator.with_init a t b d v h kind g) n r len ends under other =
      let q = append_assoc a (t ∷ b) r in
      let all : length (a ++ (t ∷ b ++ r)) < n = subst (λ z. length z < n) q len in
      let o = declared_read s h n (t ∷ b ++ r) all (mark_ends t.kind p.Assign kind (record { no_star = refl; no_paren = refl; no_bracket = refl; no_name = refl; stops = refl })) in
      let c = is_mark_of p.Assign t.kind kind in
      let e = read_expr s (omega arith) g n r (omega (arith, length-append a (t ∷ b ++ r))) under in
      rw (q, o, c, e) refl

  local_fronts : {ty : TypeNode} {a : List Lexeme} {v : LocalDeclarator} → IsLocalDeclarator s ty a v → Fronts a
  local_fronts (IsLocalDeclarator.plain a d h) = declared_fronts s refl h
  local_fronts (IsLocalDeclarator.with_init a t b d v h kind g) = wider a (t ∷ b) (declared_fronts s refl h)

  locals_fronts : {ty : TypeNode} {a : List Lexeme} {vs : List LocalDeclarator} → AreLocals s ty a vs → Fronts a
  locals_fronts (AreLocals.one a v h) = local_fronts h
  locals_fronts (AreLocals.more a t b v vs h kind g) = wider a (t ∷ b) (local_fronts h)

  locals_read : {ty : TypeNode} {a : List Lexeme} {vs : List LocalDeclarator} → AreLocals s ty a vs → (n j : ℕ) (found : List LocalDeclarator) (t : Lexeme) (r : List Lexeme) → t.kind ≡ k.Mark p.Semicolon → length (a ++ t ∷ r) < n → length (a ++ t ∷ r) ≤ j
      → list_from (local_declarator s n ty) j found (a ++ t ∷ r) ≡ Ok (found ++ vs, t ∷ r)
  locals_read {ty} (AreLocals.one a v h) n j found t r kind len le =
      list_last (local_declarator s n ty) j found (a ++ t ∷ r) (t ∷ r) v (omega (arith, length-append a (t ∷ r))) (local_read h n (t ∷ r) len (semicolon_ends t.kind kind) (weak t r p.Semicolon 2 kind (omega arith)) (ap (is_mark p.Assign) kind)) (ap (is_mark p.Comma) kind)
  locals_read (AreLocals.more a o b v vs h ok g) n zero found t r kind len le = absurd (omega (arith, length-append (a ++ o ∷ b) (t ∷ r)))
  locals_read {ty} (AreLocals.more a o b v vs h ok g) n (suc j) found t r kind len le =
      let q = append_assoc a (o ∷ b) (t ∷ r) in
      let sizes = length-append a (o ∷ b ++ t ∷ r) in
      let all : length (a ++ (o ∷ b ++ t ∷ r)) < n = subst (λ z. length z < n) q len in
      let fit : length (a ++ (o ∷ b ++ t ∷ r)) ≤ suc j = subst (λ z. length z ≤ suc j) q le in
      let e = local_read h n (o ∷ b ++ t ∷ r) all (comma_ends o.kind ok) (weak o (b ++ t ∷ r) p.Comma 2 ok (omega arith)) (ap (is_mark p.Assign) ok) in
      ap (list_from (local_declarator s n ty) (suc j) found) q ∙ list_more (local_declarator s n ty) j found (a ++ (o ∷ b ++ t ∷ r)) o (b ++ t ∷ r) v e ok ∙ locals_read g n j (found ++ v ∷ []) t r kind (omega arith) (omega arith)
      ∙ ap (λ z. Ok (z, t ∷ r)) (append_assoc found (v ∷ []) vs)

  pub line_read : {a : List Lexeme} {vs : List LocalDeclarator} → IsLine s a vs → (n : ℕ) (r : List Lexeme) → length (a ++ r) ≤ n → line s n (a ++ r) ≡ Ok (vs, r)
  unfolding line
  line_read (IsLine.line a b t ty vs h g kind) n r len =
      let q : (a ++ (b ++ t ∷ [])) ++ r ≡ a ++ (b ++ (t ∷ r)) = append_assoc a (b ++ t ∷ []) r ∙ ap (λ z. a ++ z) (append_assoc b (t ∷ []) r) in
      let all : length (a ++ (b ++ (t ∷ r))) ≤ n = subst (λ z. length z ≤ n) q len in
      let sizes = length-append a (b ++ (t ∷ r)) in
      let some = (plain_begins s h).0 in
      let e = plain_read s h (b ++ (t ∷ r)) ((locals_fronts g).follows (t ∷ r)).stops in
      let v = locals_read g n (length (b ++ (t ∷ r))) [] t r kind (omega arith) (omega arith) in
      let o = expect_at t r p.Semicolon kind in
      rw (q, e, v, o) refl

  pub line_begins : {a : List Lexeme} {vs : List LocalDeclarator} → IsLine s a vs → BeginsType s a
  line_begins (IsLine.line a b t ty vs h g kind) = let o = plain_begins s h in (omega (arith, length-append a (b ++ t ∷ []), o.0), λ r. ap (begins_type s) (append_assoc a (b ++ t ∷ []) r) ∙ o.1 ((b ++ t ∷ []) ++ r))

  pub first_read : {a : List Lexeme} {v : ForFirst} → IsFirst s a v → (n : ℕ) (r : List Lexeme) → length (a ++ r) ≤ n → first_clause s n (a ++ r) ≡ Ok (v, r)
  unfolding first_clause first_expression
  first_read (IsFirst.nothing t kind) n r len = let o = is_mark_of p.Semicolon t.kind kind in rw o refl
  first_read (IsFirst.value a t v h kind) n r len =
      let q = append_assoc a (t ∷ []) r in
      let b = (first_whole s h).1 (t ∷ r) in
      let o = begins_no_mark s (a ++ t ∷ r) p.Semicolon refl b in
      let c = no_type s (a ++ t ∷ r) b in
      let e = whole_read h n t r p.Semicolon kind (omega arith) (subst (λ z. length z ≤ n) q len) in
      let d = expect_at t r p.Semicolon kind in
      rw (q, o, c, e, d) refl
  first_read (IsFirst.locals a vs h) n r len =
      let b = (line_begins h).1 r in
      let o = type_no_mark s (a ++ r) p.Semicolon b in
      let e = line_read h n r len in
      rw (o, b, e) refl

  pub label_read : {a : List Lexeme} {v : Label} → IsLabel s a v → (n : ℕ) (r : List Lexeme) → length (a ++ r) ≤ n → label s n (a ++ r) ≡ Ok (v, r)
  unfolding label case_behind
  label_read (IsLabel.«case» t a r v kind h rk) n z len =
      let q = append_assoc a (r ∷ []) z in
      let o = is_word_of w.Case t.kind kind in
      let e = read_expr s (omega arith) h n (r ∷ z) (subst (λ z. length z ≤ n) q (omega arith)) (weak r z p.Colon 4 rk (omega arith)) in
      let d = expect_at r z p.Colon rk in
      rw (o, q, e, d) refl
  label_read (IsLabel.«default» t r kind rk) n z len =
      let o = ap (is_keyword w.Case) kind in
      let e = expect_word_at t (r ∷ z) w.Default kind in
      let d = expect_at r z p.Colon rk in
      rw (o, e, d) refl

  pub label_word : {a : List Lexeme} {v : Label} → IsLabel s a v → (0 < length a) × ((r : List Lexeme) → (is_mark p.RightBrace (kind_at (a ++ r)) ≡ false) × (ends_section (a ++ r) ≡ true) × (is_keyword w.Else (kind_at (a ++ r)) ≡ false))
  label_word (IsLabel.«case» t a r v kind h rk) = (omega arith, λ z. (ap (is_mark p.RightBrace) kind, ap (λ kd. is_mark p.RightBrace kd || (is_keyword w.Case kd || is_keyword w.Default kd)) kind, ap (is_keyword w.Else) kind))
  label_word (IsLabel.«default» t r kind rk) = (omega arith, λ z. (ap (is_mark p.RightBrace) kind, ap (λ kd. is_mark p.RightBrace kd || (is_keyword w.Case kd || is_keyword w.Default kd)) kind, ap (is_keyword w.Else) kind))
