-- Statements: the rules, and all of them.
use Rattle.std.proofs.Common.{◌≡◌, ℕ, zero, suc, ◌≤◌, ◌<◌, true, false, List, [], ◌∷◌, ◌++◌, length, Option, Some, None, Ok, refl, sym, ap, ◌∙◌, subst, append_assoc, append-nil, length-append, arith}
use Rattle.std.specs.Prelude.{◌||◌}
use Rattle.c_lexer.specs.declared.token.TokenKind.TheVariants as k
use Rattle.c_lexer.specs.declared.token.Keyword.TheVariants as w
use Rattle.c_lexer.specs.declared.token.Punct.TheVariants as p
use Rattle.c_lexer.specs.Pieces.{Lexeme}
use Rattle.c_tree.specs.declared.expressions.Expr.{Expr}
use Rattle.c_tree.specs.declared.statements.Stmt.{Stmt}
use Rattle.c_tree.specs.declared.statements.Stmt as u
use Rattle.c_tree.specs.declared.statements.LocalDeclarator.{LocalDeclarator}
use Rattle.c_tree.specs.declared.statements.Section.{Section}
use Rattle.c_tree.specs.declared.statements.Label.{Label}
use Rattle.c_tree.specs.declared.statements.ForFirst.{ForFirst}
use Rattle.c_parser_grammar.specs.Classes.{head_of}
use Rattle.c_parser_grammar.specs.Tokens.{TypeNames, is_mark, is_keyword, kind_at, is_type_at}
use Rattle.c_parser_grammar.specs.Grammar.{IsWhole}
use Rattle.c_parser_grammar.specs.Statements.{IsLine, IsOptional, IsFirst, IsLabel, locals_of, IsStmt, AreItems, AreSections, AreStmts}
use Rattle.c_parser_grammar.specs.ParseStatements.{items_from, ends_section, stmts_from, section, sections_from, alternative, if_behind, while_behind, do_behind, for_behind, switch_behind, return_behind, value_line, stmt_by, stmt}
use Rattle.c_parser_grammar.proofs.Outcomes.{no_true, is_mark_of, is_word_of, expect_at, expect_word_at}
use Rattle.c_parser_grammar.proofs.Facts.{weak, type_no_mark}
use Rattle.c_parser_grammar.proofs.First.{first_whole}
use Rattle.c_parser_grammar.proofs.ReadExpr.{reach_whole}
use Rattle.c_parser_grammar.proofs.ReadStatements.{Front, StartsStmt, stmt_starts, other_head, condition_read, optional_read, line_read, line_begins, first_read, label_read, label_word, type_no_word}

-- at level 0 no `else` follows
abbrev pub NoElse : ℕ → List Lexeme → Type 0
NoElse m r = m ≤ 0 → is_keyword w.Else (kind_at r) ≡ false

abbrev pub ReadsStmt : TypeNames → ℕ → List Lexeme → Stmt → Type 0
ReadsStmt s m a v = (n : ℕ) (r : List Lexeme) → length (a ++ r) ≤ n → NoElse m r → stmt s n (a ++ r) ≡ Ok (v, r)

abbrev pub ReadsItems : TypeNames → List Lexeme → List Stmt → Type 0
ReadsItems s a vs = (d n j : ℕ) (found : List Stmt) (r : Lexeme) (u : List Lexeme) → r.kind ≡ k.Mark p.RightBrace → length (a ++ r ∷ u) ≤ d → length (a ++ r ∷ u) ≤ n → length (a ++ r ∷ u) ≤ j
    → items_from s d (stmt s n) j found (a ++ r ∷ u) ≡ Ok (found ++ vs, u)

abbrev ReadsSections : TypeNames → List Lexeme → List Section → Type 0
ReadsSections s a vs = (d n j : ℕ) (found : List Section) (r : Lexeme) (u : List Lexeme) → r.kind ≡ k.Mark p.RightBrace → length (a ++ r ∷ u) ≤ d → length (a ++ r ∷ u) ≤ n → length (a ++ r ∷ u) ≤ j
    → sections_from s d (stmt s n) j found (a ++ r ∷ u) ≡ Ok (found ++ vs, u)

-- the statements under a label, up to the next label or the brace
abbrev ReadsStmts : TypeNames → List Lexeme → List Stmt → Type 0
ReadsStmts s a vs = (d n j : ℕ) (found : List Stmt) (r : List Lexeme) → length (a ++ r) ≤ n → length (a ++ r) ≤ j → ends_section r ≡ true → is_keyword w.Else (kind_at r) ≡ false
    → stmts_from s d (stmt s n) j found (a ++ r) ≡ Ok (found ++ vs, r)

module _ (s : TypeNames) where
  block_rule : (m : ℕ) (l : Lexeme) (a : List Lexeme) (r : Lexeme) (vs : List Stmt) → l.kind ≡ k.Mark p.LeftBrace → ReadsItems s a vs → r.kind ≡ k.Mark p.RightBrace → ReadsStmt s m (l ∷ a ++ r ∷ []) (u.Block vs)
  unfolding stmt
  block_rule m l a r vs lk h rk zero z len next = absurd (omega arith)
  block_rule m l a r vs lk h rk (suc n) z len next =
      let q = append_assoc a (r ∷ []) z in
      let all : length (a ++ r ∷ z) ≤ n = subst (λ z. length z ≤ n) q (omega arith) in
      let o = h (suc n) n (length (a ++ r ∷ z)) [] r z rk (omega arith) all (omega arith) in
      ap (λ kd. stmt_by s (suc n) (stmt s n) (head_of kd) ((l ∷ a ++ r ∷ []) ++ z)) lk ∙ rw (q, o) refl

  empty_rule : (m : ℕ) (t : Lexeme) → t.kind ≡ k.Mark p.Semicolon → ReadsStmt s m (t ∷ []) u.Empty
  unfolding stmt
  empty_rule m t kind zero z len next = absurd (omega arith)
  empty_rule m t kind (suc n) z len next = ap (λ kd. stmt_by s (suc n) (stmt s n) (head_of kd) (t ∷ z)) kind

  value_rule : (m : ℕ) (a : List Lexeme) (t : Lexeme) (v : Expr) → IsWhole s a v → t.kind ≡ k.Mark p.Semicolon → ReadsStmt s m (a ++ t ∷ []) (u.Expression v)
  unfolding stmt value_line
  value_rule m a t v h kind zero z len next = absurd (omega (arith, length-append (a ++ t ∷ []) z, length-append a (t ∷ [])))
  value_rule m a t v h kind (suc n) z len next =
      let q = append_assoc a (t ∷ []) z in
      let b = (first_whole s h).1 (t ∷ z) in
      let o = other_head (kind_at (a ++ t ∷ z)) (is_type_at s (a ++ t ∷ z)) b in
      let e = reach_whole s h (suc n) (t ∷ z) (subst (λ z. length z ≤ suc n) q len) (weak t z p.Semicolon 1 kind (omega arith)) in
      let d = expect_at t z p.Semicolon kind in
      rw q (ap (λ hd. stmt_by s (suc n) (stmt s n) hd (a ++ t ∷ z)) o ∙ rw (e, d) refl)

  if_only_rule : (m : ℕ) (t l : Lexeme) (a : List Lexeme) (r : Lexeme) (b : List Lexeme) (v : Expr) (z : Stmt) → m ≤ 0 → t.kind ≡ k.Word w.If → l.kind ≡ k.Mark p.LeftParen → IsWhole s a v → r.kind ≡ k.Mark p.RightParen
      → ReadsStmt s 0 b z → ReadsStmt s m (t ∷ l ∷ a ++ r ∷ b) (u.If v z None)
  unfolding stmt if_behind alternative
  if_only_rule m t l a r b v z low kind lk h rk g zero y len next = absurd (omega arith)
  if_only_rule m t l a r b v z low kind lk h rk g (suc n) y len next =
      let q = append_assoc a (r ∷ b) y in
      let all : length (a ++ (r ∷ b ++ y)) ≤ n = subst (λ z. length z ≤ n) q (omega arith) in
      let e = condition_read s h (suc n) l r (b ++ y) lk rk (omega arith) in
      let o = g n y (omega (arith, length-append a (r ∷ b ++ y))) (λ le. next low) in
      let c = next low in
      ap (λ kd. stmt_by s (suc n) (stmt s n) (head_of kd) ((t ∷ l ∷ a ++ r ∷ b) ++ y)) kind ∙ rw (q, e, o, c) refl

  if_else_rule : (m : ℕ) (t l : Lexeme) (a : List Lexeme) (r : Lexeme) (b : List Lexeme) (o : Lexeme) (c : List Lexeme) (v : Expr) (z q : Stmt) → t.kind ≡ k.Word w.If → l.kind ≡ k.Mark p.LeftParen → IsWhole s a v → r.kind ≡ k.Mark p.RightParen
      → ReadsStmt s 1 b z → o.kind ≡ k.Word w.Else → ReadsStmt s m c q → ReadsStmt s m (t ∷ l ∷ a ++ (r ∷ b ++ o ∷ c)) (u.If v z (Some q))
  unfolding stmt if_behind alternative
  if_else_rule m t l a r b o c v z q kind lk h rk g ok j zero y len next = absurd (omega arith)
  if_else_rule m t l a r b o c v z q kind lk h rk g ok j (suc n) y len next =
      let x : (a ++ (r ∷ b ++ o ∷ c)) ++ y ≡ a ++ (r ∷ (b ++ (o ∷ (c ++ y)))) = append_assoc a (r ∷ b ++ o ∷ c) y ∙ ap (λ z. a ++ (r ∷ z)) (append_assoc b (o ∷ c) y) in
      let all : length (a ++ (r ∷ (b ++ (o ∷ (c ++ y))))) ≤ n = subst (λ z. length z ≤ n) x (omega arith) in
      let sizes = length-append a (r ∷ (b ++ (o ∷ (c ++ y)))) in
      let more = length-append b (o ∷ (c ++ y)) in
      let e = condition_read s h (suc n) l r (b ++ (o ∷ (c ++ y))) lk rk (omega arith) in
      let d = g n (o ∷ (c ++ y)) (omega arith) (λ le. absurd (omega arith)) in
      let i = is_word_of w.Else o.kind ok in
      let f = j n y (omega arith) next in
      ap (λ kd. stmt_by s (suc n) (stmt s n) (head_of kd) ((t ∷ l ∷ a ++ (r ∷ b ++ o ∷ c)) ++ y)) kind ∙ rw (x, e, d, i, f) refl

  while_rule : (m : ℕ) (t l : Lexeme) (a : List Lexeme) (r : Lexeme) (b : List Lexeme) (v : Expr) (z : Stmt) → t.kind ≡ k.Word w.While → l.kind ≡ k.Mark p.LeftParen → IsWhole s a v → r.kind ≡ k.Mark p.RightParen
      → ReadsStmt s m b z → ReadsStmt s m (t ∷ l ∷ a ++ r ∷ b) (u.While v z)
  unfolding stmt while_behind
  while_rule m t l a r b v z kind lk h rk g zero y len next = absurd (omega arith)
  while_rule m t l a r b v z kind lk h rk g (suc n) y len next =
      let q = append_assoc a (r ∷ b) y in
      let all : length (a ++ (r ∷ b ++ y)) ≤ n = subst (λ z. length z ≤ n) q (omega arith) in
      let e = condition_read s h (suc n) l r (b ++ y) lk rk (omega arith) in
      let o = g n y (omega (arith, length-append a (r ∷ b ++ y))) next in
      ap (λ kd. stmt_by s (suc n) (stmt s n) (head_of kd) ((t ∷ l ∷ a ++ r ∷ b) ++ y)) kind ∙ rw (q, e, o) refl

  do_while_rule : (m : ℕ) (t : Lexeme) (a : List Lexeme) (o l : Lexeme) (b : List Lexeme) (r e : Lexeme) (v : Expr) (z : Stmt) → t.kind ≡ k.Word w.Do → ReadsStmt s 0 a z → o.kind ≡ k.Word w.While → l.kind ≡ k.Mark p.LeftParen → IsWhole s b v
      → r.kind ≡ k.Mark p.RightParen → e.kind ≡ k.Mark p.Semicolon → ReadsStmt s m (t ∷ a ++ (o ∷ l ∷ b ++ r ∷ e ∷ [])) (u.Do z v)
  unfolding stmt do_behind
  do_while_rule m t a o l b r e v z kind h ok lk g rk ek zero y len next = absurd (omega arith)
  do_while_rule m t a o l b r e v z kind h ok lk g rk ek (suc n) y len next =
      let q : (a ++ (o ∷ l ∷ b ++ r ∷ e ∷ [])) ++ y ≡ a ++ (o ∷ l ∷ (b ++ (r ∷ e ∷ y))) = append_assoc a (o ∷ l ∷ b ++ r ∷ e ∷ []) y ∙ ap (λ z. a ++ (o ∷ l ∷ z)) (append_assoc b (r ∷ e ∷ []) y) in
      let all : length (a ++ (o ∷ l ∷ (b ++ (r ∷ e ∷ y)))) ≤ n = subst (λ z. length z ≤ n) q (omega arith) in
      let sizes = length-append a (o ∷ l ∷ (b ++ (r ∷ e ∷ y))) in
      let d = h n (o ∷ l ∷ (b ++ (r ∷ e ∷ y))) all (λ le. ap (is_keyword w.Else) ok) in
      let i = expect_word_at o (l ∷ (b ++ (r ∷ e ∷ y))) w.While ok in
      let c = condition_read s g (suc n) l r (e ∷ y) lk rk (omega arith) in
      let f = expect_at e y p.Semicolon ek in
      ap (λ kd. stmt_by s (suc n) (stmt s n) (head_of kd) ((t ∷ a ++ (o ∷ l ∷ b ++ r ∷ e ∷ [])) ++ y)) kind ∙ rw (q, d, i, c, f) refl

  for_rule : (m : ℕ) (t l : Lexeme) (a b : List Lexeme) (e : Lexeme) (c : List Lexeme) (r : Lexeme) (d : List Lexeme) (v : ForFirst) (y z : Option Expr) (q : Stmt) → t.kind ≡ k.Word w.For → l.kind ≡ k.Mark p.LeftParen → IsFirst s a v
      → IsOptional s b y → e.kind ≡ k.Mark p.Semicolon → IsOptional s c z → r.kind ≡ k.Mark p.RightParen → ReadsStmt s m d q → ReadsStmt s m (t ∷ l ∷ a ++ (b ++ (e ∷ c ++ r ∷ d))) (u.For v y z q)
  unfolding stmt for_behind
  for_rule m t l a b e c r d v y z q kind lk h g ek o rk j zero i len next = absurd (omega arith)
  for_rule m t l a b e c r d v y z q kind lk h g ek o rk j (suc n) i len next =
      let x : (a ++ (b ++ (e ∷ c ++ r ∷ d))) ++ i ≡ a ++ (b ++ (e ∷ (c ++ (r ∷ (d ++ i))))) = append_assoc a (b ++ (e ∷ c ++ r ∷ d)) i ∙ ap (λ z. a ++ z) (append_assoc b (e ∷ c ++ r ∷ d) i ∙ ap (λ z. b ++ (e ∷ z)) (append_assoc c (r ∷ d) i)) in
      let all : length (a ++ (b ++ (e ∷ (c ++ (r ∷ (d ++ i)))))) ≤ n = subst (λ z. length z ≤ n) x (omega arith) in
      let s1 = length-append a (b ++ (e ∷ (c ++ (r ∷ (d ++ i))))) in
      let s2 = length-append b (e ∷ (c ++ (r ∷ (d ++ i)))) in
      let s3 = length-append c (r ∷ (d ++ i)) in
      let o1 = expect_at l (a ++ (b ++ (e ∷ (c ++ (r ∷ (d ++ i)))))) p.LeftParen lk in
      let o2 = first_read s h (suc n) (b ++ (e ∷ (c ++ (r ∷ (d ++ i))))) (omega arith) in
      let o3 = optional_read s g (suc n) e (c ++ (r ∷ (d ++ i))) p.Semicolon ek (omega arith) (λ _. refl) (omega arith) in
      let o4 = expect_at e (c ++ (r ∷ (d ++ i))) p.Semicolon ek in
      let o5 = optional_read s o (suc n) r (d ++ i) p.RightParen rk (omega arith) (λ _. refl) (omega arith) in
      let o6 = expect_at r (d ++ i) p.RightParen rk in
      let o7 = j n i (omega arith) next in
      ap (λ kd. stmt_by s (suc n) (stmt s n) (head_of kd) ((t ∷ l ∷ a ++ (b ++ (e ∷ c ++ r ∷ d))) ++ i)) kind ∙ rw (x, o1, o2, o3, o4, o5, o6, o7) refl

  switch_rule : (m : ℕ) (t l : Lexeme) (a : List Lexeme) (r o : Lexeme) (b : List Lexeme) (e : Lexeme) (v : Expr) (vs : List Section) → t.kind ≡ k.Word w.Switch → l.kind ≡ k.Mark p.LeftParen → IsWhole s a v → r.kind ≡ k.Mark p.RightParen
      → o.kind ≡ k.Mark p.LeftBrace → ReadsSections s b vs → e.kind ≡ k.Mark p.RightBrace → ReadsStmt s m (t ∷ l ∷ a ++ (r ∷ o ∷ b ++ e ∷ [])) (u.Switch v vs)
  unfolding stmt switch_behind
  switch_rule m t l a r o b e v vs kind lk h rk ok g ek zero y len next = absurd (omega arith)
  switch_rule m t l a r o b e v vs kind lk h rk ok g ek (suc n) y len next =
      let q : (a ++ (r ∷ o ∷ b ++ e ∷ [])) ++ y ≡ a ++ (r ∷ o ∷ (b ++ (e ∷ y))) = append_assoc a (r ∷ o ∷ b ++ e ∷ []) y ∙ ap (λ z. a ++ (r ∷ o ∷ z)) (append_assoc b (e ∷ []) y) in
      let all : length (a ++ (r ∷ o ∷ (b ++ (e ∷ y)))) ≤ n = subst (λ z. length z ≤ n) q (omega arith) in
      let sizes = length-append a (r ∷ o ∷ (b ++ (e ∷ y))) in
      let c = condition_read s h (suc n) l r (o ∷ (b ++ (e ∷ y))) lk rk (omega arith) in
      let d = expect_at o (b ++ (e ∷ y)) p.LeftBrace ok in
      let i = g (suc n) n (length (b ++ (e ∷ y))) [] e y ek (omega arith) (omega arith) (omega arith) in
      ap (λ kd. stmt_by s (suc n) (stmt s n) (head_of kd) ((t ∷ l ∷ a ++ (r ∷ o ∷ b ++ e ∷ [])) ++ y)) kind ∙ rw (q, c, d, i) refl

  break_rule : (m : ℕ) (t r : Lexeme) → t.kind ≡ k.Word w.Break → r.kind ≡ k.Mark p.Semicolon → ReadsStmt s m (t ∷ r ∷ []) (u.Break t.at)
  unfolding stmt
  break_rule m t r kind rk zero y len next = absurd (omega arith)
  break_rule m t r kind rk (suc n) y len next = let o = expect_at r y p.Semicolon rk in ap (λ kd. stmt_by s (suc n) (stmt s n) (head_of kd) (t ∷ r ∷ y)) kind ∙ rw o refl

  continue_rule : (m : ℕ) (t r : Lexeme) → t.kind ≡ k.Word w.Continue → r.kind ≡ k.Mark p.Semicolon → ReadsStmt s m (t ∷ r ∷ []) (u.Continue t.at)
  unfolding stmt
  continue_rule m t r kind rk zero y len next = absurd (omega arith)
  continue_rule m t r kind rk (suc n) y len next = let o = expect_at r y p.Semicolon rk in ap (λ kd. stmt_by s (suc n) (stmt s n) (head_of kd) (t ∷ r ∷ y)) kind ∙ rw o refl

  return_rule : (m : ℕ) (t : Lexeme) (a : List Lexeme) (r : Lexeme) (v : Option Expr) → t.kind ≡ k.Word w.Return → IsOptional s a v → r.kind ≡ k.Mark p.Semicolon → ReadsStmt s m (t ∷ a ++ r ∷ []) (u.Return t.at v)
  unfolding stmt return_behind
  return_rule m t a r v kind h rk zero y len next = absurd (omega arith)
  return_rule m t a r v kind h rk (suc n) y len next =
      let q = append_assoc a (r ∷ []) y in
      let all : length (a ++ r ∷ y) ≤ n = subst (λ z. length z ≤ n) q (omega arith) in
      let o = optional_read s h (suc n) r y p.Semicolon rk (omega arith) (λ _. refl) (omega arith) in
      let e = expect_at r y p.Semicolon rk in
      ap (λ kd. stmt_by s (suc n) (stmt s n) (head_of kd) ((t ∷ a ++ r ∷ []) ++ y)) kind ∙ rw (q, o, e) refl

  -- ---- lists

  nothing_rule : ReadsItems s [] []
  unfolding items_from
  nothing_rule d n zero found r y rk ld ln lj = absurd (omega arith)
  nothing_rule d n (suc j) found r y rk ld ln lj = let o = is_mark_of p.RightBrace r.kind rk in rw o (ap (λ z. Ok (z, y)) (sym (append-nil found)))

  line_rule : (a b : List Lexeme) (vs : List LocalDeclarator) (ys : List Stmt) → IsLine s a vs → ReadsItems s b ys → ReadsItems s (a ++ b) (locals_of vs ++ ys)
  unfolding items_from
  line_rule a b vs ys h g d n zero found r y rk ld ln lj = absurd (omega (arith, length-append (a ++ b) (r ∷ y)))
  line_rule a b vs ys h g d n (suc j) found r y rk ld ln lj =
      let q = append_assoc a b (r ∷ y) in
      let sizes = length-append a (b ++ r ∷ y) in
      let some = (line_begins s h).0 in
      let c = (line_begins s h).1 (b ++ r ∷ y) in
      let fd : length (a ++ (b ++ r ∷ y)) ≤ d = subst (λ z. length z ≤ d) q ld in
      let fn : length (a ++ (b ++ r ∷ y)) ≤ n = subst (λ z. length z ≤ n) q ln in
      let fj : length (a ++ (b ++ r ∷ y)) ≤ suc j = subst (λ z. length z ≤ suc j) q lj in
      let o = type_no_mark s (a ++ (b ++ r ∷ y)) p.RightBrace c in
      let e = line_read s h d (b ++ r ∷ y) fd in
      rw (q, o, c, e) (g d n j (found ++ locals_of vs) r y rk (omega arith) (omega arith) (omega arith) ∙ ap (λ z. Ok (z, y)) (append_assoc found (locals_of vs) ys))

  statement_rule : (a b : List Lexeme) (v : Stmt) (ys : List Stmt) → StartsStmt s a → ReadsStmt s 0 a v → ((r : Lexeme) (u : List Lexeme) → r.kind ≡ k.Mark p.RightBrace → is_keyword w.Else (kind_at (b ++ r ∷ u)) ≡ false) → ReadsItems s b ys → ReadsItems s (a ++ b) (v ∷ ys)
  unfolding items_from
  statement_rule a b v ys f h c g d n zero found r y rk ld ln lj = absurd (omega (arith, length-append (a ++ b) (r ∷ y)))
  statement_rule a b v ys f h c g d n (suc j) found r y rk ld ln lj =
      let q = append_assoc a b (r ∷ y) in
      let sizes = length-append a (b ++ r ∷ y) in
      let some = f.0 in
      let front = f.1 (b ++ r ∷ y) in
      let fd : length (a ++ (b ++ r ∷ y)) ≤ d = subst (λ z. length z ≤ d) q ld in
      let fn : length (a ++ (b ++ r ∷ y)) ≤ n = subst (λ z. length z ≤ n) q ln in
      let fj : length (a ++ (b ++ r ∷ y)) ≤ suc j = subst (λ z. length z ≤ suc j) q lj in
      let e = h n (b ++ r ∷ y) fn (λ le. c r y rk) in
      rw (q, front.no_brace, front.no_type, e) (g d n j (found ++ v ∷ []) r y rk (omega arith) (omega arith) (omega arith) ∙ ap (λ z. Ok (z, y)) (append_assoc found (v ∷ []) ys))

  -- no `else` in front of items
  brace_no_else : (r : Lexeme) (y : List Lexeme) → r.kind ≡ k.Mark p.RightBrace → is_keyword w.Else (kind_at (r ∷ y)) ≡ false
  brace_no_else r y e = ap (is_keyword w.Else) e

  items_no_else : {a : List Lexeme} {vs : List Stmt} → AreItems s a vs → (r : Lexeme) (y : List Lexeme) → r.kind ≡ k.Mark p.RightBrace → is_keyword w.Else (kind_at (a ++ r ∷ y)) ≡ false
  items_no_else AreItems.nothing r y e = brace_no_else r y e
  items_no_else (AreItems.line a b vs ys h g) r y e = ap (λ z. is_keyword w.Else (kind_at z)) (append_assoc a b (r ∷ y)) ∙ type_no_word s (a ++ (b ++ r ∷ y)) w.Else refl ((line_begins s h).1 (b ++ r ∷ y))
  items_no_else (AreItems.statement a b v ys h g) r y e = ap (λ z. is_keyword w.Else (kind_at z)) (append_assoc a b (r ∷ y)) ∙ ((stmt_starts s h).1 (b ++ r ∷ y)).no_else

  ends_some : (r : List Lexeme) → ends_section r ≡ true → 0 < length r
  ends_some [] e = no_true e
  ends_some (t ∷ r) e = omega arith

  no_statement_rule : ReadsStmts s [] []
  unfolding stmts_from
  no_statement_rule d n zero found r ln lj ends other = let o = ends_some r ends in absurd (omega arith)
  no_statement_rule d n (suc j) found r ln lj ends other = rw ends (ap (λ z. Ok (z, r)) (sym (append-nil found)))

  continues : (ts : List Lexeme) → Front s ts → ends_section ts ≡ false
  continues ts h = rw (h.no_brace, h.no_case, h.no_default) refl

  statements_rule : (a b : List Lexeme) (v : Stmt) (ys : List Stmt) → StartsStmt s a → ReadsStmt s 0 a v → ((r : List Lexeme) → is_keyword w.Else (kind_at r) ≡ false → is_keyword w.Else (kind_at (b ++ r)) ≡ false) → ReadsStmts s b ys → ReadsStmts s (a ++ b) (v ∷ ys)
  unfolding stmts_from
  statements_rule a b v ys f h c g d n zero found r ln lj ends other = let o = ends_some r ends in absurd (omega (arith, length-append (a ++ b) r))
  statements_rule a b v ys f h c g d n (suc j) found r ln lj ends other =
      let q = append_assoc a b r in
      let sizes = length-append a (b ++ r) in
      let o = f.0 in
      let front = continues (a ++ (b ++ r)) (f.1 (b ++ r)) in
      let fn : length (a ++ (b ++ r)) ≤ n = subst (λ z. length z ≤ n) q ln in
      let fj : length (a ++ (b ++ r)) ≤ suc j = subst (λ z. length z ≤ suc j) q lj in
      let e = h n (b ++ r) fn (λ le. c r other) in
      rw (q, front, e) (g d n j (found ++ v ∷ []) r (omega arith) (omega arith) ends other ∙ ap (λ z. Ok (z, r)) (append_assoc found (v ∷ []) ys))

  stmts_no_else : {a : List Lexeme} {vs : List Stmt} → AreStmts s a vs → (r : List Lexeme) → is_keyword w.Else (kind_at r) ≡ false → is_keyword w.Else (kind_at (a ++ r)) ≡ false
  stmts_no_else AreStmts.no_statement r e = e
  stmts_no_else (AreStmts.statements a b v ys h g) r e = ap (λ z. is_keyword w.Else (kind_at z)) (append_assoc a b r) ∙ ((stmt_starts s h).1 (b ++ r)).no_else

  -- what stands behind the statements of a section
  record Ends (ts : List Lexeme) : Type 0 where
    ends : ends_section ts ≡ true
    no_else : is_keyword w.Else (kind_at ts) ≡ false

  sections_end : {a : List Lexeme} {vs : List Section} → AreSections s a vs → (r : Lexeme) (y : List Lexeme) → r.kind ≡ k.Mark p.RightBrace → Ends (a ++ r ∷ y)
  sections_end AreSections.no_section r y e = record { ends = ap (λ kd. is_mark p.RightBrace kd || (is_keyword w.Case kd || is_keyword w.Default kd)) e; no_else = ap (is_keyword w.Else) e }
  sections_end (AreSections.section a b c v ys zs h g o) r y e = subst Ends (sym (append_assoc a (b ++ c) (r ∷ y))) (let q = (label_word s h).1 ((b ++ c) ++ r ∷ y) in record { ends = q.1; no_else = q.2 })

  no_section_rule : ReadsSections s [] []
  unfolding sections_from
  no_section_rule d n zero found r y rk ld ln lj = absurd (omega arith)
  no_section_rule d n (suc j) found r y rk ld ln lj = let o = is_mark_of p.RightBrace r.kind rk in rw o (ap (λ z. Ok (z, y)) (sym (append-nil found)))

  section_rule : (a b c : List Lexeme) (v : Label) (ys : List Stmt) (zs : List Section) → IsLabel s a v → ReadsStmts s b ys → ((r : Lexeme) (y : List Lexeme) → r.kind ≡ k.Mark p.RightBrace → Ends (c ++ r ∷ y)) → ReadsSections s c zs
      → ReadsSections s (a ++ (b ++ c)) (record { label = v; statements = ys } ∷ zs)
  unfolding sections_from section
  section_rule a b c v ys zs h g f o d n zero found r y rk ld ln lj = absurd (omega (arith, length-append (a ++ (b ++ c)) (r ∷ y)))
  section_rule a b c v ys zs h g f o d n (suc j) found r y rk ld ln lj =
      let q : (a ++ (b ++ c)) ++ r ∷ y ≡ a ++ (b ++ (c ++ r ∷ y)) = append_assoc a (b ++ c) (r ∷ y) ∙ ap (λ z. a ++ z) (append_assoc b c (r ∷ y)) in
      let s1 = length-append a (b ++ (c ++ r ∷ y)) in
      let s2 = length-append b (c ++ r ∷ y) in
      let some = (label_word s h).0 in
      let front = ((label_word s h).1 (b ++ (c ++ r ∷ y))).0 in
      let fd : length (a ++ (b ++ (c ++ r ∷ y))) ≤ d = subst (λ z. length z ≤ d) q ld in
      let fn : length (a ++ (b ++ (c ++ r ∷ y))) ≤ n = subst (λ z. length z ≤ n) q ln in
      let fj : length (a ++ (b ++ (c ++ r ∷ y))) ≤ suc j = subst (λ z. length z ≤ suc j) q lj in
      let e = label_read s h d (b ++ (c ++ r ∷ y)) fd in
      let w' = f r y rk in
      let i = g d n (length (b ++ (c ++ r ∷ y))) [] (c ++ r ∷ y) (omega arith) (omega arith) w'.ends w'.no_else in
      rw (q, front, e, i) (o d n j (found ++ record { label = v; statements = ys } ∷ []) r y rk (omega arith) (omega arith) (omega arith) ∙ ap (λ z. Ok (z, y)) (append_assoc found (record { label = v; statements = ys } ∷ []) zs))

  mutual
    pub read_stmt : {m : ℕ} {a : List Lexeme} {v : Stmt} → IsStmt s m a v → ReadsStmt s m a v
    read_stmt (IsStmt.block l a r xs lk h rk) = block_rule _ l a r xs lk (read_items h) rk
    read_stmt (IsStmt.empty t kind) = empty_rule _ t kind
    read_stmt (IsStmt.expression a t v h kind) = value_rule _ a t v h kind
    read_stmt (IsStmt.if_only t l a r b v z low kind lk h rk g) = if_only_rule _ t l a r b v z low kind lk h rk (read_stmt g)
    read_stmt (IsStmt.if_else t l a r b o c v z q kind lk h rk g ok j) = if_else_rule _ t l a r b o c v z q kind lk h rk (read_stmt g) ok (read_stmt j)
    read_stmt (IsStmt.while t l a r b v z kind lk h rk g) = while_rule _ t l a r b v z kind lk h rk (read_stmt g)
    read_stmt (IsStmt.do_while t a o l b r e v z kind h ok lk g rk ek) = do_while_rule _ t a o l b r e v z kind (read_stmt h) ok lk g rk ek
    read_stmt (IsStmt.for t l a b e c r d v y z q kind lk h g ek o rk j) = for_rule _ t l a b e c r d v y z q kind lk h g ek o rk (read_stmt j)
    read_stmt (IsStmt.switch t l a r o b e v xs kind lk h rk ok g ek) = switch_rule _ t l a r o b e v xs kind lk h rk ok (read_sections g) ek
    read_stmt (IsStmt.break t r kind rk) = break_rule _ t r kind rk
    read_stmt (IsStmt.continue t r kind rk) = continue_rule _ t r kind rk
    read_stmt (IsStmt.return t a r v kind h rk) = return_rule _ t a r v kind h rk

    pub read_items : {a : List Lexeme} {vs : List Stmt} → AreItems s a vs → ReadsItems s a vs
    read_items AreItems.nothing = nothing_rule
    read_items (AreItems.line a b vs ys h g) = line_rule a b vs ys h (read_items g)
    read_items (AreItems.statement a b v ys h g) = statement_rule a b v ys (stmt_starts s h) (read_stmt h) (items_no_else g) (read_items g)

    read_sections : {a : List Lexeme} {vs : List Section} → AreSections s a vs → ReadsSections s a vs
    read_sections AreSections.no_section = no_section_rule
    read_sections (AreSections.section a b c v ys zs h g o) = section_rule a b c v ys zs h (read_stmts g) (sections_end o) (read_sections o)

    read_stmts : {a : List Lexeme} {vs : List Stmt} → AreStmts s a vs → ReadsStmts s a vs
    read_stmts AreStmts.no_statement = no_statement_rule
    read_stmts (AreStmts.statements a b v ys h g) = statements_rule a b v ys (stmt_starts s h) (read_stmt h) (stmts_no_else g) (read_stmts g)
