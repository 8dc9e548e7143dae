-- Statements that are read are in the grammar.
use Rattle.std.proofs.Common.{◌≡◌, ℕ, zero, suc, false, cond, List, [], ◌∷◌, ◌++◌, length, Some, None, Ok, refl, sym, ap, ◌∙◌, subst, append_assoc, append-nil, arith}
use Rattle.c_lexer.specs.declared.token.TokenKind.{TokenKind}
use Rattle.c_lexer.specs.declared.token.TokenKind.TheVariants as k
use Rattle.c_lexer.specs.declared.token.Keyword.TheVariants as w
use Rattle.c_lexer.specs.declared.token.Punct.{Punct}
use Rattle.c_lexer.specs.declared.token.Punct.TheVariants as p
use Rattle.c_lexer.specs.Pieces.{Lexeme}
use Rattle.c_tree.specs.declared.expressions.Expr.{Expr}
use Rattle.c_tree.specs.declared.types.TypeNode.{TypeNode}
use Rattle.c_tree.specs.declared.types.Declaration.{Declaration}
use Rattle.c_tree.specs.declared.statements.Stmt.{Stmt}
use Rattle.c_tree.specs.declared.statements.Stmt as u
use Rattle.c_tree.specs.declared.statements.LocalDeclarator.{LocalDeclarator}
use Rattle.c_tree.specs.declared.statements.Section.{Section}
use Rattle.c_tree.specs.declared.statements.Label.TheVariants as l
use Rattle.c_tree.specs.declared.statements.ForFirst.TheVariants as f
use Rattle.c_parser_grammar.specs.declared.shapes.NameRequirement.TheVariants as nm
use Rattle.c_parser_grammar.specs.Classes.{head_of}
use Rattle.c_parser_grammar.specs.Tokens.{TypeNames, token_place, is_mark, is_keyword, kind_at, begins_type}
use Rattle.c_parser_grammar.specs.Grammar.{IsPlain, IsExpr, IsWhole}
use Rattle.c_parser_grammar.specs.Specifiers.{IsDeclared}
use Rattle.c_parser_grammar.specs.Statements.{IsLocalDeclarator, AreLocals, IsLine, IsOptional, IsFirst, IsLabel, locals_of, IsStmt, AreItems, AreSections, AreStmts}
use Rattle.c_parser_grammar.specs.Parser.{Parser, and_then, ◌>>=◌, pure, expect, expect_word}
use Rattle.c_parser_grammar.specs.ParseExpr.{plain, list_from, expr, declarator}
use Rattle.c_parser_grammar.specs.ParseSpecifiers.{declaration}
use Rattle.c_parser_grammar.specs.ParseStatements.{expression, local_by, local_declarator, line, optional_expression, controlling_expression, first_expression, first_clause, case_behind, label, items_from, ends_section, stmts_from, section, sections_from, alternative, if_behind, while_behind, do_behind, for_behind, switch_behind, return_behind, value_line, stmt_by, stmt}
use Rattle.c_parser_grammar.proofs.Outcomes.{mark_is, word_is}
use Rattle.c_parser_grammar.proofs.Says.{Instance, Says, lexeme_of, ok_says, refused_says, bind_says, if_says, token_says, done_says, expect_says, expect_word_first, list_says, weaker}
use Rattle.c_parser_grammar.proofs.SaysRest.{SaysR, ok_r, refused_r, bind_r, then_r, drop, weaker_r, if_r, token_r, done_r, expect_r, expect_word_r}
use Rattle.c_parser_grammar.proofs.SoundPlain.{plain_says}
use Rattle.c_parser_grammar.proofs.SoundExpr.{four_wanted, two_wanted, sound_expr, sound_declarator, whole_says}
use Rattle.c_parser_grammar.proofs.SoundSpecifiers.{declaration_says}

-- ---- parts of statements

module _ (s : TypeNames) (n : ℕ) where
  expression_says : (ts : List Lexeme) → Says (expression s n ts) ts (λ a v. IsWhole s a v)
  expression_says ts = whole_says s (expr s n) (declarator s n) (sound_expr s n) (sound_declarator s n) ts

  local_by_says : (ty : TypeNode) (a : List Lexeme) (d : Declaration) (r : List Lexeme) → IsDeclared s nm.Required ty a d → Says (local_by s n d r) r (λ b v. IsLocalDeclarator s ty (a ++ b) v)
  local_by_says ty a d [] h = done_says (record { declaration = d; init = None }) a [] (λ a v. IsLocalDeclarator s ty a v) (IsLocalDeclarator.plain a d h)
  local_by_says ty a d (t ∷ r) h = if_says (is_mark p.Assign t.kind) _ _ (t ∷ r) _
      (λ yes. token_says _ t r _ (bind_says (expr s n 2 r) _ r (λ b v. IsExpr s 2 b v) _ (sound_expr s n 2 r two_wanted) (λ b v z g.
      done_says (record { declaration = d; init = Some v }) b z (λ b w'. IsLocalDeclarator s ty (a ++ t ∷ b) w') (IsLocalDeclarator.with_init a t b d v h (mark_is p.Assign t.kind yes) g))))
      (λ other. done_says (record { declaration = d; init = None }) a (t ∷ r) (λ a v. IsLocalDeclarator s ty a v) (IsLocalDeclarator.plain a d h))

  local_says : (ty : TypeNode) (ts : List Lexeme) → Says (local_declarator s n ty ts) ts (λ a v. IsLocalDeclarator s ty a v)
  unfolding local_declarator
  local_says ty ts = bind_says (declaration s n nm.Required ty ts) _ ts (λ a d. IsDeclared s nm.Required ty a d) _ (declaration_says s n nm.Required ty ts refl) (λ a d r h. local_by_says ty a d r h)

  pub line_says : (ts : List Lexeme) → Says (line s n ts) ts (λ a vs. IsLine s a vs)
  unfolding line
  line_says ts = bind_says (plain s ts) _ ts (λ a ty. IsPlain s a ty) _ (plain_says s ts) (λ a ty r h.
      bind_says (list_from (local_declarator s n ty) (length r) [] r) _ r _ _ (list_says (local_declarator s n ty) (λ a v. IsLocalDeclarator s ty a v) (λ a vs. AreLocals s ty a vs) (local_says ty) (λ a v g. AreLocals.one a v g) (λ a t b v vs g kind o. AreLocals.more a t b v vs g kind o) (length r) [] r) (λ b vs z q.
      expect_says p.Semicolon _ z _ (λ t r' kind. ok_says vs r' _ (subst (λ w'. IsLine s (a ++ (b ++ t ∷ [])) w') (sym q.1) (IsLine.line a b t ty q.0 h q.2 kind)))))

  optional_says : (m : Punct) (ts : List Lexeme) → Says (optional_expression s n m ts) ts (λ a v. IsOptional s a v)
  unfolding optional_expression
  optional_says m ts = if_says (is_mark m (kind_at ts)) (Ok (None, ts)) _ ts _ (λ yes. ok_says None ts _ IsOptional.none)
      (λ other. bind_says (expression s n ts) _ ts (λ a v. IsWhole s a v) _ (expression_says ts) (λ a v r h. done_says (Some v) a r (λ a v. IsOptional s a v) (IsOptional.some a v h)))

  -- an expression in brackets: what it is between
  record InBrackets (a : List Lexeme) (v : Expr) : Type 0 where
    left : Lexeme
    inner : List Lexeme
    right : Lexeme
    whole_is : a ≡ left ∷ inner ++ right ∷ []
    open_is : left.kind ≡ k.Mark p.LeftParen
    is : IsWhole s inner v
    close_is : right.kind ≡ k.Mark p.RightParen

  condition_says : (ts : List Lexeme) → Says (controlling_expression s n ts) ts InBrackets
  unfolding controlling_expression
  condition_says ts = expect_says p.LeftParen _ ts _ (λ l r lk. bind_says (expression s n r) _ r (λ a v. IsWhole s a v) _ (expression_says r) (λ a v z h. expect_says p.RightParen _ z _ (λ r' y rk.
      ok_says v y _ (record { left = l; inner = a; right = r'; whole_is = refl; open_is = lk; is = h; close_is = rk }))))

  first_says : (ts : List Lexeme) → Says (first_clause s n ts) ts (λ a v. IsFirst s a v)
  unfolding first_clause first_expression
  first_says [] = if_says (begins_type s []) _ _ [] _
      (λ yes. bind_says (line s n []) _ [] (λ a vs. IsLine s a vs) _ (line_says []) (λ a vs r h. done_says (f.Locals vs) a r (λ a v. IsFirst s a v) (IsFirst.locals a vs h)))
      (λ other. bind_says (expression s n []) _ [] (λ a v. IsWhole s a v) _ (expression_says []) (λ a v r h. expect_says p.Semicolon _ r _ (λ t z kind. ok_says (f.Value v) z _ (IsFirst.value a t v h kind))))
  first_says (t ∷ ts) = if_says (is_mark p.Semicolon t.kind) (Ok (f.Nothing, ts)) _ (t ∷ ts) _ (λ yes. token_says (Ok (f.Nothing, ts)) t ts _ (ok_says f.Nothing ts _ (IsFirst.nothing t (mark_is p.Semicolon t.kind yes))))
      (λ none. if_says (begins_type s (t ∷ ts)) _ _ (t ∷ ts) _
      (λ yes. bind_says (line s n (t ∷ ts)) _ (t ∷ ts) (λ a vs. IsLine s a vs) _ (line_says (t ∷ ts)) (λ a vs r h. done_says (f.Locals vs) a r (λ a v. IsFirst s a v) (IsFirst.locals a vs h)))
      (λ other. bind_says (expression s n (t ∷ ts)) _ (t ∷ ts) (λ a v. IsWhole s a v) _ (expression_says (t ∷ ts)) (λ a v r h. expect_says p.Semicolon _ r _ (λ o z kind. ok_says (f.Value v) z _ (IsFirst.value a o v h kind)))))

  some_label : Instance (λ a v. IsLabel s a v)
  some_label =
      let word = lexeme_of (k.Word w.Default) in
      let colon = lexeme_of (k.Mark p.Colon) in
      (word ∷ colon ∷ [], l.Default 0, IsLabel.«default» word colon refl refl)

  default_says : (ts : List Lexeme) → Says (and_then (expect_word w.Default ts) (λ _. expect p.Colon >>= λ _. pure (l.Default (token_place ts)))) ts (λ a v. IsLabel s a v)
  unfolding expect_word
  default_says [] = refused_says [] _ some_label
  default_says (t ∷ ts) = expect_word_first w.Default _ t ts _ (λ kind. expect_says p.Colon _ ts _ (λ c z ck. ok_says (l.Default t.at) z _ (IsLabel.«default» t c kind ck))) some_label

  label_says : (ts : List Lexeme) → Says (label s n ts) ts (λ a v. IsLabel s a v)
  unfolding label case_behind
  label_says [] = default_says []
  label_says (t ∷ ts) = if_says (is_keyword w.Case t.kind) _ _ (t ∷ ts) _
      (λ yes. token_says _ t ts _ (bind_says (expr s n 4 ts) _ ts (λ a v. IsExpr s 4 a v) _ (sound_expr s n 4 ts four_wanted) (λ a v r h. expect_says p.Colon _ r _ (λ c z ck.
      ok_says (l.Case t.at v) z _ (IsLabel.«case» t a c v (word_is w.Case t.kind yes) h ck)))))
      (λ other. default_says (t ∷ ts))

-- ---- statements

-- the level at which a statement stands before these tokens
abbrev pub else_at : List Lexeme → ℕ
else_at r = cond (is_keyword w.Else (kind_at r)) 1 0

weaken_stmt : (s : TypeNames) {m : ℕ} {a : List Lexeme} {v : Stmt} → IsStmt s m a v → IsStmt s 0 a v
weaken_stmt s (IsStmt.block l a r xs lk h rk) = IsStmt.block l a r xs lk h rk
weaken_stmt s (IsStmt.empty t kind) = IsStmt.empty t kind
weaken_stmt s (IsStmt.expression a t v h kind) = IsStmt.expression a t v h kind
weaken_stmt s (IsStmt.if_only t l a r b v z low kind lk h rk g) = IsStmt.if_only t l a r b v z (omega arith) kind lk h rk g
weaken_stmt s (IsStmt.if_else t l a r b o c v z q kind lk h rk g ok j) = IsStmt.if_else t l a r b o c v z q kind lk h rk g ok (weaken_stmt s j)
weaken_stmt s (IsStmt.while t l a r b v z kind lk h rk g) = IsStmt.while t l a r b v z kind lk h rk (weaken_stmt s g)
weaken_stmt s (IsStmt.do_while t a o l b r e v z kind h ok lk g rk ek) = IsStmt.do_while t a o l b r e v z kind h ok lk g rk ek
weaken_stmt s (IsStmt.for t l a b e c r d v y z q kind lk h g ek o rk j) = IsStmt.for t l a b e c r d v y z q kind lk h g ek o rk (weaken_stmt s j)
weaken_stmt s (IsStmt.switch t l a r o b e v xs kind lk h rk ok g ek) = IsStmt.switch t l a r o b e v xs kind lk h rk ok g ek
weaken_stmt s (IsStmt.break t r kind rk) = IsStmt.break t r kind rk
weaken_stmt s (IsStmt.continue t r kind rk) = IsStmt.continue t r kind rk
weaken_stmt s (IsStmt.return t a r v kind h rk) = IsStmt.return t a r v kind h rk

abbrev pub SoundS : TypeNames → Parser Stmt → Type 0
SoundS s rec = (ts : List Lexeme) → SaysR (rec ts) ts (λ a v r. IsStmt s (else_at r) a v)

-- what stands in a block, with the brace
pub record IsClosed (s : TypeNames) (a : List Lexeme) (vs : List Stmt) : Type 0 where
  pub inner : List Lexeme
  pub close : Lexeme
  pub all_is : a ≡ inner ++ close ∷ []
  pub are : AreItems s inner vs
  pub close_is : close.kind ≡ k.Mark p.RightBrace

record AreClosed (s : TypeNames) (a : List Lexeme) (vs : List Section) : Type 0 where
  inner : List Lexeme
  close : Lexeme
  all_is : a ≡ inner ++ close ∷ []
  are : AreSections s inner vs
  close_is : close.kind ≡ k.Mark p.RightBrace

module _ (s : TypeNames) (n : ℕ) (rec : Parser Stmt) (sound : SoundS s rec) where
  -- a statement, wherever it stands
  any_says : (ts : List Lexeme) → Says (rec ts) ts (λ a v. IsStmt s 0 a v)
  any_says ts = drop (rec ts) ts (λ a v. IsStmt s 0 a v) (weaker_r (rec ts) ts _ _ (λ a v r h. weaken_stmt s h) (sound ts))

  -- an item, and those behind it
  item_line : (found : List Stmt) (a : List Lexeme) (vs : List LocalDeclarator) (b : List Lexeme) (zs : List Stmt) → IsLine s a vs → (q : (ys : List Stmt) × (zs ≡ (found ++ locals_of vs) ++ ys) × IsClosed s b ys) → (ys : List Stmt) × (zs ≡ found ++ ys) × IsClosed s (a ++ b) ys
  item_line found a vs b zs h q =
      let c = q.2 in
      (locals_of vs ++ q.0, q.1 ∙ append_assoc found (locals_of vs) q.0, record { inner = a ++ c.inner; close = c.close; all_is = ap (λ z. a ++ z) c.all_is ∙ sym (append_assoc a c.inner (c.close ∷ [])); are = AreItems.line a c.inner vs q.0 h c.are; close_is = c.close_is })

  item_stmt : (found : List Stmt) (a : List Lexeme) (v : Stmt) (b : List Lexeme) (zs : List Stmt) → IsStmt s 0 a v → (q : (ys : List Stmt) × (zs ≡ (found ++ v ∷ []) ++ ys) × IsClosed s b ys) → (ys : List Stmt) × (zs ≡ found ++ ys) × IsClosed s (a ++ b) ys
  item_stmt found a v b zs h q =
      let c = q.2 in
      (v ∷ q.0, q.1 ∙ append_assoc found (v ∷ []) q.0, record { inner = a ++ c.inner; close = c.close; all_is = ap (λ z. a ++ z) c.all_is ∙ sym (append_assoc a c.inner (c.close ∷ [])); are = AreItems.statement a c.inner v q.0 h c.are; close_is = c.close_is })

  item_says : (go : List Stmt → Parser (List Stmt)) (found : List Stmt) (ts : List Lexeme) → ((found : List Stmt) (ts : List Lexeme) → Says (go found ts) ts (λ a zs. (ys : List Stmt) × (zs ≡ found ++ ys) × IsClosed s a ys))
      → Says (cond (begins_type s ts) (and_then (line s n ts) (λ vs. go (found ++ locals_of vs))) (and_then (rec ts) (λ v. go (found ++ v ∷ [])))) ts (λ a zs. (ys : List Stmt) × (zs ≡ found ++ ys) × IsClosed s a ys)
  item_says go found ts h = if_says (begins_type s ts) _ _ ts _
      (λ yes. bind_says (line s n ts) _ ts (λ a vs. IsLine s a vs) _ (line_says s n ts) (λ a vs r g. weaker (go (found ++ locals_of vs) r) r _ _ (λ b zs q. item_line found a vs b zs g q) (h (found ++ locals_of vs) r)))
      (λ other. bind_says (rec ts) _ ts (λ a v. IsStmt s 0 a v) _ (any_says ts) (λ a v r g. weaker (go (found ++ v ∷ []) r) r _ _ (λ b zs q. item_stmt found a v b zs g q) (h (found ++ v ∷ []) r)))

  pub items_says : (j : ℕ) (found : List Stmt) (ts : List Lexeme) → Says (items_from s n rec j found ts) ts (λ a zs. (ys : List Stmt) × (zs ≡ found ++ ys) × IsClosed s a ys)
  unfolding items_from
  items_says zero found ts = let close = lexeme_of (k.Mark p.RightBrace) in refused_says ts _ (close ∷ [], found, ([], sym (append-nil found), record { inner = []; close = close; all_is = refl; are = AreItems.nothing; close_is = refl }))
  items_says (suc j) found [] = item_says (items_from s n rec j) found [] (items_says j)
  items_says (suc j) found (t ∷ ts) = if_says (is_mark p.RightBrace t.kind) (Ok (found, ts)) _ (t ∷ ts) _
      (λ yes. token_says (Ok (found, ts)) t ts _ (ok_says found ts _ ([], sym (append-nil found), record { inner = []; close = t; all_is = refl; are = AreItems.nothing; close_is = mark_is p.RightBrace t.kind yes })))
      (λ other. item_says (items_from s n rec j) found (t ∷ ts) (items_says j))

  stmts_says : (j : ℕ) (found : List Stmt) (ts : List Lexeme) → Says (stmts_from s n rec j found ts) ts (λ a zs. (ys : List Stmt) × (zs ≡ found ++ ys) × AreStmts s a ys)
  unfolding stmts_from
  stmts_says zero found ts = refused_says ts _ ([], found, ([], sym (append-nil found), AreStmts.no_statement))
  stmts_says (suc j) found ts = if_says (ends_section ts) (Ok (found, ts)) _ ts _ (λ yes. ok_says found ts _ ([], sym (append-nil found), AreStmts.no_statement))
      (λ other. bind_says (rec ts) _ ts (λ a v. IsStmt s 0 a v) _ (any_says ts) (λ a v r g. weaker (stmts_from s n rec j (found ++ v ∷ []) r) r _ _ (λ b zs q. (v ∷ q.0, q.1 ∙ append_assoc found (v ∷ []) q.0, AreStmts.statements a b v q.0 g q.2)) (stmts_says j (found ++ v ∷ []) r)))

  -- a section, before others
  pub record IsSection (a : List Lexeme) (v : Section) : Type 0 where
    pub front : List Lexeme
    pub back : List Lexeme
    pub all_is : a ≡ front ++ back
    pub label_is : IsLabel s front v.label
    pub are : AreStmts s back v.statements

  pub section_says : (ts : List Lexeme) → Says (section s n rec ts) ts IsSection
  unfolding section
  section_says ts = bind_says (label s n ts) _ ts (λ a v. IsLabel s a v) _ (label_says s n ts) (λ a v r h. bind_says (stmts_from s n rec (length r) [] r) _ r _ _ (stmts_says (length r) [] r) (λ b ys z q.
      done_says (record { label = v; statements = ys }) b z (λ b v. IsSection (a ++ b) v) (record { front = a; back = b; all_is = refl; label_is = h; are = subst (λ w'. AreStmts s b w') (sym q.1) q.2 })))

  more_section : (found : List Section) (a : List Lexeme) (v : Section) (b : List Lexeme) (zs : List Section) → IsSection a v → (q : (ys : List Section) × (zs ≡ (found ++ v ∷ []) ++ ys) × AreClosed s b ys) → (ys : List Section) × (zs ≡ found ++ ys) × AreClosed s (a ++ b) ys
  more_section found a v b zs h q =
      let c = q.2 in
      let e : a ++ b ≡ (h.front ++ (h.back ++ c.inner)) ++ c.close ∷ [] = ap (λ z. a ++ z) c.all_is ∙ ap (λ z. z ++ (c.inner ++ c.close ∷ [])) h.all_is ∙ append_assoc h.front h.back (c.inner ++ c.close ∷ []) ∙ ap (λ z. h.front ++ z) (sym (append_assoc h.back c.inner (c.close ∷ []))) ∙ sym (append_assoc h.front (h.back ++ c.inner) (c.close ∷ [])) in
      (v ∷ q.0, q.1 ∙ append_assoc found (v ∷ []) q.0, record { inner = h.front ++ (h.back ++ c.inner); close = c.close; all_is = e; are = AreSections.section h.front h.back c.inner v.label v.statements q.0 h.label_is h.are c.are; close_is = c.close_is })

  sections_says : (j : ℕ) (found : List Section) (ts : List Lexeme) → Says (sections_from s n rec j found ts) ts (λ a zs. (ys : List Section) × (zs ≡ found ++ ys) × AreClosed s a ys)
  unfolding sections_from
  sections_says zero found ts = let close = lexeme_of (k.Mark p.RightBrace) in refused_says ts _ (close ∷ [], found, ([], sym (append-nil found), record { inner = []; close = close; all_is = refl; are = AreSections.no_section; close_is = refl }))
  sections_says (suc j) found [] = bind_says (section s n rec []) _ [] IsSection _ (section_says []) (λ a v r h. weaker _ r _ _ (λ b zs q. more_section found a v b zs h q) (sections_says j (found ++ v ∷ []) r))
  sections_says (suc j) found (t ∷ ts) = if_says (is_mark p.RightBrace t.kind) (Ok (found, ts)) _ (t ∷ ts) _
      (λ yes. token_says (Ok (found, ts)) t ts _ (ok_says found ts _ ([], sym (append-nil found), record { inner = []; close = t; all_is = refl; are = AreSections.no_section; close_is = mark_is p.RightBrace t.kind yes })))
      (λ other. bind_says (section s n rec (t ∷ ts)) _ (t ∷ ts) IsSection _ (section_says (t ∷ ts)) (λ a v r h. weaker _ r _ _ (λ b zs q. more_section found a v b zs h q) (sections_says j (found ++ v ∷ []) r)))

  -- ---- one by one

  abbrev IsStmtBefore : List Lexeme → Stmt → List Lexeme → Type 0
  IsStmtBefore a v r = IsStmt s (else_at r) a v

  -- the tokens of a condition and a statement
  group_tokens : (t l : Lexeme) (a : List Lexeme) (r : Lexeme) (b : List Lexeme) → t ∷ ((l ∷ a ++ r ∷ []) ++ b) ≡ (t ∷ l ∷ a) ++ (r ∷ b)
  group_tokens t l a r b = ap (λ z. t ∷ l ∷ z) (append_assoc a (r ∷ []) b)

  short_of : (t : Lexeme) (a b : List Lexeme) (v : Expr) (z : Stmt) (r : List Lexeme) → t.kind ≡ k.Word w.If → InBrackets s n a v → IsStmt s (else_at r) b z → is_keyword w.Else (kind_at r) ≡ false → IsStmt s (else_at r) (t ∷ (a ++ b)) (u.If v z None)
  short_of t a b v z r kind h g e =
      let low : else_at r ≡ 0 = ap (λ b. cond b 1 0) e in
      let f : IsStmt s 0 ((t ∷ h.left ∷ h.inner) ++ (h.right ∷ b)) (u.If v z None) = IsStmt.if_only t h.left h.inner h.right b v z (omega arith) kind h.open_is h.is h.close_is (subst (λ m. IsStmt s m b z) low g) in
      subst (λ m. IsStmt s m (t ∷ (a ++ b)) (u.If v z None)) (sym low) (subst (λ c. IsStmt s 0 c (u.If v z None)) (sym (ap (λ c. t ∷ (c ++ b)) h.whole_is ∙ group_tokens t h.left h.inner h.right b)) f)

  long_of : (t : Lexeme) (a b : List Lexeme) (o : Lexeme) (c : List Lexeme) (v : Expr) (z q : Stmt) (y : List Lexeme) → t.kind ≡ k.Word w.If → InBrackets s n a v → IsStmt s 1 b z → o.kind ≡ k.Word w.Else → IsStmt s (else_at y) c q → IsStmt s (else_at y) (t ∷ (a ++ (b ++ (o ∷ c)))) (u.If v z (Some q))
  long_of t a b o c v z q y kind h g ok j =
      let f : IsStmt s (else_at y) ((t ∷ h.left ∷ h.inner) ++ ((h.right ∷ b) ++ (o ∷ c))) (u.If v z (Some q)) = IsStmt.if_else t h.left h.inner h.right b o c v z q kind h.open_is h.is h.close_is g ok j in
      subst (λ d. IsStmt s (else_at y) d (u.If v z (Some q))) (sym (ap (λ d. t ∷ (d ++ (b ++ (o ∷ c)))) h.whole_is ∙ group_tokens t h.left h.inner h.right (b ++ (o ∷ c)))) f

  alternative_says : (t : Lexeme) (a b : List Lexeme) (v : Expr) (z : Stmt) (r : List Lexeme) → t.kind ≡ k.Word w.If → InBrackets s n a v → IsStmt s (else_at r) b z → SaysR (alternative s n rec v z r) r (λ c q y. IsStmt s (else_at y) (t ∷ (a ++ (b ++ c))) q)
  unfolding alternative
  alternative_says t a b v z [] kind h g = done_r (u.If v z None) b [] (λ c q y. IsStmt s (else_at y) (t ∷ (a ++ c)) q) (short_of t a b v z [] kind h g refl)
  alternative_says t a b v z (o ∷ r) kind h g = if_r (is_keyword w.Else o.kind) _ _ (o ∷ r) _
      (λ yes. token_r _ o r _ (bind_r (rec r) _ r IsStmtBefore _ (sound r) (λ c q y j. done_r (u.If v z (Some q)) c y (λ c q y. IsStmt s (else_at y) (t ∷ (a ++ (b ++ (o ∷ c)))) q)
      (long_of t a b o c v z q y kind h (subst (λ x. IsStmt s x b z) (ap (λ b. cond b 1 0) yes) g) (word_is w.Else o.kind yes) j))))
      (λ other. done_r (u.If v z None) b (o ∷ r) (λ c q y. IsStmt s (else_at y) (t ∷ (a ++ c)) q) (short_of t a b v z (o ∷ r) kind h g other))

  if_else_says : (t : Lexeme) (ts : List Lexeme) → t.kind ≡ k.Word w.If → SaysR (if_behind s n rec ts) ts (λ a v r. IsStmtBefore (t ∷ a) v r)
  unfolding if_behind
  if_else_says t ts kind = then_r (controlling_expression s n ts) _ ts (InBrackets s n) _ (condition_says s n ts) (λ a v r h. bind_r (rec r) _ r IsStmtBefore _ (sound r) (λ b z y g. alternative_says t a b v z y kind h g))

  while_says : (t : Lexeme) (ts : List Lexeme) → t.kind ≡ k.Word w.While → SaysR (while_behind s n rec ts) ts (λ a v r. IsStmtBefore (t ∷ a) v r)
  unfolding while_behind
  while_says t ts kind = then_r (controlling_expression s n ts) _ ts (InBrackets s n) _ (condition_says s n ts) (λ a v r h. bind_r (rec r) _ r IsStmtBefore _ (sound r) (λ b z y g.
      done_r (u.While v z) b y (λ b q y. IsStmtBefore (t ∷ (a ++ b)) q y) (subst (λ c. IsStmt s (else_at y) c (u.While v z)) (sym (ap (λ c. t ∷ (c ++ b)) h.whole_is ∙ group_tokens t h.left h.inner h.right b)) (IsStmt.while t h.left h.inner h.right b v z kind h.open_is h.is h.close_is g))))

  do_while_says : (t : Lexeme) (ts : List Lexeme) → t.kind ≡ k.Word w.Do → SaysR (do_behind s n rec ts) ts (λ a v r. IsStmtBefore (t ∷ a) v r)
  unfolding do_behind
  do_while_says t ts kind = then_r (rec ts) _ ts (λ a v. IsStmt s 0 a v) _ (any_says ts) (λ a z r h. expect_word_r w.While _ r _ (λ o y ok. then_r (controlling_expression s n y) _ y (InBrackets s n) _ (condition_says s n y) (λ b v x g. expect_r p.Semicolon _ x _ (λ e i ek.
      ok_r (u.Do z v) i _ (subst (λ c. IsStmt s (else_at i) (t ∷ (a ++ (o ∷ (c ++ e ∷ [])))) (u.Do z v)) (sym g.whole_is) (subst (λ c. IsStmt s (else_at i) (t ∷ (a ++ (o ∷ g.left ∷ c))) (u.Do z v)) (sym (append_assoc g.inner (g.right ∷ []) (e ∷ []))) (IsStmt.do_while t a o g.left g.inner g.right e v z kind h ok g.open_is g.is g.close_is ek)))))))

  for_says : (t : Lexeme) (ts : List Lexeme) → t.kind ≡ k.Word w.For → SaysR (for_behind s n rec ts) ts (λ a v r. IsStmtBefore (t ∷ a) v r)
  unfolding for_behind
  for_says t ts kind = expect_r p.LeftParen _ ts _ (λ l r1 lk. then_r (first_clause s n r1) _ r1 (λ a v. IsFirst s a v) _ (first_says s n r1) (λ a v r2 h. then_r (optional_expression s n p.Semicolon r2) _ r2 (λ a v. IsOptional s a v) _ (optional_says s n p.Semicolon r2) (λ b y r3 g.
      expect_r p.Semicolon _ r3 _ (λ e r4 ek. then_r (optional_expression s n p.RightParen r4) _ r4 (λ a v. IsOptional s a v) _ (optional_says s n p.RightParen r4) (λ c z r5 o. expect_r p.RightParen _ r5 _ (λ r r6 rk. bind_r (rec r6) _ r6 IsStmtBefore _ (sound r6) (λ d q r7 j.
      done_r (u.For v y z q) d r7 (λ d w' i. IsStmtBefore (t ∷ (l ∷ (a ++ (b ++ (e ∷ (c ++ (r ∷ d))))))) w' i) (IsStmt.for t l a b e c r d v y z q kind lk h g ek o rk j))))))))

  switch_says : (t : Lexeme) (ts : List Lexeme) → t.kind ≡ k.Word w.Switch → SaysR (switch_behind s n rec ts) ts (λ a v r. IsStmtBefore (t ∷ a) v r)
  unfolding switch_behind
  switch_says t ts kind = then_r (controlling_expression s n ts) _ ts (InBrackets s n) _ (condition_says s n ts) (λ a v r h. expect_r p.LeftBrace _ r _ (λ o y ok. then_r (sections_from s n rec (length y) [] y) _ y _ _ (sections_says (length y) [] y) (λ b vs i q.
      let c = q.2 in
      done_r (u.Switch v vs) b i (λ b w' i. IsStmtBefore (t ∷ (a ++ (o ∷ b))) w' i) (subst (λ d. IsStmt s (else_at i) (t ∷ (a ++ (o ∷ b))) (u.Switch v d)) (sym q.1) (subst (λ d. IsStmt s (else_at i) d (u.Switch v q.0)) (sym (ap (λ d. t ∷ (a ++ (o ∷ d))) c.all_is ∙ ap (λ d. t ∷ (d ++ (o ∷ (c.inner ++ c.close ∷ [])))) h.whole_is ∙ group_tokens t h.left h.inner h.right (o ∷ (c.inner ++ c.close ∷ []))))
      (IsStmt.switch t h.left h.inner h.right o c.inner c.close v q.0 kind h.open_is h.is h.close_is ok c.are c.close_is))))))

  return_says : (t : Lexeme) (ts : List Lexeme) → t.kind ≡ k.Word w.Return → SaysR (return_behind s n t.at ts) ts (λ a v r. IsStmtBefore (t ∷ a) v r)
  unfolding return_behind
  return_says t ts kind = then_r (optional_expression s n p.Semicolon ts) _ ts (λ a v. IsOptional s a v) _ (optional_says s n p.Semicolon ts) (λ a v r h. expect_r p.Semicolon _ r _ (λ e i ek. ok_r (u.Return t.at v) i _ (IsStmt.return t a e v kind h ek)))

  value_says : (ts : List Lexeme) → SaysR (value_line s n ts) ts IsStmtBefore
  unfolding value_line
  value_says ts = then_r (expression s n ts) _ ts (λ a v. IsWhole s a v) _ (expression_says s n ts) (λ a v r h. expect_r p.Semicolon _ r _ (λ e i ek. ok_r (u.Expression v) i _ (IsStmt.expression a e v h ek)))

  block_says : (l : Lexeme) (ts : List Lexeme) → l.kind ≡ k.Mark p.LeftBrace → SaysR (and_then (items_from s n rec (length ts) [] ts) (λ vs r. Ok (u.Block vs, r))) ts (λ a v r. IsStmtBefore (l ∷ a) v r)
  block_says l ts lk = then_r (items_from s n rec (length ts) [] ts) _ ts _ _ (items_says (length ts) [] ts) (λ b vs i q.
      let c = q.2 in
      done_r (u.Block vs) b i (λ b w' i. IsStmtBefore (l ∷ b) w' i) (subst (λ d. IsStmt s (else_at i) (l ∷ b) (u.Block d)) (sym q.1) (subst (λ d. IsStmt s (else_at i) (l ∷ d) (u.Block q.0)) (sym c.all_is) (IsStmt.block l c.inner c.close q.0 lk c.are c.close_is))))

  stmt_says : (kind : TokenKind) (t : Lexeme) (ts : List Lexeme) → t.kind ≡ kind → SaysR (stmt_by s n rec (head_of kind) (t ∷ ts)) (t ∷ ts) IsStmtBefore
  stmt_says (k.Mark p.LeftBrace) t ts kind = token_r _ t ts _ (block_says t ts kind)
  stmt_says (k.Mark p.Semicolon) t ts kind = token_r (Ok (u.Empty, ts)) t ts _ (ok_r u.Empty ts _ (IsStmt.empty t kind))
  stmt_says (k.Word w.If) t ts kind = token_r _ t ts _ (if_else_says t ts kind)
  stmt_says (k.Word w.While) t ts kind = token_r _ t ts _ (while_says t ts kind)
  stmt_says (k.Word w.Do) t ts kind = token_r _ t ts _ (do_while_says t ts kind)
  stmt_says (k.Word w.For) t ts kind = token_r _ t ts _ (for_says t ts kind)
  stmt_says (k.Word w.Switch) t ts kind = token_r _ t ts _ (switch_says t ts kind)
  stmt_says (k.Word w.Break) t ts kind = token_r _ t ts _ (expect_r p.Semicolon _ ts _ (λ r i rk. ok_r (u.Break t.at) i _ (IsStmt.break t r kind rk)))
  stmt_says (k.Word w.Continue) t ts kind = token_r _ t ts _ (expect_r p.Semicolon _ ts _ (λ r i rk. ok_r (u.Continue t.at) i _ (IsStmt.continue t r kind rk)))
  stmt_says (k.Word w.Return) t ts kind = token_r _ t ts _ (return_says t ts kind)
  stmt_says (k.Word _) t ts kind = value_says (t ∷ ts)
  stmt_says (k.Mark _) t ts kind = value_says (t ∷ ts)
  stmt_says _ t ts kind = value_says (t ∷ ts)

pub sound_stmt : (s : TypeNames) (n : ℕ) → SoundS s (stmt s n)
unfolding stmt
sound_stmt s zero ts = let end = lexeme_of (k.Mark p.Semicolon) in refused_r ts _ (end ∷ [], u.Empty, IsStmt.empty end refl)
sound_stmt s (suc n) [] = value_says s (suc n) (stmt s n) (sound_stmt s n) []
sound_stmt s (suc n) (t ∷ ts) = stmt_says s (suc n) (stmt s n) (sound_stmt s n) t.kind t ts refl
