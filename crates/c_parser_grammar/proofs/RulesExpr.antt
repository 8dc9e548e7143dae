-- The rules of expressions, one by one: what the parts read, the whole reads.
use Rattle.std.proofs.Common.{◌≡◌, ℕ, zero, suc, ◌≤◌, ◌<◌, Bool, true, false, cond, List, [], ◌∷◌, ◌++◌, length, Ok, refl, sym, ap, ◌∙◌, subst, append_assoc, length-append, arith}
use Rattle.c_lexer.specs.declared.token.TokenKind.{TokenKind}
use Rattle.c_lexer.specs.declared.token.TokenKind.TheVariants as k
use Rattle.c_lexer.specs.declared.token.Keyword.TheVariants as w
use Rattle.c_lexer.specs.declared.token.Punct.TheVariants as p
use Rattle.c_lexer.specs.Pieces.{Lexeme}
use Rattle.c_tree.specs.declared.expressions.Expr.{Expr}
use Rattle.c_tree.specs.declared.expressions.Expr as e
use Rattle.c_tree.specs.declared.expressions.UnaryOp.{UnaryOp}
use Rattle.c_tree.specs.declared.expressions.StepOp.{StepOp}
use Rattle.c_tree.specs.declared.expressions.BinaryOp.{BinaryOp}
use Rattle.c_tree.specs.declared.expressions.AssignOp.{AssignOp}
use Rattle.c_tree.specs.declared.types.TypeName.{TypeName}
use Rattle.c_parser_grammar.specs.declared.classes.Infix.TheVariants as i
use Rattle.c_parser_grammar.specs.declared.classes.Prefix.TheVariants as f
use Rattle.c_parser_grammar.specs.Classes.{infix_of, prefix_of, specifier_of}
use Rattle.c_parser_grammar.specs.Levels.{level_of, binding_level}
use Rattle.c_parser_grammar.specs.Tokens.{TypeNames, is_type, token_place, is_mark, is_name_token, is_text, kind_at, token_tail}
use Rattle.c_parser_grammar.specs.Types.{comma_of}
use Rattle.c_parser_grammar.specs.Grammar.{AreTexts}
use Rattle.c_parser_grammar.specs.Parser.{Parser}
use Rattle.c_parser_grammar.specs.ParseExpr.{texts_from, list_from, whole, type_name, arguments_behind, behind_name, cast_behind, brackets_behind, sizeof_type_name, sizeof_unary, operand_by, operand, member_name, expr, declarator}
use Rattle.c_parser_grammar.proofs.Outcomes.{is_mark_of, expect_at}
use Rattle.c_parser_grammar.proofs.Facts.{infix_at, gap, no_two, no_four, no_tight, no_comma, weak, no_type, begins_no_mark}
use Rattle.c_parser_grammar.proofs.ReadPlain.{ends_by, BeginsType}
use Rattle.c_parser_grammar.proofs.Reach.{below_is, place-append, Reaches, Reads, advance_by, start}
use Rattle.c_parser_grammar.proofs.First.{Begins, texts_first, NoCast}

abbrev pub ReadsWhole : TypeNames → List Lexeme → Expr → Type 0
ReadsWhole s a x = (n : ℕ) (r : List Lexeme) → length (a ++ r) ≤ n → binding_level (infix_at r) < 1 → whole s (expr s n) (declarator s n) (a ++ r) ≡ Ok (x, r)

abbrev pub ReadsListed : TypeNames → List Lexeme → List Expr → Type 0
ReadsListed s a xs = (n j : ℕ) (found : List Expr) (r : List Lexeme) → length (a ++ r) ≤ n → length (a ++ r) ≤ j → binding_level (infix_at r) < 1 → list_from (expr s n 2) j found (a ++ r) ≡ Ok (found ++ xs, r)

-- what may follow a type name or a declarator
pub record EndsKind (kind : TokenKind) : Type 0 where
  pub no_star : is_mark p.Star kind ≡ false
  pub no_paren : is_mark p.LeftParen kind ≡ false
  pub no_bracket : is_mark p.LeftBracket kind ≡ false
  pub no_name : is_name_token kind ≡ false
  pub stops : ends_by (specifier_of kind) ≡ true

abbrev pub ReadsType : TypeNames → List Lexeme → TypeName → Type 0
ReadsType s a ty = (n : ℕ) (r : List Lexeme) → length (a ++ r) ≤ n → EndsKind (kind_at r) → type_name s (expr s n) (declarator s n) (a ++ r) ≡ Ok (ty, r)

pub paren_ends : (kind : TokenKind) → kind ≡ k.Mark p.RightParen → EndsKind kind
paren_ends kind e = subst EndsKind (sym e) (record { no_star = refl; no_paren = refl; no_bracket = refl; no_name = refl; stops = refl })

-- ---- lists

pub list_last : {A : Type 0} (item : Parser A) (j : ℕ) (found : List A) (ts r : List Lexeme) (x : A) → 0 < j → item ts ≡ Ok (x, r) → is_mark p.Comma (kind_at r) ≡ false → list_from item j found ts ≡ Ok (found ++ x ∷ [], r)
unfolding list_from
list_last item zero found ts r x some e h = absurd (omega arith)
list_last item (suc j) found ts r x some e h = rw (e, h) refl

pub list_more : {A : Type 0} (item : Parser A) (j : ℕ) (found : List A) (ts : List Lexeme) (t : Lexeme) (r : List Lexeme) (x : A) → item ts ≡ Ok (x, t ∷ r) → t.kind ≡ k.Mark p.Comma
    → list_from item (suc j) found ts ≡ list_from item j (found ++ x ∷ []) r
unfolding list_from
list_more item j found ts t r x e kind = let h = is_mark_of p.Comma t.kind kind in rw (e, h) refl

pub comma_weak : (t : Lexeme) (r : List Lexeme) → t.kind ≡ k.Mark p.Comma → binding_level (infix_at (t ∷ r)) < 2
comma_weak t r e = weak t r p.Comma 2 e (omega arith)

texts_end : (s : TypeNames) (j : ℕ) (found : List (List ℕ)) (r : List Lexeme) → is_text (kind_at r) ≡ false → texts_from j found r ≡ Ok (found, r)
unfolding texts_from
texts_end s zero found r h = refl
texts_end s (suc j) found r h = rw h refl

text_turn : (s : TypeNames) (j : ℕ) (found : List (List ℕ)) (t : Lexeme) (r : List Lexeme) → t.kind ≡ k.Text → texts_from (suc j) found (t ∷ r) ≡ texts_from j (found ++ t.spelling ∷ []) r
unfolding texts_from
text_turn s j found t r kind = ap (λ kd. cond (is_text kd) (texts_from j (found ++ t.spelling ∷ []) r) (Ok (found, t ∷ r))) kind

texts_read : (s : TypeNames) {a : List Lexeme} {xs : List (List ℕ)} → AreTexts a xs → (j : ℕ) (found : List (List ℕ)) (r : List Lexeme) → length (a ++ r) ≤ j → is_text (kind_at r) ≡ false → texts_from j found (a ++ r) ≡ Ok (found ++ xs, r)
texts_read s (AreTexts.one t kind) zero found r le h = absurd (omega arith)
texts_read s (AreTexts.one t kind) (suc j) found r le h = text_turn s j found t r kind ∙ texts_end s j (found ++ t.spelling ∷ []) r h
texts_read s (AreTexts.more t a xs kind g) zero found r le h = absurd (omega arith)
texts_read s (AreTexts.more t a xs kind g) (suc j) found r le h =
    text_turn s j found t (a ++ r) kind ∙ texts_read s g j (found ++ t.spelling ∷ []) r (omega arith) h ∙ ap (λ z. Ok (z, r)) (append_assoc found (t.spelling ∷ []) xs)

-- what is the same on both ways
either : {A : Type 0} (b : Bool) (x v : A) → (b ≡ true → x ≡ v) → cond b x v ≡ v
either true x v f = f refl
either false x v f = refl

module _ (s : TypeNames) where
  pub name_rule : (m : ℕ) (t : Lexeme) → m ≤ 19 → t.kind ≡ k.Name → is_type s t ≡ false → Reaches s m (t ∷ []) (e.Name t.at t.spelling)
  unfolding operand behind_name
  name_rule m t low kind listed = start s m 19 (t ∷ []) (e.Name t.at t.spelling) low (omega arith) (λ n least r len under next.
      let other = (no_tight (kind_at r) (omega arith)).0 in
      ap (λ kd. operand_by s (expr s n) (declarator s n) least (prefix_of kd) (t ∷ r)) kind ∙ rw (listed, other) refl)

  pub number_rule : (m : ℕ) (t : Lexeme) → m ≤ 19 → t.kind ≡ k.Number → Reaches s m (t ∷ []) (e.Number t.at t.spelling)
  unfolding operand
  number_rule m t low kind = start s m 19 (t ∷ []) (e.Number t.at t.spelling) low (omega arith) (λ n least r len under next. ap (λ kd. operand_by s (expr s n) (declarator s n) least (prefix_of kd) (t ∷ r)) kind)

  pub character_rule : (m : ℕ) (t : Lexeme) → m ≤ 19 → t.kind ≡ k.Char → Reaches s m (t ∷ []) (e.Character t.at t.spelling)
  unfolding operand
  character_rule m t low kind = start s m 19 (t ∷ []) (e.Character t.at t.spelling) low (omega arith) (λ n least r len under next. ap (λ kd. operand_by s (expr s n) (declarator s n) least (prefix_of kd) (t ∷ r)) kind)

  pub texts_rule : (m : ℕ) (a : List Lexeme) (xs : List (List ℕ)) → m ≤ 19 → AreTexts a xs → Reaches s m a (e.Text (token_place a) xs)
  unfolding operand
  texts_rule m a xs low h =
      let g = texts_first s h in
      start s m 19 a (e.Text (token_place a) xs) low g.0 (λ n least r len under next.
      let q = texts_read s h (length (a ++ r)) [] r (omega arith) (no_tight (kind_at r) (omega arith)).1 in
      ap (λ kd. operand_by s (expr s n) (declarator s n) least (prefix_of kd) (a ++ r)) (g.1 r) ∙ rw q (ap (λ at. Ok ((e.Text at xs, 19), r)) (place-append a r g.0)))

  pub brackets_rule : (m : ℕ) (l : Lexeme) (a : List Lexeme) (r : Lexeme) (x : Expr) → m ≤ 19 → l.kind ≡ k.Mark p.LeftParen → Begins s a → ReadsWhole s a x → r.kind ≡ k.Mark p.RightParen
      → Reaches s m (l ∷ a ++ r ∷ []) x
  unfolding operand brackets_behind
  brackets_rule m l a r x low lk b h rk = start s m 19 (l ∷ a ++ r ∷ []) x low (omega arith) (λ n least u len under next.
      let q = append_assoc a (r ∷ []) u in
      let g = h n (r ∷ u) (subst (λ z. length z ≤ n) q (omega arith)) (weak r u p.RightParen 1 rk (omega arith)) in
      let o = expect_at r u p.RightParen rk in
      let c = no_type s (a ++ r ∷ u) (b.1 (r ∷ u)) in
      ap (λ kd. operand_by s (expr s n) (declarator s n) least (prefix_of kd) ((l ∷ a ++ r ∷ []) ++ u)) lk ∙ rw (q, c, g, o) refl)

  pub cast_rule : (m : ℕ) (l : Lexeme) (a : List Lexeme) (r : Lexeme) (b : List Lexeme) (ty : TypeName) (x : Expr) → m ≤ 16 → l.kind ≡ k.Mark p.LeftParen → BeginsType s a → ReadsType s a ty → r.kind ≡ k.Mark p.RightParen
      → Reads s 16 b x → Reaches s m (l ∷ a ++ r ∷ b) (e.Cast l.at ty x)
  unfolding operand cast_behind
  cast_rule m l a r b ty x low lk c h rk g = start s m 16 (l ∷ a ++ r ∷ b) (e.Cast l.at ty x) low (omega arith) (λ n least u len under next.
      let q = append_assoc a (r ∷ b) u in
      let all : length (a ++ (r ∷ b ++ u)) ≤ n = subst (λ z. length z ≤ n) q (omega arith) in
      let o = h n (r ∷ b ++ u) all (paren_ends r.kind rk) in
      let d = expect_at r (b ++ u) p.RightParen rk in
      let v = g n u (omega (arith, length-append a (r ∷ b ++ u))) (gap (infix_at u) (omega arith)) in
      let t = c.1 (r ∷ b ++ u) in
      let low = below_is least 17 (omega arith) in
      ap (λ kd. operand_by s (expr s n) (declarator s n) least (prefix_of kd) ((l ∷ a ++ r ∷ b) ++ u)) lk ∙ rw (q, t, low, o, d, v) refl)

  pub step_rule : (m : ℕ) (t : Lexeme) (a : List Lexeme) (op : UnaryOp) (x : Expr) → m ≤ 17 → prefix_of t.kind ≡ f.Step op → Reads s 17 a x → Reaches s m (t ∷ a) (e.Unary t.at op x)
  unfolding operand
  step_rule m t a op x low kind h = start s m 17 (t ∷ a) (e.Unary t.at op x) low (omega arith) (λ n least r len under next.
      let g = h n r (omega arith) (let l = gap (infix_at r) (omega arith) in omega arith) in
      ap (λ cl. operand_by s (expr s n) (declarator s n) least cl (t ∷ a ++ r)) kind ∙ rw g refl)

  pub unary_rule : (m : ℕ) (t : Lexeme) (a : List Lexeme) (op : UnaryOp) (x : Expr) → m ≤ 17 → prefix_of t.kind ≡ f.Unary op → Reads s 16 a x → Reaches s m (t ∷ a) (e.Unary t.at op x)
  unfolding operand
  unary_rule m t a op x low kind h = start s m 17 (t ∷ a) (e.Unary t.at op x) low (omega arith) (λ n least r len under next.
      let g = h n r (omega arith) (gap (infix_at r) (omega arith)) in
      ap (λ cl. operand_by s (expr s n) (declarator s n) least cl (t ∷ a ++ r)) kind ∙ rw g refl)

  pub size_rule : (m : ℕ) (t : Lexeme) (a : List Lexeme) (x : Expr) → m ≤ 17 → t.kind ≡ k.Word w.Sizeof → ((r : List Lexeme) → NoCast s (a ++ r)) → Reads s 17 a x → Reaches s m (t ∷ a) (e.SizeOfValue t.at x)
  unfolding operand sizeof_unary
  size_rule m t a x low kind c h = start s m 17 (t ∷ a) (e.SizeOfValue t.at x) low (omega arith) (λ n least r len under next.
      let g = h n r (omega arith) (let l = gap (infix_at r) (omega arith) in omega arith) in
      ap (λ kd. operand_by s (expr s n) (declarator s n) least (prefix_of kd) (t ∷ a ++ r)) kind
      ∙ either (is_mark p.LeftParen (kind_at (a ++ r))) _ (sizeof_unary s (expr s n) (declarator s n) t.at (a ++ r)) (λ yes. ap (λ b. cond b (sizeof_type_name s (expr s n) (declarator s n) t.at (token_tail (a ++ r))) (sizeof_unary s (expr s n) (declarator s n) t.at (a ++ r))) (c r yes))
      ∙ rw g refl)

  pub size_type_rule : (m : ℕ) (t l : Lexeme) (a : List Lexeme) (r : Lexeme) (ty : TypeName) → m ≤ 17 → t.kind ≡ k.Word w.Sizeof → l.kind ≡ k.Mark p.LeftParen → BeginsType s a → ReadsType s a ty → r.kind ≡ k.Mark p.RightParen
      → Reaches s m (t ∷ l ∷ a ++ r ∷ []) (e.SizeOfType t.at ty)
  unfolding operand sizeof_type_name
  size_type_rule m t l a r ty low kind lk c h rk = start s m 17 (t ∷ l ∷ a ++ r ∷ []) (e.SizeOfType t.at ty) low (omega arith) (λ n least u len under next.
      let q = append_assoc a (r ∷ []) u in
      let o = h n (r ∷ u) (subst (λ z. length z ≤ n) q (omega arith)) (paren_ends r.kind rk) in
      let d = expect_at r u p.RightParen rk in
      let b = c.1 (r ∷ u) in
      let v = is_mark_of p.LeftParen l.kind lk in
      ap (λ kd. operand_by s (expr s n) (declarator s n) least (prefix_of kd) ((t ∷ l ∷ a ++ r ∷ []) ++ u)) kind ∙ rw (v, q, b, o, d) refl)

  pub empty_call_rule : (m : ℕ) (t l r : Lexeme) → m ≤ 19 → t.kind ≡ k.Name → is_type s t ≡ false → l.kind ≡ k.Mark p.LeftParen → r.kind ≡ k.Mark p.RightParen
      → Reaches s m (t ∷ l ∷ r ∷ []) (e.Call t.at t.spelling [])
  unfolding operand behind_name arguments_behind
  empty_call_rule m t l r low kind listed lk rk = start s m 19 (t ∷ l ∷ r ∷ []) (e.Call t.at t.spelling []) low (omega arith) (λ n least u len under next.
      let v = is_mark_of p.LeftParen l.kind lk in
      let d = is_mark_of p.RightParen r.kind rk in
      ap (λ kd. operand_by s (expr s n) (declarator s n) least (prefix_of kd) (t ∷ l ∷ r ∷ u)) kind ∙ rw (listed, v, d) refl)

  pub call_rule : (m : ℕ) (t l : Lexeme) (a : List Lexeme) (r : Lexeme) (xs : List Expr) → m ≤ 19 → t.kind ≡ k.Name → is_type s t ≡ false → l.kind ≡ k.Mark p.LeftParen → Begins s a → ReadsListed s a xs → r.kind ≡ k.Mark p.RightParen
      → Reaches s m (t ∷ l ∷ a ++ r ∷ []) (e.Call t.at t.spelling xs)
  unfolding operand behind_name arguments_behind
  call_rule m t l a r xs low kind listed lk b h rk = start s m 19 (t ∷ l ∷ a ++ r ∷ []) (e.Call t.at t.spelling xs) low (omega arith) (λ n least u len under next.
      let q = append_assoc a (r ∷ []) u in
      let g = h n (length (a ++ r ∷ u)) [] (r ∷ u) (subst (λ z. length z ≤ n) q (omega arith)) (omega arith) (weak r u p.RightParen 1 rk (omega arith)) in
      let v = is_mark_of p.LeftParen l.kind lk in
      let o = begins_no_mark s (a ++ r ∷ u) p.RightParen refl (b.1 (r ∷ u)) in
      let d = expect_at r u p.RightParen rk in
      ap (λ kd. operand_by s (expr s n) (declarator s n) least (prefix_of kd) ((t ∷ l ∷ a ++ r ∷ []) ++ u)) kind ∙ rw (listed, v, q, o, g, d) refl)

  pub index_rule : (m : ℕ) (a : List Lexeme) (l : Lexeme) (b : List Lexeme) (r : Lexeme) (x z : Expr) → m ≤ 18 → 0 < length a → Reaches s 18 a x → l.kind ≡ k.Mark p.LeftBracket
      → ReadsWhole s b z → r.kind ≡ k.Mark p.RightBracket → Reaches s m (a ++ (l ∷ b ++ r ∷ [])) (e.Index (token_place a) x z)
  index_rule m a l b r x z low some h lk g rk =
      advance_by s m 18 i.Index l a (b ++ r ∷ []) x (e.Index (token_place a) x z) (ap infix_of lk) (record { low = low; under = omega arith; high = omega arith; demand = omega arith }) some h (λ n u len next.
      let q = append_assoc b (r ∷ []) u in
      let o = g n (r ∷ u) (subst (λ c. length c ≤ n) q len) (weak r u p.RightBracket 1 rk (omega arith)) in
      let d = expect_at r u p.RightBracket rk in
      rw (q, o, d) refl)

  pub field_rule : (m : ℕ) (a : List Lexeme) (t n : Lexeme) (x : Expr) → m ≤ 18 → 0 < length a → Reaches s 18 a x → t.kind ≡ k.Mark p.Dot → n.kind ≡ k.Name → Reaches s m (a ++ t ∷ n ∷ []) (e.Field (token_place a) x n.spelling)
  unfolding member_name
  field_rule m a t n x low some h tk nk =
      advance_by s m 18 i.Field t a (n ∷ []) x (e.Field (token_place a) x n.spelling) (ap infix_of tk) (record { low = low; under = omega arith; high = omega arith; demand = omega arith }) some h (λ d u len next. rw nk refl)

  pub arrow_rule : (m : ℕ) (a : List Lexeme) (t n : Lexeme) (x : Expr) → m ≤ 18 → 0 < length a → Reaches s 18 a x → t.kind ≡ k.Mark p.Arrow → n.kind ≡ k.Name → Reaches s m (a ++ t ∷ n ∷ []) (e.Arrow (token_place a) x n.spelling)
  unfolding member_name
  arrow_rule m a t n x low some h tk nk =
      advance_by s m 18 i.Arrow t a (n ∷ []) x (e.Arrow (token_place a) x n.spelling) (ap infix_of tk) (record { low = low; under = omega arith; high = omega arith; demand = omega arith }) some h (λ d u len next. rw nk refl)

  pub after_rule : (m : ℕ) (a : List Lexeme) (t : Lexeme) (op : StepOp) (x : Expr) → m ≤ 18 → 0 < length a → Reaches s 18 a x → infix_of t.kind ≡ i.Step op → Reaches s m (a ++ t ∷ []) (e.Postfix (token_place a) op x)
  after_rule m a t op x low some h kind =
      advance_by s m 18 (i.Step op) t a [] x (e.Postfix (token_place a) op x) kind (record { low = low; under = omega arith; high = omega arith; demand = omega arith }) some h (λ n u len next. refl)

  pub binary_rule : (m : ℕ) (a : List Lexeme) (t : Lexeme) (b : List Lexeme) (op : BinaryOp) (x z : Expr) → m ≤ level_of op → infix_of t.kind ≡ i.Binary op → 0 < length a
      → Reaches s (level_of op) a x → Reads s (suc (level_of op)) b z → Reaches s m (a ++ t ∷ b) (e.Binary (token_place a) op x z)
  binary_rule m a t b op x z low kind some h g =
      advance_by s m (level_of op) (i.Binary op) t a b x (e.Binary (token_place a) op x z) kind (record { low = low; under = omega arith; high = omega arith; demand = omega arith }) some h (λ n u len next.
      let o = g n u len (omega arith) in rw o refl)

  pub choose_rule : (m : ℕ) (a : List Lexeme) (t : Lexeme) (b : List Lexeme) (r : Lexeme) (d : List Lexeme) (x v z : Expr) → m ≤ 4 → 0 < length a → Reaches s 6 a x → t.kind ≡ k.Mark p.Question → ReadsWhole s b v → r.kind ≡ k.Mark p.Colon
      → Reads s 4 d z → Reaches s m (a ++ (t ∷ b ++ r ∷ d)) (e.Conditional (token_place a) x v z)
  choose_rule m a t b r d x v z low some h tk g rk o =
      advance_by s m 6 i.Conditional t a (b ++ r ∷ d) x (e.Conditional (token_place a) x v z) (ap infix_of tk) (record { low = low; under = omega arith; high = omega arith; demand = omega arith }) some h (λ n u len next.
      let q = append_assoc b (r ∷ d) u in
      let all : length (b ++ (r ∷ d ++ u)) ≤ n = subst (λ c. length c ≤ n) q len in
      let c = g n (r ∷ d ++ u) all (weak r (d ++ u) p.Colon 1 rk (omega arith)) in
      let y = expect_at r (d ++ u) p.Colon rk in
      let j = o n u (omega (arith, length-append b (r ∷ d ++ u))) (no_four (infix_at u) (omega arith)) in
      rw (q, c, y, j) refl)

  pub assign_rule : (m : ℕ) (a : List Lexeme) (t : Lexeme) (b : List Lexeme) (op : AssignOp) (x z : Expr) → m ≤ 2 → 0 < length a → Reaches s 17 a x → infix_of t.kind ≡ i.Assign op → Reads s 2 b z
      → Reaches s m (a ++ t ∷ b) (e.Assign (token_place a) op x z)
  assign_rule m a t b op x z low some h kind g =
      advance_by s m 17 (i.Assign op) t a b x (e.Assign (token_place a) op x z) kind (record { low = low; under = omega arith; high = omega arith; demand = omega arith }) some h (λ n u len next.
      let o = g n u len (no_two (infix_at u) (omega arith)) in rw o refl)

  pub one_rule : (a : List Lexeme) (x : Expr) → 0 < length a → Reads s 2 a x → ReadsListed s a (x ∷ [])
  one_rule a x some h n j found r len le next =
      list_last (expr s n 2) j found (a ++ r) r x (omega (arith, length-append a r)) (h n r len (omega arith)) (no_comma (kind_at r) next)

  pub more_rule : (a : List Lexeme) (t : Lexeme) (b : List Lexeme) (x : Expr) (xs : List Expr) → 0 < length a → Reads s 2 a x → t.kind ≡ k.Mark p.Comma → ReadsListed s b xs → ReadsListed s (a ++ t ∷ b) (x ∷ xs)
  more_rule a t b x xs some h kind g n zero found r len le next = absurd (omega (arith, length-append (a ++ t ∷ b) r, length-append a (t ∷ b)))
  more_rule a t b x xs some h kind g n (suc j) found r len le next =
      let q = append_assoc a (t ∷ b) r in
      let sizes = length-append a (t ∷ b ++ r) in
      let all : length (a ++ (t ∷ b ++ r)) ≤ n = subst (λ z. length z ≤ n) q len in
      let fit : length (a ++ (t ∷ b ++ r)) ≤ suc j = subst (λ z. length z ≤ suc j) q le in
      let o = h n (t ∷ b ++ r) all (comma_weak t (b ++ r) kind) in
      ap (list_from (expr s n 2) (suc j) found) q ∙ list_more (expr s n 2) j found (a ++ (t ∷ b ++ r)) t (b ++ r) x o kind ∙ g n j (found ++ x ∷ []) r (omega arith) (omega arith) next
      ∙ ap (λ z. Ok (z, r)) (append_assoc found (x ∷ []) xs)

  pub whole_rule : (a : List Lexeme) (xs : List Expr) → 0 < length a → ReadsListed s a xs → ReadsWhole s a (comma_of (token_place a) xs)
  unfolding whole
  whole_rule a xs some h n r len next =
      let g = h n (length (a ++ r)) [] r len (omega arith) next in
      rw g (ap (λ at. Ok (comma_of at xs, r)) (place-append a r some))
