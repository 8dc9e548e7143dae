-- Specifiers with braces: what is in the grammar is read.
use Rattle.std.proofs.Common.{◌≡◌, ℕ, zero, suc, ◌≤◌, ◌<◌, true, false, List, [], ◌∷◌, ◌++◌, length, Option, Some, Ok, refl, sym, ap, ◌∙◌, subst, append_assoc, length-append, arith}
use Rattle.c_lexer.specs.declared.token.TokenKind.{TokenKind}
use Rattle.c_lexer.specs.declared.token.TokenKind.TheVariants as k
use Rattle.c_lexer.specs.declared.token.Punct.{Punct}
use Rattle.c_lexer.specs.declared.token.Punct.TheVariants as p
use Rattle.c_lexer.specs.Pieces.{Lexeme}
use Rattle.c_tree.specs.declared.types.TypeNode.{TypeNode}
use Rattle.c_tree.specs.declared.types.TypeNode as y
use Rattle.c_tree.specs.declared.types.Declaration.{Declaration}
use Rattle.c_tree.specs.declared.types.Constant.{Constant}
use Rattle.c_parser_grammar.specs.declared.classes.Specifier.{Specifier}
use Rattle.c_parser_grammar.specs.declared.classes.Specifier.TheVariants as c
use Rattle.c_parser_grammar.specs.declared.shapes.Declarator.{Declarator}
use Rattle.c_parser_grammar.specs.declared.shapes.NameRequirement.{NameRequirement}
use Rattle.c_parser_grammar.specs.Classes.{specifier_of, begins_type_by}
use Rattle.c_parser_grammar.specs.Levels.{binding_level}
use Rattle.c_parser_grammar.specs.WordSets.{no_words}
use Rattle.c_parser_grammar.specs.Tokens.{TypeNames, is_type, is_mark, is_name_token, kind_at, begins_type}
use Rattle.c_parser_grammar.specs.Types.{may_be_nameless}
use Rattle.c_parser_grammar.specs.Grammar.{AreConsts, IsPlain, IsDeclarator}
use Rattle.c_parser_grammar.specs.Specifiers.{IsTag, IsDeclared, AreDeclared, IsConstant, AreConstants, IsSpecifier, AreMembers, IsMember}
use Rattle.c_parser_grammar.specs.Parser.{Parser}
use Rattle.c_parser_grammar.specs.ParseExpr.{tag_type}
use Rattle.c_parser_grammar.specs.ParseSpecifiers.{declaration, braced_list_from, enumerator, declarators_from, struct_declaration, struct_declarations_from, body, braces, tag_or_body, specifier}
use Rattle.c_parser_grammar.proofs.Outcomes.{no_true, is_mark_of, expect_at}
use Rattle.c_parser_grammar.proofs.Facts.{infix_at, weak, type_no_mark}
use Rattle.c_parser_grammar.proofs.Words.{turn}
use Rattle.c_parser_grammar.proofs.ReadPlain.{Stops, ends_by, no_const, consts_all, words_read, named_read, word_read, BeginsType, consts_begin, plain_begins}
use Rattle.c_parser_grammar.proofs.RulesExpr.{EndsKind}
use Rattle.c_parser_grammar.proofs.ReadExpr.{read_expr, read_declarator}

-- what may follow a specifier
pub record Follows (r : List Lexeme) : Type 0 where
  pub stops : Stops r
  pub no_brace : is_mark p.LeftBrace (kind_at r) ≡ false

mark_follows : (t : Lexeme) (r : List Lexeme) (m : Punct) → t.kind ≡ k.Mark m → is_mark p.LeftBrace (k.Mark m) ≡ false → Follows (t ∷ r)
mark_follows t r m e h = record { stops = ap (λ kd. ends_by (specifier_of kd)) e; no_brace = ap (is_mark p.LeftBrace) e ∙ h }

pub semicolon_follows : (t : Lexeme) (r : List Lexeme) → t.kind ≡ k.Mark p.Semicolon → Follows (t ∷ r)
semicolon_follows t r e = mark_follows t r p.Semicolon e refl

-- a declarator with a name begins so, and takes a token
pub record Fronts (a : List Lexeme) : Type 0 where
  pub some : 0 < length a
  pub follows : (r : List Lexeme) → Follows (a ++ r)
  pub no_end : (r : List Lexeme) → is_mark p.Semicolon (kind_at (a ++ r)) ≡ false

pub wider : (a b : List Lexeme) → Fronts a → Fronts (a ++ b)
wider a b h = record { some = let o = h.some in omega (arith, length-append a b); follows = λ r. subst Follows (sym (append_assoc a b r)) (h.follows (b ++ r)); no_end = λ r. ap (λ z. is_mark p.Semicolon (kind_at z)) (append_assoc a b r) ∙ h.no_end (b ++ r) }

pub declarator_fronts : (s : TypeNames) {naming : NameRequirement} {m : ℕ} {a : List Lexeme} {d : Declarator} → may_be_nameless naming ≡ false → IsDeclarator s naming m a d → Fronts a
declarator_fronts s n (IsDeclarator.star t a b d low kind c h) = record { some = omega arith; follows = λ r. mark_follows t ((a ++ b) ++ r) p.Star kind refl; no_end = λ r. ap (is_mark p.Semicolon) kind }
declarator_fronts s n (IsDeclarator.own_name t kind takes) = record { some = omega arith; follows = λ r. record { stops = ap (λ kd. ends_by (specifier_of kd)) kind; no_brace = ap (is_mark p.LeftBrace) kind }; no_end = λ r. ap (is_mark p.Semicolon) kind }
declarator_fronts s n (IsDeclarator.no_name may) = no_true (sym n ∙ may)
declarator_fronts s n (IsDeclarator.group l t a r d lk tk h rk) = record { some = omega arith; follows = λ u. mark_follows l ((t ∷ a ++ r ∷ []) ++ u) p.LeftParen lk refl; no_end = λ u. ap (is_mark p.Semicolon) lk }
declarator_fronts s n (IsDeclarator.open_array a l r d h lk rk) = wider a (l ∷ r ∷ []) (declarator_fronts s n h)
declarator_fronts s n (IsDeclarator.array a l b r d x h lk g rk) = wider a (l ∷ b ++ r ∷ []) (declarator_fronts s n h)
declarator_fronts s n (IsDeclarator.function a l b r d xs h lk g rk) = wider a (l ∷ b ++ r ∷ []) (declarator_fronts s n h)

pub declared_fronts : (s : TypeNames) {naming : NameRequirement} {ty : TypeNode} {a : List Lexeme} {d : Declaration} → may_be_nameless naming ≡ false → IsDeclared s naming ty a d → Fronts a
declared_fronts s n (IsDeclared.of a u shapes h) = declarator_fronts s n h

are_declared_fronts : (s : TypeNames) {ty : TypeNode} {a : List Lexeme} {ds : List Declaration} → AreDeclared s ty a ds → Fronts a
are_declared_fronts s (AreDeclared.one a d h) = declared_fronts s refl h
are_declared_fronts s (AreDeclared.more a t b d ds h kind g) = wider a (t ∷ b) (declared_fronts s refl h)

-- ---- declarators with their type

pub mark_ends : (kind : TokenKind) (m : Punct) → kind ≡ k.Mark m → EndsKind (k.Mark m) → EndsKind kind
mark_ends kind m e h = subst EndsKind (sym e) h

pub comma_ends : (kind : TokenKind) → kind ≡ k.Mark p.Comma → EndsKind kind
comma_ends kind e = mark_ends kind p.Comma e (record { no_star = refl; no_paren = refl; no_bracket = refl; no_name = refl; stops = refl })

pub semicolon_ends : (kind : TokenKind) → kind ≡ k.Mark p.Semicolon → EndsKind kind
semicolon_ends kind e = mark_ends kind p.Semicolon e (record { no_star = refl; no_paren = refl; no_bracket = refl; no_name = refl; stops = refl })

pub declared_read : (s : TypeNames) {naming : NameRequirement} {ty : TypeNode} {a : List Lexeme} {d : Declaration} → IsDeclared s naming ty a d → (n : ℕ) (r : List Lexeme) → length (a ++ r) < n → EndsKind (kind_at r) → declaration s n naming ty (a ++ r) ≡ Ok (d, r)
unfolding declaration
declared_read s (IsDeclared.of a u shapes h) n r len ends = let g = read_declarator s h n r len ends in rw g refl

are_declared_read : (s : TypeNames) {ty : TypeNode} {a : List Lexeme} {ds : List Declaration} → AreDeclared s ty a ds → (n j : ℕ) (found : List Declaration) (r : List Lexeme) → length (a ++ r) < n → length (a ++ r) ≤ j → EndsKind (kind_at r) → is_mark p.Comma (kind_at r) ≡ false
    → declarators_from s n j ty found (a ++ r) ≡ Ok (found ++ ds, r)
unfolding declarators_from
are_declared_read s (AreDeclared.one a d h) n zero found r len le ends other = let f = declared_fronts s refl h in let o = f.some in absurd (omega (arith, length-append a r))
are_declared_read s (AreDeclared.one a d h) n (suc j) found r len le ends other = let g = declared_read s h n r len ends in rw (g, other) refl
are_declared_read s (AreDeclared.more a t b d ds h kind g) n zero found r len le ends other = absurd (omega (arith, length-append (a ++ t ∷ b) r, length-append a (t ∷ b)))
are_declared_read s (AreDeclared.more {ty = ty} a t b d ds h kind g) n (suc j) found r len le ends other =
    let q = append_assoc a (t ∷ b) r in
    let sizes = length-append a (t ∷ b ++ r) in
    let all : length (a ++ (t ∷ b ++ r)) < n = subst (λ z. length z < n) q len in
    let fit : length (a ++ (t ∷ b ++ r)) ≤ suc j = subst (λ z. length z ≤ suc j) q le in
    let o = declared_read s h n (t ∷ b ++ r) all (comma_ends t.kind kind) in
    let v = is_mark_of p.Comma t.kind kind in
    rw (q, o, v) (are_declared_read s g n j (found ++ d ∷ []) r (omega arith) (omega arith) ends other ∙ ap (λ z. Ok (z, r)) (append_assoc found (d ∷ []) ds))

-- ---- enumeration constants

constant_name : (s : TypeNames) {a : List Lexeme} {x : Constant} → IsConstant s a x → (0 < length a) × ((r : List Lexeme) → is_mark p.RightBrace (kind_at (a ++ r)) ≡ false)
constant_name s (IsConstant.plain t kind listed) = (omega arith, λ r. ap (is_mark p.RightBrace) kind)
constant_name s (IsConstant.with_value t u a x kind listed uk h) = (omega arith, λ r. ap (is_mark p.RightBrace) kind)

constant_read : (s : TypeNames) {a : List Lexeme} {x : Constant} → IsConstant s a x → (n : ℕ) (r : List Lexeme) → length (a ++ r) ≤ n → binding_level (infix_at r) < 2 → is_mark p.Assign (kind_at r) ≡ false → enumerator s n (a ++ r) ≡ Ok (x, r)
unfolding enumerator
constant_read s (IsConstant.plain t kind listed) n r len under other = let nk = ap is_name_token kind in rw (nk, listed, other) refl
constant_read s (IsConstant.with_value t u a x kind listed uk h) n r len under other =
    let nk = ap is_name_token kind in
    let v = is_mark_of p.Assign u.kind uk in
    let g = read_expr s (omega arith) h n r (omega arith) (omega arith) in
    rw (nk, listed, v, g) refl

-- the comma and the brace are no values
comma_constant : (t : Lexeme) (r : List Lexeme) → t.kind ≡ k.Mark p.Comma → (binding_level (infix_at (t ∷ r)) < 2) × (is_mark p.Assign t.kind ≡ false)
comma_constant t r e = (weak t r p.Comma 2 e (omega arith), ap (is_mark p.Assign) e)

brace_constant : (t : Lexeme) (r : List Lexeme) → t.kind ≡ k.Mark p.RightBrace → (binding_level (infix_at (t ∷ r)) < 2) × (is_mark p.Assign t.kind ≡ false)
brace_constant t r e = (weak t r p.RightBrace 2 e (omega arith), ap (is_mark p.Assign) e)

-- steps of a list up to a brace
pub braced_last : {A : Type 0} (item : Parser A) (j : ℕ) (found : List A) (ts r : List Lexeme) (x : A) → 0 < j → item ts ≡ Ok (x, r) → is_mark p.Comma (kind_at r) ≡ false → braced_list_from item j found ts ≡ Ok (found ++ x ∷ [], r)
unfolding braced_list_from
braced_last item zero found ts r x some e h = absurd (omega arith)
braced_last item (suc j) found ts r x some e h = rw (e, h) refl

pub braced_comma : {A : Type 0} (item : Parser A) (j : ℕ) (found : List A) (ts : List Lexeme) (t : Lexeme) (r : List Lexeme) (x : A) → 0 < j → item ts ≡ Ok (x, t ∷ r) → t.kind ≡ k.Mark p.Comma → is_mark p.RightBrace (kind_at r) ≡ true
    → braced_list_from item j found ts ≡ Ok (found ++ x ∷ [], r)
unfolding braced_list_from
braced_comma item zero found ts t r x some e kind h = absurd (omega arith)
braced_comma item (suc j) found ts t r x some e kind h = let o = is_mark_of p.Comma t.kind kind in rw (e, o, h) refl

pub braced_more : {A : Type 0} (item : Parser A) (j : ℕ) (found : List A) (ts : List Lexeme) (t : Lexeme) (r : List Lexeme) (x : A) → item ts ≡ Ok (x, t ∷ r) → t.kind ≡ k.Mark p.Comma → is_mark p.RightBrace (kind_at r) ≡ false
    → braced_list_from item (suc j) found ts ≡ braced_list_from item j (found ++ x ∷ []) r
unfolding braced_list_from
braced_more item j found ts t r x e kind h = let o = is_mark_of p.Comma t.kind kind in rw (e, o, h) refl

constants_first : (s : TypeNames) {a : List Lexeme} {xs : List Constant} → AreConstants s a xs → (0 < length a) × ((r : List Lexeme) → is_mark p.RightBrace (kind_at (a ++ r)) ≡ false)
constants_first s (AreConstants.one a x h) = constant_name s h
constants_first s (AreConstants.last a t x h kind) = let g = constant_name s h in (omega (arith, length-append a (t ∷ []), g.0), λ r. ap (λ z. is_mark p.RightBrace (kind_at z)) (append_assoc a (t ∷ []) r) ∙ g.1 (t ∷ r))
constants_first s (AreConstants.more a t b x xs h kind o) = let g = constant_name s h in (omega (arith, length-append a (t ∷ b), g.0), λ r. ap (λ z. is_mark p.RightBrace (kind_at z)) (append_assoc a (t ∷ b) r) ∙ g.1 (t ∷ b ++ r))

constants_read : (s : TypeNames) {a : List Lexeme} {xs : List Constant} → AreConstants s a xs → (n j : ℕ) (found : List Constant) (r : Lexeme) (u : List Lexeme) → r.kind ≡ k.Mark p.RightBrace → length (a ++ r ∷ u) ≤ n → length (a ++ r ∷ u) ≤ j
    → braced_list_from (enumerator s n) j found (a ++ r ∷ u) ≡ Ok (found ++ xs, r ∷ u)
constants_read s (AreConstants.one a x h) n j found r u rk len le =
    let b = brace_constant r u rk in
    let g = constant_read s h n (r ∷ u) len b.0 b.1 in
    braced_last (enumerator s n) j found (a ++ r ∷ u) (r ∷ u) x (omega (arith, length-append a (r ∷ u))) g (ap (is_mark p.Comma) rk)
constants_read s (AreConstants.last a t x h kind) n j found r u rk len le =
    let q = append_assoc a (t ∷ []) (r ∷ u) in
    let all : length (a ++ (t ∷ r ∷ u)) ≤ n = subst (λ z. length z ≤ n) q len in
    let c = comma_constant t (r ∷ u) kind in
    let g = constant_read s h n (t ∷ r ∷ u) all c.0 c.1 in
    ap (braced_list_from (enumerator s n) j found) q ∙ braced_comma (enumerator s n) j found (a ++ (t ∷ r ∷ u)) t (r ∷ u) x (omega (arith, length-append (a ++ t ∷ []) (r ∷ u))) g kind (is_mark_of p.RightBrace r.kind rk)
constants_read s (AreConstants.more a t b x xs h kind o) n zero found r u rk len le = absurd (omega (arith, length-append (a ++ t ∷ b) (r ∷ u)))
constants_read s (AreConstants.more a t b x xs h kind o) n (suc j) found r u rk len le =
    let q = append_assoc a (t ∷ b) (r ∷ u) in
    let sizes = length-append a (t ∷ b ++ r ∷ u) in
    let all : length (a ++ (t ∷ b ++ r ∷ u)) ≤ n = subst (λ z. length z ≤ n) q len in
    let fit : length (a ++ (t ∷ b ++ r ∷ u)) ≤ suc j = subst (λ z. length z ≤ suc j) q le in
    let c = comma_constant t (b ++ r ∷ u) kind in
    let g = constant_read s h n (t ∷ b ++ r ∷ u) all c.0 c.1 in
    ap (braced_list_from (enumerator s n) (suc j) found) q ∙ braced_more (enumerator s n) j found (a ++ (t ∷ b ++ r ∷ u)) t (b ++ r ∷ u) x g kind ((constants_first s o).1 (r ∷ u))
    ∙ constants_read s o n j (found ++ x ∷ []) r u rk (omega arith) (omega arith) ∙ ap (λ z. Ok (z, r ∷ u)) (append_assoc found (x ∷ []) xs)

-- ---- specifiers

abbrev pub ReadsSpec : TypeNames → List Lexeme → TypeNode → Type 0
ReadsSpec s a ty = (n : ℕ) (r : List Lexeme) → length (a ++ r) ≤ n → Follows r → specifier s n (a ++ r) ≡ Ok (ty, r)

abbrev ReadsMember : TypeNames → List Lexeme → List Declaration → Type 0
ReadsMember s a ds = (n : ℕ) (r : List Lexeme) → length (a ++ r) < n → struct_declaration s n (specifier s n) (a ++ r) ≡ Ok (ds, r)

abbrev ReadsMembers : TypeNames → List Lexeme → List Declaration → Type 0
ReadsMembers s a ds = (n j : ℕ) (found : List Declaration) (r : Lexeme) (u : List Lexeme) → r.kind ≡ k.Mark p.RightBrace → length (a ++ r ∷ u) < n → length (a ++ r ∷ u) ≤ j
    → struct_declarations_from s n (specifier s n) j found (a ++ r ∷ u) ≡ Ok (found ++ ds, r ∷ u)

consts_no_brace : {b : List Lexeme} → AreConsts b → (r : List Lexeme) → is_mark p.LeftBrace (kind_at r) ≡ false → is_mark p.LeftBrace (kind_at (b ++ r)) ≡ false
consts_no_brace AreConsts.none r h = h
consts_no_brace (AreConsts.more t a e g) r h = ap (is_mark p.LeftBrace) e

module _ (s : TypeNames) where
  tag_alone : (n : ℕ) (class : Specifier) (at : ℕ) (v : Lexeme) (b r : List Lexeme) → v.kind ≡ k.Name → AreConsts b → Follows r → tag_or_body s n (specifier s n) class at (v ∷ b ++ r) ≡ Ok (tag_type class v.at v.spelling, r)
  unfolding tag_or_body
  tag_alone n class at v b r kind h next =
      let e = consts_all h r (no_const r next.stops) in
      let o = consts_no_brace h r next.no_brace in
      let nk = ap is_name_token kind in
      rw (nk, o, e) refl

  plain_spec : {a : List Lexeme} {ty : TypeNode} → IsPlain s a ty → ReadsSpec s a ty
  unfolding specifier
  plain_spec (IsPlain.words a x b h e) zero r len next = let o = (plain_begins s (IsPlain.words a x b h e)).0 in absurd (omega (arith, length-append a r))
  plain_spec (IsPlain.words a x b h e) (suc n) r len next = words_read s (tag_or_body s n (specifier s n)) h (length (a ++ r)) r b (omega arith) next.stops e
  plain_spec (IsPlain.type_name a t b h kind listed g) zero r len next = absurd (omega (arith, length-append (a ++ t ∷ b) r, length-append a (t ∷ b)))
  plain_spec (IsPlain.type_name a t b h kind listed g) (suc n) r len next = named_read s (tag_or_body s n (specifier s n)) a t b h kind listed g (length ((a ++ t ∷ b) ++ r)) r (omega arith) next.stops
  plain_spec (IsPlain.struct a t v b h kind vk g) zero r len next = absurd (omega (arith, length-append (a ++ t ∷ v ∷ b) r, length-append a (t ∷ v ∷ b)))
  plain_spec (IsPlain.struct a t v b h kind vk g) (suc n) r len next =
      let l = word_read s (tag_or_body s n (specifier s n)) a t (v ∷ b) c.Struct h (ap specifier_of kind) (length ((a ++ t ∷ v ∷ b) ++ r)) r (omega arith) in
      l.1 ∙ tag_alone n c.Struct t.at v b r vk g next
  plain_spec (IsPlain.enum a t v b h kind vk g) zero r len next = absurd (omega (arith, length-append (a ++ t ∷ v ∷ b) r, length-append a (t ∷ v ∷ b)))
  plain_spec (IsPlain.enum a t v b h kind vk g) (suc n) r len next =
      let l = word_read s (tag_or_body s n (specifier s n)) a t (v ∷ b) c.Enum h (ap specifier_of kind) (length ((a ++ t ∷ v ∷ b) ++ r)) r (omega arith) in
      l.1 ∙ tag_alone n c.Enum t.at v b r vk g next

  -- a tag, if there is one, and a brace
  tag_braces : (n : ℕ) (class : Specifier) (t : Lexeme) {b : List Lexeme} {at : ℕ} {name : Option (List ℕ)} → IsTag t b at name → (l : Lexeme) (r : List Lexeme) → l.kind ≡ k.Mark p.LeftBrace
      → tag_or_body s n (specifier s n) class t.at (b ++ l ∷ r) ≡ body s n (specifier s n) class at name r
  unfolding tag_or_body braces
  tag_braces n class t IsTag.none l r lk = let nk = ap is_name_token lk in let o = expect_at l r p.LeftBrace lk in rw (nk, o) refl
  tag_braces n class t (IsTag.some u uk) l r lk = let nk = ap is_name_token uk in let lb = is_mark_of p.LeftBrace l.kind lk in let o = expect_at l r p.LeftBrace lk in rw (nk, lb, o) refl

  struct_body : (n at : ℕ) (name : Option (List ℕ)) (a : List Lexeme) (r : Lexeme) (b u : List Lexeme) (ds : List Declaration) → ReadsMembers s a ds → r.kind ≡ k.Mark p.RightBrace → AreConsts b → length (a ++ (r ∷ b ++ u)) < n → Follows u
      → body s n (specifier s n) c.Struct at name (a ++ (r ∷ b ++ u)) ≡ Ok (y.Struct at name (Some ds), u)
  struct_body n at name a r b u ds h rk g len next =
      let o = h n (length (a ++ (r ∷ b ++ u))) [] r (b ++ u) rk len (omega arith) in
      let v = expect_at r (b ++ u) p.RightBrace rk in
      let q = consts_all g u (no_const u next.stops) in
      rw (o, v, q) refl

  enum_body : (n at : ℕ) (name : Option (List ℕ)) (a : List Lexeme) (r : Lexeme) (b u : List Lexeme) (xs : List Constant) → AreConstants s a xs → r.kind ≡ k.Mark p.RightBrace → AreConsts b → length (a ++ (r ∷ b ++ u)) ≤ n → Follows u
      → body s n (specifier s n) c.Enum at name (a ++ (r ∷ b ++ u)) ≡ Ok (y.Enum at name (Some xs), u)
  enum_body n at name a r b u xs h rk g len next =
      let o = constants_read s h n (length (a ++ (r ∷ b ++ u))) [] r (b ++ u) rk len (omega arith) in
      let v = expect_at r (b ++ u) p.RightBrace rk in
      let q = consts_all g u (no_const u next.stops) in
      rw (o, v, q) refl

  -- the tokens of a specifier with braces
  regroup : (a b e : List Lexeme) (t l r : Lexeme) (d u : List Lexeme) → (a ++ (t ∷ b ++ (l ∷ e ++ r ∷ d))) ++ u ≡ (a ++ (t ∷ (b ++ (l ∷ (e ++ (r ∷ d ++ u))))))
  regroup a b e t l r d u = append_assoc a (t ∷ b ++ (l ∷ e ++ r ∷ d)) u ∙ ap (λ z. a ++ (t ∷ z)) (append_assoc b (l ∷ e ++ r ∷ d) u ∙ ap (λ z. b ++ (l ∷ z)) (append_assoc e (r ∷ d) u))

  braced_spec : (class : Specifier) (ty : TypeNode) (a : List Lexeme) (t : Lexeme) (b : List Lexeme) (l : Lexeme) (e : List Lexeme) (r : Lexeme) (d : List Lexeme) (at : ℕ) (name : Option (List ℕ))
      → AreConsts a → specifier_of t.kind ≡ class → IsTag t b at name → l.kind ≡ k.Mark p.LeftBrace
      → ((on : Specifier → ℕ → Parser TypeNode) (j : ℕ) (r : List Lexeme) → turn s on j no_words class (t ∷ r) ≡ on class t.at r)
      → ((n : ℕ) (u : List Lexeme) → length (e ++ (r ∷ d ++ u)) < n → Follows u → body s n (specifier s n) class at name (e ++ (r ∷ d ++ u)) ≡ Ok (ty, u))
      → ReadsSpec s (a ++ (t ∷ b ++ (l ∷ e ++ r ∷ d))) ty
  unfolding specifier
  braced_spec class ty a t b l e r d at name c kind g lk on h zero u len next = absurd (omega (arith, length-append (a ++ (t ∷ b ++ (l ∷ e ++ r ∷ d))) u, length-append a (t ∷ b ++ (l ∷ e ++ r ∷ d))))
  braced_spec class ty a t b l e r d at name c kind g lk on h (suc n) u len next =
      let q = regroup a b e t l r d u in
      let k' = word_read s (tag_or_body s n (specifier s n)) a t (b ++ (l ∷ e ++ r ∷ d)) class c kind (length ((a ++ (t ∷ b ++ (l ∷ e ++ r ∷ d))) ++ u)) u (omega arith) in
      let inner : (b ++ (l ∷ e ++ r ∷ d)) ++ u ≡ b ++ (l ∷ (e ++ (r ∷ d ++ u))) = append_assoc b (l ∷ e ++ r ∷ d) u ∙ ap (λ z. b ++ (l ∷ z)) (append_assoc e (r ∷ d) u) in
      let all : length (a ++ (t ∷ (b ++ (l ∷ (e ++ (r ∷ d ++ u)))))) ≤ suc n = subst (λ z. length z ≤ suc n) q len in
      k'.1 ∙ on (tag_or_body s n (specifier s n)) k'.0 ((b ++ (l ∷ e ++ r ∷ d)) ++ u) ∙ ap (tag_or_body s n (specifier s n) class t.at) inner ∙ tag_braces n class t g l (e ++ (r ∷ d ++ u)) lk
      ∙ h n u (omega (arith, length-append a (t ∷ (b ++ (l ∷ (e ++ (r ∷ d ++ u))))), length-append b (l ∷ (e ++ (r ∷ d ++ u))))) next

  spec_begins : {a : List Lexeme} {ty : TypeNode} → IsSpecifier s a ty → BeginsType s a
  spec_begins (IsSpecifier.plain a ty h) = plain_begins s h
  spec_begins (IsSpecifier.struct a t b l e r d at name ds h kind g lk o rk v) = consts_begin s h t (b ++ (l ∷ e ++ r ∷ d)) (omega arith, λ u. ap (λ kd. begins_type_by (specifier_of kd) (is_type s t)) kind)
  spec_begins (IsSpecifier.enum a t b l e r d at name xs h kind g lk o rk v) = consts_begin s h t (b ++ (l ∷ e ++ r ∷ d)) (omega arith, λ u. ap (λ kd. begins_type_by (specifier_of kd) (is_type s t)) kind)

  pub member_begins : {a : List Lexeme} {ds : List Declaration} → IsMember s a ds → BeginsType s a
  member_begins (IsMember.member a b t ty ds h g kind) = let o = spec_begins h in (omega (arith, length-append a (b ++ t ∷ []), o.0), λ r. ap (begins_type s) (append_assoc a (b ++ t ∷ []) r) ∙ o.1 ((b ++ t ∷ []) ++ r))

  members_begin : {a : List Lexeme} {ds : List Declaration} → AreMembers s a ds → BeginsType s a
  members_begin (AreMembers.one a ds h) = member_begins h
  members_begin (AreMembers.more a b ds es h g) = let o = member_begins h in (omega (arith, length-append a b, o.0), λ r. ap (begins_type s) (append_assoc a b r) ∙ o.1 (b ++ r))

  member_rule : (a b : List Lexeme) (t : Lexeme) (ty : TypeNode) (ds : List Declaration) → 0 < length a → ReadsSpec s a ty → AreDeclared s ty b ds → t.kind ≡ k.Mark p.Semicolon → ReadsMember s (a ++ (b ++ t ∷ [])) ds
  unfolding struct_declaration
  member_rule a b t ty ds some h g kind n r len =
      let q : (a ++ (b ++ t ∷ [])) ++ r ≡ a ++ (b ++ (t ∷ r)) = append_assoc a (b ++ t ∷ []) r ∙ ap (λ z. a ++ z) (append_assoc b (t ∷ []) r) in
      let all : length (a ++ (b ++ (t ∷ r))) < n = subst (λ z. length z < n) q len in
      let sizes = length-append a (b ++ (t ∷ r)) in
      let f = are_declared_fronts s g in
      let o = h n (b ++ (t ∷ r)) (omega arith) (f.follows (t ∷ r)) in
      let v = are_declared_read s g n (length (b ++ (t ∷ r))) [] (t ∷ r) (omega arith) (omega arith) (semicolon_ends t.kind kind) (ap (is_mark p.Comma) kind) in
      let e = expect_at t r p.Semicolon kind in
      rw (q, o, v, e) refl

  one_member : (a : List Lexeme) (ds : List Declaration) → 0 < length a → ReadsMember s a ds → ReadsMembers s a ds
  unfolding struct_declarations_from
  one_member a ds some h n zero found r u rk len le = absurd (omega (arith, length-append a (r ∷ u)))
  one_member a ds some h n (suc j) found r u rk len le = let o = h n (r ∷ u) len in let v = is_mark_of p.RightBrace r.kind rk in rw (o, v) refl

  more_members : (a b : List Lexeme) (ds es : List Declaration) → 0 < length a → ReadsMember s a ds → BeginsType s b → ReadsMembers s b es → ReadsMembers s (a ++ b) (ds ++ es)
  unfolding struct_declarations_from
  more_members a b ds es some h c g n zero found r u rk len le = absurd (omega (arith, length-append (a ++ b) (r ∷ u)))
  more_members a b ds es some h c g n (suc j) found r u rk len le =
      let q = append_assoc a b (r ∷ u) in
      let sizes = length-append a (b ++ r ∷ u) in
      let all : length (a ++ (b ++ r ∷ u)) < n = subst (λ z. length z < n) q len in
      let fit : length (a ++ (b ++ r ∷ u)) ≤ suc j = subst (λ z. length z ≤ suc j) q le in
      let o = h n (b ++ r ∷ u) all in
      let v = type_no_mark s (b ++ r ∷ u) p.RightBrace (c.1 (r ∷ u)) in
      rw (q, o, v) (g n j (found ++ ds) r u rk (omega arith) (omega arith) ∙ ap (λ z. Ok (z, r ∷ u)) (append_assoc found ds es))

  mutual
    pub read_specifier : {a : List Lexeme} {ty : TypeNode} → IsSpecifier s a ty → ReadsSpec s a ty
    read_specifier (IsSpecifier.plain a ty h) = plain_spec h
    read_specifier (IsSpecifier.struct a t b l e r d at name ds h kind g lk o rk v) = braced_spec c.Struct (y.Struct at name (Some ds)) a t b l e r d at name h (ap specifier_of kind) g lk (λ on j r. refl) (λ n u len next. struct_body n at name e r d u ds (read_members o) rk v len next)
    read_specifier (IsSpecifier.enum a t b l e r d at name xs h kind g lk o rk v) = braced_spec c.Enum (y.Enum at name (Some xs)) a t b l e r d at name h (ap specifier_of kind) g lk (λ on j r. refl) (λ n u len next. enum_body n at name e r d u xs o rk v (omega arith) next)

    read_members : {a : List Lexeme} {ds : List Declaration} → AreMembers s a ds → ReadsMembers s a ds
    read_members (AreMembers.one a ds h) = one_member a ds (member_begins h).0 (read_member h)
    read_members (AreMembers.more a b ds es h g) = more_members a b ds es (member_begins h).0 (read_member h) (members_begin g) (read_members g)

    read_member : {a : List Lexeme} {ds : List Declaration} → IsMember s a ds → ReadsMember s a ds
    read_member (IsMember.member a b t ty ds h g kind) = member_rule a b t ty ds (spec_begins h).0 (read_specifier h) g kind

  pub specifier_begins : {a : List Lexeme} {ty : TypeNode} → IsSpecifier s a ty → BeginsType s a
  specifier_begins h = spec_begins h
