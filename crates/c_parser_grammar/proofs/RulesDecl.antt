-- The rules of declarators, parameters and type names.
use Rattle.std.proofs.Common.{◌≡◌, ℕ, zero, suc, ◌≤◌, ◌<◌, Bool, true, false, cond, List, [], ◌∷◌, ◌++◌, length, Some, None, Ok, refl, sym, ap, ◌∙◌, subst, append_assoc, length-append, arith}
use Rattle.c_lexer.specs.declared.token.TokenKind.{TokenKind}
use Rattle.c_lexer.specs.declared.token.TokenKind.TheVariants as k
use Rattle.c_lexer.specs.declared.token.Punct.TheVariants as p
use Rattle.c_lexer.specs.Pieces.{Lexeme}
use Rattle.c_tree.specs.declared.expressions.Expr.{Expr}
use Rattle.c_tree.specs.declared.types.TypeNode.{TypeNode}
use Rattle.c_tree.specs.declared.types.TypeName.{TypeName}
use Rattle.c_tree.specs.declared.types.Parameter.{Parameter}
use Rattle.c_parser_grammar.specs.declared.shapes.Shape.TheVariants as sh
use Rattle.c_parser_grammar.specs.declared.shapes.Declarator.{Declarator}
use Rattle.c_parser_grammar.specs.declared.shapes.NameRequirement.{NameRequirement}
use Rattle.c_parser_grammar.specs.declared.shapes.NameRequirement.TheVariants as nm
use Rattle.c_parser_grammar.specs.Tokens.{TypeNames, is_type, token_place, is_mark, is_name_token, kind_at, token_tail}
use Rattle.c_parser_grammar.specs.Types.{takes_name, may_be_nameless, nameless, with_shape, with_shapes, parameter_of, without_void}
use Rattle.c_parser_grammar.specs.Grammar.{AreConsts, IsPlain}
use Rattle.c_parser_grammar.specs.Parser.{ParseOutcome, and_then}
use Rattle.c_parser_grammar.specs.ParseExpr.{list_from, type_name, parameter, parameters_behind, length_behind, suffixes, group_behind, core, pointer_declarator, expr, declarator}
use Rattle.c_parser_grammar.proofs.Outcomes.{no_true, is_mark_of, expect_at}
use Rattle.c_parser_grammar.proofs.Facts.{weak, begins_no_mark, type_no_mark}
use Rattle.c_parser_grammar.proofs.ReadPlain.{Stops, no_const, consts_all, plain_read, BeginsType, plain_begins}
use Rattle.c_parser_grammar.proofs.Reach.{place-append, Reads}
use Rattle.c_parser_grammar.proofs.First.{Begins}
use Rattle.c_parser_grammar.proofs.RulesExpr.{EndsKind, ReadsType, paren_ends, list_last, list_more}

-- what may stand behind a missing name
pub record Opens (r : List Lexeme) : Type 0 where
  pub no_star : is_mark p.Star (kind_at r) ≡ false
  pub no_name : is_name_token (kind_at r) ≡ false
  pub no_group : is_mark p.LeftParen (kind_at r) ≡ true → is_mark p.Star (kind_at (token_tail r)) ≡ false

pub record ReachedD (s : TypeNames) (n : ℕ) (naming : NameRequirement) (ts r : List Lexeme) (d : Declarator) : Type 0 where
  pub turns : ℕ
  pub enough : length r ≤ turns
  pub gives : declarator s (suc n) naming ts ≡ suffixes s (expr s n) (declarator s n) turns d r

abbrev pub ReachesD : TypeNames → NameRequirement → List Lexeme → Declarator → Type 0
ReachesD s naming a d = (n : ℕ) (r : List Lexeme) → length (a ++ r) ≤ n → Opens r → ReachedD s n naming (a ++ r) r d

abbrev pub ReadsD : TypeNames → NameRequirement → List Lexeme → Declarator → Type 0
ReadsD s naming a d = (n : ℕ) (r : List Lexeme) → length (a ++ r) < n → EndsKind (kind_at r) → declarator s n naming (a ++ r) ≡ Ok (d, r)

abbrev pub ReadsP : TypeNames → List Lexeme → Parameter → Type 0
ReadsP s a x = (n : ℕ) (r : List Lexeme) → length (a ++ r) ≤ n → EndsKind (kind_at r) → parameter s (expr s n) (declarator s n) (a ++ r) ≡ Ok (x, r)

abbrev pub ReadsPListed : TypeNames → List Lexeme → List Parameter → Type 0
ReadsPListed s a xs = (n j : ℕ) (found : List Parameter) (r : List Lexeme) → length (a ++ r) ≤ n → length (a ++ r) ≤ j → EndsKind (kind_at r) → is_mark p.Comma (kind_at r) ≡ false
    → list_from (parameter s (expr s n) (declarator s n)) j found (a ++ r) ≡ Ok (found ++ xs, r)

-- parameters up to the bracket that closes them
pub record ReadsParameters (s : TypeNames) (a : List Lexeme) (xs : List Parameter) : Type 0 where
  pub no_star : (r : Lexeme) (u : List Lexeme) → r.kind ≡ k.Mark p.RightParen → is_mark p.Star (kind_at (a ++ r ∷ u)) ≡ false
  pub gives : (n : ℕ) (r : Lexeme) (u : List Lexeme) → r.kind ≡ k.Mark p.RightParen → length (a ++ r ∷ u) ≤ n → parameters_behind s (expr s n) (declarator s n) (a ++ r ∷ u) ≡ Ok (xs, u)

ends_open : (r : List Lexeme) → EndsKind (kind_at r) → Opens r
ends_open r h = record { no_star = h.no_star; no_name = h.no_name; no_group = λ e. no_true (sym h.no_paren ∙ e) }

bracket_opens : (l : Lexeme) (r : List Lexeme) → l.kind ≡ k.Mark p.LeftBracket → Opens (l ∷ r)
bracket_opens l r e = record { no_star = ap (is_mark p.Star) e; no_name = ap is_name_token e; no_group = λ q. no_true (sym (ap (is_mark p.LeftParen) e) ∙ q) }

paren_opens : (l : Lexeme) (r : List Lexeme) → l.kind ≡ k.Mark p.LeftParen → is_mark p.Star (kind_at r) ≡ false → Opens (l ∷ r)
paren_opens l r e h = record { no_star = ap (is_mark p.Star) e; no_name = ap is_name_token e; no_group = λ q. h }

type_name_of : ℕ → TypeNode → List Lexeme → ParseOutcome TypeName
type_name_of at ty r = Ok (record { at = at; ty = ty }, r)

both_ways : {A : Type 0} (b : Bool) (x v z : A) → (b ≡ true → x ≡ z) → (b ≡ false → v ≡ z) → cond b x v ≡ z
both_ways true x v z f g = f refl
both_ways false x v z f g = g refl

module _ (s : TypeNames) where
  suffixes_end : (n j : ℕ) (d : Declarator) (r : List Lexeme) → EndsKind (kind_at r) → suffixes s (expr s n) (declarator s n) j d r ≡ Ok (d, r)
  unfolding suffixes
  suffixes_end n zero d r h = refl
  suffixes_end n (suc j) d r h = rw (h.no_bracket, h.no_paren) refl

  pub reads_d : (naming : NameRequirement) (a : List Lexeme) (d : Declarator) → ReachesD s naming a d → ReadsD s naming a d
  reads_d naming a d h zero r len ends = absurd (omega arith)
  reads_d naming a d h (suc n) r len ends = let g = h n r (omega arith) (ends_open r ends) in g.gives ∙ suffixes_end n g.turns d r ends

  pub star_rule : (naming : NameRequirement) (t : Lexeme) (a b : List Lexeme) (d : Declarator) → t.kind ≡ k.Mark p.Star → AreConsts a → ((r : List Lexeme) → Stops r → Stops (b ++ r)) → ReadsD s naming b d
      → ReadsD s naming (t ∷ a ++ b) (with_shape d sh.Pointer)
  unfolding declarator pointer_declarator
  star_rule naming t a b d kind c stops h zero r len ends = absurd (omega arith)
  star_rule naming t a b d kind c stops h (suc n) r len ends =
      let q = append_assoc a b r in
      let star = is_mark_of p.Star t.kind kind in
      let all : length (a ++ (b ++ r)) < n = subst (λ z. length z < n) q (omega arith) in
      let o = consts_all c (b ++ r) (no_const (b ++ r) (stops r ends.stops)) in
      let g = h n r (omega (arith, length-append a (b ++ r))) ends in
      rw (star, q, o, g) refl

  pub named_rule : (naming : NameRequirement) (t : Lexeme) → t.kind ≡ k.Name → takes_name naming (is_type s t) ≡ true → ReachesD s naming (t ∷ []) (record { name = Some (record { at = t.at; name = t.spelling }); shapes = [] })
  unfolding declarator core
  named_rule naming t kind takes n r len opens = record {
    turns = length r;
    enough = omega arith;
    gives =
        let no = ap (is_mark p.Star) kind in
        let yes = ap is_name_token kind in
        rw (no, yes, takes) refl;
  }

  nameless_core : (n : ℕ) (naming : NameRequirement) (r : List Lexeme) → may_be_nameless naming ≡ true → Opens r → core s (expr s n) (declarator s n) naming r ≡ Ok (nameless, r)
  unfolding core
  nameless_core n naming r may opens = rw opens.no_name (both_ways (is_mark p.LeftParen (kind_at r)) _ _ (Ok (nameless, r)) (λ yes. rw (opens.no_group yes, may) refl) (λ no. rw may refl))

  pub unnamed_rule : (naming : NameRequirement) → may_be_nameless naming ≡ true → ReachesD s naming [] nameless
  unfolding declarator
  unnamed_rule naming may n r len opens = record {
    turns = length r;
    enough = omega arith;
    gives =
        let o = nameless_core n naming r may opens in
        rw (opens.no_star, o) refl;
  }

  -- what is read behind a star
  starred_read : (naming : NameRequirement) (n : ℕ) (t : Lexeme) (ts r : List Lexeme) (d : Declarator) → t.kind ≡ k.Mark p.Star → declarator s (suc n) naming (t ∷ ts) ≡ Ok (d, r) → pointer_declarator s (expr s n) (declarator s n) naming ts ≡ Ok (d, r)
  unfolding declarator
  starred_read naming n t ts r d e g = sym (ap (λ b. cond b (pointer_declarator s (expr s n) (declarator s n) naming ts) (and_then (core s (expr s n) (declarator s n) naming (t ∷ ts)) (λ d r. suffixes s (expr s n) (declarator s n) (length r) d r))) (is_mark_of p.Star t.kind e)) ∙ g

  pub group_rule : (naming : NameRequirement) (l t : Lexeme) (a : List Lexeme) (r : Lexeme) (d : Declarator) → l.kind ≡ k.Mark p.LeftParen → t.kind ≡ k.Mark p.Star → ReadsD s naming (t ∷ a) d → r.kind ≡ k.Mark p.RightParen
      → ReachesD s naming (l ∷ t ∷ a ++ r ∷ []) d
  unfolding declarator core group_behind
  group_rule naming l t a r d lk tk h rk n u len opens = record {
    turns = length u;
    enough = omega arith;
    gives =
        let q = append_assoc a (r ∷ []) u in
        let no = ap (is_mark p.Star) lk in
        let nn = ap is_name_token lk in
        let lp = is_mark_of p.LeftParen l.kind lk in
        let star = is_mark_of p.Star t.kind tk in
        let g = starred_read naming n t (a ++ r ∷ u) (r ∷ u) d tk (h (suc n) (r ∷ u) (subst (λ z. length (t ∷ z) < suc n) q (omega arith)) (paren_ends r.kind rk)) in
        let o = expect_at r u p.RightParen rk in
        rw (no, nn, lp, star, q, g, o) refl;
  }

  -- one suffix more
  suffix_rule : (naming : NameRequirement) (a b : List Lexeme) (l : Lexeme) (d v : Declarator) → ReachesD s naming a d → ((r : List Lexeme) → Opens (l ∷ b ++ r))
      → ((n j : ℕ) (r : List Lexeme) → length (l ∷ b ++ r) ≤ n → length (l ∷ b ++ r) ≤ suc j → suffixes s (expr s n) (declarator s n) (suc j) d (l ∷ b ++ r) ≡ suffixes s (expr s n) (declarator s n) j v r)
      → ReachesD s naming (a ++ l ∷ b) v
  suffix_rule naming a b l d v h opens turn n r len next =
      let q : (a ++ l ∷ b) ++ r ≡ a ++ (l ∷ b ++ r) = append_assoc a (l ∷ b) r in
      let all : length (a ++ (l ∷ b ++ r)) ≤ n = subst (λ z. length z ≤ n) q len in
      let g = h n (l ∷ b ++ r) all (opens r) in
      suffix_step naming a b l d v n r g.turns g.enough (omega (arith, length-append a (l ∷ b ++ r))) (ap (declarator s (suc n) naming) q ∙ g.gives) (turn n)
    where
      suffix_step : (naming : NameRequirement) (a b : List Lexeme) (l : Lexeme) (d v : Declarator) (n : ℕ) (r : List Lexeme) (turns : ℕ) → length (l ∷ b ++ r) ≤ turns → length (l ∷ b ++ r) ≤ n
          → declarator s (suc n) naming ((a ++ l ∷ b) ++ r) ≡ suffixes s (expr s n) (declarator s n) turns d (l ∷ b ++ r)
          → ((j : ℕ) (r : List Lexeme) → length (l ∷ b ++ r) ≤ n → length (l ∷ b ++ r) ≤ suc j → suffixes s (expr s n) (declarator s n) (suc j) d (l ∷ b ++ r) ≡ suffixes s (expr s n) (declarator s n) j v r)
          → ReachedD s n naming ((a ++ l ∷ b) ++ r) r v
      suffix_step naming a b l d v n r zero le len e turn = absurd (omega arith)
      suffix_step naming a b l d v n r (suc j) le len e turn = record { turns = j; enough = omega (arith, length-append b r); gives = e ∙ turn j r len le }

  pub open_array_rule : (naming : NameRequirement) (a : List Lexeme) (l r : Lexeme) (d : Declarator) → ReachesD s naming a d → l.kind ≡ k.Mark p.LeftBracket → r.kind ≡ k.Mark p.RightBracket
      → ReachesD s naming (a ++ l ∷ r ∷ []) (with_shape d (sh.Array None))
  unfolding suffixes length_behind
  open_array_rule naming a l r d h lk rk = suffix_rule naming a (r ∷ []) l d (with_shape d (sh.Array None)) h (λ u. bracket_opens l (r ∷ u) lk) (λ n j u len le.
      let lb = is_mark_of p.LeftBracket l.kind lk in
      let rb = is_mark_of p.RightBracket r.kind rk in
      rw (lb, rb) refl)

  pub array_rule : (naming : NameRequirement) (a : List Lexeme) (l : Lexeme) (b : List Lexeme) (r : Lexeme) (d : Declarator) (x : Expr) → ReachesD s naming a d → l.kind ≡ k.Mark p.LeftBracket → Begins s b → Reads s 4 b x → r.kind ≡ k.Mark p.RightBracket
      → ReachesD s naming (a ++ (l ∷ b ++ r ∷ [])) (with_shape d (sh.Array (Some x)))
  unfolding suffixes length_behind
  array_rule naming a l b r d x h lk f g rk = suffix_rule naming a (b ++ r ∷ []) l d (with_shape d (sh.Array (Some x))) h (λ u. bracket_opens l ((b ++ r ∷ []) ++ u) lk) (λ n j u len le.
      let q = append_assoc b (r ∷ []) u in
      let lb = is_mark_of p.LeftBracket l.kind lk in
      let nb = begins_no_mark s (b ++ r ∷ u) p.RightBracket refl (f.1 (r ∷ u)) in
      let all : length (b ++ r ∷ u) ≤ n = subst (λ z. length z ≤ n) q (omega arith) in
      let o = g n (r ∷ u) all (weak r u p.RightBracket 4 rk (omega arith)) in
      let c = expect_at r u p.RightBracket rk in
      rw (lb, q, nb, o, c) refl)

  pub takes_rule : (naming : NameRequirement) (a : List Lexeme) (l : Lexeme) (b : List Lexeme) (r : Lexeme) (d : Declarator) (xs : List Parameter) → ReachesD s naming a d → l.kind ≡ k.Mark p.LeftParen → ReadsParameters s b xs → r.kind ≡ k.Mark p.RightParen
      → ReachesD s naming (a ++ (l ∷ b ++ r ∷ [])) (with_shape d (sh.Takes (without_void xs)))
  unfolding suffixes
  takes_rule naming a l b r d xs h lk g rk = suffix_rule naming a (b ++ r ∷ []) l d (with_shape d (sh.Takes (without_void xs))) h (λ u. paren_opens l ((b ++ r ∷ []) ++ u) lk (ap (λ z. is_mark p.Star (kind_at z)) (append_assoc b (r ∷ []) u) ∙ g.no_star r u rk)) (λ n j u len le.
      let q = append_assoc b (r ∷ []) u in
      let no = ap (is_mark p.LeftBracket) lk in
      let lp = is_mark_of p.LeftParen l.kind lk in
      let all : length (b ++ r ∷ u) ≤ n = subst (λ z. length z ≤ n) q (omega arith) in
      let o = g.gives n r u rk all in
      rw (no, lp, q, o) refl)

  pub no_parameter_rule : ReadsParameters s [] []
  unfolding parameters_behind
  no_parameter_rule = record { no_star = λ r u e. ap (is_mark p.Star) e; gives = λ n r u e len. let rp = is_mark_of p.RightParen r.kind e in rw rp refl }

  pub parameters_rule : (a : List Lexeme) (xs : List Parameter) → BeginsType s a → ReadsPListed s a xs → ReadsParameters s a xs
  unfolding parameters_behind
  parameters_rule a xs b h = record {
    no_star = λ r u e. type_no_mark s (a ++ r ∷ u) p.Star (b.1 (r ∷ u));
    gives = λ n r u e len.
        let no = type_no_mark s (a ++ r ∷ u) p.RightParen (b.1 (r ∷ u)) in
        let g = h n (length (a ++ r ∷ u)) [] (r ∷ u) len (omega arith) (paren_ends r.kind e) (ap (is_mark p.Comma) e) in
        let o = expect_at r u p.RightParen e in
        rw (no, g, o) refl;
  }

  pub one_parameter_rule : (a : List Lexeme) (x : Parameter) → 0 < length a → ReadsP s a x → ReadsPListed s a (x ∷ [])
  one_parameter_rule a x some h n j found r len le ends nc = list_last (parameter s (expr s n) (declarator s n)) j found (a ++ r) r x (omega (arith, length-append a r)) (h n r len ends) nc

  comma_ends : (kind : TokenKind) → kind ≡ k.Mark p.Comma → EndsKind kind
  comma_ends kind e = subst EndsKind (sym e) (record { no_star = refl; no_paren = refl; no_bracket = refl; no_name = refl; stops = refl })

  pub more_parameters_rule : (a : List Lexeme) (t : Lexeme) (b : List Lexeme) (x : Parameter) (xs : List Parameter) → 0 < length a → ReadsP s a x → t.kind ≡ k.Mark p.Comma → ReadsPListed s b xs → ReadsPListed s (a ++ t ∷ b) (x ∷ xs)
  more_parameters_rule a t b x xs some h kind g n zero found r len le ends nc = absurd (omega (arith, length-append (a ++ t ∷ b) r, length-append a (t ∷ b)))
  more_parameters_rule a t b x xs some h kind g n (suc j) found r len le ends nc =
      let q = append_assoc a (t ∷ b) r in
      let sizes = length-append a (t ∷ b ++ r) in
      let all : length (a ++ (t ∷ b ++ r)) ≤ n = subst (λ z. length z ≤ n) q len in
      let fit : length (a ++ (t ∷ b ++ r)) ≤ suc j = subst (λ z. length z ≤ suc j) q le in
      let o = h n (t ∷ b ++ r) all (comma_ends t.kind kind) in
      ap (list_from (parameter s (expr s n) (declarator s n)) (suc j) found) q ∙ list_more (parameter s (expr s n) (declarator s n)) j found (a ++ (t ∷ b ++ r)) t (b ++ r) x o kind
      ∙ g n j (found ++ x ∷ []) r (omega arith) (omega arith) ends nc ∙ ap (λ z. Ok (z, r)) (append_assoc found (x ∷ []) xs)

  pub parameter_rule : (a b : List Lexeme) (ty : TypeNode) (d : Declarator) → IsPlain s a ty → ((r : List Lexeme) → Stops r → Stops (b ++ r)) → ReadsD s nm.Optional b d → ReadsP s (a ++ b) (parameter_of (token_place a) ty d)
  unfolding parameter
  parameter_rule a b ty d h stops g n r len ends =
      let q = append_assoc a b r in
      let some = (plain_begins s h).0 in
      let all : length (a ++ (b ++ r)) ≤ n = subst (λ z. length z ≤ n) q len in
      let o = plain_read s h (b ++ r) (stops r ends.stops) in
      let c = g n r (omega (arith, length-append a (b ++ r))) ends in
      rw (q, o, c) (ap (λ at. Ok (parameter_of at ty d, r)) (place-append a (b ++ r) some))

  pub type_rule : (a b : List Lexeme) (ty : TypeNode) (d : Declarator) → IsPlain s a ty → ((r : List Lexeme) → Stops r → Stops (b ++ r)) → ReadsD s nm.Refused b d → ReadsType s (a ++ b) (record { at = token_place a; ty = with_shapes d.shapes ty })
  unfolding type_name type_name_of
  type_rule a b ty d h stops g n r len ends =
      let q = append_assoc a b r in
      let some = (plain_begins s h).0 in
      let all : length (a ++ (b ++ r)) ≤ n = subst (λ z. length z ≤ n) q len in
      let o = plain_read s h (b ++ r) (stops r ends.stops) in
      let c = g n r (omega (arith, length-append a (b ++ r))) ends in
      rw (q, o, c) (ap (λ at. type_name_of at (with_shapes d.shapes ty) r) (place-append a (b ++ r) some))
