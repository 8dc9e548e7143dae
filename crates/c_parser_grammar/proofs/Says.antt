-- What a function that reads says of the tokens that it took and of what it made of them.
use Rattle.std.proofs.Common.{◌≡◌, ℕ, zero, suc, Bool, true, false, cond, List, [], ◌∷◌, ◌++◌, Ok, Err, refl, sym, ap, ◌∙◌, subst, append_assoc, append-nil}
use Rattle.c_lexer.specs.declared.token.TokenKind.{TokenKind}
use Rattle.c_lexer.specs.declared.token.TokenKind.TheVariants as k
use Rattle.c_lexer.specs.declared.token.Keyword.{Keyword}
use Rattle.c_lexer.specs.declared.token.Keyword.TheVariants as w
use Rattle.c_lexer.specs.declared.token.Punct.{Punct}
use Rattle.c_lexer.specs.declared.token.Punct.TheVariants as p
use Rattle.c_lexer.specs.Pieces.{Lexeme}
use Rattle.c_parser_grammar.specs.Tokens.{is_mark, is_keyword, kind_at, token_tail}
use Rattle.c_parser_grammar.specs.Grammar.{AreConsts}
use Rattle.c_parser_grammar.specs.Parser.{ParseOutcome, Parser, and_then, expect, expect_word, consts}
use Rattle.c_parser_grammar.specs.ParseExpr.{list_from}
use Rattle.c_parser_grammar.proofs.Outcomes.{no_ok, no_err, same_ok, same_err, mark_is, word_is}

-- a list and a tree that are so related
abbrev pub Instance : {A : Type 0} → (List Lexeme → A → Type 0) → Type 0
Instance {A} T = (a : List Lexeme) × (x : A) × T a x

-- These are the last of the tokens, and those before them begin a list that is so related to a tree.
abbrev pub Viable : {A : Type 0} → List Lexeme → List Lexeme → (List Lexeme → A → Type 0) → Type 0
Viable {A} r ts T = (a : List Lexeme) × (ts ≡ a ++ r) × (more : List Lexeme) × (x : A) × T (a ++ more) x

-- Where the outcome is a tree and the tokens behind it, those before them and the tree are so related; else it is
-- the tokens from the refused one on, and those before them can be completed.
pub record Says {A : Type 0} (o : ParseOutcome A) (ts : List Lexeme) (T : List Lexeme → A → Type 0) : Type 0 where
  pub by : (q : A × List Lexeme) → o ≡ Ok q → (a : List Lexeme) × (ts ≡ a ++ q.1) × T a q.0
  pub stops : (r : List Lexeme) → o ≡ Err r → Viable r ts T

-- a token of this kind
abbrev pub lexeme_of : TokenKind → Lexeme
lexeme_of kind = record { kind = kind; spelling = []; at = 0; len = 0 }

-- what is said of any tokens is so of some
pub some_of : {A : Type 0} (o : ParseOutcome A) (ts : List Lexeme) (T : List Lexeme → A → Type 0) → Says o ts T → Instance T
some_of (Ok q) ts T h = let u = h.by q refl in (u.0, q.0, u.2)
some_of (Err r) ts T h = let u = h.stops r refl in (u.0 ++ u.2, u.3, u.4)

pub ok_says : {A : Type 0} (x : A) (ts : List Lexeme) (T : List Lexeme → A → Type 0) → T [] x → Says (Ok (x, ts)) ts T
ok_says x ts T h = record { by = λ q e. subst (λ q. (a : List Lexeme) × (ts ≡ a ++ q.1) × T a q.0) (same_ok e) ([], refl, h); stops = λ r e. no_err e }

pub err_says : {A : Type 0} (r ts : List Lexeme) (T : List Lexeme → A → Type 0) → Viable r ts T → Says (Err r) ts T
err_says r ts T v = record { by = λ q e. no_ok e; stops = λ q e. subst (λ z. Viable z ts T) (same_err e) v }

-- the first token is refused
pub refused_says : {A : Type 0} (ts : List Lexeme) (T : List Lexeme → A → Type 0) → Instance T → Says (Err ts) ts T
refused_says ts T c = err_says ts ts T ([], refl, c.0, c.1, c.2)

bound_at : {A B : Type 0} (o : ParseOutcome A) (f : A → Parser B) (ts : List Lexeme) (R : List Lexeme → A → Type 0) (T : List Lexeme → B → Type 0) → Says o ts R
    → ((a : List Lexeme) (x : A) (r : List Lexeme) → ts ≡ a ++ r → R a x → Says (f x r) r (λ b z. T (a ++ b) z))
    → (q : B × List Lexeme) → and_then o f ≡ Ok q → (c : List Lexeme) × (ts ≡ c ++ q.1) × T c q.0
bound_at (Ok (x, r)) f ts R T h g q e =
    let u = h.by (x, r) refl in
    let v = (g u.0 x r u.1 u.2).by q e in
    (u.0 ++ v.0, u.1 ∙ ap (λ z. u.0 ++ z) v.1 ∙ sym (append_assoc u.0 v.0 q.1), v.2)
bound_at (Err r) f ts R T h g q e = no_ok e

bound_end : {A B : Type 0} (o : ParseOutcome A) (f : A → Parser B) (ts : List Lexeme) (R : List Lexeme → A → Type 0) (T : List Lexeme → B → Type 0) → Says o ts R
    → ((a : List Lexeme) (x : A) (r : List Lexeme) → ts ≡ a ++ r → R a x → Says (f x r) r (λ b z. T (a ++ b) z))
    → ((a : List Lexeme) (x : A) → R a x → Instance (λ b z. T (a ++ b) z))
    → (q : List Lexeme) → and_then o f ≡ Err q → Viable q ts T
bound_end (Ok (x, r)) f ts R T h g c q e =
    let u = h.by (x, r) refl in
    let v = (g u.0 x r u.1 u.2).stops q e in
    (u.0 ++ v.0, u.1 ∙ ap (λ z. u.0 ++ z) v.1 ∙ sym (append_assoc u.0 v.0 q), v.2, v.3, subst (λ d. T d v.3) (sym (append_assoc u.0 v.0 v.2)) v.4)
bound_end (Err r) f ts R T h g c q e =
    let u = h.stops r refl in
    let v = c (u.0 ++ u.2) u.3 u.4 in
    (u.0, u.1 ∙ ap (λ z. u.0 ++ z) (same_err e), u.2 ++ v.0, v.1, subst (λ d. T d v.1) (append_assoc u.0 u.2 v.0) v.2)

-- one behind the other, where what follows needs to know the tokens: what goes before can be completed too
pub bind_says_at : {A B : Type 0} (o : ParseOutcome A) (f : A → Parser B) (ts : List Lexeme) (R : List Lexeme → A → Type 0) (T : List Lexeme → B → Type 0) → Says o ts R
    → ((a : List Lexeme) (x : A) (r : List Lexeme) → ts ≡ a ++ r → R a x → Says (f x r) r (λ b z. T (a ++ b) z))
    → ((a : List Lexeme) (x : A) → R a x → Instance (λ b z. T (a ++ b) z)) → Says (and_then o f) ts T
bind_says_at o f ts R T h g c = record { by = bound_at o f ts R T h g; stops = bound_end o f ts R T h g c }

-- one behind the other: what is said of no tokens completes what goes before
pub bind_says : {A B : Type 0} (o : ParseOutcome A) (f : A → Parser B) (ts : List Lexeme) (R : List Lexeme → A → Type 0) (T : List Lexeme → B → Type 0) → Says o ts R
    → ((a : List Lexeme) (x : A) (r : List Lexeme) → R a x → Says (f x r) r (λ b z. T (a ++ b) z)) → Says (and_then o f) ts T
bind_says o f ts R T h g = bind_says_at o f ts R T h (λ a x r e. g a x r) (λ a x i. some_of (f x []) [] (λ b z. T (a ++ b) z) (g a x [] i))

pub if_says : {A : Type 0} (b : Bool) (x v : ParseOutcome A) (ts : List Lexeme) (T : List Lexeme → A → Type 0) → (b ≡ true → Says x ts T) → (b ≡ false → Says v ts T) → Says (cond b x v) ts T
if_says true x v ts T f g = f refl
if_says false x v ts T f g = g refl

-- a token that was taken
pub token_says : {A : Type 0} (o : ParseOutcome A) (t : Lexeme) (r : List Lexeme) (T : List Lexeme → A → Type 0) → Says o r (λ b z. T (t ∷ b) z) → Says o (t ∷ r) T
token_says o t r T h = record {
  by = λ q e. let u = h.by q e in (t ∷ u.0, ap (λ z. t ∷ z) u.1, u.2);
  stops = λ q e. let u = h.stops q e in (t ∷ u.0, ap (λ z. t ∷ z) u.1, u.2, u.3, u.4);
}

-- a construct of one token more
with_token : {A : Type 0} (t : Lexeme) (o : ParseOutcome A) (T : List Lexeme → A → Type 0) → Says o [] (λ b z. T (t ∷ b) z) → Instance T
with_token t o T h = let u = some_of o [] (λ b z. T (t ∷ b) z) h in (t ∷ u.0, u.1, u.2)

token_step : {B : Type 0} (b : Bool) (f : Unit {0} → Parser B) (t : Lexeme) (r : List Lexeme) (T : List Lexeme → B → Type 0) → (b ≡ true → Says (f tt r) r (λ b z. T (t ∷ b) z)) → Instance T
    → Says (and_then (cond b (Ok (tt, r)) (Err (t ∷ r))) f) (t ∷ r) T
token_step true f t r T g c = token_says (f tt r) t r T (g refl)
token_step false f t r T g c = refused_says (t ∷ r) T c

pub expect_says : {B : Type 0} (m : Punct) (f : Unit {0} → Parser B) (ts : List Lexeme) (T : List Lexeme → B → Type 0)
    → ((t : Lexeme) (r : List Lexeme) → t.kind ≡ k.Mark m → Says (f tt r) r (λ b z. T (t ∷ b) z)) → Says (and_then (expect m ts) f) ts T
unfolding expect
expect_says m f [] T g = refused_says [] T (with_token (lexeme_of (k.Mark m)) (f tt []) T (g (lexeme_of (k.Mark m)) [] refl))
expect_says m f (t ∷ r) T g = token_step (is_mark m t.kind) f t r T (λ yes. g t r (mark_is m t.kind yes)) (with_token (lexeme_of (k.Mark m)) (f tt []) T (g (lexeme_of (k.Mark m)) [] refl))

pub expect_word_says : {B : Type 0} (m : Keyword) (f : Unit {0} → Parser B) (ts : List Lexeme) (T : List Lexeme → B → Type 0)
    → ((t : Lexeme) (r : List Lexeme) → t.kind ≡ k.Word m → Says (f tt r) r (λ b z. T (t ∷ b) z)) → Says (and_then (expect_word m ts) f) ts T
unfolding expect_word
expect_word_says m f [] T g = refused_says [] T (with_token (lexeme_of (k.Word m)) (f tt []) T (g (lexeme_of (k.Word m)) [] refl))
expect_word_says m f (t ∷ r) T g = token_step (is_keyword m t.kind) f t r T (λ yes. g t r (word_is m t.kind yes)) (with_token (lexeme_of (k.Word m)) (f tt []) T (g (lexeme_of (k.Word m)) [] refl))

-- the word is the first token
pub expect_word_first : {B : Type 0} (m : Keyword) (f : Unit {0} → Parser B) (t : Lexeme) (r : List Lexeme) (T : List Lexeme → B → Type 0)
    → (t.kind ≡ k.Word m → Says (f tt r) r (λ b z. T (t ∷ b) z)) → Instance T → Says (and_then (expect_word m (t ∷ r)) f) (t ∷ r) T
unfolding expect_word
expect_word_first m f t r T g c = token_step (is_keyword m t.kind) f t r T (λ yes. g (word_is m t.kind yes)) c

-- a weaker relation
pub weaker : {A : Type 0} (o : ParseOutcome A) (ts : List Lexeme) (R T : List Lexeme → A → Type 0) → ((a : List Lexeme) (x : A) → R a x → T a x) → Says o ts R → Says o ts T
weaker o ts R T f h = record {
  by = λ q e. let u = h.by q e in (u.0, u.1, f u.0 q.0 u.2);
  stops = λ r e. let u = h.stops r e in (u.0, u.1, u.2, u.3, f (u.0 ++ u.2) u.3 u.4);
}

pub consts_says : (j : ℕ) (ts : List Lexeme) → Says (consts j ts) ts (λ a x. AreConsts a)
unfolding consts
consts_says zero ts = ok_says tt ts _ AreConsts.none
consts_says (suc j) [] = ok_says tt [] _ AreConsts.none
consts_says (suc j) (t ∷ r) = if_says (is_keyword w.Const t.kind) (consts j r) (Ok (tt, t ∷ r)) (t ∷ r) _
    (λ yes. token_says (consts j r) t r _ (weaker (consts j r) r _ _ (λ a x h. AreConsts.more t a (word_is w.Const t.kind yes) h) (consts_says j r)))
    (λ other. ok_says tt (t ∷ r) _ AreConsts.none)

-- nothing more was taken
pub done_says : {A : Type 0} (x : A) (a ts : List Lexeme) (T : List Lexeme → A → Type 0) → T a x → Says (Ok (x, ts)) ts (λ b z. T (a ++ b) z)
done_says x a ts T h = ok_says x ts (λ b z. T (a ++ b) z) (subst (λ c. T c x) (sym (append-nil a)) h)

-- behind an element: a comma and more, or the end
pub after_says : {A : Type 0} (L : List Lexeme → List A → Type 0) (go : Parser (List A)) (found : List A) (x : A) (a r : List Lexeme) → L a (x ∷ [])
    → ((t : Lexeme) (u : List Lexeme) → t.kind ≡ k.Mark p.Comma → Says (go u) u (λ b ys. (xs : List A) × (ys ≡ (found ++ x ∷ []) ++ xs) × L (a ++ t ∷ b) (x ∷ xs)))
    → Says (cond (is_mark p.Comma (kind_at r)) (go (token_tail r)) (Ok (found ++ x ∷ [], r))) r (λ b ys. (xs : List A) × (ys ≡ found ++ xs) × L (a ++ b) xs)
after_says L go found x a [] one more = done_says (found ++ x ∷ []) a [] (λ a ys. (xs : List _) × (ys ≡ found ++ xs) × L a xs) (x ∷ [], refl, one)
after_says L go found x a (t ∷ r) one more = if_says (is_mark p.Comma t.kind) (go r) (Ok (found ++ x ∷ [], t ∷ r)) (t ∷ r) _
    (λ yes. token_says (go r) t r _ (weaker (go r) r _ _ (λ b ys q. (x ∷ q.0, q.1 ∙ append_assoc found (x ∷ []) q.0, q.2)) (more t r (mark_is p.Comma t.kind yes))))
    (λ other. done_says (found ++ x ∷ []) a (t ∷ r) (λ a ys. (xs : List _) × (ys ≡ found ++ xs) × L a xs) (x ∷ [], refl, one))

-- Elements with commas between: what one and what one more make of a list.
pub list_says : {A : Type 0} (item : Parser A) (R : List Lexeme → A → Type 0) (L : List Lexeme → List A → Type 0)
    → ((ts : List Lexeme) → Says (item ts) ts R)
    → ((a : List Lexeme) (x : A) → R a x → L a (x ∷ []))
    → ((a : List Lexeme) (t : Lexeme) (b : List Lexeme) (x : A) (xs : List A) → R a x → t.kind ≡ k.Mark p.Comma → L b xs → L (a ++ t ∷ b) (x ∷ xs))
    → (j : ℕ) (found : List A) (ts : List Lexeme) → Says (list_from item j found ts) ts (λ a ys. (xs : List A) × (ys ≡ found ++ xs) × L a xs)
unfolding list_from
list_says item R L h one more zero found ts = let q = some_of (item []) [] R (h []) in refused_says ts _ (q.0, found ++ q.1 ∷ [], (q.1 ∷ [], refl, one q.0 q.1 q.2))
list_says item R L h one more (suc j) found ts = bind_says (item ts) _ ts R _ (h ts) (λ a x r g.
    after_says L (list_from item j (found ++ x ∷ [])) found x a r (one a x g) (λ t u kind.
    weaker (list_from item j (found ++ x ∷ []) u) u _ _ (λ b ys q. (q.0, q.1, more a t b x q.0 g kind q.2)) (list_says item R L h one more j (found ++ x ∷ []) u)))
