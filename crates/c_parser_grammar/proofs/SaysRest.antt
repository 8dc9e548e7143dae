-- The same of what a function says that also speaks of the tokens behind.
use Rattle.std.proofs.Common.{◌≡◌, Bool, true, false, cond, List, [], ◌∷◌, ◌++◌, Ok, Err, refl, sym, ap, ◌∙◌, subst, append_assoc, append-nil}
use Rattle.c_lexer.specs.declared.token.TokenKind.TheVariants as k
use Rattle.c_lexer.specs.declared.token.Keyword.{Keyword}
use Rattle.c_lexer.specs.declared.token.Punct.{Punct}
use Rattle.c_lexer.specs.Pieces.{Lexeme}
use Rattle.c_parser_grammar.specs.Tokens.{is_mark, is_keyword}
use Rattle.c_parser_grammar.specs.Parser.{ParseOutcome, Parser, and_then, expect, expect_word}
use Rattle.c_parser_grammar.proofs.Outcomes.{no_ok, no_err, same_ok, same_err, mark_is, word_is}
use Rattle.c_parser_grammar.proofs.Says.{Instance, Viable, Says, lexeme_of}

-- Where the outcome is a tree and the tokens behind it, those before them, the tree and those behind are so related; else
-- the tokens before the refused one begin a list that is so related to a tree, with none behind.
pub record SaysR {A : Type 0} (o : ParseOutcome A) (ts : List Lexeme) (T : List Lexeme → A → List Lexeme → Type 0) : Type 0 where
  pub by : (q : A × List Lexeme) → o ≡ Ok q → (a : List Lexeme) × (ts ≡ a ++ q.1) × T a q.0 q.1
  pub stops : (r : List Lexeme) → o ≡ Err r → Viable r ts (λ a x. T a x [])

no_tokens : (a r : List Lexeme) → [] ≡ a ++ r → r ≡ []
no_tokens [] r e = sym e
no_tokens (t ∷ a) r e = cc

some_r : {A : Type 0} (o : ParseOutcome A) (T : List Lexeme → A → List Lexeme → Type 0) → SaysR o [] T → Instance (λ a x. T a x [])
some_r (Ok q) T h = let u = h.by q refl in (u.0, q.0, subst (λ z. T u.0 q.0 z) (no_tokens u.0 q.1 u.1) u.2)
some_r (Err r) T h = let u = h.stops r refl in (u.0 ++ u.2, u.3, u.4)

pub ok_r : {A : Type 0} (x : A) (ts : List Lexeme) (T : List Lexeme → A → List Lexeme → Type 0) → T [] x ts → SaysR (Ok (x, ts)) ts T
ok_r x ts T h = record { by = λ q e. subst (λ q. (a : List Lexeme) × (ts ≡ a ++ q.1) × T a q.0 q.1) (same_ok e) ([], refl, h); stops = λ r e. no_err e }

-- the first token is refused
pub refused_r : {A : Type 0} (ts : List Lexeme) (T : List Lexeme → A → List Lexeme → Type 0) → Instance (λ a x. T a x []) → SaysR (Err ts) ts T
refused_r ts T c = record { by = λ q e. no_ok e; stops = λ q e. subst (λ z. Viable z ts (λ a x. T a x [])) (same_err e) ([], refl, c.0, c.1, c.2) }

bound : {A B : Type 0} (o : ParseOutcome A) (f : A → Parser B) (ts : List Lexeme) (R : List Lexeme → A → List Lexeme → Type 0) (T : List Lexeme → B → List Lexeme → Type 0) → SaysR o ts R
    → ((a : List Lexeme) (x : A) (r : List Lexeme) → R a x r → SaysR (f x r) r (λ b z u. T (a ++ b) z u))
    → (q : B × List Lexeme) → and_then o f ≡ Ok q → (c : List Lexeme) × (ts ≡ c ++ q.1) × T c q.0 q.1
bound (Ok (x, r)) f ts R T h g q e =
    let u = h.by (x, r) refl in
    let v = (g u.0 x r u.2).by q e in
    (u.0 ++ v.0, u.1 ∙ ap (λ z. u.0 ++ z) v.1 ∙ sym (append_assoc u.0 v.0 q.1), v.2)
bound (Err r) f ts R T h g q e = no_ok e

bound_end : {A B : Type 0} (o : ParseOutcome A) (f : A → Parser B) (ts : List Lexeme) (R : List Lexeme → A → List Lexeme → Type 0) (T : List Lexeme → B → List Lexeme → Type 0) → SaysR o ts R
    → ((a : List Lexeme) (x : A) (r : List Lexeme) → R a x r → SaysR (f x r) r (λ b z u. T (a ++ b) z u))
    → (q : List Lexeme) → and_then o f ≡ Err q → Viable q ts (λ a z. T a z [])
bound_end (Ok (x, r)) f ts R T h g q e =
    let u = h.by (x, r) refl in
    let v = (g u.0 x r u.2).stops q e in
    (u.0 ++ v.0, u.1 ∙ ap (λ z. u.0 ++ z) v.1 ∙ sym (append_assoc u.0 v.0 q), v.2, v.3, subst (λ d. T d v.3 []) (sym (append_assoc u.0 v.0 v.2)) v.4)
bound_end (Err r) f ts R T h g q e =
    let u = h.stops r refl in
    let v = some_r (f u.3 []) (λ b z w. T ((u.0 ++ u.2) ++ b) z w) (g (u.0 ++ u.2) u.3 [] u.4) in
    (u.0, u.1 ∙ ap (λ z. u.0 ++ z) (same_err e), u.2 ++ v.0, v.1, subst (λ d. T d v.1 []) (append_assoc u.0 u.2 v.0) v.2)

pub bind_r : {A B : Type 0} (o : ParseOutcome A) (f : A → Parser B) (ts : List Lexeme) (R : List Lexeme → A → List Lexeme → Type 0) (T : List Lexeme → B → List Lexeme → Type 0) → SaysR o ts R
    → ((a : List Lexeme) (x : A) (r : List Lexeme) → R a x r → SaysR (f x r) r (λ b z u. T (a ++ b) z u)) → SaysR (and_then o f) ts T
bind_r o f ts R T h g = record { by = bound o f ts R T h g; stops = bound_end o f ts R T h g }

pub lift : {A : Type 0} (o : ParseOutcome A) (ts : List Lexeme) (R : List Lexeme → A → Type 0) → Says o ts R → SaysR o ts (λ a x r. R a x)
lift o ts R h = record { by = λ q e. h.by q e; stops = h.stops }

pub drop : {A : Type 0} (o : ParseOutcome A) (ts : List Lexeme) (R : List Lexeme → A → Type 0) → SaysR o ts (λ a x r. R a x) → Says o ts R
drop o ts R h = record { by = λ q e. h.by q e; stops = h.stops }

pub weaker_r : {A : Type 0} (o : ParseOutcome A) (ts : List Lexeme) (R T : List Lexeme → A → List Lexeme → Type 0) → ((a : List Lexeme) (x : A) (r : List Lexeme) → R a x r → T a x r) → SaysR o ts R → SaysR o ts T
weaker_r o ts R T f h = record {
  by = λ q e. let u = h.by q e in (u.0, u.1, f u.0 q.0 q.1 u.2);
  stops = λ r e. let u = h.stops r e in (u.0, u.1, u.2, u.3, f (u.0 ++ u.2) u.3 [] u.4);
}

-- behind what says nothing of the tokens behind it
pub then_r : {A B : Type 0} (o : ParseOutcome A) (f : A → Parser B) (ts : List Lexeme) (R : List Lexeme → A → Type 0) (T : List Lexeme → B → List Lexeme → Type 0) → Says o ts R
    → ((a : List Lexeme) (x : A) (r : List Lexeme) → R a x → SaysR (f x r) r (λ b z u. T (a ++ b) z u)) → SaysR (and_then o f) ts T
then_r o f ts R T h g = bind_r o f ts (λ a x r. R a x) T (lift o ts R h) g

pub if_r : {A : Type 0} (b : Bool) (x v : ParseOutcome A) (ts : List Lexeme) (T : List Lexeme → A → List Lexeme → Type 0) → (b ≡ true → SaysR x ts T) → (b ≡ false → SaysR v ts T) → SaysR (cond b x v) ts T
if_r true x v ts T f g = f refl
if_r false x v ts T f g = g refl

pub token_r : {A : Type 0} (o : ParseOutcome A) (t : Lexeme) (r : List Lexeme) (T : List Lexeme → A → List Lexeme → Type 0) → SaysR o r (λ b z u. T (t ∷ b) z u) → SaysR o (t ∷ r) T
token_r o t r T h = record {
  by = λ q e. let u = h.by q e in (t ∷ u.0, ap (λ z. t ∷ z) u.1, u.2);
  stops = λ q e. let u = h.stops q e in (t ∷ u.0, ap (λ z. t ∷ z) u.1, u.2, u.3, u.4);
}

with_token : {A : Type 0} (t : Lexeme) (o : ParseOutcome A) (T : List Lexeme → A → List Lexeme → Type 0) → SaysR o [] (λ b z u. T (t ∷ b) z u) → Instance (λ a x. T a x [])
with_token t o T h = let u = some_r o (λ b z u. T (t ∷ b) z u) h in (t ∷ u.0, u.1, u.2)

token_step : {B : Type 0} (b : Bool) (f : Unit {0} → Parser B) (t : Lexeme) (r : List Lexeme) (T : List Lexeme → B → List Lexeme → Type 0) → (b ≡ true → SaysR (f tt r) r (λ b z u. T (t ∷ b) z u)) → Instance (λ a x. T a x [])
    → SaysR (and_then (cond b (Ok (tt, r)) (Err (t ∷ r))) f) (t ∷ r) T
token_step true f t r T g c = token_r (f tt r) t r T (g refl)
token_step false f t r T g c = refused_r (t ∷ r) T c

pub done_r : {A : Type 0} (x : A) (a ts : List Lexeme) (T : List Lexeme → A → List Lexeme → Type 0) → T a x ts → SaysR (Ok (x, ts)) ts (λ b z u. T (a ++ b) z u)
done_r x a ts T h = ok_r x ts (λ b z u. T (a ++ b) z u) (subst (λ c. T c x ts) (sym (append-nil a)) h)

pub expect_r : {B : Type 0} (m : Punct) (f : Unit {0} → Parser B) (ts : List Lexeme) (T : List Lexeme → B → List Lexeme → Type 0)
    → ((t : Lexeme) (r : List Lexeme) → t.kind ≡ k.Mark m → SaysR (f tt r) r (λ b z u. T (t ∷ b) z u)) → SaysR (and_then (expect m ts) f) ts T
unfolding expect
expect_r m f [] T g = refused_r [] T (with_token (lexeme_of (k.Mark m)) (f tt []) T (g (lexeme_of (k.Mark m)) [] refl))
expect_r m f (t ∷ r) T g = token_step (is_mark m t.kind) f t r T (λ yes. g t r (mark_is m t.kind yes)) (with_token (lexeme_of (k.Mark m)) (f tt []) T (g (lexeme_of (k.Mark m)) [] refl))

pub expect_word_r : {B : Type 0} (m : Keyword) (f : Unit {0} → Parser B) (ts : List Lexeme) (T : List Lexeme → B → List Lexeme → Type 0)
    → ((t : Lexeme) (r : List Lexeme) → t.kind ≡ k.Word m → SaysR (f tt r) r (λ b z u. T (t ∷ b) z u)) → SaysR (and_then (expect_word m ts) f) ts T
unfolding expect_word
expect_word_r m f [] T g = refused_r [] T (with_token (lexeme_of (k.Word m)) (f tt []) T (g (lexeme_of (k.Word m)) [] refl))
expect_word_r m f (t ∷ r) T g = token_step (is_keyword m t.kind) f t r T (λ yes. g t r (word_is m t.kind yes)) (with_token (lexeme_of (k.Word m)) (f tt []) T (g (lexeme_of (k.Word m)) [] refl))
