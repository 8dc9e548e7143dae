-- What is a specifier without braces is read.
use Rattle.std.proofs.Common.{◌≡◌, ℕ, zero, suc, ◌≤◌, ◌<◌, Bool, true, false, List, ◌∷◌, ◌++◌, length, Option, Some, None, Ok, refl, sym, ap, ◌∙◌, subst, append_assoc, length-append, arith}
use Rattle.c_lexer.specs.declared.token.TokenKind.TheVariants as k
use Rattle.c_lexer.specs.declared.token.Keyword.TheVariants as w
use Rattle.c_lexer.specs.Pieces.{Lexeme}
use Rattle.c_tree.specs.declared.types.BasicType.{BasicType}
use Rattle.c_tree.specs.declared.types.TypeNode.{TypeNode}
use Rattle.c_tree.specs.declared.types.TypeNode as y
use Rattle.c_parser_grammar.specs.declared.classes.Specifier.{Specifier}
use Rattle.c_parser_grammar.specs.declared.classes.Specifier.TheVariants as c
use Rattle.c_parser_grammar.specs.declared.word_set.WordSet.{WordSet}
use Rattle.c_parser_grammar.specs.Classes.{specifier_of, begins_type_by}
use Rattle.c_parser_grammar.specs.WordSets.{no_words, basic_of}
use Rattle.c_parser_grammar.specs.Tokens.{TypeNames, is_type, is_keyword, kind_at, begins_type}
use Rattle.c_parser_grammar.specs.Grammar.{AreConsts, AreTypeWords, IsPlain}
use Rattle.c_parser_grammar.specs.Parser.{Parser, consts}
use Rattle.c_parser_grammar.specs.ParseExpr.{start_of, word_or_end, words_from, named_type, tag_type, tag, specifier_behind, specifier_from, plain}
use Rattle.c_parser_grammar.proofs.Outcomes.{no_true, fails, word_is, is_word_of}
use Rattle.c_parser_grammar.proofs.Words.{behind_words, turn}

-- no specifier goes on at such a token
abbrev pub ends_by : Specifier → Bool
ends_by c.Name = true
ends_by c.Nothing = true
ends_by _ = false

abbrev pub Stops : List Lexeme → Type 0
Stops r = ends_by (specifier_of (kind_at r)) ≡ true

pub no_const : (r : List Lexeme) → Stops r → is_keyword w.Const (kind_at r) ≡ false
no_const r h = fails (is_keyword w.Const (kind_at r)) (λ e. no_true (ap (λ x. ends_by (specifier_of x)) (sym (word_is w.Const (kind_at r) e)) ∙ h))

pub consts_read : {a : List Lexeme} → AreConsts a → (j : ℕ) (r : List Lexeme) → length a ≤ j → is_keyword w.Const (kind_at r) ≡ false → consts j (a ++ r) ≡ Ok (tt, r)
unfolding consts
consts_read AreConsts.none zero r le h = refl
consts_read AreConsts.none (suc j) r le h = rw h refl
consts_read (AreConsts.more t a e g) zero r le h = absurd (omega arith)
consts_read (AreConsts.more t a e g) (suc j) r le h = let q = is_word_of w.Const t.kind e in rw q (consts_read g j r (omega arith) h)

-- all of the tokens are looked through for `const`
pub consts_all : {a : List Lexeme} → AreConsts a → (r : List Lexeme) → is_keyword w.Const (kind_at r) ≡ false → consts (length (a ++ r)) (a ++ r) ≡ Ok (tt, r)
consts_all {a} h r e = consts_read h (length (a ++ r)) r (omega (arith, length-append a r)) e

no_some : {X : Type 0} {b : BasicType} → ◌≡◌ {A = Option BasicType} None (Some b) → X
no_some e = cc

module _ (s : TypeNames) (on : Specifier → ℕ → Parser TypeNode) where
  words_end : (j : ℕ) (x : WordSet) (b : BasicType) (class : Specifier) (r : List Lexeme) → ends_by class ≡ true → basic_of x ≡ Some b → turn s on j x class r ≡ Ok (y.Basic b, r)
  words_end j x b c.Name r h e = ap (λ o. specifier_behind s on (start_of o c.Name) r) e
  words_end j x b c.Nothing r h e = ap (λ o. specifier_behind s on (start_of o c.Nothing) r) e
  words_end j x b c.Const r h e = no_true h
  words_end j x b (c.Word word) r h e = no_true h
  words_end j x b c.Struct r h e = no_true h
  words_end j x b c.Enum r h e = no_true h

  pub words_read : {x z : WordSet} {a : List Lexeme} → AreTypeWords x a z → (j : ℕ) (r : List Lexeme) (b : BasicType) → length (a ++ r) ≤ j → Stops r → basic_of z ≡ Some b → specifier_from s on j x (a ++ r) ≡ Ok (y.Basic b, r)
  unfolding specifier_from words_from
  words_read AreTypeWords.none zero r b le h e = ap (λ o. specifier_behind s on (start_of o c.Nothing) r) e
  words_read (AreTypeWords.none {x = x}) (suc j) r b le h e = words_end j x b (specifier_of (kind_at r)) r h e
  words_read (AreTypeWords.const t a z kind g) zero r b le h e = absurd (omega arith)
  words_read (AreTypeWords.const {x = x} t a z kind g) (suc j) r b le h e =
      ap (λ kd. turn s on j x (specifier_of kd) (t ∷ a ++ r)) kind ∙ words_read g j r b (omega arith) h e
  words_read (AreTypeWords.more t word a v z class fits g) zero r b le h e = absurd (omega arith)
  words_read (AreTypeWords.more {x = x} t word a v z class fits g) (suc j) r b le h e =
      ap (λ cl. turn s on j x cl (t ∷ a ++ r)) class ∙ ap (λ o. behind_words s on (word_or_end o (λ v. words_from j v (a ++ r)) (start_of (basic_of x) (c.Word word), t ∷ a ++ r))) fits ∙ words_read g j r b (omega arith) h e

  -- past leading `const`
  pub lead : (x : WordSet) {a : List Lexeme} → AreConsts a → (j : ℕ) (t : Lexeme) (r : List Lexeme) → length (a ++ t ∷ r) ≤ j
      → (i : ℕ) × (specifier_from s on j x (a ++ t ∷ r) ≡ turn s on i x (specifier_of t.kind) (t ∷ r))
  unfolding specifier_from words_from
  lead x AreConsts.none zero t r le = absurd (omega arith)
  lead x AreConsts.none (suc j) t r le = (j, refl)
  lead x (AreConsts.more u a kind g) zero t r le = absurd (omega arith)
  lead x (AreConsts.more u a kind g) (suc j) t r le =
      let h = lead x g j t r (omega arith) in
      (h.0, ap (λ kd. turn s on j x (specifier_of kd) (u ∷ a ++ t ∷ r)) kind ∙ h.1)

  pub named_read : (a : List Lexeme) (t : Lexeme) (b : List Lexeme) → AreConsts a → t.kind ≡ k.Name → is_type s t ≡ true → AreConsts b → (j : ℕ) (r : List Lexeme) → length ((a ++ t ∷ b) ++ r) ≤ j → Stops r
      → specifier_from s on j no_words ((a ++ t ∷ b) ++ r) ≡ Ok (y.Named t.spelling, r)
  unfolding named_type
  named_read a t b h kind listed g j r le stop =
      let q = append_assoc a (t ∷ b) r in
      let l = lead no_words h j t (b ++ r) (subst (λ z. length z ≤ j) q le) in
      let e = consts_all g r (no_const r stop) in
      ap (specifier_from s on j no_words) q ∙ l.1 ∙ ap (λ kd. turn s on l.0 no_words (specifier_of kd) (t ∷ b ++ r)) kind ∙ rw (listed, e) refl

  pub word_read : (a : List Lexeme) (t : Lexeme) (b : List Lexeme) (class : Specifier) → AreConsts a → specifier_of t.kind ≡ class → (j : ℕ) (r : List Lexeme) → length ((a ++ t ∷ b) ++ r) ≤ j
      → (i : ℕ) × (specifier_from s on j no_words ((a ++ t ∷ b) ++ r) ≡ turn s on i no_words class (t ∷ b ++ r))
  word_read a t b class h kind j r le =
      let q = append_assoc a (t ∷ b) r in
      let l = lead no_words h j t (b ++ r) (subst (λ z. length z ≤ j) q le) in
      (l.0, ap (specifier_from s on j no_words) q ∙ l.1 ∙ ap (λ cl. turn s on l.0 no_words cl (t ∷ b ++ r)) kind)

pub tag_read : (class : Specifier) (u : Lexeme) (b r : List Lexeme) → u.kind ≡ k.Name → AreConsts b → is_keyword w.Const (kind_at r) ≡ false → tag class (u ∷ b ++ r) ≡ Ok (tag_type class u.at u.spelling, r)
unfolding tag
tag_read class u b r kind h next = let e = consts_all h r next in rw (kind, e) refl

pub plain_read : (s : TypeNames) {a : List Lexeme} {ty : TypeNode} → IsPlain s a ty → (r : List Lexeme) → Stops r → plain s (a ++ r) ≡ Ok (ty, r)
unfolding plain
plain_read s (IsPlain.words a x b h e) r stop = words_read s (λ word at. tag word) h (length (a ++ r)) r b (omega arith) stop e
plain_read s (IsPlain.type_name a t b h kind listed g) r stop = named_read s (λ word at. tag word) a t b h kind listed g (length ((a ++ t ∷ b) ++ r)) r (omega arith) stop
plain_read s (IsPlain.struct a t n b h kind nk g) r stop =
    let l = word_read s (λ word at. tag word) a t (n ∷ b) c.Struct h (ap specifier_of kind) (length ((a ++ t ∷ n ∷ b) ++ r)) r (omega arith) in
    l.1 ∙ tag_read c.Struct n b r nk g (no_const r stop)
plain_read s (IsPlain.enum a t n b h kind nk g) r stop =
    let l = word_read s (λ word at. tag word) a t (n ∷ b) c.Enum h (ap specifier_of kind) (length ((a ++ t ∷ n ∷ b) ++ r)) r (omega arith) in
    l.1 ∙ tag_read c.Enum n b r nk g (no_const r stop)

-- ---- what a specifier begins with

abbrev pub BeginsType : TypeNames → List Lexeme → Type 0
BeginsType s a = (0 < length a) × ((r : List Lexeme) → begins_type s (a ++ r) ≡ true)

class_begins : (s : TypeNames) (t : Lexeme) (class : Specifier) (a : List Lexeme) → specifier_of t.kind ≡ class → ((listed : Bool) → begins_type_by class listed ≡ true) → BeginsType s (t ∷ a)
class_begins s t class a e h = (omega arith, λ r. ap (λ cl. begins_type_by cl (is_type s t)) e ∙ h (is_type s t))

words_begin : (s : TypeNames) {x z : WordSet} {a : List Lexeme} {b : BasicType} → AreTypeWords x a z → basic_of x ≡ None → basic_of z ≡ Some b → BeginsType s a
words_begin s AreTypeWords.none n e = no_some (sym n ∙ e)
words_begin s (AreTypeWords.const t a z kind g) n e = class_begins s t c.Const a (ap specifier_of kind) (λ listed. refl)
words_begin s (AreTypeWords.more t word a v z class fits g) n e = class_begins s t (c.Word word) a class (λ listed. refl)

pub consts_begin : (s : TypeNames) {a : List Lexeme} → AreConsts a → (t : Lexeme) (b : List Lexeme) → BeginsType s (t ∷ b) → BeginsType s (a ++ t ∷ b)
consts_begin s AreConsts.none t b h = h
consts_begin s (AreConsts.more u a kind g) t b h = class_begins s u c.Const (a ++ t ∷ b) (ap specifier_of kind) (λ listed. refl)

pub plain_begins : (s : TypeNames) {a : List Lexeme} {ty : TypeNode} → IsPlain s a ty → BeginsType s a
plain_begins s (IsPlain.words a x b h e) = words_begin s h refl e
plain_begins s (IsPlain.type_name a t b h kind listed g) =
    consts_begin s h t b (omega arith, λ r. ap (λ kd. begins_type_by (specifier_of kd) (is_type s t)) kind ∙ listed)
plain_begins s (IsPlain.struct a t n b h kind nk g) = consts_begin s h t (n ∷ b) (class_begins s t c.Struct (n ∷ b) (ap specifier_of kind) (λ listed. refl))
plain_begins s (IsPlain.enum a t n b h kind nk g) = consts_begin s h t (n ∷ b) (class_begins s t c.Enum (n ∷ b) (ap specifier_of kind) (λ listed. refl))
