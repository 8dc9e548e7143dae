-- A specifier that is read is in the grammar.
use Rattle.std.proofs.Common.{◌≡◌, ℕ, zero, suc, Bool, true, false, not, ◌&&◌, cond, List, [], ◌∷◌, ◌++◌, length, Option, Some, None, refl, sym, ap, ◌∙◌, subst}
use Rattle.c_lexer.specs.declared.token.TokenKind.{TokenKind}
use Rattle.c_lexer.specs.declared.token.TokenKind.TheVariants as k
use Rattle.c_lexer.specs.declared.token.Keyword.TheVariants as w
use Rattle.c_lexer.specs.Pieces.{Lexeme}
use Rattle.c_tree.specs.declared.types.BasicType.{BasicType}
use Rattle.c_tree.specs.declared.types.BasicType.TheVariants as bt
use Rattle.c_tree.specs.declared.types.TypeNode.{TypeNode}
use Rattle.c_tree.specs.declared.types.TypeNode as y
use Rattle.c_parser_grammar.specs.declared.classes.TypeWord.{TypeWord}
use Rattle.c_parser_grammar.specs.declared.classes.TypeWord.TheVariants as t
use Rattle.c_parser_grammar.specs.declared.classes.Specifier.{Specifier}
use Rattle.c_parser_grammar.specs.declared.classes.Specifier.TheVariants as c
use Rattle.c_parser_grammar.specs.declared.word_set.BaseWord.{BaseWord}
use Rattle.c_parser_grammar.specs.declared.word_set.BaseWord.TheVariants as b
use Rattle.c_parser_grammar.specs.declared.word_set.Sign.{Sign}
use Rattle.c_parser_grammar.specs.declared.word_set.Sign.TheVariants as g
use Rattle.c_parser_grammar.specs.declared.word_set.WordSet.{WordSet}
use Rattle.c_parser_grammar.specs.Classes.{specifier_of}
use Rattle.c_parser_grammar.specs.WordSets.{no_words, takes_int, with_word, basic_by, basic_of}
use Rattle.c_parser_grammar.specs.Tokens.{TypeNames, is_type, is_name_token}
use Rattle.c_parser_grammar.specs.Grammar.{AreConsts, AreTypeWords, IsPlain}
use Rattle.c_parser_grammar.specs.Parser.{Parser, consts}
use Rattle.c_parser_grammar.specs.declared.shapes.SpecifierStart.TheVariants as ss
use Rattle.c_parser_grammar.specs.ParseExpr.{start_of, word_or_end, words_from, named_type, tag_type, tag, specifier_behind, specifier_from, plain}
use Rattle.c_parser_grammar.proofs.Words.{behind_words, turn}
use Rattle.c_parser_grammar.proofs.Outcomes.{no_true, name_is}
use Rattle.c_parser_grammar.proofs.Says.{Instance, Says, lexeme_of, ok_says, refused_says, bind_says, if_says, token_says, done_says, consts_says, weaker}

-- ---- a class and its kinds

is_const : Specifier → Bool
is_const c.Const = true
is_const _ = false

is_struct : Specifier → Bool
is_struct c.Struct = true
is_struct _ = false

is_enum : Specifier → Bool
is_enum c.Enum = true
is_enum _ = false

is_named : Specifier → Bool
is_named c.Name = true
is_named _ = false

const_is : (kind : TokenKind) → specifier_of kind ≡ c.Const → kind ≡ k.Word w.Const
unfolding is_const
const_is (k.Word w.Const) e = refl
const_is (k.Word _) e = no_true (ap is_const e)
const_is _ e = no_true (ap is_const e)

pub struct_is : (kind : TokenKind) → specifier_of kind ≡ c.Struct → kind ≡ k.Word w.Struct
unfolding is_struct
struct_is (k.Word w.Struct) e = refl
struct_is (k.Word _) e = no_true (ap is_struct e)
struct_is _ e = no_true (ap is_struct e)

pub enum_is : (kind : TokenKind) → specifier_of kind ≡ c.Enum → kind ≡ k.Word w.Enum
unfolding is_enum
enum_is (k.Word w.Enum) e = refl
enum_is (k.Word _) e = no_true (ap is_enum e)
enum_is _ e = no_true (ap is_enum e)

named_is : (kind : TokenKind) → specifier_of kind ≡ c.Name → kind ≡ k.Name
unfolding is_named
named_is k.Name e = refl
named_is (k.Word w.Const) e = no_true (ap is_named e)
named_is (k.Word _) e = no_true (ap is_named e)
named_is _ e = no_true (ap is_named e)

-- ---- a set with a word spells a type

no_some : {X Y : Type 0} {v : X} → ◌≡◌ {A = Option X} None (Some v) → Y
no_some e = cc

same_some : {X : Type 0} {u v : X} → ◌≡◌ {A = Option X} (Some u) (Some v) → u ≡ v
same_some e = cc

abbrev Spells : WordSet → Type 0
Spells v = (y : BasicType) × (basic_of v ≡ Some y)

base_spells : (base : BaseWord) (sign : Option Sign) (int : Bool) → (y : BasicType) × (basic_by (Some base) sign int ≡ Some y)
base_spells b.Void sign int = (bt.Void, refl)
base_spells b.Char None int = (bt.Char, refl)
base_spells b.Char (Some g.Signed) int = (bt.SignedChar, refl)
base_spells b.Char (Some g.Unsigned) int = (bt.UnsignedChar, refl)
base_spells b.Short None int = (bt.Short, refl)
base_spells b.Short (Some g.Signed) int = (bt.Short, refl)
base_spells b.Short (Some g.Unsigned) int = (bt.UnsignedShort, refl)
base_spells b.Long None int = (bt.Long, refl)
base_spells b.Long (Some g.Signed) int = (bt.Long, refl)
base_spells b.Long (Some g.Unsigned) int = (bt.UnsignedLong, refl)

sign_spells : (base : Option BaseWord) (sign : Sign) (int : Bool) → (y : BasicType) × (basic_by base (Some sign) int ≡ Some y)
sign_spells (Some base) sign int = base_spells base (Some sign) int
sign_spells None g.Signed int = (bt.Signed, refl)
sign_spells None g.Unsigned int = (bt.Unsigned, refl)

int_spells : (base : Option BaseWord) (sign : Option Sign) → (y : BasicType) × (basic_by base sign true ≡ Some y)
int_spells (Some base) sign = base_spells base sign true
int_spells None (Some sign) = sign_spells None sign true
int_spells None None = (bt.Int, refl)

where_fits : (fits : Bool) (u v : WordSet) → Spells u → cond fits (Some u) None ≡ Some v → Spells v
where_fits true u v h e = subst Spells (same_some e) h
where_fits false u v h e = no_some e

word_spells : (x : WordSet) (word : TypeWord) (v : WordSet) → with_word x word ≡ Some v → Spells v
word_spells x t.Void v e = where_fits _ (record x { base = Some b.Void }) v (base_spells b.Void x.sign x.int) e
word_spells x t.Char v e = where_fits _ (record x { base = Some b.Char }) v (base_spells b.Char x.sign x.int) e
word_spells x t.Short v e = where_fits _ (record x { base = Some b.Short }) v (base_spells b.Short x.sign x.int) e
word_spells x t.Long v e = where_fits _ (record x { base = Some b.Long }) v (base_spells b.Long x.sign x.int) e
word_spells x t.Int v e = where_fits _ (record x { int = true }) v (int_spells x.base x.sign) e
word_spells x t.Signed v e = where_fits _ (record x { sign = Some g.Signed }) v (sign_spells x.base g.Signed x.int) e
word_spells x t.Unsigned v e = where_fits _ (record x { sign = Some g.Unsigned }) v (sign_spells x.base g.Unsigned x.int) e

-- with no word yet, `int` may follow
int_fits : (base : Option BaseWord) (sign : Option Sign) (int : Bool) → basic_by base sign int ≡ None → (takes_int base && not int) ≡ true
int_fits (Some base) sign int e = no_some (sym e ∙ (base_spells base sign int).1)
int_fits None (Some sign) int e = no_some (sym e ∙ (sign_spells None sign int).1)
int_fits None None true e = no_some (sym e)
int_fits None None false e = refl

-- ---- the loop

-- What is read from a set on: more words, or with none yet what `U` says of the token in their place.
pub data From (U : Lexeme → List Lexeme → TypeNode → Type 0) : WordSet → List Lexeme → TypeNode → Type 0 where
  words : {x : WordSet} (a : List Lexeme) (z : WordSet) (y' : BasicType) → AreTypeWords x a z → basic_of z ≡ Some y' → From U x a (y.Basic y')
  tail : {x : WordSet} (a : List Lexeme) (u : Lexeme) (r : List Lexeme) (ty : TypeNode) → basic_of x ≡ None → AreConsts a → U u r ty → From U x (a ++ u ∷ r) ty

module _ (s : TypeNames) (on : Specifier → ℕ → Parser TypeNode) (U : Lexeme → List Lexeme → TypeNode → Type 0) where
  past_const : {x : WordSet} {a : List Lexeme} {ty : TypeNode} (u : Lexeme) → u.kind ≡ k.Word w.Const → From U x a ty → From U x (u ∷ a) ty
  past_const u e (From.words a z v h g) = From.words (u ∷ a) z v (AreTypeWords.const u a z e h) g
  past_const u e (From.tail a v r ty n c h) = From.tail (u ∷ a) v r ty n (AreConsts.more u a e c) h

  past_word : {v : WordSet} {a : List Lexeme} {ty : TypeNode} (x : WordSet) (u : Lexeme) (word : TypeWord) → specifier_of u.kind ≡ c.Word word → with_word x word ≡ Some v → From U v a ty → From U x (u ∷ a) ty
  past_word x u word e f (From.words {x = v} a z q h g) = From.words (u ∷ a) z q (AreTypeWords.more u word a v z e f h) g
  past_word x u word e f (From.tail {x = v} a q r ty n c h) = let o = word_spells x word v f in no_some (sym n ∙ o.1)

  -- the word `int`
  some_int : (x : WordSet) → basic_of x ≡ None → Instance (λ a ty. From U x a ty)
  some_int x n =
      let z : WordSet = record x { int = true } in
      let spells = int_spells x.base x.sign in
      let fits : with_word x t.Int ≡ Some z = ap (λ b. cond b (Some z) None) (int_fits x.base x.sign x.int n) in
      let int = lexeme_of (k.Word w.Int) in
      (int ∷ [], y.Basic spells.0, From.words (int ∷ []) z spells.0 (AreTypeWords.more int t.Int [] z z refl fits AreTypeWords.none) spells.1)

  start_says : (o : Option BasicType) (class : Specifier) (ts : List Lexeme) (T : List Lexeme → TypeNode → Type 0) → ((q : BasicType) → o ≡ Some q → T [] (y.Basic q))
      → (o ≡ None → Says (specifier_behind s on (ss.Other class) ts) ts T) → Says (specifier_behind s on (start_of o class) ts) ts T
  start_says (Some q) class ts T f g = ok_says (y.Basic q) ts T (f q refl)
  start_says None class ts T f g = g refl

  -- the words before this token are all
  stop_says : (x : WordSet) (class : Specifier) (ts : List Lexeme) → (basic_of x ≡ None → Says (specifier_behind s on (ss.Other class) ts) ts (λ a ty. From U x a ty))
      → Says (specifier_behind s on (start_of (basic_of x) class) ts) ts (λ a ty. From U x a ty)
  stop_says x class ts g = start_says (basic_of x) class ts _ (λ q e. From.words [] x q AreTypeWords.none e) g

  word_says : (o : Option WordSet) (j : ℕ) (x : WordSet) (u : Lexeme) (r : List Lexeme) (word : TypeWord) → specifier_of u.kind ≡ c.Word word → with_word x word ≡ o
      → ((v : WordSet) → Says (specifier_from s on j v r) r (λ a ty. From U v a ty))
      → Says (behind_words s on (word_or_end o (λ v. words_from j v r) (start_of (basic_of x) (c.Word word), u ∷ r))) (u ∷ r) (λ a ty. From U x a ty)
  unfolding specifier_from
  word_says (Some v) j x u r word e f h = token_says (specifier_from s on j v r) u r _ (weaker (specifier_from s on j v r) r _ _ (λ a ty q. past_word x u word e f q) (h v))
  word_says None j x u r word e f h = stop_says x (c.Word word) (u ∷ r) (λ n. refused_says (u ∷ r) _ (some_int x n))

  module _ (struct_says : (u : Lexeme) (r : List Lexeme) → u.kind ≡ k.Word w.Struct → Says (on c.Struct u.at r) r (λ b ty. U u b ty))
      (enum_says : (u : Lexeme) (r : List Lexeme) → u.kind ≡ k.Word w.Enum → Says (on c.Enum u.at r) r (λ b ty. U u b ty))
      (named : (u : Lexeme) (b : List Lexeme) → u.kind ≡ k.Name → is_type s u ≡ true → AreConsts b → U u b (y.Named u.spelling)) where
    by_name_says : (x : WordSet) (u : Lexeme) (r : List Lexeme) → u.kind ≡ k.Name → basic_of x ≡ None → Says (named_type s (u ∷ r)) (u ∷ r) (λ a ty. From U x a ty)
    unfolding named_type
    by_name_says x u r e n = if_says (is_type s u) _ _ (u ∷ r) _
        (λ yes. token_says _ u r _ (bind_says (consts (length r) r) _ r (λ a q. AreConsts a) _ (consts_says (length r) r) (λ a q v h. done_says (y.Named u.spelling) a v (λ a ty. From U x (u ∷ a) ty) (From.tail [] u a (y.Named u.spelling) n AreConsts.none (named u a e yes h)))))
        (λ other. refused_says (u ∷ r) _ (some_int x n))

    turn_says : (j : ℕ) (x : WordSet) (class : Specifier) (u : Lexeme) (r : List Lexeme) → specifier_of u.kind ≡ class → ((v : WordSet) → Says (specifier_from s on j v r) r (λ a ty. From U v a ty))
        → Says (turn s on j x class (u ∷ r)) (u ∷ r) (λ a ty. From U x a ty)
    unfolding specifier_from
    turn_says j x c.Const u r e h = token_says (specifier_from s on j x r) u r _ (weaker (specifier_from s on j x r) r _ _ (λ a ty q. past_const u (const_is u.kind e) q) (h x))
    turn_says j x (c.Word word) u r e h = word_says (with_word x word) j x u r word e refl h
    turn_says j x c.Struct u r e h = stop_says x c.Struct (u ∷ r) (λ n. token_says (on c.Struct u.at r) u r _ (weaker (on c.Struct u.at r) r _ _ (λ b ty q. From.tail [] u b ty n AreConsts.none q) (struct_says u r (struct_is u.kind e))))
    turn_says j x c.Enum u r e h = stop_says x c.Enum (u ∷ r) (λ n. token_says (on c.Enum u.at r) u r _ (weaker (on c.Enum u.at r) r _ _ (λ b ty q. From.tail [] u b ty n AreConsts.none q) (enum_says u r (enum_is u.kind e))))
    turn_says j x c.Name u r e h = stop_says x c.Name (u ∷ r) (λ n. by_name_says x u r (named_is u.kind e) n)
    turn_says j x c.Nothing u r e h = stop_says x c.Nothing (u ∷ r) (λ n. refused_says (u ∷ r) _ (some_int x n))

    pub specifier_says : (j : ℕ) (x : WordSet) (ts : List Lexeme) → Says (specifier_from s on j x ts) ts (λ a ty. From U x a ty)
    unfolding specifier_from words_from
    specifier_says zero x ts = stop_says x c.Nothing ts (λ n. refused_says ts _ (some_int x n))
    specifier_says (suc j) x [] = stop_says x c.Nothing [] (λ n. refused_says [] _ (some_int x n))
    specifier_says (suc j) x (u ∷ r) = turn_says j x (specifier_of u.kind) u r refl (λ v. specifier_says j v r)

-- ---- without braces

-- what stands in the place of words
pub data IsTail (s : TypeNames) (u : Lexeme) : List Lexeme → TypeNode → Type 0 where
  type_name : (a : List Lexeme) → u.kind ≡ k.Name → is_type s u ≡ true → AreConsts a → IsTail s u a (y.Named u.spelling)
  struct : (v : Lexeme) (a : List Lexeme) → u.kind ≡ k.Word w.Struct → v.kind ≡ k.Name → AreConsts a → IsTail s u (v ∷ a) (y.Struct v.at (Some v.spelling) None)
  enum : (v : Lexeme) (a : List Lexeme) → u.kind ≡ k.Word w.Enum → v.kind ≡ k.Name → AreConsts a → IsTail s u (v ∷ a) (y.Enum v.at (Some v.spelling) None)

some_tag : (class : Specifier) (T : List Lexeme → TypeNode → Type 0) → ((v : Lexeme) (a : List Lexeme) → v.kind ≡ k.Name → AreConsts a → T (v ∷ a) (tag_type class v.at v.spelling)) → Instance T
some_tag class T h = (lexeme_of k.Name ∷ [], tag_type class 0 [], h (lexeme_of k.Name) [] refl AreConsts.none)

pub tag_says : (class : Specifier) (ts : List Lexeme) (T : List Lexeme → TypeNode → Type 0) → ((v : Lexeme) (a : List Lexeme) → v.kind ≡ k.Name → AreConsts a → T (v ∷ a) (tag_type class v.at v.spelling)) → Says (tag class ts) ts T
unfolding tag
tag_says class [] T h = refused_says [] T (some_tag class T h)
tag_says class (v ∷ r) T h = if_says (is_name_token v.kind) _ _ (v ∷ r) T
    (λ yes. token_says _ v r T (bind_says (consts (length r) r) _ r (λ a q. AreConsts a) _ (consts_says (length r) r) (λ a q z g. done_says (tag_type class v.at v.spelling) a z (λ a ty. T (v ∷ a) ty) (h v a (name_is v.kind yes) g))))
    (λ other. refused_says (v ∷ r) T (some_tag class T h))

is_plain : (s : TypeNames) {a : List Lexeme} {ty : TypeNode} → From (IsTail s) no_words a ty → IsPlain s a ty
is_plain s (From.words a z q h e) = IsPlain.words a z q h e
is_plain s (From.tail a u r ty n c (IsTail.type_name b kind listed h)) = IsPlain.type_name a u b c kind listed h
is_plain s (From.tail a u r ty n c (IsTail.struct v b kind vk h)) = IsPlain.struct a u v b c kind vk h
is_plain s (From.tail a u r ty n c (IsTail.enum v b kind vk h)) = IsPlain.enum a u v b c kind vk h

pub plain_says : (s : TypeNames) (ts : List Lexeme) → Says (plain s ts) ts (λ a ty. IsPlain s a ty)
unfolding plain
plain_says s ts = weaker (specifier_from s (λ word at. tag word) (length ts) no_words ts) ts _ _ (λ a ty h. is_plain s h)
    (specifier_says s (λ word at. tag word) (IsTail s)
    (λ u r e. tag_says c.Struct r (λ b ty. IsTail s u b ty) (λ v a vk h. IsTail.struct v a e vk h))
    (λ u r e. tag_says c.Enum r (λ b ty. IsTail s u b ty) (λ v a vk h. IsTail.enum v a e vk h))
    (λ u b e listed h. IsTail.type_name b e listed h)
    (length ts) no_words ts)
