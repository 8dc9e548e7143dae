-- What is read of a list depends on the tokens up to the one at which it stops, and on none behind it.
use Rattle.std.proofs.Common.{◌≡◌, ℕ, zero, suc, ◌+◌, ◌-◌, ◌≤◌, ◌<◌, Bool, true, false, cond, List, [], ◌∷◌, ◌++◌, length, Option, Some, None, Ok, Err, refl, sym, ap, ◌∙◌, subst, length-append, arith}
use Rattle.c_lexer.specs.declared.token.TokenKind.TheVariants as kd
use Rattle.c_lexer.specs.declared.token.Punct.{Punct}
use Rattle.c_lexer.specs.declared.token.Punct.TheVariants as p
use Rattle.c_lexer.specs.declared.token.Keyword.{Keyword}
use Rattle.c_lexer.specs.declared.token.Keyword.TheVariants as w
use Rattle.c_lexer.specs.Pieces.{Lexeme}
use Rattle.c_tree.specs.declared.expressions.Expr.{Expr}
use Rattle.c_tree.specs.declared.types.BasicType.{BasicType}
use Rattle.c_tree.specs.declared.types.TypeNode.{TypeNode}
use Rattle.c_tree.specs.declared.types.TypeNode as y
use Rattle.c_tree.specs.declared.types.TypeName.{TypeName}
use Rattle.c_tree.specs.declared.types.Declaration.{Declaration}
use Rattle.c_parser_grammar.specs.declared.classes.Infix.{Infix}
use Rattle.c_parser_grammar.specs.declared.classes.Infix.TheVariants as ix
use Rattle.c_parser_grammar.specs.declared.classes.Prefix.{Prefix}
use Rattle.c_parser_grammar.specs.declared.classes.Prefix.TheVariants as px
use Rattle.c_parser_grammar.specs.declared.classes.Specifier.{Specifier}
use Rattle.c_parser_grammar.specs.declared.classes.Specifier.TheVariants as cs
use Rattle.c_parser_grammar.specs.declared.word_set.WordSet.{WordSet}
use Rattle.c_parser_grammar.specs.declared.shapes.Shape.{Shape}
use Rattle.c_parser_grammar.specs.declared.shapes.Shape.TheVariants as sh
use Rattle.c_parser_grammar.specs.declared.shapes.Declarator.{Declarator}
use Rattle.c_parser_grammar.specs.declared.shapes.DeclaredName.{DeclaredName}
use Rattle.c_parser_grammar.specs.declared.shapes.NameRequirement.{NameRequirement}
use Rattle.c_parser_grammar.specs.declared.shapes.NameRequirement.TheVariants as nm
use Rattle.c_parser_grammar.specs.declared.shapes.SpecifierStart.{SpecifierStart}
use Rattle.c_parser_grammar.specs.declared.shapes.SpecifierStart.TheVariants as ss
use Rattle.c_parser_grammar.specs.Classes.{infix_of, prefix_of, specifier_of}
use Rattle.c_parser_grammar.specs.Levels.{level_of, result_level}
use Rattle.c_parser_grammar.specs.WordSets.{no_words, basic_of}
use Rattle.c_parser_grammar.specs.Tokens.{TypeNames, is_mark, is_keyword, is_name_token, is_text, kind_at, spelling_at, token_place, token_tail, is_type_name, begins_type}
use Rattle.c_parser_grammar.specs.Types.{without_body, takes_name, may_be_nameless, nameless, with_shape, with_shapes, parameter_of, without_void, comma_of}
use Rattle.c_parser_grammar.specs.Parser.{ParseOutcome, Parser, and_then, pure, expect, expect_word, consts}
use Rattle.c_parser_grammar.specs.ParseExpr.{extend, start_of, word_or_end, words_from, named_type, tag_type, tag, specifier_behind, specifier_from, plain, texts_from, list_from, member_name, no_name, core_name, whole, type_name, parameter, arguments_behind, parameters_behind, behind_name, cast_behind, brackets_behind, bracket_operand, sizeof_type_name, sizeof_unary, sizeof_behind, operand_by, operand, step_by, climb, tight, length_behind, suffixes, pointer_declarator, group_behind, core_bracket, core, shaped_declarator, expr, declarator}
use Rattle.c_parser_grammar.specs.Specifiers.{IsSpecifier}
use Rattle.c_parser_grammar.specs.ParseSpecifiers as specifiers
use Rattle.c_parser_grammar.specs.ParseSpecifiers.{named_by, declaration, braced_list_from, enumerator_value, enumerator, declarators_from, struct_declarations_from, braces, behind_tag, tag_or_body, specifier}
use Rattle.c_parser_grammar.proofs.Says.{Says}
use Rattle.c_parser_grammar.proofs.SoundSpecifiers.{member_says, sound_specifier}
use Rattle.c_parser_grammar.proofs.ReadSpecifiers.{member_begins}
use Rattle.c_parser_grammar.proofs.Words.{behind_words, turn}
use Rattle.c_parser_grammar.proofs.Outcomes.{no_ok, no_err, same_ok, same_err, mark_is, is_mark_of}

-- near: up to this token two lists are the same; past: only one list counts, and its tokens are all behind it
pub data Mode : Type 0 where
  near : Mode
  past : Mode

module _ (t : Lexeme) (left right : List Lexeme) where
  -- the same tokens up to the token t, and then these others
  pub data Same : List Lexeme → List Lexeme → Type 0 where
    here : Same (t ∷ left) (t ∷ right)
    there : (x : Lexeme) {u v : List Lexeme} → Same u v → Same (x ∷ u) (x ∷ v)

  -- two lists, of which the numbers bound the lengths
  pub data State : Mode → ℕ → ℕ → List Lexeme → List Lexeme → Type 0 where
    near : {b c : ℕ} {u v : List Lexeme} → Same u v → length u ≤ b → length v ≤ c → State Mode.near b c u v
    past : {b c : ℕ} {u : List Lexeme} → length u ≤ length left → length u ≤ b → State Mode.past b c u u

  -- what is left of the first list is behind the token t, or the other list is left so too
  pub data Goes (k : Mode) (b c : ℕ) (u : List Lexeme) (P : List Lexeme → Type 0) : Type 0 where
    lost : length u ≤ length left → length u ≤ b → Goes k b c u P
    kept : (v : List Lexeme) → State k b c u v → P v → Goes k b c u P

  pub record Agrees {A : Type 0} (k : Mode) (b c : ℕ) (o o' : ParseOutcome A) : Type 0 where
    pub by : (q : A × List Lexeme) → o ≡ Ok q → Goes k b c q.1 (λ v. o' ≡ Ok (q.0, v))
    pub stops : (u : List Lexeme) → o ≡ Err u → Goes k b c u (λ v. o' ≡ Err v)

  -- of lists within these bounds the two functions read the same
  abbrev pub Alike : {A : Type 0} → ℕ → ℕ → Parser A → Parser A → Type 0
  Alike n m p q = (k : Mode) (b c : ℕ) (u v : List Lexeme) → State k b c u v → b ≤ n → c ≤ m → Agrees k b c (p u) (q v)

  -- ---- states

  pub lift_state : {k : Mode} {b c b' c' : ℕ} {u v : List Lexeme} → State k b c u v → b ≤ b' → c ≤ c' → State k b' c' u v
  lift_state (State.near h lb lc) le le' = State.near h (omega arith) (omega arith)
  lift_state (State.past l lb) le le' = State.past l (omega arith)

  heads_of : {X : Type 0} (f : List Lexeme → X) → ((x : Lexeme) (u v : List Lexeme) → f (x ∷ u) ≡ f (x ∷ v)) → {u v : List Lexeme} → Same u v → f u ≡ f v
  heads_of f h Same.here = h t left right
  heads_of f h (Same.there x {u} {v} g) = h x u v

  pub same_head : {X : Type 0} (f : List Lexeme → X) → ((x : Lexeme) (u v : List Lexeme) → f (x ∷ u) ≡ f (x ∷ v)) → {k : Mode} {b c : ℕ} {u v : List Lexeme} → State k b c u v → f u ≡ f v
  same_head f h (State.near g lb lc) = heads_of f h g
  same_head f h (State.past l lb) = refl

  pub same_kind : {k : Mode} {b c : ℕ} {u v : List Lexeme} → State k b c u v → kind_at u ≡ kind_at v
  same_kind h = same_head kind_at (λ x u v. refl) h

  pub same_place : {k : Mode} {b c : ℕ} {u v : List Lexeme} → State k b c u v → token_place u ≡ token_place v
  same_place h = same_head token_place (λ x u v. refl) h

  pub same_spelling : {k : Mode} {b c : ℕ} {u v : List Lexeme} → State k b c u v → spelling_at u ≡ spelling_at v
  same_spelling h = same_head spelling_at (λ x u v. refl) h

  pub some_left : {u v : List Lexeme} → Same u v → 0 < length u
  some_left Same.here = omega arith
  some_left (Same.there x g) = omega arith

  pub some_right : {u v : List Lexeme} → Same u v → 0 < length v
  some_right Same.here = omega arith
  some_right (Same.there x g) = omega arith

  -- ---- outcomes

  goes_more : {k : Mode} {b c b' c' : ℕ} {u : List Lexeme} {P : List Lexeme → Type 0} → b ≤ b' → c ≤ c' → Goes k b c u P → Goes k b' c' u P
  goes_more le le' (Goes.lost l lb) = Goes.lost l (omega arith)
  goes_more le le' (Goes.kept v h e) = Goes.kept v (lift_state h le le') e

  pub more : {A : Type 0} {k : Mode} {b c b' c' : ℕ} {o o' : ParseOutcome A} → b ≤ b' → c ≤ c' → Agrees k b c o o' → Agrees k b' c' o o'
  more le le' h = record { by = λ q e. goes_more le le' (h.by q e); stops = λ u e. goes_more le le' (h.stops u e) }

  goes_lost : {k : Mode} {b c b' c' : ℕ} {u : List Lexeme} {P Q : List Lexeme → Type 0} → b ≤ b' → Goes Mode.past b c u P → Goes k b' c' u Q
  goes_lost le (Goes.lost l lb) = Goes.lost l (omega arith)
  goes_lost le (Goes.kept v (State.past l lb) e) = Goes.lost l (omega arith)

  -- behind the token t the other list does not count
  pub forget : {A : Type 0} {k : Mode} {b c b' c' : ℕ} {o o' o2 : ParseOutcome A} → b ≤ b' → Agrees Mode.past b c o o' → Agrees k b' c' o o2
  forget le h = record { by = λ q e. goes_lost le (h.by q e); stops = λ u e. goes_lost le (h.stops u e) }

  pub ok_local : {A : Type 0} (x y : A) {k : Mode} {b c : ℕ} {u v : List Lexeme} → State k b c u v → x ≡ y → Agrees k b c (Ok (x, u)) (Ok (y, v))
  ok_local {A} x y {k} {b} {c} {u} {v} h same = record {
    by = λ q e. subst (λ q. Goes k b c q.1 (λ z. ◌≡◌ {A = ParseOutcome A} (Ok (y, v)) (Ok (q.0, z)))) (same_ok e) (Goes.kept v h (ap (λ y. Ok (y, v)) (sym same)));
    stops = λ z e. no_err e;
  }

  pub err_local : {A : Type 0} {k : Mode} {b c : ℕ} {u v : List Lexeme} → State k b c u v → Agrees {A = A} k b c (Err u) (Err v)
  err_local {A} {k} {b} {c} {u} {v} h = record {
    by = λ q e. no_ok e;
    stops = λ z e. subst (λ z. Goes k b c z (λ w'. ◌≡◌ {A = ParseOutcome A} (Err v) (Err w'))) (same_err e) (Goes.kept v h refl);
  }

  pub test_local : {A : Type 0} {k : Mode} {b c : ℕ} {x y : Bool} {o o' o2 o2' : ParseOutcome A} → x ≡ y → Agrees k b c o o' → Agrees k b c o2 o2' → Agrees k b c (cond x o o2) (cond y o' o2')
  test_local {k = k} {b} {c} {x} {y} {o} {o'} {o2} {o2'} e h g = subst (λ z. Agrees k b c (cond x o o2) (cond z o' o2')) e (by_cases x h g)
    where
      by_cases : {A : Type 0} {k : Mode} {b c : ℕ} {o o' o2 o2' : ParseOutcome A} (x : Bool) → Agrees k b c o o' → Agrees k b c o2 o2' → Agrees k b c (cond x o o2) (cond x o' o2')
      by_cases true h g = h
      by_cases false h g = g

  bind_err : {A B : Type 0} {k : Mode} {b c : ℕ} (u : List Lexeme) (o' : ParseOutcome A) (f' : A → Parser B) → Goes k b c u (λ v. o' ≡ Err v) → Goes k b c u (λ v. and_then o' f' ≡ Err v)
  bind_err u o' f' (Goes.lost l lb) = Goes.lost l lb
  bind_err u o' f' (Goes.kept v h e) = Goes.kept v h (ap (λ z. and_then z f') e)

  bind_ok : {A B : Type 0} {k : Mode} {b c : ℕ} (x : A) (u : List Lexeme) (o' : ParseOutcome A) (f f' : A → Parser B) → Goes k b c u (λ v. o' ≡ Ok (x, v))
      → ((k : Mode) (u v : List Lexeme) → State k b c u v → Agrees k b c (f x u) (f' x v)) → Agrees k b c (f x u) (and_then o' f')
  bind_ok x u o' f f' (Goes.lost l lb) g = forget (omega arith) (g Mode.past u u (State.past l lb))
  bind_ok {k = k} {b} {c} x u o' f f' (Goes.kept v h e) g = subst (λ z. Agrees k b c (f x u) (and_then z f')) (sym e) (g k u v h)

  pub bind_local : {A B : Type 0} {k : Mode} {b c : ℕ} (o o' : ParseOutcome A) (f f' : A → Parser B) → Agrees k b c o o'
      → ((x : A) (k : Mode) (u v : List Lexeme) → State k b c u v → Agrees k b c (f x u) (f' x v)) → Agrees k b c (and_then o f) (and_then o' f')
  bind_local (Ok (x, u)) o' f f' h g = bind_ok x u o' f f' (h.by (x, u) refl) (g x)
  bind_local {A} {B} {k} {b} {c} (Err u) o' f f' h g = record {
    by = λ q e. no_ok e;
    stops = λ z e. subst (λ z. Goes k b c z (λ v. and_then o' f' ≡ Err v)) (same_err e) (bind_err u o' f' (h.stops u refl));
  }

  -- a token is taken
  pub take_local : {A : Type 0} {k : Mode} {b c : ℕ} {u v : List Lexeme} (p q : Parser A) → State k b c u v → ((k : Mode) (u v : List Lexeme) → State k (b - 1) (c - 1) u v → Agrees k (b - 1) (c - 1) (p u) (q v))
      → Agrees k b c (p (token_tail u)) (q (token_tail v))
  take_local p q (State.near Same.here lb lc) g = forget (omega arith) (g Mode.past left left (State.past (omega arith) (omega arith)))
  take_local p q (State.near (Same.there x {u} {v} h) lb lc) g = more (omega arith) (omega arith) (g Mode.near u v (State.near h (omega arith) (omega arith)))
  take_local p q (State.past {u = []} l lb) g = more (omega arith) (omega arith) (g Mode.past [] [] (State.past (omega arith) (omega arith)))
  take_local p q (State.past {u = x ∷ u} l lb) g = more (omega arith) (omega arith) (g Mode.past u u (State.past (omega arith) (omega arith)))

  pub taken_local : {A : Type 0} (x y : A) {k : Mode} {b c : ℕ} {u v : List Lexeme} → State k b c u v → x ≡ y → Agrees k b c (Ok (x, token_tail u)) (Ok (y, token_tail v))
  taken_local x y h e = take_local (λ ts. Ok (x, ts)) (λ ts. Ok (y, ts)) h (λ k u v g. ok_local x y g e)

  -- as many turns as there are tokens: the bounds are those of the lists
  pub record Bounds (k : Mode) (b c : ℕ) (u v : List Lexeme) : Type 0 where
    pub low : ℕ
    pub high : ℕ
    pub is : State k low high u v
    pub few : low ≤ length u
    pub few' : high ≤ length v
    pub less : low ≤ b
    pub less' : high ≤ c

  pub bounds_of : {k : Mode} {b c : ℕ} {u v : List Lexeme} → State k b c u v → Bounds k b c u v
  bounds_of {u = u} {v} (State.near h lb lc) = record { low = length u; high = length v; is = State.near h (omega arith) (omega arith); few = omega arith; few' = omega arith; less = lb; less' = lc }
  bounds_of {u = u} (State.past l lb) = record { low = length u; high = 0; is = State.past l (omega arith); few = omega arith; few' = omega arith; less = lb; less' = omega arith }

  -- a loop of so many turns, over what it has found so far
  module _ {A S : Type 0} (n m : ℕ) (f g : ℕ → S → Parser A) where
    abbrev pub Loop : ℕ → ℕ → S → Type 0
    Loop j i x = (k : Mode) (b c : ℕ) (u v : List Lexeme) → State k b c u v → b ≤ n → c ≤ m → b ≤ j → c ≤ i → Agrees k b c (f j x u) (g i x v)

    pub loop_local : ((x : S) (k : Mode) (b c : ℕ) (u v : List Lexeme) → State k b c u v → Agrees k b c (f zero x u) (g zero x v))
        → ((j i : ℕ) → ((x : S) → Loop j i x) → (x : S) → Loop (suc j) (suc i) x) → (j i : ℕ) (x : S) → Loop j i x
    loop_local stop turn zero i x k b c u v (State.near h lb lc) bn cm bj ci = let o = some_left h in absurd (omega arith)
    loop_local stop turn zero i x k b c u v (State.past l lb) bn cm bj ci = forget (omega arith) (stop x Mode.past b c u u (State.past l lb))
    loop_local stop turn (suc j) zero x k b c u v (State.near h lb lc) bn cm bj ci = let o = some_right h in absurd (omega arith)
    loop_local stop turn (suc j) zero x k b c u v (State.past l lb) bn cm bj ci = forget (omega arith) (turn j zero (loop_local stop turn j zero) x Mode.past b 0 u u (State.past l lb) bn (omega arith) bj (omega arith))
    loop_local stop turn (suc j) (suc i) x k b c u v h bn cm bj ci = turn j i (loop_local stop turn j i) x k b c u v h bn cm bj ci

    -- the loop of as many turns as there are tokens
    pub turns_local : ((j i : ℕ) (x : S) → Loop j i x) → (x : S) → Alike n m (λ ts. f (length ts) x ts) (λ ts. g (length ts) x ts)
    turns_local h x k b c u v st bn cm = let z = bounds_of st in more z.less z.less' (h (length u) (length v) x k z.low z.high u v z.is (omega (arith, z.less)) (omega (arith, z.less')) z.few z.few')

  -- ---- the smallest parsers

  pub expect_local : (n m : ℕ) (mark : Punct) → Alike n m (expect mark) (expect mark)
  unfolding expect
  expect_local n m mark k b c u v h bn cm = test_local (ap (is_mark mark) (same_kind h)) (taken_local tt tt h refl) (err_local h)

  pub expect_word_local : (n m : ℕ) (word : Keyword) → Alike n m (expect_word word) (expect_word word)
  unfolding expect_word
  expect_word_local n m word k b c u v h bn cm = test_local (ap (is_keyword word) (same_kind h)) (taken_local tt tt h refl) (err_local h)

  consts_loop : (n m j i : ℕ) (x : Unit {0}) → Loop n m (λ j x. consts j) (λ j x. consts j) j i x
  unfolding consts
  consts_loop n m = loop_local n m (λ j x. consts j) (λ j x. consts j) (λ x k b c u v h. ok_local tt tt h refl)
      (λ j i more x k b c u v h bn cm bj ci. test_local (ap (is_keyword w.Const) (same_kind h))
      (take_local (consts j) (consts i) h (λ k u v g. more x k (b - 1) (c - 1) u v g (omega arith) (omega arith) (omega arith) (omega arith))) (ok_local tt tt h refl))

  pub consts_local : (n m : ℕ) → Alike n m (λ ts. consts (length ts) ts) (λ ts. consts (length ts) ts)
  consts_local n m = turns_local n m (λ j x. consts j) (λ j x. consts j) (consts_loop n m) tt

  pub behind_local : {A : Type 0} {n m : ℕ} {k : Mode} {b c : ℕ} {u v : List Lexeme} (p q : Parser A) → Alike n m p q → State k b c u v → b ≤ suc n → c ≤ suc m → Agrees k b c (p (token_tail u)) (q (token_tail v))
  behind_local {b = b} {c} p q h st bn cm = take_local p q st (λ k u v g. h k (b - 1) (c - 1) u v g (omega arith) (omega arith))

  pub less_local : {A : Type 0} {n m n' m' : ℕ} (p q : Parser A) → n' ≤ n → m' ≤ m → Alike n m p q → Alike n' m' p q
  less_local p q le le' h k b c u v st bn cm = h k b c u v st (omega arith) (omega arith)

  consts_behind : {k : Mode} {b c : ℕ} {u v : List Lexeme} → State k b c u v → Agrees k b c (consts (length (token_tail u)) (token_tail u)) (consts (length (token_tail v)) (token_tail v))
  consts_behind {b = b} {c} h = behind_local (λ ts. consts (length ts) ts) (λ ts. consts (length ts) ts) (consts_local b c) h (omega arith) (omega arith)

  pub then_expect : {A : Type 0} {k : Mode} {b c : ℕ} {u v : List Lexeme} (mark : Punct) (f f' : Unit {0} → Parser A) → State k b c u v
      → ((k : Mode) (u v : List Lexeme) → State k b c u v → Agrees k b c (f tt u) (f' tt v)) → Agrees k b c (and_then (expect mark u) f) (and_then (expect mark v) f')
  then_expect {k = k} {b} {c} {u} {v} mark f f' h g = bind_local (expect mark u) (expect mark v) f f' (expect_local b c mark k b c u v h (omega arith) (omega arith)) (λ x k u v i. g k u v i)

  -- what a chain ends with
  pub end_local : {A : Type 0} {k : Mode} {b c : ℕ} {u v : List Lexeme} (mark : Punct) (x y : A) → State k b c u v → x ≡ y → Agrees k b c (and_then (expect mark u) (λ _. pure x)) (and_then (expect mark v) (λ _. pure y))
  end_local mark x y h e = then_expect mark (λ _. pure x) (λ _. pure y) h (λ k u v g. ok_local x y g e)

  -- ---- specifiers without braces

  tag_local : (class : Specifier) (n m : ℕ) → Alike n m (tag class) (tag class)
  unfolding tag
  tag_local class n m k b c u v h bn cm = test_local (ap is_name_token (same_kind h))
      (bind_local _ _ _ _ (consts_behind h) (λ x k u' v' g. ok_local _ _ g (ap (λ at. tag_type class at (spelling_at u)) (same_place h) ∙ ap (tag_type class (token_place v)) (same_spelling h)))) (err_local h)

  module _ (s : TypeNames) where
    named_type_local : (n m : ℕ) → Alike n m (named_type s) (named_type s)
    unfolding named_type
    named_type_local n m k b c u v h bn cm = test_local (ap (is_type_name s) (same_spelling h))
        (bind_local _ _ _ _ (consts_behind h) (λ x k u' v' g. ok_local _ _ g (ap y.Named (same_spelling h)))) (err_local h)

    module _ (n m : ℕ) (on on' : Specifier → ℕ → Parser TypeNode) (on_local : (class : Specifier) (at : ℕ) → Alike n m (on class at) (on' class at)) where
      start_local : (start : SpecifierStart) → Alike (suc n) (suc m) (specifier_behind s on start) (specifier_behind s on' start)
      start_local (ss.Basic q) k b c u v h bn cm = ok_local (y.Basic q) (y.Basic q) h refl
      start_local (ss.Other cs.Struct) k b c u v h bn cm = rw (same_place h) (behind_local (on cs.Struct (token_place v)) (on' cs.Struct (token_place v)) (on_local cs.Struct (token_place v)) h bn cm)
      start_local (ss.Other cs.Enum) k b c u v h bn cm = rw (same_place h) (behind_local (on cs.Enum (token_place v)) (on' cs.Enum (token_place v)) (on_local cs.Enum (token_place v)) h bn cm)
      start_local (ss.Other cs.Name) k b c u v h bn cm = named_type_local (suc n) (suc m) k b c u v h bn cm
      start_local (ss.Other _) k b c u v h bn cm = err_local h

      stop_local : (o : Option BasicType) {k : Mode} {b c : ℕ} {u v : List Lexeme} → State k b c u v → Agrees k b c (specifier_behind s on (start_of o cs.Nothing) u) (specifier_behind s on' (start_of o cs.Nothing) v)
      stop_local (Some q) h = ok_local (y.Basic q) (y.Basic q) h refl
      stop_local None h = err_local h

      module _ (j i : ℕ) (next : (x : WordSet) → Loop (suc n) (suc m) (specifier_from s on) (specifier_from s on') j i x) where
        word_local : (x : WordSet) {k : Mode} {b c : ℕ} {u v : List Lexeme} → State k b c u v → b ≤ suc n → c ≤ suc m → b ≤ suc j → c ≤ suc i
            → Agrees k b c (specifier_from s on j x (token_tail u)) (specifier_from s on' i x (token_tail v))
        word_local x {b = b} {c} h bn cm bj ci = take_local (specifier_from s on j x) (specifier_from s on' i x) h (λ k u v g. next x k (b - 1) (c - 1) u v g (omega arith) (omega arith) (omega arith) (omega arith))

        set_local : (x : WordSet) (class : Specifier) (o : Option WordSet) {k : Mode} {b c : ℕ} {u v : List Lexeme} → State k b c u v → b ≤ suc n → c ≤ suc m → b ≤ suc j → c ≤ suc i
            → Agrees k b c (behind_words s on (word_or_end o (λ z. words_from j z (token_tail u)) (start_of (basic_of x) class, u))) (behind_words s on' (word_or_end o (λ z. words_from i z (token_tail v)) (start_of (basic_of x) class, v)))
        unfolding specifier_from
        set_local x class (Some z) h bn cm bj ci = word_local z h bn cm bj ci
        set_local x class None {k} {b} {c} {u} {v} h bn cm bj ci = start_local (start_of (basic_of x) class) k b c u v h bn cm

      specifier_loop : (j i : ℕ) (x : WordSet) → Loop (suc n) (suc m) (specifier_from s on) (specifier_from s on') j i x
      unfolding specifier_from words_from
      specifier_loop = loop_local (suc n) (suc m) (specifier_from s on) (specifier_from s on') (λ x k b c u v h. stop_local (basic_of x) h)
          (λ j i next x k b c u v h bn cm bj ci. rw (same_kind h) (set_local j i next x (specifier_of (kind_at v)) (extend x (specifier_of (kind_at v))) h bn cm bj ci))

      pub specifier_local : Alike (suc n) (suc m) (λ ts. specifier_from s on (length ts) no_words ts) (λ ts. specifier_from s on' (length ts) no_words ts)
      specifier_local = turns_local (suc n) (suc m) (specifier_from s on) (specifier_from s on') specifier_loop no_words

    pub plain_local : (n m : ℕ) → Alike n m (plain s) (plain s)
    unfolding plain
    plain_local n m = less_local (plain s) (plain s) (omega arith) (omega arith) (specifier_local n m (λ word at. tag word) (λ word at. tag word) (λ class at. tag_local class n m))

  -- ---- lists

  texts_loop : (n m j i : ℕ) (found : List (List ℕ)) → Loop n m texts_from texts_from j i found
  unfolding texts_from
  texts_loop n m = loop_local n m texts_from texts_from (λ found k b c u v h. ok_local found found h refl)
      (λ j i next found k b c u v h bn cm bj ci. test_local (ap is_text (same_kind h))
      (rw (same_spelling h) (take_local (texts_from j (found ++ spelling_at v ∷ [])) (texts_from i (found ++ spelling_at v ∷ [])) h
      (λ k u' v' g. next (found ++ spelling_at v ∷ []) k (b - 1) (c - 1) u' v' g (omega arith) (omega arith) (omega arith) (omega arith)))) (ok_local found found h refl))

  texts_local : (n m : ℕ) → Alike n m (λ ts. texts_from (length ts) [] ts) (λ ts. texts_from (length ts) [] ts)
  texts_local n m = turns_local n m texts_from texts_from (texts_loop n m) []

  module _ {A : Type 0} (n m : ℕ) (item item' : Parser A) (item_local : Alike n m item item') where
    list_loop : (j i : ℕ) (found : List A) → Loop n m (list_from item) (list_from item') j i found
    unfolding list_from
    list_loop = loop_local n m (list_from item) (list_from item') (λ found k b c u v h. err_local h)
        (λ j i next found k b c u v h bn cm bj ci. bind_local (item u) (item' v) _ _ (item_local k b c u v h bn cm) (λ x k u v g. test_local (ap (is_mark p.Comma) (same_kind g))
        (take_local (list_from item j (found ++ x ∷ [])) (list_from item' i (found ++ x ∷ [])) g (λ k u v g. next (found ++ x ∷ []) k (b - 1) (c - 1) u v g (omega arith) (omega arith) (omega arith) (omega arith)))
        (ok_local (found ++ x ∷ []) (found ++ x ∷ []) g refl)))

    pub list_local : Alike n m (λ ts. list_from item (length ts) [] ts) (λ ts. list_from item' (length ts) [] ts)
    list_local = turns_local n m (list_from item) (list_from item') list_loop []

  -- ---- expressions and declarators, over what is read a level below

  member_local : (n m : ℕ) → Alike n m member_name member_name
  unfolding member_name
  member_local n m k b c u v h bn cm = test_local (ap is_name_token (same_kind h)) (taken_local (spelling_at u) (spelling_at v) h (same_spelling h)) (err_local h)

  module _ (s : TypeNames) (n m : ℕ) (rec rec' : ℕ → Parser Expr) (dec dec' : NameRequirement → Parser Declarator) (rec_local : (least : ℕ) → Alike n m (rec least) (rec' least)) (dec_local : (naming : NameRequirement) → Alike n m (dec naming) (dec' naming))
      (takes : (l : Lexeme) (u : List Lexeme) → l.kind ≡ kd.Mark p.LeftParen → length (l ∷ u) ≤ n → length u ≤ length left → Agrees Mode.past (length u) 0 (rec 17 (l ∷ u)) (rec 17 (l ∷ u))) where
    pub whole_local : Alike n m (whole s rec dec) (whole s rec' dec')
    unfolding whole
    whole_local k b c u v h bn cm = bind_local _ _ _ _ (list_local n m (rec 2) (rec' 2) (rec_local 2) k b c u v h bn cm) (λ xs k u' v' g. ok_local _ _ g (ap (λ at. comma_of at xs) (same_place h)))

    type_local : Alike n m (type_name s rec dec) (type_name s rec' dec')
    unfolding type_name
    type_local k b c u v h bn cm = bind_local _ _ _ _ (plain_local s n m k b c u v h bn cm) (λ ty k u' v' g. bind_local _ _ _ _ (dec_local nm.Refused k b c u' v' g bn cm) (λ d k u2 v2 g2.
        let made : ℕ → TypeName = λ at. record { at = at; ty = with_shapes d.shapes ty } in ok_local (made (token_place u)) (made (token_place v)) g2 (ap made (same_place h))))

    parameter_local : Alike n m (parameter s rec dec) (parameter s rec' dec')
    unfolding parameter
    parameter_local k b c u v h bn cm = bind_local _ _ _ _ (plain_local s n m k b c u v h bn cm) (λ ty k u' v' g. bind_local _ _ _ _ (dec_local nm.Optional k b c u' v' g bn cm) (λ d k u2 v2 g2.
        ok_local _ _ g2 (ap (λ at. parameter_of at ty d) (same_place h))))

    arguments_local : Alike n m (arguments_behind s rec dec) (arguments_behind s rec' dec')
    unfolding arguments_behind
    arguments_local k b c u v h bn cm = test_local (ap (is_mark p.RightParen) (same_kind h)) (taken_local [] [] h refl)
        (bind_local _ _ _ _ (list_local n m (rec 2) (rec' 2) (rec_local 2) k b c u v h bn cm) (λ xs k u v g. end_local p.RightParen xs xs g refl))

    parameters_local : Alike n m (parameters_behind s rec dec) (parameters_behind s rec' dec')
    unfolding parameters_behind
    parameters_local k b c u v h bn cm = test_local (ap (is_mark p.RightParen) (same_kind h)) (taken_local [] [] h refl)
        (bind_local _ _ _ _ (list_local n m (parameter s rec dec) (parameter s rec' dec') parameter_local k b c u v h bn cm) (λ xs k u v g. end_local p.RightParen xs xs g refl))

    name_local : (at : ℕ) (name : List ℕ) → Alike n m (behind_name s rec dec at name) (behind_name s rec' dec' at name)
    unfolding behind_name
    name_local at name k b c u v h bn cm = test_local (ap (is_mark p.LeftParen) (same_kind h))
        (bind_local _ _ _ _ (behind_local (arguments_behind s rec dec) (arguments_behind s rec' dec') arguments_local h (omega arith) (omega arith)) (λ xs k u v g. ok_local _ _ g refl)) (ok_local _ _ h refl)

    cast_local : (at : ℕ) → Alike n m (cast_behind s rec dec at) (cast_behind s rec' dec' at)
    unfolding cast_behind
    cast_local at k b c u v h bn cm = bind_local _ _ _ _ (type_local k b c u v h bn cm) (λ ty k u v g. then_expect p.RightParen _ _ g (λ k u v g. bind_local _ _ _ _ (rec_local 16 k b c u v g bn cm) (λ x k u v g. ok_local _ _ g refl)))

    brackets_local : Alike n m (brackets_behind s rec dec) (brackets_behind s rec' dec')
    unfolding brackets_behind
    brackets_local k b c u v h bn cm = bind_local _ _ _ _ (whole_local k b c u v h bn cm) (λ x k u v g. end_local p.RightParen (x, 19) (x, 19) g refl)

    begins_same : {k : Mode} {b c : ℕ} {u v : List Lexeme} → State k b c u v → begins_type s u ≡ begins_type s v
    begins_same h = same_head (begins_type s) (λ x u v. refl) h

    bracket_local : (least at : ℕ) → Alike n m (bracket_operand s rec dec least at) (bracket_operand s rec' dec' least at)
    bracket_local least at k b c u v h bn cm = test_local (begins_same h) (test_local refl (cast_local at k b c u v h bn cm) (err_local h)) (brackets_local k b c u v h bn cm)

    size_type_local : (at : ℕ) → Alike n m (sizeof_type_name s rec dec at) (sizeof_type_name s rec' dec' at)
    unfolding sizeof_type_name
    size_type_local at k b c u v h bn cm = bind_local _ _ _ _ (type_local k b c u v h bn cm) (λ ty k u v g. end_local p.RightParen _ _ g refl)

    size_value_local : (at : ℕ) → Alike n m (sizeof_unary s rec dec at) (sizeof_unary s rec' dec' at)
    unfolding sizeof_unary
    size_value_local at k b c u v h bn cm = bind_local _ _ _ _ (rec_local 17 k b c u v h bn cm) (λ x k u v g. ok_local _ _ g refl)

    -- at the bracket that is the last of the same tokens, what is read takes it
    size_value_lost : (at : ℕ) (l : Lexeme) (u : List Lexeme) → l.kind ≡ kd.Mark p.LeftParen → length (l ∷ u) ≤ n → length u ≤ length left → Agrees Mode.past (length u) 0 (sizeof_unary s rec dec at (l ∷ u)) (sizeof_unary s rec dec at (l ∷ u))
    unfolding sizeof_unary
    size_value_lost at l u kind len le = bind_local _ _ _ _ (takes l u kind len le) (λ x k u v g. ok_local _ _ g refl)

    size_lost : (at b : ℕ) (x : Bool) → t.kind ≡ kd.Mark p.LeftParen → length left ≤ b → suc (length left) ≤ n
        → {k : Mode} {c : ℕ} {o : ParseOutcome (Expr × ℕ)} → Agrees k b c (cond x (sizeof_type_name s rec dec at left) (sizeof_unary s rec dec at (t ∷ left))) o
    size_lost at b true kind lb len = forget (omega arith) (size_type_local at Mode.past (length left) 0 left left (State.past (omega arith) (omega arith)) (omega arith) (omega arith))
    size_lost at b false kind lb len = forget lb (size_value_lost at t left kind len (omega arith))

    size_here : (at b c : ℕ) (x : Bool) → is_mark p.LeftParen t.kind ≡ x → State Mode.near b c (t ∷ left) (t ∷ right) → b ≤ n → c ≤ m
        → Agrees Mode.near b c (cond x (cond (begins_type s left) (sizeof_type_name s rec dec at left) (sizeof_unary s rec dec at (t ∷ left))) (sizeof_unary s rec dec at (t ∷ left)))
        (cond x (cond (begins_type s right) (sizeof_type_name s rec' dec' at right) (sizeof_unary s rec' dec' at (t ∷ right))) (sizeof_unary s rec' dec' at (t ∷ right)))
    size_here at b c true e (State.near h lb lc) bn cm = size_lost at b (begins_type s left) (mark_is p.LeftParen t.kind e) (omega arith) (omega arith)
    size_here at b c false e h bn cm = size_value_local at Mode.near b c (t ∷ left) (t ∷ right) h bn cm

    size_local : (at : ℕ) → Alike n m (sizeof_behind s rec dec at) (sizeof_behind s rec' dec' at)
    size_local at k b c u v (State.near Same.here lb lc) bn cm = size_here at b c (is_mark p.LeftParen t.kind) refl (State.near Same.here lb lc) bn cm
    size_local at k b c u v (State.near (Same.there x {u = u2} {v = v2} h) lb lc) bn cm =
        let st : State Mode.near b c (x ∷ u2) (x ∷ v2) = State.near (Same.there x h) lb lc in
        let st2 : State Mode.near b c u2 v2 = State.near h (omega arith) (omega arith) in
        test_local refl (test_local (begins_same st2) (size_type_local at Mode.near b c u2 v2 st2 bn cm) (size_value_local at Mode.near b c (x ∷ u2) (x ∷ v2) st bn cm)) (size_value_local at Mode.near b c (x ∷ u2) (x ∷ v2) st bn cm)
    size_local at k b c u v (State.past l lb) bn cm =
        let st : State Mode.past b c u u = State.past l lb in
        test_local refl (test_local refl (behind_local (sizeof_type_name s rec dec at) (sizeof_type_name s rec' dec' at) (size_type_local at) st (omega arith) (omega arith)) (size_value_local at Mode.past b c u u st bn cm)) (size_value_local at Mode.past b c u u st bn cm)

    operand_by_local : (least : ℕ) (class : Prefix) → Alike (suc n) (suc m) (operand_by s rec dec least class) (operand_by s rec' dec' least class)
    operand_by_local least px.Name k b c u v h bn cm = test_local (ap (is_type_name s) (same_spelling h)) (err_local h)
        (rw (same_place h, same_spelling h) (behind_local (behind_name s rec dec (token_place v) (spelling_at v)) (behind_name s rec' dec' (token_place v) (spelling_at v)) (name_local (token_place v) (spelling_at v)) h bn cm))
    operand_by_local least px.Number k b c u v h bn cm = rw (same_place h, same_spelling h) (taken_local _ _ h refl)
    operand_by_local least px.Character k b c u v h bn cm = rw (same_place h, same_spelling h) (taken_local _ _ h refl)
    operand_by_local least px.Text k b c u v h bn cm = rw (same_place h) (bind_local _ _ _ _ (texts_local (suc n) (suc m) k b c u v h bn cm) (λ xs k u v g. ok_local _ _ g refl))
    operand_by_local least px.Bracket k b c u v h bn cm = rw (same_place h) (behind_local (bracket_operand s rec dec least (token_place v)) (bracket_operand s rec' dec' least (token_place v)) (bracket_local least (token_place v)) h bn cm)
    operand_by_local least (px.Step op) k b c u v h bn cm = rw (same_place h) (bind_local _ _ _ _ (behind_local (rec 17) (rec' 17) (rec_local 17) h bn cm) (λ x k u v g. ok_local _ _ g refl))
    operand_by_local least (px.Unary op) k b c u v h bn cm = rw (same_place h) (bind_local _ _ _ _ (behind_local (rec 16) (rec' 16) (rec_local 16) h bn cm) (λ x k u v g. ok_local _ _ g refl))
    operand_by_local least px.SizeOf k b c u v h bn cm = rw (same_place h) (behind_local (sizeof_behind s rec dec (token_place v)) (sizeof_behind s rec' dec' (token_place v)) (size_local (token_place v)) h bn cm)
    operand_by_local least px.Nothing k b c u v h bn cm = err_local h

    operand_local : (least : ℕ) → Alike (suc n) (suc m) (operand s rec dec least) (operand s rec' dec' least)
    unfolding operand
    operand_local least k b c u v h bn cm = rw (same_kind h) (operand_by_local least (prefix_of (kind_at v)) k b c u v h bn cm)

    step_local : (class : Infix) (at : ℕ) (x : Expr) → Alike n m (step_by s rec dec class at x) (step_by s rec' dec' class at x)
    step_local ix.Index at x k b c u v h bn cm = bind_local _ _ _ _ (whole_local k b c u v h bn cm) (λ z k u v g. end_local p.RightBracket _ _ g refl)
    step_local ix.Field at x k b c u v h bn cm = bind_local _ _ _ _ (member_local n m k b c u v h bn cm) (λ z k u v g. ok_local _ _ g refl)
    step_local ix.Arrow at x k b c u v h bn cm = bind_local _ _ _ _ (member_local n m k b c u v h bn cm) (λ z k u v g. ok_local _ _ g refl)
    step_local (ix.Step op) at x k b c u v h bn cm = ok_local _ _ h refl
    step_local (ix.Binary op) at x k b c u v h bn cm = bind_local _ _ _ _ (rec_local (suc (level_of op)) k b c u v h bn cm) (λ z k u v g. ok_local _ _ g refl)
    step_local ix.Conditional at x k b c u v h bn cm = bind_local _ _ _ _ (whole_local k b c u v h bn cm) (λ y k u v g. then_expect p.Colon _ _ g (λ k u v g. bind_local _ _ _ _ (rec_local 4 k b c u v g bn cm) (λ z k u v g. ok_local _ _ g refl)))
    step_local (ix.Assign op) at x k b c u v h bn cm = bind_local _ _ _ _ (rec_local 2 k b c u v h bn cm) (λ z k u v g. ok_local _ _ g refl)
    step_local ix.Comma at x k b c u v h bn cm = err_local h
    step_local ix.Tight at x k b c u v h bn cm = err_local h
    step_local ix.Nothing at x k b c u v h bn cm = err_local h

    abbrev climbing : (ℕ → Parser Expr) → (NameRequirement → Parser Declarator) → ℕ → ℕ → ℕ → ℕ × Expr → Parser Expr
    climbing rec dec at least j q = climb s rec dec at least j q.0 q.1

    climb_loop : (at least j i : ℕ) (q : ℕ × Expr) → Loop (suc n) (suc m) (climbing rec dec at least) (climbing rec' dec' at least) j i q
    unfolding climb
    climb_loop at least = loop_local (suc n) (suc m) (climbing rec dec at least) (climbing rec' dec' at least) (λ q k b c u v h. ok_local q.1 q.1 h refl)
        (λ j i next q k b c u v h bn cm bj ci. rw (same_kind h)
        (let class = infix_of (kind_at v) in
        test_local refl (ok_local q.1 q.1 h refl) (test_local refl (err_local h)
        (take_local (λ ts. and_then (step_by s rec dec class at q.1 ts) (climb s rec dec at least j (result_level class))) (λ ts. and_then (step_by s rec' dec' class at q.1 ts) (climb s rec' dec' at least i (result_level class))) h
        (λ k u v g. bind_local _ _ _ _ (step_local class at q.1 k (b - 1) (c - 1) u v g (omega arith) (omega arith)) (λ z k u v g. next (result_level class, z) k (b - 1) (c - 1) u v g (omega arith) (omega arith) (omega arith) (omega arith)))))))

    climb_local : (at least : ℕ) (q : ℕ × Expr) → Alike (suc n) (suc m) (λ ts. climbing rec dec at least (length ts) q ts) (λ ts. climbing rec' dec' at least (length ts) q ts)
    climb_local at least q = turns_local (suc n) (suc m) (climbing rec dec at least) (climbing rec' dec' at least) (climb_loop at least) q

    pub tight_local : (least : ℕ) → Alike (suc n) (suc m) (tight s rec dec least) (tight s rec' dec' least)
    tight_local least k b c u v h bn cm = rw (same_place h) (bind_local _ _ _ _ (operand_local least k b c u v h bn cm) (λ q k u' v' g. climb_local (token_place v) least (q.1, q.0) k b c u' v' g bn cm))

    -- a bracket is taken
    pub tight_takes : (l : Lexeme) (u : List Lexeme) → l.kind ≡ kd.Mark p.LeftParen → length (l ∷ u) ≤ suc n → length u ≤ length left → Agrees Mode.past (length u) 0 (tight s rec dec 17 (l ∷ u)) (tight s rec' dec' 17 (l ∷ u))
    unfolding operand
    tight_takes l u kind len le =
        let st : State Mode.past (length u) 0 u u = State.past le (omega arith) in
        bind_local _ _ _ _ (subst (λ kd. Agrees Mode.past (length u) 0 (operand_by s rec dec 17 (prefix_of kd) (l ∷ u)) (operand_by s rec' dec' 17 (prefix_of kd) (l ∷ u))) (sym kind) (bracket_local 17 l.at Mode.past (length u) 0 u u st (omega arith) (omega arith)))
        (λ q k u' v' g. climb_local l.at 17 (q.1, q.0) k (length u) 0 u' v' g (omega arith) (omega arith))

    -- ---- declarators

    length_local : (d : Declarator) → Alike n m (length_behind s rec dec d) (length_behind s rec' dec' d)
    unfolding length_behind
    length_local d k b c u v h bn cm = test_local (ap (is_mark p.RightBracket) (same_kind h)) (taken_local _ _ h refl)
        (bind_local _ _ _ _ (rec_local 4 k b c u v h bn cm) (λ x k u v g. end_local p.RightBracket _ _ g refl))

    suffixes_loop : (j i : ℕ) (d : Declarator) → Loop (suc n) (suc m) (suffixes s rec dec) (suffixes s rec' dec') j i d
    unfolding suffixes
    suffixes_loop = loop_local (suc n) (suc m) (suffixes s rec dec) (suffixes s rec' dec') (λ d k b c u v h. ok_local d d h refl)
        (λ j i next d k b c u v h bn cm bj ci.
        test_local (ap (is_mark p.LeftBracket) (same_kind h))
        (take_local (λ ts. and_then (length_behind s rec dec d ts) (suffixes s rec dec j)) (λ ts. and_then (length_behind s rec' dec' d ts) (suffixes s rec' dec' i)) h
        (λ k u v g. bind_local _ _ _ _ (length_local d k (b - 1) (c - 1) u v g (omega arith) (omega arith)) (λ z k u v g. next z k (b - 1) (c - 1) u v g (omega arith) (omega arith) (omega arith) (omega arith))))
        (test_local (ap (is_mark p.LeftParen) (same_kind h))
        (take_local (λ ts. and_then (parameters_behind s rec dec ts) (λ xs. suffixes s rec dec j (with_shape d (sh.Takes (without_void xs))))) (λ ts. and_then (parameters_behind s rec' dec' ts) (λ xs. suffixes s rec' dec' i (with_shape d (sh.Takes (without_void xs))))) h
        (λ k u v g. bind_local _ _ _ _ (parameters_local k (b - 1) (c - 1) u v g (omega arith) (omega arith)) (λ xs k u v g. next (with_shape d (sh.Takes (without_void xs))) k (b - 1) (c - 1) u v g (omega arith) (omega arith) (omega arith) (omega arith))))
        (ok_local d d h refl)))

    suffixes_local : (d : Declarator) → Alike (suc n) (suc m) (λ ts. suffixes s rec dec (length ts) d ts) (λ ts. suffixes s rec' dec' (length ts) d ts)
    suffixes_local d = turns_local (suc n) (suc m) (suffixes s rec dec) (suffixes s rec' dec') suffixes_loop d

    pointer_local : (naming : NameRequirement) → Alike n m (pointer_declarator s rec dec naming) (pointer_declarator s rec' dec' naming)
    unfolding pointer_declarator
    pointer_local naming k b c u v h bn cm = bind_local _ _ _ _ (consts_local n m k b c u v h bn cm) (λ x k u v g. bind_local _ _ _ _ (dec_local naming k b c u v g bn cm) (λ d k u v g. ok_local _ _ g refl))

    group_local : (naming : NameRequirement) → Alike n m (group_behind s rec dec naming) (group_behind s rec' dec' naming)
    unfolding group_behind
    group_local naming k b c u v h bn cm = bind_local _ _ _ _ (pointer_local naming k b c u v h bn cm) (λ d k u v g. end_local p.RightParen d d g refl)

    no_name_local : (naming : NameRequirement) (n m : ℕ) → Alike n m (no_name naming) (no_name naming)
    no_name_local naming n m k b c u v h bn cm = test_local refl (ok_local nameless nameless h refl) (err_local h)

    core_name_local : (naming : NameRequirement) (n m : ℕ) → Alike n m (core_name s naming) (core_name s naming)
    core_name_local naming n m k b c u v h bn cm =
        let made : ℕ → List ℕ → Declarator = λ at name. record { name = Some (record { at = at; name = name }); shapes = [] } in
        test_local (ap (λ name. takes_name naming (is_type_name s name)) (same_spelling h)) (taken_local (made (token_place u) (spelling_at u)) (made (token_place v) (spelling_at v)) h (ap (λ at. made at (spelling_at u)) (same_place h) ∙ ap (made (token_place v)) (same_spelling h))) (no_name_local naming n m k b c u v h bn cm)

    behind_past : (u : List Lexeme) → length (token_tail u) ≤ length u
    behind_past [] = omega arith
    behind_past (x ∷ u) = omega arith

    abbrev with_suffixes : (ℕ → Parser Expr) → (NameRequirement → Parser Declarator) → Declarator → Parser Declarator
    with_suffixes rec dec d ts = suffixes s rec dec (length ts) d ts

    -- at a bracket, with the same token behind it
    core_bracket_local : (naming : NameRequirement) {k : Mode} {b c : ℕ} {u v : List Lexeme} → State k b c u v → State k b c (token_tail u) (token_tail v) → b ≤ suc n → c ≤ suc m → Agrees k b c (core_bracket s rec dec naming u) (core_bracket s rec' dec' naming v)
    core_bracket_local naming h g bn cm = test_local (ap (is_mark p.Star) (same_kind g)) (behind_local (group_behind s rec dec naming) (group_behind s rec' dec' naming) (group_local naming) g bn cm)
        (test_local refl (ok_local nameless nameless h refl) (err_local g))

    core_local : (naming : NameRequirement) {k : Mode} {b c : ℕ} {u v : List Lexeme} → State k b c u v → State k b c (token_tail u) (token_tail v) → b ≤ suc n → c ≤ suc m → Agrees k b c (core s rec dec naming u) (core s rec' dec' naming v)
    unfolding core
    core_local naming {k} {b} {c} {u} {v} h g bn cm = test_local (ap is_name_token (same_kind h)) (core_name_local naming (suc n) (suc m) k b c u v h bn cm)
        (test_local (ap (is_mark p.LeftParen) (same_kind h)) (core_bracket_local naming h g bn cm) (no_name_local naming (suc n) (suc m) k b c u v h bn cm))

    -- at the bracket that is the last of the same tokens, what is read takes it
    bracket_lost : (naming : NameRequirement) (x y : Bool) → t.kind ≡ kd.Mark p.LeftParen → length left ≤ n
        → Agrees Mode.past (length left) 0 (and_then (cond x (group_behind s rec dec naming (token_tail left)) (cond y (Ok (nameless, t ∷ left)) (Err left))) (with_suffixes rec dec))
        (and_then (cond x (group_behind s rec' dec' naming (token_tail left)) (cond y (Ok (nameless, t ∷ left)) (Err left))) (with_suffixes rec' dec'))
    unfolding suffixes
    bracket_lost naming true y kind len =
        let st : State Mode.past (length left) 0 left left = State.past (omega arith) (omega arith) in
        bind_local _ _ _ _ (behind_local (group_behind s rec dec naming) (group_behind s rec' dec' naming) (group_local naming) st (omega arith) (omega arith)) (λ d k u v g. suffixes_local d k (length left) 0 u v g (omega arith) (omega arith))
    bracket_lost naming false true kind len =
        let st : State Mode.past (length left) 0 left left = State.past (omega arith) (omega arith) in
        let other : is_mark p.LeftBracket t.kind ≡ false = ap (is_mark p.LeftBracket) kind in
        let yes = is_mark_of p.LeftParen t.kind kind in
        rw (other, yes) (bind_local _ _ _ _ (parameters_local Mode.past (length left) 0 left left st (omega arith) (omega arith))
        (λ xs k u v g. suffixes_loop (length left) (length left) (with_shape nameless (sh.Takes (without_void xs))) k (length left) 0 u v g (omega arith) (omega arith) (omega arith) (omega arith)))
    bracket_lost naming false false kind len = err_local (State.past (omega arith) (omega arith))

    shape_here : (naming : NameRequirement) (b c : ℕ) (x y : Bool) → is_mark p.LeftParen t.kind ≡ y → State Mode.near b c (t ∷ left) (t ∷ right) → b ≤ suc n → c ≤ suc m
        → Agrees Mode.near b c (and_then (cond x (core_name s naming (t ∷ left)) (cond y (core_bracket s rec dec naming (t ∷ left)) (no_name naming (t ∷ left)))) (with_suffixes rec dec))
        (and_then (cond x (core_name s naming (t ∷ right)) (cond y (core_bracket s rec' dec' naming (t ∷ right)) (no_name naming (t ∷ right)))) (with_suffixes rec' dec'))
    shape_here naming b c true y e h bn cm = bind_local _ _ _ _ (core_name_local naming (suc n) (suc m) Mode.near b c (t ∷ left) (t ∷ right) h bn cm) (λ d k u v g. suffixes_local d k b c u v g bn cm)
    shape_here naming b c false true e (State.near h lb lc) bn cm = forget (omega arith) (bracket_lost naming (is_mark p.Star (kind_at left)) (may_be_nameless naming) (mark_is p.LeftParen t.kind e) (omega arith))
    shape_here naming b c false false e h bn cm = bind_local _ _ _ _ (no_name_local naming (suc n) (suc m) Mode.near b c (t ∷ left) (t ∷ right) h bn cm) (λ d k u v g. suffixes_local d k b c u v g bn cm)

    shape_local : (naming : NameRequirement) → Alike (suc n) (suc m) (λ ts. and_then (core s rec dec naming ts) (with_suffixes rec dec)) (λ ts. and_then (core s rec' dec' naming ts) (with_suffixes rec' dec'))
    unfolding core
    shape_local naming k b c u v (State.near Same.here lb lc) bn cm = shape_here naming b c (is_name_token t.kind) (is_mark p.LeftParen t.kind) refl (State.near Same.here lb lc) bn cm
    shape_local naming k b c u v (State.near (Same.there x {u = u2} {v = v2} h) lb lc) bn cm =
        bind_local _ _ _ _ (core_local naming {u = x ∷ u2} {v = x ∷ v2} (State.near (Same.there x h) lb lc) (State.near h (omega arith) (omega arith)) bn cm) (λ d k u v g. suffixes_local d k b c u v g bn cm)
    shape_local naming k b c u v (State.past l lb) bn cm =
        let less = behind_past u in
        bind_local _ _ _ _ (core_local naming {u = u} {v = u} (State.past l lb) (State.past (omega arith) (omega arith)) bn cm) (λ d k u v g. suffixes_local d k b c u v g bn cm)

    pub shaping_local : (naming : NameRequirement) → Alike (suc n) (suc m) (shaped_declarator s rec dec naming) (shaped_declarator s rec' dec' naming)
    shaping_local naming k b c u v h bn cm = test_local (ap (is_mark p.Star) (same_kind h)) (behind_local (pointer_declarator s rec dec naming) (pointer_declarator s rec' dec' naming) (pointer_local naming) h bn cm)
        (shape_local naming k b c u v h bn cm)

  mutual
    unfolding expr

    pub expr_local : (s : TypeNames) (n m least : ℕ) → Alike n m (expr s n least) (expr s m least)
    expr_local s zero m least k b c u v (State.near h lb lc) bn cm = let o = some_left h in absurd (omega arith)
    expr_local s zero m least k b c u v (State.past l lb) bn cm = forget {b = b} {c = c} {o' = Err u} (omega arith) (err_local (State.past l lb))
    expr_local s (suc n) zero least k b c u v (State.near h lb lc) bn cm = let o = some_right h in absurd (omega arith)
    expr_local s (suc n) zero least k b c u v (State.past l lb) bn cm = forget (omega arith)
        (tight_local s n zero (expr s n) (expr s zero) (declarator s n) (declarator s zero) (expr_local s n zero) (declarator_local s n zero) (expr_takes s n) least Mode.past b 0 u u (State.past l lb) bn (omega arith))
    expr_local s (suc n) (suc m) least k b c u v h bn cm = tight_local s n m (expr s n) (expr s m) (declarator s n) (declarator s m) (expr_local s n m) (declarator_local s n m) (expr_takes s n) least k b c u v h bn cm

    pub declarator_local : (s : TypeNames) (n m : ℕ) (naming : NameRequirement) → Alike n m (declarator s n naming) (declarator s m naming)
    declarator_local s zero m naming k b c u v (State.near h lb lc) bn cm = let o = some_left h in absurd (omega arith)
    declarator_local s zero m naming k b c u v (State.past l lb) bn cm = forget {b = b} {c = c} {o' = Err u} (omega arith) (err_local (State.past l lb))
    declarator_local s (suc n) zero naming k b c u v (State.near h lb lc) bn cm = let o = some_right h in absurd (omega arith)
    declarator_local s (suc n) zero naming k b c u v (State.past l lb) bn cm = forget (omega arith)
        (shaping_local s n zero (expr s n) (expr s zero) (declarator s n) (declarator s zero) (expr_local s n zero) (declarator_local s n zero) (expr_takes s n) naming Mode.past b 0 u u (State.past l lb) bn (omega arith))
    declarator_local s (suc n) (suc m) naming k b c u v h bn cm = shaping_local s n m (expr s n) (expr s m) (declarator s n) (declarator s m) (expr_local s n m) (declarator_local s n m) (expr_takes s n) naming k b c u v h bn cm

    pub expr_takes : (s : TypeNames) (n : ℕ) (l : Lexeme) (u : List Lexeme) → l.kind ≡ kd.Mark p.LeftParen → length (l ∷ u) ≤ n → length u ≤ length left → Agrees Mode.past (length u) 0 (expr s n 17 (l ∷ u)) (expr s n 17 (l ∷ u))
    expr_takes s zero l u kind len le = absurd (omega arith)
    expr_takes s (suc n) l u kind len le = tight_takes s n n (expr s n) (expr s n) (declarator s n) (declarator s n) (expr_local s n n) (declarator_local s n n) (expr_takes s n) l u kind len le

  -- ---- loops whose turns take a token of their own

  pub same_lengths : {u v : List Lexeme} → Same u v → length u + length right ≡ length v + length left
  same_lengths Same.here = omega arith
  same_lengths (Same.there x h) = let e = same_lengths h in omega arith

  shrink : {k : Mode} {b c : ℕ} {u v u' v' : List Lexeme} → State k b c u v → State k b c u' v' → length u' < length u → State k (b - 1) (c - 1) u' v'
  shrink (State.near h lb lc) (State.near g mb mc) lt = let e = same_lengths h in let o = same_lengths g in State.near g (omega arith) (omega arith)
  shrink (State.past l lb) (State.past l' mb) lt = State.past l' (omega arith)

  pub low_bound : {k : Mode} {b c : ℕ} {u v : List Lexeme} → State k b c u v → length u ≤ b
  low_bound (State.near h lb lc) = lb
  low_bound (State.past l lb) = lb

  some_ok : {A B : Type 0} {k : Mode} {b c : ℕ} {u v : List Lexeme} (x : A) (u' : List Lexeme) (o' : ParseOutcome A) (f f' : A → Parser B) → State k b c u v → length u' < length u → Goes k b c u' (λ v. o' ≡ Ok (x, v))
      → ((k : Mode) (u v : List Lexeme) → State k (b - 1) (c - 1) u v → Agrees k (b - 1) (c - 1) (f x u) (f' x v)) → Agrees k b c (f x u') (and_then o' f')
  some_ok x u' o' f f' st lt (Goes.lost l lb) g = let le = low_bound st in forget (omega arith) (g Mode.past u' u' (State.past l (omega arith)))
  some_ok {k = k} {b} {c} x u' o' f f' st lt (Goes.kept v h e) g = subst (λ z. Agrees k b c (f x u') (and_then z f')) (sym e) (more (omega arith) (omega arith) (g k u' v (shrink st h lt)))

  pub bind_some : {A B : Type 0} {k : Mode} {b c : ℕ} {u v : List Lexeme} (o o' : ParseOutcome A) (f f' : A → Parser B) → State k b c u v → Agrees k b c o o' → ((x : A) (u' : List Lexeme) → o ≡ Ok (x, u') → length u' < length u)
      → ((x : A) (k : Mode) (u v : List Lexeme) → State k (b - 1) (c - 1) u v → Agrees k (b - 1) (c - 1) (f x u) (f' x v)) → Agrees k b c (and_then o f) (and_then o' f')
  bind_some (Ok (x, u')) o' f f' st h lt g = some_ok x u' o' f f' st (lt x u' refl) (h.by (x, u') refl) (g x)
  bind_some {A} {B} {k} {b} {c} (Err u') o' f f' st h lt g = record {
    by = λ q e. no_ok e;
    stops = λ z e. subst (λ z. Goes k b c z (λ v. and_then o' f' ≡ Err v)) (same_err e) (bind_err u' o' f' (h.stops u' refl));
  }

  pub begins_at : (s : TypeNames) {k : Mode} {b c : ℕ} {u v : List Lexeme} → State k b c u v → begins_type s u ≡ begins_type s v
  begins_at s h = same_head (begins_type s) (λ x u v. refl) h

  -- ---- specifiers with braces

  module _ {A : Type 0} (n m : ℕ) (item item' : Parser A) (item_local : Alike n m item item') where
    braced_loop : (j i : ℕ) (found : List A) → Loop n m (braced_list_from item) (braced_list_from item') j i found
    unfolding braced_list_from
    braced_loop = loop_local n m (braced_list_from item) (braced_list_from item') (λ found k b c u v h. err_local h)
        (λ j i next found k b c u v h bn cm bj ci. bind_local (item u) (item' v) _ _ (item_local k b c u v h bn cm) (λ x k u v g. test_local (ap (is_mark p.Comma) (same_kind g))
        (take_local (λ ts. cond (is_mark p.RightBrace (kind_at ts)) (Ok (found ++ x ∷ [], ts)) (braced_list_from item j (found ++ x ∷ []) ts)) (λ ts. cond (is_mark p.RightBrace (kind_at ts)) (Ok (found ++ x ∷ [], ts)) (braced_list_from item' i (found ++ x ∷ []) ts)) g
        (λ k u v g. test_local (ap (is_mark p.RightBrace) (same_kind g)) (ok_local _ _ g refl) (next (found ++ x ∷ []) k (b - 1) (c - 1) u v g (omega arith) (omega arith) (omega arith) (omega arith))))
        (ok_local (found ++ x ∷ []) (found ++ x ∷ []) g refl)))

    pub braced_local : Alike n m (λ ts. braced_list_from item (length ts) [] ts) (λ ts. braced_list_from item' (length ts) [] ts)
    braced_local = turns_local n m (braced_list_from item) (braced_list_from item') braced_loop []

  named_local : (ty : TypeNode) (name : Option DeclaredName) (shapes : List Shape) {k : Mode} {b c : ℕ} {u v : List Lexeme} → State k b c u v → Agrees k b c (named_by ty name shapes u) (named_by ty name shapes v)
  named_local ty (Some z) shapes h = ok_local _ _ h refl
  named_local ty None shapes h = err_local h

  module _ (s : TypeNames) (n m : ℕ) where
    pub declaration_local : (naming : NameRequirement) (ty : TypeNode) → Alike n m (declaration s n naming ty) (declaration s m naming ty)
    unfolding declaration
    declaration_local naming ty k b c u v h bn cm = bind_local _ _ _ _ (declarator_local s n m naming k b c u v h bn cm) (λ d k u v g. named_local ty d.name d.shapes g)

    value_local : (at : ℕ) (name : List ℕ) → Alike n m (enumerator_value s n at name) (enumerator_value s m at name)
    value_local at name k b c u v h bn cm = test_local (ap (is_mark p.Assign) (same_kind h))
        (bind_local _ _ _ _ (behind_local (expr s n 4) (expr s m 4) (expr_local s n m 4) h (omega arith) (omega arith)) (λ x k u v g. ok_local _ _ g refl)) (ok_local _ _ h refl)

    constant_local : Alike n m (enumerator s n) (enumerator s m)
    unfolding enumerator
    constant_local k b c u v h bn cm = test_local (ap is_name_token (same_kind h)) (test_local (ap (is_type_name s) (same_spelling h)) (err_local h)
        (rw (same_place h, same_spelling h) (behind_local (enumerator_value s n (token_place v) (spelling_at v)) (enumerator_value s m (token_place v) (spelling_at v)) (value_local (token_place v) (spelling_at v)) h (omega arith) (omega arith)))) (err_local h)

    abbrev declarators : ℕ → ℕ → TypeNode × List Declaration → Parser (List Declaration)
    declarators n j q = declarators_from s n j q.0 q.1

    declarators_loop : (j i : ℕ) (q : TypeNode × List Declaration) → Loop n m (declarators n) (declarators m) j i q
    unfolding declarators_from
    declarators_loop = loop_local n m (declarators n) (declarators m) (λ q k b c u v h. err_local h)
        (λ j i next q k b c u v h bn cm bj ci. bind_local _ _ _ _ (declaration_local nm.Member q.0 k b c u v h bn cm) (λ d k u v g. test_local (ap (is_mark p.Comma) (same_kind g))
        (take_local (declarators_from s n j (without_body q.0) (q.1 ++ d ∷ [])) (declarators_from s m i (without_body q.0) (q.1 ++ d ∷ [])) g (λ k u v g. next (without_body q.0, q.1 ++ d ∷ []) k (b - 1) (c - 1) u v g (omega arith) (omega arith) (omega arith) (omega arith)))
        (ok_local _ _ g refl)))

    declarators_local : (ty : TypeNode) → Alike n m (λ ts. declarators_from s n (length ts) ty [] ts) (λ ts. declarators_from s m (length ts) ty [] ts)
    declarators_local ty = turns_local n m (declarators n) (declarators m) declarators_loop (ty, [])

    module _ (spec spec' : Parser TypeNode) (spec_local : Alike n m spec spec') (spec_says : (ts : List Lexeme) → Says (spec ts) ts (λ a ty. IsSpecifier s a ty)) where
      member_of_local : Alike n m (specifiers.struct_declaration s n spec) (specifiers.struct_declaration s m spec')
      unfolding specifiers.struct_declaration
      member_of_local k b c u v h bn cm = bind_local _ _ _ _ (spec_local k b c u v h bn cm) (λ ty k u v g. bind_local _ _ _ _ (declarators_local ty k b c u v g bn cm) (λ ds k u v g. end_local p.Semicolon _ _ g refl))

      member_some : (u u' : List Lexeme) (ds : List Declaration) → specifiers.struct_declaration s n spec u ≡ Ok (ds, u') → length u' < length u
      member_some u u' ds e = let z = (member_says s n spec spec_says u).by (ds, u') e in let o = (member_begins s z.2).0 in let q = ap length z.1 in omega (arith, length-append z.0 u')

      members_loop : (j i : ℕ) (found : List Declaration) → Loop n m (struct_declarations_from s n spec) (struct_declarations_from s m spec') j i found
      unfolding struct_declarations_from
      members_loop = loop_local n m (struct_declarations_from s n spec) (struct_declarations_from s m spec') (λ found k b c u v h. err_local h)
          (λ j i next found k b c u v h bn cm bj ci. bind_some _ _ _ _ h (member_of_local k b c u v h bn cm) (λ ds u' e. member_some u u' ds e) (λ ds k u v g. test_local (ap (is_mark p.RightBrace) (same_kind g))
          (ok_local _ _ g refl) (next (found ++ ds) k (b - 1) (c - 1) u v g (omega arith) (omega arith) (omega arith) (omega arith))))

      closed_local : {B : Type 0} (x : B) {k : Mode} {b c : ℕ} {u v : List Lexeme} → State k b c u v
          → Agrees k b c (and_then (expect p.RightBrace u) (λ _ r. and_then (consts (length r) r) (λ _. pure x))) (and_then (expect p.RightBrace v) (λ _ r. and_then (consts (length r) r) (λ _. pure x)))
      closed_local x {b = b} {c} h = then_expect p.RightBrace _ _ h (λ k u v g. bind_local _ _ _ _ (consts_local b c k b c u v g (omega arith) (omega arith)) (λ _ k u v g. ok_local x x g refl))

      body_local : (class : Specifier) (at : ℕ) (name : Option (List ℕ)) → Alike n m (specifiers.body s n spec class at name) (specifiers.body s m spec' class at name)
      body_local cs.Struct at name k b c u v h bn cm = bind_local _ _ _ _ (turns_local n m (struct_declarations_from s n spec) (struct_declarations_from s m spec') members_loop [] k b c u v h bn cm) (λ ds k u v g. closed_local (y.Struct at name (Some ds)) g)
      body_local _ at name k b c u v h bn cm = bind_local _ _ _ _ (braced_local n m (enumerator s n) (enumerator s m) constant_local k b c u v h bn cm) (λ xs k u v g. closed_local (y.Enum at name (Some xs)) g)

      braces_local : (class : Specifier) (at : ℕ) (name : Option (List ℕ)) → Alike n m (braces s n spec class at name) (braces s m spec' class at name)
      unfolding braces
      braces_local class at name k b c u v h bn cm = then_expect p.LeftBrace _ _ h (λ k u v g. body_local class at name k b c u v g bn cm)

      behind_tag_local : (class : Specifier) (at : ℕ) (name : List ℕ) → Alike n m (behind_tag s n spec class at name) (behind_tag s m spec' class at name)
      behind_tag_local class at name k b c u v h bn cm = test_local (ap (is_mark p.LeftBrace) (same_kind h)) (braces_local class at (Some name) k b c u v h bn cm)
          (bind_local _ _ _ _ (consts_local n m k b c u v h bn cm) (λ _ k u v g. ok_local _ _ g refl))

      pub tag_or_body_local : (class : Specifier) (at : ℕ) → Alike n m (tag_or_body s n spec class at) (tag_or_body s m spec' class at)
      unfolding tag_or_body
      tag_or_body_local class at k b c u v h bn cm = test_local (ap is_name_token (same_kind h))
          (rw (same_place h, same_spelling h) (behind_local (behind_tag s n spec class (token_place v) (spelling_at v)) (behind_tag s m spec' class (token_place v) (spelling_at v)) (behind_tag_local class (token_place v) (spelling_at v)) h (omega arith) (omega arith)))
          (braces_local class at None k b c u v h bn cm)

  pub specifier_of_local : (s : TypeNames) (n m : ℕ) → Alike n m (specifier s n) (specifier s m)
  unfolding specifier
  specifier_of_local s zero m k b c u v (State.near h lb lc) bn cm = let o = some_left h in absurd (omega arith)
  specifier_of_local s zero m k b c u v (State.past l lb) bn cm = forget {b = b} {c = c} {o' = Err u} (omega arith) (err_local (State.past l lb))
  specifier_of_local s (suc n) zero k b c u v (State.near h lb lc) bn cm = let o = some_right h in absurd (omega arith)
  specifier_of_local s (suc n) zero k b c u v (State.past l lb) bn cm = forget (omega arith)
      (specifier_local s n zero (tag_or_body s n (specifier s n)) (tag_or_body s zero (specifier s zero)) (tag_or_body_local s n zero (specifier s n) (specifier s zero) (specifier_of_local s n zero) (sound_specifier s n)) Mode.past b 0 u u (State.past l lb) bn (omega arith))
  specifier_of_local s (suc n) (suc m) k b c u v h bn cm =
      specifier_local s n m (tag_or_body s n (specifier s n)) (tag_or_body s m (specifier s m)) (tag_or_body_local s n m (specifier s n) (specifier s m) (specifier_of_local s n m) (sound_specifier s n)) k b c u v h bn cm
