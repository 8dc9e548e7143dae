-- Constants, names, calls, commas, the operand of `switch` and its labels.
use Rattle.std.proofs.Common.{◌≡◌, ℕ, nat_le, Bool, true, false, not, ◌&&◌, ◌==◌, IsTrue, IsFalse, List, [], ◌∷◌, ◌++◌, map, slice_get, Option, Some, None, Ok, Err, IfOk, IfSome, refl, ap, ◌∙◌, subst, if◌then◌else◌, option_map, option_and_then}
use Rattle.std.proofs.Common.{drop, take}
use Rattle.bk_arithmetic.specs.declared.integer_type.IntegerType.{IntegerType}
use Rattle.bk_arithmetic.specs.declared.integer_type.IntegerType.TheVariants as i
use Rattle.bk_arithmetic.specs.declared.outcome.ArithmeticOutcome.{ArithmeticOutcome}
use Rattle.bk_arithmetic.specs.declared.outcome.ArithmeticOutcome.TheVariants as o
use Rattle.bk_arithmetic.specs.IntegerTypes.{promote}
use Rattle.bk_arithmetic.specs.Words.{is_word}
use Rattle.bk_arithmetic.specs.Operations.{sum}
use Rattle.bk_arithmetic.specs.Outcomes.{IsWordOf}
use Rattle.bk_arithmetic.proofs.Results.{is_word-extension, sum-word}
use Rattle.c_typing_literals.specs.declared.integers.IntegerLiteral.{IntegerLiteral}
use Rattle.c_typing_literals.specs.Integers as number
use Rattle.c_typing_literals.specs.Characters.{character, behind_quote, value_of_item}
use Rattle.c_lexer.specs.Bytes.{is_digit, is_octal, is_hex}
use Rattle.c_lexer.specs.Literals.{item_at, value_in}
use Rattle.std.specs.List.{prefix_len}
use Rattle.c_lexer.specs.declared.literals.Item.{Item}
use Rattle.c_typing_faults.specs.declared.faults.Fault.{Fault}
use Rattle.c_typed_tree.specs.declared.types.CType as t
use Rattle.c_typed_tree.specs.declared.units.Local.{Local}
use Rattle.c_typed_tree.specs.declared.expressions.Callee.{Callee}
use Rattle.c_typed_tree.specs.declared.expressions.TExpr as e
use Rattle.c_typed_tree.specs.Types.{PlainType}
use Rattle.c_typed_tree.specs.Expressions as form
use Rattle.c_typed_tree.specs.Expressions.{Expr, Exprs, no_exprs, more_exprs, type_of}
use Rattle.c_typed_tree.specs.View.{type_view, expr_view}
use Rattle.c_typed_tree.specs.model.View.{exprs_view, opens}
use Rattle.c_typed_tree.proofs.Views.{view_call, view_comma}
use Rattle.c_typed_tree.specs.Typing.{Context, is_same_type, is_array, is_fit, has_local_type, has_global_type, are_arguments, is_call, has_last_type, are_operands, has_rule, is_memory_local, is_typed, are_typed, depth_behind, most_depth}
use Rattle.c_typing_rules.specs.declared.typed.TypedExpression.{TypedExpression}
use Rattle.c_typing_rules.specs.Values.{integer}
use Rattle.c_typing_rules.specs.Conversions.{decay}
use Rattle.c_typing_constants.specs.c_constant_rules.Values as constants
use Rattle.c_typing_primary_rules.specs.Primary.{literal_value, integer_constant, character_value, character_constant, local, static_object}
use Rattle.c_typing_primary_rules.specs.Calls.{call_rvalue}
use Rattle.c_typing_primary_rules.specs.Commas.{no_operands, with_operand, comma_operands, comma_tree, comma_value}
use Rattle.c_typing_primary_rules.specs.Switches.{switch_value, switch_operand}
use Rattle.c_typing_primary_rules.specs.declared.commas.CommaOperands.{CommaOperands}
use Rattle.c_typing_expression_sound.specs.c_type_laws.Typed.{may_be_memory, IsTypedIn, AreTypedIn, AreOfTypes, IsFunctionOf, IsSwitched}
use Rattle.c_typing_expression_sound.proofs.CTypeLaws.Truth.{no_true, also, three, along}
use Rattle.c_typing_expression_sound.proofs.CTypeLaws.Types.{alike, equal, promote_promoted, promoted_holds}
use Rattle.c_typing_expression_sound.proofs.CTypeLaws.Values.{IsValueIn, fit_in, value_typed, integer_operand, decay_typed}
use Rattle.c_typing_expression_sound.proofs.CTypeLaws.Places.{number_typed}

-- ---- constants are words of their types

literal_word : (n : ℕ) (q : Option IntegerType) → IfSome (option_map (number.literal_of_type n) q) (λ l. IsTrue (is_word l.ty l.word))
literal_word n None = tt
literal_word n (Some u) = is_word-extension u n

based_word : (decimal : Bool) (suffix : List ℕ) (q : Option ℕ) → IfSome (option_and_then (number.literal decimal suffix) q) (λ l. IsTrue (is_word l.ty l.word))
based_word decimal suffix None = tt
based_word decimal suffix (Some n) = literal_word n (number.constant_type decimal (number.has_u suffix) (number.has_l suffix) n)

based : (base : ℕ) (p : ℕ → Bool) (s : List ℕ) → IfSome (number.literal_in base p s) (λ l. IsTrue (is_word l.ty l.word))
based base p s = based_word (base == 10) (drop (prefix_len p s) s) (number.word_of_number (value_in base (take (prefix_len p s) s)))

chosen : {A : Type 0} (P : A → Type 0) (b : Bool) (x y : Option A) → IfSome x P → IfSome y P → IfSome (if b then x else y) P
chosen P true x y h g = h
chosen P false x y h g = g

pub integer_word : (s : List ℕ) → IfSome (number.integer_literal s) (λ l. IsTrue (is_word l.ty l.word))
integer_word s =
    chosen (λ (l : IntegerLiteral). IsTrue (is_word l.ty l.word)) (number.is_hex_constant s) (number.literal_in 16 is_hex (drop 2 s))
    (if number.is_octal_constant s then number.literal_in 8 is_octal s else number.literal_in 10 is_digit s) (based 16 is_hex (drop 2 s))
    (chosen (λ (l : IntegerLiteral). IsTrue (is_word l.ty l.word)) (number.is_octal_constant s) (number.literal_in 8 is_octal s) (number.literal_in 10 is_digit s) (based 8 is_octal s) (based 10 is_digit s))

item_word : (q : Option Item) → IfSome (value_of_item q) (λ n. IsTrue (is_word i.Int n))
item_word None = tt
item_word (Some x) = is_word-extension i.Int _

quote_word : (s : List ℕ) → IfSome (behind_quote s) (λ n. IsTrue (is_word i.Int n))
quote_word [] = tt
quote_word (q ∷ s) = item_word (item_at 39 s)

pub character_word : (s : List ℕ) → IfSome (character s) (λ n. IsTrue (is_word i.Int n))
character_word s = chosen (λ n. IsTrue (is_word i.Int n)) _ None (behind_quote s) tt (quote_word s)

-- ---- values of constants

pub label_word : (u : IntegerType) (a : TypedExpression) → IfOk (constants.label_value u a) (λ n. IsTrue (is_word u n))
label_word u a = of (integer a) (constants.constant_of a)
  where
    of : (q : Option IntegerType) (r : Option ℕ) → IfOk (constants.label_value_of u a.at q r) (λ n. IsTrue (is_word u n))
    of None r = tt
    of (Some s) None = tt
    of (Some s) (Some n) = is_word-extension u _

pub given_word : (a : TypedExpression) → IfOk (constants.given_value a) (λ n. IsTrue (is_word i.Int n))
given_word a = of (integer a) (constants.constant_of a)
  where
    kept : (b : Bool) (n : ℕ) (q : Fault) → IsTrue (is_word i.Int n) → IfOk (if b then Ok n else Err q) (λ n. IsTrue (is_word i.Int n))
    kept true n q h = h
    kept false n q h = tt

    of : (q : Option IntegerType) (r : Option ℕ) → IfOk (constants.given_of a.at q r) (λ n. IsTrue (is_word i.Int n))
    of None r = tt
    of (Some s) None = tt
    of (Some s) (Some n) = kept (constants.is_kept s i.Int n) _ _ (is_word-extension i.Int _)

pub next_word : (at before : ℕ) → IfOk (constants.next_value at before) (λ n. IsTrue (is_word i.Int n))
next_word at before = of (sum i.Int before 1) (sum-word i.Int before 1)
  where
    of : (q : ArithmeticOutcome) → IsWordOf i.Int q → IfOk (constants.next_of at q) (λ n. IsTrue (is_word i.Int n))
    of (o.Word n) h = h
    of (o.Trap code) h = tt
    of o.Undefined h = tt

module _ (c : Context) where
  literal_typed : (at : ℕ) (q : Option IntegerLiteral) → IfSome q (λ l. IsTrue (is_word l.ty l.word)) → IfOk (literal_value at q) (IsTypedIn c)
  literal_typed at None h = tt
  literal_typed at (Some l) h = number_typed c at l.ty l.word h

  pub integer_constant_typed : (at : ℕ) (s : List ℕ) → IfOk (integer_constant at s) (IsTypedIn c)
  integer_constant_typed at s = literal_typed at (number.integer_literal s) (integer_word s)

  value_of_character : (at : ℕ) (q : Option ℕ) → IfSome q (λ n. IsTrue (is_word i.Int n)) → IfOk (character_value at q) (IsTypedIn c)
  value_of_character at None h = tt
  value_of_character at (Some n) h = number_typed c at i.Int n h

  pub character_constant_typed : (at : ℕ) (s : List ℕ) → IfOk (character_constant at s) (IsTypedIn c)
  character_constant_typed at s = value_of_character at (character s) (character_word s)

  -- ---- names

  -- a local of a type is there
  there_in_memory : (o : Option Local) (ty : PlainType) → IsTrue (has_local_type o ty) → IsTrue (may_be_memory o) → IsTrue (is_memory_local o)
  there_in_memory None ty h m = no_true h
  there_in_memory (Some l) ty h m = m

  pub local_typed : (at number : ℕ) (ty : t.CType) → IsTrue (has_local_type (slice_get c.locals number) (type_view ty)) → IsTrue (is_fit c.structs (type_view ty)) → IsTrue (nat_le (depth_behind (type_view ty)) most_depth)
      → IsTypedIn c (local at number ty)
  unfolding opens
  local_typed at number ty rule fit depth = record {
    tree = also (is_fit c.structs (type_view ty)) (has_rule c (form.Local (type_view ty) number)) fit rule;
    type = refl;
    place = λ s. record { place = refl; memory = λ m. there_in_memory (slice_get c.locals number) (type_view ty) rule m; depth = depth };
    array = λ y. refl;
  }

  pub object_typed : (at number : ℕ) (ty : t.CType) → IsTrue (has_global_type c.structs (slice_get c.globals number) (type_view ty)) → IsTrue (is_fit c.structs (type_view ty))
      → IsTrue (nat_le (depth_behind (type_view ty)) most_depth) → IsTypedIn c (static_object at number ty)
  unfolding opens
  object_typed at number ty rule fit depth = record {
    tree = also (is_fit c.structs (type_view ty)) (has_rule c (form.Global (type_view ty) number)) fit rule;
    type = refl;
    place = λ s. record { place = refl; memory = λ m. refl; depth = depth };
    array = λ y. refl;
  }

  -- ---- calls

  arguments_typed : (ts : List t.CType) (xs : List e.TExpr) → AreOfTypes c ts xs → IsTrue (are_arguments (map type_view ts) (exprs_view xs))
  arguments_typed [] [] h = refl
  arguments_typed [] (x ∷ xs) h = absurd h
  arguments_typed (ty ∷ ts) [] h = absurd h
  arguments_typed (ty ∷ ts) (x ∷ xs) h =
      also (is_same_type (type_of (expr_view x)) (type_view ty)) (are_arguments (map type_view ts) (exprs_view xs)) (equal (type_of (expr_view x)) (type_view ty) h.0.type) (arguments_typed ts xs h.1)

  all_typed : (ts : List t.CType) (xs : List e.TExpr) → AreOfTypes c ts xs → IsTrue (are_typed c (exprs_view xs))
  all_typed [] [] h = refl
  all_typed [] (x ∷ xs) h = absurd h
  all_typed (ty ∷ ts) [] h = absurd h
  all_typed (ty ∷ ts) (x ∷ xs) h = also (is_typed c (expr_view x)) (are_typed c (exprs_view xs)) h.0.typed (all_typed ts xs h.1)

  pub call_typed : (at : ℕ) (callee : Callee) (ty : t.CType) (ts : List t.CType) (xs : List e.TExpr) → IsFunctionOf c callee ty ts → AreOfTypes c ts xs → IsTypedIn c (call_rvalue at callee ty xs)
  call_typed at callee ty ts xs f h =
      let own = type_view ty in
      value_typed c at ty (e.Call ty callee xs)
      (along (is_typed c) (view_call ty callee xs)
      (three (is_fit c.structs own) (has_rule c (form.Call own callee (exprs_view xs))) (are_typed c (exprs_view xs)) f.fit
      (ap (λ q. is_call q own (exprs_view xs)) f.signature ∙ also (is_same_type own own) (are_arguments (map type_view ts) (exprs_view xs)) (alike own) (arguments_typed ts xs h))
      (all_typed ts xs h)))
      (ap type_of (view_call ty callee xs)) f.value

  -- ---- commas

  record IsPlain (x : e.TExpr) : Type 0 where
    typed : IsTrue (is_typed c (expr_view x))
    plain : IsTrue (not (is_array (type_of (expr_view x))))

  ArePlain : List e.TExpr → Type 0
  ArePlain [] = Unit {0}
  ArePlain (x ∷ xs) = IsPlain x × ArePlain xs

  plain_typed : (xs : List e.TExpr) → ArePlain xs → IsTrue (are_typed c (exprs_view xs))
  unfolding ArePlain
  plain_typed [] h = refl
  plain_typed (x ∷ xs) h = also (is_typed c (expr_view x)) (are_typed c (exprs_view xs)) h.0.typed (plain_typed xs h.1)

  more_plain : (xs : List e.TExpr) (x : e.TExpr) → ArePlain xs → IsPlain x → ArePlain (xs ++ x ∷ [])
  unfolding ArePlain
  more_plain [] x h g = (g, tt)
  more_plain (y ∷ ys) x h g = (h.0, more_plain ys x h.1 g)

  last_typed : (ty w : PlainType) (xs : List e.TExpr) (x : e.TExpr) → IsTrue (not (is_array w)) → ArePlain xs → IsPlain x → type_of (expr_view x) ≡ ty → IsTrue (has_last_type ty w (exprs_view (xs ++ x ∷ [])))
  unfolding ArePlain
  last_typed ty w [] x n h g k =
      also (not (is_array w)) (is_same_type (type_of (expr_view x)) ty && not (is_array (type_of (expr_view x)))) n
      (also (is_same_type (type_of (expr_view x)) ty) (not (is_array (type_of (expr_view x)))) (equal (type_of (expr_view x)) ty k) g.plain)
  last_typed ty w (y ∷ ys) x n h g k = also (not (is_array w)) (has_last_type ty (type_of (expr_view y)) (exprs_view (ys ++ x ∷ []))) n (last_typed ty (type_of (expr_view y)) ys x h.0.plain h.1 g k)

  operands_typed : (ty : PlainType) (y : e.TExpr) (ys : List e.TExpr) (x : e.TExpr) → ArePlain (y ∷ ys) → IsPlain x → type_of (expr_view x) ≡ ty → IsTrue (are_operands ty (exprs_view ((y ∷ ys) ++ x ∷ [])))
  unfolding ArePlain
  operands_typed ty y [] x h g k = last_typed ty (type_of (expr_view y)) [] x h.0.plain h.1 g k
  operands_typed ty y (z ∷ zs) x h g k = last_typed ty (type_of (expr_view y)) (z ∷ zs) x h.0.plain h.1 g k

  -- what was gathered, of one operand at least, and of two
  record OneAtLeast (g : CommaOperands) : Type 0 where
    all : ArePlain g.trees
    head : (y : e.TExpr) × (ys : List e.TExpr) × (g.trees ≡ y ∷ ys)

  record TwoAtLeast (g : CommaOperands) : Type 0 where
    one : OneAtLeast g
    operands : IsTrue (are_operands (type_view g.last) (exprs_view g.trees))
    fit : IsTrue (is_fit c.structs (type_view g.last))
    value : IsFalse (is_array (type_view g.last))

  plain_in : (a : TypedExpression) → IsValueIn c a → IsPlain a.tree
  plain_in a h = record { typed = h.typed.tree; plain = ap (λ ty. not (is_array ty)) h.typed.type ∙ ap not h.value }

  first_gathered : (a : TypedExpression) → IsValueIn c a → OneAtLeast (with_operand a no_operands)
  unfolding ArePlain
  first_gathered a h = record { all = (plain_in a h, tt); head = (a.tree, [], refl) }

  appended : (xs : List e.TExpr) (x : e.TExpr) → (y : e.TExpr) × (ys : List e.TExpr) × (xs ≡ y ∷ ys) → (y : e.TExpr) × (ys : List e.TExpr) × (xs ++ x ∷ [] ≡ y ∷ ys)
  appended xs x h = (h.0, h.1 ++ x ∷ [], ap (λ l. l ++ x ∷ []) h.2)

  more_gathered : (g : CommaOperands) (a : TypedExpression) → OneAtLeast g → IsValueIn c a → TwoAtLeast (with_operand a g)
  unfolding ArePlain
  more_gathered g a s h = record {
    one = record { all = more_plain g.trees a.tree s.all (plain_in a h); head = appended g.trees a.tree s.head };
    operands = along (λ l. are_operands (type_view a.ty) (exprs_view (l ++ a.tree ∷ []))) s.head.2
        (operands_typed (type_view a.ty) s.head.0 s.head.1 a.tree (subst ArePlain s.head.2 s.all) (plain_in a h) h.typed.type);
    fit = fit_in c a h.typed;
    value = h.value;
  }

  all_gathered : (xs : List TypedExpression) (g : CommaOperands) → AreTypedIn c xs → TwoAtLeast g → TwoAtLeast (comma_operands g xs)
  all_gathered [] g h s = s
  all_gathered (a ∷ rest) g h s = all_gathered rest (with_operand (decay a) g) h.1 (more_gathered g (decay a) s.one (decay_typed c a h.0))

  comma_made : (at : ℕ) (g : CommaOperands) → TwoAtLeast g → IsTypedIn c (comma_tree at g)
  comma_made at g s =
      let own = type_view g.last in
      value_typed c at g.last (e.Comma g.last g.trees)
      (along (is_typed c) (view_comma g.last g.trees)
      (three (is_fit c.structs own) (has_rule c (form.Comma own (exprs_view g.trees))) (are_typed c (exprs_view g.trees)) s.fit s.operands (plain_typed g.trees s.one.all)))
      (ap type_of (view_comma g.last g.trees)) s.value

  pub comma_typed : (at : ℕ) (a b : TypedExpression) (rest : List TypedExpression) → IsTypedIn c a → IsTypedIn c b → AreTypedIn c rest → IsTypedIn c (comma_value at (a ∷ b ∷ rest))
  comma_typed at a b rest h g k =
      comma_made at (comma_operands (with_operand (decay b) (with_operand (decay a) no_operands)) rest)
      (all_gathered rest (with_operand (decay b) (with_operand (decay a) no_operands)) k
      (more_gathered (with_operand (decay a) no_operands) (decay b) (first_gathered (decay a) (decay_typed c a h)) (decay_typed c b g)))

  -- ---- the operand of `switch`

  switched_typed : (a : TypedExpression) (q : Option IntegerType) → IsTypedIn c a → integer a ≡ q → IfOk (switch_value a q) (IsSwitched c)
  switched_typed a None h k = tt
  switched_typed a (Some s) h k = record { value = integer_operand c (promote s) a s h k; promoted = promoted_holds (promote s) (promote_promoted s) }

  pub switch_typed : (a : TypedExpression) → IsTypedIn c a → IfOk (switch_operand a) (IsSwitched c)
  switch_typed a h = switched_typed a (integer a) h refl
