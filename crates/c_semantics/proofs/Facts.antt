-- Facts on truth values, and on values that are constants.
use Rattle.std.proofs.Common.{◌≡◌, ℕ, Bool, true, false, not, ◌&&◌, ◌||◌, ◌==◌, IsTrue, Option, Some, None, refl, sym, ap, ◌∙◌, subst, if◌then◌else◌, option_map, option_and_then}
use Rattle.std.proofs.lemmas.Option.{none-some}
use Rattle.bk_arithmetic.specs.declared.integer_type.IntegerType.{IntegerType}
use Rattle.c_tree.specs.declared.expressions.BinaryOp.{BinaryOp}
use Rattle.c_tree.specs.declared.expressions.BinaryOp.TheVariants as op
use Rattle.c_typed_tree.specs.Types.{PlainType}
use Rattle.c_typed_tree.specs.Constants.{binary_value, and_value, or_value, choice_value, both_values, value_with, is_zero, is_integer}
use Rattle.c_typed_tree.specs.Typing.{is_same_type, is_void, is_array, is_pointer, is_cast, is_conversion, decays, is_pointer_to_void}

-- ---- truth values

pub no_true : {X : Type 0} → false ≡ true → X
no_true h = let clash : ⊥ = cc in absurd clash

pub front : (a b : Bool) → IsTrue (a && b) → IsTrue a
front true b h = refl
front false b h = no_true h

pub back : (a b : Bool) → IsTrue (a && b) → IsTrue b
back true b h = h
back false b h = no_true h

pub also : (a b : Bool) → IsTrue a → IsTrue b → IsTrue (a && b)
also a b h g = ap (λ x. x && b) h ∙ g

pub both_on : (a b c d : Bool) → (IsTrue a → IsTrue c) → (IsTrue b → IsTrue d) → IsTrue (a && b) → IsTrue (c && d)
both_on a b c d f g h = also c d (f (front a b h)) (g (back a b h))

pub either_on : (a b c d : Bool) → (IsTrue a → IsTrue c) → (IsTrue b → IsTrue d) → IsTrue (a || b) → IsTrue (c || d)
either_on a b true d f g h = refl
either_on true b false d f g h = no_true (f refl)
either_on false b false d f g h = g h

-- a test of one of two equal things
pub along : {A : Type 0} (test : A → Bool) {x y : A} → x ≡ y → IsTrue (test y) → IsTrue (test x)
along test e h = ap test e ∙ h

pub three : (a b c : Bool) → IsTrue a → IsTrue b → IsTrue c → IsTrue (a && b && c)
three a b c h g k = also (a && b) c (also a b h g) k

pub four : (a b c d : Bool) → IsTrue a → IsTrue b → IsTrue c → IsTrue d → IsTrue (a && b && c && d)
four a b c d h g k l = also (a && b && c) d (three a b c h g k) l

pub five : (a b c d e : Bool) → IsTrue a → IsTrue b → IsTrue c → IsTrue d → IsTrue e → IsTrue (a && b && c && d && e)
five a b c d e h g k l m = also (a && b && c && d) e (four a b c d h g k l) m

-- ---- values of constants

-- the one is a value wherever the other one is, and the same
abbrev pub Keeps : (p q : Option ℕ) → Type 0
Keeps p q = (n : ℕ) → q ≡ Some n → p ≡ Some n

pub keeps_then : (f : ℕ → Option ℕ) (p q : Option ℕ) → Keeps p q → Keeps (option_and_then f p) (option_and_then f q)
keeps_then f p None h n e = absurd (none-some n e)
keeps_then f p (Some m) h n e = subst (λ o. option_and_then f o ≡ Some n) (sym (h m refl)) e

pub keeps_map : (f : ℕ → ℕ) (p q : Option ℕ) → Keeps p q → Keeps (option_map f p) (option_map f q)
keeps_map f p None h n e = absurd (none-some n e)
keeps_map f p (Some m) h n e = subst (λ o. option_map f o ≡ Some n) (sym (h m refl)) e

pub keeps_if : (t : Bool) (p q r s : Option ℕ) → Keeps p q → Keeps r s → Keeps (if t then p else r) (if t then q else s)
keeps_if true p q r s h g = h
keeps_if false p q r s h g = g

keeps_itself : (p : Option ℕ) → Keeps p p
keeps_itself p n e = e

pub keeps_both : (f : ℕ → ℕ → Option ℕ) (p q r s : Option ℕ) → Keeps p q → Keeps r s → Keeps (both_values f p r) (both_values f q s)
keeps_both f p None r s h g n e = absurd (none-some n e)
keeps_both f p (Some m) r s h g n e = subst (λ o. both_values f o r ≡ Some n) (sym (h m refl)) (keeps_then (f m) r s g n e)

keeps_and : (p q : Option ℕ) (a b : Bool) (r s : Option ℕ) → Keeps p q → (IsTrue b → IsTrue a) → Keeps r s → Keeps (and_value p a r) (and_value q b s)
keeps_and p None a b r s h k g n e = absurd (none-some n e)
keeps_and p (Some m) a false r s h k g n e = absurd (none-some n e)
keeps_and p (Some m) a true r s h k g n e =
    subst (λ o. and_value o a r ≡ Some n) (sym (h m refl))
    (subst (λ t. and_value (Some m) t r ≡ Some n) (sym (k refl))
    (keeps_if (m == 0) _ _ _ _ (keeps_itself _) (keeps_map _ r s g) n e))

keeps_or : (p q : Option ℕ) (a b : Bool) (r s : Option ℕ) → Keeps p q → (IsTrue b → IsTrue a) → Keeps r s → Keeps (or_value p a r) (or_value q b s)
keeps_or p None a b r s h k g n e = absurd (none-some n e)
keeps_or p (Some m) a false r s h k g n e = absurd (none-some n e)
keeps_or p (Some m) a true r s h k g n e =
    subst (λ o. or_value o a r ≡ Some n) (sym (h m refl))
    (subst (λ t. or_value (Some m) t r ≡ Some n) (sym (k refl))
    (keeps_if (m == 0) _ _ _ _ (keeps_map _ r s g) (keeps_itself _) n e))

pub keeps_choice : (p q : Option ℕ) (a b : Bool) (r s u v : Option ℕ) → Keeps p q → (IsTrue b → IsTrue a) → Keeps r s → Keeps u v
    → Keeps (choice_value p a r u) (choice_value q b s v)
keeps_choice p None a b r s u v h k g l n e = absurd (none-some n e)
keeps_choice p (Some m) a false r s u v h k g l n e = absurd (none-some n e)
keeps_choice p (Some m) a true r s u v h k g l n e =
    subst (λ o. choice_value o a r u ≡ Some n) (sym (h m refl))
    (subst (λ t. choice_value (Some m) t r u ≡ Some n) (sym (k refl)) (keeps_if (m == 0) u v r s l g n e))

pub keeps_with : (o : BinaryOp) (left right : Option IntegerType) (p q : Option ℕ) (a b : Bool) (r s : Option ℕ) → Keeps p q → (IsTrue b → IsTrue a) → Keeps r s
    → Keeps (value_with o left right p a r) (value_with o left right q b s)
keeps_with op.LogicalOr left right p q a d r s h k g = keeps_or p q a d r s h k g
keeps_with op.LogicalAnd left right p q a d r s h k g = keeps_and p q a d r s h k g
keeps_with op.Or left right p q a d r s h k g = keeps_both (binary_value op.Or left right) p q r s h g
keeps_with op.Xor left right p q a d r s h k g = keeps_both (binary_value op.Xor left right) p q r s h g
keeps_with op.And left right p q a d r s h k g = keeps_both (binary_value op.And left right) p q r s h g
keeps_with op.Equal left right p q a d r s h k g = keeps_both (binary_value op.Equal left right) p q r s h g
keeps_with op.NotEqual left right p q a d r s h k g = keeps_both (binary_value op.NotEqual left right) p q r s h g
keeps_with op.Less left right p q a d r s h k g = keeps_both (binary_value op.Less left right) p q r s h g
keeps_with op.Greater left right p q a d r s h k g = keeps_both (binary_value op.Greater left right) p q r s h g
keeps_with op.LessEqual left right p q a d r s h k g = keeps_both (binary_value op.LessEqual left right) p q r s h g
keeps_with op.GreaterEqual left right p q a d r s h k g = keeps_both (binary_value op.GreaterEqual left right) p q r s h g
keeps_with op.ShiftLeft left right p q a d r s h k g = keeps_both (binary_value op.ShiftLeft left right) p q r s h g
keeps_with op.ShiftRight left right p q a d r s h k g = keeps_both (binary_value op.ShiftRight left right) p q r s h g
keeps_with op.Add left right p q a d r s h k g = keeps_both (binary_value op.Add left right) p q r s h g
keeps_with op.Subtract left right p q a d r s h k g = keeps_both (binary_value op.Subtract left right) p q r s h g
keeps_with op.Multiply left right p q a d r s h k g = keeps_both (binary_value op.Multiply left right) p q r s h g
keeps_with op.Divide left right p q a d r s h k g = keeps_both (binary_value op.Divide left right) p q r s h g
keeps_with op.Remainder left right p q a d r s h k g = keeps_both (binary_value op.Remainder left right) p q r s h g

pub keeps_zero : (p q : Option ℕ) → Keeps p q → IsTrue (is_zero q) → IsTrue (is_zero p)
keeps_zero p None h g = no_true g
keeps_zero p (Some m) h g = ap is_zero (h m refl) ∙ g

-- ---- casts and conversions of what is a null constant, and a place, at least where the other one is

pub cast_on : (to from : PlainType) (n m : Bool) → (IsTrue n → IsTrue m) → IsTrue (is_cast to from n) → IsTrue (is_cast to from m)
cast_on to from n m f =
    let a = is_void to && not (is_array from) || is_integer to && is_integer from in
    let p = is_pointer to in
    let q = is_pointer from in
    let i = is_integer from in
    either_on a (p && (q || i && n)) a (p && (q || i && m)) (λ h. h)
    (both_on p (q || i && n) p (q || i && m) (λ h. h) (either_on q (i && n) q (i && m) (λ h. h) (both_on i n i m (λ h. h) f)))

pub conversion_on : (to from : PlainType) (n m p q : Bool) → (IsTrue n → IsTrue m) → (IsTrue p → IsTrue q)
    → IsTrue (is_conversion to from n p) → IsTrue (is_conversion to from m q)
conversion_on to from n m p q f g =
    let a = is_integer to && is_integer from in
    let d = decays from to in
    let i = is_pointer to && is_integer from in
    let e = is_pointer to && is_pointer from && (is_same_type to from || is_pointer_to_void to || is_pointer_to_void from) in
    either_on (a || d && p || i && n) e (a || d && q || i && m) e
    (either_on (a || d && p) (i && n) (a || d && q) (i && m)
    (either_on a (d && p) a (d && q) (λ h. h) (both_on d p d q (λ h. h) g)) (both_on i n i m (λ h. h) f))
    (λ h. h)
