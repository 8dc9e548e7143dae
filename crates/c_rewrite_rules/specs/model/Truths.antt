-- Facts on truth values, types and what may be missing.
use Rattle.std.proofs.Common.{◌≡◌, ◌⊎◌, ℕ, Bool, true, false, not, ◌&&◌, ◌||◌, ◌==◌, IsTrue, Option, Some, None, refl, sym, ap, ◌∙◌, inl, inr, option_and_then, eqb-true}
use Rattle.std.specs.Bool.{beq}
use Rattle.std.proofs.lemmas.Option.{none-some}
use Rattle.bk_arithmetic.specs.declared.integer_type.IntegerType.{IntegerType}
use Rattle.c_typed_tree.specs.Types.{PlainType, Void, Int, Pointer, Array, Struct}
use Rattle.c_typed_tree.specs.Layout.{integer_of}
use Rattle.c_typed_tree.specs.Constants.{is_integer, both_values}
use Rattle.c_typed_tree.specs.Typing.{is_same_type, is_promoted, is_promoted_integer}
use Rattle.c_semantics.proofs.Facts.{no_true, front, back}

-- ---- truth values

pub either : (a b : Bool) → IsTrue (a || b) → IsTrue a ⊎ IsTrue b
either true b h = inl refl
either false b h = inr h

pub left_of : (a b : Bool) → IsTrue a → IsTrue (a || b)
left_of a b h = ap (λ t. t || b) h

pub right_of : (a b : Bool) → IsTrue b → IsTrue (a || b)
right_of true b h = refl
right_of false b h = h

pub not_true : {X : Type 0} (a : Bool) → IsTrue (not a) → IsTrue a → X
not_true true h g = no_true h
not_true false h g = no_true g

beq_same : (a b : Bool) → IsTrue (beq a b) → a ≡ b
beq_same true true h = refl
beq_same true false h = no_true h
beq_same false true h = no_true h
beq_same false false h = refl

-- ---- types

pub same : (x y : PlainType) → IsTrue (is_same_type x y) → x ≡ y
same Void Void h = refl
same Void (Int n s) h = no_true h
same Void (Pointer t) h = no_true h
same Void (Array t n) h = no_true h
same Void (Struct n) h = no_true h
same (Int n s) Void h = no_true h
same (Int n s) (Int m r) h =
    ap (λ k. Int k s) (eqb-true n m (front (n == m) (beq s r) h)) ∙ ap (Int m) (beq_same s r (back (n == m) (beq s r) h))
same (Int n s) (Pointer t) h = no_true h
same (Int n s) (Array t m) h = no_true h
same (Int n s) (Struct m) h = no_true h
same (Pointer t) Void h = no_true h
same (Pointer t) (Int n s) h = no_true h
same (Pointer t) (Pointer u) h = ap Pointer (same t u h)
same (Pointer t) (Array u n) h = no_true h
same (Pointer t) (Struct n) h = no_true h
same (Array t n) Void h = no_true h
same (Array t n) (Int m s) h = no_true h
same (Array t n) (Pointer u) h = no_true h
same (Array t n) (Array u m) h =
    ap (λ x. Array x n) (same t u (front (is_same_type t u) (n == m) h))
    ∙ ap (Array u) (eqb-true n m (back (is_same_type t u) (n == m) h))
same (Array t n) (Struct m) h = no_true h
same (Struct n) Void h = no_true h
same (Struct n) (Int m s) h = no_true h
same (Struct n) (Pointer t) h = no_true h
same (Struct n) (Array t m) h = no_true h
same (Struct n) (Struct m) h = ap Struct (eqb-true n m h)

-- an integer type is one of arithmetic
pub record IsIntegerType (ty : PlainType) : Type 0 where
  pub of : IntegerType
  pub is : integer_of ty ≡ Some of

there : (o : Option IntegerType) (ty : PlainType) → integer_of ty ≡ o → IsTrue (is_integer ty) → IsIntegerType ty
there (Some t) ty e h = record { of = t; is = e }
there None ty e h = no_true (sym (ap is_there e) ∙ h)
  where
    is_there : Option IntegerType → Bool
    is_there None = false
    is_there (Some t) = true

pub integer_there : (ty : PlainType) → IsTrue (is_integer ty) → IsIntegerType ty
integer_there ty h = there (integer_of ty) ty refl h

pub is_there_integer : (ty : PlainType) → IsIntegerType ty → IsTrue (is_integer ty)
is_there_integer ty h = ap seen h.is
  where
    seen : Option IntegerType → Bool
    seen None = false
    seen (Some t) = true

promoted_there : (o : Option IntegerType) (ty : PlainType) → integer_of ty ≡ o → IsTrue (is_promoted ty) → IsIntegerType ty
promoted_there (Some t) ty e h = record { of = t; is = e }
promoted_there None ty e h = no_true (sym (ap is_promoted_integer e) ∙ h)

pub promoted_integer : (ty : PlainType) → IsTrue (is_promoted ty) → IsIntegerType ty
promoted_integer ty h = promoted_there (integer_of ty) ty refl h

-- ---- what may be missing

pub record IsThere {A : Type 0} (o : Option A) : Type 0 where
  pub value : A
  pub is : o ≡ Some value

pub then_there : {A B : Type 0} (f : A → Option B) (o : Option A) (b : B) → option_and_then f o ≡ Some b → (a : A) × (o ≡ Some a) × (f a ≡ Some b)
then_there f None b h = absurd (none-some b h)
then_there f (Some a) b h = (a, refl, h)

pub both_there : (f : ℕ → ℕ → Option ℕ) (p q : Option ℕ) (n : ℕ) → both_values f p q ≡ Some n
    → (a : ℕ) × (b : ℕ) × (p ≡ Some a) × (q ≡ Some b) × (f a b ≡ Some n)
both_there f None q n h = absurd (none-some n h)
both_there f (Some a) None n h = absurd (none-some n h)
both_there f (Some a) (Some b) n h = (a, b, refl, refl, h)

-- ---- the parts of a well typed expression: its type fits, its rule holds, and its operands are well typed

module _ (fit rule : Bool) where
  pub rule_alone : IsTrue (fit && rule) → IsTrue rule
  rule_alone h = back fit rule h

  module _ (x : Bool) where
    pub fit_one : IsTrue (fit && rule && x) → IsTrue fit
    fit_one h = front fit rule (front (fit && rule) x h)

    pub rule_one : IsTrue (fit && rule && x) → IsTrue rule
    rule_one h = back fit rule (front (fit && rule) x h)

    pub one_typed : IsTrue (fit && rule && x) → IsTrue x
    one_typed h = back (fit && rule) x h

    module _ (y : Bool) where
      pub fit_two : IsTrue (fit && rule && x && y) → IsTrue fit
      fit_two h = fit_one (front (fit && rule && x) y h)

      pub rule_two : IsTrue (fit && rule && x && y) → IsTrue rule
      rule_two h = rule_one (front (fit && rule && x) y h)

      pub first_typed : IsTrue (fit && rule && x && y) → IsTrue x
      first_typed h = one_typed (front (fit && rule && x) y h)

      pub second_typed : IsTrue (fit && rule && x && y) → IsTrue y
      second_typed h = back (fit && rule && x) y h

      module _ (z : Bool) where
        pub fit_three : IsTrue (fit && rule && x && y && z) → IsTrue fit
        fit_three h = fit_two (front (fit && rule && x && y) z h)

        pub rule_three : IsTrue (fit && rule && x && y && z) → IsTrue rule
        rule_three h = rule_two (front (fit && rule && x && y) z h)

        pub condition_typed : IsTrue (fit && rule && x && y && z) → IsTrue x
        condition_typed h = first_typed (front (fit && rule && x && y) z h)

        pub holds_typed : IsTrue (fit && rule && x && y && z) → IsTrue y
        holds_typed h = second_typed (front (fit && rule && x && y) z h)

        pub fails_typed : IsTrue (fit && rule && x && y && z) → IsTrue z
        fails_typed h = back (fit && rule && x && y) z h
