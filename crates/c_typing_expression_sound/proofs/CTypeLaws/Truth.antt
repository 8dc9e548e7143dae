-- Facts on truth values, and on what is given by cases of one.
use Rattle.std.proofs.Common.{◌≡◌, Bool, true, false, ◌&&◌, ◌||◌, IsTrue, Option, Result, IfOk, IfSome, refl, ap, ◌∙◌, if◌then◌else◌}

pub no_true : {X : Type 0} → false ≡ true → X
no_true h = let clash : ⊥ = cc in absurd clash

pub front : (a b : Bool) → IsTrue (a && b) → IsTrue a
front true b h = refl
front false b h = no_true h

pub back : (a b : Bool) → IsTrue (a && b) → IsTrue b
back true b h = h
back false b h = no_true h

pub also : (a b : Bool) → IsTrue a → IsTrue b → IsTrue (a && b)
also a b h g = ap (λ x. x && b) h ∙ g

pub three : (a b c : Bool) → IsTrue a → IsTrue b → IsTrue c → IsTrue (a && b && c)
three a b c h g k = also (a && b) c (also a b h g) k

pub four : (a b c d : Bool) → IsTrue a → IsTrue b → IsTrue c → IsTrue d → IsTrue (a && b && c && d)
four a b c d h g k l = also (a && b && c) d (three a b c h g k) l

pub five : (a b c d e : Bool) → IsTrue a → IsTrue b → IsTrue c → IsTrue d → IsTrue e → IsTrue (a && b && c && d && e)
five a b c d e h g k l m = also (a && b && c && d) e (four a b c d h g k l) m

pub either_left : (a b : Bool) → IsTrue a → IsTrue (a || b)
either_left true b h = refl
either_left false b h = no_true h

pub either_right : (a b : Bool) → IsTrue b → IsTrue (a || b)
either_right true b h = refl
either_right false b h = h

-- what follows from each of two
pub either : (a b : Bool) {X : Type 0} → (IsTrue a → X) → (IsTrue b → X) → IsTrue (a || b) → X
either true b f g h = f refl
either false b f g h = g h

-- a test of one of two equal things
pub along : {A : Type 0} (test : A → Bool) {x y : A} → x ≡ y → IsTrue (test y) → IsTrue (test x)
along test e h = ap test e ∙ h

-- what a choice gives, where either is given under the test
pub given_true : {A E : Type 0} (P : A → Type 0) (b : Bool) (x y : Result A E) → (IsTrue b → IfOk x P) → (b ≡ false → IfOk y P) → IfOk (if b then x else y) P
given_true P true x y h g = h refl
given_true P false x y h g = g refl

-- of two of which one is taken
pub one_of : {A : Type 0} (P : A → Type 0) (b : Bool) (x y : A) → P x → P y → P (if b then x else y)
one_of P true x y h g = h
one_of P false x y h g = g

-- what follows from a choice between tests
pub if_true : (b x y : Bool) {X : Type 0} → (IsTrue b → IsTrue x → X) → (b ≡ false → IsTrue y → X) → IsTrue (if b then x else y) → X
if_true true x y f g h = f refl h
if_true false x y f g h = g refl h

pub given_some : {A : Type 0} (P : A → Type 0) (b : Bool) (x y : Option A) → (IsTrue b → IfSome x P) → (b ≡ false → IfSome y P) → IfSome (if b then x else y) P
given_some P true x y h g = h refl
given_some P false x y h g = g refl

-- one of three, and of four

pub first_of_three : (a b c : Bool) → IsTrue a → IsTrue (a || b || c)
first_of_three true b c h = refl
first_of_three false b c h = no_true h

pub second_of_three : (a b c : Bool) → IsTrue b → IsTrue (a || b || c)
second_of_three true b c h = refl
second_of_three false true c h = refl
second_of_three false false c h = no_true h

pub third_of_three : (a b c : Bool) → IsTrue c → IsTrue (a || b || c)
third_of_three true b c h = refl
third_of_three false true c h = refl
third_of_three false false c h = h

pub later_of_three : (a b c : Bool) → IsTrue (b || c) → IsTrue (a || b || c)
later_of_three true b c h = refl
later_of_three false true c h = refl
later_of_three false false c h = h

pub first_of_four : (a b c d : Bool) → IsTrue a → IsTrue (a || b || c || d)
first_of_four true b c d h = refl
first_of_four false b c d h = no_true h

pub second_of_four : (a b c d : Bool) → IsTrue b → IsTrue (a || b || c || d)
second_of_four true b c d h = refl
second_of_four false true c d h = refl
second_of_four false false c d h = no_true h

pub third_of_four : (a b c d : Bool) → IsTrue c → IsTrue (a || b || c || d)
third_of_four true b c d h = refl
third_of_four false true c d h = refl
third_of_four false false true d h = refl
third_of_four false false false d h = no_true h

pub fourth_of_four : (a b c d : Bool) → IsTrue d → IsTrue (a || b || c || d)
fourth_of_four true b c d h = refl
fourth_of_four false true c d h = refl
fourth_of_four false false true d h = refl
fourth_of_four false false false d h = h
