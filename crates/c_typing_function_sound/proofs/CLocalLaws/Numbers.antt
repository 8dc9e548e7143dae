-- How often a local with a number is declared, where the locals declared meanwhile have the numbers from `a` on and
-- below `b`: each of them once, where something was found.
use Rattle.std.proofs.Common.{◌≡◌, ◌≤◌, ◌<◌, ◌+◌, ◌&&◌, ◌==◌, ℕ, Bool, true, false, cond, nat_le, nat_lt, List, [], ◌∷◌, ◌++◌, Option, Some, None, length, refl, sym, ap, ◌∙◌, arith, leb-true, ltb-true}
use Rattle.std.specs.Option.{option_map}
use Rattle.std.proofs.lemmas.Bool.{eqb-true, eqb-false, leb-false, ltb-false}
use Rattle.c_typed_tree.specs.Declarations.{due_declarations}
use Rattle.c_typing_state.specs.Checks.{walk, append_part}
use Rattle.c_typing_statement_parts.specs.c_typing_local_rules.Locals.{BodyState}

-- ---- what is due from one number on, below another

abbrev pub one_if : Bool → ℕ
one_if b = cond b 1 0

not_below : (k b : ℕ) → nat_lt k b ≡ false → b ≤ k
not_below k b e = ltb-false k b e

not_from : (a k : ℕ) → nat_le a k ≡ false → k < a
not_from a k e = leb-false a k e

due_same : (k a : ℕ) → due_declarations a a k ≡ 0
due_same k a = of (nat_le a k) (nat_lt k a) refl refl
  where
    of : (p q : Bool) → nat_le a k ≡ p → nat_lt k a ≡ q → one_if (p && q) ≡ 0
    of true true e f = let low : a ≤ k = leb-true a k e in let high : k < a = ltb-true k a f in omega arith
    of true false e f = refl
    of false q e f = refl

due_on : (k a b d : ℕ) → a ≤ b → b ≤ d → due_declarations a b k + due_declarations b d k ≡ due_declarations a d k
due_on k a b d h g = of (nat_le a k) (nat_lt k b) (nat_le b k) (nat_lt k d) refl refl refl refl
  where
    of : (p q r s : Bool) → nat_le a k ≡ p → nat_lt k b ≡ q → nat_le b k ≡ r → nat_lt k d ≡ s → one_if (p && q) + one_if (r && s) ≡ one_if (p && s)
    of true true true s e f i j = let low : b ≤ k = leb-true b k i in let high : k < b = ltb-true k b f in omega arith
    of true true false true e f i j = refl
    of true true false false e f i j = let high : k < b = ltb-true k b f in let far : d ≤ k = not_below k d j in omega arith
    of true false true true e f i j = refl
    of true false true false e f i j = refl
    of true false false s e f i j = let far : b ≤ k = not_below k b f in let low : k < b = not_from b k i in omega arith
    of false q true s e f i j = let low : b ≤ k = leb-true b k i in let off : k < a = not_from a k e in omega arith
    of false true false true e f i j = refl
    of false true false false e f i j = refl
    of false false false true e f i j = refl
    of false false false false e f i j = refl

-- one more
pub due_one : (k n m : ℕ) → m ≡ n + 1 → one_if (n == k) ≡ due_declarations n m k
due_one k n m e = of (n == k) (nat_le n k) (nat_lt k m) refl refl refl
  where
    of : (o p q : Bool) → (n == k) ≡ o → nat_le n k ≡ p → nat_lt k m ≡ q → one_if o ≡ one_if (p && q)
    of true true true f g h = refl
    of true true false f g h = let same : n ≡ k = eqb-true n k f in let far : m ≤ k = not_below k m h in omega arith
    of true false q f g h = let same : n ≡ k = eqb-true n k f in let off : k < n = not_from n k g in omega arith
    of false true true f g h = let low : n ≤ k = leb-true n k g in let high : k < m = ltb-true k m h in absurd (eqb-false n k f (omega arith))
    of false true false f g h = refl
    of false false q f g h = refl

-- ---- how often, if something was found

-- both
abbrev pub plus : Option ℕ → Option ℕ → Option ℕ
plus None q = None
plus (Some n) None = None
plus (Some n) (Some m) = Some (n + m)

-- the number of the other, if there is one
abbrev pub Is : Option ℕ → Option ℕ → Type 0
Is None q = Unit {0}
Is (Some n) None = ⊥
Is (Some n) (Some m) = n ≡ m

-- locals are only added, and where something was found each new one stands in it once
pub record Declares (k a b : ℕ) (q : Option ℕ) : Type 0 where
  pub grow : a ≤ b
  pub due : Is q (Some (due_declarations a b k))

pub declares_on : (k a b d : ℕ) (q r : Option ℕ) → Declares k a b q → Declares k b d r → Declares k a d (plus q r)
declares_on k a b d q r h g = record { grow = grown h.grow g.grow; due = of q r h.due g.due }
  where
    grown : a ≤ b → b ≤ d → a ≤ d
    grown i j = omega arith

    of : (q r : Option ℕ) → Is q (Some (due_declarations a b k)) → Is r (Some (due_declarations b d k)) → Is (plus q r) (Some (due_declarations a d k))
    of None r i j = tt
    of (Some n) None i j = tt
    of (Some n) (Some m) i j = ap (λ x. x + m) i ∙ (ap (λ x. due_declarations a b k + x) j ∙ due_on k a b d h.grow g.grow)

is_then : (q r s : Option ℕ) → Is q r → Is r s → Is q s
is_then None r s h g = tt
is_then (Some n) None s h g = absurd h
is_then (Some n) (Some m) None h g = absurd g
is_then (Some n) (Some m) (Some l) h g = h ∙ g

pub declares_as : (k a b : ℕ) (q r : Option ℕ) → Is r q → Declares k a b q → Declares k a b r
declares_as k a b q r same h = record { grow = h.grow; due = is_then r q (Some (due_declarations a b k)) same h.due }

-- nothing is declared
pub declares_none : (k a : ℕ) → Declares k a a (Some 0)
declares_none k a = record { grow = omega arith; due = sym (due_same k a) }

abbrev pub count_of : {A : Type 0} → (A → ℕ) → Option A → Option ℕ
count_of c q = option_map c q

module _ {A : Type 0} (c : A → ℕ) (total : List A → ℕ) (push : (xs : List A) (x : A) → total (xs ++ x ∷ []) ≡ total xs + c x) where
  pub part_count : (found : Option (List A)) (x : Option A) → Is (count_of total (append_part found x)) (plus (count_of total found) (count_of c x))
  part_count None x = tt
  part_count (Some xs) None = tt
  part_count (Some xs) (Some x) = push xs x

-- a list whose parts declare, each behind the ones before it
module _ {A B : Type 0} (k : ℕ) (f : A → BodyState → Option B × BodyState) (c : B → ℕ) (total : List B → ℕ) (push : (xs : List B) (x : B) → total (xs ++ x ∷ []) ≡ total xs + c x)
    (says : (x : A) (w : BodyState) → Declares k (length w.0) (length (f x w).1.0) (count_of c (f x w).0)) where
  pub walk_says : (xs : List A) (found : Option (List B)) (w : BodyState) (a : ℕ) → Declares k a (length w.0) (count_of total found) → Declares k a (length (walk f xs found w).1.0) (count_of total (walk f xs found w).0)
  walk_says [] found w a before = before
  walk_says (x ∷ xs) found w a before =
      walk_says xs (append_part found (f x w).0) (f x w).1 a
      (declares_as k a (length (f x w).1.0) (plus (count_of total found) (count_of c (f x w).0)) _ (part_count c total push found (f x w).0)
      (declares_on k a (length w.0) (length (f x w).1.0) (count_of total found) (count_of c (f x w).0) before (says x w)))
