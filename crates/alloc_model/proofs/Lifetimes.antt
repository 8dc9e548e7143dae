-- Lifetimes and parts are unique.
use Rattle.std.proofs.Common.{◌≡◌, ℕ, zero, suc, ◌-◌, ◌<◌, ◌≤◌, refl, arith}
use Rattle.alloc_model.specs.Lifetimes.{Blocks, IsLifetime, IsPart, LifetimesAreUnique}

module _ (blocks : Blocks) (t : ℕ) where
  one_lifetime : (a b c d : ℕ) → IsLifetime blocks t a b → IsLifetime blocks t c d → (a ≡ c) × (b ≡ d)
  one_lifetime a b c d x y =
      let fa = y.all a x.at_first in
      let fb = y.all b x.at_last in
      let fc = x.all c y.at_first in
      let fd = x.all d y.at_last in
      (omega (arith, fa.0, fc.0), omega (arith, fb.1, fd.1))

  -- no part begins within another one, and none ends there
  not_before : (a b c d p : ℕ) → IsPart blocks t a b → IsPart blocks t c d → a ≤ p → p ≤ b → c ≤ p → a < c → ⊥
  not_before a b c d p x y ap pb cp less =
      y.begins (c - 1) (omega (arith, less)) (x.present (c - 1) (omega (arith, less)) (omega (arith, less, cp, pb)))

  not_behind : (a b c d p : ℕ) → IsPart blocks t a b → IsPart blocks t c d → a ≤ p → p ≤ b → p ≤ d → d < b → ⊥
  not_behind a b c d p x y ap pb pd less =
      y.ends (x.present (suc d) (omega (arith, ap, pd)) (omega (arith, less)))

  -- two numbers of which neither is below the other
  equal : (a c : ℕ) → (a < c → ⊥) → (c < a → ⊥) → a ≡ c
  equal zero zero f g = refl
  equal zero (suc c) f g = absurd (f (omega arith))
  equal (suc a) zero f g = absurd (g (omega arith))
  equal (suc a) (suc c) f g =
      let same : a ≡ c = equal a c (λ h. f (omega (arith, h))) (λ h. g (omega (arith, h))) in
      omega (arith, same)

  one_part : (a b c d p : ℕ) → IsPart blocks t a b → IsPart blocks t c d → (a ≤ p) × (p ≤ b) → (c ≤ p) × (p ≤ d) → (a ≡ c) × (b ≡ d)
  one_part a b c d p x y h k = (
    equal a c (not_before a b c d p x y h.0 h.1 k.0) (not_before c d a b p y x k.0 k.1 h.0),
    equal b d (not_behind c d a b p y x k.0 k.1 h.1) (not_behind a b c d p x y h.0 h.1 k.1),
  )

pub unique : LifetimesAreUnique
unique = record { lifetimes = one_lifetime; parts = one_part }
