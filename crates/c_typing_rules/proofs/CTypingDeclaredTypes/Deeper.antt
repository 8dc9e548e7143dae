-- One part more is one deeper.
use Rattle.std.proofs.Common.{◌≡◌, ℕ, ◌+◌, ◌-◌, Bool, true, false, nat_le, refl, sym, arith}
use Rattle.std.proofs.lemmas.Bool.Decides.{nat_tests}

same : (a b : Bool) → (a ≡ true → b ≡ true) → (b ≡ true → a ≡ true) → a ≡ b
same true b f g = sym (f refl)
same false true f g = g refl
same false false f g = refl

pub deeper : (depth most : ℕ) → (most ≡ 0 → ⊥) → nat_le depth (most - 1) ≡ nat_le (1 + depth) most
deeper depth most some =
    same (nat_le depth (most - 1)) (nat_le (1 + depth) most) (λ h. grind (arith, nat_tests))
    (λ h. grind (arith, nat_tests))
