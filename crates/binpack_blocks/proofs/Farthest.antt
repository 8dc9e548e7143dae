-- The register that is left, of so many.
use Rattle.std.proofs.Common.{◌≡◌, ℕ, suc, ◌+◌, ◌≤◌, Bool, Option, None, refl, ap, ◌∙◌, arith}
use Rattle.binpack_blocks.specs.model.Bins.{Bins}
use Rattle.binpack_blocks.specs.model.Choices.{considered, farthest_below}

pub none_below : (next : ℕ → Option ℕ) (may : ℕ → Bool) (bins : Bins) → None ≡ farthest_below next may bins 0
unfolding farthest_below
none_below next may bins = refl

pub one_below : (next : ℕ → Option ℕ) (may : ℕ → Bool) (bins : Bins) (r : ℕ) (best new : Option ℕ) → new ≡ considered next may bins best r →
    best ≡ farthest_below next may bins r → new ≡ farthest_below next may bins (r + 1)
unfolding farthest_below
one_below next may bins r best new is before =
    is ∙ ap (λ b. considered next may bins b r) before ∙ ap (farthest_below next may bins) (let e : suc r ≡ r + 1 = omega arith in e)

pub all_below : (next : ℕ → Option ℕ) (may : ℕ → Bool) (bins : Bins) (r count : ℕ) (best : Option ℕ) → r ≤ count → count ≤ r →
    best ≡ farthest_below next may bins r → best ≡ farthest_below next may bins count
all_below next may bins r count best most least e = e ∙ ap (farthest_below next may bins) (let same : r ≡ count = omega (arith, most, least) in same)
