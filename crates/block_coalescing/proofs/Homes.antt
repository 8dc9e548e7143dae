-- What is live stands in its own temporary, as far as a search has come.
use Rattle.std.proofs.Common.{◌≡◌, ◌≢◌, ℕ, ◌+◌, ◌<◌, ◌≤◌, ◌⊎◌, List, Some, Bool, true, false, sym, ap, ◌∙◌, inl, inr, arith}
use Rattle.std.proofs.lemmas.Bool.{cases_lt}
use Rattle.bk_bits.specs.Sets.{has, IsNext, HasNone}
use Rattle.block_coalescing.specs.Walks.{Names, IsHome}
use Rattle.block_coalescing.proofs.Stays.{same_or}

abbrev pub HomeTo : (set : List Bool) → Names → (from : ℕ) → Type 0
HomeTo set n from = (k : ℕ) → k < from → has set k ≡ true → n k ≡ Some k

clash : (b : Bool) → b ≡ true → b ≡ false → ⊥
clash b e f = cc

pub home_more : (set : List Bool) (n : Names) (from k next : ℕ) → HomeTo set n from → IsNext set from k → n k ≡ Some k → next ≡ k + 1 → HomeTo set n next
home_more set n from k next so is home e j less member = go (same_or j k) (cases_lt j from)
  where
    go : (j ≡ k) ⊎ (j ≢ k) → (j < from) ⊎ (from ≤ j) → n j ≡ Some j
    go (inl same) w = ap n same ∙ home ∙ ap (λ i. Some i) (sym same)
    go (inr apart) (inl before) = so j before member
    go (inr apart) (inr later) = absurd (clash (has set j) member (is.2 j later (omega (arith, less, e, apart))))

pub home_end : (set : List Bool) (n : Names) (from : ℕ) → HomeTo set n from → HasNone set from → IsHome (has set) n
home_end set n from so none j member = go (cases_lt j from)
  where
    go : (j < from) ⊎ (from ≤ j) → n j ≡ Some j
    go (inl before) = so j before member
    go (inr later) = absurd (clash (has set j) member (none j later))
