-- What stands in double quotes.
use Rattle.std.specs.Prelude.{ℕ, zero, suc, ◌-◌, Bool, true, false, ◌==◌, List, [], ◌∷◌, Option, Some, None, option_map}

abbrev pub quote_end_step : Bool → Option ℕ → (ℕ → Option ℕ) → Option ℕ
quote_end_step true item next = Some 1
quote_end_step false None next = None
quote_end_step false (Some n) next = option_map suc (next (n - 1))

-- behind an opening `"`: how many bytes the items and the closing `"` take, where each item in front takes as many as
-- `item` says; the first `skip` bytes belong to an item before
unfoldable pub quote_end : (List ℕ → Option ℕ) → ℕ → List ℕ → Option ℕ
quote_end item skip [] = None
quote_end item zero (b ∷ s) = quote_end_step (b == 34) (item (b ∷ s)) (λ skip. quote_end item skip s)
quote_end item (suc skip) (b ∷ s) = option_map suc (quote_end item skip s)
