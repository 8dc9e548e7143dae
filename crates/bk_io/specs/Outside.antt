-- What a contract says of a source, a sink and a store of files.
use Rattle.std.specs.Prelude.{◌≡◌, ℕ, zero, suc, ◌+◌, ◌-◌, ◌^◌, ◌<◌, ◌≤◌, List, All, [], ◌∷◌, ◌++◌, length, take, drop, min, Result, Ok, Err, Option, Some, None, IfSome, IsSome, is_ok, option_map, if◌then◌else◌}

-- the greatest value that a count has
abbrev pub count_end : ℕ
count_end = 2 ^ 64 - 1

-- one more, or the same at the end of the count
abbrev pub next_count : ℕ → ℕ
next_count n = min (n + 1) count_end

-- n more on a count, which stays at its end
abbrev pub count_plus : ℕ → ℕ → ℕ
count_plus zero count = count
count_plus (suc n) count = next_count (count_plus n count)

-- the count of faults after a call: one more where it failed, and else as before
abbrev pub faults_after : {A E : Type 0} → Result A E → ℕ → ℕ
faults_after r faults = if is_ok r then faults else next_count faults

-- the bytes that a source has left: a byte that it gives was the first of them, one that finds its end tells that none
-- is left, and a failed call takes none
abbrev pub left_after : {E : Type 0} → Result (Option ℕ) E → Option (List ℕ) → Option (List ℕ)
left_after (Ok (Some byte)) left = option_map (drop 1) left
left_after (Ok None) left = Some []
left_after (Err e) left = left

-- what one call of a source gives
abbrev pub given : Option ℕ → List ℕ
given (Some byte) = byte ∷ []
given None = []

abbrev pub given_by : {E : Type 0} → Result (Option ℕ) E → List ℕ
given_by (Ok byte) = given byte
given_by (Err e) = []

-- these bytes may be all that a source gives from here on: those that are left, where it tells them, and else any
abbrev pub MayGive : Option (List ℕ) → List ℕ → Type 0
MayGive (Some left) bytes = bytes ≡ left
MayGive None bytes = All (λ byte. byte < 256) bytes

-- A source gave these bytes: whatever it may still give, it might before have given behind them. If it told what was
-- left, it still does.
pub record Gives (bytes : List ℕ) (old new : Option (List ℕ)) : Type 0 where
  pub behind : (rest : List ℕ) → MayGive new rest → MayGive old (bytes ++ rest)
  pub tells : IfSome old (λ left. IsSome new)

-- There is an input on which this holds, by the input and the rest of it that is left: the bytes that a source gave
-- with whatever it may still give behind them. Where it tells what is left, this is what was left.
abbrev pub OnInput : (old new : Option (List ℕ)) → ((input rest : List ℕ) → Type 0) → Type 0
OnInput old new Holds =
    (bytes : List ℕ) × Gives bytes old new × ((rest : List ℕ) → MayGive new rest → Holds (bytes ++ rest) rest)

-- the bytes that a sink took, with further ones at the end
abbrev pub taken_with : List ℕ → Option (List ℕ) → Option (List ℕ)
taken_with bytes taken = option_map (λ front. front ++ bytes) taken

-- the bytes that a sink took: a call that is answered adds the byte at the end, a failed one adds none
abbrev pub taken_after : {A E : Type 0} → Result A E → ℕ → Option (List ℕ) → Option (List ℕ)
taken_after r byte taken = if is_ok r then taken_with (byte ∷ []) taken else taken

-- a slice that is put: all of it was taken, or where the call failed a front of it
abbrev pub TakesSlice : {A E : Type 0} → Result A E → List ℕ → Option (List ℕ) → Option (List ℕ) → Type 0
TakesSlice (Ok a) bytes old new = new ≡ taken_with bytes old
TakesSlice (Err e) bytes old new = (n : ℕ) × (n ≤ length bytes) × (new ≡ taken_with (take n bytes) old)

-- what an input and an output tell, as they do before and after a run: the bytes that are left, the calls that were
-- made, and the bytes that were taken
pub record Traffic : Type 0 where
  pub left : Option (List ℕ)
  pub made : Option ℕ
  pub taken : Option (List ℕ)

abbrev pub traffic_of : {I O : Type 0} → (left : I → Option (List ℕ)) → (made : I → Option ℕ) →
    (taken : O → Option (List ℕ)) → I → O → Traffic
traffic_of left made taken input out = record { left = left input; made = made input; taken = taken out }
