-- Bytes of the stack that are written below the frame.
use Rattle.std.proofs.Common.{◌≡◌, ℕ, suc, ◌+◌, ◌-◌, ◌<◌, ◌≤◌, ◌⊎◌, Bool, true, false, List, [], ◌∷◌, ◌++◌, take, drop, length, get_or, refl, sym, ap, ◌∙◌, subst, arith, inl, inr, ⊎_elim, length-append, length-drop}
use Rattle.std.specs.Prelude.{◌&&◌, ◌||◌, nat_le, nat_lt, slice_index, if◌then◌else◌}
use Rattle.std.proofs.lemmas.Bool.{leb-true, le-leb, lt-ltb, le-ltb, and_parts, and_from, and_right, cond-true, cond-false, ltb-true}
use Rattle.std.proofs.lemmas.List.{length-take-le, get_or-take, get_or-drop, get_or_append_left, get_or-append_right}
use Rattle.alpha_isa.specs.Program.{Program, data_start, stack_start}
use Rattle.alpha_isa.specs.State.{State, with_part}
use Rattle.mem_model.specs.Bytes.{AreBytes}
use Rattle.frame_memory.specs.Machine.{memory_bytes, is_in_data, is_in_stack, is_reached, HasParts}
use Rattle.frame_steps.proofs.MachineBounds.Steps.{byte-at}

part-length : (bytes new : List ℕ) (i : ℕ) → i + length new ≤ length bytes → length (with_part bytes i new) ≡ length bytes
part-length bytes new i le =
    omega (arith, length-append (take i bytes) (new ++ drop (i + length new) bytes), length-append new (drop (i + length new) bytes), length-take-le i bytes (omega arith), length-drop (i + length new) bytes)

part-apart : (bytes new : List ℕ) (i k : ℕ) → i + length new ≤ length bytes → (k < i) ⊎ (i + length new ≤ k) → get_or (with_part bytes i new) k 0 ≡ get_or bytes k 0
part-apart bytes new i k le (inl lt) =
    let len = length-take-le i bytes (omega arith) in
    get_or_append_left (take i bytes) (new ++ drop (i + length new) bytes) 0 k (omega (arith, len)) ∙ get_or-take i bytes k 0 lt
part-apart bytes new i k le (inr ge) =
    let len : length (take i bytes) ≡ i = length-take-le i bytes (omega arith) in
    let f : (i + length new) + (k - i - length new) ≡ k = omega arith in
    get_or-append_right (take i bytes) (new ++ drop (i + length new) bytes) i k 0 len (omega arith)
    ∙ get_or-append_right new (drop (i + length new) bytes) (length new) (k - i) 0 refl (omega arith)
    ∙ get_or-drop (i + length new) bytes (k - i - length new) 0
    ∙ ap (λ j. get_or bytes j 0) f

-- a state with other bytes in a part of its stack
pub record IsScratched (p : Program) (s t : State) (a : ℕ) (new : List ℕ) : Type 0 where
  pub low : stack_start p ≤ a
  pub high : a + length new ≤ stack_start p + length s.stack_bytes
  pub data_bytes : t.data_bytes ≡ s.data_bytes
  pub stack_bytes : t.stack_bytes ≡ with_part s.stack_bytes (a - stack_start p) new

module _ (p : Program) (s t : State) (a : ℕ) (new : List ℕ) (h : IsScratched p s t a new) where
  stack-length : length t.stack_bytes ≡ length s.stack_bytes
  stack-length =
      let f = h.low in
      let g = h.high in
      ap length h.stack_bytes ∙ part-length s.stack_bytes new (a - stack_start p) (omega (arith, f, g))

  pub scratched-reach : (y : ℕ) → is_reached p t y ≡ is_reached p s y
  scratched-reach y =
      ap (λ d. (nat_le (data_start p) y && nat_lt y (data_start p + length d)) || (nat_le (stack_start p) y && nat_lt y (stack_start p + length t.stack_bytes))) h.data_bytes
      ∙ ap (λ n. (nat_le (data_start p) y && nat_lt y (data_start p + length s.data_bytes)) || (nat_le (stack_start p) y && nat_lt y (stack_start p + n))) stack-length

  pub scratched-parts : HasParts p s → HasParts p t
  scratched-parts parts = record { data_below = subst (λ d. data_start p + length d ≤ stack_start p) (sym h.data_bytes) parts.data_below }

  -- other bytes are as before
  pub scratched-bytes : (y : ℕ) → (y < a) ⊎ (a + length new ≤ y) → memory_bytes p t y ≡ memory_bytes p s y
  unfolding memory_bytes
  scratched-bytes y out =
      ap (λ d. if nat_le (data_start p) y && nat_lt y (data_start p + length d) then slice_index d (y - data_start p) else (if nat_le (stack_start p) y && nat_lt y (stack_start p + length t.stack_bytes) then slice_index t.stack_bytes (y - stack_start p) else 0)) h.data_bytes
      ∙ ap (λ z. if is_in_data p s y then slice_index s.data_bytes (y - data_start p) else z) rest-is
    where
      by_test : (b : Bool) → (nat_le (stack_start p) y && nat_lt y (stack_start p + length s.stack_bytes)) ≡ b → (if b then slice_index t.stack_bytes (y - stack_start p) else 0) ≡ (if b then slice_index s.stack_bytes (y - stack_start p) else 0)
      by_test false e = refl
      by_test true e =
          let from : stack_start p ≤ y = leb-true (stack_start p) y (and_parts (nat_le (stack_start p) y) (nat_lt y (stack_start p + length s.stack_bytes)) e).0 in
          let f = h.low in
          let g = h.high in
          ap (λ l. slice_index l (y - stack_start p)) h.stack_bytes
          ∙ part-apart s.stack_bytes new (a - stack_start p) (y - stack_start p) (omega (arith, f, g)) (⊎_elim (λ lt. inl (omega (arith, lt, from))) (λ ge. inr (omega (arith, ge, f))) out)

      rest-is : (if nat_le (stack_start p) y && nat_lt y (stack_start p + length t.stack_bytes) then slice_index t.stack_bytes (y - stack_start p) else 0) ≡ (if nat_le (stack_start p) y && nat_lt y (stack_start p + length s.stack_bytes) then slice_index s.stack_bytes (y - stack_start p) else 0)
      rest-is =
          ap (λ n. if nat_le (stack_start p) y && nat_lt y (stack_start p + n) then slice_index t.stack_bytes (y - stack_start p) else 0) stack-length
          ∙ by_test (nat_le (stack_start p) y && nat_lt y (stack_start p + length s.stack_bytes)) refl

-- ---- bytes by their addresses, and as lists

pub small-bytes : (p : Program) (s : State) → AreBytes s.data_bytes → AreBytes s.stack_bytes → (y : ℕ) → memory_bytes p s y < 256
unfolding memory_bytes
small-bytes p s d k y = by_tests (is_in_data p s y) (is_in_stack p s y)
  where
    by_tests : (b c : Bool) → (if b then slice_index s.data_bytes (y - data_start p) else if c then slice_index s.stack_bytes (y - stack_start p) else 0) < 256
    by_tests true c = byte-at s.data_bytes (y - data_start p) d
    by_tests false true = byte-at s.stack_bytes (y - stack_start p) k
    by_tests false false = omega arith

are-bytes : (xs : List ℕ) → ((i : ℕ) → i < length xs → slice_index xs i < 256) → AreBytes xs
are-bytes [] h = tt
are-bytes (x ∷ xs) h = (h 0 (omega arith), are-bytes xs (λ i lt. h (suc i) (omega (arith, lt))))

pub data-are : (p : Program) (s : State) → ((y : ℕ) → memory_bytes p s y < 256) → AreBytes s.data_bytes
unfolding memory_bytes
data-are p s small = are-bytes s.data_bytes (λ i lt.
    let y = data_start p + i in
    let e : y - data_start p ≡ i = omega arith in
    let within : is_in_data p s y ≡ true = and_from (nat_le (data_start p) y) (nat_lt y (data_start p + length s.data_bytes)) (le-leb (data_start p) y (omega arith)) (lt-ltb y (data_start p + length s.data_bytes) (omega (arith, lt))) in
    let is = cond-true (is_in_data p s y) (slice_index s.data_bytes (y - data_start p)) (if is_in_stack p s y then slice_index s.stack_bytes (y - stack_start p) else 0) within in
    subst (λ z. z < 256) (is ∙ ap (slice_index s.data_bytes) e) (small y))

pub stack-are : (p : Program) (s : State) → HasParts p s → ((y : ℕ) → memory_bytes p s y < 256) → AreBytes s.stack_bytes
unfolding memory_bytes
stack-are p s parts small = are-bytes s.stack_bytes (λ i lt.
    let y = stack_start p + i in
    let below = parts.data_below in
    let e : y - stack_start p ≡ i = omega arith in
    let outside : nat_lt y (data_start p + length s.data_bytes) ≡ false = le-ltb y (data_start p + length s.data_bytes) (omega (arith, below)) in
    let not_data : is_in_data p s y ≡ false = and_right (nat_le (data_start p) y) (nat_lt y (data_start p + length s.data_bytes)) outside in
    let within : is_in_stack p s y ≡ true = and_from (nat_le (stack_start p) y) (nat_lt y (stack_start p + length s.stack_bytes)) (le-leb (stack_start p) y (omega arith)) (lt-ltb y (stack_start p + length s.stack_bytes) (omega (arith, lt))) in
    let is = cond-false (is_in_data p s y) (slice_index s.data_bytes (y - data_start p)) (if is_in_stack p s y then slice_index s.stack_bytes (y - stack_start p) else 0) not_data ∙ cond-true (is_in_stack p s y) (slice_index s.stack_bytes (y - stack_start p)) 0 within in
    subst (λ z. z < 256) (is ∙ ap (slice_index s.stack_bytes) e) (small y))

-- what is reached from the start of the stack on lies in the stack
pub stack-within : (p : Program) (s : State) → HasParts p s → (y : ℕ) → stack_start p ≤ y → is_reached p s y ≡ true → y < stack_start p + length s.stack_bytes
stack-within p s parts y from e =
    let below = parts.data_below in
    let outside : nat_lt y (data_start p + length s.data_bytes) ≡ false = le-ltb y (data_start p + length s.data_bytes) (omega (arith, below, from)) in
    let in_stack : (nat_le (stack_start p) y && nat_lt y (stack_start p + length s.stack_bytes)) ≡ true =
    sym (ap (λ b. b || (nat_le (stack_start p) y && nat_lt y (stack_start p + length s.stack_bytes))) (and_right (nat_le (data_start p) y) (nat_lt y (data_start p + length s.data_bytes)) outside)) ∙ e in
    ltb-true y (stack_start p + length s.stack_bytes) (and_parts (nat_le (stack_start p) y) (nat_lt y (stack_start p + length s.stack_bytes)) in_stack).1
