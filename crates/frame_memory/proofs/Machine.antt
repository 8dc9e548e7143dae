-- The data and the stack of the machine, and the bytes by their addresses.
use Rattle.std.proofs.Common.{◌≡◌, ℕ, zero, suc, ◌+◌, ◌-◌, ◌*◌, ◌/◌, ◌%◌, ◌^◌, ◌<◌, ◌≤◌, ◌⊎◌, Bool, true, false, List, [], ◌∷◌, ◌++◌, length, take, drop, get_or, Some, None, refl, sym, ap, ◌∙◌, subst, arith, inl, inr, ⊎_elim, cond, length-append, length-drop, eq-eqb}
use Rattle.std.specs.Prelude.{◌==◌, ◌&&◌, ◌||◌, not, nat_le, nat_lt, slice_index, if◌then◌else◌}
use Rattle.std.proofs.lemmas.Bool.{cases_lt, ltb-true, leb-true, lt-ltb, le-leb, lt-leb, le-ltb, and_parts, and_from, or_cases, and_left, and_right, false_from_ne_true, cond-true, cond-false}
use Rattle.std.proofs.lemmas.List.{length-take-le, get_or-take, get_or-drop, get_or_append_left, get_or-append_right}
use Rattle.alpha_isa.specs.Program.{Program, data_start, stack_start, image_data_size}
use Rattle.alpha_isa.specs.State.{State, lies_in, byte_range, with_part, bytes_at, with_bytes}
use Rattle.mem_model.specs.Memory.{IsWidth}
use Rattle.frame_memory.specs.Bytes.{Bytes, bytes_from, put_bytes, low_bytes, number_from}
use Rattle.frame_memory.specs.Machine.{is_in_data, is_in_stack, is_reached, memory_bytes, HasParts, IsReached, IsAfterStore, NumbersOfAccesses}
use Rattle.frame_memory.proofs.Numbers.{put-out, put-step, put-here}

-- ---- lists of bytes

part-first : (bytes : List ℕ) (i n : ℕ) → i < length bytes → take (suc n) (drop i bytes) ≡ get_or bytes i 0 ∷ take n (drop (suc i) bytes)
part-first [] i n lt = absurd (omega arith)
part-first (b ∷ bytes) zero n lt = refl
part-first (b ∷ bytes) (suc i) n lt = part-first bytes i n (omega arith)

-- a part of a list whose elements stand at addresses
part-bytes : (m : Bytes) (bytes : List ℕ) (a i n : ℕ) → i + n ≤ length bytes → ((k : ℕ) → k < n → m (a + k) ≡ get_or bytes (i + k) 0) → take n (drop i bytes) ≡ bytes_from m a n
unfolding bytes_from
part-bytes m bytes a i zero le h = refl
part-bytes m bytes a i (suc n) le h =
    let z : a + 0 ≡ a = omega arith in
    let y : i + 0 ≡ i = omega arith in
    let first : m a ≡ get_or bytes i 0 = ap m (sym z) ∙ h 0 (omega arith) ∙ ap (λ k. get_or bytes k 0) y in
    let rest = part-bytes m bytes (suc a) (suc i) n (omega arith) (λ k lt. let s : suc a + k ≡ a + suc k = omega arith in let t : i + suc k ≡ suc i + k = omega arith in ap m s ∙ h (suc k) (omega arith) ∙ ap (λ j. get_or bytes j 0) t) in
    part-first bytes i n (omega arith) ∙ cc (first, rest)

-- bytes that were put, by their numbers
put-inside : (bs : List ℕ) (m : Bytes) (a k : ℕ) → k < length bs → put_bytes m a bs (a + k) ≡ get_or bs k 0
put-inside [] m a k lt = absurd (omega arith)
put-inside (b ∷ bs) m a zero lt = let z : a + 0 ≡ a = omega arith in ap (put_bytes m a (b ∷ bs)) z ∙ put-here b bs m a
put-inside (b ∷ bs) m a (suc k) lt =
    let s : a + suc k ≡ suc a + k = omega arith in
    ap (put_bytes m a (b ∷ bs)) s ∙ put-step b bs m a (suc a + k) (omega arith) ∙ put-inside bs m (suc a) k (omega arith)

with_part-length : (bytes new : List ℕ) (i : ℕ) → i + length new ≤ length bytes → length (with_part bytes i new) ≡ length bytes
with_part-length bytes new i le =
    omega (arith, length-append (take i bytes) (new ++ drop (i + length new) bytes), length-append new (drop (i + length new) bytes), length-take-le i bytes (omega arith), length-drop (i + length new) bytes)

with_part-apart : (bytes new : List ℕ) (i k : ℕ) → i + length new ≤ length bytes → (k < i) ⊎ (i + length new ≤ k) → get_or (with_part bytes i new) k 0 ≡ get_or bytes k 0
with_part-apart bytes new i k le (inl lt) =
    let len = length-take-le i bytes (omega arith) in
    get_or_append_left (take i bytes) (new ++ drop (i + length new) bytes) 0 k (omega (arith, len)) ∙ get_or-take i bytes k 0 lt
with_part-apart bytes new i k le (inr ge) =
    let len : length (take i bytes) ≡ i = length-take-le i bytes (omega arith) in
    let f : (i + length new) + (k - i - length new) ≡ k = omega arith in
    get_or-append_right (take i bytes) (new ++ drop (i + length new) bytes) i k 0 len (omega arith)
    ∙ get_or-append_right new (drop (i + length new) bytes) (length new) (k - i) 0 refl (omega arith)
    ∙ get_or-drop (i + length new) bytes (k - i - length new) 0
    ∙ ap (λ j. get_or bytes j 0) f

with_part-inside : (bytes new : List ℕ) (i k : ℕ) → i + length new ≤ length bytes → k < length new → get_or (with_part bytes i new) (i + k) 0 ≡ get_or new k 0
with_part-inside bytes new i k le lt =
    let len : length (take i bytes) ≡ i = length-take-le i bytes (omega arith) in
    let e : i + k - i ≡ k = omega arith in
    get_or-append_right (take i bytes) (new ++ drop (i + length new) bytes) i (i + k) 0 len (omega arith)
    ∙ ap (λ j. get_or (new ++ drop (i + length new) bytes) j 0) e
    ∙ get_or_append_left new (drop (i + length new) bytes) 0 k lt

-- ---- where addresses lie

record LiesIn (start a n : ℕ) (bytes : List ℕ) : Type 0 where
  from : start ≤ a
  to : a + n ≤ start + length bytes

lies : (a n start : ℕ) (bytes : List ℕ) → LiesIn start a n bytes → lies_in a n start bytes ≡ true
lies a n start bytes l = and_from (nat_le start a) (nat_le (a + n) (start + length bytes)) (le-leb start a l.from) (le-leb (a + n) (start + length bytes) l.to)

not_lies : (a n start : ℕ) (bytes : List ℕ) → ((start ≤ a) → (a + n ≤ start + length bytes) → ⊥) → lies_in a n start bytes ≡ false
not_lies a n start bytes h = false_from_ne_true (lies_in a n start bytes) (λ e.
    let t = and_parts (nat_le start a) (nat_le (a + n) (start + length bytes)) e in
    h (leb-true start a t.0) (leb-true (a + n) (start + length bytes) t.1))

in_part : (start y size : ℕ) → start ≤ y → y < start + size → (nat_le start y && nat_lt y (start + size)) ≡ true
in_part start y size f t = and_from (nat_le start y) (nat_lt y (start + size)) (le-leb start y f) (lt-ltb y (start + size) t)

in_part-not : (start y size : ℕ) → (y < start) ⊎ (start + size ≤ y) → (nat_le start y && nat_lt y (start + size)) ≡ false
in_part-not start y size (inl lt) = and_left (nat_le start y) (nat_lt y (start + size)) (lt-leb start y lt)
in_part-not start y size (inr ge) = and_right (nat_le start y) (nat_lt y (start + size)) (le-ltb y (start + size) ge)

in_part-is : (start y size : ℕ) → (nat_le start y && nat_lt y (start + size)) ≡ true → (start ≤ y) × (y < start + size)
in_part-is start y size e =
    let t = and_parts (nat_le start y) (nat_lt y (start + size)) e in (leb-true start y t.0, ltb-true y (start + size) t.1)

-- the stack begins at a multiple of each width
width-pos : (width : ℕ) → IsWidth width → 0 < width
width-pos width (inl e) = omega (arith, e)
width-pos width (inr (inl e)) = omega (arith, e)
width-pos width (inr (inr (inl e))) = omega (arith, e)
width-pos width (inr (inr (inr e))) = omega (arith, e)

-- an aligned range that begins below a multiple of 65,536 ends there at most
stays_below : (a width q : ℕ) → IsWidth width → a % width ≡ 0 → a < q * 65536 → a + width ≤ q * 65536
stays_below a width q (inl e) h lt = omega (arith, e)
stays_below a width q (inr (inl e)) h lt = let g : a % 2 ≡ 0 = subst (λ k. a % k ≡ 0) e h in omega (arith, e, g)
stays_below a width q (inr (inr (inl e))) h lt = let g : a % 4 ≡ 0 = subst (λ k. a % k ≡ 0) e h in omega (arith, e, g)
stays_below a width q (inr (inr (inr e))) h lt = let g : a % 8 ≡ 0 = subst (λ k. a % k ≡ 0) e h in omega (arith, e, g)

module _ (p : Program) (s : State) (parts : HasParts p s) where
  below : data_start p + length s.data_bytes ≤ stack_start p
  below = parts.data_below

  data_byte : (y : ℕ) → data_start p ≤ y → y < data_start p + length s.data_bytes → memory_bytes p s y ≡ get_or s.data_bytes (y - data_start p) 0
  unfolding memory_bytes
  data_byte y f t = cond-true (is_in_data p s y) _ _ (in_part (data_start p) y (length s.data_bytes) f t)

  stack_byte : (y : ℕ) → stack_start p ≤ y → y < stack_start p + length s.stack_bytes → memory_bytes p s y ≡ get_or s.stack_bytes (y - stack_start p) 0
  unfolding memory_bytes
  stack_byte y f t =
      let le = below in
      cond-false (is_in_data p s y) _ _ (in_part-not (data_start p) y (length s.data_bytes) (inr (omega (arith, le))))
      ∙ cond-true (is_in_stack p s y) _ _ (in_part (stack_start p) y (length s.stack_bytes) f t)

  -- a range that may be accessed lies in one of the two
  one_part : (a width : ℕ) → IsWidth width → IsReached p s a width → LiesIn (data_start p) a width s.data_bytes ⊎ LiesIn (stack_start p) a width s.stack_bytes
  one_part a width wide r =
      let some = width-pos width wide in
      let z : a + 0 ≡ a = omega arith in
      let first : is_reached p s a ≡ true = ap (is_reached p s) (sym z) ∙ r.reached 0 some in
      let last : is_reached p s (a + (width - 1)) ≡ true = r.reached (width - 1) (omega arith) in
      ⊎_elim
      (λ d. let i = in_part-is (data_start p) a (length s.data_bytes) d in ⊎_elim
      (λ e. let j = in_part-is (data_start p) (a + (width - 1)) (length s.data_bytes) e in inl (record { from = i.0; to = let k = j.1 in omega (arith, k) }))
      (λ e. let j = in_part-is (stack_start p) (a + (width - 1)) (length s.stack_bytes) e in
      let le = below in let lt = i.1 in
      let end = stays_below a width ((data_start p + image_data_size p + 65535) / 65536) wide r.aligned (omega (arith, le, lt)) in
      let k = j.0 in absurd (omega (arith, k, end)))
      (or_cases (is_in_data p s (a + (width - 1))) (is_in_stack p s (a + (width - 1))) last))
      (λ d. let i = in_part-is (stack_start p) a (length s.stack_bytes) d in ⊎_elim
      (λ e. let j = in_part-is (data_start p) (a + (width - 1)) (length s.data_bytes) e in
      let le = below in let k = j.1 in let f = i.0 in absurd (omega (arith, le, k, f)))
      (λ e. let j = in_part-is (stack_start p) (a + (width - 1)) (length s.stack_bytes) e in inr (record { from = i.0; to = let k = j.1 in omega (arith, k) }))
      (or_cases (is_in_data p s (a + (width - 1))) (is_in_stack p s (a + (width - 1))) last))
      (or_cases (is_in_data p s a) (is_in_stack p s a) first)

  not_in_data : (a width : ℕ) → 0 < width → stack_start p ≤ a → lies_in a width (data_start p) s.data_bytes ≡ false
  not_in_data a width some f = let le = below in not_lies a width (data_start p) s.data_bytes (λ x y. omega (arith, le, f, y, some))

  is_aligned : (a width : ℕ) → a % width ≡ 0 → not (a % width == 0) ≡ false
  is_aligned a width e = ap not (eq-eqb (a % width) 0 e)

  three : {X : Type 0} (b c d : Bool) (x y z w : X) → b ≡ false → (c ≡ true) → cond b x (cond c y (cond d z w)) ≡ y
  three b c d x y z w e f = cond-false b _ _ e ∙ cond-true c _ _ f

  four : {X : Type 0} (b c d : Bool) (x y z w : X) → b ≡ false → c ≡ false → d ≡ true → cond b x (cond c y (cond d z w)) ≡ z
  four b c d x y z w e f g = cond-false b _ _ e ∙ cond-false c _ _ f ∙ cond-true d _ _ g

  pub loads_read_bytes : (a width : ℕ) → IsWidth width → IsReached p s a width → bytes_at p s a width ≡ Some (bytes_from (memory_bytes p s) a width)
  loads_read_bytes a width wide r = ⊎_elim
      (λ l.
      let f = l.from in let t = l.to in
      three (not (a % width == 0)) (lies_in a width (data_start p) s.data_bytes) (lies_in a width (stack_start p) s.stack_bytes) None (Some (byte_range s.data_bytes (a - data_start p) width)) (Some (byte_range s.stack_bytes (a - stack_start p) width)) None (is_aligned a width r.aligned) (lies a width (data_start p) s.data_bytes l)
      ∙ ap Some (part-bytes (memory_bytes p s) s.data_bytes a (a - data_start p) width (omega (arith, f, t)) (λ k lt. let e : a + k - data_start p ≡ a - data_start p + k = omega (arith, f) in data_byte (a + k) (omega (arith, f)) (omega (arith, t)) ∙ ap (λ j. get_or s.data_bytes j 0) e)))
      (λ l.
      let f = l.from in let t = l.to in
      four (not (a % width == 0)) (lies_in a width (data_start p) s.data_bytes) (lies_in a width (stack_start p) s.stack_bytes) None (Some (byte_range s.data_bytes (a - data_start p) width)) (Some (byte_range s.stack_bytes (a - stack_start p) width)) None (is_aligned a width r.aligned) (not_in_data a width (width-pos width wide) l.from) (lies a width (stack_start p) s.stack_bytes l)
      ∙ ap Some (part-bytes (memory_bytes p s) s.stack_bytes a (a - stack_start p) width (omega (arith, f, t)) (λ k lt. let e : a + k - stack_start p ≡ a - stack_start p + k = omega (arith, f) in stack_byte (a + k) (omega (arith, f)) (omega (arith, t)) ∙ ap (λ j. get_or s.stack_bytes j 0) e)))
      (one_part a width wide r)

-- ---- stores

-- a part of the memory with bytes in it
part_put : (m : Bytes) (bytes bs : List ℕ) (start a y : ℕ) → start ≤ a → a + length bs ≤ start + length bytes → start ≤ y → m y ≡ get_or bytes (y - start) 0 → get_or (with_part bytes (a - start) bs) (y - start) 0 ≡ put_bytes m a bs y
part_put m bytes bs start a y from to le is = ⊎_elim
    (λ before. out (inl before))
    (λ behind. ⊎_elim
    (λ within.
    let e : a - start + (y - a) ≡ y - start = omega arith in
    let f : a + (y - a) ≡ y = omega arith in
    ap (λ k. get_or (with_part bytes (a - start) bs) k 0) (sym e)
    ∙ with_part-inside bytes bs (a - start) (y - a) (omega arith) (omega arith)
    ∙ sym (put-inside bs m a (y - a) (omega arith))
    ∙ ap (put_bytes m a bs) f)
    (λ past. out (inr past))
    (cases_lt y (a + length bs)))
    (cases_lt y a)
  where
    places : (y < a) ⊎ (a + length bs ≤ y) → (y - start < a - start) ⊎ (a - start + length bs ≤ y - start)
    places (inl lt) = inl (omega arith)
    places (inr ge) = inr (omega arith)

    out : (y < a) ⊎ (a + length bs ≤ y) → get_or (with_part bytes (a - start) bs) (y - start) 0 ≡ put_bytes m a bs y
    out h = with_part-apart bytes bs (a - start) (y - start) (omega arith) (places h) ∙ sym is ∙ sym (put-out bs m a y h)

module _ (p : Program) (s : State) (parts : HasParts p s) (a : ℕ) (bs : List ℕ) (wide : IsWidth (length bs)) (r : IsReached p s a (length bs)) where
  in_data_now : State
  in_data_now = record s { data_bytes = with_part s.data_bytes (a - data_start p) bs }

  in_stack_now : State
  in_stack_now = record s { stack_bytes = with_part s.stack_bytes (a - stack_start p) bs }

  -- the byte at an address, by where it lies
  by_part : (t : State) (y : ℕ) (x : ℕ) → ((start : data_start p ≤ y) → y < data_start p + length t.data_bytes → get_or t.data_bytes (y - data_start p) 0 ≡ x)
      → ((y < data_start p) ⊎ (data_start p + length t.data_bytes ≤ y) → (if is_in_stack p t y then slice_index t.stack_bytes (y - stack_start p) else 0) ≡ x) → memory_bytes p t y ≡ x
  unfolding memory_bytes
  by_part t y x inner outer = ⊎_elim
      (λ before. cond-false (is_in_data p t y) _ _ (in_part-not (data_start p) y (length t.data_bytes) (inl before)) ∙ outer (inl before))
      (λ from. ⊎_elim
      (λ within. cond-true (is_in_data p t y) _ _ (in_part (data_start p) y (length t.data_bytes) from within) ∙ inner from within)
      (λ past. cond-false (is_in_data p t y) _ _ (in_part-not (data_start p) y (length t.data_bytes) (inr past)) ∙ outer (inr past))
      (cases_lt y (data_start p + length t.data_bytes)))
      (cases_lt y (data_start p))

  rest_of : (t : State) (y : ℕ) → (y < data_start p) ⊎ (data_start p + length t.data_bytes ≤ y) → memory_bytes p t y ≡ (if is_in_stack p t y then slice_index t.stack_bytes (y - stack_start p) else 0)
  unfolding memory_bytes
  rest_of t y h = cond-false (is_in_data p t y) _ _ (in_part-not (data_start p) y (length t.data_bytes) h)

  data_stored : LiesIn (data_start p) a (length bs) s.data_bytes → (t : State) × (with_bytes p s a bs ≡ Some t) × IsAfterStore p s t a bs
  unfolding in_data_now in_stack_now
  data_stored l =
      let f = l.from in let to = l.to in
      let len : length (with_part s.data_bytes (a - data_start p) bs) ≡ length s.data_bytes = with_part-length s.data_bytes bs (a - data_start p) (omega (arith, f, to)) in (
        in_data_now,
        three p s parts (not (a % length bs == 0)) (lies_in a (length bs) (data_start p) s.data_bytes) (lies_in a (length bs) (stack_start p) s.stack_bytes) None (Some in_data_now) (Some in_stack_now) None (is_aligned p s parts a (length bs) r.aligned) (lies a (length bs) (data_start p) s.data_bytes l),
        record {
          bytes = λ i y. data_bytes_now l len y i;
          reached = λ y. ap (λ n. (nat_le (data_start p) y && nat_lt y (data_start p + n)) || is_in_stack p s y) len;
          parts = record { data_below = subst (λ n. data_start p + n ≤ stack_start p) (sym len) parts.data_below };
          pc = refl;
          registers = refl;
          input = refl;
          output = refl;
          data_length = len;
          stack_length = refl;
        },
      )
    where
      data_bytes_now : LiesIn (data_start p) a (length bs) s.data_bytes → length (with_part s.data_bytes (a - data_start p) bs) ≡ length s.data_bytes → (y : ℕ) → memory_bytes p in_data_now y ≡ put_bytes (memory_bytes p s) a bs y
      data_bytes_now l len y = by_part in_data_now y (put_bytes (memory_bytes p s) a bs y)
          (λ from within. part_put (memory_bytes p s) s.data_bytes bs (data_start p) a y l.from l.to from (data_byte p s parts y from (subst (λ n. y < data_start p + n) len within)))
          (λ out. sym (rest_of s y (same out)) ∙ sym (put-out bs (memory_bytes p s) a y (apart (same out))))
        where
          same : (y < data_start p) ⊎ (data_start p + length (with_part s.data_bytes (a - data_start p) bs) ≤ y) → (y < data_start p) ⊎ (data_start p + length s.data_bytes ≤ y)
          same (inl lt) = inl lt
          same (inr ge) = inr (subst (λ n. data_start p + n ≤ y) len ge)

          apart : (y < data_start p) ⊎ (data_start p + length s.data_bytes ≤ y) → (y < a) ⊎ (a + length bs ≤ y)
          apart (inl lt) = let f = l.from in inl (omega (arith, lt, f))
          apart (inr ge) = let t = l.to in inr (omega (arith, ge, t))

  stack_stored : LiesIn (stack_start p) a (length bs) s.stack_bytes → (t : State) × (with_bytes p s a bs ≡ Some t) × IsAfterStore p s t a bs
  unfolding in_data_now in_stack_now
  stack_stored l =
      let f = l.from in let to = l.to in
      let len : length (with_part s.stack_bytes (a - stack_start p) bs) ≡ length s.stack_bytes = with_part-length s.stack_bytes bs (a - stack_start p) (omega (arith, f, to)) in (
        in_stack_now,
        four p s parts (not (a % length bs == 0)) (lies_in a (length bs) (data_start p) s.data_bytes) (lies_in a (length bs) (stack_start p) s.stack_bytes) None (Some in_data_now) (Some in_stack_now) None (is_aligned p s parts a (length bs) r.aligned) (not_in_data p s parts a (length bs) (width-pos (length bs) wide) l.from) (lies a (length bs) (stack_start p) s.stack_bytes l),
        record {
          bytes = λ i y. stack_bytes_now l len y i;
          reached = λ y. ap (λ n. is_in_data p s y || (nat_le (stack_start p) y && nat_lt y (stack_start p + n))) len;
          parts = record { data_below = parts.data_below };
          pc = refl;
          registers = refl;
          input = refl;
          output = refl;
          data_length = refl;
          stack_length = len;
        },
      )
    where
      stack_bytes_now : LiesIn (stack_start p) a (length bs) s.stack_bytes → length (with_part s.stack_bytes (a - stack_start p) bs) ≡ length s.stack_bytes → (y : ℕ) → memory_bytes p in_stack_now y ≡ put_bytes (memory_bytes p s) a bs y
      stack_bytes_now l len y = by_part in_stack_now y (put_bytes (memory_bytes p s) a bs y)
          (λ from within. let le = parts.data_below in let f = l.from in
          sym (data_byte p s parts y from within) ∙ sym (put-out bs (memory_bytes p s) a y (inl (omega (arith, le, f, within)))))
          (λ out. ⊎_elim (λ inside. in_it out inside.0 (subst (λ n. y < stack_start p + n) len inside.1)) (λ outside. off out outside) (where_is y))
        where
          where_is : (y : ℕ) → ((stack_start p ≤ y) × (y < stack_start p + length (with_part s.stack_bytes (a - stack_start p) bs))) ⊎ ((y < stack_start p) ⊎ (stack_start p + length (with_part s.stack_bytes (a - stack_start p) bs) ≤ y))
          where_is y = ⊎_elim (λ lt. inr (inl lt)) (λ ge. ⊎_elim (λ lt. inl (ge, lt)) (λ past. inr (inr past)) (cases_lt y (stack_start p + length (with_part s.stack_bytes (a - stack_start p) bs)))) (cases_lt y (stack_start p))

          in_it : (y < data_start p) ⊎ (data_start p + length s.data_bytes ≤ y) → stack_start p ≤ y → y < stack_start p + length s.stack_bytes → (if is_in_stack p in_stack_now y then slice_index (with_part s.stack_bytes (a - stack_start p) bs) (y - stack_start p) else 0) ≡ put_bytes (memory_bytes p s) a bs y
          in_it out from within =
              cond-true (is_in_stack p in_stack_now y) _ _ (in_part (stack_start p) y (length (with_part s.stack_bytes (a - stack_start p) bs)) from (subst (λ n. y < stack_start p + n) (sym len) within))
              ∙ part_put (memory_bytes p s) s.stack_bytes bs (stack_start p) a y l.from l.to from (stack_byte p s parts y from within)

          off : (y < data_start p) ⊎ (data_start p + length s.data_bytes ≤ y) → (y < stack_start p) ⊎ (stack_start p + length (with_part s.stack_bytes (a - stack_start p) bs) ≤ y) → (if is_in_stack p in_stack_now y then slice_index (with_part s.stack_bytes (a - stack_start p) bs) (y - stack_start p) else 0) ≡ put_bytes (memory_bytes p s) a bs y
          off out outside =
              cond-false (is_in_stack p in_stack_now y) _ _ (in_part-not (stack_start p) y (length (with_part s.stack_bytes (a - stack_start p) bs)) outside)
              ∙ sym (rest_of s y out ∙ cond-false (is_in_stack p s y) _ _ (in_part-not (stack_start p) y (length s.stack_bytes) (before outside)))
              ∙ sym (put-out bs (memory_bytes p s) a y (apart (before outside)))
            where
              before : (y < stack_start p) ⊎ (stack_start p + length (with_part s.stack_bytes (a - stack_start p) bs) ≤ y) → (y < stack_start p) ⊎ (stack_start p + length s.stack_bytes ≤ y)
              before (inl lt) = inl lt
              before (inr ge) = inr (subst (λ n. stack_start p + n ≤ y) len ge)

              apart : (y < stack_start p) ⊎ (stack_start p + length s.stack_bytes ≤ y) → (y < a) ⊎ (a + length bs ≤ y)
              apart (inl lt) = let f = l.from in inl (omega (arith, lt, f))
              apart (inr ge) = let t = l.to in inr (omega (arith, ge, t))

  pub stores_put_bytes : (t : State) × (with_bytes p s a bs ≡ Some t) × IsAfterStore p s t a bs
  stores_put_bytes = ⊎_elim data_stored stack_stored (one_part p s parts a (length bs) wide r)

-- ---- numbers

pub numbers_of_accesses : NumbersOfAccesses
unfolding bytes_from number_from low_bytes
numbers_of_accesses = record {
  byte = λ m a. omega arith;
  word = λ m a. omega arith;
  long = λ m a. omega arith;
  quad = λ m a. omega arith;
  byte_of = λ n. refl;
  word_of = λ n. refl;
  long_of = λ n. let e2 : n / 256 ^ 2 % 256 ≡ n / 256 / 256 % 256 = omega arith in let e3 : n / 256 ^ 3 % 256 ≡ n / 256 / 256 / 256 % 256 = omega arith in cc;
  quad_of = λ n. let e2 : n / 256 ^ 2 % 256 ≡ n / 256 / 256 % 256 = omega arith in
      let e3 : n / 256 ^ 3 % 256 ≡ n / 256 / 256 / 256 % 256 = omega arith in
      let e4 : n / 256 ^ 4 % 256 ≡ n / 256 / 256 / 256 / 256 % 256 = omega arith in
      let e5 : n / 256 ^ 5 % 256 ≡ n / 256 / 256 / 256 / 256 / 256 % 256 = omega arith in
      let e6 : n / 256 ^ 6 % 256 ≡ n / 256 / 256 / 256 / 256 / 256 / 256 % 256 = omega arith in
      let e7 : n / 256 ^ 7 % 256 ≡ n / 256 / 256 / 256 / 256 / 256 / 256 / 256 % 256 = omega arith in cc;
}
