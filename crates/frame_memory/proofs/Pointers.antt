-- The operators on pointers, and their addresses as words.
use Rattle.std.proofs.Common.{◌≡◌, ◌≢◌, ℕ, zero, suc, ◌+◌, ◌^◌, ◌<◌, ◌≤◌, Bool, true, false, length, Option, Some, None, refl, sym, ap, ◌∙◌, subst, arith, ⊎_elim, eq-eqb}
use Rattle.std.specs.Prelude.{slice_get, ◌==◌, ◌&&◌, ◌||◌, not, nat_lt, nat_le, ℤ, pos, negsuc, ◌+ℤ◌, ◌-ℤ◌, int_lt, int_le, if◌then◌else◌}
use Rattle.std.specs.Ordering.{int_eq}
use Rattle.std.proofs.lemmas.Bool.Decides.{Decides-int_eq}
use Rattle.std.proofs.lemmas.Bool.{false_from_ne_true, cases_lt, cases_eq, eqb-true, ne_eqb, or_parts, not-true, ltb-false, lt-ltb, le-ltb, le-leb, lt-leb, and_parts}
use Rattle.std.proofs.lemmas.Int.{ints}
use Rattle.alpha_isa.specs.Arithmetic.{word_at, word_from, word_difference}
use Rattle.mem_model.specs.declared.value.Ptr.{Ptr}
use Rattle.mem_model.specs.declared.value.Value.{Value}
use Rattle.mem_model.specs.declared.value.Value.TheVariants.{Word, Address, Unset}
use Rattle.mem_model.specs.Memory.{Memory, object_at}
use Rattle.mem_model.specs.Pointers.{ptr_plus, is_live, size_at, is_offset, is_at_end, share_object, option_if, pointer_plus, pointer_minus, pointer_lt, pointer_le, pointer_eq, addresses_eq, is_null}
use Rattle.mem_model.proofs.Pointers.{when-some}
use Rattle.frame_memory.specs.Bytes.{Bytes}
use Rattle.frame_memory.specs.Relation.{Extent, Extents, IsAddressOf, ValueIs, Owners, OfObject, MemoryIs}
use Rattle.frame_memory.specs.PointerLaws.{AnswersAre}
use Rattle.frame_memory.proofs.Memories.{is_within_object}

-- ---- numbers

-- an offset within a size is a number
offset-number : (z : ℤ) (size : ℕ) → is_offset z size ≡ true → (n : ℕ) × (z ≡ pos n) × (n ≤ size)
offset-number (pos n) size e = (n, refl, ltb-false size n (not-true (nat_lt size n) e))
offset-number (negsuc n) size e = absurd (cc)

moved : (base at to size : ℕ) (by : ℤ) → pos at +ℤ by ≡ pos to → at ≤ size → to ≤ size → base + size < 2 ^ 64 → word_at (base + at + word_from by) ≡ base + to
moved base at to size (pos n) e p q s = let f : at + n ≡ to = cc in omega (arith, f)
moved base at to size (negsuc n) e p q s = let f : at ≡ to + suc n = omega (arith, ints, e) in omega (arith, f)

apart : (base a b size : ℕ) (d : ℤ) → pos a -ℤ pos b ≡ d → a ≤ size → b ≤ size → base + size < 2 ^ 64 → word_at (word_difference (base + a) (base + b)) ≡ word_from d
apart base a b size (pos n) e p q s = let f : a ≡ b + n = omega (arith, ints, e) in omega (arith, f)
apart base a b size (negsuc n) e p q s = let f : a + suc n ≡ b = omega (arith, ints, e) in omega (arith, f)

same_lt : (base a b : ℕ) → nat_lt (base + a) (base + b) ≡ nat_lt a b
same_lt base a b = ⊎_elim
    (λ lt. lt-ltb (base + a) (base + b) (omega arith) ∙ sym (lt-ltb a b lt))
    (λ ge. le-ltb (base + a) (base + b) (omega arith) ∙ sym (le-ltb a b ge))
    (cases_lt a b)

same_le : (base a b : ℕ) → nat_le (base + a) (base + b) ≡ nat_le a b
same_le base a b = ⊎_elim
    (λ lt. lt-leb (base + a) (base + b) (omega arith) ∙ sym (lt-leb a b lt))
    (λ ge. le-leb (base + a) (base + b) (omega arith) ∙ sym (le-leb a b ge))
    (cases_lt b a)

int_eq-pos : (a b : ℕ) → int_eq (pos a) (pos b) ≡ (a == b)
int_eq-pos a b = ⊎_elim
    (λ e. (Decides-int_eq (pos a) (pos b)).1 (ap pos e) ∙ sym (eq-eqb a b e))
    (λ ne. false_from_ne_true (int_eq (pos a) (pos b)) (λ t. let h : pos a ≡ pos b = (Decides-int_eq (pos a) (pos b)).0 t in let s : a ≡ b = cc in ne s) ∙ sym (ne_eqb a b ne))
    (cases_eq a b)

same_eq : (base a b : ℕ) → (base + a == base + b) ≡ int_eq (pos a) (pos b)
same_eq base a b = ⊎_elim
    (λ e. let s : base + a ≡ base + b = omega (arith, e) in eq-eqb (base + a) (base + b) s ∙ sym (int_eq-pos a b ∙ eq-eqb a b e))
    (λ ne. ne_eqb (base + a) (base + b) (λ e. let s : a ≡ b = omega (arith, e) in ne s) ∙ sym (int_eq-pos a b ∙ ne_eqb a b ne))
    (cases_eq a b)

module _ (xs : Extents) (memory : Memory) (owner : Owners) (m : Bytes) (mem : MemoryIs xs memory owner m) where
  -- two addresses in one live object
  record InOne (p q : Ptr) (w x : ℕ) : Type 0 where
    base : ℕ
    size : ℕ
    at : ℕ
    to : ℕ
    p_offset : p.offset ≡ pos at
    q_offset : q.offset ≡ pos to
    w_is : w ≡ base + at
    x_is : x ≡ base + to
    at_within : at ≤ size
    to_within : to ≤ size
    small : base + size < 2 ^ 64

  in_one : (p q : Ptr) (w x : ℕ) → IsAddressOf xs p w → IsAddressOf xs q x → p.object ≡ q.object → InOne p q w x
  in_one p q w x s t same =
      let e : Some s.extent ≡ Some t.extent = sym s.made ∙ ap (slice_get xs) same ∙ t.made in
      let one : s.extent ≡ t.extent = cc in
      record {
        base = s.extent.base;
        size = s.extent.size;
        at = s.at;
        to = t.at;
        p_offset = s.offset;
        q_offset = t.offset;
        w_is = s.place;
        x_is = t.place ∙ ap (λ (z : Extent). z.base + t.at) (sym one);
        at_within = s.within;
        to_within = subst (λ (z : Extent). t.at ≤ z.size) (sym one) t.within;
        small = s.sound.small;
      }

  pub pointers_move : (v u : Value) (w : ℕ) (by : ℤ) → ValueIs xs v w → pointer_plus memory v by ≡ Some u → ValueIs xs u (word_at (w + word_from by))
  pointers_move (Word n) u w by h e = absurd (cc)
  pointers_move Unset u w by h e = absurd (cc)
  pointers_move (Address p) u w by h e =
      let a = when-some (is_live memory p && is_offset (p.offset +ℤ by) (size_at memory p)) (Address (ptr_plus p by)) u e in
      let tests = and_parts (is_live memory p) (is_offset (p.offset +ℤ by) (size_at memory p)) a.0 in
      let object = mem.each p.object tests.0 in
      let n = offset-number (p.offset +ℤ by) (size_at memory p) tests.1 in
      let made : Some object.extent ≡ Some h.extent = sym object.made ∙ h.made in
      let one : object.extent ≡ h.extent = cc in
      let size : size_at memory p ≡ h.extent.size = object.size ∙ ap (λ (z : Extent). z.size) one in
      let le = n.2 in
      let to_within : n.0 ≤ h.extent.size = omega (arith, size, le) in
      let offset : pos h.at +ℤ by ≡ pos n.0 = ap (λ z. z +ℤ by) (sym h.offset) ∙ n.1 in
      subst (λ x. ValueIs xs x (word_at (w + word_from by))) a.1 (record {
        extent = h.extent;
        made = h.made;
        sound = h.sound;
        at = n.0;
        offset = n.1;
        within = to_within;
        place = ap (λ k. word_at (k + word_from by)) h.place ∙ moved h.extent.base h.at n.0 h.extent.size by offset h.within to_within h.sound.small;
      })

  -- ---- two pointers

  minus-is : (v u : Value) (w x : ℕ) (d : ℤ) → ValueIs xs v w → ValueIs xs u x → pointer_minus memory v u ≡ Some d → word_at (word_difference w x) ≡ word_from d
  minus-is (Address p) (Address q) w x d s t e =
      let a = when-some (share_object memory p q) (p.offset -ℤ q.offset) d e in
      let tests = and_parts (is_live memory p) (p.object == q.object) a.0 in
      let o = in_one p q w x s t (eqb-true p.object q.object tests.1) in
      let f : pos o.at -ℤ pos o.to ≡ d = ap (λ z. z -ℤ pos o.to) (sym o.p_offset) ∙ ap (λ z. p.offset -ℤ z) (sym o.q_offset) ∙ a.1 in
      ap (λ k. word_at (word_difference k x)) o.w_is ∙ ap (λ k. word_at (word_difference (o.base + o.at) k)) o.x_is ∙ apart o.base o.at o.to o.size d f o.at_within o.to_within o.small
  minus-is (Address p) (Word k) w x d s t e = absurd (cc)
  minus-is (Address p) Unset w x d s t e = absurd (cc)
  minus-is (Word k) u w x d s t e = absurd (cc)
  minus-is Unset u w x d s t e = absurd (cc)

  lt-is : (v u : Value) (w x : ℕ) (b : Bool) → ValueIs xs v w → ValueIs xs u x → pointer_lt memory v u ≡ Some b → nat_lt w x ≡ b
  lt-is (Address p) (Address q) w x b s t e =
      let a = when-some (share_object memory p q) (int_lt p.offset q.offset) b e in
      let tests = and_parts (is_live memory p) (p.object == q.object) a.0 in
      let o = in_one p q w x s t (eqb-true p.object q.object tests.1) in
      let f : int_lt (pos o.at) (pos o.to) ≡ b = ap (λ z. int_lt z (pos o.to)) (sym o.p_offset) ∙ ap (int_lt p.offset) (sym o.q_offset) ∙ a.1 in
      ap (λ k. nat_lt k x) o.w_is ∙ ap (nat_lt (o.base + o.at)) o.x_is ∙ same_lt o.base o.at o.to ∙ f
  lt-is (Address p) (Word k) w x b s t e = absurd (cc)
  lt-is (Address p) Unset w x b s t e = absurd (cc)
  lt-is (Word k) u w x b s t e = absurd (cc)
  lt-is Unset u w x b s t e = absurd (cc)

  le-is : (v u : Value) (w x : ℕ) (b : Bool) → ValueIs xs v w → ValueIs xs u x → pointer_le memory v u ≡ Some b → nat_le w x ≡ b
  le-is (Address p) (Address q) w x b s t e =
      let a = when-some (share_object memory p q) (int_le p.offset q.offset) b e in
      let tests = and_parts (is_live memory p) (p.object == q.object) a.0 in
      let o = in_one p q w x s t (eqb-true p.object q.object tests.1) in
      let f : int_le (pos o.at) (pos o.to) ≡ b = ap (λ z. int_le z (pos o.to)) (sym o.p_offset) ∙ ap (int_le p.offset) (sym o.q_offset) ∙ a.1 in
      ap (λ k. nat_le k x) o.w_is ∙ ap (nat_le (o.base + o.at)) o.x_is ∙ same_le o.base o.at o.to ∙ f
  le-is (Address p) (Word k) w x b s t e = absurd (cc)
  le-is (Address p) Unset w x b s t e = absurd (cc)
  le-is (Word k) u w x b s t e = absurd (cc)
  le-is Unset u w x b s t e = absurd (cc)

  -- ---- null

  above-null : (p : Ptr) (w : ℕ) → IsAddressOf xs p w → (w == 0) ≡ false
  above-null p w s = let above = s.sound.above in ne_eqb w 0 (λ e. omega (arith, e, s.place, above))

  null-is : (v : Value) (w : ℕ) (b : Bool) → ValueIs xs v w → is_null memory v ≡ Some b → (w == 0) ≡ b
  null-is (Word zero) w b h e = let t : true ≡ b = cc in eq-eqb w 0 h ∙ t
  null-is (Word (suc k)) w b h e = absurd (cc)
  null-is Unset w b h e = absurd (cc)
  null-is (Address p) w b h e = let a = when-some (is_live memory p) false b e in above-null p w h ∙ a.1

  -- ---- equality

  choice_is : (t : Bool) (o : Option Bool) (b : Bool) → (if t then o else None) ≡ Some b → (t ≡ true) × (o ≡ Some b)
  choice_is true o b e = (refl, e)
  choice_is false o b e = absurd (cc)

  -- the byte at an address that is not at its object's end is the object's
  own-byte : (p : Ptr) (w : ℕ) → IsAddressOf xs p w → is_live memory p ≡ true → is_at_end memory p ≡ false → owner w ≡ OfObject p.object
  own-byte p w s live end =
      let i = is_within_object xs memory owner m mem p w s live in
      let ne : i.at ≢ length (object_at memory p.object).cells = λ e. false-true (sym end ∙ ap (λ z. int_eq z (pos (size_at memory p))) i.offset ∙ int_eq-pos i.at (size_at memory p) ∙ eq-eqb i.at (size_at memory p) e) in
      let le = i.size in
      let size = i.object.size in
      i.object.own w (omega (arith, i.place)) (omega (arith, i.place, le, size, ne))
    where
      false-true : false ≡ true → ⊥
      false-true e = cc

  eq-same : (p q : Ptr) (w x : ℕ) (b : Bool) → IsAddressOf xs p w → IsAddressOf xs q x → p.object ≡ q.object → int_eq p.offset q.offset ≡ b → (w == x) ≡ b
  eq-same p q w x b s t same e =
      let o = in_one p q w x s t same in
      let f : int_eq (pos o.at) (pos o.to) ≡ b = ap (λ z. int_eq z (pos o.to)) (sym o.p_offset) ∙ ap (int_eq p.offset) (sym o.q_offset) ∙ e in
      ap (λ k. k == x) o.w_is ∙ ap (λ k. o.base + o.at == k) o.x_is ∙ same_eq o.base o.at o.to ∙ f

  eq-two : (p q : Ptr) (w x : ℕ) (b : Bool) → IsAddressOf xs p w → IsAddressOf xs q x → is_live memory p ≡ true → is_live memory q ≡ true → (p.object == q.object) ≡ false → option_if (not (is_at_end memory p || is_at_end memory q)) false ≡ Some b → (w == x) ≡ b
  eq-two p q w x b s t lp lq differ e =
      let a = when-some (not (is_at_end memory p || is_at_end memory q)) false b e in
      let ends = or_parts (is_at_end memory p) (is_at_end memory q) (not-true (is_at_end memory p || is_at_end memory q) a.0) in
      let mine = own-byte p w s lp ends.0 in
      let other = own-byte q x t lq ends.1 in
      ne_eqb w x (λ g. clash (sym mine ∙ ap owner g ∙ other)) ∙ a.1
    where
      clash : OfObject p.object ≡ OfObject q.object → ⊥
      clash h = let o : p.object ≡ q.object = cc in let t : true ≡ false = sym (eq-eqb p.object q.object o) ∙ differ in absurd (cc)

  addresses-is : (p q : Ptr) (w x : ℕ) (b : Bool) → IsAddressOf xs p w → IsAddressOf xs q x → is_live memory p ≡ true → is_live memory q ≡ true → (t : Bool) → (p.object == q.object) ≡ t → (if t then Some (int_eq p.offset q.offset) else option_if (not (is_at_end memory p || is_at_end memory q)) false) ≡ Some b → (w == x) ≡ b
  addresses-is p q w x b s t lp lq true one e = eq-same p q w x b s t (eqb-true p.object q.object one) cc
  addresses-is p q w x b s t lp lq false two e = eq-two p q w x b s t lp lq two e

  flip : (w x : ℕ) (b : Bool) → (x == w) ≡ b → (w == x) ≡ b
  flip w x b e = ⊎_elim
      (λ (s : w ≡ x). eq-eqb w x s ∙ sym (eq-eqb x w (sym s)) ∙ e)
      (λ ne. ne_eqb w x ne ∙ sym (ne_eqb x w (λ s. ne (sym s))) ∙ e)
      (cases_eq w x)

  eq-is : (v u : Value) (w x : ℕ) (b : Bool) → ValueIs xs v w → ValueIs xs u x → pointer_eq memory v u ≡ Some b → (w == x) ≡ b
  eq-is (Address p) (Address q) w x b s t e =
      let a = choice_is (is_live memory p && is_live memory q) (addresses_eq memory p q) b e in
      let tests = and_parts (is_live memory p) (is_live memory q) a.0 in
      addresses-is p q w x b s t tests.0 tests.1 (p.object == q.object) refl a.1
  eq-is (Address p) (Word zero) w x b s t e = ap (λ k. w == k) t ∙ null-is (Address p) w b s e
  eq-is (Address p) (Word (suc k)) w x b s t e = absurd (cc)
  eq-is (Address p) Unset w x b s t e = absurd (cc)
  eq-is (Word zero) u w x b s t e = flip w x b (ap (λ k. x == k) s ∙ null-is u x b t e)
  eq-is (Word (suc k)) u w x b s t e = absurd (cc)
  eq-is Unset u w x b s t e = absurd (cc)

  pub pointers_answer : (v u : Value) (w x : ℕ) → ValueIs xs v w → ValueIs xs u x → AnswersAre memory v u w x
  pointers_answer v u w x s t = record {
    minus = λ d e. minus-is v u w x d s t e;
    lt = λ b e. lt-is v u w x b s t e;
    le = λ b e. le-is v u w x b s t e;
    eq = λ b e. eq-is v u w x b s t e;
    null = λ b e. null-is v w b s e;
  }
