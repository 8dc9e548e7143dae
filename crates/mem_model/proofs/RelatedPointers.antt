-- The operators on pointers in a memory that stands for another one.
use Rattle.std.proofs.Common.{◌≡◌, zero, suc, Bool, true, false, Option, Some, None, refl, sym, ap, ◌∙◌, subst}
use Rattle.std.specs.Prelude.{◌==◌, ◌&&◌, ◌||◌, not, ℤ, ◌+ℤ◌, ◌-ℤ◌, int_lt, int_le, if◌then◌else◌}
use Rattle.std.specs.Ordering.{int_eq}
use Rattle.std.proofs.lemmas.Bool.{eqb-true, and_parts}
use Rattle.mem_model.specs.declared.value.Ptr.{Ptr}
use Rattle.mem_model.specs.declared.value.Value.{Value}
use Rattle.mem_model.specs.declared.value.Value.TheVariants.{Word, Address, Unset}
use Rattle.mem_model.specs.Memory.{Memory, object_at}
use Rattle.mem_model.specs.Pointers.{ptr_plus, is_live, size_at, is_offset, is_at_end, share_object, option_if, pointer_plus, pointer_minus, pointer_lt, pointer_le, pointer_eq, addresses_eq, is_null}
use Rattle.mem_model.specs.Related.{Names, IsPointerOf, IsValueOf, IsMemoryOf}
use Rattle.mem_model.specs.RelatedMemoryLaws.{SameAnswers}
use Rattle.mem_model.proofs.Pointers.{when-some, when-true, and-true}
use Rattle.mem_model.proofs.RelatedMemory.{meet, same_object}

module _ (f : Names) (m n : Memory) (h : IsMemoryOf f m n) where
  pub moves_correspond : (v w u : Value) (by : ℤ) → IsValueOf f v w → pointer_plus m v by ≡ Some u → (x : Value) × (pointer_plus n w by ≡ Some x) × IsValueOf f u x
  moves_correspond (Word k) w u by r e = absurd (cc)
  moves_correspond Unset w u by r e = absurd (cc)
  moves_correspond (Address p) w u by r e =
      let q = r.0 in
      let a = when-some (is_live m p && is_offset (p.offset +ℤ by) (size_at m p)) (Address (ptr_plus p by)) u e in
      let tests = and_parts (is_live m p) (is_offset (p.offset +ℤ by) (size_at m p)) a.0 in
      let met = meet f m n p r.0 h r.2 tests.0 in
      let offset : (r.0).offset +ℤ by ≡ p.offset +ℤ by = ap (λ z. z +ℤ by) r.2.offset in
      let inside : is_offset ((r.0).offset +ℤ by) (size_at n r.0) ≡ true = ap (λ z. is_offset z (size_at n r.0)) offset ∙ ap (is_offset (p.offset +ℤ by)) met.size ∙ tests.1 in
      let done : pointer_plus n (Address r.0) by ≡ Some (Address (ptr_plus r.0 by)) =
      when-true (is_live n r.0 && is_offset ((r.0).offset +ℤ by) (size_at n r.0)) (Address (ptr_plus r.0 by)) (Address (ptr_plus r.0 by)) (and-true (is_live n r.0) (is_offset ((r.0).offset +ℤ by) (size_at n r.0)) met.lives inside) refl in
      (Address (ptr_plus r.0 by), ap (λ z. pointer_plus n z by) r.1 ∙ done, subst (λ z. IsValueOf f z (Address (ptr_plus r.0 by))) a.1 (ptr_plus r.0 by, refl, record { object = r.2.object; offset = offset }))

  -- what two pointers into one object give
  in_one_object : {A : Type 0} (p q p1 q1 : Ptr) (x y a : A) → IsPointerOf f p p1 → IsPointerOf f q q1 → x ≡ y → option_if (share_object m p q) x ≡ Some a → option_if (share_object n p1 q1) y ≡ Some a
  in_one_object p q p1 q1 x y a pp qq same e =
      let b = when-some (share_object m p q) x a e in
      let tests = and_parts (is_live m p) (p.object == q.object) b.0 in
      let lq : is_live m q ≡ true = ap (λ o. (object_at m o).live) (sym (eqb-true p.object q.object tests.1)) ∙ tests.0 in
      let met = meet f m n p p1 h pp tests.0 in
      let objects = same_object f m n p q p1 q1 h pp qq tests.0 lq in
      when-true (share_object n p1 q1) y a (and-true (is_live n p1) (p1.object == q1.object) met.lives (objects ∙ tests.1)) (sym same ∙ b.1)

  minus_same : (v1 v2 w1 w2 : Value) (d : ℤ) → IsValueOf f v1 w1 → IsValueOf f v2 w2 → pointer_minus m v1 v2 ≡ Some d → pointer_minus n w1 w2 ≡ Some d
  minus_same (Address p) (Address q) w1 w2 d r s e =
      ap (λ z. pointer_minus n z w2) r.1 ∙ ap (pointer_minus n (Address r.0)) s.1
      ∙ in_one_object p q r.0 s.0 (p.offset -ℤ q.offset) ((r.0).offset -ℤ (s.0).offset) d r.2 s.2 (cc (r.2.offset, s.2.offset)) e
  minus_same (Address p) (Word k) w1 w2 d r s e = absurd (cc)
  minus_same (Address p) Unset w1 w2 d r s e = absurd (cc)
  minus_same (Word k) v2 w1 w2 d r s e = absurd (cc)
  minus_same Unset v2 w1 w2 d r s e = absurd (cc)

  lt_same : (v1 v2 w1 w2 : Value) (b : Bool) → IsValueOf f v1 w1 → IsValueOf f v2 w2 → pointer_lt m v1 v2 ≡ Some b → pointer_lt n w1 w2 ≡ Some b
  lt_same (Address p) (Address q) w1 w2 b r s e =
      ap (λ z. pointer_lt n z w2) r.1 ∙ ap (pointer_lt n (Address r.0)) s.1
      ∙ in_one_object p q r.0 s.0 (int_lt p.offset q.offset) (int_lt (r.0).offset (s.0).offset) b r.2 s.2 (cc (r.2.offset, s.2.offset)) e
  lt_same (Address p) (Word k) w1 w2 b r s e = absurd (cc)
  lt_same (Address p) Unset w1 w2 b r s e = absurd (cc)
  lt_same (Word k) v2 w1 w2 b r s e = absurd (cc)
  lt_same Unset v2 w1 w2 b r s e = absurd (cc)

  le_same : (v1 v2 w1 w2 : Value) (b : Bool) → IsValueOf f v1 w1 → IsValueOf f v2 w2 → pointer_le m v1 v2 ≡ Some b → pointer_le n w1 w2 ≡ Some b
  le_same (Address p) (Address q) w1 w2 b r s e =
      ap (λ z. pointer_le n z w2) r.1 ∙ ap (pointer_le n (Address r.0)) s.1
      ∙ in_one_object p q r.0 s.0 (int_le p.offset q.offset) (int_le (r.0).offset (s.0).offset) b r.2 s.2 (cc (r.2.offset, s.2.offset)) e
  le_same (Address p) (Word k) w1 w2 b r s e = absurd (cc)
  le_same (Address p) Unset w1 w2 b r s e = absurd (cc)
  le_same (Word k) v2 w1 w2 b r s e = absurd (cc)
  le_same Unset v2 w1 w2 b r s e = absurd (cc)

  null_same : (v w : Value) (b : Bool) → IsValueOf f v w → is_null m v ≡ Some b → is_null n w ≡ Some b
  null_same (Word zero) w b r e = ap (is_null n) r ∙ e
  null_same (Word (suc k)) w b r e = absurd (cc)
  null_same Unset w b r e = absurd (cc)
  null_same (Address p) w b r e =
      let a = when-some (is_live m p) false b e in
      let met = meet f m n p r.0 h r.2 a.0 in
      ap (is_null n) r.1 ∙ when-true (is_live n r.0) false b met.lives a.1

  -- two live addresses
  choice_is : (x : Bool) (o : Option Bool) (b : Bool) → (if x then o else None) ≡ Some b → (x ≡ true) × (o ≡ Some b)
  choice_is true o b e = (refl, e)
  choice_is false o b e = absurd (cc)

  addresses_same : (p q p1 q1 : Ptr) (b : Bool) → IsPointerOf f p p1 → IsPointerOf f q q1 → is_live m p ≡ true → is_live m q ≡ true → addresses_eq n p1 q1 ≡ addresses_eq m p q
  addresses_same p q p1 q1 b pp qq lp lq =
      let mp = meet f m n p p1 h pp lp in
      let mq = meet f m n q q1 h qq lq in
      let objects = same_object f m n p q p1 q1 h pp qq lp lq in
      let offsets : int_eq p1.offset q1.offset ≡ int_eq p.offset q.offset = cc (pp.offset, qq.offset) in
      let ends : (is_at_end n p1 || is_at_end n q1) ≡ (is_at_end m p || is_at_end m q) = cc (pp.offset, qq.offset, mp.size, mq.size) in
      ap (λ x. if x then Some (int_eq p1.offset q1.offset) else option_if (not (is_at_end n p1 || is_at_end n q1)) false) objects
      ∙ ap (λ x. if p.object == q.object then Some x else option_if (not (is_at_end n p1 || is_at_end n q1)) false) offsets
      ∙ ap (λ x. if p.object == q.object then Some (int_eq p.offset q.offset) else option_if (not x) false) ends

  eq_same : (v1 v2 w1 w2 : Value) (b : Bool) → IsValueOf f v1 w1 → IsValueOf f v2 w2 → pointer_eq m v1 v2 ≡ Some b → pointer_eq n w1 w2 ≡ Some b
  eq_same (Address p) (Address q) w1 w2 b r s e =
      let a = choice_is (is_live m p && is_live m q) (addresses_eq m p q) b e in
      let tests = and_parts (is_live m p) (is_live m q) a.0 in
      let mp = meet f m n p r.0 h r.2 tests.0 in
      let mq = meet f m n q s.0 h s.2 tests.1 in
      ap (λ z. pointer_eq n z w2) r.1 ∙ ap (pointer_eq n (Address r.0)) s.1
      ∙ ap (λ x. if x then addresses_eq n r.0 s.0 else None) (and-true (is_live n r.0) (is_live n s.0) mp.lives mq.lives)
      ∙ addresses_same p q r.0 s.0 b r.2 s.2 tests.0 tests.1 ∙ a.1
  eq_same (Address p) (Word zero) w1 w2 b r s e = ap (λ z. pointer_eq n z w2) r.1 ∙ ap (pointer_eq n (Address r.0)) s ∙ ap (is_null n) (sym r.1) ∙ null_same (Address p) w1 b r e
  eq_same (Address p) (Word (suc k)) w1 w2 b r s e = absurd (cc)
  eq_same (Address p) Unset w1 w2 b r s e = absurd (cc)
  eq_same (Word zero) v2 w1 w2 b r s e = ap (λ z. pointer_eq n z w2) r ∙ null_same v2 w2 b s e
  eq_same (Word (suc k)) v2 w1 w2 b r s e = absurd (cc)
  eq_same Unset v2 w1 w2 b r s e = absurd (cc)

  pub answers_correspond : (v1 v2 w1 w2 : Value) → IsValueOf f v1 w1 → IsValueOf f v2 w2 → SameAnswers m n v1 v2 w1 w2
  answers_correspond v1 v2 w1 w2 r s = record {
    minus = λ d e. minus_same v1 v2 w1 w2 d r s e;
    lt = λ b e. lt_same v1 v2 w1 w2 b r s e;
    le = λ b e. le_same v1 v2 w1 w2 b r s e;
    eq = λ b e. eq_same v1 v2 w1 w2 b r s e;
    null = λ b e. null_same v1 w1 b r e;
  }
