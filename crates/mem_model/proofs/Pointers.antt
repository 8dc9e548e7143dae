-- What the operators on pointers give.
use Rattle.std.proofs.Common.{◌≡◌, ℕ, zero, suc, Bool, true, false, length, Some, None, refl, sym, ap, ◌∙◌, subst, arith}
use Rattle.std.specs.Prelude.{◌==◌, ◌&&◌, ◌||◌, not, ℤ, pos, ◌+ℤ◌, ◌-ℤ◌, int_lt, int_le, if◌then◌else◌}
use Rattle.std.specs.Ordering.{int_eq}
use Rattle.std.proofs.lemmas.Int.{ints}
use Rattle.std.proofs.lemmas.Bool.{eqb-true, eq-eqb, and_parts}
use Rattle.mem_model.specs.declared.value.Ptr.{Ptr}
use Rattle.mem_model.specs.declared.value.Value.{Value}
use Rattle.mem_model.specs.declared.value.Value.TheVariants.{Word, Address, Unset}
use Rattle.mem_model.specs.Memory.{Memory, object_at}
use Rattle.mem_model.specs.Pointers.{ptr_plus, is_live, size_at, is_offset, is_at_end, share_object, option_if, pointer_plus, pointer_minus, pointer_lt, pointer_le, pointer_eq, addresses_eq, is_null}
use Rattle.mem_model.specs.Laws.{ChangesCells}
use Rattle.mem_model.specs.PointerLaws.{SamePointers}
use Rattle.mem_model.proofs.RowValues.{same_ptr}
use Rattle.mem_model.proofs.Changes.{live-kept, size-kept}

-- an answer that was given, and one where the test holds
pub when-some : {A : Type 0} (t : Bool) (x y : A) → option_if t x ≡ Some y → (t ≡ true) × (x ≡ y)
when-some true x y e = (refl, cc)
when-some false x y e = absurd (cc)

pub when-true : {A : Type 0} (t : Bool) (x y : A) → t ≡ true → x ≡ y → option_if t x ≡ Some y
when-true true x y e is = ap (λ z. Some z) is
when-true false x y e is = absurd (cc)

pub and-true : (a b : Bool) → a ≡ true → b ≡ true → (a && b) ≡ true
and-true true true e f = refl
and-true true false e f = absurd (cc)
and-true false b e f = absurd (cc)

abbrev at_offset : ℕ → ℤ → Ptr
at_offset o z = record { object = o; offset = z }

pub plus_twice : (m : Memory) (v u w : Value) (a b : ℤ) → pointer_plus m v a ≡ Some u → pointer_plus m u b ≡ Some w → pointer_plus m v (a +ℤ b) ≡ Some w
plus_twice m (Word n) u w a b e f = absurd (cc)
plus_twice m Unset u w a b e f = absurd (cc)
plus_twice m (Address p) u w a b e f =
    let h = when-some (is_live m p && is_offset (p.offset +ℤ a) (size_at m p)) (Address (ptr_plus p a)) u e in
    let g : pointer_plus m (Address (ptr_plus p a)) b ≡ Some w = subst (λ x. pointer_plus m x b ≡ Some w) (sym h.1) f in
    let sum : (p.offset +ℤ a) +ℤ b ≡ p.offset +ℤ (a +ℤ b) = omega (arith, ints) in
    subst (λ z. option_if (is_live m p && is_offset z (size_at m p)) (Address (at_offset p.object z)) ≡ Some w) sum g

pub minus_undoes_plus : (m : Memory) (v u : Value) (a : ℤ) → pointer_plus m v a ≡ Some u → pointer_minus m u v ≡ Some a
minus_undoes_plus m (Word n) u a e = absurd (cc)
minus_undoes_plus m Unset u a e = absurd (cc)
minus_undoes_plus m (Address p) u a e =
    let h = when-some (is_live m p && is_offset (p.offset +ℤ a) (size_at m p)) (Address (ptr_plus p a)) u e in
    let tests = and_parts (is_live m p) (is_offset (p.offset +ℤ a) (size_at m p)) h.0 in
    let distance : (p.offset +ℤ a) -ℤ p.offset ≡ a = omega (arith, ints) in
    subst (λ x. pointer_minus m x (Address p) ≡ Some a) h.1
    (when-true (is_live m p && p.object == p.object) ((p.offset +ℤ a) -ℤ p.offset) a (and-true (is_live m p) (p.object == p.object) tests.0 (eq-eqb p.object p.object refl)) distance)

-- the two pointers of a distance
there_again : (m : Memory) (p q : Ptr) (a : ℤ) → pointer_plus m (Address q) (pos 0) ≡ Some (Address q) → pointer_minus m (Address q) (Address p) ≡ Some a → pointer_plus m (Address p) a ≡ Some (Address q)
there_again m p q a stands e =
    let h = when-some (share_object m q p) (q.offset -ℤ p.offset) a e in
    let tests = and_parts (is_live m q) (q.object == p.object) h.0 in
    let same : q.object ≡ p.object = eqb-true q.object p.object tests.1 in
    let k = when-some (is_live m q && is_offset (q.offset +ℤ pos 0) (size_at m q)) (Address (ptr_plus q (pos 0))) (Address q) stands in
    let within = (and_parts (is_live m q) (is_offset (q.offset +ℤ pos 0) (size_at m q)) k.0).1 in
    let distance : q.offset -ℤ p.offset ≡ a = h.1 in
    let nought : q.offset +ℤ pos 0 ≡ q.offset = omega (arith, ints) in
    let sum : p.offset +ℤ a ≡ q.offset = omega (arith, ints) in
    let inside : is_offset (p.offset +ℤ a) (size_at m q) ≡ true = ap (λ z. is_offset z (size_at m q)) (sum ∙ sym nought) ∙ within in
    let answer : option_if (is_live m q && is_offset (p.offset +ℤ a) (size_at m q)) (Address (at_offset q.object (p.offset +ℤ a))) ≡ Some (Address q) =
    when-true (is_live m q && is_offset (p.offset +ℤ a) (size_at m q)) (Address (at_offset q.object (p.offset +ℤ a))) (Address q) (and-true (is_live m q) (is_offset (p.offset +ℤ a) (size_at m q)) tests.0 inside) (ap Address (same_ptr (at_offset q.object (p.offset +ℤ a)) q refl sum)) in
    subst (λ o. option_if ((object_at m o).live && is_offset (p.offset +ℤ a) (length (object_at m o).cells)) (Address (at_offset o (p.offset +ℤ a))) ≡ Some (Address q)) same answer

pub plus_undoes_minus : (m : Memory) (v u : Value) (a : ℤ) → pointer_plus m u (pos 0) ≡ Some u → pointer_minus m u v ≡ Some a → pointer_plus m v a ≡ Some u
plus_undoes_minus m (Address p) (Address q) a stands e = there_again m p q a stands e
plus_undoes_minus m (Address p) (Word n) a stands e = absurd (cc)
plus_undoes_minus m (Address p) Unset a stands e = absurd (cc)
plus_undoes_minus m (Word k) (Address q) a stands e = absurd (cc)
plus_undoes_minus m (Word k) (Word n) a stands e = absurd (cc)
plus_undoes_minus m (Word k) Unset a stands e = absurd (cc)
plus_undoes_minus m Unset (Address q) a stands e = absurd (cc)
plus_undoes_minus m Unset (Word n) a stands e = absurd (cc)
plus_undoes_minus m Unset Unset a stands e = absurd (cc)

module _ (m new : Memory) (id : ℕ) (changes : ChangesCells m new id) where
  live : (p : Ptr) → is_live new p ≡ is_live m p
  live p = live-kept m new id changes p.object

  size : (p : Ptr) → size_at new p ≡ size_at m p
  size p = size-kept m new id changes p.object

  plus-kept : (v : Value) (by : ℤ) → pointer_plus new v by ≡ pointer_plus m v by
  plus-kept (Address p) by =
      ap (λ l. option_if (l && is_offset (p.offset +ℤ by) (size_at new p)) (Address (ptr_plus p by))) (live p)
      ∙ ap (λ n. option_if (is_live m p && is_offset (p.offset +ℤ by) n) (Address (ptr_plus p by))) (size p)
  plus-kept (Word n) by = refl
  plus-kept Unset by = refl

  -- what two addresses of one object give
  in_one_object : {A : Type 0} (p q : Ptr) (x : A) → option_if (share_object new p q) x ≡ option_if (share_object m p q) x
  in_one_object p q x = ap (λ l. option_if (l && p.object == q.object) x) (live p)

  minus-kept : (v w : Value) → pointer_minus new v w ≡ pointer_minus m v w
  minus-kept (Address p) (Address q) = in_one_object p q (p.offset -ℤ q.offset)
  minus-kept (Address p) (Word n) = refl
  minus-kept (Address p) Unset = refl
  minus-kept (Word k) w = refl
  minus-kept Unset w = refl

  lt-kept : (v w : Value) → pointer_lt new v w ≡ pointer_lt m v w
  lt-kept (Address p) (Address q) = in_one_object p q (int_lt p.offset q.offset)
  lt-kept (Address p) (Word n) = refl
  lt-kept (Address p) Unset = refl
  lt-kept (Word k) w = refl
  lt-kept Unset w = refl

  le-kept : (v w : Value) → pointer_le new v w ≡ pointer_le m v w
  le-kept (Address p) (Address q) = in_one_object p q (int_le p.offset q.offset)
  le-kept (Address p) (Word n) = refl
  le-kept (Address p) Unset = refl
  le-kept (Word k) w = refl
  le-kept Unset w = refl

  null-kept : (v : Value) → is_null new v ≡ is_null m v
  null-kept (Address p) = ap (λ l. option_if l false) (live p)
  null-kept (Word zero) = refl
  null-kept (Word (suc n)) = refl
  null-kept Unset = refl

  addresses-kept : (p q : Ptr) → addresses_eq new p q ≡ addresses_eq m p q
  addresses-kept p q =
      ap (λ n. if p.object == q.object then Some (int_eq p.offset q.offset) else option_if (not (int_eq p.offset (pos n) || is_at_end new q)) false) (size p)
      ∙ ap (λ n. if p.object == q.object then Some (int_eq p.offset q.offset) else option_if (not (is_at_end m p || int_eq q.offset (pos n))) false) (size q)

  eq-kept : (v w : Value) → pointer_eq new v w ≡ pointer_eq m v w
  eq-kept (Address p) (Address q) =
      ap (λ l. if l && is_live new q then addresses_eq new p q else None) (live p)
      ∙ ap (λ l. if is_live m p && l then addresses_eq new p q else None) (live q)
      ∙ ap (λ x. if is_live m p && is_live m q then x else None) (addresses-kept p q)
  eq-kept (Address p) (Word zero) = null-kept (Address p)
  eq-kept (Address p) (Word (suc n)) = refl
  eq-kept (Address p) Unset = refl
  eq-kept (Word zero) w = null-kept w
  eq-kept (Word (suc k)) w = refl
  eq-kept Unset w = refl

  pub changes_keep_pointers : SamePointers m new
  changes_keep_pointers = record { plus = plus-kept; minus = minus-kept; lt = lt-kept; le = le-kept; eq = eq-kept; null = null-kept }
