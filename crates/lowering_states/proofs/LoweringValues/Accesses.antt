-- Tests of values, loads and stores in a memory that stands for another one.
use Rattle.std.proofs.Common.{◌≡◌, ◌⊎◌, ℕ, ◌+◌, ◌<◌, ◌≤◌, ℤ, pos, negsuc, ◌+ℤ◌, Bool, true, false, not, ◌&&◌, ◌==◌, nat_lt, Option, Some, None, Ok, option_map, refl, sym, ap, ◌∙◌, arith, inl, inr, lt-ltb}
use Rattle.std.specs.Prelude.{if◌then◌else◌}
use Rattle.std.proofs.lemmas.Bool.{cases_lt, ltb-true}
use Rattle.mem_model.specs.declared.value.Ptr.{Ptr}
use Rattle.mem_model.specs.declared.value.Value.{Value}
use Rattle.mem_model.specs.declared.value.Value.TheVariants.{Word, Address, Unset}
use Rattle.mem_model.specs.Memory.{Memory, is_within, load_at, store_at, IsStorable}
use Rattle.mem_model.specs.Pointers.{ptr_plus, is_live, size_at, is_offset, pointer_plus, is_null}
use Rattle.mem_model.specs.Related.{Names, IsPointerOf, IsValueOf, IsMemoryOf}
use Rattle.mem_model.proofs.Faults.{IsRange, read_free}
use Rattle.mem_model.proofs.Changes.{load_tells, store_at-ok}
use Rattle.mem_model.proofs.Pointers.{when-true, and-true}
use Rattle.mem_model.proofs.RelatedMemory.{not_false, loads_correspond, stores_correspond}
use Rattle.mem_model.proofs.RelatedPointers.{moves_correspond, answers_correspond}
use Rattle.bk_arithmetic.specs.declared.integer_type.IntegerType.{IntegerType}
use Rattle.bk_arithmetic.specs.declared.integer_type.IntegerType.TheVariants.{Char, UnsignedChar, Short, UnsignedShort, Int, UnsignedInt, Long, UnsignedLong}
use Rattle.bk_arithmetic.specs.IntegerTypes.{promote}
use Rattle.bk_arithmetic.specs.Words.{is_word}
use Rattle.suifvm_ir.specs.declared.types.VmType.TheVariants.{P64}
use Rattle.suifvm_ir.specs.declared.types.MemoryType.{MemoryType}
use Rattle.suifvm_meaning.specs.declared.answer.Answer.TheVariants.{Gives}
use Rattle.suifvm_meaning.specs.Operations as vm
use Rattle.lowering_code.specs.Registers.{register_type}
use Rattle.lowering_code.specs.Expressions.{plain_of}
use Rattle.lowering_states.specs.lowering_values.Laws.{IsMoved, load_result, MemoriesCorrespond}
use Rattle.lowering_states.proofs.LoweringValues.Integers.{promoted_word}
use Rattle.lowering_states.proofs.LoweringValues.Operators.{word_true}

-- ---- tests

holds_word : (t : IntegerType) (k : ℕ) → is_word (promote t) k ≡ true → vm.number_holds (Some (promote t)) (Word k) ≡ Some (not (k == 0))
holds_word t k w = ap (λ b. if b then Some (not (k == 0)) else None) w

words_hold : (n : Memory) (t : IntegerType) (k : ℕ) → is_word t k ≡ true → vm.value_holds n (register_type (plain_of t)) (Word k) ≡ Some (not (k == 0))
words_hold n Char k w = holds_word Char k (word_true (promote Char) k (promoted_word Char k w))
words_hold n UnsignedChar k w = holds_word UnsignedChar k (word_true (promote UnsignedChar) k (promoted_word UnsignedChar k w))
words_hold n Short k w = holds_word Short k (word_true (promote Short) k (promoted_word Short k w))
words_hold n UnsignedShort k w = holds_word UnsignedShort k (word_true (promote UnsignedShort) k (promoted_word UnsignedShort k w))
words_hold n Int k w = holds_word Int k (word_true (promote Int) k (promoted_word Int k w))
words_hold n UnsignedInt k w = holds_word UnsignedInt k (word_true (promote UnsignedInt) k (promoted_word UnsignedInt k w))
words_hold n Long k w = holds_word Long k (word_true (promote Long) k (promoted_word Long k w))
words_hold n UnsignedLong k w = holds_word UnsignedLong k (word_true (promote UnsignedLong) k (promoted_word UnsignedLong k w))

pointers_hold : (f : Names) (m n : Memory) → IsMemoryOf f m n → (p : Ptr) (w : Value) → is_live m p ≡ true → IsValueOf f (Address p) w → vm.value_holds n P64 w ≡ Some true
pointers_hold f m n h p w live rel =
    let null : is_null m (Address p) ≡ Some false = when-true (is_live m p) false false live refl in
    ap (option_map not) ((answers_correspond f m n h (Address p) (Address p) w w rel rel).null false null)

-- ---- a pointer that is accessed can be moved by nothing

-- an offset at which something is accessed
data IsInside (z : ℤ) (size : ℕ) : Type 0 where
  Inside : (k : ℕ) → z ≡ pos k → k ≤ size → IsInside z size

untrue : (t : Bool) → not t ≡ false → t ≡ true
untrue true e = refl
untrue false e = absurd (cc)

within_range : (z : ℤ) (width size : ℕ) → is_within z width size ≡ true → IsInside z size
within_range (negsuc k) width size e = absurd (cc)
within_range (pos k) width size e = by_test (nat_lt size (k + width)) refl
  where
    by_test : (t : Bool) → nat_lt size (k + width) ≡ t → IsInside (pos k) size
    by_test true e1 = let clash : false ≡ true = sym (ap not e1) ∙ e in absurd (cc)
    by_test false e1 = Inside k refl (fits (cases_lt size (k + width)))
      where
        fits : (size < k + width) ⊎ (k + width ≤ size) → k ≤ size
        fits (inl lt) = let clash : true ≡ false = sym (lt-ltb size (k + width) lt) ∙ e1 in absurd (cc)
        fits (inr le) = omega (arith, le)

inside_range : (m : Memory) (p : Ptr) (width : ℕ) → 0 < width → IsRange m p width → IsInside p.offset (size_at m p)
inside_range m p width some r =
    let one : nat_lt 0 width ≡ true = lt-ltb 0 width some in
    let whole : (nat_lt 0 width && not (is_within p.offset width (size_at m p))) ≡ false = r.within in
    let part : not (is_within p.offset width (size_at m p)) ≡ false = sym (ap (λ t. t && not (is_within p.offset width (size_at m p))) one) ∙ whole in
    within_range p.offset width (size_at m p) (untrue (is_within p.offset width (size_at m p)) part)

offset_test : (size k : ℕ) → k ≤ size → is_offset (pos k) size ≡ true
offset_test size k le = by_test (nat_lt size k) refl
  where
    by_test : (t : Bool) → nat_lt size k ≡ t → not t ≡ true
    by_test false e = refl
    by_test true e = let lt : size < k = ltb-true size k e in absurd (omega (arith, lt, le))

stays : (m : Memory) (p : Ptr) → is_live m p ≡ true → IsInside p.offset (size_at m p) → pointer_plus m (Address p) (pos 0) ≡ Some (Address p)
stays m p live (Inside k e le) =
    let sum : p.offset +ℤ pos 0 ≡ p.offset = ap (λ z. z +ℤ pos 0) e ∙ ap pos (plus_nothing k) ∙ sym e in
    let offset : is_offset (p.offset +ℤ pos 0) (size_at m p) ≡ true = ap (λ z. is_offset z (size_at m p)) (sum ∙ e) ∙ offset_test (size_at m p) k le in
    when-true (is_live m p && is_offset (p.offset +ℤ pos 0) (size_at m p)) (Address (ptr_plus p (pos 0))) (Address p)
    (and-true (is_live m p) (is_offset (p.offset +ℤ pos 0) (size_at m p)) live offset)
    (ap (λ z. Address (record { object = p.object; offset = z })) sum)
  where
    plus_nothing : (k : ℕ) → k + 0 ≡ k
    plus_nothing k = omega arith

-- ---- what stands for a pointer that was moved

module _ (f : Names) (m n : Memory) (h : IsMemoryOf f m n) where
  reach_moved : (base w : Value) (plus : ℕ) (p : Ptr) → IsValueOf f base w → pointer_plus m base (pos plus) ≡ Some (Address p)
      → (q : Ptr) × (pointer_plus n w (pos plus) ≡ Some (Address q)) × IsPointerOf f p q
  reach_moved base w plus p rel moved =
      let x = moves_correspond f m n h base w (Address p) (pos plus) rel moved in
      ((x.2).0, x.1 ∙ ap Some (x.2).1, (x.2).2)

  pub reach : (base w : Value) (plus : ℕ) (p : Ptr) → IsValueOf f base w → IsMoved m base plus (Address p) → pointer_plus m (Address p) (pos 0) ≡ Some (Address p)
      → (q : Ptr) × (pointer_plus n w (pos plus) ≡ Some (Address q)) × IsPointerOf f p q
  reach base w plus p rel (inl same) stay =
      let moved : pointer_plus m base (pos plus) ≡ Some (Address p) = ap (λ k. pointer_plus m base (pos k)) same.0 ∙ ap (λ b. pointer_plus m b (pos 0)) (sym same.1) ∙ stay in
      reach_moved base w plus p rel moved
  reach base w plus p rel (inr moved) stay = reach_moved base w plus p rel moved

  load_there : (ty : MemoryType) (base w : Value) (plus : ℕ) (p : Ptr) (v : Value) → IsValueOf f base w → IsMoved m base plus (Address p) → 0 < vm.access_bytes (vm.memory_integer ty)
      → load_at m p (vm.access_bytes (vm.memory_integer ty)) (vm.is_pointer_access (vm.memory_integer ty)) ≡ Ok v
      → (x : Value) × (vm.loaded_answer n ty w (pos plus) ≡ Gives (load_result ty x)) × IsValueOf f v x
  load_there ty base w plus p v rel moved some e =
      let i = vm.memory_integer ty in
      let told = load_tells m p (vm.access_bytes i) (vm.is_pointer_access i) v e in
      let range = read_free m p (vm.access_bytes i) (vm.access_bytes i) told.free in
      let live : is_live m p ≡ true = not_false (is_live m p) range.live in
      let to = reach base w plus p rel moved (stays m p live (inside_range m p (vm.access_bytes i) some range)) in
      let got = loads_correspond f m n p to.0 (vm.access_bytes i) (vm.is_pointer_access i) v h to.2 e in
      (got.0, ap (vm.load_through n i) to.1 ∙ ap (vm.load_answer i) got.1, got.2)

  -- a value that may be stored
  storable : (ty : MemoryType) (v : Value) → vm.is_storable (vm.memory_integer ty) v ≡ true → IsStorable (vm.access_bytes (vm.memory_integer ty)) v
  storable ty v e = by_type (vm.memory_integer ty) v e
    where
      by_type : (i : Option IntegerType) (v : Value) → vm.is_storable i v ≡ true → IsStorable (vm.access_bytes i) v
      by_type i (Word k) e = tt
      by_type None (Address p) e = refl
      by_type (Some t) (Address p) e = absurd (cc)
      by_type i Unset e = absurd (unset i e)
        where
          unset : (i : Option IntegerType) → vm.is_storable i Unset ≡ true → ⊥
          unset None e = cc
          unset (Some t) e = cc

  same_storable : (i : Option IntegerType) (v a : Value) → IsValueOf f v a → vm.is_storable i v ≡ true → vm.is_storable i a ≡ true
  same_storable None (Word k) a r e = ap (vm.is_storable None) r
  same_storable (Some t) (Word k) a r e = ap (vm.is_storable (Some t)) r
  same_storable None (Address p) a r e = ap (vm.is_storable None) r.1
  same_storable (Some t) (Address p) a r e = absurd (cc)
  same_storable None Unset a r e = absurd (cc)
  same_storable (Some t) Unset a r e = absurd (cc)

  store_there : (ty : MemoryType) (base w : Value) (plus : ℕ) (p : Ptr) (v a : Value) (m1 : Memory) → IsValueOf f base w → IsMoved m base plus (Address p) → 0 < vm.access_bytes (vm.memory_integer ty)
      → vm.is_storable (vm.memory_integer ty) v ≡ true → IsValueOf f v a → store_at m p (vm.access_bytes (vm.memory_integer ty)) v ≡ Ok m1
      → (n1 : Memory) × (vm.stored_memory n ty w (pos plus) a ≡ Some n1) × IsMemoryOf f m1 n1
  store_there ty base w plus p v a m1 rel moved some fit va e =
      let i = vm.memory_integer ty in
      let ok = store_at-ok m m1 p (vm.access_bytes i) v e in
      let live : is_live m p ≡ true = not_false (is_live m p) ok.first in
      let to = reach base w plus p rel moved (stays m p live (inside_range m p (vm.access_bytes i) some (record { live = ok.first; within = ok.second }))) in
      let got = stores_correspond f m n m1 p to.0 (vm.access_bytes i) v a h to.2 va (storable ty v fit) e in (
        got.0,
        ap (λ x. vm.store_through n i x a) to.1
            ∙ ap (λ t. if t then vm.ok_of (store_at n to.0 (vm.access_bytes i) a) else None) (same_storable i v a va fit) ∙ ap vm.ok_of got.1,
        got.2,
      )

pub memories_correspond : MemoriesCorrespond
memories_correspond f m n h = (
  record { words = λ t k w. words_hold n t k w; null = refl; pointers = λ p w live rel. pointers_hold f m n h p w live rel },
  record { loads = load_there f m n h; stores = store_there f m n h },
)
