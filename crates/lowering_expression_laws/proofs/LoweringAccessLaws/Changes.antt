-- What a write leaves of the memories of both sides.
use Rattle.std.proofs.Common.{◌≡◌, ℕ, ℤ, pos, ◌+ℤ◌, Bool, true, false, ◌&&◌, Option, Some, None, Result, Ok, Err, length, refl, sym, ap, ◌∙◌, subst, arith, inl, inr}
use Rattle.std.specs.Prelude.{if◌then◌else◌}
use Rattle.std.proofs.lemmas.Bool.{cases_eq, and_parts}
use Rattle.mem_model.specs.declared.value.Ptr.{Ptr}
use Rattle.mem_model.specs.declared.value.Value.{Value}
use Rattle.mem_model.specs.declared.value.Value.TheVariants.{Word, Address, Unset}
use Rattle.mem_model.specs.Memory.{Memory, Object, object_at, store_at, IsStorable}
use Rattle.mem_model.specs.Cells.{cells_of}
use Rattle.mem_model.specs.Laws.{ChangesCells}
use Rattle.mem_model.specs.World.{with_memory}
use Rattle.mem_model.specs.Pointers.{ptr_plus, is_offset, pointer_plus}
use Rattle.mem_model.specs.Related.{Names, IsLocal}
use Rattle.mem_model.proofs.Changes.{store_at-ok, outside-stands, length-cells_of, changes_cells}
use Rattle.mem_model.proofs.Pointers.{when-some, when-true, and-true}
use Rattle.bk_arithmetic.specs.declared.integer_type.IntegerType.{IntegerType}
use Rattle.c_semantics.specs.Runs.{CallState, in_world}
use Rattle.suifvm_meaning.specs.Operations as vm
use Rattle.lowering_states.specs.States.{After, is_live, size_in}
use Rattle.lowering_states.specs.lowering_values.Laws.{IsMoved}
use Rattle.lowering_expression_laws.specs.Parts.{Setting, Aft}

pub changes_of : (m m1 : Memory) (q : Ptr) (width : ℕ) (v : Value) → IsStorable width v → store_at m q width v ≡ Ok m1 → ChangesCells m m1 q.object
changes_of m m1 q width v fit e =
    let ok = store_at-ok m m1 q width v e in
    let stands = outside-stands m q (cells_of width v) width (length-cells_of width v fit) ok.second in
    subst (λ z. ChangesCells m z q.object) ok.is (changes_cells m q (cells_of width v) ok.first stands)

pub lives_after : (m m1 : Memory) (id : ℕ) → ChangesCells m m1 id → (o : ℕ) → is_live m1 o ≡ is_live m o
lives_after m m1 id h o = elim (cases_eq o id) [
  | inl same ↦ ap (is_live m1) same ∙ h.live ∙ ap (is_live m) (sym same)
  | inr ne ↦ ap (λ (x : Object). x.live) (h.others o ne)
]

pub sizes_after : (m m1 : Memory) (id : ℕ) → ChangesCells m m1 id → (o : ℕ) → size_in m1 o ≡ size_in m o
sizes_after m m1 id h o = elim (cases_eq o id) [
  | inl same ↦ ap (size_in m1) same ∙ h.size ∙ ap (size_in m) (sym same)
  | inr ne ↦ ap (λ (x : Object). length x.cells) (h.others o ne)
]

pub locals_after : (m m1 : Memory) (id : ℕ) → ChangesCells m m1 id → (q size : ℕ) → IsLocal m q size → IsLocal m1 q size
locals_after m m1 id h q size l = elim (cases_eq q id) [
  | inl same ↦ record {
    lives = ap (λ z. (object_at m1 z).live) same ∙ h.live ∙ ap (λ z. (object_at m z).live) (sym same) ∙ l.lives;
    writable = ap (λ z. (object_at m1 z).writable) same ∙ h.writable ∙ ap (λ z. (object_at m z).writable) (sym same) ∙ l.writable;
    size_is = ap (λ z. length (object_at m1 z).cells) same ∙ h.size ∙ ap (λ z. length (object_at m z).cells) (sym same) ∙ l.size_is;
  }
  | inr ne ↦ record {
    lives = ap (λ (x : Object). x.live) (h.others q ne) ∙ l.lives;
    writable = ap (λ (x : Object). x.writable) (h.others q ne) ∙ l.writable;
    size_is = ap (λ (x : Object). length x.cells) (h.others q ne) ∙ l.size_is;
  }
]

-- what a store of the code was
pub data StoreIs (n n1 : Memory) : Type 0 where
  Stores : (id : ℕ) → ChangesCells n n1 id → StoreIs n n1

pub ok_is : (x : Result Memory _) (n1 : Memory) → vm.ok_of x ≡ Some n1 → x ≡ Ok n1
ok_is (Ok y) n1 e = let same : y ≡ n1 = cc in ap Ok same
ok_is (Err y) n1 e = absurd (cc)

pub storable : (ty : Option IntegerType) (v : Value) → vm.is_storable ty v ≡ true → IsStorable (vm.access_bytes ty) v
storable ty (Word k) e = tt
storable None (Address q) e = refl
storable (Some t) (Address q) e = absurd (cc)
storable None Unset e = absurd (cc)
storable (Some t) Unset e = absurd (cc)

pub store_is : (n n1 : Memory) (ty : Option IntegerType) (x : Option Value) (v : Value) → vm.store_through n ty x v ≡ Some n1 → StoreIs n n1
store_is n n1 ty None v e = absurd (cc)
store_is n n1 ty (Some (Word k)) v e = absurd (cc)
store_is n n1 ty (Some Unset) v e = absurd (cc)
store_is n n1 ty (Some (Address q)) v e = by_test (vm.is_storable ty v) refl e
  where
    by_test : (t : Bool) → vm.is_storable ty v ≡ t → (if t then vm.ok_of (store_at n q (vm.access_bytes ty) v) else None) ≡ Some n1 → StoreIs n n1
    by_test true et h = Stores q.object (changes_of n n1 q (vm.access_bytes ty) v (storable ty v et) (ok_is (store_at n q (vm.access_bytes ty) v) n1 h))
    by_test false et h = absurd (cc)

-- a pointer is moved as before where objects live as before, in their sizes
pub pointer_stays : (f g : Names) (m n m1 n1 : Memory) (t t1 : ℕ) (b u : Value) (z : ℤ) → After f m n t g m1 n1 t1 → pointer_plus m b z ≡ Some u → pointer_plus m1 b z ≡ Some u
pointer_stays f g m n m1 n1 t t1 (Word k) u z x e = absurd (cc)
pointer_stays f g m n m1 n1 t t1 Unset u z x e = absurd (cc)
pointer_stays f g m n m1 n1 t t1 (Address q) u z x e =
    let h = when-some (is_live m q.object && is_offset (q.offset +ℤ z) (size_in m q.object)) (Address (ptr_plus q z)) u e in
    let tests = and_parts (is_live m q.object) (is_offset (q.offset +ℤ z) (size_in m q.object)) h.0 in
    when-true (is_live m1 q.object && is_offset (q.offset +ℤ z) (size_in m1 q.object)) (Address (ptr_plus q z)) u
    (and-true (is_live m1 q.object) (is_offset (q.offset +ℤ z) (size_in m1 q.object)) (x.lives q.object ∙ tests.0) (ap (is_offset (q.offset +ℤ z)) (x.sizes q.object tests.0) ∙ tests.1)) h.1

pub moved_stays : (f g : Names) (m n m1 n1 : Memory) (t t1 : ℕ) (b u : Value) (k : ℕ) → After f m n t g m1 n1 t1 → IsMoved m b k u → IsMoved m1 b k u
moved_stays f g m n m1 n1 t t1 b u k x (inl h) = inl h
moved_stays f g m n m1 n1 t t1 b u k x (inr h) = inr (pointer_stays f g m n m1 n1 t t1 b u (pos k) x h)

-- both memories were written within one object
pub after_write : (c : Setting) (m n : Memory) (f : Names) (s : CallState) (m1 : Memory) (id other : ℕ) → ChangesCells s.world.outer.memory m1 id → ChangesCells m n other → Aft c f s m f (in_world s (with_memory s.world m1)) n
after_write c m n f s m1 id other ch cn = record {
  names = λ o k e. e;
  lives = lives_after s.world.outer.memory m1 id ch;
  sizes = λ o l. sizes_after s.world.outer.memory m1 id ch o;
  locals = locals_after m n other cn;
  turned = omega arith;
}
