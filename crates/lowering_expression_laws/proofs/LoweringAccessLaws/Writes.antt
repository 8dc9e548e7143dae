-- The code of writes.
use Rattle.std.proofs.Common.{◌≡◌, ℕ, ◌<◌, pos, List, [], Bool, true, false, Some, None, Ok, refl, sym, ap, ◌∙◌, subst, arith, inl, inr}
use Rattle.std.specs.Prelude.{if◌then◌else◌, slice_get}
use Rattle.mem_model.specs.declared.value.Ptr.{Ptr}
use Rattle.mem_model.specs.declared.value.Value.{Value}
use Rattle.mem_model.specs.declared.value.Value.TheVariants.{Word, Address, Unset}
use Rattle.mem_model.specs.Memory.{Memory, store_at, copy_at, overlaps}
use Rattle.mem_model.specs.Laws.{ChangesCells}
use Rattle.mem_model.specs.World.{with_memory, outer_with_memory}
use Rattle.mem_model.specs.Pointers.{pointer_plus}
use Rattle.mem_model.specs.Related.{Names, IsValueOf, IsPointerOf}
use Rattle.mem_model.proofs.Changes.{copy_changes}
use Rattle.mem_model.proofs.RelatedMemory.{copies_correspond}
use Rattle.bk_arithmetic.specs.declared.integer_type.IntegerType.{IntegerType}
use Rattle.bk_arithmetic.specs.declared.integer_type.IntegerType.TheVariants as i
use Rattle.bk_arithmetic.specs.IntegerTypes.{bytes}
use Rattle.c_typed_tree.specs.Types.{PlainType, Pointer, Struct}
use Rattle.c_typed_tree.specs.Layout.{size_of, align_of}
use Rattle.c_semantics.specs.Reasons.{UsesNoValue, OverlapsItself}
use Rattle.c_semantics.specs.Runs.{CallState, Run, in_world, use_value, undefined_behaviour, set_memory, ◌>>=◌}
use Rattle.c_semantics.specs.Objects as obj
use Rattle.c_semantics.specs.Objects.{Scope, access, write_at}
use Rattle.suifvm_ir.specs.declared.types.MemoryType.{MemoryType}
use Rattle.suifvm_ir.specs.declared.insn.VmInsn.TheVariants as n
use Rattle.suifvm_ir.specs.Programs.{alignment_bytes}
use Rattle.suifvm_meaning.specs.Operations as vm
use Rattle.suifvm_meaning.specs.Effect.{changes}
use Rattle.suifvm_meaning.specs.Behave.{Registers}
use Rattle.lowering_code.specs.declared.item.CodeItem.{CodeItem}
use Rattle.lowering_code.specs.Registers.{memory_type}
use Rattle.lowering_code.specs.Expressions.{plain_of, cap_offset, alignment_of, store_code, copy_code}
use Rattle.lowering_states.specs.Places.{CodePlace}
use Rattle.lowering_states.specs.Runs.{CodeObservation, NotDefined, finish}
use Rattle.lowering_states.specs.model.Opens.{opens}
use Rattle.lowering_states.specs.States.{IsHeld}
use Rattle.lowering_states.proofs.Steps.{meets_anything, meets_same, plain, used_meets, access_meets}
use Rattle.lowering_states.proofs.States.{fits_after}
use Rattle.lowering_states.specs.lowering_values.Laws.{IsMoved}
use Rattle.lowering_states.proofs.LoweringValues.Integers.{memory-plain}
use Rattle.lowering_states.proofs.LoweringValues.Accesses.{memories_correspond}
use Rattle.lowering_states.proofs.LoweringExpressionPlaces.Behind.{at_plain}
use Rattle.lowering_expression_laws.specs.Parts.{Setting, EndsSo, Stands, Fit, Aft}
use Rattle.lowering_expression_laws.specs.Laws.{IsScalarType}
use Rattle.lowering_expression_laws.proofs.Forms.{bound_run}
use Rattle.lowering_expression_laws.specs.lowering_access_laws.Laws.{IsAlignment, IsWholeStruct, Leaves, WritesMeet}
use Rattle.lowering_expression_laws.proofs.LoweringAccessLaws.Changes.{StoreIs, Stores, changes_of, storable, store_is, after_write}

-- a value that may be stored as a number, or as a pointer
number_storable : (t : IntegerType) (v : Value) → IsHeld (plain_of t) v → vm.is_set v ≡ true → vm.is_storable (Some t) v ≡ true
number_storable t (Word k) h x = refl
number_storable t (Address k) h x = absurd h
number_storable t Unset h x = absurd (cc)

pointer_storable : (v : Value) → vm.is_set v ≡ true → vm.is_storable None v ≡ true
pointer_storable (Word k) x = refl
pointer_storable (Address k) x = refl
pointer_storable Unset x = absurd (cc)

some_bytes : (t : IntegerType) → 0 < bytes t
some_bytes i.Char = omega arith
some_bytes i.UnsignedChar = omega arith
some_bytes i.Short = omega arith
some_bytes i.UnsignedShort = omega arith
some_bytes i.Int = omega arith
some_bytes i.UnsignedInt = omega arith
some_bytes i.Long = omega arith
some_bytes i.UnsignedLong = omega arith

module _ (c : Setting) (found : slice_get c.functions c.number ≡ Some c.code) where
  -- ---- scalars

  module _ (ty : PlainType) (pointer plus value : ℕ) (rest : List CodeItem) (heads : List ℕ) (q : CodePlace) (base at v : Value) (f : Names) (scope : Scope) (r : Registers) (s : CallState) (m : Memory) (K : Unit {0} → CallState → CodeObservation)
      (stands : Stands c heads q (store_code ty pointer plus value rest)) (fit : Fit c f scope r s m) (held : IsHeld ty v) (rel : IsValueOf f v (r value)) (base_rel : IsValueOf f base (r pointer)) (moved : IsMoved s.world.outer.memory base plus at)
      (next : Leaves c heads rest q f scope r s m K) where
    abbrev mt : MemoryType
    mt = memory_type ty

    -- the store was done on both sides
    store_meets : (p : Ptr) (m1 : Memory) → at ≡ Address p → 0 < vm.access_bytes (vm.memory_integer mt) → vm.is_storable (vm.memory_integer mt) v ≡ true → store_at s.world.outer.memory p (vm.access_bytes (vm.memory_integer mt)) v ≡ Ok m1
        → EndsSo c (K tt (in_world s (with_memory s.world m1))) q r s.world m
    store_meets p m1 is some fits e =
        let got = (memories_correspond f s.world.outer.memory m fit.memory).1.stores mt base (r pointer) plus p v (r value) m1 base_rel (subst (λ z. IsMoved s.world.outer.memory base plus z) is moved) some fits rel e in
        let t : CallState = in_world s (with_memory s.world m1) in
        let ch = changes_of s.world.outer.memory m1 p (vm.access_bytes (vm.memory_integer mt)) v (storable (vm.memory_integer mt) v fits) e in
        let aft : Aft c f s m f t got.0 = by_store got.0 (store_is m got.0 (vm.memory_integer mt) (pointer_plus m (r pointer) (pos plus)) (r value) got.1) ch in
        plain c.rooms c.functions c.number c.code found c.own c.waiting (n.Store mt pointer (pos plus) value) q r s.world m [] got.0 stands.has.0 refl
        (ap (λ z. changes z (outer_with_memory s.world.outer m)) got.1)
        (next t got.0 (at_plain c.code.blocks c.last c.end _ stands) aft (fits_after aft got.2 fit.bytes fit))
      where
        by_store : (n1 : Memory) → StoreIs m n1 → ChangesCells s.world.outer.memory m1 p.object → Aft c f s m f (in_world s (with_memory s.world m1)) n1
        by_store n1 (Stores id cn) ch = after_write c m n1 f s m1 p.object id ch cn

    -- a value is not stored where there is no address
    nowhere : (at0 v0 : Value) → ((p : Ptr) → at0 ≡ Address p → ⊥) → vm.is_set v0 ≡ true → (t0 : IntegerType) → EndsSo c (finish (write_at c.structs (plain_of t0) at0 v0 s) K) q r s.world m
    unfolding opens
    nowhere (Address p) v0 never set t0 = absurd (never p refl)
    nowhere (Word k) (Word j) never set t0 = meets_anything c.rooms c.functions refl
    nowhere (Word k) (Address j) never set t0 = meets_anything c.rooms c.functions refl
    nowhere (Word k) Unset never set t0 = absurd (cc)
    nowhere Unset (Word j) never set t0 = meets_anything c.rooms c.functions refl
    nowhere Unset (Address j) never set t0 = meets_anything c.rooms c.functions refl
    nowhere Unset Unset never set t0 = absurd (cc)

    nowhere_pointer : (at0 v0 : Value) → ((p : Ptr) → at0 ≡ Address p → ⊥) → vm.is_set v0 ≡ true → (target : PlainType) → EndsSo c (finish (write_at c.structs (Pointer target) at0 v0 s) K) q r s.world m
    unfolding opens
    nowhere_pointer (Address p) v0 never set target = absurd (never p refl)
    nowhere_pointer (Word k) (Word j) never set target = meets_anything c.rooms c.functions refl
    nowhere_pointer (Word k) (Address j) never set target = meets_anything c.rooms c.functions refl
    nowhere_pointer (Word k) Unset never set target = absurd (cc)
    nowhere_pointer Unset (Word j) never set target = meets_anything c.rooms c.functions refl
    nowhere_pointer Unset (Address j) never set target = meets_anything c.rooms c.functions refl
    nowhere_pointer Unset Unset never set target = absurd (cc)

    integer_store : (t0 : IntegerType) (at0 : Value) → at ≡ at0 → ty ≡ plain_of t0 → vm.is_set v ≡ true → EndsSo c (finish (write_at c.structs (plain_of t0) at0 v s) K) q r s.world m
    unfolding opens
    integer_store t0 (Word k) is e set = nowhere (Word k) v (λ p same. cc) set t0
    integer_store t0 Unset is e set = nowhere Unset v (λ p same. cc) set t0
    integer_store t0 (Address p) is e set =
        let same : vm.memory_integer mt ≡ Some t0 = ap (λ z. vm.memory_integer (memory_type z)) e ∙ memory-plain t0 in
        bound_run c found (use_value UsesNoValue v s) (obj.store (bytes t0) (Address p)) K q r s.world m
        (used_meets c.rooms c.functions UsesNoValue v s (λ v1 u. finish (obj.store (bytes t0) (Address p) v1 u) K) _ (λ set1.
        bound_run c found (access (store_at s.world.outer.memory p (bytes t0) v) s) set_memory K q r s.world m
        (access_meets c.rooms c.functions (store_at s.world.outer.memory p (bytes t0) v) s (λ m1 u. K tt (in_world u (with_memory u.world m1))) _ (λ m1 em.
        store_meets p m1 is (subst (λ z. 0 < vm.access_bytes z) (sym same) (some_bytes t0)) (subst (λ z. vm.is_storable z v ≡ true) (sym same) (number_storable t0 v (subst (λ z. IsHeld z v) e held) set))
        (subst (λ z. store_at s.world.outer.memory p (vm.access_bytes z) v ≡ Ok m1) (sym same) em)))))

    pointer_store : (target : PlainType) (at0 : Value) → at ≡ at0 → ty ≡ Pointer target → vm.is_set v ≡ true → EndsSo c (finish (write_at c.structs (Pointer target) at0 v s) K) q r s.world m
    unfolding opens
    pointer_store target (Word k) is e set = nowhere_pointer (Word k) v (λ p same. cc) set target
    pointer_store target Unset is e set = nowhere_pointer Unset v (λ p same. cc) set target
    pointer_store target (Address p) is e set =
        let same : vm.memory_integer mt ≡ None = ap (λ z. vm.memory_integer (memory_type z)) e in
        bound_run c found (use_value UsesNoValue v s) (obj.store 8 (Address p)) K q r s.world m
        (used_meets c.rooms c.functions UsesNoValue v s (λ v1 u. finish (obj.store 8 (Address p) v1 u) K) _ (λ set1.
        bound_run c found (access (store_at s.world.outer.memory p 8 v) s) set_memory K q r s.world m
        (access_meets c.rooms c.functions (store_at s.world.outer.memory p 8 v) s (λ m1 u. K tt (in_world u (with_memory u.world m1))) _ (λ m1 em.
        store_meets p m1 is (subst (λ z. 0 < vm.access_bytes z) (sym same) (omega arith)) (subst (λ z. vm.is_storable z v ≡ true) (sym same) (pointer_storable v set))
        (subst (λ z. store_at s.world.outer.memory p (vm.access_bytes z) v ≡ Ok m1) (sym same) em)))))

    unset_write : (ty0 : PlainType) (at0 v0 : Value) → IsScalarType ty0 → vm.is_set v0 ≡ false → finish (write_at c.structs ty0 at0 v0 s) K ≡ NotDefined
    unfolding opens
    unset_write ty0 at0 (Word k) scalar e = absurd (cc)
    unset_write ty0 at0 (Address k) scalar e = absurd (cc)
    unset_write ty0 at0 Unset (inl x) e = ap (λ z. finish (write_at c.structs z at0 Unset s) K) x.1
    unset_write ty0 at0 Unset (inr x) e = ap (λ z. finish (write_at c.structs z at0 Unset s) K) x.1

    scalar_written : IsScalarType ty → (x : Bool) → vm.is_set v ≡ x → EndsSo c (finish (write_at c.structs ty at v s) K) q r s.world m
    scalar_written scalar false e = meets_anything c.rooms c.functions (unset_write ty at v scalar e)
    scalar_written (inl x) true e = meets_same c.rooms c.functions (ap (λ z. finish (write_at c.structs z at v s) K) x.1) (integer_store x.0 at refl x.1 e)
    scalar_written (inr x) true e = meets_same c.rooms c.functions (ap (λ z. finish (write_at c.structs z at v s) K) x.1) (pointer_store x.0 at refl x.1 e)

  -- ---- structs

  module _ (number : ℕ) (whole : IsWholeStruct c number) (to from : ℕ) (rest : List CodeItem) (heads : List ℕ) (q : CodePlace) (f : Names) (scope : Scope) (r : Registers) (s : CallState) (m : Memory) (K : Unit {0} → CallState → CodeObservation)
      (stands : Stands c heads q (copy_code c.structs to from (Struct number) rest)) (fit : Fit c f scope r s m) (next : Leaves c heads rest q f scope r s m K) where
    abbrev size : ℕ
    size = size_of c.structs (Struct number)

    abbrev align : ℕ
    align = align_of c.structs (Struct number)

    same_size : cap_offset size ≡ size
    same_size = let small = whole.size in omega (arith, small)

    same_align : (a : ℕ) → IsAlignment a → alignment_bytes (alignment_of a) ≡ a
    same_align a (inl e) = subst (λ z. alignment_bytes (alignment_of z) ≡ z) (sym e) refl
    same_align a (inr (inl e)) = subst (λ z. alignment_bytes (alignment_of z) ≡ z) (sym e) refl
    same_align a (inr (inr (inl e))) = subst (λ z. alignment_bytes (alignment_of z) ≡ z) (sym e) refl
    same_align a (inr (inr (inr e))) = subst (λ z. alignment_bytes (alignment_of z) ≡ z) (sym e) refl

    -- the copy was done on both sides
    copy_meets : (p p1 : Ptr) → (t : (t : Ptr) × (r to ≡ Address t) × IsPointerOf f p t) → (u : (u : Ptr) × (r from ≡ Address u) × IsPointerOf f p1 u) → (m1 : Memory) → copy_at s.world.outer.memory p p1 size align ≡ Ok m1
        → EndsSo c (K tt (in_world s (with_memory s.world m1))) q r s.world m
    copy_meets p p1 t u m1 e =
        let got = copies_correspond f s.world.outer.memory m m1 p p1 t.0 u.0 size align fit.memory t.2 u.2 e in
        let aft : Aft c f s m f (in_world s (with_memory s.world m1)) got.0 = after_write c m got.0 f s m1 p.object t.0.object (copy_changes s.world.outer.memory m1 p p1 size align e) (copy_changes m got.0 t.0 u.0 size align got.1) in
        let done : vm.copied_memory m (r to) (r from) (cap_offset size) (alignment_bytes (alignment_of align)) ≡ Some got.0 =
        ap (λ z. vm.copied_memory m z (r from) (cap_offset size) (alignment_bytes (alignment_of align))) t.1
        ∙ ap (λ z. vm.copied_memory m (Address t.0) z (cap_offset size) (alignment_bytes (alignment_of align))) u.1
        ∙ ap (λ z. vm.copied_memory m (Address t.0) (Address u.0) z (alignment_bytes (alignment_of align))) same_size
        ∙ ap (λ z. vm.copied_memory m (Address t.0) (Address u.0) size z) (same_align align whole.align)
        ∙ ap vm.ok_of got.1 in
        plain c.rooms c.functions c.number c.code found c.own c.waiting (n.Copy to from (cap_offset size) (alignment_of align)) q r s.world m [] got.0 stands.has.0 refl
        (ap (λ z. changes z (outer_with_memory s.world.outer m)) done)
        (next (in_world s (with_memory s.world m1)) got.0 (at_plain c.code.blocks c.last c.end _ stands) aft (fits_after aft got.2 fit.bytes fit))

    by_overlap : (p p1 : Ptr) → IsValueOf f (Address p) (r to) → IsValueOf f (Address p1) (r from) → (x : Bool) → overlaps p p1 size ≡ x → EndsSo c (finish (write_at c.structs (Struct number) (Address p) (Address p1) s) K) q r s.world m
    unfolding opens
    by_overlap p p1 a b true e = meets_anything c.rooms c.functions (ap (λ z. finish (if◌then◌else◌ {A = Run (Unit {0})} z (undefined_behaviour OverlapsItself) (access (copy_at s.world.outer.memory p p1 size align) >>= set_memory) s) K) e)
    by_overlap p p1 a b false e =
        meets_same c.rooms c.functions (ap (λ z. finish (if◌then◌else◌ {A = Run (Unit {0})} z (undefined_behaviour OverlapsItself) (access (copy_at s.world.outer.memory p p1 size align) >>= set_memory) s) K) e)
        (bound_run c found (access (copy_at s.world.outer.memory p p1 size align) s) set_memory K q r s.world m
        (access_meets c.rooms c.functions (copy_at s.world.outer.memory p p1 size align) s (λ m1 u. K tt (in_world u (with_memory u.world m1))) _ (λ m1 em. copy_meets p p1 a b m1 em)))

    struct_written : (at v : Value) → IsValueOf f at (r to) → IsValueOf f v (r from) → EndsSo c (finish (write_at c.structs (Struct number) at v s) K) q r s.world m
    unfolding opens
    struct_written (Word k) v a b = meets_anything c.rooms c.functions refl
    struct_written Unset v a b = meets_anything c.rooms c.functions refl
    struct_written (Address p) (Word k) a b = meets_anything c.rooms c.functions refl
    struct_written (Address p) Unset a b = meets_anything c.rooms c.functions refl
    struct_written (Address p) (Address p1) a b = by_overlap p p1 a b (overlaps p p1 size) refl

pub writes_meet : WritesMeet
writes_meet c found = record {
  scalars = λ ty scalar pointer plus value rest heads q base at v f scope r s m K stands fit held rel base_rel moved next.
      scalar_written c found ty pointer plus value rest heads q base at v f scope r s m K stands fit held rel base_rel moved next scalar (vm.is_set v) refl;
  structs = λ number whole to from rest heads q at v f scope r s m K stands fit a b next.
      struct_written c found number whole to from rest heads q f scope r s m K stands fit next at v a b;
}
