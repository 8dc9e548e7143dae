-- A memory stays tidy.
use Rattle.std.proofs.Common.{◌≡◌, ℕ, ◌<◌, ◌^◌, Bool, true, false, length, Ok, subst, refl, sym, ap, ◌∙◌, inl, inr, arith}
use Rattle.std.specs.Prelude.{slice_set, not}
use Rattle.std.proofs.lemmas.Bool.{cases_eq}
use Rattle.std.proofs.lemmas.List.{set-get_or, length-replicate}
use Rattle.mem_model.specs.declared.value.Ptr.{Ptr}
use Rattle.mem_model.specs.declared.value.Value.{Value}
use Rattle.mem_model.specs.declared.value.Cell.TheVariants.{Empty}
use Rattle.mem_model.specs.Cells.{cells_of}
use Rattle.mem_model.specs.Memory.{Memory, Object, object_at, no_object, begin_object, end_object, row_at, is_gone, store_at, copy_at, IsWidth, IsStorable}
use Rattle.mem_model.specs.Laws.{ChangesCells, IsPut, BeginChanges, EndChanges}
use Rattle.mem_model.proofs.Changes.{put_changes, store_puts, copy_puts}
use Rattle.mem_model.proofs.Objects.{begin_changes, end_changes}
use Rattle.suifvm_operations.specs.Tidy.{MemoryIsTidy}

-- no object both lives and does not
lives : (m : Memory) (p : Ptr) → is_gone m p ≡ false → (object_at m p.object).live ≡ true
lives m p h = opposite (object_at m p.object).live h
  where
    opposite : (b : Bool) → not b ≡ false → b ≡ true
    opposite true h = refl
    opposite false h = absurd (cc)

clash : (b : Bool) → b ≡ true → b ≡ false → ⊥
clash b h k = cc

-- one object that lives has other cells, as many
changed : (m new : Memory) (id : ℕ) → ChangesCells m new id → (object_at m id).live ≡ true → MemoryIsTidy m → MemoryIsTidy new
changed m new id c live t = record {
  gone = λ k dead. elim (cases_eq k id) [
    | inl e ↦ absurd (clash (object_at m id).live live (sym c.live ∙ ap (λ j. (object_at new j).live) (sym e) ∙ dead))
    | inr ne ↦ c.others k ne ∙ t.gone k (ap (λ (x : Object). x.live) (sym (c.others k ne)) ∙ dead)
  ];
  small = λ k. elim (cases_eq k id) [
    | inl e ↦ subst (λ n. n < 2 ^ 63) (sym (ap (λ j. length (object_at new j).cells) e ∙ c.size)) (t.small id)
    | inr ne ↦ subst (λ n. n < 2 ^ 63) (ap (λ (x : Object). length x.cells) (sym (c.others k ne))) (t.small k)
  ];
}

pub put_tidy : (m new : Memory) (p : Ptr) (size : ℕ) (row : _) → IsPut m new p size row → MemoryIsTidy m → MemoryIsTidy new
put_tidy m new p size row h t =
    changed m new p.object (subst (λ n. ChangesCells m n p.object) (sym h.is) (put_changes m p row h.can)) (lives m p h.can.live) t

pub store_tidy : (m new : Memory) (p : Ptr) (width : ℕ) (v : Value) → IsWidth width → IsStorable width v → store_at m p width v ≡ Ok new → MemoryIsTidy m → MemoryIsTidy new
store_tidy m new p width v wide storable is t = put_tidy m new p width (cells_of width v) (store_puts m new p width v wide storable is) t

pub store_count : (m new : Memory) (p : Ptr) (width : ℕ) (v : Value) → IsWidth width → IsStorable width v → store_at m p width v ≡ Ok new → length new ≡ length m
store_count m new p width v wide storable is =
    let put = store_puts m new p width v wide storable is in ap length put.is ∙ (put_changes m p (cells_of width v) put.can).count

pub copy_tidy : (m new : Memory) (to from : Ptr) (size align : ℕ) → copy_at m to from size align ≡ Ok new → MemoryIsTidy m → MemoryIsTidy new
copy_tidy m new to from size align is t = put_tidy m new to size (row_at m from size) (copy_puts m new to from size align is) t

pub copy_count : (m new : Memory) (to from : Ptr) (size align : ℕ) → copy_at m to from size align ≡ Ok new → length new ≡ length m
copy_count m new to from size align is =
    let put = copy_puts m new to from size align is in ap length put.is ∙ (put_changes m to (row_at m from size) put.can).count

pub begin_tidy : (m new : Memory) (size : ℕ) (writable : Bool) → size < 2 ^ 63 → new ≡ begin_object m size writable → MemoryIsTidy m → MemoryIsTidy new
begin_tidy m new size writable few is t = subst MemoryIsTidy (sym is) (record {
  gone = λ k dead. elim (cases_eq k (length m)) [
    | inl e ↦ absurd (clash true refl (sym (ap (λ (x : Object). x.live) (ap (object_at made) e ∙ b.here)) ∙ dead))
    | inr ne ↦ b.others k ne ∙ t.gone k (ap (λ (x : Object). x.live) (sym (b.others k ne)) ∙ dead)
  ];
  small = λ k. elim (cases_eq k (length m)) [
    | inl e ↦ subst (λ n. n < 2 ^ 63) (sym (ap (λ (x : Object). length x.cells) (ap (object_at made) e ∙ b.here) ∙ length-replicate size Empty)) few
    | inr ne ↦ subst (λ n. n < 2 ^ 63) (ap (λ (x : Object). length x.cells) (sym (b.others k ne))) (t.small k)
  ];
})
  where
    made : Memory
    made = begin_object m size writable

    b : BeginChanges m size writable
    b = begin_changes m size writable

pub end_tidy : (m new : Memory) (id : ℕ) → new ≡ end_object m id → MemoryIsTidy m → MemoryIsTidy new
end_tidy m new id is t = subst MemoryIsTidy (sym is) (record {
  gone = λ k dead. elim (cases_eq k id) [
    | inl e ↦ ap (object_at (end_object m id)) e ∙ c.here
    | inr ne ↦ c.others k ne ∙ t.gone k (ap (λ (x : Object). x.live) (sym (c.others k ne)) ∙ dead)
  ];
  small = λ k. elim (cases_eq k id) [
    | inl e ↦ subst (λ n. n < 2 ^ 63) (sym (ap (λ (x : Object). length x.cells) (ap (object_at (end_object m id)) e ∙ c.here))) none
    | inr ne ↦ subst (λ n. n < 2 ^ 63) (ap (λ (x : Object). length x.cells) (sym (c.others k ne))) (t.small k)
  ];
})
  where
    c : EndChanges m id
    c = end_changes m id

    none : 0 < 2 ^ 63
    none = omega arith

-- what has ended stays as it is when it ends
pub end_gone : (m : Memory) (id : ℕ) → (object_at m id).live ≡ false → MemoryIsTidy m → m ≡ end_object m id
end_gone m id dead t = sym (ap (slice_set m id) (sym (t.gone id dead)) ∙ set-get_or m id no_object)
