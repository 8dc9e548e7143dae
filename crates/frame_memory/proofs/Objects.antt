-- Objects that begin and end, and bytes that are no object's.
use Rattle.std.proofs.Common.{◌≡◌, ℕ, zero, suc, ◌+◌, ◌-◌, ◌<◌, true, false, List, [], ◌∷◌, ◌++◌, length, map, replicate, Some, refl, sym, ap, ◌∙◌, subst, arith, inl, inr, ⊎_elim, length-append}
use Rattle.std.specs.Prelude.{slice_get, slice_index}
use Rattle.std.proofs.lemmas.Bool.{cases_lt}
use Rattle.std.proofs.lemmas.List.{length-map}
use Rattle.mem_model.specs.declared.value.Cell.{Cell}
use Rattle.mem_model.specs.declared.value.Cell.TheVariants.{Empty}
use Rattle.mem_model.specs.Memory.{Memory, Object, object_at, no_object, fresh_object, begin_objects, end_objects}
use Rattle.mem_model.specs.Laws.{BeginsChange, EndsChange}
use Rattle.mem_model.proofs.Objects.{no_object_past, begins_change, ends_change}
use Rattle.frame_memory.specs.Bytes.{Bytes}
use Rattle.frame_memory.specs.Relation.{Extent, Extents, Owners, ObjectIs, MemoryIs}
use Rattle.frame_memory.specs.Laws.{MoreExtents, KeepsOwners, KeepsLiveBytes, AreNew}
use Rattle.frame_memory.proofs.Rows.{at-kept, at-empty, at-stays}

-- ---- lists of extents

pub extents_grow : (xs ys : Extents) → MoreExtents xs (xs ++ ys)
extents_grow [] ys o e h = absurd (cc)
extents_grow (x ∷ xs) ys zero e h = h
extents_grow (x ∷ xs) ys (suc o) e h = extents_grow xs ys o e h

behind : (xs ys : Extents) (k : ℕ) → slice_get (xs ++ ys) (length xs + k) ≡ slice_get ys k
behind [] ys k = let e : 0 + k ≡ k = omega arith in ap (slice_get ys) e
behind (x ∷ xs) ys k = let e : length (x ∷ xs) + k ≡ suc (length xs + k) = omega arith in ap (slice_get (x ∷ (xs ++ ys))) e ∙ behind xs ys k

extent-there : (es : Extents) (k : ℕ) → k < length es → (e : Extent) × (slice_get es k ≡ Some e)
extent-there [] k lt = absurd (omega arith)
extent-there (e ∷ es) zero lt = (e, refl)
extent-there (e ∷ es) (suc k) lt = extent-there es k (omega arith)

size-there : (es : Extents) (k : ℕ) (e : Extent) → slice_get es k ≡ Some e → slice_index (map (λ (x : Extent). x.size) es) k ≡ e.size
size-there [] k e h = absurd (cc)
size-there (x ∷ es) zero e h = let same : x ≡ e = cc in ap (λ (z : Extent). z.size) same
size-there (x ∷ es) (suc k) e h = size-there es k e h

empty-cells : (size k : ℕ) (c : Cell) → slice_get (replicate size Empty) k ≡ Some c → c ≡ Empty
empty-cells zero k c h = absurd (cc)
empty-cells (suc size) zero c h = cc
empty-cells (suc size) (suc k) c h = empty-cells size k c h

length-empty : (size : ℕ) → length (replicate size Empty) ≡ size
length-empty zero = refl
length-empty (suc size) = ap suc (length-empty size)

-- ---- bytes that are no object's

pub others_may_change : (xs : Extents) (memory : Memory) (old new : Owners) (m k : Bytes) → MemoryIs xs memory old m → KeepsLiveBytes memory old new m k → MemoryIs xs memory new k
others_may_change xs memory old new m k mem keeps = record {
  each = λ o live.
      let x = mem.each o live in
      record {
        extent = x.extent;
        made = x.made;
        sound = x.sound;
        size = x.size;
        cells = at-kept xs m k x.extent.base (object_at memory o).cells (λ y from to. keeps.same y o live (x.own y from (omega (arith, x.size)))) x.cells;
        own = λ y from to. keeps.owners y o live (x.own y from to);
      };
  count = mem.count;
  bytes = keeps.bytes;
}

-- ---- objects that begin

module _ (xs : Extents) (memory : Memory) (old new : Owners) (m : Bytes) (extents : Extents) (sizes : List ℕ) (mem : MemoryIs xs memory old m) (keeps : KeepsOwners memory old new) (are : AreNew memory new extents sizes) where
  count-sizes : length sizes ≡ length extents
  count-sizes = sym (ap length are.sizes_are) ∙ length-map extents (λ (x : Extent). x.size)

  -- an object that was there
  earlier : (o : ℕ) → (object_at memory o).live ≡ true → ObjectIs (xs ++ extents) (object_at memory o) new m o
  earlier o live =
      let x = mem.each o live in
      record {
        extent = x.extent;
        made = extents_grow xs extents o x.extent x.made;
        sound = x.sound;
        size = x.size;
        cells = at-stays xs (xs ++ extents) (extents_grow xs extents) m x.extent.base (object_at memory o).cells x.cells;
        own = λ y from to. keeps y o live (x.own y from to);
      }

  -- one that begins
  begun : (k : ℕ) → k < length sizes → ObjectIs (xs ++ extents) (fresh_object (slice_index sizes k) true) new m (length memory + k)
  begun k lt =
      let n = count-sizes in
      let e = extent-there extents k (omega (arith, n)) in
      let size : slice_index sizes k ≡ (e.0).size = ap (λ l. slice_index l k) (sym are.sizes_are) ∙ size-there extents k e.0 e.1 in
      record {
        extent = e.0;
        made = ap (λ l. slice_get (xs ++ extents) (l + k)) (sym mem.count) ∙ behind xs extents k ∙ e.1;
        sound = are.sound k e.0 e.1;
        size = length-empty (slice_index sizes k) ∙ size;
        cells = at-empty (xs ++ extents) m (e.0).base (replicate (slice_index sizes k) Empty) (empty-cells (slice_index sizes k));
        own = are.own k e.0 e.1;
      }

  each-begun : (o : ℕ) → (object_at (begin_objects memory sizes) o).live ≡ true → ObjectIs (xs ++ extents) (object_at (begin_objects memory sizes) o) new m o
  each-begun o live = ⊎_elim
      (λ below.
      let same = changes.others o (inl below) in
      subst (λ z. ObjectIs (xs ++ extents) z new m o) (sym same) (earlier o (ap (λ (z : Object). z.live) (sym same) ∙ live)))
      (λ above. ⊎_elim
      (λ within.
      let e : length memory + (o - length memory) ≡ o = omega arith in
      subst (λ j. ObjectIs (xs ++ extents) (object_at (begin_objects memory sizes) j) new m j) e
      (subst (λ z. ObjectIs (xs ++ extents) z new m (length memory + (o - length memory))) (sym (changes.here (o - length memory) (omega arith))) (begun (o - length memory) (omega arith))))
      (λ past.
      let none : object_at memory o ≡ no_object = no_object_past memory o above in
      let dead : false ≡ true = sym (ap (λ (z : Object). z.live) (changes.others o (inr past) ∙ none)) ∙ live in absurd (cc))
      (cases_lt o (length memory + length sizes)))
      (cases_lt o (length memory))
    where
      changes : BeginsChange memory sizes
      changes = begins_change memory sizes

  pub objects_begin : MemoryIs (xs ++ extents) (begin_objects memory sizes) new m
  objects_begin = record {
    each = each-begun;
    count = omega (arith, length-append xs extents, mem.count, count-sizes, (begins_change memory sizes).count);
    bytes = mem.bytes;
  }

-- ---- objects that end

module _ (xs : Extents) (memory : Memory) (old new : Owners) (m : Bytes) (first count : ℕ) (mem : MemoryIs xs memory old m) (keeps : KeepsOwners (end_objects memory first count) old new) where
  outlives : (o : ℕ) → (object_at (end_objects memory first count) o).live ≡ true → object_at (end_objects memory first count) o ≡ object_at memory o
  outlives o live = ⊎_elim
      (λ below. changes.others o (inl below))
      (λ above. ⊎_elim
      (λ within.
      let e : first + (o - first) ≡ o = omega arith in
      let none : object_at (end_objects memory first count) o ≡ no_object = ap (object_at (end_objects memory first count)) (sym e) ∙ changes.here (o - first) (omega arith) in
      let dead : false ≡ true = sym (ap (λ (z : Object). z.live) none) ∙ live in absurd (cc))
      (λ past. changes.others o (inr past))
      (cases_lt o (first + count)))
      (cases_lt o first)
    where
      changes : EndsChange memory first count
      changes = ends_change memory first count

  pub objects_end : MemoryIs xs (end_objects memory first count) new m
  objects_end = record {
    each = λ o live.
        let same = outlives o live in
        let x = mem.each o (ap (λ (z : Object). z.live) (sym same) ∙ live) in
        subst (λ z. ObjectIs xs z new m o) (sym same) (record {
          extent = x.extent;
          made = x.made;
          sound = x.sound;
          size = x.size;
          cells = x.cells;
          own = λ y from to. keeps y o live (x.own y from to);
        });
    count = mem.count ∙ sym (ends_change memory first count).count_is;
    bytes = mem.bytes;
  }
