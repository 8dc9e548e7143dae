-- The code of a copy leaves the memory that the copy leaves.
use Rattle.std.proofs.Common.{◌≡◌, ◌≢◌, ℕ, zero, suc, ◌+◌, ◌*◌, ◌/◌, ◌%◌, ◌<◌, ◌≤◌, ◌⊎◌, List, ◌∷◌, ◌++◌, length, Bool, true, false, ℤ, pos, negsuc, Some, Ok, Err, refl, sym, ap, ◌∙◌, subst, arith, inl, inr, eq-eqb, lt-ltb, ltb-false}
use Rattle.std.specs.Prelude.{if◌then◌else◌, ◌==◌, ◌&&◌, ◌||◌, not, nat_lt, Result}
use Rattle.std.proofs.lemmas.Bool.{eqb-true, cases_eq, cases_lt, ne_eqb}
use Rattle.mem_model.specs.declared.value.Value.TheVariants.{Word, Address, Unset}
use Rattle.mem_model.specs.declared.value.Ptr.{Ptr}
use Rattle.mem_model.specs.declared.value.MemFault.{MemFault}
use Rattle.mem_model.specs.Memory.{Memory, object_at, is_within, is_gone, is_outside, is_misaligned, overlaps, copy_at, row_at, put_row}
use Rattle.mem_model.specs.World.{Outer, outer_with_memory}
use Rattle.mem_model.proofs.Accesses.{put_row-nothing}
use Rattle.mem_model.proofs.Changes.{copy_at-ok}
use Rattle.suifvm_ir.specs.declared.types.Alignment.{Alignment}
use Rattle.suifvm_ir.specs.declared.types.Alignment.TheVariants.{One, Two, Four, Eight}
use Rattle.suifvm_ir.specs.Programs.{alignment_bytes}
use Rattle.suifvm_meaning.specs.Operations.{ok_of}
use Rattle.temp_ir.specs.declared.operation.AddressOp.TheVariants.{Lda}
use Rattle.temp_ir.specs.declared.insn.FirstOperand.TheVariants as source
use Rattle.temp_ir.specs.declared.insn.TempInsn.{TempInsn}
use Rattle.temp_ir.specs.declared.insn.TempInsn.TheVariants as x
use Rattle.alloc_model.specs.Contents.{Content, Plain, content_of, extended_content, content_answer, loaded_content, stored_memory, moved_content}
use Rattle.alloc_model.specs.Stores.{put, without}
use Rattle.alloc_model.specs.Effect.{Temp, holder_eq, is_emptied, writes, changes}
use Rattle.alloc_model.specs.Temporaries.{Temps}
use Rattle.selection_forms.specs.alpha_forms.Straight.{After, goes_with, runs}
use Rattle.selection_forms.specs.alpha_forms.Registers.{IsOfRegister, MemoryHasBytes, PutsMemory, ComesToMemory}
use Rattle.selection_forms.specs.alpha_copies.Copies.{part_load, part_store, part_items, moved_items, copy_reach, parts_items, copy_items}
use Rattle.selection_forms.specs.alpha_copies.Laws.{CopiesAreDone, CopiesAreShort}
use Rattle.selection_forms.proofs.AlphaCopies.Parts.{spot, Copyable, moved_content_spot, part_loaded, part_stored, next_copyable, whole, new_bytes}

-- ---- the instructions

-- what is held behind a content that is put into a temporary by an instruction
put_by : TempInsn → (d : ℕ) (c : Content) → Temps → Temps
put_by x d c s = put holder_eq (Temp d) c (without (is_emptied x) s)

module _ (widest own : ℕ) (s : Temps) (o : Outer) (xs : List TempInsn) where
  load_step : (al : Alignment) (from at : ℕ) (p c : Content) → s (Temp from) ≡ p → loaded_content o.memory (part_load al) p (pos at) ≡ Some c →
      runs widest (x.Load (part_load al) 0 from (pos at) ∷ xs) own s o ≡ runs widest xs own (put_by (x.Load (part_load al) 0 from (pos at)) 0 c s) o
  unfolding put_by
  load_step al from at p c held e =
      let insn : TempInsn = x.Load (part_load al) 0 from (pos at) in
      ap (λ h. goes_with insn s (writes (content_answer (loaded_content o.memory (part_load al) h (pos at))) o) (λ t q. runs widest xs own t q)) held
      ∙ ap (λ a. goes_with insn s (writes (content_answer a) o) (λ t q. runs widest xs own t q)) e

  store_step : (al : Alignment) (to at : ℕ) (p c : Content) (m : Memory) → s (Temp 0) ≡ c → s (Temp to) ≡ p → stored_memory o.memory (part_store al) c p (pos at) ≡ Some m →
      runs widest (x.Store (part_store al) (source.Temp 0) to (pos at) ∷ xs) own s o
      ≡ runs widest xs own (without (is_emptied (x.Store (part_store al) (source.Temp 0) to (pos at))) s) (outer_with_memory o m)
  store_step al to at p c m value pointer e =
      let insn : TempInsn = x.Store (part_store al) (source.Temp 0) to (pos at) in
      ap (λ h. goes_with insn s (changes (stored_memory o.memory (part_store al) h (s (Temp to)) (pos at)) o) (λ t q. runs widest xs own t q)) value
      ∙ ap (λ h. goes_with insn s (changes (stored_memory o.memory (part_store al) c h (pos at)) o) (λ t q. runs widest xs own t q)) pointer
      ∙ ap (λ a. goes_with insn s (changes a o) (λ t q. runs widest xs own t q)) e

  move_step : (d base by r j : ℕ) → s (Temp base) ≡ Plain (Address (spot r j)) → is_gone o.memory (spot r j) ≡ false → j + by ≤ length (object_at o.memory r).cells →
      runs widest (x.Address Lda d (source.Temp base) (pos by) ∷ xs) own s o ≡ runs widest xs own (put_by (x.Address Lda d (source.Temp base) (pos by)) d (Plain (Address (spot r (j + by)))) s) o
  unfolding put_by
  move_step d base by r j held live within =
      let insn : TempInsn = x.Address Lda d (source.Temp base) (pos by) in
      ap (λ h. goes_with insn s (writes (content_answer (moved_content o.memory h (pos by))) o) (λ t q. runs widest xs own t q)) held
      ∙ ap (λ a. goes_with insn s (writes (content_answer a) o) (λ t q. runs widest xs own t q)) (moved_content_spot o.memory r j by live within)

-- ---- all parts

total : (bytes count : ℕ) → ℕ
total bytes zero = 0
total bytes (suc count) = bytes + total bytes count

-- the pointers stand in temporaries that the code of a part does not write
record Pointers (s : Temps) (to from o i r j : ℕ) : Type 0 where
  to_other : (to == 0) ≡ false
  from_other : (from == 0) ≡ false
  from_behind : (from == 1) ≡ false
  to_holds : s (Temp to) ≡ Plain (Address (spot o i))
  from_holds : s (Temp from) ≡ Plain (Address (spot r j))

of_register : (t k : ℕ) → IsOfRegister t → k < 4 → (t == k) ≡ false
of_register t k is few = ne_eqb t k (λ e. omega (arith, e, is, few))

module _ (widest own : ℕ) (al : Alignment) (o r : ℕ) where
  -- a part, and code behind it that copies the rest
  part_then : (to from at i j a b more : ℕ) (ys : List TempInsn) (s : Temps) (w : Outer) → i + at ≡ a → j + at ≡ b → Pointers s to from o i r j →
      Copyable w.memory o a r b al (alignment_bytes al + more) → MemoryHasBytes w.memory →
      ((t : Temps) → Pointers t to from o i r j →
      PutsMemory t (outer_with_memory w (put_row w.memory (spot o a) (row_at w.memory (spot r b) (alignment_bytes al))))
      (put_row (put_row w.memory (spot o a) (row_at w.memory (spot r b) (alignment_bytes al))) (spot o (a + alignment_bytes al)) (row_at (put_row w.memory (spot o a) (row_at w.memory (spot r b) (alignment_bytes al))) (spot r (b + alignment_bytes al)) more))
      (runs widest ys own t (outer_with_memory w (put_row w.memory (spot o a) (row_at w.memory (spot r b) (alignment_bytes al)))))) →
      PutsMemory s w (put_row w.memory (spot o a) (row_at w.memory (spot r b) (alignment_bytes al + more))) (runs widest (part_items al to from at ++ ys) own s w)
  unfolding put_by
  part_then to from at i j a b more ys s w ea eb p c ok rest =
      let m = w.memory in
      let row = row_at m (spot r b) (alignment_bytes al) in
      let h : Content = extended_content (part_load al) (content_of row) in
      let load : TempInsn = x.Load (part_load al) 0 from (pos at) in
      let store : TempInsn = x.Store (part_store al) (source.Temp 0) to (pos at) in
      let s1 : Temps = put_by load 0 h s in
      let s2 : Temps = without (is_emptied store) s1 in
      let new = put_row m (spot o a) row in
      let to_kept : s1 (Temp to) ≡ Plain (Address (spot o i)) = ap (λ e. if e then h else s (Temp to)) p.to_other ∙ p.to_holds in
      let from_kept : s1 (Temp from) ≡ Plain (Address (spot r j)) = ap (λ e. if e then h else s (Temp from)) p.from_other ∙ p.from_holds in
      let next : Pointers s2 to from o i r j = record { to_other = p.to_other; from_other = p.from_other; from_behind = p.from_behind; to_holds = to_kept; from_holds = from_kept } in
      let run = rest s2 next in
      record {
        after = run.after;
        goes_on =
            load_step widest own s w (store ∷ ys) al from at (Plain (Address (spot r j))) h p.from_holds (part_loaded m o i r j at a b ea eb al more c ok)
            ∙ store_step widest own s1 w ys al to at (Plain (Address (spot o i))) h new refl to_kept (part_stored m o i r j at a b ea eb al more c ok)
            ∙ run.goes_on ∙ ap (λ q. After run.after (outer_with_memory w q)) (whole m o i r j at a b ea eb al more c ok);
        kept = λ t is. run.kept t is ∙ ap (λ e. if e then h else s (Temp t)) (of_register t 0 is (omega arith));
      }

  parts_run : (n to from at i j a b : ℕ) (s : Temps) (w : Outer) → i + at ≡ a → j + at ≡ b → Pointers s to from o i r j → Copyable w.memory o a r b al (total (alignment_bytes al) n) → MemoryHasBytes w.memory →
      PutsMemory s w (put_row w.memory (spot o a) (row_at w.memory (spot r b) (total (alignment_bytes al) n))) (runs widest (parts_items al n to from at) own s w)
  unfolding total put_by
  parts_run zero to from at i j a b s w ea eb p c ok = record {
    after = s;
    goes_on = ap (λ m. After s (outer_with_memory w m)) (sym (put_row-nothing w.memory (spot o a) (spot r b) 0 refl));
    kept = λ t is. refl;
  }
  parts_run (suc n) to from at i j a b s w ea eb p c ok = by_reach (λ to from at i j a b s w. parts_run n to from at i j a b s w) (nat_lt at copy_reach)
    where
      Rest : Type 0
      Rest = (to from at i j a b : ℕ) (s : Temps) (w : Outer) → i + at ≡ a → j + at ≡ b → Pointers s to from o i r j → Copyable w.memory o a r b al (total (alignment_bytes al) n) → MemoryHasBytes w.memory →
          PutsMemory s w (put_row w.memory (spot o a) (row_at w.memory (spot r b) (total (alignment_bytes al) n))) (runs widest (parts_items al n to from at) own s w)

      more : ℕ
      more = total (alignment_bytes al) n

      new : Memory
      new = put_row w.memory (spot o a) (row_at w.memory (spot r b) (alignment_bytes al))

      near : Rest → PutsMemory s w (put_row w.memory (spot o a) (row_at w.memory (spot r b) (alignment_bytes al + more))) (runs widest (part_items al to from at ++ parts_items al n to from (at + alignment_bytes al)) own s w)
      near rest =
          part_then to from at i j a b more (parts_items al n to from (at + alignment_bytes al)) s w ea eb p c ok
          (λ t q. rest to from (at + alignment_bytes al) i j (a + alignment_bytes al) (b + alignment_bytes al) t (outer_with_memory w new) (omega (arith, ea)) (omega (arith, eb)) q
          (next_copyable w.memory o i r j at a b ea eb al more c ok) (new_bytes w.memory o i r j at a b ea eb al more c ok))

      far : Rest → PutsMemory s w (put_row w.memory (spot o a) (row_at w.memory (spot r b) (alignment_bytes al + more))) (runs widest (moved_items to from at ++ (part_items al 1 2 0 ++ parts_items al n 1 2 (alignment_bytes al))) own s w)
      far rest =
          let ys : List TempInsn = part_items al 1 2 0 ++ parts_items al n 1 2 (alignment_bytes al) in
          let first : TempInsn = x.Address Lda 1 (source.Temp to) (pos at) in
          let second : TempInsn = x.Address Lda 2 (source.Temp from) (pos at) in
          let s1 : Temps = put_by first 1 (Plain (Address (spot o (i + at)))) s in
          let s2 : Temps = put_by second 2 (Plain (Address (spot r (j + at)))) s1 in
          let from_kept : s1 (Temp from) ≡ Plain (Address (spot r j)) = ap (λ e. if e then Plain (Address (spot o (i + at))) else s (Temp from)) p.from_behind ∙ p.from_holds in
          let next : Pointers s2 1 2 o a r b = record { to_other = refl; from_other = refl; from_behind = refl; to_holds = ap (λ k. Plain (Address (spot o k))) ea; from_holds = ap (λ k. Plain (Address (spot r k))) eb } in
          let run = part_then 1 2 0 a b a b more (parts_items al n 1 2 (alignment_bytes al)) s2 w (omega arith) (omega arith) next c ok
          (λ t q. rest 1 2 (alignment_bytes al) a b (a + alignment_bytes al) (b + alignment_bytes al) t (outer_with_memory w new) refl refl q
          (next_copyable w.memory o i r j at a b ea eb al more c ok) (new_bytes w.memory o i r j at a b ea eb al more c ok)) in
          record {
            after = run.after;
            goes_on =
                move_step widest own s w (second ∷ ys) 1 to at o i p.to_holds c.to_live (let h = c.to_fits in omega (arith, ea))
                ∙ move_step widest own s1 w ys 2 from at r j from_kept c.from_live (let h = c.from_fits in omega (arith, eb))
                ∙ run.goes_on;
            kept = λ t is. run.kept t is ∙ ap (λ e. if e then Plain (Address (spot r (j + at))) else s1 (Temp t)) (of_register t 2 is (omega arith)) ∙ ap (λ e. if e then Plain (Address (spot o (i + at))) else s (Temp t)) (of_register t 1 is (omega arith));
          }

      by_reach : Rest → (e : Bool) → PutsMemory s w (put_row w.memory (spot o a) (row_at w.memory (spot r b) (alignment_bytes al + more)))
          (runs widest (if e then part_items al to from at ++ parts_items al n to from (at + alignment_bytes al) else moved_items to from at ++ (part_items al 1 2 0 ++ parts_items al n 1 2 (alignment_bytes al))) own s w)
      by_reach rest true = near rest
      by_reach rest false = far rest

-- ---- the copy

neither : (a b : Bool) → (a || b) ≡ false → (a ≡ false) × (b ≡ false)
neither true b e = absurd (cc)
neither false b e = (refl, e)

-- an access that is not empty has an offset from 0 on
record PointsInside (m : Memory) (p : Ptr) (size : ℕ) : Type 0 where
  at : ℕ
  is : p ≡ spot p.object at
  fits : at + size ≤ length (object_at m p.object).cells

placed : (m : Memory) (p : Ptr) (size : ℕ) → 0 < size → is_outside m p size ≡ false → PointsInside m p size
placed m p size some e = by_offset p.offset refl (by_true (is_within p.offset size (length (object_at m p.object).cells)) (sym (ap (λ b. b && not (is_within p.offset size (length (object_at m p.object).cells))) (lt-ltb 0 size some)) ∙ e))
  where
    by_true : (b : Bool) → not b ≡ false → b ≡ true
    by_true true g = refl
    by_true false g = absurd (cc)

    by_false : (b : Bool) → not b ≡ true → b ≡ false
    by_false true g = absurd (cc)
    by_false false g = refl

    by_offset : (y : ℤ) → p.offset ≡ y → is_within y size (length (object_at m p.object).cells) ≡ true → PointsInside m p size
    by_offset (pos i) at h = record { at = i; is = ap (λ z. record { object = p.object; offset = z }) at; fits = ltb-false (length (object_at m p.object).cells) (i + size) (by_false (nat_lt (length (object_at m p.object).cells) (i + size)) h) }
    by_offset (negsuc i) at h = absurd (cc)

lies_apart : (o i r j size : ℕ) → overlaps (spot o i) (spot r j) size ≡ false → (r ≢ o) ⊎ ((i ≡ j) ⊎ ((i + size ≤ j) ⊎ (j + size ≤ i)))
lies_apart o i r j size e = elim (cases_eq o r) [
  | inr ne ↦ inl (λ x. ne (sym x))
  | inl same ↦ elim (cases_eq i j) [
    | inl eq ↦ inr (inl eq)
    | inr ne ↦ elim (cases_lt i (j + size)) [
      | inr le ↦ inr (inr (inr le))
      | inl lt ↦ elim (cases_lt j (i + size)) [
        | inr le ↦ inr (inr (inl le))
        | inl gt ↦
            let a : (o == r) ≡ true = eq-eqb o r same in
            let b : (i == j) ≡ false = ne_eqb i j ne in
            let c : nat_lt i (j + size) ≡ true = lt-ltb i (j + size) lt in
            let d : nat_lt j (i + size) ≡ true = lt-ltb j (i + size) gt in
            absurd (clash (o == r) (i == j) (nat_lt i (j + size)) (nat_lt j (i + size)) a b c d e)
      ]
    ]
  ]
]
  where
    clash : (a b c d : Bool) → a ≡ true → b ≡ false → c ≡ true → d ≡ true → (a && not b && c && d) ≡ false → ⊥
    clash true false true true ha hb hc hd h = cc
    clash false b c d ha hb hc hd h = cc
    clash true true c d ha hb hc hd h = cc
    clash true false false d ha hb hc hd h = cc
    clash true false true false ha hb hc hd h = cc

aligned_is : (i align : ℕ) → not (i % align == 0) ≡ false → i % align ≡ 0
aligned_is i align e = eqb-true (i % align) 0 (by_not (i % align == 0) e)
  where
    by_not : (b : Bool) → not b ≡ false → b ≡ true
    by_not true g = refl
    by_not false g = absurd (cc)

bytes_some : (al : Alignment) → 0 < alignment_bytes al
bytes_some One = omega arith
bytes_some Two = omega arith
bytes_some Four = omega arith
bytes_some Eight = omega arith

copy_spots : (m n : Memory) (o i r j : ℕ) (al : Alignment) (size : ℕ) → i + size ≤ length (object_at m o).cells → j + size ≤ length (object_at m r).cells → copy_at m (spot o i) (spot r j) size (alignment_bytes al) ≡ Ok n → Copyable m o i r j al size
copy_spots m n o i r j al size to from e =
    let f = copy_at-ok m n (spot o i) (spot r j) size (alignment_bytes al) e in
    let gone = neither (is_gone m (spot o i)) (is_gone m (spot r j)) f.first in
    let out = neither (is_outside m (spot o i) size || is_outside m (spot r j) size) (overlaps (spot o i) (spot r j) size) f.second in
    let al_ = neither (is_misaligned (spot o i) (alignment_bytes al)) (is_misaligned (spot r j) (alignment_bytes al)) f.third in
    record {
      to_live = gone.0;
      from_live = gone.1;
      writable = f.fourth;
      to_fits = to;
      from_fits = from;
      to_aligned = aligned_is i (alignment_bytes al) al_.0;
      from_aligned = aligned_is j (alignment_bytes al) al_.1;
      apart = lies_apart o i r j size out.1;
    }

-- a whole number of parts
products : (al : Alignment) (n : ℕ) → total (alignment_bytes al) n ≡ n * alignment_bytes al
unfolding total
products One zero = omega arith
products Two zero = omega arith
products Four zero = omega arith
products Eight zero = omega arith
products One (suc n) = omega (arith, products One n)
products Two (suc n) = omega (arith, products Two n)
products Four (suc n) = omega (arith, products Four n)
products Eight (suc n) = omega (arith, products Eight n)

whole_parts : (al : Alignment) (size : ℕ) → size % alignment_bytes al ≡ 0 → size / alignment_bytes al * alignment_bytes al ≡ size
whole_parts One size h = omega arith
whole_parts Two size h = omega (arith, h)
whole_parts Four size h = omega (arith, h)
whole_parts Eight size h = omega (arith, h)

total_is : (al : Alignment) (size : ℕ) → size % alignment_bytes al ≡ 0 → total (alignment_bytes al) (size / alignment_bytes al) ≡ size
total_is al size e = products al (size / alignment_bytes al) ∙ whole_parts al size e

module _ (widest own to from : ℕ) (al : Alignment) (s : Temps) (w : Outer) (p q : Ptr) (it : IsOfRegister to) (if_ : IsOfRegister from) (ok : MemoryHasBytes w.memory)
    (ht : s (Temp to) ≡ Plain (Address p)) (hf : s (Temp from) ≡ Plain (Address q)) where
  copy_runs : (n : ℕ) (m : Memory) → copy_at w.memory p q (total (alignment_bytes al) n) (alignment_bytes al) ≡ Ok m → PutsMemory s w m (runs widest (parts_items al n to from 0) own s w)
  unfolding total
  copy_runs zero m e =
      let f = copy_at-ok w.memory m p q 0 (alignment_bytes al) e in
      let same : w.memory ≡ m = sym (put_row-nothing w.memory p q 0 refl) ∙ f.is in
      record { after = s; goes_on = ap (λ k. After s (outer_with_memory w k)) same; kept = λ t is. refl }
  copy_runs (suc k) m e =
      let size = alignment_bytes al + total (alignment_bytes al) k in
      let f = copy_at-ok w.memory m p q size (alignment_bytes al) e in
      let some : 0 < size = (let h = bytes_some al in omega arith) in
      let outs = neither (is_outside w.memory p size || is_outside w.memory q size) (overlaps p q size) f.second in
      let two = neither (is_outside w.memory p size) (is_outside w.memory q size) outs.0 in
      let pp = placed w.memory p size some two.0 in
      let qq = placed w.memory q size some two.1 in
      let e2 : copy_at w.memory (spot p.object pp.at) (spot q.object qq.at) size (alignment_bytes al) ≡ Ok m = subst (λ x. copy_at w.memory x (spot q.object qq.at) size (alignment_bytes al) ≡ Ok m) pp.is (subst (λ x. copy_at w.memory p x size (alignment_bytes al) ≡ Ok m) qq.is e) in
      let f2 = copy_at-ok w.memory m (spot p.object pp.at) (spot q.object qq.at) size (alignment_bytes al) e2 in
      let pointers : Pointers s to from p.object pp.at q.object qq.at = record {
        to_other = of_register to 0 it (omega arith);
        from_other = of_register from 0 if_ (omega arith);
        from_behind = of_register from 1 if_ (omega arith);
        to_holds = ht ∙ ap (λ x. Plain (Address x)) pp.is;
        from_holds = hf ∙ ap (λ x. Plain (Address x)) qq.is;
      } in
      let run = parts_run widest own al p.object q.object (suc k) to from 0 pp.at qq.at pp.at qq.at s w (omega arith) (omega arith) pointers
      (copy_spots w.memory m p.object pp.at q.object qq.at al size pp.fits qq.fits e2) ok in
      record { after = run.after; goes_on = run.goes_on ∙ ap (λ x. After run.after (outer_with_memory w x)) f2.is; kept = run.kept }

  copy_comes : (size : ℕ) → size % alignment_bytes al ≡ 0 → ComesToMemory s w (ok_of (copy_at w.memory p q size (alignment_bytes al))) (runs widest (copy_items al to from size) own s w)
  copy_comes size e = by_result (copy_at w.memory p q size (alignment_bytes al)) refl
    where
      by_result : (x : Result Memory MemFault) → copy_at w.memory p q size (alignment_bytes al) ≡ x → ComesToMemory s w (ok_of x) (runs widest (copy_items al to from size) own s w)
      by_result (Err f) h = tt
      by_result (Ok m) h = copy_runs (size / alignment_bytes al) m (ap (λ k. copy_at w.memory p q k (alignment_bytes al)) (total_is al size e) ∙ h)

pub copies_done : CopiesAreDone
copies_done widest own to from size al s w (Address p) (Address q) it if_ ok e ht hf = copy_comes widest own to from al s w p q it if_ ok ht hf size e
copies_done widest own to from size al s w (Address p) (Word n) it if_ ok e ht hf = tt
copies_done widest own to from size al s w (Address p) Unset it if_ ok e ht hf = tt
copies_done widest own to from size al s w (Word n) v it if_ ok e ht hf = tt
copies_done widest own to from size al s w Unset v it if_ ok e ht hf = tt

-- ---- how long the code is

-- two instructions for each part, and two where pointers are moved
one_of : (b : Bool) (xs ys : List TempInsn) (n : ℕ) → length xs ≤ n → length ys ≤ n → length (if b then xs else ys) ≤ n
one_of true xs ys n h g = h
one_of false xs ys n h g = g

parts_short : (al : Alignment) (n to from at : ℕ) → length (parts_items al n to from at) ≤ 4 * n
parts_short al zero to from at = omega arith
parts_short al (suc n) to from at =
    one_of (nat_lt at copy_reach) (part_items al to from at ++ parts_items al n to from (at + alignment_bytes al))
    (moved_items to from at ++ (part_items al 1 2 0 ++ parts_items al n 1 2 (alignment_bytes al))) (4 * suc n)
    (omega (arith, parts_short al n to from (at + alignment_bytes al))) (omega (arith, parts_short al n 1 2 (alignment_bytes al)))

few_parts : (al : Alignment) (size : ℕ) → size / alignment_bytes al ≤ size
few_parts One size = omega arith
few_parts Two size = omega arith
few_parts Four size = omega arith
few_parts Eight size = omega arith

pub copies_short : CopiesAreShort
copies_short to from size al = omega (arith, parts_short al (size / alignment_bytes al) to from 0, few_parts al size)
