-- One part of a copy: what was loaded is stored as it was, also where it is a pointer, a piece of one or unwritten cells.
use Rattle.std.proofs.Common.{◌≡◌, ◌≢◌, ℕ, ◌+◌, ◌/◌, ◌%◌, ◌^◌, ◌≤◌, ◌⊎◌, List, [], ◌∷◌, ◌++◌, length, take, drop, Bool, true, false, pos, Option, Some, None, refl, sym, ap, ◌∙◌, arith, inl, inr, eq-eqb, le-ltb, take-add}
use Rattle.std.specs.Prelude.{if◌then◌else◌, ◌&&◌, not, nat_lt, slice_set, option_map, option_and_then}
use Rattle.std.specs.Int.{w32}
use Rattle.std.proofs.lemmas.Option.{none-some, same_Some}
use Rattle.std.proofs.lemmas.List.{drop-drop, set-set}
use Rattle.mem_model.specs.declared.value.Value.{Value}
use Rattle.mem_model.specs.declared.value.Value.TheVariants.{Word, Address}
use Rattle.mem_model.specs.declared.value.Ptr.{Ptr}
use Rattle.mem_model.specs.declared.value.Cell.{Cell}
use Rattle.mem_model.specs.declared.value.MemFault.TheVariants.{NoObject, Outside, Misaligned, ReadOnly}
use Rattle.mem_model.specs.Memory.{Memory, Object, object_at, is_gone, is_outside, is_misaligned, is_read_only, first_fault, read_fault, row_at, put_row}
use Rattle.mem_model.specs.Cells.{bytes_of, parts_of, number_of, pointer_of, first_pointer, cells_eq, with_row}
use Rattle.mem_model.specs.Pointers.{is_offset, pointer_plus}
use Rattle.mem_model.specs.Laws.{ChangesCells, Apart}
use Rattle.mem_model.proofs.RowValues.{cells_eq-true, cell_eq-true}
use Rattle.mem_model.proofs.RowLaws.{length-row}
use Rattle.mem_model.proofs.Changes.{MayStand, object-here, changes_cells, live-kept, size-kept, row_at-apart}
use Rattle.alpha_isa.specs.Arithmetic.{sign_extension}
use Rattle.bk_arithmetic.specs.declared.integer_type.IntegerType.TheVariants.{Int}
use Rattle.bk_arithmetic.proofs.LowBits.{low_bits-extension}
use Rattle.suifvm_ir.specs.declared.types.Alignment.{Alignment}
use Rattle.suifvm_ir.specs.declared.types.Alignment.TheVariants.{One, Two, Four, Eight}
use Rattle.suifvm_ir.specs.Programs.{alignment_bytes}
use Rattle.alloc_model.specs.Contents.{Content, Plain, Bundle, word_content, number_or, pointer_or_bundle, content_of, extended_content, unless_fault, pointer_in, pointer_at, load_width, store_width, content_in, loaded_content, when_width, stored_cells, memory_with, stored_memory, pointer_moved}
use Rattle.selection_forms.specs.alpha_forms.Registers.{AreCells, MemoryHasBytes}
use Rattle.selection_forms.specs.alpha_copies.Copies.{part_load, part_store}
use Rattle.selection_forms.proofs.AlphaCopies.Bytes.{are_row, bytes_with_row, bytes_number}
use Rattle.selection_forms.proofs.AlphaCopies.Lists.{with_row-behind}

-- ---- the row that was loaded

bytes_long : (n : ℕ) → bytes_of 4 (sign_extension w32 n) ≡ bytes_of 4 n
unfolding bytes_of
bytes_long n = by_low (sign_extension w32 n) (low_bits-extension Int n)
  where
    by_low : (x : ℕ) → x % 2 ^ 32 ≡ n % 2 ^ 32 → bytes_of 4 x ≡ bytes_of 4 n
    by_low x e =
        let a : x % 256 ≡ n % 256 = omega (arith, e) in
        let b : x / 256 % 256 ≡ n / 256 % 256 = omega (arith, e) in
        let c : x / 256 / 256 % 256 ≡ n / 256 / 256 % 256 = omega (arith, e) in
        let d : x / 256 / 256 / 256 % 256 ≡ n / 256 / 256 / 256 % 256 = omega (arith, e) in
        cc

number_back : (al : Alignment) (cs : List Cell) (n : ℕ) → length cs ≡ alignment_bytes al → AreCells cs → number_of cs ≡ Some n →
    stored_cells (alignment_bytes al) (extended_content (part_load al) (word_content n)) ≡ Some cs
number_back One cs n len h e = ap (λ k. Some (bytes_of k n)) (sym len) ∙ ap Some (bytes_number cs n h e)
number_back Two cs n len h e = ap (λ k. Some (bytes_of k n)) (sym len) ∙ ap Some (bytes_number cs n h e)
number_back Four cs n len h e = ap Some (bytes_long n) ∙ ap (λ k. Some (bytes_of k n)) (sym len) ∙ ap Some (bytes_number cs n h e)
number_back Eight cs n len h e = ap (λ k. Some (bytes_of k n)) (sym len) ∙ ap Some (bytes_number cs n h e)

kept_bundle : (al : Alignment) (cs : List Cell) → extended_content (part_load al) (Bundle cs) ≡ Bundle cs
kept_bundle One cs = refl
kept_bundle Two cs = refl
kept_bundle Four cs = refl
kept_bundle Eight cs = refl

kept_pointer : (al : Alignment) (p : Ptr) → extended_content (part_load al) (Plain (Address p)) ≡ Plain (Address p)
kept_pointer One p = refl
kept_pointer Two p = refl
kept_pointer Four p = refl
kept_pointer Eight p = refl

null_number : number_of (bytes_of 8 0) ≡ Some 0
unfolding number_of bytes_of
null_number = refl

length-parts : (p : Ptr) → length (parts_of p) ≡ 8
unfolding parts_of
length-parts p = refl

-- cells that are a pointer are null, or the parts of one
pub record IsPointer (cs : List Cell) (v : Value) : Type 0 where
  pub pointer : Ptr
  pub value : v ≡ Address pointer
  pub cells : cs ≡ parts_of pointer

pointer_is : (cs : List Cell) (v : Value) → pointer_of cs ≡ Some v → (cs ≡ bytes_of 8 0) ⊎ IsPointer cs v
unfolding pointer_of
pointer_is cs v e = by_null (cells_eq cs (bytes_of 8 0)) refl e
  where
    by_parts : (p : Ptr) (b : Bool) → cells_eq cs (parts_of p) ≡ b → (if b then Some (Address p) else None) ≡ Some v → IsPointer cs v
    by_parts p true is h = record { pointer = p; value = sym (same_Some (Address p) v h); cells = cells_eq-true cell_eq-true cs (parts_of p) is }
    by_parts p false is h = absurd (none-some v h)

    by_first : (q : Option Ptr) → option_and_then (λ p. if cells_eq cs (parts_of p) then Some (Address p) else None) q ≡ Some v → IsPointer cs v
    by_first None h = absurd (none-some v h)
    by_first (Some p) h = by_parts p (cells_eq cs (parts_of p)) refl h

    by_null : (b : Bool) → cells_eq cs (bytes_of 8 0) ≡ b →
        (if b then Some (Word 0) else option_and_then (λ p. if cells_eq cs (parts_of p) then Some (Address p) else None) (first_pointer cs)) ≡ Some v →
        (cs ≡ bytes_of 8 0) ⊎ IsPointer cs v
    by_null true is h = inl (cells_eq-true cell_eq-true cs (bytes_of 8 0) is)
    by_null false is h = inr (by_first (first_pointer cs) h)

part_back : (al : Alignment) (cs : List Cell) → length cs ≡ alignment_bytes al → AreCells cs →
    stored_cells (alignment_bytes al) (extended_content (part_load al) (content_of cs)) ≡ Some cs
part_back al cs len h = by_number (number_of cs) refl
  where
    stored : Content → Type 0
    stored c = stored_cells (alignment_bytes al) (extended_content (part_load al) c) ≡ Some cs

    of_pointer : (v : Value) → number_of cs ≡ None → (cs ≡ bytes_of 8 0) ⊎ IsPointer cs v → stored (Plain v)
    of_pointer v none (inl null) = absurd (none-some 0 (sym none ∙ ap number_of null ∙ null_number))
    of_pointer v none (inr p) =
        let eight : alignment_bytes al ≡ 8 = sym len ∙ ap length p.cells ∙ length-parts p.pointer in
        ap (λ w. stored_cells (alignment_bytes al) (extended_content (part_load al) (Plain w))) p.value
        ∙ ap (stored_cells (alignment_bytes al)) (kept_pointer al p.pointer)
        ∙ ap (λ b. when_width b (parts_of p.pointer)) (eq-eqb (alignment_bytes al) 8 eight)
        ∙ ap Some (sym p.cells)

    by_pointer : (v : Option Value) → number_of cs ≡ None → pointer_of cs ≡ v → stored (pointer_or_bundle v cs)
    by_pointer None none is = ap (stored_cells (alignment_bytes al)) (kept_bundle al cs) ∙ ap (λ b. when_width b cs) (eq-eqb (length cs) (alignment_bytes al) len)
    by_pointer (Some v) none is = of_pointer v none (pointer_is cs v is)

    by_number : (n : Option ℕ) → number_of cs ≡ n → stored (number_or n (pointer_or_bundle (pointer_of cs) cs))
    by_number None is = by_pointer (pointer_of cs) is refl
    by_number (Some n) is = number_back al cs n len h is

-- ---- where the parts stand

abbrev pub spot : (object at : ℕ) → Ptr
spot o i = record { object = o; offset = pos i }

-- what is copied, and where: both ranges lie in live objects, and are the same or apart
pub record Copyable (m : Memory) (o i r j : ℕ) (al : Alignment) (size : ℕ) : Type 0 where
  pub to_live : is_gone m (spot o i) ≡ false
  pub from_live : is_gone m (spot r j) ≡ false
  pub writable : is_read_only m (spot o i) ≡ false
  pub to_fits : i + size ≤ length (object_at m o).cells
  pub from_fits : j + size ≤ length (object_at m r).cells
  pub to_aligned : i % alignment_bytes al ≡ 0
  pub from_aligned : j % alignment_bytes al ≡ 0
  pub apart : (r ≢ o) ⊎ ((i ≡ j) ⊎ ((i + size ≤ j) ⊎ (j + size ≤ i)))

and_false : (b : Bool) → (b && false) ≡ false
and_false true = refl
and_false false = refl

not_outside : (m : Memory) (o i size : ℕ) → i + size ≤ length (object_at m o).cells → is_outside m (spot o i) size ≡ false
not_outside m o i size le = ap (λ b. nat_lt 0 size && not (not b)) (le-ltb (length (object_at m o).cells) (i + size) le) ∙ and_false (nat_lt 0 size)

not_misaligned : (o i align : ℕ) → i % align ≡ 0 → is_misaligned (spot o i) align ≡ false
not_misaligned o i align e = ap not (eq-eqb (i % align) 0 e)

next_aligned : (al : Alignment) (i : ℕ) → i % alignment_bytes al ≡ 0 → (i + alignment_bytes al) % alignment_bytes al ≡ 0
next_aligned One i e = omega (arith, e)
next_aligned Two i e = omega (arith, e)
next_aligned Four i e = omega (arith, e)
next_aligned Eight i e = omega (arith, e)

load_bytes : (al : Alignment) → load_width (part_load al) ≡ alignment_bytes al
load_bytes One = refl
load_bytes Two = refl
load_bytes Four = refl
load_bytes Eight = refl

store_bytes : (al : Alignment) → store_width (part_store al) ≡ alignment_bytes al
store_bytes One = refl
store_bytes Two = refl
store_bytes Four = refl
store_bytes Eight = refl

live_is : (b : Bool) → not b ≡ false → b ≡ true
live_is true e = refl
live_is false e = absurd (cc)

-- a pointer moved within its object
pub moved_spot : (m : Memory) (o i by : ℕ) → is_gone m (spot o i) ≡ false → i + by ≤ length (object_at m o).cells → pointer_plus m (Address (spot o i)) (pos by) ≡ Some (Address (spot o (i + by)))
moved_spot m o i by live le =
    ap (λ b. if b && is_offset (pos (i + by)) (length (object_at m o).cells) then Some (Address (spot o (i + by))) else None) (live_is (object_at m o).live live)
    ∙ ap (λ b. if not b then Some (Address (spot o (i + by))) else None) (le-ltb (length (object_at m o).cells) (i + by) le)

pub pointer_spot : (m : Memory) (o i by : ℕ) → is_gone m (spot o i) ≡ false → i + by ≤ length (object_at m o).cells → pointer_at m (Plain (Address (spot o i))) (pos by) ≡ Some (spot o (i + by))
pointer_spot m o i by live le = ap pointer_in (moved_spot m o i by live le)

pub moved_content_spot : (m : Memory) (o i by : ℕ) → is_gone m (spot o i) ≡ false → i + by ≤ length (object_at m o).cells → pointer_moved m (Address (spot o i)) (pos by) ≡ Some (Plain (Address (spot o (i + by))))
moved_content_spot m o i by live le = ap (option_map Plain) (moved_spot m o i by live le)

-- ---- one part, at a and b, which pointers at i and j reach by a displacement

module _ (m : Memory) (o i r j at a b : ℕ) (ea : i + at ≡ a) (eb : j + at ≡ b) (al : Alignment) (more : ℕ) (c : Copyable m o a r b al (alignment_bytes al + more)) (ok : MemoryHasBytes m) where
  abbrev row : List Cell
  row = row_at m (spot r b) (alignment_bytes al)

  abbrev loaded_part : Content
  loaded_part = extended_content (part_load al) (content_of (row_at m (spot r b) (alignment_bytes al)))

  part-length : length (row_at m (spot r b) (alignment_bytes al)) ≡ alignment_bytes al
  part-length = length-row (object_at m r).cells b (alignment_bytes al) (let h = c.from_fits in omega arith)

  abbrev new : Memory
  new = put_row m (spot o a) (row_at m (spot r b) (alignment_bytes al))

  stands : MayStand m (spot o a) (row_at m (spot r b) (alignment_bytes al))
  stands = inr (let h = c.to_fits in omega (arith, part-length))

  changed : ChangesCells m (put_row m (spot o a) (row_at m (spot r b) (alignment_bytes al))) o
  changed = changes_cells m (spot o a) (row_at m (spot r b) (alignment_bytes al)) c.to_live stands

  pub part_loaded : loaded_content m (part_load al) (Plain (Address (spot r j))) (pos at) ≡ Some (extended_content (part_load al) (content_of (row_at m (spot r b) (alignment_bytes al))))
  part_loaded =
      let q = spot r b in
      let n = alignment_bytes al in
      let answer : ℕ → Content = λ k. extended_content (part_load al) (content_of (row_at m q k)) in
      ap (option_and_then (content_in m (part_load al))) (pointer_spot m r j at c.from_live (let h = c.from_fits in omega (arith, eb)) ∙ ap (λ k. Some (spot r k)) eb)
      ∙ ap (λ k. unless_fault (read_fault m q k k) (answer k)) (load_bytes al)
      ∙ ap (λ b. unless_fault (first_fault ((b, NoObject) ∷ (is_outside m q n, Outside) ∷ (is_misaligned q n, Misaligned) ∷ [])) (answer n)) c.from_live
      ∙ ap (λ b. unless_fault (first_fault ((b, Outside) ∷ (is_misaligned q n, Misaligned) ∷ [])) (answer n)) (not_outside m r b n (let h = c.from_fits in omega arith))
      ∙ ap (λ b. unless_fault (first_fault ((b, Misaligned) ∷ [])) (answer n)) (not_misaligned r b n c.from_aligned)

  pub part_stored : stored_memory m (part_store al) (extended_content (part_load al) (content_of (row_at m (spot r b) (alignment_bytes al)))) (Plain (Address (spot o i))) (pos at) ≡ Some (put_row m (spot o a) (row_at m (spot r b) (alignment_bytes al)))
  part_stored =
      let p = spot o a in
      let n = alignment_bytes al in
      let cs = row_at m (spot r b) n in
      let v = extended_content (part_load al) (content_of cs) in
      ap (λ k. memory_with m k (pointer_at m (Plain (Address (spot o i))) (pos at)) (stored_cells k v)) (store_bytes al)
      ∙ ap (λ q. memory_with m n q (stored_cells n v)) (pointer_spot m o i at c.to_live (let h = c.to_fits in omega (arith, ea)) ∙ ap (λ k. Some (spot o k)) ea)
      ∙ ap (λ l. memory_with m n (Some p) l) (part_back al cs part-length (are_row m (spot r b) n ok))
      ∙ ap (λ b. unless_fault (first_fault ((b, NoObject) ∷ (is_outside m p n, Outside) ∷ (is_misaligned p n, Misaligned) ∷ (is_read_only m p, ReadOnly) ∷ [])) (put_row m p cs)) c.to_live
      ∙ ap (λ b. unless_fault (first_fault ((b, Outside) ∷ (is_misaligned p n, Misaligned) ∷ (is_read_only m p, ReadOnly) ∷ [])) (put_row m p cs)) (not_outside m o a n (let g = c.to_fits in omega arith))
      ∙ ap (λ b. unless_fault (first_fault ((b, Misaligned) ∷ (is_read_only m p, ReadOnly) ∷ [])) (put_row m p cs)) (not_misaligned o a n c.to_aligned)
      ∙ ap (λ b. unless_fault (first_fault ((b, ReadOnly) ∷ [])) (put_row m p cs)) c.writable

  next_apart : (r ≢ o) ⊎ ((a ≡ b) ⊎ ((a + (alignment_bytes al + more) ≤ b) ⊎ (b + (alignment_bytes al + more) ≤ a))) →
      (r ≢ o) ⊎ ((a + alignment_bytes al ≡ b + alignment_bytes al) ⊎ ((a + alignment_bytes al + more ≤ b + alignment_bytes al) ⊎ (b + alignment_bytes al + more ≤ a + alignment_bytes al)))
  next_apart (inl ne) = inl ne
  next_apart (inr (inl e)) = inr (inl (omega arith))
  next_apart (inr (inr (inl a))) = inr (inr (inl (omega arith)))
  next_apart (inr (inr (inr b))) = inr (inr (inr (omega arith)))

  pub next_copyable : Copyable (put_row m (spot o a) (row_at m (spot r b) (alignment_bytes al))) o (a + alignment_bytes al) r (b + alignment_bytes al) al more
  next_copyable = record {
    to_live = ap not (live-kept m new o changed o) ∙ c.to_live;
    from_live = ap not (live-kept m new o changed r) ∙ c.from_live;
    writable = ap not changed.writable ∙ c.writable;
    to_fits = let h = c.to_fits in omega (arith, size-kept m new o changed o);
    from_fits = let h = c.from_fits in omega (arith, size-kept m new o changed r);
    to_aligned = next_aligned al a c.to_aligned;
    from_aligned = next_aligned al b c.from_aligned;
    apart = next_apart c.apart;
  }

  row_apart : (r ≢ o) ⊎ ((a ≡ b) ⊎ ((a + (alignment_bytes al + more) ≤ b) ⊎ (b + (alignment_bytes al + more) ≤ a))) →
      Apart (spot o a) (length (row_at m (spot r b) (alignment_bytes al))) (spot r (b + alignment_bytes al)) more
  row_apart (inl ne) = inl (λ e. ne (sym e))
  row_apart (inr (inl e)) = inr (inl (omega (arith, part-length)))
  row_apart (inr (inr (inl a))) = inr (inl (omega (arith, part-length)))
  row_apart (inr (inr (inr b))) = inr (inr (omega arith))

  -- the rest behind the part is the whole
  pub whole : put_row new (spot o (a + alignment_bytes al)) (row_at new (spot r (b + alignment_bytes al)) more) ≡ put_row m (spot o a) (row_at m (spot r b) (alignment_bytes al + more))
  whole =
      let n = alignment_bytes al in
      let cs = row_at m (spot r b) n in
      let X = object_at m o in
      let D = (object_at m r).cells in
      let rest = row_at m (spot r (b + n)) more in
      let len : length rest ≡ more = length-row D (b + n) more (let h = c.from_fits in omega arith) in
      let rows : row_at new (spot r (b + n)) more ≡ rest = row_at-apart m (spot o a) cs c.to_live stands (spot r (b + n)) more (row_apart c.apart) in
      let both : cs ++ rest ≡ row_at m (spot r b) (n + more) = ap (λ l. cs ++ take more l) (sym (drop-drop n b D)) ∙ sym (take-add n more (drop b D)) in
      ap (λ l. put_row new (spot o (a + n)) l) rows
      ∙ ap (λ (x : Object). slice_set new o (record { live = x.live; writable = x.writable; cells = with_row x.cells (a + n) rest })) (object-here m (spot o a) cs c.to_live stands)
      ∙ set-set m o _ _
      ∙ ap (λ k. slice_set m o (record { live = X.live; writable = X.writable; cells = with_row (with_row X.cells a cs) (a + k) rest })) (sym part-length)
      ∙ ap (λ l. slice_set m o (record { live = X.live; writable = X.writable; cells = l })) (with_row-behind X.cells cs rest a (let h = c.to_fits in omega (arith, part-length, len)))
      ∙ ap (λ l. put_row m (spot o a) l) both

  pub new_bytes : MemoryHasBytes (put_row m (spot o a) (row_at m (spot r b) (alignment_bytes al)))
  new_bytes = bytes_with_row m (spot o a) (row_at m (spot r b) (alignment_bytes al)) c.to_live stands ok (are_row m (spot r b) (alignment_bytes al) ok)
