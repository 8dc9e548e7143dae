-- A memory that stands for another one, as both go on.
use Rattle.std.proofs.Common.{◌≡◌, ◌≢◌, ℕ, zero, suc, ◌+◌, ◌<◌, Bool, true, false, List, [], ◌∷◌, length, take, drop, Some, None, Ok, refl, sym, ap, ◌∙◌, subst, arith, inl, inr, eq-eqb}
use Rattle.std.specs.Prelude.{◌==◌, ◌&&◌, ◌||◌, ◌%◌, not, nat_lt, if◌then◌else◌}
use Rattle.std.proofs.lemmas.Bool.{cases_eq, cases_lt, eqb-true}
use Rattle.mem_model.specs.declared.value.Ptr.{Ptr}
use Rattle.mem_model.specs.declared.value.Value.{Value}
use Rattle.mem_model.specs.declared.value.Cell.{Cell}
use Rattle.mem_model.specs.declared.value.MemFault.TheVariants.{NoObject, Outside, Misaligned, ReadOnly}
use Rattle.mem_model.specs.Cells.{cells_of, with_row}
use Rattle.mem_model.specs.Memory.{Memory, Object, object_at, fresh_object, begin_object, end_object, begin_objects, end_objects, place_of, is_within, is_gone, is_outside, is_misaligned, is_read_only, overlaps, first_fault, read_fault, write_fault, copy_fault, row_at, put_row, load_at, store_at, copy_at, IsStorable}
use Rattle.mem_model.specs.Related.{Names, IsPointerOf, IsValueOf, IsRowOf, IsObjectOf, IsMemoryOf, with_name, IsFreeName, IsLocal}
use Rattle.mem_model.proofs.Accesses.{load_at-free, store_at-free, copy_at-free}
use Rattle.mem_model.proofs.Changes.{store_at-ok, copy_at-ok, copy_is, copy_parts, changes_cells, MayStand, outside-stands, object-here, object-other, length-cells_of, load_tells}
use Rattle.mem_model.proofs.Faults.{read_free}
use Rattle.mem_model.proofs.Objects.{no_object_past, begin_changes, end_changes, length-begin}
use Rattle.mem_model.proofs.RelatedRows.{rows_are_as_long, rows_have_parts, rows_are_read, rows_are_written, values_have_rows, fresh_rows, names_grow}

abbrev pub live : Memory → ℕ → Bool
live m o = (object_at m o).live

pub not_false : (b : Bool) → not b ≡ false → b ≡ true
not_false true e = refl
not_false false e = absurd (cc)

untrue : (b : Bool) → (b ≡ true → ⊥) → b ≡ false
untrue true h = absurd (h refl)
untrue false h = refl

ne-eqb : (a b : ℕ) → a ≢ b → (a == b) ≡ false
ne-eqb a b n = untrue (a == b) (λ e. n (eqb-true a b e))

live-within : (m : Memory) (o : ℕ) → live m o ≡ true → o < length m
live-within m o l = elim (cases_lt o (length m)) [
  | inl lt ↦ lt
  | inr ge ↦ let e : false ≡ true = ap (λ (x : Object). x.live) (sym (no_object_past m o ge)) ∙ l in absurd (cc)
]

-- the tests of an access have the same answers
pub record Meets (f : Names) (m n : Memory) (p q : Ptr) : Type 0 where
  pub gone : is_gone n q ≡ is_gone m p
  pub lives : live n q.object ≡ true
  pub size : length (object_at n q.object).cells ≡ length (object_at m p.object).cells
  pub outside : (width : ℕ) → is_outside n q width ≡ is_outside m p width
  pub misaligned : (align : ℕ) → is_misaligned q align ≡ is_misaligned p align
  pub read_only : is_read_only n q ≡ is_read_only m p
  pub cells : IsRowOf f (object_at m p.object).cells (object_at n q.object).cells

pub meet : (f : Names) (m n : Memory) (p q : Ptr) → IsMemoryOf f m n → IsPointerOf f p q → live m p.object ≡ true → Meets f m n p q
meet f m n p q h pq l =
    let r = h.each p.object l in
    let name : r.name ≡ q.object = cc (r.named, pq.object) in
    let cells : IsRowOf f (object_at m p.object).cells (object_at n q.object).cells = subst (λ k. IsRowOf f (object_at m p.object).cells (object_at n k).cells) name r.cells in
    let lives : live n q.object ≡ true = ap (live n) (sym name) ∙ r.lives in
    let size = rows_are_as_long f (object_at m p.object).cells (object_at n q.object).cells cells in
    record {
      gone = ap not (lives ∙ sym l);
      lives = lives;
      size = size;
      outside = λ width. ap (λ z. nat_lt 0 width && not (is_within z width (length (object_at n q.object).cells))) pq.offset ∙ ap (λ k. nat_lt 0 width && not (is_within p.offset width k)) size;
      misaligned = λ align. ap (λ z. not (place_of z % align == 0)) pq.offset;
      read_only = ap (λ k. not (object_at n k).writable) (sym name) ∙ ap not r.writable;
      cells = cells;
    }

rows-at : (f : Names) (m n : Memory) (p q : Ptr) (size : ℕ) → IsPointerOf f p q → IsRowOf f (object_at m p.object).cells (object_at n q.object).cells → IsRowOf f (row_at m p size) (row_at n q size)
rows-at f m n p q size pq h =
    subst (λ z. IsRowOf f (row_at m p size) (take size (drop (place_of z) (object_at n q.object).cells))) (sym pq.offset) (rows_have_parts f (place_of p.offset) size (object_at m p.object).cells (object_at n q.object).cells h)

same_tests : (a b c d e g : Bool) → a ≡ d → b ≡ e → c ≡ g → first_fault ((a, NoObject) ∷ (b, Outside) ∷ (c, Misaligned) ∷ []) ≡ first_fault ((d, NoObject) ∷ (e, Outside) ∷ (g, Misaligned) ∷ [])
same_tests a b c d e g x y z =
    ap (λ t. first_fault ((t, NoObject) ∷ (b, Outside) ∷ (c, Misaligned) ∷ [])) x ∙ ap (λ t. first_fault ((d, NoObject) ∷ (t, Outside) ∷ (c, Misaligned) ∷ [])) y ∙ ap (λ t. first_fault ((d, NoObject) ∷ (e, Outside) ∷ (t, Misaligned) ∷ [])) z

-- four tests that all fail
no_fault : (a b c d : Bool) → a ≡ false → b ≡ false → c ≡ false → d ≡ false → first_fault ((a, NoObject) ∷ (b, Outside) ∷ (c, Misaligned) ∷ (d, ReadOnly) ∷ []) ≡ None
no_fault false false false false x y z w = refl
no_fault true b c d x y z w = absurd (cc)
no_fault false true c d x y z w = absurd (cc)
no_fault false false true d x y z w = absurd (cc)
no_fault false false false true x y z w = absurd (cc)

pub loads_correspond : (f : Names) (m n : Memory) (p q : Ptr) (width : ℕ) (pointer : Bool) (v : Value) → IsMemoryOf f m n → IsPointerOf f p q → load_at m p width pointer ≡ Ok v → (w : Value) × (load_at n q width pointer ≡ Ok w) × IsValueOf f v w
loads_correspond f m n p q width pointer v h pq e =
    let told = load_tells m p width pointer v e in
    let range = read_free m p width width told.free in
    let met = meet f m n p q h pq (not_false (live m p.object) range.live) in
    let got = rows_are_read f pointer (row_at m p width) (row_at n q width) v (rows-at f m n p q width pq met.cells) told.value in
    let free : read_fault n q width width ≡ None = same_tests (is_gone n q) (is_outside n q width) (is_misaligned q width) (is_gone m p) (is_outside m p width) (is_misaligned p width) met.gone (met.outside width) (met.misaligned width) ∙ told.free in
    (got.0, load_at-free n q width pointer free ∙ got.1, got.2)

-- a row that is put, and one that stands for it at a pointer that stands for the first
module _ (f : Names) (m n : Memory) (p q : Ptr) (row new : List Cell) (h : IsMemoryOf f m n) (pq : IsPointerOf f p q) (rows : IsRowOf f row new) (gone : is_gone m p ≡ false) (stands : MayStand m p row) where
  lives : live m p.object ≡ true
  lives = not_false (live m p.object) gone

  met : Meets f m n p q
  met = meet f m n p q h pq lives

  stand : MayStand n q new
  stand = elim stands [
    | inl none ↦ inl (rows_are_as_long f row new rows ∙ none)
    | inr fits ↦ inr (let len = rows_are_as_long f row new rows in let at : place_of q.offset ≡ place_of p.offset = ap place_of pq.offset in let size = met.size in omega arith)
  ]

  there : is_gone n q ≡ false
  there = met.gone ∙ gone

  m1-here : object_at (put_row m p row) p.object ≡ record { live = (object_at m p.object).live; writable = (object_at m p.object).writable; cells = with_row (object_at m p.object).cells (place_of p.offset) row }
  m1-here = object-here m p row gone stands

  n1-here : object_at (put_row n q new) q.object ≡ record { live = (object_at n q.object).live; writable = (object_at n q.object).writable; cells = with_row (object_at n q.object).cells (place_of q.offset) new }
  n1-here = object-here n q new there stand

  same_row : IsRowOf f (with_row (object_at m p.object).cells (place_of p.offset) row) (with_row (object_at n q.object).cells (place_of q.offset) new)
  same_row = subst (λ z. IsRowOf f (with_row (object_at m p.object).cells (place_of p.offset) row) (with_row (object_at n q.object).cells (place_of z) new)) (sym pq.offset) (rows_are_written f (place_of p.offset) (object_at m p.object).cells (object_at n q.object).cells row new met.cells rows)

  was : (o : ℕ) → live (put_row m p row) o ≡ true → live m o ≡ true
  was o l = elim (cases_eq o p.object) [
    | inl e ↦ ap (live m) e ∙ lives
    | inr ne ↦ ap (λ (x : Object). x.live) (sym (object-other m p row gone stands o ne)) ∙ l
  ]

  here : (o : ℕ) → o ≡ p.object → IsObjectOf f (put_row n q new) (object_at (put_row m p row) o) o
  here o e =
      let r = h.each p.object lives in
      let name : r.name ≡ q.object = cc (r.named, pq.object) in
      subst (λ z. IsObjectOf f (put_row n q new) z o) (sym (ap (object_at (put_row m p row)) e ∙ m1-here)) (record {
        name = q.object;
        named = ap f e ∙ pq.object;
        lives = ap (λ (z : Object). z.live) n1-here ∙ met.lives;
        writable = ap (λ (z : Object). z.writable) n1-here ∙ ap (λ k. (object_at n k).writable) (sym name) ∙ r.writable;
        cells = subst (λ (z : Object). IsRowOf f (with_row (object_at m p.object).cells (place_of p.offset) row) z.cells) (sym n1-here) same_row;
      })

  elsewhere : (o : ℕ) → live (put_row m p row) o ≡ true → o ≢ p.object → IsObjectOf f (put_row n q new) (object_at (put_row m p row) o) o
  elsewhere o l ne =
      let r = h.each o (was o l) in
      let apart : r.name ≢ q.object = λ e. ne (h.apart o p.object q.object (was o l) lives (r.named ∙ ap Some e) pq.object) in
      let y : object_at (put_row n q new) r.name ≡ object_at n r.name = object-other n q new there stand r.name apart in
      subst (λ z. IsObjectOf f (put_row n q new) z o) (sym (object-other m p row gone stands o ne)) (record {
        name = r.name;
        named = r.named;
        lives = ap (λ (z : Object). z.live) y ∙ r.lives;
        writable = ap (λ (z : Object). z.writable) y ∙ r.writable;
        cells = subst (λ (z : Object). IsRowOf f (object_at m o).cells z.cells) (sym y) r.cells;
      })

  len-m1 : length (put_row m p row) ≡ length m
  len-m1 = (changes_cells m p row gone stands).count

  pub rows_put : IsMemoryOf f (put_row m p row) (put_row n q new)
  rows_put = record {
    each = λ o l. elim (cases_eq o p.object) [ inl e ↦ here o e | inr ne ↦ elsewhere o l ne ];
    apart = λ o k x lo lk eo ek. h.apart o k x (was o lo) (was k lk) eo ek;
    known = λ o k e. let lt = h.known o k e in subst (λ l. o < l) (sym len-m1) lt;
  }

pub stores_correspond : (f : Names) (m n m1 : Memory) (p q : Ptr) (width : ℕ) (v w : Value) → IsMemoryOf f m n → IsPointerOf f p q → IsValueOf f v w → IsStorable width v → store_at m p width v ≡ Ok m1 → (n1 : Memory) × (store_at n q width w ≡ Ok n1) × IsMemoryOf f m1 n1
stores_correspond f m n m1 p q width v w h pq vw fit e =
    let ok = store_at-ok m m1 p width v e in
    let met = meet f m n p q h pq (not_false (live m p.object) ok.first) in
    let rows = values_have_rows f width v w vw fit in
    let stands = outside-stands m p (cells_of width v) width (length-cells_of width v fit) ok.second in
    let free : write_fault n q width width ≡ None = no_fault (is_gone n q) (is_outside n q width) (is_misaligned q width) (is_read_only n q) (met.gone ∙ ok.first) (met.outside width ∙ ok.second) (met.misaligned width ∙ ok.third) (met.read_only ∙ ok.fourth) in
    (put_row n q (cells_of width w), store_at-free n (put_row n q (cells_of width w)) q width w free refl, subst (λ z. IsMemoryOf f z (put_row n q (cells_of width w))) ok.is (rows_put f m n p q (cells_of width v) (cells_of width w) h pq rows ok.first stands))

-- two live objects are the same where those that stand for them are
pub same_object : (f : Names) (m n : Memory) (p q p1 q1 : Ptr) → IsMemoryOf f m n → IsPointerOf f p p1 → IsPointerOf f q q1 → live m p.object ≡ true → live m q.object ≡ true → (p1.object == q1.object) ≡ (p.object == q.object)
same_object f m n p q p1 q1 h pp qq lp lq = elim (cases_eq p.object q.object) [
  | inl e ↦
      let names : Some p1.object ≡ Some q1.object = sym pp.object ∙ ap f e ∙ qq.object in
      let one : p1.object ≡ q1.object = cc in
      eq-eqb p1.object q1.object one ∙ sym (eq-eqb p.object q.object e)
  | inr ne ↦ ne-eqb p1.object q1.object (λ e. ne (h.apart p.object q.object q1.object lp lq (pp.object ∙ ap Some e) qq.object)) ∙ sym (ne-eqb p.object q.object ne)
]

pub copies_correspond : (f : Names) (m n m1 : Memory) (to from to' from' : Ptr) (size align : ℕ) → IsMemoryOf f m n → IsPointerOf f to to' → IsPointerOf f from from' → copy_at m to from size align ≡ Ok m1 → (n1 : Memory) × (copy_at n to' from' size align ≡ Ok n1) × IsMemoryOf f m1 n1
copies_correspond f m n m1 to from to' from' size align h tt' ff' e =
    let ok = copy_at-ok m m1 to from size align e in
    let is = copy_is m m1 to from size align e in
    let parts = copy_parts m m1 to from size align e in
    let lp = not_false (live m to.object) parts.to_live in
    let lq = not_false (live m from.object) parts.from_live in
    let mp = meet f m n to to' h tt' lp in
    let mq = meet f m n from from' h ff' lq in
    let rows = rows-at f m n from from' size ff' mq.cells in
    let same = same_object f m n to from to' from' h tt' ff' lp lq in
    let gone : (is_gone n to' || is_gone n from') ≡ (is_gone m to || is_gone m from) = cc (mp.gone, mq.gone) in
    let places : place_of to'.offset ≡ place_of to.offset = ap place_of tt'.offset in
    let places2 : place_of from'.offset ≡ place_of from.offset = ap place_of ff'.offset in
    let laps : overlaps to' from' size ≡ overlaps to from size = cc (same, places, places2) in
    let outside : (is_outside n to' size || is_outside n from' size || overlaps to' from' size) ≡ (is_outside m to size || is_outside m from size || overlaps to from size) = cc (mp.outside size, mq.outside size, laps) in
    let misaligned : (is_misaligned to' align || is_misaligned from' align) ≡ (is_misaligned to align || is_misaligned from align) = cc (mp.misaligned align, mq.misaligned align) in
    let free : copy_fault n to' from' size align ≡ None = no_fault (is_gone n to' || is_gone n from') (is_outside n to' size || is_outside n from' size || overlaps to' from' size) (is_misaligned to' align || is_misaligned from' align) (is_read_only n to') (gone ∙ ok.first) (outside ∙ ok.second) (misaligned ∙ ok.third) (mp.read_only ∙ ok.fourth) in
    (put_row n to' (row_at n from' size), copy_at-free n (put_row n to' (row_at n from' size)) to' from' size align free refl, subst (λ z. IsMemoryOf f z (put_row n to' (row_at n from' size))) is.is (rows_put f m n to to' (row_at m from size) (row_at n from' size) h tt' rows is.live is.stands))

-- an object of the first memory begins
name-here : (f : Names) (o q : ℕ) → with_name f o q o ≡ Some q
name-here f o q = ap (λ b. if b then Some q else f o) (eq-eqb o o refl)

name-other : (f : Names) (o q p : ℕ) → p ≢ o → with_name f o q p ≡ f p
name-other f o q p ne = ap (λ b. if b then Some q else f p) (ne-eqb p o ne)

more-name : (f : Names) (m n : Memory) (q : ℕ) → IsMemoryOf f m n → (o p : ℕ) → f o ≡ Some p → with_name f (length m) q o ≡ Some p
more-name f m n q h o p e = let lt = h.known o p e in let ne : o ≢ length m = omega arith in name-other f (length m) q o ne ∙ e

pub first_begins : (f : Names) (m n : Memory) (q size : ℕ) → IsMemoryOf f m n → IsLocal n q size → IsFreeName f m q → IsMemoryOf (with_name f (length m) q) (begin_object m size true) n
first_begins f m n q size h stands free = record {
  each = λ o l. elim (cases_eq o (length m)) [ inl e ↦ new o e | inr ne ↦ old o l ne ];
  apart = λ o p z lo lp eo ep. elim (cases_eq o (length m)) [
    | inl e ↦ elim (cases_eq p (length m)) [ inl e2 ↦ e ∙ sym e2 | inr ne ↦ absurd (free p (was p lp ne) (sym (name-other f (length m) q p ne) ∙ ep ∙ sym (taken o z e eo))) ]
    | inr ne ↦ elim (cases_eq p (length m)) [
      | inl e2 ↦ absurd (free o (was o lo ne) (sym (name-other f (length m) q o ne) ∙ eo ∙ sym (taken p z e2 ep)))
      | inr ne2 ↦ h.apart o p z (was o lo ne) (was p lp ne2) (sym (name-other f (length m) q o ne) ∙ eo) (sym (name-other f (length m) q p ne2) ∙ ep)
    ]
  ];
  known = λ o z e. elim (cases_eq o (length m)) [
    | inl is ↦ omega (arith, length-begin m size true)
    | inr ne ↦ let lt = h.known o z (sym (name-other f (length m) q o ne) ∙ e) in omega (arith, length-begin m size true)
  ];
}
  where
    was : (o : ℕ) → live (begin_object m size true) o ≡ true → o ≢ length m → live m o ≡ true
    was o l ne = ap (λ (x : Object). x.live) (sym ((begin_changes m size true).others o ne)) ∙ l

    taken : (o z : ℕ) → o ≡ length m → with_name f (length m) q o ≡ Some z → Some q ≡ Some z
    taken o z e eo = sym (name-here f (length m) q) ∙ ap (with_name f (length m) q) (sym e) ∙ eo

    new : (o : ℕ) → o ≡ length m → IsObjectOf (with_name f (length m) q) n (object_at (begin_object m size true) o) o
    new o e =
        let at : object_at (begin_object m size true) o ≡ fresh_object size true = ap (object_at (begin_object m size true)) e ∙ (begin_changes m size true).here in
        subst (λ z. IsObjectOf (with_name f (length m) q) n z o) (sym at) (record {
          name = q;
          named = ap (with_name f (length m) q) e ∙ name-here f (length m) q;
          lives = stands.lives;
          writable = stands.writable;
          cells = fresh_rows (with_name f (length m) q) size (object_at n q).cells stands.size_is;
        })

    old : (o : ℕ) → live (begin_object m size true) o ≡ true → o ≢ length m → IsObjectOf (with_name f (length m) q) n (object_at (begin_object m size true) o) o
    old o l ne =
        let r = h.each o (was o l ne) in
        subst (λ z. IsObjectOf (with_name f (length m) q) n z o) (sym ((begin_changes m size true).others o ne)) (record {
          name = r.name;
          named = name-other f (length m) q o ne ∙ r.named;
          lives = r.lives;
          writable = r.writable;
          cells = names_grow f (with_name f (length m) q) (object_at m o).cells (object_at n r.name).cells (more-name f m n q h) r.cells;
        })

-- an object that lives when another one has ended
end-live : (m : Memory) (k o : ℕ) → live (end_object m k) o ≡ true → (o ≢ k) × (object_at (end_object m k) o ≡ object_at m o)
end-live m k o l = elim (cases_eq o k) [
  | inl e ↦ let bad : false ≡ true = sym (ap (λ (x : Object). x.live) (end_changes m k).here) ∙ ap (live (end_object m k)) (sym e) ∙ l in absurd (cc)
  | inr ne ↦ (ne, (end_changes m k).others o ne)
]

pub first_ends : (f : Names) (m n : Memory) (k : ℕ) → IsMemoryOf f m n → IsMemoryOf f (end_object m k) n
first_ends f m n k h = record {
  each = λ o l. let a = end-live m k o l in subst (λ z. IsObjectOf f n z o) (sym a.1) (h.each o (was o l));
  apart = λ o p z lo lp eo ep. h.apart o p z (was o lo) (was p lp) eo ep;
  known = λ o z e. let lt = h.known o z e in omega (arith, (end_changes m k).count);
}
  where
    was : (o : ℕ) → live (end_object m k) o ≡ true → live m o ≡ true
    was o l = ap (λ (x : Object). x.live) (sym (end-live m k o l).1) ∙ l

-- the second memory goes on, and keeps what stands for live objects
second_same : (f : Names) (m n n1 : Memory) → ((o k : ℕ) → live m o ≡ true → f o ≡ Some k → live n k ≡ true → object_at n1 k ≡ object_at n k) → IsMemoryOf f m n → IsMemoryOf f m n1
second_same f m n n1 same h = record {
  each = λ o l.
      let r = h.each o l in
      let e = same o r.name l r.named r.lives in
      record {
        name = r.name;
        named = r.named;
        lives = ap (λ (x : Object). x.live) e ∙ r.lives;
        writable = ap (λ (x : Object). x.writable) e ∙ r.writable;
        cells = subst (λ (z : Object). IsRowOf f (object_at m o).cells z.cells) (sym e) r.cells;
      };
  apart = h.apart;
  known = h.known;
}

pub second_begins : (f : Names) (m n : Memory) (sizes : List ℕ) → IsMemoryOf f m n → IsMemoryOf f m (begin_objects n sizes)
second_begins f m n [] h = h
second_begins f m n (size ∷ sizes) h =
    second_begins f m (begin_object n size true) sizes (second_same f m n (begin_object n size true) (λ o k l e lk. let lt = live-within n k lk in let ne : k ≢ length n = omega arith in (begin_changes n size true).others k ne) h)

pub second_ends : (f : Names) (m n : Memory) (first count : ℕ) → ((k : ℕ) → k < count → IsFreeName f m (first + k)) → IsMemoryOf f m n → IsMemoryOf f m (end_objects n first count)
second_ends f m n first zero free h = h
second_ends f m n first (suc count) free h =
    second_ends f m (end_object n first) (suc first) count
    (λ k lt o l e. let at : suc first + k ≡ first + suc k = omega arith in free (suc k) (omega arith) o l (e ∙ ap Some at))
    (second_same f m n (end_object n first) (λ o k l e lk. (end_changes n first).others k (λ is. let at : first ≡ first + 0 = omega arith in free 0 (omega arith) o l (e ∙ ap Some is ∙ ap Some at))) h)
