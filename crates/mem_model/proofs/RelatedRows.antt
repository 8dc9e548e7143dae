-- Rows that stand for rows of a memory whose objects have other numbers.
use Rattle.std.proofs.Common.{◌≡◌, ℕ, zero, suc, Bool, true, false, List, [], ◌∷◌, ◌++◌, length, take, drop, Option, Some, None, Ok, Err, refl, sym, ap, ◌∙◌, subst, arith}
use Rattle.std.specs.Prelude.{ℤ, ◌+◌, ◌/◌, ◌*◌, ok_or, option_map, replicate, if◌then◌else◌}
use Rattle.std.specs.List.{list_any}
use Rattle.mem_model.specs.declared.value.Ptr.{Ptr}
use Rattle.mem_model.specs.declared.value.Value.{Value}
use Rattle.mem_model.specs.declared.value.Value.TheVariants.{Word, Address, Unset}
use Rattle.mem_model.specs.declared.value.Cell.{Cell}
use Rattle.mem_model.specs.declared.value.Cell.TheVariants.{Empty, Byte, Part}
use Rattle.mem_model.specs.declared.value.MemFault.{MemFault}
use Rattle.mem_model.specs.declared.value.MemFault.TheVariants.{Never, PartPointer}
use Rattle.mem_model.specs.Cells.{bytes_of, parts_of, cells_of, number_of, cells_eq, first_pointer, pointer_of, value_of, is_empty, value_or_fault, with_row}
use Rattle.mem_model.specs.Memory.{IsStorable}
use Rattle.mem_model.specs.Related.{Names, IsPointerOf, IsValueOf, IsCellOf, IsRowOf}
use Rattle.mem_model.specs.RelatedLaws.{MoreNames}
use Rattle.mem_model.proofs.RowValues.{cells_eq-true, cell_eq-true, pointer_of-null, pointer_of-part, pointer_of-broken, pointer_of-none}
use Rattle.mem_model.proofs.LoadsBack.{value_or_fault-null, value_or_fault-pointer}

pub rows_are_as_long : (f : Names) (cs ds : List Cell) → IsRowOf f cs ds → length ds ≡ length cs
rows_are_as_long f [] [] r = refl
rows_are_as_long f [] (d ∷ ds) r = absurd r
rows_are_as_long f (c ∷ cs) [] r = absurd r
rows_are_as_long f (c ∷ cs) (d ∷ ds) r = ap suc (rows_are_as_long f cs ds r.1)

pub take-row : (f : Names) (n : ℕ) (cs ds : List Cell) → IsRowOf f cs ds → IsRowOf f (take n cs) (take n ds)
take-row f zero cs ds r = tt
take-row f (suc n) [] [] r = tt
take-row f (suc n) [] (d ∷ ds) r = absurd r
take-row f (suc n) (c ∷ cs) [] r = absurd r
take-row f (suc n) (c ∷ cs) (d ∷ ds) r = (r.0, take-row f n cs ds r.1)

pub drop-row : (f : Names) (n : ℕ) (cs ds : List Cell) → IsRowOf f cs ds → IsRowOf f (drop n cs) (drop n ds)
drop-row f zero cs ds r = r
drop-row f (suc n) [] [] r = tt
drop-row f (suc n) [] (d ∷ ds) r = absurd r
drop-row f (suc n) (c ∷ cs) [] r = absurd r
drop-row f (suc n) (c ∷ cs) (d ∷ ds) r = drop-row f n cs ds r.1

pub rows_have_parts : (f : Names) (at size : ℕ) (cs ds : List Cell) → IsRowOf f cs ds → IsRowOf f (take size (drop at cs)) (take size (drop at ds))
rows_have_parts f at size cs ds r = take-row f size (drop at cs) (drop at ds) (drop-row f at cs ds r)

append-row : (f : Names) (cs ds xs ys : List Cell) → IsRowOf f cs ds → IsRowOf f xs ys → IsRowOf f (cs ++ xs) (ds ++ ys)
append-row f [] [] xs ys r t = t
append-row f [] (d ∷ ds) xs ys r t = absurd r
append-row f (c ∷ cs) [] xs ys r t = absurd r
append-row f (c ∷ cs) (d ∷ ds) xs ys r t = (r.0, append-row f cs ds xs ys r.1 t)

pub rows_are_written : (f : Names) (at : ℕ) (cs ds row new : List Cell) → IsRowOf f cs ds → IsRowOf f row new → IsRowOf f (with_row cs at row) (with_row ds at new)
rows_are_written f at cs ds row new r t =
    let len : length new ≡ length row = rows_are_as_long f row new t in
    let behind : IsRowOf f (drop (at + length row) cs) (drop (at + length new) ds) = subst (λ n. IsRowOf f (drop (at + length row) cs) (drop (at + n) ds)) (sym len) (drop-row f (at + length row) cs ds r) in
    append-row f (take at cs) (take at ds) (row ++ drop (at + length row) cs) (new ++ drop (at + length new) ds) (take-row f at cs ds r) (append-row f row new (drop (at + length row) cs) (drop (at + length new) ds) t behind)

pub fresh_rows : (f : Names) (size : ℕ) (ds : List Cell) → length ds ≡ size → IsRowOf f (replicate size Empty) ds
fresh_rows f zero [] e = tt
fresh_rows f zero (d ∷ ds) e = absurd (cc)
fresh_rows f (suc size) [] e = absurd (cc)
fresh_rows f (suc size) (d ∷ ds) e = (tt, fresh_rows f size ds (omega (arith, e)))

-- more names
more-pointer : (f g : Names) (p q : Ptr) → MoreNames f g → IsPointerOf f p q → IsPointerOf g p q
more-pointer f g p q more r = record { object = more p.object q.object r.object; offset = r.offset }

pub values_stay : (f g : Names) (v w : Value) → MoreNames f g → IsValueOf f v w → IsValueOf g v w
values_stay f g (Word n) w more r = r
values_stay f g (Address p) w more r = (r.0, r.1, more-pointer f g p r.0 more r.2)
values_stay f g Unset w more r = tt

cell-more : (f g : Names) (c d : Cell) → MoreNames f g → IsCellOf f c d → IsCellOf g c d
cell-more f g Empty d more r = tt
cell-more f g (Byte b) d more r = r
cell-more f g (Part p k) d more r = (r.0, r.1, more-pointer f g p r.0 more r.2)

pub names_grow : (f g : Names) (cs ds : List Cell) → MoreNames f g → IsRowOf f cs ds → IsRowOf g cs ds
names_grow f g [] [] more r = tt
names_grow f g [] (d ∷ ds) more r = absurd r
names_grow f g (c ∷ cs) [] more r = absurd r
names_grow f g (c ∷ cs) (d ∷ ds) more r = (cell-more f g c d more r.0, names_grow f g cs ds more r.1)

-- the cells of a pointer
abbrev part_list : Ptr → List ℕ → List Cell
part_list p [] = []
part_list p (k ∷ ks) = Part p k ∷ part_list p ks

abbrev eight : List ℕ
eight = 0 ∷ 1 ∷ 2 ∷ 3 ∷ 4 ∷ 5 ∷ 6 ∷ 7 ∷ []

parts_of-list : (p : Ptr) → parts_of p ≡ part_list p eight
unfolding parts_of
parts_of-list p = refl

parts-both : (f : Names) (p q : Ptr) → IsPointerOf f p q → (ks : List ℕ) → IsRowOf f (part_list p ks) (part_list q ks)
parts-both f p q h [] = tt
parts-both f p q h (k ∷ ks) = ((q, refl, h), parts-both f p q h ks)

abbrev at_offset : ℕ → ℤ → Ptr
at_offset o z = record { object = o; offset = z }

one_pointer : (f : Names) (p q r : Ptr) → IsPointerOf f p q → IsPointerOf f p r → q ≡ r
one_pointer f p q r a b =
    let object : q.object ≡ r.object = cc (a.object, b.object) in
    ap (λ o. at_offset o q.offset) object ∙ ap (at_offset r.object) (a.offset ∙ sym b.offset)

parts-same : (f : Names) (p q : Ptr) → IsPointerOf f p q → (ks : List ℕ) (ds : List Cell) → IsRowOf f (part_list p ks) ds → ds ≡ part_list q ks
parts-same f p q h [] [] r = refl
parts-same f p q h [] (d ∷ ds) r = absurd r
parts-same f p q h (k ∷ ks) [] r = absurd r
parts-same f p q h (k ∷ ks) (d ∷ ds) r =
    let one : (r.0).0 ≡ q = one_pointer f p (r.0).0 q (r.0).2 h in
    let rest = parts-same f p q h ks ds r.1 in
    cc ((r.0).1, rest, one)

bytes-both : (f : Names) (width n : ℕ) → IsRowOf f (bytes_of width n) (bytes_of width n)
unfolding bytes_of
bytes-both f zero n = tt
bytes-both f (suc width) n = (refl, bytes-both f width (n / 256))

bytes-same : (f : Names) (width n : ℕ) (ds : List Cell) → IsRowOf f (bytes_of width n) ds → ds ≡ bytes_of width n
unfolding bytes_of
bytes-same f zero n [] r = refl
bytes-same f zero n (d ∷ ds) r = absurd r
bytes-same f (suc width) n [] r = absurd r
bytes-same f (suc width) n (d ∷ ds) r = let rest = bytes-same f width (n / 256) ds r.1 in cc (r.0, rest)

pub values_have_rows : (f : Names) (width : ℕ) (v w : Value) → IsValueOf f v w → IsStorable width v → IsRowOf f (cells_of width v) (cells_of width w)
unfolding cells_of
values_have_rows f width (Word n) w r e = subst (λ x. IsRowOf f (bytes_of width n) (cells_of width x)) (sym r) (bytes-both f width n)
values_have_rows f width (Address p) w r e =
    let h : IsRowOf f (parts_of p) (parts_of r.0) = subst (λ x. IsRowOf f x (parts_of r.0)) (sym (parts_of-list p)) (subst (λ x. IsRowOf f (part_list p eight) x) (sym (parts_of-list r.0)) (parts-both f p r.0 r.2 eight)) in
    subst (λ x. IsRowOf f (parts_of p) (cells_of width x)) (sym r.1) h
values_have_rows f width Unset w r e = absurd e

-- reading as a number
number-same : (f : Names) (cs ds : List Cell) (n : ℕ) → IsRowOf f cs ds → number_of cs ≡ Some n → ds ≡ cs
unfolding number_of
number-same f [] [] n r e = refl
number-same f [] (d ∷ ds) n r e = absurd r
number-same f (c ∷ cs) [] n r e = absurd r
number-same f (Empty ∷ cs) (d ∷ ds) n r e = absurd (cc)
number-same f (Part p k ∷ cs) (d ∷ ds) n r e = absurd (cc)
number-same f (Byte b ∷ cs) (d ∷ ds) n r e =
    (elim (number_of cs) as (λ o. number_of cs ≡ o → option_map (λ n. b + 256 * n) o ≡ Some n → d ∷ ds ≡ Byte b ∷ cs) [
      | None ↦ λ h x. absurd (cc)
      | Some m ↦ λ h x. let rest = number-same f cs ds m r.1 h in cc (r.0, rest)
    ]) refl e

-- reading as a pointer: zeros, or the parts of one
pub data PointerIs (cs : List Cell) (v : Value) : Type 0 where
  IsNull : cs ≡ bytes_of 8 0 → v ≡ Word 0 → PointerIs cs v
  IsParts : (p : Ptr) → cs ≡ parts_of p → v ≡ Address p → PointerIs cs v

pub pointer_is : (cs : List Cell) (v : Value) → pointer_of cs ≡ Some v → PointerIs cs v
pointer_is cs v e = null (cells_eq cs (bytes_of 8 0)) refl
  where
    whole : cells_eq cs (bytes_of 8 0) ≡ false → (p : Ptr) → first_pointer cs ≡ Some p → (b : Bool) → cells_eq cs (parts_of p) ≡ b → PointerIs cs v
    whole z p first true t = let is : Some v ≡ Some (Address p) = sym e ∙ pointer_of-part cs p z first t in IsParts p (cells_eq-true cell_eq-true cs (parts_of p) t) cc
    whole z p first false t = let is : Some v ≡ None = sym e ∙ pointer_of-broken cs p z first t in absurd (cc)

    part : cells_eq cs (bytes_of 8 0) ≡ false → (o : Option Ptr) → first_pointer cs ≡ o → PointerIs cs v
    part z None first = let is : Some v ≡ None = sym e ∙ pointer_of-none cs z first in absurd (cc)
    part z (Some p) first = whole z p first (cells_eq cs (parts_of p)) refl

    null : (b : Bool) → cells_eq cs (bytes_of 8 0) ≡ b → PointerIs cs v
    null true t = let is : Some v ≡ Some (Word 0) = sym e ∙ pointer_of-null cs t in IsNull (cells_eq-true cell_eq-true cs (bytes_of 8 0) t) cc
    null false t = part t (first_pointer cs) refl

ok_or-some : {A : Type 0} (o : Option A) (x : MemFault) (a : A) → ok_or o x ≡ Ok a → o ≡ Some a
ok_or-some None x a e = absurd (cc)
ok_or-some (Some b) x a e = cc

pub value_or_fault-some : (pointer : Bool) (cs : List Cell) (v : Value) → value_or_fault pointer cs ≡ Ok v → value_of pointer cs ≡ Some v
unfolding value_or_fault
value_or_fault-some pointer cs v e = by_test (list_any is_empty cs) refl e
  where
    by_test : (b : Bool) → list_any is_empty cs ≡ b → (if b then Err Never else ok_or (value_of pointer cs) PartPointer) ≡ Ok v → value_of pointer cs ≡ Some v
    by_test true t x = absurd (cc)
    by_test false t x = ok_or-some (value_of pointer cs) PartPointer v x

word_is : (o : Option ℕ) (v : Value) → option_map Word o ≡ Some v → (n : ℕ) × (o ≡ Some n) × (v ≡ Word n)
word_is None v e = absurd (cc)
word_is (Some n) v e = (n, refl, cc)

first_part : (f : Names) (p : Ptr) (ds : List Cell) → IsRowOf f (part_list p eight) ds → (q : Ptr) × IsPointerOf f p q
first_part f p [] r = absurd r
first_part f p (d ∷ ds) r = ((r.0).0, (r.0).2)

by_shape : (f : Names) (cs ds : List Cell) (v : Value) → IsRowOf f cs ds → PointerIs cs v → (w : Value) × (value_or_fault true ds ≡ Ok w) × IsValueOf f v w
by_shape f cs ds v r (IsNull is word) =
    let same : ds ≡ bytes_of 8 0 = bytes-same f 8 0 ds (subst (λ x. IsRowOf f x ds) is r) in
    (Word 0, ap (value_or_fault true) same ∙ value_or_fault-null, subst (λ x. IsValueOf f x (Word 0)) (sym word) refl)
by_shape f cs ds v r (IsParts p is pointer) =
    let parts : IsRowOf f (part_list p eight) ds = subst (λ x. IsRowOf f x ds) (is ∙ parts_of-list p) r in
    let q = first_part f p ds parts in
    let same : ds ≡ parts_of q.0 = parts-same f p q.0 q.1 eight ds parts ∙ sym (parts_of-list q.0) in
    (Address q.0, ap (value_or_fault true) same ∙ value_or_fault-pointer q.0, subst (λ x. IsValueOf f x (Address q.0)) (sym pointer) (q.0, refl, q.1))

pub rows_are_read : (f : Names) (pointer : Bool) (cs ds : List Cell) (v : Value) → IsRowOf f cs ds → value_or_fault pointer cs ≡ Ok v → (w : Value) × (value_or_fault pointer ds ≡ Ok w) × IsValueOf f v w
rows_are_read f false cs ds v r e =
    let is = word_is (number_of cs) v (value_or_fault-some false cs v e) in
    (v, ap (value_or_fault false) (number-same f cs ds is.0 r is.1) ∙ e, subst (λ x. IsValueOf f x x) (sym is.2) refl)
rows_are_read f true cs ds v r e = by_shape f cs ds v r (pointer_is cs v (value_or_fault-some true cs v e))
