-- Numbers, pointers and values, and the bytes that stand for them.
use Rattle.std.proofs.Common.{◌≡◌, ℕ, zero, suc, ◌+◌, ◌*◌, ◌/◌, ◌^◌, ◌<◌, List, [], ◌∷◌, Option, Some, None, refl, sym, ap, ◌∙◌, subst, arith}
use Rattle.std.specs.Prelude.{option_map, pos, slice_index}
use Rattle.mem_model.specs.declared.value.Ptr.{Ptr}
use Rattle.mem_model.specs.declared.value.Value.{Value}
use Rattle.mem_model.specs.declared.value.Value.TheVariants.{Word, Address, Unset}
use Rattle.mem_model.specs.declared.value.Cell.{Cell}
use Rattle.mem_model.specs.declared.value.Cell.TheVariants.{Empty, Byte, Part}
use Rattle.mem_model.specs.Cells.{bytes_of, parts_of, cells_of, number_of, pointer_of}
use Rattle.mem_model.specs.Memory.{IsStorable}
use Rattle.mem_model.proofs.RelatedRows.{PointerIs, IsNull, IsParts, pointer_is}
use Rattle.frame_memory.specs.Bytes.{low_bytes, number_from}
use Rattle.frame_memory.specs.Relation.{Extent, Extents, IsAddressOf, ValueIs, CellIs, CellsAre}
use Rattle.frame_memory.proofs.Numbers.{numbers_come_back}

module _ (xs : Extents) where
  -- ---- numbers

  number_more : (b x : ℕ) (o : Option ℕ) (bs : List ℕ) (n : ℕ) → x ≡ b → ((k : ℕ) → o ≡ Some k → number_from bs ≡ k) → option_map (λ k. b + 256 * k) o ≡ Some n → x + 256 * number_from bs ≡ n
  number_more b x None bs n e h q = absurd (cc)
  number_more b x (Some k) bs n e h q = let r = h k refl in let t : b + 256 * k ≡ n = cc in omega (arith, r, e, t)

  pub numbers_are_read : (cs : List Cell) (bs : List ℕ) (n : ℕ) → CellsAre xs cs bs → number_of cs ≡ Some n → number_from bs ≡ n
  unfolding number_of number_from
  numbers_are_read [] [] n h e = cc
  numbers_are_read [] (x ∷ bs) n h e = absurd h
  numbers_are_read (c ∷ cs) [] n h e = absurd h
  numbers_are_read (Byte b ∷ cs) (x ∷ bs) n h e = number_more b x (number_of cs) bs n h.0 (λ k p. numbers_are_read cs bs k h.1 p) e
  numbers_are_read (Part p k ∷ cs) (x ∷ bs) n h e = absurd (cc)
  numbers_are_read (Empty ∷ cs) (x ∷ bs) n h e = absurd (cc)

  bytes-number : (count n : ℕ) (bs : List ℕ) → CellsAre xs (bytes_of count n) bs → bs ≡ low_bytes count n
  unfolding bytes_of low_bytes
  bytes-number zero n [] h = refl
  bytes-number zero n (b ∷ bs) h = absurd h
  bytes-number (suc count) n [] h = absurd h
  bytes-number (suc count) n (b ∷ bs) h = let rest = bytes-number count (n / 256) bs h.1 in cc (h.0, rest)

  number-bytes : (count n : ℕ) → CellsAre xs (bytes_of count n) (low_bytes count n)
  unfolding bytes_of low_bytes
  number-bytes zero n = tt
  number-bytes (suc count) n = (refl, number-bytes count (n / 256))

  -- ---- pointers

  -- a pointer has one address, which is a word
  pub one-address : (p : Ptr) (v w : ℕ) → IsAddressOf xs p v → IsAddressOf xs p w → v ≡ w
  one-address p v w r s =
      let e : Some r.extent ≡ Some s.extent = sym r.made ∙ s.made in
      let b : r.extent ≡ s.extent = cc in
      let base : r.extent.base ≡ s.extent.base = ap (λ (x : Extent). x.base) b in
      let f : pos r.at ≡ pos s.at = sym r.offset ∙ s.offset in
      let at : r.at ≡ s.at = cc in
      omega (arith, r.place, s.place, base, at)

  pub address-small : (p : Ptr) (w : ℕ) → IsAddressOf xs p w → w < 2 ^ 64
  address-small p w h = let s = h.sound.small in let le = h.within in omega (arith, h.place, s, le)

  part-is : (p : Ptr) (k x w : ℕ) → CellIs xs (Part p k) x → IsAddressOf xs p w → x ≡ slice_index (low_bytes 8 w) k
  part-is p k x w h s = h.2 ∙ ap (λ v. slice_index (low_bytes 8 v) k) (one-address p h.0 w h.1 s)

  eight : (w : ℕ) → low_bytes 8 w ≡ slice_index (low_bytes 8 w) 0 ∷ slice_index (low_bytes 8 w) 1 ∷ slice_index (low_bytes 8 w) 2 ∷ slice_index (low_bytes 8 w) 3 ∷ slice_index (low_bytes 8 w) 4 ∷ slice_index (low_bytes 8 w) 5 ∷ slice_index (low_bytes 8 w) 6 ∷ slice_index (low_bytes 8 w) 7 ∷ []
  unfolding low_bytes
  eight w = refl

  -- so many parts of a pointer from one on
  abbrev parts_from : Ptr → (first count : ℕ) → List Cell
  parts_from p first zero = []
  parts_from p first (suc count) = Part p first ∷ parts_from p (suc first) count

  abbrev bytes_at : List ℕ → (first count : ℕ) → List ℕ
  bytes_at bs first zero = []
  bytes_at bs first (suc count) = slice_index bs first ∷ bytes_at bs (suc first) count

  parts-bytes : (p : Ptr) (w first count : ℕ) (bs : List ℕ) → IsAddressOf xs p w → CellsAre xs (parts_from p first count) bs → bs ≡ bytes_at (low_bytes 8 w) first count
  parts-bytes p w first zero [] s h = refl
  parts-bytes p w first zero (b ∷ bs) s h = absurd h
  parts-bytes p w first (suc count) [] s h = absurd h
  parts-bytes p w first (suc count) (b ∷ bs) s h = cc (part-is p first b w h.0 s, parts-bytes p w (suc first) count bs s h.1)

  bytes-parts : (p : Ptr) (w first count : ℕ) → IsAddressOf xs p w → CellsAre xs (parts_from p first count) (bytes_at (low_bytes 8 w) first count)
  bytes-parts p w first zero s = tt
  bytes-parts p w first (suc count) s = ((w, s, refl), bytes-parts p w (suc first) count s)

  parts-are : (p : Ptr) → parts_of p ≡ parts_from p 0 8
  unfolding parts_of
  parts-are p = refl

  first-part : (p : Ptr) (bs : List ℕ) → CellsAre xs (parts_from p 0 8) bs → (w : ℕ) × IsAddressOf xs p w
  first-part p [] h = absurd h
  first-part p (b ∷ bs) h = ((h.0).0, (h.0).1)

  by_shape : (cs : List Cell) (bs : List ℕ) (v : Value) → CellsAre xs cs bs → PointerIs cs v → ValueIs xs v (number_from bs)
  by_shape cs bs v h (IsNull is word) =
      let zeros : bs ≡ low_bytes 8 0 = bytes-number 8 0 bs (subst (λ x. CellsAre xs x bs) is h) in
      subst (λ x. ValueIs xs x (number_from bs)) (sym word) (ap number_from zeros ∙ numbers_come_back 8 0 (omega arith))
  by_shape cs bs v h (IsParts p is pointer) =
      let parts : CellsAre xs (parts_from p 0 8) bs = subst (λ x. CellsAre xs x bs) (is ∙ parts-are p) h in
      let s = first-part p bs parts in
      let same : bs ≡ low_bytes 8 s.0 = parts-bytes p s.0 0 8 bs s.1 parts ∙ sym (eight s.0) in
      let number : s.0 ≡ number_from bs = sym (ap number_from same ∙ numbers_come_back 8 s.0 (address-small p s.0 s.1)) in
      subst (λ x. ValueIs xs x (number_from bs)) (sym pointer) (subst (IsAddressOf xs p) number s.1)

  pub pointers_are_read : (cs : List Cell) (bs : List ℕ) (v : Value) → CellsAre xs cs bs → pointer_of cs ≡ Some v → ValueIs xs v (number_from bs)
  pointers_are_read cs bs v h e = by_shape cs bs v h (pointer_is cs v e)

  -- ---- values

  address-cells : (p : Ptr) (w : ℕ) → IsAddressOf xs p w → CellsAre xs (parts_of p) (low_bytes 8 w)
  address-cells p w s =
      subst (λ cs. CellsAre xs cs (low_bytes 8 w)) (sym (parts-are p)) (subst (CellsAre xs (parts_from p 0 8)) (sym (eight w)) (bytes-parts p w 0 8 s))

  pub values_have_bytes : (width : ℕ) (v : Value) (w : ℕ) → ValueIs xs v w → IsStorable width v → CellsAre xs (cells_of width v) (low_bytes width w)
  unfolding cells_of
  values_have_bytes width (Word n) w h fit = subst (λ k. CellsAre xs (bytes_of width n) (low_bytes width k)) (sym h) (number-bytes width n)
  values_have_bytes width (Address p) w h fit = subst (λ k. CellsAre xs (parts_of p) (low_bytes k w)) (sym fit) (address-cells p w h)
  values_have_bytes width Unset w h fit = absurd fit
