-- Rows of cells and the bytes that stand for them.
use Rattle.std.proofs.Common.{◌≡◌, ℕ, suc, ◌+◌, ◌<◌, ◌≤◌, List, [], ◌∷◌, ◌++◌, length, take, drop, Some, refl, sym, ap, subst, arith}
use Rattle.std.specs.Prelude.{slice_get}
use Rattle.std.proofs.lemmas.List.{take-append-drop, length-take-le}
use Rattle.mem_model.specs.declared.value.Value.{Value}
use Rattle.mem_model.specs.declared.value.Value.TheVariants.{Word, Address, Unset}
use Rattle.mem_model.specs.declared.value.Ptr.{Ptr}
use Rattle.mem_model.specs.declared.value.Cell.{Cell}
use Rattle.mem_model.specs.declared.value.Cell.TheVariants.{Empty, Byte, Part}
use Rattle.frame_memory.specs.Bytes.{Bytes, bytes_from, put_bytes}
use Rattle.frame_memory.specs.Relation.{Extents, IsAddressOf, ValueIs, CellIs, CellsAre, CellsAreAt}
use Rattle.frame_memory.specs.Laws.{MoreExtents}
use Rattle.frame_memory.proofs.Numbers.{put-step, put-here}

module _ (xs : Extents) where
  front : (m : Bytes) (a : ℕ) (cs ds : List Cell) → CellsAreAt xs m a (cs ++ ds) → CellsAreAt xs m a cs
  front m a [] ds h = tt
  front m a (c ∷ cs) ds h = (h.0, front m (suc a) cs ds h.1)

  back : (m : Bytes) (a : ℕ) (cs ds : List Cell) → CellsAreAt xs m a (cs ++ ds) → CellsAreAt xs m (a + length cs) ds
  back m a [] ds h = let e : a ≡ a + 0 = omega arith in subst (λ b. CellsAreAt xs m b ds) e h
  back m a (c ∷ cs) ds h =
      let e : suc a + length cs ≡ a + length (c ∷ cs) = omega arith in
      subst (λ b. CellsAreAt xs m b ds) e (back m (suc a) cs ds h.1)

  pub at-join : (m : Bytes) (a : ℕ) (cs ds : List Cell) → CellsAreAt xs m a cs → CellsAreAt xs m (a + length cs) ds → CellsAreAt xs m a (cs ++ ds)
  at-join m a [] ds h k = let e : a + 0 ≡ a = omega arith in subst (λ b. CellsAreAt xs m b ds) e k
  at-join m a (c ∷ cs) ds h k =
      let e : a + length (c ∷ cs) ≡ suc a + length cs = omega arith in
      (h.0, at-join m (suc a) cs ds h.1 (subst (λ b. CellsAreAt xs m b ds) e k))

  pub at-take : (m : Bytes) (a n : ℕ) (cs : List Cell) → CellsAreAt xs m a cs → CellsAreAt xs m a (take n cs)
  at-take m a n cs h = front m a (take n cs) (drop n cs) (rw take-append-drop h)

  pub at-drop : (m : Bytes) (a n : ℕ) (cs : List Cell) → n ≤ length cs → CellsAreAt xs m a cs → CellsAreAt xs m (a + n) (drop n cs)
  at-drop m a n cs le h =
      subst (λ k. CellsAreAt xs m (a + k) (drop n cs)) (length-take-le n cs le) (back m a (take n cs) (drop n cs) (rw take-append-drop h))

  pub at-cells : (m : Bytes) (a : ℕ) (cs : List Cell) → CellsAreAt xs m a cs → CellsAre xs cs (bytes_from m a (length cs))
  unfolding bytes_from
  at-cells m a [] h = tt
  at-cells m a (c ∷ cs) h = (h.0, at-cells m (suc a) cs h.1)

  -- bytes that are as before
  pub at-kept : (m k : Bytes) (a : ℕ) (cs : List Cell) → ((y : ℕ) → a ≤ y → y < a + length cs → k y ≡ m y) → CellsAreAt xs m a cs → CellsAreAt xs k a cs
  at-kept m k a [] same h = tt
  at-kept m k a (c ∷ cs) same h =
      let e : k a ≡ m a = same a (omega arith) (omega arith) in
      (subst (λ x. CellIs xs c x) (sym e) h.0, at-kept m k (suc a) cs (λ y le lt. same y (omega arith) (omega arith)) h.1)

  -- bytes that are put
  pub at-put : (cs : List Cell) (bs : List ℕ) (m : Bytes) (a : ℕ) → CellsAre xs cs bs → CellsAreAt xs (put_bytes m a bs) a cs
  at-put [] [] m a h = tt
  at-put [] (b ∷ bs) m a h = absurd h
  at-put (c ∷ cs) [] m a h = absurd h
  at-put (c ∷ cs) (b ∷ bs) m a h = (
    subst (CellIs xs c) (sym (put-here b bs m a)) h.0,
    at-kept (put_bytes m (suc a) bs) (put_bytes m a (b ∷ bs)) (suc a) cs (λ y le lt. put-step b bs m a y le) (at-put cs bs m (suc a) h.1),
  )

  pub cells-length : (cs : List Cell) (bs : List ℕ) → CellsAre xs cs bs → length bs ≡ length cs
  cells-length [] [] h = refl
  cells-length [] (b ∷ bs) h = absurd h
  cells-length (c ∷ cs) [] h = absurd h
  cells-length (c ∷ cs) (b ∷ bs) h = ap suc (cells-length cs bs h.1)

  -- a row of cells that were never written stands anywhere
  pub at-empty : (m : Bytes) (a : ℕ) (cs : List Cell) → ((k : ℕ) (c : Cell) → slice_get cs k ≡ Some c → c ≡ Empty) → CellsAreAt xs m a cs
  at-empty m a [] h = tt
  at-empty m a (c ∷ cs) h =
      (subst (λ d. CellIs xs d (m a)) (sym (h 0 c refl)) tt, at-empty m (suc a) cs (λ k d e. h (suc k) d e))

-- ---- more extents

module _ (xs ys : Extents) (more : MoreExtents xs ys) where
  pub address-stays : (p : Ptr) (w : ℕ) → IsAddressOf xs p w → IsAddressOf ys p w
  address-stays p w h = record {
    extent = h.extent;
    made = more p.object h.extent h.made;
    sound = h.sound;
    at = h.at;
    offset = h.offset;
    within = h.within;
    place = h.place;
  }

  pub value-stays : (v : Value) (w : ℕ) → ValueIs xs v w → ValueIs ys v w
  value-stays (Word n) w h = h
  value-stays (Address p) w h = address-stays p w h
  value-stays Unset w h = tt

  cell-stays : (c : Cell) (b : ℕ) → CellIs xs c b → CellIs ys c b
  cell-stays Empty b h = tt
  cell-stays (Byte n) b h = h
  cell-stays (Part p k) b h = (h.0, address-stays p h.0 h.1, h.2)

  pub cells-stay : (cs : List Cell) (bs : List ℕ) → CellsAre xs cs bs → CellsAre ys cs bs
  cells-stay [] [] h = tt
  cells-stay [] (b ∷ bs) h = absurd h
  cells-stay (c ∷ cs) [] h = absurd h
  cells-stay (c ∷ cs) (b ∷ bs) h = (cell-stays c b h.0, cells-stay cs bs h.1)

  pub at-stays : (m : Bytes) (a : ℕ) (cs : List Cell) → CellsAreAt xs m a cs → CellsAreAt ys m a cs
  at-stays m a [] h = tt
  at-stays m a (c ∷ cs) h = (cell-stays c (m a) h.0, at-stays m (suc a) cs h.1)
