-- The tests along objects: one more, and what they decide.
use Rattle.std.proofs.Common.{◌≡◌, ℕ, suc, ◌+◌, ◌-◌, ◌<◌, ◌≤◌, Bool, true, false, List, [], ◌∷◌, refl, sym, ap, ◌∙◌, subst, length, drop, get_or, map, arith}
use Rattle.std.specs.Prelude.{◌&&◌, ◌==◌, nat_le, IsTrue, ◌↔◌, slice_get}
use Rattle.std.proofs.lemmas.Bool.{le-leb, lt-leb, eq-eqb, ne_eqb, leb-true, eqb-true, and_parts, and_from}
use Rattle.std.proofs.lemmas.List.{at_drop_more, at_drop_all}
use Rattle.mem_objects.specs.declared.DataObject.{DataObject}
use Rattle.mem_objects.specs.Layout.{place_after, ObjectsLieFrom, end_of, data_end}
use Rattle.pass_core.specs.declared.function.MemoryLocal.{MemoryLocal}
use Rattle.frame_memory.specs.flat_frames.Shapes.{objects_size}
use Rattle.frame_checks.specs.model.Storage.{lie_from, are_small_from}

abbrev most : ℕ
most = 67108864

-- ---- memory locals

module _ (xs : List MemoryLocal) (i end : ℕ) (x : MemoryLocal) (is : x ≡ get_or xs i x) (within : i < length xs) where
  abbrev small_rest : Bool
  small_rest = are_small_from (end + place_after x.size) (drop (i + 1) xs)

  small_here : are_small_from end (drop i xs) ≡ (nat_le x.size most && (nat_le (end + place_after x.size) most && small_rest))
  small_here = at_drop_more (are_small_from end) xs i x within ∙ ap (λ (y : MemoryLocal). nat_le y.size most && (nat_le (end + place_after y.size) most && are_small_from (end + place_after y.size) (drop (i + 1) xs))) (sym is)

  pub small_large : most < x.size → are_small_from end (drop i xs) ≡ false
  small_large lt = small_here ∙ ap (λ b. b && (nat_le (end + place_after x.size) most && small_rest)) (lt-leb x.size most lt)

  module _ (le : x.size ≤ most) where
    small_so_far : are_small_from end (drop i xs) ≡ (nat_le (end + place_after x.size) most && small_rest)
    small_so_far = small_here ∙ ap (λ b. b && (nat_le (end + place_after x.size) most && small_rest)) (le-leb x.size most le)

    pub small_past : most < end + place_after x.size → are_small_from end (drop i xs) ≡ false
    small_past lt = small_so_far ∙ ap (λ b. b && small_rest) (lt-leb (end + place_after x.size) most lt)

    pub small_next : end + place_after x.size ≤ most → are_small_from end (drop i xs) ≡ are_small_from (end + place_after x.size) (drop (i + 1) xs)
    small_next fits = small_so_far ∙ ap (λ b. b && small_rest) (le-leb (end + place_after x.size) most fits)

pub small_end : (xs : List MemoryLocal) (i end : ℕ) → length xs ≤ i → are_small_from end (drop i xs) ≡ true
small_end xs i end past = at_drop_all (are_small_from end) xs i past

small-from : (end : ℕ) (xs : List MemoryLocal) → are_small_from end xs ≡ true → end ≤ most → end + objects_size (map (λ o. o.size) xs) ≤ most
small-from end [] e le = omega (arith, le)
small-from end (x ∷ xs) e le =
    let a = (and_parts (nat_le x.size most) (nat_le (end + place_after x.size) most && are_small_from (end + place_after x.size) xs) e).1 in
    let b = and_parts (nat_le (end + place_after x.size) most) (are_small_from (end + place_after x.size) xs) a in
    let rest = small-from (end + place_after x.size) xs b.1 (leb-true (end + place_after x.size) most b.0) in
    omega (arith, rest)

small-if : (end : ℕ) (xs : List MemoryLocal) → end + objects_size (map (λ o. o.size) xs) ≤ most → are_small_from end xs ≡ true
small-if end [] h = refl
small-if end (x ∷ xs) h =
    and_from (nat_le x.size most) (nat_le (end + place_after x.size) most && are_small_from (end + place_after x.size) xs)
    (le-leb x.size most (omega (arith, h)))
    (and_from (nat_le (end + place_after x.size) most) (are_small_from (end + place_after x.size) xs)
    (le-leb (end + place_after x.size) most (omega (arith, h)))
    (small-if (end + place_after x.size) xs (omega (arith, h))))

pub small_decides : (xs : List MemoryLocal) → IsTrue (are_small_from 0 xs) ↔ (objects_size (map (λ o. o.size) xs) ≤ most)
small_decides xs = (
  λ e. let h = small-from 0 xs e (omega arith) in omega (arith, h),
  λ h. small-if 0 xs (omega (arith, h)),
)

-- ---- objects of static storage

module _ (xs : List DataObject) (i end : ℕ) (x : DataObject) (is : x ≡ get_or xs i x) (within : i < length xs) where
  abbrev lie_rest : Bool
  lie_rest = lie_from (x.offset + x.size) (drop (i + 1) xs)

  lie_here : lie_from end (drop i xs) ≡ (nat_le x.size most && (x.offset == place_after end && (nat_le (x.offset + x.size) most && lie_rest)))
  lie_here = at_drop_more (lie_from end) xs i x within ∙ ap (λ (y : DataObject). nat_le y.size most && (y.offset == place_after end && (nat_le (y.offset + y.size) most && lie_from (y.offset + y.size) (drop (i + 1) xs)))) (sym is)

  pub lie_large : most < x.size → lie_from end (drop i xs) ≡ false
  lie_large lt = lie_here ∙ ap (λ b. b && (x.offset == place_after end && (nat_le (x.offset + x.size) most && lie_rest))) (lt-leb x.size most lt)

  module _ (le : x.size ≤ most) where
    lie_small : lie_from end (drop i xs) ≡ (x.offset == place_after end && (nat_le (x.offset + x.size) most && lie_rest))
    lie_small = lie_here ∙ ap (λ b. b && (x.offset == place_after end && (nat_le (x.offset + x.size) most && lie_rest))) (le-leb x.size most le)

    pub lie_elsewhere : (x.offset ≡ place_after end → ⊥) → lie_from end (drop i xs) ≡ false
    lie_elsewhere ne = lie_small ∙ ap (λ b. b && (nat_le (x.offset + x.size) most && lie_rest)) (ne_eqb x.offset (place_after end) ne)

    module _ (at : x.offset ≡ place_after end) where
      lie_so_far : lie_from end (drop i xs) ≡ (nat_le (x.offset + x.size) most && lie_rest)
      lie_so_far = lie_small ∙ ap (λ b. b && (nat_le (x.offset + x.size) most && lie_rest)) (eq-eqb x.offset (place_after end) at)

      pub lie_past : most < x.offset + x.size → lie_from end (drop i xs) ≡ false
      lie_past lt = lie_so_far ∙ ap (λ b. b && lie_rest) (lt-leb (x.offset + x.size) most lt)

      pub lie_next : x.offset + x.size ≤ most → lie_from end (drop i xs) ≡ lie_from (x.offset + x.size) (drop (i + 1) xs)
      lie_next fits = lie_so_far ∙ ap (λ b. b && lie_rest) (le-leb (x.offset + x.size) most fits)

pub lie_end : (xs : List DataObject) (i end : ℕ) → length xs ≤ i → lie_from end (drop i xs) ≡ true
lie_end xs i end past = at_drop_all (lie_from end) xs i past

-- each end within the most data
abbrev LieWithin : (end : ℕ) → List DataObject → Type 0
LieWithin end [] = end ≤ most
LieWithin end (o ∷ os) = (o.offset ≡ place_after end) × LieWithin (o.offset + o.size) os

within-end : (end : ℕ) (xs : List DataObject) → LieWithin end xs → end ≤ most
within-end end [] h = h
within-end end (x ∷ xs) h =
    let at = h.0 in
    let rest = within-end (x.offset + x.size) xs h.1 in
    omega (arith, at, rest)

lie-from : (end : ℕ) (xs : List DataObject) → lie_from end xs ≡ true → end ≤ most → LieWithin end xs
lie-from end [] e le = le
lie-from end (x ∷ xs) e le =
    let a = (and_parts (nat_le x.size most) (x.offset == place_after end && (nat_le (x.offset + x.size) most && lie_from (x.offset + x.size) xs)) e).1 in
    let b = and_parts (x.offset == place_after end) (nat_le (x.offset + x.size) most && lie_from (x.offset + x.size) xs) a in
    let d = and_parts (nat_le (x.offset + x.size) most) (lie_from (x.offset + x.size) xs) b.1 in
    (eqb-true x.offset (place_after end) b.0, lie-from (x.offset + x.size) xs d.1 (leb-true (x.offset + x.size) most d.0))

lie-if : (end : ℕ) (xs : List DataObject) → LieWithin end xs → lie_from end xs ≡ true
lie-if end [] h = refl
lie-if end (x ∷ xs) h =
    let fits = within-end (x.offset + x.size) xs h.1 in
    and_from (nat_le x.size most) (x.offset == place_after end && (nat_le (x.offset + x.size) most && lie_from (x.offset + x.size) xs))
    (le-leb x.size most (omega (arith, fits)))
    (and_from (x.offset == place_after end) (nat_le (x.offset + x.size) most && lie_from (x.offset + x.size) xs)
    (eq-eqb x.offset (place_after end) h.0)
    (and_from (nat_le (x.offset + x.size) most) (lie_from (x.offset + x.size) xs)
    (le-leb (x.offset + x.size) most fits)
    (lie-if (x.offset + x.size) xs h.1)))

-- the end of the last one
end-next : (x y : DataObject) (xs : List DataObject) → data_end (x ∷ y ∷ xs) ≡ data_end (y ∷ xs)
end-next x y xs = let e : suc (suc (length xs)) - 1 ≡ suc (suc (length xs) - 1) = omega arith in ap (λ k. end_of (slice_get (x ∷ y ∷ xs) k)) e

later : (end : ℕ) (y : DataObject) (xs : List DataObject) → ObjectsLieFrom end (y ∷ xs) → data_end (y ∷ xs) ≤ most → LieWithin end (y ∷ xs)
later end y [] h last = (h.0, last)
later end y (z ∷ xs) h last = (h.0, later (y.offset + y.size) z xs h.1 (subst (λ n. n ≤ most) (end-next y z xs) last))

lies-within : (end : ℕ) (xs : List DataObject) → ObjectsLieFrom end xs → end ≤ most → data_end xs ≤ most → LieWithin end xs
lies-within end [] h le last = le
lies-within end (x ∷ xs) h le last = later end x xs h last

within-lies : (end : ℕ) (xs : List DataObject) → LieWithin end xs → ObjectsLieFrom end xs
within-lies end [] h = tt
within-lies end (x ∷ xs) h = (h.0, within-lies (x.offset + x.size) xs h.1)

within-last : (end : ℕ) (x : DataObject) (xs : List DataObject) → LieWithin end (x ∷ xs) → data_end (x ∷ xs) ≤ most
within-last end x [] h = h.1
within-last end x (y ∷ xs) h = subst (λ n. n ≤ most) (sym (end-next x y xs)) (within-last (x.offset + x.size) y xs h.1)

pub lie_decides : (xs : List DataObject) → IsTrue (lie_from 0 xs) ↔ (ObjectsLieFrom 0 xs × (data_end xs ≤ most))
lie_decides xs = (
  λ e. let h = lie-from 0 xs e (omega arith) in (within-lies 0 xs h, last xs h),
  λ h. lie-if 0 xs (lies-within 0 xs h.0 (omega arith) h.1),
)
  where
    last : (xs : List DataObject) → LieWithin 0 xs → data_end xs ≤ most
    last [] h = omega arith
    last (x ∷ xs) h = within-last 0 x xs h
