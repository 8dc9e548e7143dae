-- The objects of a called function lie in its frame.
use Rattle.std.proofs.Common.{◌≡◌, ℕ, zero, suc, ◌+◌, ◌%◌, List, [], ◌∷◌, ◌++◌, map, length, Some, refl, ap, ◌∙◌, arith}
use Rattle.std.specs.Prelude.{slice_get}
use Rattle.mem_objects.specs.Layout.{place_after}
use Rattle.frame_memory.specs.Relation.{Extent, Extents}
use Rattle.frame_memory.specs.flat_frames.Shapes.{bytes_before}
use Rattle.frame_simulation.specs.call_entries.Entering.{extents_from}

pub get-behind : (xs ys : Extents) (k : ℕ) → slice_get (xs ++ ys) (length xs + k) ≡ slice_get ys k
get-behind [] ys k = let e : 0 + k ≡ k = omega arith in ap (slice_get ys) e
get-behind (x ∷ xs) ys k =
    let e : length (x ∷ xs) + k ≡ suc (length xs + k) = omega arith in
    ap (slice_get (x ∷ (xs ++ ys))) e ∙ get-behind xs ys k

pub sizes-are : (sizes : List ℕ) (base : ℕ) → map (λ (e : Extent). e.size) (extents_from base sizes) ≡ sizes
sizes-are [] base = refl
sizes-are (n ∷ sizes) base = ap (λ l. n ∷ l) (sizes-are sizes (base + place_after n))

-- the extent of each object, by its size
pub extent-of : (sizes : List ℕ) (base k n : ℕ) → slice_get sizes k ≡ Some n → slice_get (extents_from base sizes) k ≡ Some (record { base = base + bytes_before sizes k; size = n })
extent-of [] base k n e = absurd (cc)
extent-of (m ∷ sizes) base zero n e =
    let is : m ≡ n = cc in
    let none : base ≡ base + 0 = omega arith in
    ap (λ z. Some (record { base = base; size = z })) is ∙ ap (λ z. Some (record { base = z; size = n })) none
extent-of (m ∷ sizes) base (suc k) n e =
    let f : base + place_after m + bytes_before sizes k ≡ base + (place_after m + bytes_before sizes k) = omega arith in
    extent-of sizes (base + place_after m) k n e ∙ ap (λ z. Some (record { base = z; size = n })) f

pub record SizeOf (sizes : List ℕ) (base k : ℕ) (x : Extent) : Type 0 where
  pub size : ℕ
  pub made : slice_get sizes k ≡ Some size
  pub is : x ≡ record { base = base + bytes_before sizes k; size = size }

pub size-of : (sizes : List ℕ) (base k : ℕ) (x : Extent) → slice_get (extents_from base sizes) k ≡ Some x → SizeOf sizes base k x
size-of [] base k x e = absurd (cc)
size-of (m ∷ sizes) base zero x e =
    let none : base ≡ base + 0 = omega arith in
    let is : x ≡ record { base = base; size = m } = cc in
    record { size = m; made = refl; is = is ∙ ap (λ z. record { base = z; size = m }) none }
size-of (m ∷ sizes) base (suc k) x e =
    let h = size-of sizes (base + place_after m) k x e in
    let f : base + place_after m + bytes_before sizes k ≡ base + (place_after m + bytes_before sizes k) = omega arith in
    record { size = h.size; made = h.made; is = h.is ∙ ap (λ z. record { base = z; size = h.size }) f }

-- objects lie at multiples of 8
pub before-whole : (sizes : List ℕ) (k : ℕ) → bytes_before sizes k % 8 ≡ 0
before-whole sizes zero = refl
before-whole [] (suc k) = refl
before-whole (n ∷ sizes) (suc k) = let h = before-whole sizes k in omega (arith, h)
