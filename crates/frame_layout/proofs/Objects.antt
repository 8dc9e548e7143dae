-- One more object.
use Rattle.std.proofs.Common.{◌≡◌, ℕ, zero, suc, ◌+◌, ◌<◌, ◌≤◌, ◌^◌, List, [], ◌∷◌, ◌++◌, length, get_or, map, take, refl, ap, sym, ◌∙◌, arith}
use Rattle.mem_objects.specs.Layout.{place_after}
use Rattle.pass_core.specs.declared.function.MemoryLocal.{MemoryLocal}
use Rattle.frame_memory.specs.flat_frames.Shapes.{bytes_before, objects_size}

abbrev pub sizes_of : List MemoryLocal → List ℕ
sizes_of objects = map (λ o. o.size) objects

no-bytes : (k : ℕ) → bytes_before [] k ≡ 0
no-bytes zero = refl
no-bytes (suc k) = refl

-- the places of the objects before it, and its own
pub places_more : (ps ns : List ℕ) (start end n : ℕ) → length ps ≡ length ns → ((k : ℕ) → get_or ps k end ≡ start + bytes_before ns k)
    → (k : ℕ) → get_or (ps ++ end ∷ []) k (end + place_after n) ≡ start + bytes_before (ns ++ n ∷ []) k
places_more [] [] start end n e h zero = h 0
places_more [] [] start end n e h (suc k) = let first = h 0 in let none = no-bytes k in omega (arith, first, none)
places_more [] (m ∷ ns) start end n e h k = absurd (omega (arith, e))
places_more (p ∷ ps) [] start end n e h k = absurd (omega (arith, e))
places_more (p ∷ ps) (m ∷ ns) start end n e h zero = h 0
places_more (p ∷ ps) (m ∷ ns) start end n e h (suc k) =
    let more = places_more ps ns (start + place_after m) end n (omega (arith, e)) (λ j. let g = h (suc j) in omega (arith, g)) k in
    omega (arith, more)

size-more : (ns : List ℕ) (n : ℕ) → objects_size (ns ++ n ∷ []) ≡ objects_size ns + place_after n
size-more [] n = omega arith
size-more (m ∷ ns) n = let h = size-more ns n in omega (arith, h)

sizes-more : (xs : List MemoryLocal) (i : ℕ) (x : MemoryLocal) → i < length xs → x ≡ get_or xs i x → sizes_of (take (suc i) xs) ≡ sizes_of (take i xs) ++ x.size ∷ []
sizes-more [] i x lt is = absurd (omega (arith, lt))
sizes-more (y ∷ xs) zero x lt is = ap (λ z. z.size ∷ []) (sym is)
sizes-more (y ∷ xs) (suc i) x lt is = ap (λ ns. y.size ∷ ns) (sizes-more xs i x (omega (arith, lt)) is)

size-part : (xs : List MemoryLocal) (i : ℕ) → objects_size (sizes_of (take i xs)) ≤ objects_size (sizes_of xs)
size-part [] zero = omega arith
size-part [] (suc i) = omega arith
size-part (x ∷ xs) zero = omega arith
size-part (x ∷ xs) (suc i) = let h = size-part xs i in omega (arith, h)

sizes-count : (xs : List MemoryLocal) (i : ℕ) → i ≤ length xs → length (sizes_of (take i xs)) ≡ i
sizes-count xs zero le = refl
sizes-count [] (suc i) le = absurd (omega (arith, le))
sizes-count (x ∷ xs) (suc i) le = ap suc (sizes-count xs i (omega (arith, le)))

-- so much fits
pub object_small : (xs : List MemoryLocal) (i start end : ℕ) (x : MemoryLocal) → i < length xs → x ≡ get_or xs i x → end ≡ start + objects_size (sizes_of (take i xs))
    → objects_size (sizes_of xs) ≤ 2 ^ 26 → start ≤ 2 ^ 30 → (x.size ≤ 2 ^ 26) × (end + place_after x.size ≤ 2 ^ 31)
object_small xs i start end x lt is at small near =
    let a = size-part xs (suc i) in
    let b : objects_size (sizes_of (take (suc i) xs)) ≡ objects_size (sizes_of (take i xs)) + place_after x.size =
    ap objects_size (sizes-more xs i x lt is) ∙ size-more (sizes_of (take i xs)) x.size in
    (omega (arith, a, b, at, small, near), omega (arith, a, b, at, small, near))

pub end_next : (xs : List MemoryLocal) (i next start end : ℕ) (x : MemoryLocal) → next ≡ i + 1 → i < length xs → x ≡ get_or xs i x → end ≡ start + objects_size (sizes_of (take i xs))
    → end + place_after x.size ≡ start + objects_size (sizes_of (take next xs))
end_next xs i next start end x n lt is at =
    let e : next ≡ suc i = omega (arith, n) in
    let b : objects_size (sizes_of (take next xs)) ≡ objects_size (sizes_of (take i xs)) + place_after x.size =
    ap (λ j. objects_size (sizes_of (take j xs))) e ∙ ap objects_size (sizes-more xs i x lt is) ∙ size-more (sizes_of (take i xs)) x.size in
    omega (arith, b, at)

pub places_next : (xs : List MemoryLocal) (i next start end : ℕ) (x : MemoryLocal) (ps : List ℕ) → next ≡ i + 1 → i < length xs → x ≡ get_or xs i x → length ps ≡ i
    → ((k : ℕ) → get_or ps k end ≡ start + bytes_before (sizes_of (take i xs)) k)
    → (k : ℕ) → get_or (ps ++ end ∷ []) k (end + place_after x.size) ≡ start + bytes_before (sizes_of (take next xs)) k
places_next xs i next start end x ps n lt is count h k =
    let e : next ≡ suc i = omega (arith, n) in
    let c = sizes-count xs i (omega (arith, lt)) in
    places_more ps (sizes_of (take i xs)) start end x.size (count ∙ sym c) h k
    ∙ ap (λ ns. start + bytes_before ns k) (sym (ap (λ j. sizes_of (take j xs)) e ∙ sizes-more xs i x lt is))

pub any_default : (xs : List MemoryLocal) (k : ℕ) (d e : MemoryLocal) → k < length xs → get_or xs k d ≡ get_or xs k e
any_default [] k d e lt = absurd (omega (arith, lt))
any_default (x ∷ xs) zero d e lt = refl
any_default (x ∷ xs) (suc k) d e lt = any_default xs k d e (omega (arith, lt))
