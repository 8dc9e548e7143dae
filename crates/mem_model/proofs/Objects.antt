-- Objects that begin and end.
use Rattle.std.proofs.Common.{◌≡◌, ◌≢◌, ℕ, zero, suc, ◌+◌, ◌<◌, ◌≤◌, ◌⊎◌, Bool, true, List, [], ◌∷◌, length, length-append, refl, sym, ap, ◌∙◌, arith, inl, inr, length-set}
use Rattle.std.specs.Prelude.{slice_index}
use Rattle.std.proofs.lemmas.Bool.{cases_lt}
use Rattle.std.proofs.lemmas.List.{get_or_past, get_or-set_same, get_or-set_other, get_or_push, get_or_append_left}
use Rattle.mem_model.specs.Memory.{Memory, object_at, no_object, fresh_object, begin_object, end_object, begin_objects, end_objects}
use Rattle.mem_model.specs.Laws.{EndChanges, BeginChanges, BeginsChange, EndsChange}

pub no_object_past : (m : Memory) (id : ℕ) → length m ≤ id → object_at m id ≡ no_object
no_object_past m id past = get_or_past m id no_object past

pub length-begin : (m : Memory) (size : ℕ) (writable : Bool) → length (begin_object m size writable) ≡ length m + 1
length-begin m size writable = length-append m (fresh_object size writable ∷ [])

pub begin_changes : (m : Memory) (size : ℕ) (writable : Bool) → BeginChanges m size writable
begin_changes m size writable = record {
  count = length-begin m size writable;
  here = get_or_push m (fresh_object size writable) no_object (length m) refl;
  others = λ k ne. elim (cases_lt k (length m)) [
    | inl below ↦ get_or_append_left m (fresh_object size writable ∷ []) no_object k below
    | inr above ↦ no_object_past (begin_object m size writable) k (omega (arith, length-begin m size writable)) ∙ sym (no_object_past m k above)
  ];
}

pub end_changes : (m : Memory) (id : ℕ) → EndChanges m id
end_changes m id = record {
  count = length-set m id no_object;
  here = elim (cases_lt id (length m)) [
    | inl below ↦ get_or-set_same m id no_object no_object below
    | inr above ↦ no_object_past (end_object m id) id (omega (arith, length-set m id no_object))
  ];
  others = λ k ne. get_or-set_other m id k no_object no_object ne;
}

pub length-begins : (m : Memory) (sizes : List ℕ) → length (begin_objects m sizes) ≡ length m + length sizes
length-begins m [] = omega arith
length-begins m (size ∷ sizes) = omega (arith, length-begins (begin_object m size true) sizes, length-begin m size true)

begins-others : (m : Memory) (sizes : List ℕ) (k : ℕ) → (k < length m) ⊎ (length m + length sizes ≤ k) → object_at (begin_objects m sizes) k ≡ object_at m k
begins-others m [] k apart = refl
begins-others m (size ∷ sizes) k (inl below) =
    let ne : k ≢ length m = omega arith in
    begins-others (begin_object m size true) sizes k (inl (omega (arith, length-begin m size true))) ∙ (begin_changes m size true).others k ne
begins-others m (size ∷ sizes) k (inr above) =
    let ne : k ≢ length m = omega arith in
    begins-others (begin_object m size true) sizes k (inr (omega (arith, length-begin m size true))) ∙ (begin_changes m size true).others k ne

begins-here : (m : Memory) (sizes : List ℕ) (k : ℕ) → k < length sizes → object_at (begin_objects m sizes) (length m + k) ≡ fresh_object (slice_index sizes k) true
begins-here m [] k below = absurd (omega arith)
begins-here m (size ∷ sizes) zero below =
    let nought : length m + 0 ≡ length m = omega arith in
    ap (object_at (begin_objects (begin_object m size true) sizes)) nought
    ∙ begins-others (begin_object m size true) sizes (length m) (inl (omega (arith, length-begin m size true))) ∙ (begin_changes m size true).here
begins-here m (size ∷ sizes) (suc k) below =
    let next : length m + suc k ≡ length (begin_object m size true) + k = omega (arith, length-begin m size true) in
    ap (object_at (begin_objects (begin_object m size true) sizes)) next ∙ begins-here (begin_object m size true) sizes k (omega arith)

pub begins_change : (m : Memory) (sizes : List ℕ) → BeginsChange m sizes
begins_change m sizes = record { count = length-begins m sizes; here = begins-here m sizes; others = begins-others m sizes }

pub length-ends : (m : Memory) (first count : ℕ) → length (end_objects m first count) ≡ length m
length-ends m first zero = refl
length-ends m first (suc count) = length-ends (end_object m first) (suc first) count ∙ length-set m first no_object

ends-others : (m : Memory) (first count k : ℕ) → (k < first) ⊎ (first + count ≤ k) → object_at (end_objects m first count) k ≡ object_at m k
ends-others m first zero k apart = refl
ends-others m first (suc count) k (inl below) =
    let ne : k ≢ first = omega arith in ends-others (end_object m first) (suc first) count k (inl (omega arith)) ∙ (end_changes m first).others k ne
ends-others m first (suc count) k (inr above) =
    let ne : k ≢ first = omega arith in ends-others (end_object m first) (suc first) count k (inr (omega arith)) ∙ (end_changes m first).others k ne

ends-here : (m : Memory) (first count k : ℕ) → k < count → object_at (end_objects m first count) (first + k) ≡ no_object
ends-here m first zero k below = absurd (omega arith)
ends-here m first (suc count) zero below =
    let nought : first + 0 ≡ first = omega arith in
    ap (object_at (end_objects (end_object m first) (suc first) count)) nought
    ∙ ends-others (end_object m first) (suc first) count first (inl (omega arith)) ∙ (end_changes m first).here
ends-here m first (suc count) (suc k) below =
    let next : first + suc k ≡ suc first + k = omega arith in
    ap (object_at (end_objects (end_object m first) (suc first) count)) next ∙ ends-here (end_object m first) (suc first) count k (omega arith)

pub ends_change : (m : Memory) (first count : ℕ) → EndsChange m first count
ends_change m first count = record { count_is = length-ends m first count; here = ends-here m first count; others = ends-others m first count }
