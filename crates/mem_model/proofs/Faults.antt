-- Lists of faults, by which test holds first.
use Rattle.std.proofs.Common.{◌≡◌, ℕ, Bool, true, false, List, [], ◌∷◌, None, refl}
use Rattle.mem_model.specs.Memory.{Memory, is_gone, is_outside, is_misaligned, is_read_only, first_fault, range_fault, read_fault, write_fault}
use Rattle.mem_model.specs.declared.value.Ptr.{Ptr}
use Rattle.mem_model.specs.declared.value.MemFault.{MemFault}
use Rattle.mem_model.specs.declared.value.MemFault.TheVariants.{NoObject, Outside, Misaligned, ReadOnly}

pub skips : (a : Bool) (x : MemFault) (xs : List (Bool × MemFault)) → a ≡ false → first_fault ((a, x) ∷ xs) ≡ first_fault xs
skips true x xs e = absurd (cc)
skips false x xs e = refl

-- the first of the tests holds not, and so on
pub none_first : (a : Bool) (x : MemFault) (xs : List (Bool × MemFault)) → first_fault ((a, x) ∷ xs) ≡ None → (a ≡ false) × (first_fault xs ≡ None)
none_first true x xs e = absurd (cc)
none_first false x xs e = (refl, e)

-- the object lives, and the range lies in it
pub record IsRange (m : Memory) (p : Ptr) (size : ℕ) : Type 0 where
  pub live : is_gone m p ≡ false
  pub within : is_outside m p size ≡ false

of_tests : (m : Memory) (p : Ptr) (size : ℕ) (xs : List (Bool × MemFault)) → first_fault ((is_gone m p, NoObject) ∷ (is_outside m p size, Outside) ∷ xs) ≡ None → IsRange m p size
of_tests m p size xs e =
    let one = none_first (is_gone m p) NoObject ((is_outside m p size, Outside) ∷ xs) e in
    let two = none_first (is_outside m p size) Outside xs one.1 in record { live = one.0; within = two.0 }

pub range_free : (m : Memory) (p : Ptr) (size : ℕ) → range_fault m p size ≡ None → IsRange m p size
range_free m p size e = of_tests m p size [] e

pub read_free : (m : Memory) (p : Ptr) (size align : ℕ) → read_fault m p size align ≡ None → IsRange m p size
read_free m p size align e = of_tests m p size ((is_misaligned p align, Misaligned) ∷ []) e

pub write_free : (m : Memory) (p : Ptr) (size align : ℕ) → write_fault m p size align ≡ None → IsRange m p size
write_free m p size align e = of_tests m p size ((is_misaligned p align, Misaligned) ∷ (is_read_only m p, ReadOnly) ∷ []) e
