-- A front that is longer than any image has the fault of the whole, and a front that is an image is the whole.
use Rattle.std.proofs.Common.{◌≡◌, ℕ, List, inl, inr, Option, Some, None, length, refl, sym, ◌∙◌, ap, subst, arith, length-take}
use Rattle.std.specs.Prelude.{IfSome}
use Rattle.bk_io.specs.Shelf.{Shelf, file_of}
use Rattle.alpha_isa.specs.Program.{Program}
use Rattle.alpha_isa.specs.ImageFormat.{IsImage}
use Rattle.alpha_image.specs.ImageFault.{image_fault}
use Rattle.alpha_image.specs.declared.read.ImageFault.{ImageFault}
use Rattle.alpha_image.specs.declared.read.ImageFault.TheVariants as fault
use Rattle.alpha_image.specs.ReadImage.{IsImageFault}
use Rattle.alpha_image.proofs.ImageFronts.{front_fault}
use Rattle.alpha_image.proofs.ImageLaws.{longest}
use Rattle.call_images.specs.model.Causes.{outcome_of_image_fault}
use Rattle.call_images.specs.RunImage.{RefusesBytes, HoldsImage}
use Rattle.call_images.specs.model.ImageLimit.{image_limit}
use Rattle.call_outcomes.specs.FromFile.{IsCause, IsFront, file_bytes}
use Rattle.call_outcomes.specs.Output.{file_faults_after}
use Rattle.call_outcomes.specs.declared.outcome.Outcome.TheVariants.{FileFault}

fault_is : (file bytes : List ℕ) (at : ℕ) → IsFront image_limit file bytes → image_fault bytes ≡ Some at → image_fault file ≡ Some at
fault_is file bytes at front e = elim front [
  | inl w ↦ ap image_fault (sym w.0) ∙ e
  | inr w ↦ sym (front_fault file w.1) ∙ ap image_fault (sym w.0) ∙ e
]

image_is : (file bytes : List ℕ) (p : Program) → IsFront image_limit file bytes → IsImage bytes p → IsImage file p
image_is file bytes p front is = elim front [
  | inl w ↦ subst (λ b. IsImage b p) w.0 is
  | inr w ↦ absurd (omega (arith, longest bytes p is, ap length w.0, length-take image_limit file, w.1))
]

-- the same of a file that may be told
fault_told : (told : Option Shelf) (name bytes : List ℕ) (at : ℕ) → IfSome told (λ shelf. IsFront image_limit (file_of shelf name) bytes) → image_fault bytes ≡ Some at → IfSome (file_bytes told name) (λ b. image_fault b ≡ Some at)
fault_told None name bytes at front e = tt
fault_told (Some shelf) name bytes at front e = fault_is (file_of shelf name) bytes at front e

pub image_told : (told : Option Shelf) (name bytes : List ℕ) (p : Program) → IfSome told (λ shelf. IsFront image_limit (file_of shelf name) bytes) → IsImage bytes p → HoldsImage (file_bytes told name) p
image_told None name bytes p front is = tt
image_told (Some shelf) name bytes p front is = image_is (file_of shelf name) bytes p front is

-- why there is no image in a file
pub bytes_cause : (told : Option Shelf) (name bytes : List ℕ) (f : ImageFault) → IfSome told (λ shelf. IsFront image_limit (file_of shelf name) bytes) → IsImageFault f bytes → IsCause (RefusesBytes (file_bytes told name)) (outcome_of_image_fault f)
bytes_cause told name bytes (fault.BadImage at) front e = fault_told told name bytes at front e
bytes_cause told name bytes fault.NoMemory front e = inl e.1

pub no_file_fault : (f : ImageFault) → outcome_of_image_fault f ≡ FileFault → ⊥
no_file_fault (fault.BadImage at) e = cc
no_file_fault fault.NoMemory e = cc

pub same_count : (f : ImageFault) (n : ℕ) → file_faults_after (outcome_of_image_fault f) n ≡ n
same_count (fault.BadImage at) n = refl
same_count fault.NoMemory n = refl
