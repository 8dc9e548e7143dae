-- Bytes that hold an image are migrated.
use Rattle.std.proofs.Common.{◌≡◌, ◌≢◌, ◌⊎◌, ℕ, List, inl, inr, Option, Some, None, refl}
use Rattle.alpha_isa.specs.Program.{Program}
use Rattle.alpha_isa.specs.ImageFormat.{IsImage}
use Rattle.alpha_image.specs.ImageFault.{image_fault}
use Rattle.alpha_image.proofs.ImageLaws.{no_fault}
use Rattle.call_outcomes.specs.declared.outcome.Outcome.{Outcome}
use Rattle.call_outcomes.specs.declared.outcome.Outcome.TheVariants.{Built, FileFault, WriteFault, BadImage, NoMemory}
use Rattle.call_outcomes.specs.FromFile.{IsCause}
use Rattle.call_images.specs.RunImage.{RefusesBytes}
use Rattle.call_images.specs.MigrateImage.{Migrates}

pub no_refusal : (bytes : List ℕ) (at : ℕ) → image_fault bytes ≡ None → image_fault bytes ≡ Some at → ⊥
no_refusal bytes at none some = cc

by_cause : (bytes : List ℕ) (answer : Outcome) → image_fault bytes ≡ None → answer ≢ FileFault → IsCause (RefusesBytes (Some bytes)) answer → (answer ≡ Built) ⊎ (answer ≡ NoMemory)
by_cause bytes FileFault none other c = absurd (other refl)
by_cause bytes NoMemory none other c = inr refl
by_cause bytes (BadImage at) none other c = absurd (no_refusal bytes at none c)
by_cause bytes _ none other c = absurd c

pub migrated_image : (bytes : List ℕ) (p : Program) (answer : Outcome) (old new : Option (List ℕ)) → IsImage bytes p → Migrates (Some bytes) answer old new → answer ≢ FileFault → answer ≢ WriteFault → (answer ≡ Built) ⊎ (answer ≡ NoMemory)
migrated_image bytes p answer old new is migrates no_file no_write = elim migrates [
  | inl c ↦ by_cause bytes answer (no_fault bytes p is) no_file c.0
  | inr m ↦ elim m.2.2 [
    | inl none ↦ inr none.0
    | inr puts ↦ elim puts.1 [
      | inl all ↦ inl all.0
      | inr front ↦ absurd (no_write front.0)
    ]
  ]
]
