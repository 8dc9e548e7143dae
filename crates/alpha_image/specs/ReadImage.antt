-- What a refusal of bytes as an image says.
use Rattle.std.specs.Prelude.{◌≡◌, ℕ, List, Some, None}
use Rattle.bk_memory.specs.Shortage.{MemoryIsShort}
use Rattle.alpha_image.specs.declared.read.ImageFault.{ImageFault}
use Rattle.alpha_image.specs.declared.read.ImageFault.TheVariants.{BadImage, NoMemory}
use Rattle.alpha_image.specs.ImageFault.{image_fault}

-- the place is where the bytes stop being an image; for want of memory, where memory is short, only bytes are refused
-- that have no such place
abbrev pub IsImageFault : ImageFault → List ℕ → Type 0
IsImageFault (BadImage at) bytes = image_fault bytes ≡ Some at
IsImageFault NoMemory bytes = (image_fault bytes ≡ None) × MemoryIsShort
