-- What holds of the bytes that were read of a file holds of the whole file, where it is told.
use Rattle.std.proofs.Common.{◌≡◌, ℕ, ◌≤◌, ◌<◌, List, inl, inr, length, take, ap, subst, arith, length-take, Option, Some, None, IfSome}
use Rattle.bk_io.specs.Shelf.{Shelf, file_of}
use Rattle.call_outcomes.specs.declared.outcome.Outcome.{Outcome}
use Rattle.call_outcomes.specs.declared.outcome.Outcome.TheVariants.{FileFault, NoMemory}
use Rattle.call_outcomes.specs.FromFile.{file_bytes, IsFront, IsCause}

-- a front below the limit is the whole file
pub short_front : (limit : ℕ) (file text : List ℕ) → text ≡ take limit file → limit ≤ length file → length text < limit → ⊥
short_front limit file text front long within = omega (arith, within, ap length front, length-take limit file, long)

whole_file : (P : List ℕ → Type 0) (limit : ℕ) (file text : List ℕ) → length text < limit → IsFront limit file text → P text → P file
whole_file P limit file text within front p = elim front [
  | inl w ↦ subst P w.0 p
  | inr w ↦ absurd (short_front limit file text w.0 w.1 within)
]

pub short_told : (P : List ℕ → Type 0) (limit : ℕ) (told : Option Shelf) (name text : List ℕ) → length text < limit → IfSome told (λ shelf. IsFront limit (file_of shelf name) text) → P text → IfSome (file_bytes told name) P
short_told P limit None name text within front p = tt
short_told P limit (Some shelf) name text within front p = whole_file P limit (file_of shelf name) text within front p

-- where so many bytes were read, the file has as many
long_file : (limit : ℕ) (file text : List ℕ) → limit ≤ length text → IsFront limit file text → limit ≤ length file
long_file limit file text long front = elim front [
  | inl w ↦ absurd (omega (arith, w.1, ap length w.0, long))
  | inr w ↦ w.1
]

pub long_told : (P : List ℕ → Type 0) (limit : ℕ) (told : Option Shelf) (name text : List ℕ) → ((file : List ℕ) → limit ≤ length file → P file) → limit ≤ length text → IfSome told (λ shelf. IsFront limit (file_of shelf name) text) → IfSome (file_bytes told name) P
long_told P limit None name text holds long front = tt
long_told P limit (Some shelf) name text holds long front = holds (file_of shelf name) (long_file limit (file_of shelf name) text long front)

-- a cause that is none of what the file holds is one whatever is refused
pub any_cause : (refuses : Outcome → Type 0) (o : Outcome) → IsCause (λ _. ⊥) o → IsCause refuses o
any_cause refuses FileFault h = tt
any_cause refuses NoMemory (inl short) = inl short
any_cause refuses NoMemory (inr none) = absurd none
any_cause refuses _ h = absurd h
