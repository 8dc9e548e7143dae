-- What holds of the text that was read of a file holds of the file, where it is told.
use Rattle.std.proofs.Common.{◌≡◌, ℕ, ◌≤◌, List, inl, inr, length, Option, Some, IfSome, refl, arith}
use Rattle.bk_io.specs.Shelf.{Shelf, file_of}
use Rattle.call_outcomes.specs.declared.outcome.Outcome.{Outcome}
use Rattle.call_outcomes.specs.declared.outcome.Outcome.TheVariants.{FileFault, Refused, Limit, NoMemory}
use Rattle.call_outcomes.specs.declared.outcome.Which.{Which}
use Rattle.call_outcomes.specs.declared.outcome.Which.TheVariants.{Text, Nesting, Weight, Data}
use Rattle.call_outcomes.specs.FromFile.{IsCause, IsFront, file_bytes}
use Rattle.call_outcomes.proofs.Told.{short_told, long_told}
use Rattle.call_words.specs.declared.compile_options.Allocator.{Allocator}
use Rattle.compiler.specs.declared.built.Built.{Built}
use Rattle.compile_calls.specs.Built.{IsBuilt, HasBuilt}
use Rattle.compile_calls.specs.Compile.{MakesNothing, IsDeepText, RefusesText}

-- what was read of a file
abbrev pub IsReadOf : Option Shelf → (name text : List ℕ) → Type 0
IsReadOf told name text = IfSome told (λ shelf. IsFront 4194305 (file_of shelf name) text)

-- a fact of a text that is short enough
carry : (P : List ℕ → Type 0) (told : Option Shelf) (name text : List ℕ) → length text ≤ 4194304 → IsReadOf told name text → P text → IfSome (file_bytes told name) P
carry P told name text low front p = short_told P 4194305 told name text (omega (arith, low)) front p

pub built_told : (told : Option Shelf) (name text : List ℕ) (allocator : Allocator) (b : Built) → IsReadOf told name text → IsBuilt text allocator b → HasBuilt (file_bytes told name) allocator b
built_told told name text allocator b front is = record { text = text; is_told = carry (λ t. t ≡ text) told name text is.low front refl; is_built = is }

-- a text that is too long
too_long : (counted : ℕ) (told : Option Shelf) (name text : List ℕ) → IsReadOf told name text → MakesNothing text (Limit Text counted) → IfSome (file_bytes told name) (λ t. MakesNothing t (Limit Text counted))
too_long counted told name text front n = long_told (λ t. MakesNothing t (Limit Text counted)) 4194305 told name text (λ file long. (omega (arith, long), n.1)) (omega (arith, n.0)) front

limit_told : (told : Option Shelf) (name text : List ℕ) (which : Which) (counted : ℕ) → IsReadOf told name text → MakesNothing text (Limit which counted) → IfSome (file_bytes told name) (λ t. MakesNothing t (Limit which counted))
limit_told told name text Text counted front n = too_long counted told name text front n
limit_told told name text Nesting counted front n = carry (λ t. MakesNothing t (Limit Nesting counted)) told name text n.0 front n
limit_told told name text Weight counted front n = carry (λ t. MakesNothing t (Limit Weight counted)) told name text n.0 front n
limit_told told name text Data counted front n = carry (λ t. MakesNothing t (Limit Data counted)) told name text n.0 front n

pub cause_told : (told : Option Shelf) (name text : List ℕ) (answer : Outcome) → IsReadOf told name text → IsCause (RefusesText (Some text)) answer → IsCause (RefusesText (file_bytes told name)) answer
cause_told told name text FileFault front c = tt
cause_told told name text NoMemory front (inl short) = inl short
cause_told told name text NoMemory front (inr deep) = inr (carry IsDeepText told name text deep.0 front deep)
cause_told told name text (Refused source) front c = carry (λ t. MakesNothing t (Refused source)) told name text c.0 front c
cause_told told name text (Limit which counted) front c = limit_told told name text which counted front c
cause_told told name text _ front c = absurd c
