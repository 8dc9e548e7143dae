-- What a store of files tells, and what a read of a file gives.
use Rattle.std.specs.Prelude.{◌≡◌, ℕ, ◌<◌, ◌≤◌, List, [], ◌++◌, take, length, Result, Ok, Err, Option, unwrap_or, is_none, Bool, ◌||◌, nat_eq}
use Rattle.std.specs.List.{list_any}
use Rattle.bk_memory.specs.Shortage.{MemoryIsShort}
use Rattle.bk_io.specs.Outside.{next_count}
use Rattle.bk_io.specs.declared.outside.ReadExtent.{ReadExtent}
use Rattle.bk_io.specs.declared.outside.ReadExtent.TheVariants.{Whole, Cut}
use Rattle.bk_io.specs.declared.outside.FileFault.{FileFault}
use Rattle.bk_io.specs.declared.outside.FileFault.TheVariants.{Failed, NoMemory}

-- what a store of files tells: the bytes of each name, how many calls were made, and the numbers of
-- those that fail
pub record Shelf : Type 0 where
  pub bytes_of : List ℕ → Option (List ℕ)
  pub made : ℕ
  pub failing : List ℕ

-- the next read of this name fails: the name is not there, or the call's number is listed
abbrev pub is_due : Shelf → List ℕ → Bool
is_due shelf name = is_none (shelf.bytes_of name) || list_any (λ number. nat_eq number shelf.made) shelf.failing

-- the bytes of a name, none where it is not there
abbrev pub file_of : Shelf → List ℕ → List ℕ
file_of shelf name = unwrap_or (shelf.bytes_of name) []

-- the shelf after one more call
abbrev pub after_call : Shelf → Shelf
after_call shelf = record shelf { made = next_count shelf.made }

-- the count of faults after a read: one more where it failed for another cause than memory, and else as before
abbrev pub faults_after_read : Result ReadExtent FileFault → ℕ → ℕ
faults_after_read (Ok got) faults = faults
faults_after_read (Err Failed) faults = next_count faults
faults_after_read (Err NoMemory) faults = faults

-- want of memory is answered only where memory is short
abbrev pub HasCause : FileFault → Type 0
HasCause Failed = Unit {0}
HasCause NoMemory = MemoryIsShort

-- how many bytes a read of at most limit bytes may append, by its answer
abbrev pub IsCount : Result ReadExtent FileFault → ℕ → ℕ → Type 0
IsCount (Ok Whole) limit n = n < limit
IsCount (Ok Cut) limit n = n ≡ limit
IsCount (Err e) limit n = n ≤ limit

-- a read appends bytes to those that were there
abbrev pub Appends : Result ReadExtent FileFault → ℕ → List ℕ → List ℕ → Type 0
Appends r limit old new = (bytes : List ℕ) × (new ≡ old ++ bytes) × IsCount r limit (length bytes)

-- what a read appends is a front of the file: all of it where it is shorter than the limit
abbrev pub AppendsFile : Result ReadExtent FileFault → ℕ → List ℕ → List ℕ → List ℕ → Type 0
AppendsFile (Ok Whole) limit file old new = (length file < limit) × (new ≡ old ++ file)
AppendsFile (Ok Cut) limit file old new = (limit ≤ length file) × (new ≡ old ++ take limit file)
AppendsFile (Err e) limit file old new = (n : ℕ) × (new ≡ old ++ take n file)
