-- What one step of an adapter does to the reader or writer under it.
use Rattle.std.specs.Prelude.{◌≡◌, ℕ, ◌≤◌, ◌<◌, List, [], ◌++◌, take, length, Option, Result, Ok, Err}
use Rattle.std.specs.Io.KnownBytes.{Keeps, Appends as Gains, Consumes, IsAtEnd}
use Rattle.bk_io.specs.declared.outside.ReadExtent.{ReadExtent}
use Rattle.bk_io.specs.declared.outside.ReadExtent.TheVariants.{Whole, Cut}
use Rattle.bk_io.specs.declared.outside.FileFault.{FileFault}
use Rattle.bk_io.specs.declared.outside.FileFault.TheVariants.{Failed, NoMemory}
use Rattle.bk_io.specs.Shelf.{IsCount}

-- the reader gave these bytes, and at least one more
abbrev pub ConsumesMore : List ℕ → Option (List ℕ) → Option (List ℕ) → Type 0
ConsumesMore bytes old new = (more : List ℕ) × (0 < length more) × Consumes old new (bytes ++ more)

-- what a read left of the reader under it: the bytes that were appended are those that it gave, in order, up to
-- the limit or the end. Where memory is short, it gave more, which could not be appended.
abbrev pub LeavesReader : Result ReadExtent FileFault → List ℕ → Option (List ℕ) → Option (List ℕ) → Type 0
LeavesReader (Ok Whole) bytes old new = Consumes old new bytes × IsAtEnd new
LeavesReader (Ok Cut) bytes old new = Consumes old new bytes
LeavesReader (Err Failed) bytes old new = Consumes old new bytes
LeavesReader (Err NoMemory) bytes old new = ConsumesMore bytes old new

-- bytes of a reader are appended to those that were there
abbrev pub AppendsRead : Result ReadExtent FileFault → ℕ → List ℕ → List ℕ → Option (List ℕ) → Option (List ℕ) → Type 0
AppendsRead r limit old new remaining_old remaining_new =
    (bytes : List ℕ) × (new ≡ old ++ bytes) × IsCount r limit (length bytes)
    × LeavesReader r bytes remaining_old remaining_new

-- so many bytes of a reader are appended
abbrev pub AppendsPart : ℕ → List ℕ → List ℕ → Option (List ℕ) → Option (List ℕ) → Type 0
AppendsPart n old new remaining_old remaining_new =
    (bytes : List ℕ) × (new ≡ old ++ bytes) × (length bytes ≡ n) × Consumes remaining_old remaining_new bytes

-- some of the bytes were written, at least one
abbrev pub WritesSome : {E : Type 0} → Result ℕ E → List ℕ → Option (List ℕ) → Option (List ℕ) → Type 0
WritesSome (Ok n) bytes old new = (0 < n) × (n ≤ length bytes) × Gains old new (take n bytes)
WritesSome (Err e) bytes old new = Keeps old new

-- why no bytes were appended: the read failed, and left what remained, or memory was short for those that it gave
abbrev pub AppendsNone : FileFault → Option (List ℕ) → Option (List ℕ) → Type 0
AppendsNone Failed old new = Keeps old new
AppendsNone NoMemory old new = ConsumesMore [] old new
