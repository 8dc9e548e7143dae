-- What the adapters do to the reader or writer under them, as far as it is known.
use Rattle.std.specs.Prelude.{ℕ, ◌≤◌, Bool, List, [], ◌∷◌, take, length, true, false, Option, Some, None, Result, Ok, Err}
use Rattle.std.specs.Io.KnownBytes.{Keeps, Appends as Gains, Consumes, IsAtEnd, append_known}

-- a reader as a source: the bytes that remain, where they are known, whether its end was found, and the count of faults
pub record Inlet : Type 0 where
  pub remaining : Option (List ℕ)
  pub has_ended : Bool
  pub faults : ℕ

-- what a reader tells of the bytes that are left: that there are none, once its end was found
abbrev pub left_by_end : (has_ended : Bool) → Option (List ℕ)
left_by_end true = Some []
left_by_end false = None

-- whether the end was found, after a call
abbrev pub ended_after : {E : Type 0} → Result (Option ℕ) E → Bool → Bool
ended_after (Ok None) has_ended = true
ended_after _ has_ended = has_ended

-- a writer as a sink: the bytes that were written to it, where they are known, those that are held back, whether a
-- write failed that no call has reported, and the count of faults
pub record Outlet : Type 0 where
  pub written : Option (List ℕ)
  pub held : List ℕ
  pub owes_fault : Bool
  pub faults : ℕ

-- all bytes of a sink, in order: what was written, where it is known, and then what is held
abbrev pub outlet_bytes : Outlet → Option (List ℕ)
outlet_bytes outlet = append_known outlet.written outlet.held

-- a byte is the first that remained, none is the end, and a failed read leaves what remained
abbrev pub GivesByte : {E : Type 0} → Result (Option ℕ) E → Option (List ℕ) → Option (List ℕ) → Type 0
GivesByte (Ok (Some byte)) old new = Consumes old new (byte ∷ [])
GivesByte (Ok None) old new = Keeps old new × IsAtEnd new
GivesByte (Err e) old new = Keeps old new

-- a front of the bytes was written
abbrev pub WritesFront : List ℕ → Option (List ℕ) → Option (List ℕ) → Type 0
WritesFront bytes old new = (n : ℕ) × (n ≤ length bytes) × Gains old new (take n bytes)

-- all bytes were written once, or where the call failed a front of them
abbrev pub Writes : {E : Type 0} → Result (Unit {0}) E → List ℕ → Option (List ℕ) → Option (List ℕ) → Type 0
Writes (Ok u) bytes old new = Gains old new bytes
Writes (Err e) bytes old new = WritesFront bytes old new
