-- What a contract sees of the forms in memory.
use Rattle.std.specs.Prelude.{ℕ, nat_eq, Bool, true, false, ◌||◌, List, [], ◌∷◌, ◌++◌, length, String, Vec, string_bytes, bytes_eq, if◌then◌else◌}
use Rattle.std.specs.List.{list_any}
use Rattle.std.specs.Map.{lookup}
use Rattle.bk_io.specs.Outside.{next_count}
use Rattle.bk_io.specs.Shelf.{Shelf}

-- a source in memory: the bytes left, the numbers of the calls that fail, and the counts of calls and faults
pub record Stream : Type 0 where
  pub left : List ℕ
  pub failing : List ℕ
  pub made : ℕ
  pub faults : ℕ

-- a sink in memory: the bytes taken and how many it may take, and the same as for a source
pub record Bin : Type 0 where
  pub taken : List ℕ
  pub room : ℕ
  pub failing : List ℕ
  pub made : ℕ
  pub faults : ℕ

-- whether the next put fails: its call is listed, or the room is full
abbrev pub is_put_due : Bin → Bool
is_put_due bin = list_any (λ number. nat_eq number bin.made) bin.failing || nat_eq (length bin.taken) bin.room

-- the sink after a put
abbrev pub after_put : Bin → ℕ → Bin
after_put bin byte = if is_put_due bin then record bin { made = next_count bin.made; faults = next_count bin.faults }
    else record bin { taken = bin.taken ++ byte ∷ []; made = next_count bin.made }

-- the sink after these bytes are put one by one, up to the first put that fails
abbrev pub after_puts : Bin → List ℕ → Bin
after_puts bin [] = bin
after_puts bin (byte ∷ bytes) = if is_put_due bin then after_put bin byte else after_puts (after_put bin byte) bytes

-- whether each of these puts is answered
abbrev pub all_put : Bin → List ℕ → Bool
all_put bin [] = true
all_put bin (byte ∷ bytes) = if is_put_due bin then false else all_put (after_put bin byte) bytes

-- files in memory, each with its name, and the same as for a source
pub record Drawer : Type 0 where
  pub files : List (List ℕ × List ℕ)
  pub failing : List ℕ
  pub made : ℕ
  pub faults : ℕ

-- a name and the bytes of its file
abbrev pub name_and_bytes : {A B : Type 0} → String A × Vec ℕ B → List ℕ × List ℕ
name_and_bytes file = (string_bytes file.0, file.1.items)

-- a shelf of these files: the first entry of a name counts
abbrev pub shelf_at : List (List ℕ × List ℕ) → List ℕ → ℕ → Shelf
shelf_at files failing made = record { bytes_of = λ name. lookup (bytes_eq name) files; made = made; failing = failing }

-- what files in memory tell
abbrev pub shelf_of : Drawer → Shelf
shelf_of d = shelf_at d.files d.failing d.made
