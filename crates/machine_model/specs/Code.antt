-- Code over objects, by what stands at each of its points. V is the type of values, and S of what keeps them: the
-- registers, places or temporaries of one call.
use Rattle.std.specs.Prelude.{ℕ, suc, List, Option, Bool}
use Rattle.mem_model.specs.World.{Outer}

-- how an instruction ends a run: with a status, by a trap with a code, or because it has no meaning
pub data Stop : Type 0 where
  Exits : (status : ℕ) → Stop
  Traps : (code : ℕ) → Stop
  HasNoMeaning : Stop

-- what an instruction does with the values that it reads, and the outer part that it leaves: it writes values and
-- goes on, jumps to one of its targets, calls a function with arguments, returns values, or ends the run
pub data Act (V : Type 0) : Type 0 where
  Writes : List V → Outer → Act V
  Jumps : (target : ℕ) → Outer → Act V
  Calls : (function : ℕ) → List V → Outer → Act V
  Returns : List V → Outer → Act V
  Stops : Stop → Outer → Act V

-- an instruction where it stands: what it does, given the number of the call's first object; whether it takes a
-- turn; its targets, which are blocks; and how it reads and writes what keeps the values
pub record Site (V S : Type 0) : Type 0 where
  pub does : (own : ℕ) → List V → Outer → Act V
  pub turn : Bool
  pub targets : List ℕ
  pub fetch : S → List V
  pub put : List V → S → S

-- a place in a block of a function
pub record Point : Type 0 where
  pub function : ℕ
  pub block : ℕ
  pub at : ℕ

abbrev pub next_point : Point → Point
next_point p = record p { at = suc p.at }

abbrev pub block_point : Point → (block : ℕ) → Point
block_point p block = record { function = p.function; block = block; at = 0 }

abbrev pub entry_point : (function : ℕ) → Point
entry_point function = record { function = function; block = 0; at = 0 }

-- a code: what stands at each point, and the number of that instruction; what the edge to a block does; what keeps
-- the values of a function at its entry, and the sizes of its objects; and the status that returned values are
pub record Code (V S : Type 0) : Type 0 where
  pub site : Point → Option (Site V S)
  pub number : Point → ℕ
  pub edge : Point → (block : ℕ) → S → S
  pub entry : (function : ℕ) → List V → S
  pub locals : (function : ℕ) → List ℕ
  pub status : List V → Option ℕ
