-- A small code, to show the machine at work: its first function calls the second one and returns what that returns.
-- The second one, which has an object of 8 bytes, takes a turn, puts the byte 65, and returns 7. Values are numbers,
-- and a call keeps a list of them.
use Rattle.std.specs.Prelude.{ℕ, List, [], ◌∷◌, Bool, true, false, Some, option_and_then, slice_get, slice_index_or, slice_index}
use Rattle.mem_model.specs.Memory.{no_object}
use Rattle.mem_model.specs.World.{Outer, World, meter_of, put_byte}
use Rattle.machine_model.specs.Code.{Act, Writes, Calls, Returns, Site, Code}
use Rattle.machine_model.specs.Machine.{Next, exec, start_config}

abbrev pub site : (turn : Bool) → (List ℕ → Outer → Act ℕ) → Site ℕ (List ℕ)
site turn does = record { does = λ own vs o. does vs o; turn = turn; targets = []; fetch = λ s. s; put = λ vs s. vs }

-- the instructions of each function, which has one block
abbrev pub functions : List (List (Site ℕ (List ℕ)))
functions =
    (site true (λ vs o. Calls 1 [] o) ∷ site false (λ vs o. Returns vs o) ∷ [])
    ∷ (site true (λ vs o. Writes vs o) ∷ site false (λ vs o. Writes (7 ∷ []) (put_byte o 65)) ∷ site false
    (λ vs o. Returns vs o) ∷ [])
    ∷ []

abbrev pub code : Code ℕ (List ℕ)
code = record {
  site = λ p. option_and_then (λ sites. slice_get sites p.at) (slice_get functions p.function);
  number = λ p. p.at;
  edge = λ p block s. s;
  entry = λ function vs. vs;
  locals = λ function. slice_index_or ([] ∷ (8 ∷ []) ∷ []) function [];
  status = λ vs. Some (slice_index vs 0);
}

-- a world without objects, with so many turns
abbrev pub world : (turns : ℕ) → World
world turns = record { outer = record { memory = []; input = []; takings = 0; output = [] }; meter = meter_of turns }

-- the world in which the run ends, where 5 turns were left: the object has ended, a byte was put, 3 turns are left,
-- and the peak is the sum of the two rooms
abbrev pub last_world : World
last_world = record {
  outer = record { memory = no_object ∷ []; input = []; takings = 0; output = 65 ∷ [] };
  meter = record { turns = 3; room = 0; peak = 30 };
}

-- so many steps with so many turns, where the rooms of the functions are 10 and 20
abbrev pub example_run : (steps turns : ℕ) → Next (List ℕ)
example_run steps turns =
    exec ℕ (List ℕ) (10 ∷ 20 ∷ []) code steps (start_config ℕ (List ℕ) (10 ∷ 20 ∷ []) code 0 (world turns))
