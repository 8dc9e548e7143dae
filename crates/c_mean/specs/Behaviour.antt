-- The behaviour of a C program within a number of turns, and the inputs on which it promises something.
-- A turn is one round of a loop or one call of a function (C99 6.8.5, 6.5.2.2).
use Rattle.std.specs.Prelude.{◌≢◌, ℕ, ◌≤◌, List, []}

-- a run that ended with a status, that trapped with a code, that did something undefined (C99 3.4.3), or
-- that has no turn left, each with what was written so far
pub data CBehaviour : Type 0 where
  Done : (output : List ℕ) (status : ℕ) → CBehaviour
  Trap : (output : List ℕ) (code : ℕ) → CBehaviour
  Undefined : CBehaviour
  More : (output : List ℕ) → CBehaviour

-- what a program does on an input with a number of turns, and the greatest sum of the rooms of the calls
-- that are active at one moment of that run, in bytes
pub record Meaning : Type 0 where
  pub behave : List ℕ → ℕ → CBehaviour
  pub peak : List ℕ → ℕ → ℕ

-- the run is defined, and its calls have room on a stack of this size, whatever the turns
pub record Good (m : Meaning) (input : List ℕ) (stack : ℕ) : Type 0 where
  pub defined : (n : ℕ) → m.behave input n ≢ Undefined
  pub has_room : (n : ℕ) → m.peak input n ≤ stack

-- what was written so far
abbrev pub output_of : CBehaviour → List ℕ
output_of (Done output status) = output
output_of (Trap output code) = output
output_of Undefined = []
output_of (More output) = output
