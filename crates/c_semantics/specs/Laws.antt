-- What is said of the behaviour of every unit.
use Rattle.std.specs.Prelude.{◌≡◌, ◌≢◌, ℕ, ◌+◌, ◌≤◌, List, ◌++◌}
use Rattle.mem_model.specs.World.{Rooms}
use Rattle.mem_model.specs.Ending.{ending_peak}
use Rattle.c_typed_tree.specs.declared.units.TypedUnit.{TypedUnit}
use Rattle.c_mean.specs.Behaviour as b
use Rattle.c_mean.specs.Behaviour.{CBehaviour, output_of}
use Rattle.c_semantics.specs.Behaves.{run_main, behave_c, IsTurns}

-- an ending, or being undefined, is the same with more turns
abbrev pub EndingsStay : Type 0
EndingsStay =
    (unit : TypedUnit) (input : List ℕ) (n k : ℕ) →
    ((output : List ℕ) → behave_c unit input n ≢ b.More output) → behave_c unit input (n + k) ≡ behave_c unit input n

-- the output is a front of that with more turns, unless the run is undefined there
abbrev pub OutputsGrow : Type 0
OutputsGrow =
    (unit : TypedUnit) (input : List ℕ) (n k : ℕ) → behave_c unit input (n + k) ≢ b.Undefined →
    (rest : List ℕ) × (output_of (behave_c unit input (n + k)) ≡ output_of (behave_c unit input n) ++ rest)

-- the peak only rises with more turns, for every list of rooms
abbrev pub UnitPeaksRise : Type 0
UnitPeaksRise =
    (unit : TypedUnit) (rooms : Rooms) (input : List ℕ) (n k : ℕ) →
    ending_peak (run_main unit rooms input n) ≤ ending_peak (run_main unit rooms input (n + k))

-- within two numbers of turns a run does not end in two ways
abbrev pub UnitHasOneEnding : Type 0
UnitHasOneEnding =
    (unit : TypedUnit) (input : List ℕ) (n m : ℕ) →
    ((output : List ℕ) → behave_c unit input n ≢ b.More output) →
    ((output : List ℕ) → behave_c unit input m ≢ b.More output) → behave_c unit input n ≡ behave_c unit input m

-- a unit takes one number of turns on an input
abbrev pub TurnsAreOne : Type 0
TurnsAreOne =
    (unit : TypedUnit) (input : List ℕ) (n m : ℕ) → IsTurns unit input n → IsTurns unit input m → n ≡ m
