-- How runs end, and when one ends as another.
use Rattle.std.specs.Prelude.{◌≡◌, ℕ, List}
use Rattle.mem_model.specs.World.{World}

-- how a run ends, in its last world: with a status, by a trap with a code, Undefined at an instruction with a
-- number (0 where there are no instructions), or for want of a turn
pub data Ending : Type 0 where
  Done : World → (status : ℕ) → Ending
  Trap : World → (code : ℕ) → Ending
  Undefined : World → (at : ℕ) → Ending
  More : World → Ending

-- the world in which a run ends, the bytes that it put, and its peak
abbrev pub ending_world : Ending → World
ending_world (Done w status) = w
ending_world (Trap w code) = w
ending_world (Undefined w at) = w
ending_world (More w) = w

abbrev pub ending_output : Ending → List ℕ
ending_output e = (ending_world e).outer.output

abbrev pub ending_peak : Ending → ℕ
ending_peak e = (ending_world e).meter.peak

-- an ending that is not for want of a meaning
abbrev pub IsDefined : Ending → Type 0
IsDefined (Undefined w at) = ⊥
IsDefined _ = Unit {0}

-- the same ending, in the same world and so with the same output, turns left and peak; the number of an instruction
-- without a meaning may be another one
abbrev pub SameEnding : Ending → Ending → Type 0
SameEnding (Done w status) e = e ≡ Done w status
SameEnding (Trap w code) e = e ≡ Trap w code
SameEnding (Undefined w at) e = (other : ℕ) × (e ≡ Undefined w other)
SameEnding (More w) e = e ≡ More w

-- two worlds with the same output, input left, takings, turns left and peak. Their memories may differ, as that
-- of a program and that of its code do
pub record SameShown (v w : World) : Type 0 where
  pub output : v.outer.output ≡ w.outer.output
  pub input : v.outer.input ≡ w.outer.input
  pub takings : v.outer.takings ≡ w.outer.takings
  pub turns : v.meter.turns ≡ w.meter.turns
  pub peak : v.meter.peak ≡ w.meter.peak

-- the one ending is the other's, with what is shown, unless the other is Undefined
abbrev pub EndsAs : Ending → Ending → Type 0
EndsAs e (Undefined w at) = Unit {0}
EndsAs (Done v m) (Done w n) = (m ≡ n) × SameShown v w
EndsAs (Trap v m) (Trap w n) = (m ≡ n) × SameShown v w
EndsAs (More v) (More w) = SameShown v w
EndsAs _ _ = ⊥

-- what the meaning of a part of a program comes to: a value in a state, or the ending of the whole run
pub data Evaluation (A S : Type 0) : Type 0 where
  Gives : A → S → Evaluation A S
  Ends : Ending → Evaluation A S

-- the one evaluation is the other, in value, state, ending, output, turns and peak, unless the other is Undefined
abbrev pub GivesAs : {A S : Type 0} → Evaluation A S → Evaluation A S → Type 0
GivesAs b (Ends (Undefined w at)) = Unit {0}
GivesAs b (Ends (Done w status)) = b ≡ Ends (Done w status)
GivesAs b (Ends (Trap w code)) = b ≡ Ends (Trap w code)
GivesAs b (Ends (More w)) = b ≡ Ends (More w)
GivesAs b (Gives v s) = b ≡ Gives v s
