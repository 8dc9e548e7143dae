-- Code over virtual registers that does what a unit does, with a peak that is not above (C99 5.1.2.3): as the code of a
-- unit that was rewritten does.
use Rattle.std.specs.Prelude.{◌≡◌, ◌≢◌, ℕ, ◌<◌, ◌≤◌, List, All}
use Rattle.mem_model.specs.World.{World, Rooms}
use Rattle.mem_model.specs.Ending.{Ending, Done, Trap, Undefined, More, ending_peak, IsDefined}
use Rattle.c_mean.specs.Behaviour as b
use Rattle.c_typed_tree.specs.declared.units.TypedUnit.{TypedUnit}
use Rattle.c_semantics.specs.Behaves.{behave_c, behaviour_of, peak, rooms_of, run_main}
use Rattle.c_semantics.specs.Refines.{UnitRefines}
use Rattle.suifvm_ir.specs.declared.program.VmProgram.{VmProgram}
use Rattle.suifvm_meaning.specs.Behave.{behave_vm}
use Rattle.lowering_theorem.specs.Laws.{CodeRunsAs}

-- two worlds with the same output, input left, takings and turns left, and a peak of the one that is not above that of
-- the other
pub record IsShownBelow (v w : World) : Type 0 where
  pub output : v.outer.output ≡ w.outer.output
  pub input : v.outer.input ≡ w.outer.input
  pub takings : v.outer.takings ≡ w.outer.takings
  pub turns : v.meter.turns ≡ w.meter.turns
  pub peak : v.meter.peak ≤ w.meter.peak

-- the one ending is the other's, with what is shown, unless the other is Undefined
abbrev pub EndsBelow : Ending → Ending → Type 0
EndsBelow e (Undefined w at) = Unit {0}
EndsBelow (Done v m) (Done w n) = (m ≡ n) × IsShownBelow v w
EndsBelow (Trap v m) (Trap w n) = (m ≡ n) × IsShownBelow v w
EndsBelow (More v) (More w) = IsShownBelow v w
EndsBelow _ _ = ⊥

-- the run of a program ends so, and in no other way
pub record VmRunsBelow (rooms : Rooms) (p : VmProgram) (input : List ℕ) (turns : ℕ) (o : Ending) : Type 0 where
  pub ending : Ending
  pub ends : behave_vm rooms p input turns ending
  pub below : EndsBelow ending o
  pub only : (e : Ending) → behave_vm rooms p input turns e → e ≡ ending

-- a program refines a unit: on every input of bytes, with every number of turns and whatever the rooms are, it runs as
-- the unit does, where the run of the unit is defined
abbrev pub CodeRefines : TypedUnit → VmProgram → Type 0
CodeRefines u p =
    (rooms : Rooms) (input : List ℕ) (turns : ℕ) → All (λ byte. byte < 256) input →
    IsDefined (run_main u rooms input turns) → VmRunsBelow rooms p input turns (run_main u rooms input turns)

-- code that runs as a unit refines what that unit refines
abbrev pub RefinedUnitsHaveCode : Type 0
RefinedUnitsHaveCode = (u r : TypedUnit) (p : VmProgram) → UnitRefines r u → CodeRunsAs r p → CodeRefines u p

-- what a program that refines a unit does, with the rooms of the functions of the unit, is what the unit does, with a
-- peak that is not above
pub record BehavesBelow (u : TypedUnit) (p : VmProgram) (input : List ℕ) (turns : ℕ) : Type 0 where
  pub ending : Ending
  pub ends : behave_vm (rooms_of u) p input turns ending
  pub behaviour : behaviour_of ending ≡ behave_c u input turns
  pub peak : ending_peak ending ≤ peak u input turns

abbrev pub BehavioursAreRefined : Type 0
BehavioursAreRefined =
    (u : TypedUnit) (p : VmProgram) → CodeRefines u p →
    (input : List ℕ) (turns : ℕ) → All (λ byte. byte < 256) input →
    behave_c u input turns ≢ b.Undefined → BehavesBelow u p input turns
