-- The laws of runs, whatever the code is.
use Rattle.std.specs.Prelude.{◌≡◌, ℕ, ◌+◌, ◌≤◌, List, ◌++◌, Some}
use Rattle.mem_model.specs.World.{Outer, World, Rooms, with_meter, with_turns}
use Rattle.mem_model.specs.Ending.{Ending, Done, Trap, Undefined, More, ending_output, ending_world}
use Rattle.machine_model.specs.Code.{Act, Writes, Jumps, Calls, Returns, Stops, Site, Point, Code}
use Rattle.machine_model.specs.Machine.{Config, Next, Goes, Over, go_on, exec}

-- a list begins with another one
abbrev pub IsPrefix : (front bytes : List ℕ) → Type 0
IsPrefix front bytes = (rest : List ℕ) × (bytes ≡ front ++ rest)

-- so many turns more
abbrev pub world_with_turns : (more : ℕ) → World → World
world_with_turns more w = with_meter w (with_turns more w.meter)

abbrev pub config_with_turns : {S : Type 0} → (more : ℕ) → Config S → Config S
config_with_turns more k = record k { world = world_with_turns more k.world }

abbrev pub ending_with_turns : (more : ℕ) → Ending → Ending
ending_with_turns more (Done w status) = Done (world_with_turns more w) status
ending_with_turns more (Trap w code) = Trap (world_with_turns more w) code
ending_with_turns more (Undefined w at) = Undefined (world_with_turns more w) at
ending_with_turns more (More w) = More (world_with_turns more w)

-- an ending that is none for want of a turn
abbrev pub IsFinal : Ending → Type 0
IsFinal (Done w status) = Unit {0}
IsFinal (Trap w code) = Unit {0}
IsFinal (Undefined w at) = Unit {0}
IsFinal (More w) = ⊥

-- the world of a run that goes on or is over
abbrev pub next_world : {S : Type 0} → Next S → World
next_world (Goes k) = k.world
next_world (Over e) = ending_world e

-- the outer part that an instruction leaves
abbrev pub act_outer : {V : Type 0} → Act V → Outer
act_outer (Writes vs o) = o
act_outer (Jumps target o) = o
act_outer (Calls function vs o) = o
act_outer (Returns vs o) = o
act_outer (Stops e o) = o

-- no instruction of a code takes back output
abbrev pub KeepsOutput : (V S : Type 0) → Code V S → Type 0
KeepsOutput V S c =
    (p : Point) (s : Site V S) → c.site p ≡ Some s → (own : ℕ) (vs : List V) (o : Outer) →
    IsPrefix o.output (act_outer (s.does own vs o)).output

-- steps add up
abbrev pub StepsAddUp : (V S : Type 0) → Type 0
StepsAddUp V S =
    (rooms : Rooms) (c : Code V S) (n m : ℕ) (k : Config S) →
    exec V S rooms c (n + m) k ≡ go_on (exec V S rooms c n k) (exec V S rooms c m)

-- an ending stays with more steps, so there is one at most
abbrev pub StepsKeepEndings : (V S : Type 0) → Type 0
StepsKeepEndings V S =
    (rooms : Rooms) (c : Code V S) (n more : ℕ) (k : Config S) (e : Ending) → exec V S rooms c n k ≡ Over e →
    exec V S rooms c (n + more) k ≡ Over e

abbrev pub MachineHasOneEnding : (V S : Type 0) → Type 0
MachineHasOneEnding V S =
    (rooms : Rooms) (c : Code V S) (n m : ℕ) (k : Config S) (e f : Ending) → exec V S rooms c n k ≡ Over e →
    exec V S rooms c m k ≡ Over f → e ≡ f

-- with more turns an ending is the same, after the same steps, with so many turns more left
abbrev pub TurnsKeepEndings : (V S : Type 0) → Type 0
TurnsKeepEndings V S =
    (rooms : Rooms) (c : Code V S) (n more : ℕ) (k : Config S) (e : Ending) → exec V S rooms c n k ≡ Over e
    → IsFinal e →
    exec V S rooms c n (config_with_turns more k) ≡ Over (ending_with_turns more e)

-- the peak only rises
abbrev pub PeakRises : (V S : Type 0) → Type 0
PeakRises V S =
    (rooms : Rooms) (c : Code V S) (n : ℕ) (k : Config S) →
    k.world.meter.peak ≤ (next_world (exec V S rooms c n k)).meter.peak

-- an output only grows, along a run and with more turns
abbrev pub OutputGrows : (V S : Type 0) → Type 0
OutputGrows V S =
    (rooms : Rooms) (c : Code V S) (n : ℕ) (k : Config S) → KeepsOutput V S c →
    IsPrefix k.world.outer.output (next_world (exec V S rooms c n k)).outer.output

abbrev pub TurnsExtendOutput : (V S : Type 0) → Type 0
TurnsExtendOutput V S =
    (rooms : Rooms) (c : Code V S) (n m more : ℕ) (k : Config S) (e f : Ending) → KeepsOutput V S c →
    exec V S rooms c n k ≡ Over e → exec V S rooms c m (config_with_turns more k) ≡ Over f →
    IsPrefix (ending_output e) (ending_output f)
