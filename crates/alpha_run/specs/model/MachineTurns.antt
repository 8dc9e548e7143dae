-- What one step of a machine is.
use Rattle.std.specs.Prelude.{◌≡◌, List, ℕ, None}
use Rattle.alpha_isa.specs.Program.{Program}
use Rattle.bk_io.specs.Outside.{Traffic}
use Rattle.alpha_run.specs.declared.ending.Ending.{Ending}
use Rattle.alpha_run.specs.Snapshot.{Snapshot, snapshot_state, IsMachineOf}
use Rattle.alpha_run.specs.Run.{IsRun}

-- one step of a machine on an input, of which this rest is left, whatever program it runs and whatever it has put
abbrev pub TurnsOn : Ending → (old new : Snapshot) → (told after : Traffic) → (input rest : List ℕ) → Type 0
TurnsOn e old new told after input rest =
    (p : Program) (output : List ℕ) → IsMachineOf p old → old.halt ≡ None →
    IsRun p 1 e (snapshot_state old input output) rest old new told after
