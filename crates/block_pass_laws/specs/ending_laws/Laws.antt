-- Passes over blocks keep how programs end.
use Rattle.std.specs.Prelude.{◌≡◌, ℕ, List}
use Rattle.mem_model.specs.World.{Rooms}
use Rattle.mem_model.specs.Ending.{Ending, IsDefined}
use Rattle.temp_ir.specs.declared.program.TempProgram.{TempProgram}
use Rattle.selection_laws.specs.Laws.{EndsSo}
use Rattle.block_pass_laws.specs.temp_walk_laws.SameRuns.{SameTempFunctions}

-- where a program has one ending, and that is defined, the other one has the same one
abbrev pub KeepsEndings : (before after : TempProgram) → Type 0
KeepsEndings before after =
    (rooms : Rooms) (input : List ℕ) (turns : ℕ) (e : Ending) → IsDefined e → EndsSo rooms before input turns e →
    EndsSo rooms after input turns e

-- so it is with programs whose functions have the same walks
abbrev pub SameWalksKeepEndings : Type 0
SameWalksKeepEndings =
    (before after : TempProgram) → before.globals ≡ after.globals →
    SameTempFunctions before.functions after.functions → KeepsEndings before after
