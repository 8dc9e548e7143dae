-- Programs over temporaries whose functions have the same walks.
use Rattle.std.specs.Prelude.{◌≡◌, ◌+◌, ℕ, true, nat_lt, List, [], ◌∷◌}
use Rattle.mem_model.specs.World.{Rooms}
use Rattle.mem_model.specs.Ending.{Ending, SameEnding}
use Rattle.temp_ir.specs.declared.insn.TempInsn.{TempInsn}
use Rattle.temp_ir.specs.declared.insn.TempInsn.TheVariants.{WriteArgument}
use Rattle.temp_ir.specs.declared.program.TempProgram.{TempProgram}
use Rattle.temp_ir.specs.Insns.{targets_of, with_block, flows_on_of}
use Rattle.temp_ir.specs.Programs.{TempFn}
use Rattle.pass_core.specs.Functions.{AllInsns}
use Rattle.alloc_model.specs.Effect.{widest_call}
use Rattle.alloc_model.specs.Temporaries.{TempsEnd}
use Rattle.cfg.specs.Walks.{SameWalks}

-- an argument place that an instruction writes is within the widest call
abbrev pub WritesWithin : (widest : ℕ) → TempInsn → Type 0
WritesWithin widest (WriteArgument number source) = nat_lt (number + 6) widest ≡ true
WritesWithin widest x = Unit {0}

abbrev pub AreWithin : List (List TempInsn) → Type 0
AreWithin blocks = AllInsns (WritesWithin (widest_call blocks)) blocks

-- two functions with the same name, objects and walks, in which the argument places that are written are within the
-- widest call of each
pub record SameTempFunction (f g : TempFn) : Type 0 where
  pub name : f.name ≡ g.name
  pub objects : f.objects ≡ g.objects
  pub walks : SameWalks targets_of with_block flows_on_of f.blocks g.blocks
  pub before : AreWithin f.blocks
  pub after : AreWithin g.blocks

abbrev pub SameTempFunctions : List TempFn → List TempFn → Type 0
SameTempFunctions [] [] = Unit {0}
SameTempFunctions [] (g ∷ gs) = ⊥
SameTempFunctions (f ∷ fs) [] = ⊥
SameTempFunctions (f ∷ fs) (g ∷ gs) = SameTempFunction f g × SameTempFunctions fs gs

-- each ending of the one program is one of the other
abbrev pub TempRunsAs : Rooms → (before after : TempProgram) → (input : List ℕ) → (turns : ℕ) → Type 0
TempRunsAs rooms before after input turns =
    (e : Ending) → TempsEnd rooms before input turns e →
    (f : Ending) × TempsEnd rooms after input turns f × SameEnding e f

-- programs with the same globals, and functions with the same walks, run alike
abbrev pub SameTempWalksRunAlike : Type 0
SameTempWalksRunAlike =
    (rooms : Rooms) (before after : TempProgram) → before.globals ≡ after.globals →
    SameTempFunctions before.functions after.functions → (input : List ℕ) (turns : ℕ) →
    TempRunsAs rooms before after input turns × TempRunsAs rooms after before input turns
