-- What every pass over the blocks of a program keeps.
use Rattle.std.specs.Prelude.{◌≡◌, ℕ, ◌+◌, ◌≤◌, List, All, IsTrue}
use Rattle.std.specs.List.{AllZip}
use Rattle.mem_objects.specs.declared.DataObject.{DataObject}
use Rattle.pass_core.specs.Functions.{AllInsns}
use Rattle.temp_ir.specs.declared.program.TempProgram.{TempProgram}
use Rattle.temp_ir.specs.Fixed.{is_settled}
use Rattle.temp_ir.specs.Programs.{TempFn, names_what_is_there}
use Rattle.block_pass_laws.specs.argument_laws.Kept.{AreWithinBlocks, KeepArguments}
use Rattle.block_pass_laws.specs.back_laws.Bulks.{GrowBySplits}
use Rattle.block_pass_laws.specs.back_laws.Kept.{GoBackToMarks}
use Rattle.block_pass_laws.specs.ending_laws.Laws.{KeepsEndings}

-- what the instructions of a function name is there
abbrev pub NamesWhatIsThere : List TempFn → List DataObject → TempFn → Type 0
NamesWhatIsThere functions globals f =
    AllInsns (λ i. IsTrue (names_what_is_there functions globals f.objects i)) f.blocks

-- A function behind passes that split edges so many times. Its name, its parameters and its memory locals stay, and it
-- has no more registers. What a program asks of its functions stays true: fixed registers are written before they are
-- read, jumps back go to marks, and what is named is there. It gives no other arguments, and it is no larger than its
-- edges make it
pub record KeepsFunction (splits : ℕ) (before after : TempFn) : Type 0 where
  pub name : after.name ≡ before.name
  pub params : after.params ≡ before.params
  pub temps : after.temps ≤ before.temps
  pub objects : after.objects ≡ before.objects
  pub settled : IsTrue (is_settled before.params before.blocks) → IsTrue (is_settled after.params after.blocks)
  pub marks : GoBackToMarks before.blocks → GoBackToMarks after.blocks
  pub names : (functions : List TempFn) (globals : List DataObject) → NamesWhatIsThere functions globals before →
      NamesWhatIsThere functions globals after
  pub arguments : KeepArguments before.blocks after.blocks
  pub sizes : GrowBySplits splits before.blocks after.blocks

-- the argument places that a function writes are within the calls of their blocks
abbrev pub WritesWithinCalls : TempFn → Type 0
WritesWithinCalls f = AreWithinBlocks f.blocks

-- A program behind passes: its functions, by their numbers; its objects of static storage stay, and where it had one
-- ending, and that is defined, it has the same
pub record Keeps (splits : ℕ) (before after : TempProgram) : Type 0 where
  pub functions : AllZip (KeepsFunction splits) before.functions after.functions
  pub globals : after.globals ≡ before.globals
  pub endings : All WritesWithinCalls before.functions → KeepsEndings before after

-- a pass that does nothing keeps all
abbrev pub KeepsIsReflexive : Type 0
KeepsIsReflexive = (program : TempProgram) → Keeps 0 program program

-- and passes one after the other keep what each of them keeps
abbrev pub KeepsIsTransitive : Type 0
KeepsIsTransitive =
    (splits more : ℕ) (before between after : TempProgram) → Keeps splits before between → Keeps more between after →
    Keeps (splits + more) before after
