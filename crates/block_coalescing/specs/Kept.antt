-- What a function keeps whose copies and dead instructions go.
use Rattle.std.specs.Prelude.{◌≡◌, List, IsTrue}
use Rattle.std.specs.List.{AllZip}
use Rattle.mem_objects.specs.declared.DataObject.{DataObject}
use Rattle.pass_core.specs.Functions.{AllInsns}
use Rattle.temp_ir.specs.declared.program.TempProgram.{TempProgram}
use Rattle.temp_ir.specs.Insns.{targets_of, flows_on_of}
use Rattle.temp_ir.specs.Fixed.{is_settled}
use Rattle.temp_ir.specs.Programs.{TempFn, names_what_is_there}
use Rattle.cfg.specs.Edges.{successors_from}
use Rattle.block_pass_laws.specs.argument_laws.Kept.{KeepArguments}
use Rattle.block_pass_laws.specs.back_laws.Bulks.{GrowBySplits}
use Rattle.block_pass_laws.specs.back_laws.Kept.{GoBackToMarks}
use Rattle.block_pass_laws.specs.ending_laws.Laws.{KeepsEndings}
use Rattle.block_coalescing.specs.Walks.{AreCoalesced}

-- a function with the second versions of its blocks, and nothing else changed
pub record IsCoalesced (before after : TempFn) : Type 0 where
  pub name : after.name ≡ before.name
  pub params : after.params ≡ before.params
  pub temps : after.temps ≡ before.temps
  pub objects : after.objects ≡ before.objects
  pub blocks : AreCoalesced before.temps before.blocks after.blocks

-- The edges stay, and so does what a program asks of its functions: fixed registers are written before they are read,
-- jumps back go to marks, and what is named is there. The arguments stay, and there are no more blocks, instructions,
-- edges and calls
pub record KeepsShape (before after : TempFn) : Type 0 where
  pub edges : successors_from targets_of flows_on_of 0 after.blocks
      ≡ successors_from targets_of flows_on_of 0 before.blocks
  pub settled : IsTrue (is_settled before.params before.blocks) → IsTrue (is_settled after.params after.blocks)
  pub marks : GoBackToMarks before.blocks → GoBackToMarks after.blocks
  pub names : (functions : List TempFn) (globals : List DataObject) →
      AllInsns (λ i. IsTrue (names_what_is_there functions globals before.objects i)) before.blocks →
      AllInsns (λ i. IsTrue (names_what_is_there functions globals after.objects i)) after.blocks
  pub arguments : KeepArguments before.blocks after.blocks
  pub sizes : GrowBySplits 0 before.blocks after.blocks

-- ---- laws

abbrev pub CoalescedFunctionsKeepShape : Type 0
CoalescedFunctionsKeepShape = (before after : TempFn) → IsCoalesced before after → KeepsShape before after

-- a program whose functions are such has the ending that the other one has, where that has one and it is defined
abbrev pub CoalescedProgramsKeepEndings : Type 0
CoalescedProgramsKeepEndings =
    (before after : TempProgram) → after.globals ≡ before.globals →
    AllZip IsCoalesced before.functions after.functions → KeepsEndings before after
