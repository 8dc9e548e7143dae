-- What was made, with what is left, is the whole block.
use Rattle.std.proofs.Common.{◌≡◌, ◌+◌, ◌≤◌, ◌++◌, length, All}
use Rattle.pass_core.specs.Functions.{UsesRegisters}
use Rattle.bk_ilist.specs.Listing.{items}
use Rattle.suifvm_ir.specs.Insns.{reads_of, writes_of}
use Rattle.flow_clean.specs.Copies.{no_copies, without_copies}
use Rattle.flow_clean.specs.model.Origins.{origin, AreLast}
use Rattle.flow_clean.proofs.copies.copy_lines.Given as goal

abbrev pub invariant-loop-line : goal.invariant-loop-line
invariant-loop-line l = record {
  made : l.made ++ without_copies (origin l.writes l.start) (items l.line-iterator) ≡ l.initial.made ++ without_copies no_copies l.block;
  count : l.now + length (items l.line-iterator) ≡ l.start + length l.block;
  later : l.start ≤ l.now;
  last : AreLast (length l.initial.writes) l.now l.writes;
  uses : All (UsesRegisters reads_of writes_of (length l.initial.writes)) (items l.line-iterator);
}
