-- What is left leads to the whole.
use Rattle.std.proofs.Common.{◌≡◌, ℕ, ◌+◌, ◌*◌, ◌≤◌, List, length, All}
use Rattle.bk_ilist.specs.Listing.{items}
use Rattle.pass_core.specs.Functions.{UsesRegisters}
use Rattle.temp_ir.specs.Insns.{reads_of, writes_of}
use Rattle.alloc_rules.specs.declared.scan.LifetimePart.{LifetimePart}
use Rattle.lifetime_holes.specs.model.Walks.{AreWalked, AreCounted}
use Rattle.lifetime_holes.proofs.insns.mark_insns.Given as goal

abbrev pub invariant-loop-line : goal.invariant-loop-line
invariant-loop-line l = record {
  next : l.next + length (items l.line-iterator) ≡ l.number + length l.block;
  low : l.number ≤ l.next;
  parts_many : length l.parts ≡ length l.initial.parts;
  refs_many : length l.refs ≡ length l.initial.refs;
  parts_inside : All (UsesRegisters reads_of writes_of (length l.initial.parts)) (items l.line-iterator);
  refs_inside : All (UsesRegisters reads_of writes_of (length l.initial.refs)) (items l.line-iterator);
  walked : (new : List (List LifetimePart)) → AreWalked (2 * l.number) l.next (items l.line-iterator) l.parts new →
      AreWalked (2 * l.number) l.number l.block l.initial.parts new;
  counted : (new : List (List ℕ)) → AreCounted l.next (items l.line-iterator) l.refs new →
      AreCounted l.number l.block l.initial.refs new;
}
