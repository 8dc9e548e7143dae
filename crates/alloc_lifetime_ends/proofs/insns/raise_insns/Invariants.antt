-- What is left leads to the whole.
use Rattle.std.proofs.Common.{◌≡◌, ℕ, ◌+◌, List, length, All}
use Rattle.bk_ilist.specs.Listing.{items}
use Rattle.pass_core.specs.Functions.{UsesRegisters}
use Rattle.temp_ir.specs.Insns.{reads_of, writes_of}
use Rattle.alloc_lifetime_ends.specs.model.Raised.{IsOfInsns, IsRaised}
use Rattle.alloc_lifetime_ends.proofs.insns.raise_insns.Given as goal

abbrev pub invariant-loop-line : goal.invariant-loop-line
invariant-loop-line l = record {
  next : l.next + length (items l.line-iterator) ≡ l.number + length l.block;
  as_many : length l.ends ≡ length l.initial.ends;
  inside : All (UsesRegisters reads_of writes_of (length l.initial.ends)) (items l.line-iterator);
  leads : (new : List ℕ) → IsRaised (IsOfInsns l.next (items l.line-iterator)) l.ends new → IsRaised (IsOfInsns l.number l.block) l.initial.ends new;
}
