-- What was put, with what is left behind it, is the whole block.
use Rattle.std.proofs.Common.{◌≡◌, ◌++◌, map}
use Rattle.bk_ilist.specs.Listing.{items}
use Rattle.frame_emitter.specs.Settings.{near_insn}
use Rattle.frame_layout.proofs.near.near_insns.Given as goal

abbrev pub invariant-loop-line : goal.invariant-loop-line
invariant-loop-line l = l.insns ++ map near_insn (items l.line-iterator) ≡ map near_insn l.block
