-- The sets have their bounds, and no more than what flows.
use Rattle.std.proofs.Common.{◌≡◌, List, Bool, length}
use Rattle.bitvector_flow.specs.model.Rounds.{missing_count, AreBelow, AreForced}
use Rattle.bitvector_flow.proofs.settling.settle_all.Given as goal

abbrev pub invariant-loop : goal.invariant-loop
invariant-loop l = record {
  spare : length l.spare ≡ length l.initial.spare;
  outs_length : length l.outs ≡ length l.nexts;
  ins_length : length l.ins ≡ length l.nexts;
  outs_below : AreBelow (length l.spare) l.outs;
  ins_below : AreBelow (length l.spare) l.ins;
  forced : (makes : List (List Bool)) → AreForced l.nexts makes l.stops l.initial.outs l.initial.ins →
      AreForced l.nexts makes l.stops l.outs l.ins;
}

abbrev pub decreases-loop : goal.decreases-loop
decreases-loop l = missing_count l.outs
