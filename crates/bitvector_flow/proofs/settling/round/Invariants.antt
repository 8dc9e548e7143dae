-- The blocks so far are settled where nothing grew, and the sets have no more than what flows.
use Rattle.std.proofs.Common.{◌≡◌, List, Bool, length}
use Rattle.bitvector_flow.specs.model.Rounds.{AreForced, IsSwept}
use Rattle.bitvector_flow.proofs.settling.round.Given as goal

abbrev pub invariant-loop-i : goal.invariant-loop-i
invariant-loop-i l = record {
  spare : length l.spare ≡ length l.initial.spare;
  swept : IsSwept l.nexts l.stops (length l.initial.spare) l.backward l.initial.outs l.outs l.ins l.i l.grew;
  forced : (makes : List (List Bool)) → AreForced l.nexts makes l.stops l.initial.outs l.initial.ins →
      AreForced l.nexts makes l.stops l.outs l.ins;
}
