use Rattle.std.proofs.Common.{◌≡◌, ◌≢◌, ◌<◌, ℕ, Some}
use Rattle.std.specs.Prelude.{slice_get}
use Rattle.par_move.specs.declared.moves.Move.{Move}
use Rattle.pass_rows.proofs.conditions.is_in_no_move.Given as goal

abbrev pub invariant-loop-at : goal.invariant-loop-at
invariant-loop-at l = (i : ℕ) (m : Move) → i < l.at → slice_get l.moves i ≡ Some m → (m.from ≢ l.register) × (m.to ≢ l.register)
