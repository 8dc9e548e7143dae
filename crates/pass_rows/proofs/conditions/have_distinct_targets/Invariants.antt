use Rattle.std.proofs.Common.{◌≡◌, ◌<◌, ℕ, Some}
use Rattle.std.specs.Prelude.{slice_get}
use Rattle.par_move.specs.declared.moves.Move.{Move}
use Rattle.pass_rows.proofs.conditions.have_distinct_targets.Given as goal

abbrev pub invariant-loop-at : goal.invariant-loop-at
invariant-loop-at l = (i j : ℕ) (m n : Move) → i < l.at → slice_get l.moves i ≡ Some m → slice_get l.moves j ≡ Some n → m.to ≡ n.to → i ≡ j
