use Rattle.std.proofs.Common.{◌≡◌, ◌<◌, ℕ, Some}
use Rattle.std.specs.Prelude.{slice_get}
use Rattle.par_move.specs.declared.moves.Move.{Move}
use Rattle.pass_rows.proofs.conditions.has_own_target.Given as goal

abbrev pub invariant-loop-other : goal.invariant-loop-other
invariant-loop-other l = (j : ℕ) (m n : Move) → j < l.other → slice_get l.moves l.at ≡ Some m → slice_get l.moves j ≡ Some n → m.to ≡ n.to → l.at ≡ j
