-- Laws of the definitions.
use Rattle.std.specs.Prelude.{◌≡◌, ℕ, List, length}
use Rattle.par_move.specs.declared.moves.Move.{Move}
use Rattle.par_move.specs.Moves.{AreCycles, HasLength}

abbrev pub CyclesAreOneList : Type 0
CyclesAreOneList = (moves : List Move) (cs ds : List ℕ) → AreCycles moves cs → AreCycles moves ds → cs ≡ ds

abbrev pub CountIsOne : Type 0
CountIsOne = (moves made other : List Move) →
    HasLength moves made → HasLength moves other → length made ≡ length other
