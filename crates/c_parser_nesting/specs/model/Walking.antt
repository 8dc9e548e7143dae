-- The nesting by a walk over the tokens that keeps the open groups on a stack.
use Rattle.std.specs.Prelude.{ℕ, max, ◌+◌, Bool, true, false, not, ◌&&◌, if◌then◌else◌, List, [], ◌∷◌, reverse}
use Rattle.c_parser_nesting.specs.declared.nesting.Role.{Role}
use Rattle.c_parser_nesting.specs.declared.nesting.Role.TheVariants.{Opens, Closes, ClosesBrace, Separates, Counts, Else, Plain}
use Rattle.c_parser_nesting.specs.declared.nesting.Group.{Group}
use Rattle.c_parser_nesting.specs.declared.nesting.Walk.{Walk}

-- the groups around the innermost open one, innermost first, then that one, and whether its segment at hand ends if no
-- `else` follows
pub record State : Type 0 where
  pub outer : List Group
  pub group : Group
  pub ended : Bool

abbrev pub state_of : Walk → State
state_of walk = record { outer = reverse walk.outer.items; group = walk.group; ended = walk.ended }

abbrev pub empty : Group
empty = record { greatest = 0; count = 0; value = 0 }

abbrev pub start : State
start = record { outer = []; group = empty; ended = false }

-- the greatest cost of the segments, if the group ended here
abbrev pub cost_of : Group → ℕ
cost_of g = max g.greatest (g.count + g.value)

abbrev pub next_segment : Group → Group
next_segment g = record { greatest = cost_of g; count = 0; value = 0 }

abbrev pub with_one : Group → Group
with_one g = record { greatest = g.greatest; count = g.count + 1; value = g.value }

-- with a group of this value in the segment at hand
abbrev pub with_group : Group → ℕ → Group
with_group g value = record { greatest = g.greatest; count = g.count; value = max g.value value }

abbrev pub is_else : Role → Bool
is_else Else = true
is_else _ = false

abbrev pub at_token : Bool → Role → Group → Group
at_token ended role g = if ended && not (is_else role) then next_segment g else g

-- the innermost group has been closed; `ends` says whether that ends a segment
abbrev pub close : Bool → List Group → Group → State
close ends [] g = record { outer = []; group = g; ended = false }
close ends (o ∷ outer) g = record { outer = outer; group = with_group o (cost_of g); ended = ends }

abbrev pub act : Role → List Group → Group → State
act Opens outer g = record { outer = with_one g ∷ outer; group = empty; ended = false }
act Closes outer g = close false outer g
act ClosesBrace outer g = close true outer g
act Separates outer g = record { outer = outer; group = g; ended = true }
act Counts outer g = record { outer = outer; group = with_one g; ended = false }
act Else outer g = record { outer = outer; group = g; ended = false }
act Plain outer g = record { outer = outer; group = g; ended = false }

-- a token further
abbrev pub step : Role → State → State
step role s = act role s.outer (at_token s.ended role s.group)

-- the greatest cost outside all groups, if the innermost open group has this value and all tokens end here
abbrev pub total : List Group → ℕ → ℕ
total [] value = value
total (o ∷ outer) value = total outer (cost_of (with_group o value))

abbrev pub total_of : State → ℕ
total_of s = total s.outer (cost_of s.group)
