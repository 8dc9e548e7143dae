-- The code of an edge: stores, then register moves at once, then loads.
use Rattle.std.specs.Prelude.{◌≡◌, ℕ, ◌<◌, ◌≤◌, ◌==◌, ◌&&◌, ◌||◌, Bool, true, false, List, [], ◌∷◌, ◌++◌, flat_map, map, length, slice_get, slice_set, slice_index, slice_index_or, Option, Some, None, if◌then◌else◌}
use Rattle.bk_bits.specs.Sets.{has}
use Rattle.par_move.specs.declared.moves.Move.{Move}
use Rattle.par_move.specs.Moves.{ParallelMove, HasLength}
use Rattle.alloc_model.specs.declared.allocation.EdgeCode.{EdgeCode}
use Rattle.alloc_model.specs.declared.allocation.Loc.{Loc}
use Rattle.alloc_model.specs.declared.allocation.Loc.TheVariants as loc
use Rattle.alloc_model.specs.declared.allocation.TempPlace.{TempPlace}
use Rattle.alloc_model.specs.declared.allocation.Transfer.{Transfer}
use Rattle.alloc_model.specs.declared.allocation.Transfer.TheVariants.{Store, Load, Shift}

-- ---- maps of places

abbrev pub register_at : Loc → Option ℕ
register_at (loc.Reg r) = Some r
register_at (loc.Slot t) = None

-- the register of a temporary by a map, if it has one
abbrev pub register_for : List TempPlace → (t : ℕ) → Option ℕ
register_for [] t = None
register_for (s ∷ ss) t = if s.temp == t then register_at s.place else register_for ss t

-- no two of a map have one register
abbrev pub AreApart : List TempPlace → Type 0
AreApart ss = (i j r : ℕ) (s u : TempPlace) → slice_get ss i ≡ Some s → slice_get ss j ≡ Some u →
    register_at s.place ≡ Some r → register_at u.place ≡ Some r → i ≡ j

-- each temporary of a map has one of the 26 registers, by itself
pub record IsMap (ss : List TempPlace) : Type 0 where
  pub few : length ss ≤ 26
  pub apart : AreApart ss
  pub own : (i : ℕ) (s : TempPlace) → slice_get ss i ≡ Some s → register_for ss s.temp ≡ register_at s.place
  pub given : (i r : ℕ) (s : TempPlace) → slice_get ss i ≡ Some s → register_at s.place ≡ Some r → r < 26

-- its temporaries are below the bounds of sets
abbrev pub AreInSets : List TempPlace → (sets : List (List Bool)) → Type 0
AreInSets ss sets = (i block : ℕ) (s : TempPlace) → slice_get ss i ≡ Some s → block < length sets →
    s.temp < length (slice_index_or sets block [])

-- ---- transfers

abbrev pub is_none : Option ℕ → Bool
is_none None = true
is_none (Some r) = false

-- what is live at the target is stored where its slot is wanted there
abbrev pub is_stored : (live need : Bool) → (top : Option ℕ) → Bool
is_stored live need top = live && (need || is_none top)

abbrev pub store_with : Bool → (t : ℕ) → Option ℕ → List Transfer
store_with false t o = []
store_with true t None = []
store_with true t (Some r) = Store t r ∷ []

abbrev pub store_of : (live need : List Bool) → (top : List TempPlace) → TempPlace → List Transfer
store_of live need top s =
    store_with (is_stored (has live s.temp) (has need s.temp) (register_for top s.temp)) s.temp (register_at s.place)

abbrev pub move_with : (from to : Option ℕ) → List Move
move_with (Some r) (Some q) = record { from = r; to = q } ∷ []
move_with (Some r) None = []
move_with None to = []

abbrev pub move_of : (bottom : List TempPlace) → TempPlace → List Move
move_of bottom s = move_with (register_for bottom s.temp) (register_at s.place)

abbrev pub load_with : (t : ℕ) → (from to : Option ℕ) → List Transfer
load_with t None (Some q) = Load t q ∷ []
load_with t None None = []
load_with t (Some r) to = []

abbrev pub load_of : (bottom : List TempPlace) → TempPlace → List Transfer
load_of bottom s = load_with s.temp (register_for bottom s.temp) (register_at s.place)

-- moves one after the other, where a table says which temporary stands in each register
unfoldable pub shifts : List Move → (holders : List ℕ) → List Transfer
shifts [] hs = []
shifts (m ∷ ms) hs = Shift (slice_index hs m.from) m.from m.to ∷ shifts ms (slice_set hs m.to (slice_index hs m.from))

abbrev pub held_with : (t : ℕ) → Option ℕ → List ℕ → List ℕ
held_with t (Some r) hs = slice_set hs r t
held_with t None hs = hs

-- a table has the first temporaries of a map
pub record IsHeld (ss : List TempPlace) (n : ℕ) (holders : List ℕ) : Type 0 where
  pub many : length holders ≡ 256
  pub each : (i r : ℕ) (s : TempPlace) → i < n → slice_get ss i ≡ Some s → register_at s.place ≡ Some r →
      slice_index holders r ≡ s.temp

-- the code from a map at a bottom to one at a top, where these are live there and have to be in their slots
pub record IsCodeBetween (bottom top : List TempPlace) (live need : List Bool) (code : List Transfer) : Type 0 where
  pub made : List Move
  pub holders : List ℕ
  pub moves : ParallelMove (flat_map (move_of bottom) top) 28 made
  pub long : HasLength (flat_map (move_of bottom) top) made
  pub held : IsHeld bottom (length bottom) holders
  pub is : code ≡ (flat_map (store_of live need top) bottom ++ shifts made holders) ++ flat_map (load_of bottom) top

-- ---- all edges

-- all of these are maps of temporaries below the bounds of sets
pub record AreMaps (maps : List (List TempPlace)) (sets : List (List Bool)) : Type 0 where
  pub each : (block : ℕ) → IsMap (slice_index_or maps block [])
  pub inside : (block : ℕ) → AreInSets (slice_index_or maps block []) sets

abbrev pub ends_of : List EdgeCode → List (ℕ × ℕ)
ends_of edges = map (λ e. (e.from, e.to)) edges

abbrev pub edges_to : (from : ℕ) → List ℕ → List (ℕ × ℕ)
edges_to from targets = map (λ to. (from, to)) targets

-- the code of an edge is one between the maps at its ends
abbrev pub IsEdgeCode : (bottoms tops : List (List TempPlace)) → (lives needs : List (List Bool)) → EdgeCode → Type 0
IsEdgeCode bottoms tops lives needs e =
    IsCodeBetween (slice_index_or bottoms e.from []) (slice_index_or tops e.to []) (slice_index_or lives e.to [])
    (slice_index_or needs e.to []) e.code
