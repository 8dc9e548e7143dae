-- Where objects of static storage lie: in their order, each at the next multiple of 8, because through a pointer that
-- was cast any object may be reached with every size of access.
use Rattle.std.specs.Prelude.{◌≡◌, ℕ, ◌+◌, ◌-◌, ◌*◌, ◌/◌, List, [], ◌∷◌, length, slice_get, Option, Some, None}
use Rattle.mem_objects.specs.declared.DataObject.{DataObject}

-- the next multiple of 8
abbrev pub place_after : (end : ℕ) → ℕ
place_after end = (end + 7) / 8 * 8

-- the end of an object, in bytes from the start of the data
abbrev pub end_of : Option DataObject → ℕ
end_of None = 0
end_of (Some o) = o.offset + o.size

-- the end of the last one
abbrev pub data_end : List DataObject → ℕ
data_end globals = end_of (slice_get globals (length globals - 1))

-- the objects lie one behind the other from an end on
abbrev pub ObjectsLieFrom : (end : ℕ) → List DataObject → Type 0
ObjectsLieFrom end [] = Unit {0}
ObjectsLieFrom end (o ∷ os) = (o.offset ≡ place_after end) × ObjectsLieFrom (o.offset + o.size) os
