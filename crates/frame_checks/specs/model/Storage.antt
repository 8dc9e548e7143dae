-- What is asked of objects, as tests along a list from an end on.
use Rattle.std.specs.Prelude.{ℕ, ◌+◌, ◌&&◌, ◌==◌, nat_le, Bool, true, List, [], ◌∷◌}
use Rattle.mem_objects.specs.declared.DataObject.{DataObject}
use Rattle.mem_objects.specs.declared.TheConstants.{MOST_DATA}
use Rattle.mem_objects.specs.Layout.{place_after}
use Rattle.pass_core.specs.declared.function.MemoryLocal.{MemoryLocal}

-- objects of static storage lie one behind the other, and none of them past the end of the most data
abbrev pub lie_from : (end : ℕ) → List DataObject → Bool
lie_from end [] = true
lie_from end (o ∷ os) =
    nat_le o.size MOST_DATA && (o.offset == place_after end && (nat_le (o.offset + o.size) MOST_DATA
    && lie_from (o.offset + o.size) os))

-- memory locals, each up to a multiple of 8, have no more bytes than data may have
abbrev pub are_small_from : (end : ℕ) → List MemoryLocal → Bool
are_small_from end [] = true
are_small_from end (o ∷ os) =
    nat_le o.size MOST_DATA && (nat_le (end + place_after o.size) MOST_DATA
    && are_small_from (end + place_after o.size) os)
