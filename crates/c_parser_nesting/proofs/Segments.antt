-- The cost of the segments of a group, item by item.
use Rattle.std.proofs.Common.{◌≡◌, ℕ, ◌+◌, max, Bool, true, false, not, ◌&&◌, if◌then◌else◌, List, [], ◌∷◌, map, refl, arith}
use Rattle.c_parser_nesting.specs.Nesting.{GroupItem, ends_segment, begins_else, add_to_first, segments, count_of_item, item_value, count, maximum, segment_cost, group_value}

-- the greatest cost of segments of which the first began before, with this count and value
abbrev pub joined_nesting : ℕ → ℕ → List (List GroupItem) → ℕ
joined_nesting c v [] = c + v
joined_nesting c v (s ∷ ss) = max (c + count s + max v (maximum (map item_value s))) (maximum (map segment_cost ss))

-- The same of the items that are left, behind a segment that may have ended.
abbrev pub left_nesting : Bool → ℕ → ℕ → List GroupItem → ℕ
left_nesting ended c v items = if ended && not (begins_else items) then max (c + v) (group_value items) else joined_nesting c v (segments items)

pub joined-zero : (ss : List (List GroupItem)) → joined_nesting 0 0 ss ≡ maximum (map segment_cost ss)
joined-zero [] = refl
joined-zero (s ∷ ss) = omega arith

joined-add : (c v : ℕ) (x : GroupItem) (ss : List (List GroupItem)) → joined_nesting c v (add_to_first x ss) ≡ joined_nesting (c + count_of_item x) (max v (item_value x)) ss
joined-add c v x [] = omega arith
joined-add c v x (s ∷ ss) = omega arith

push_by : (t : Bool) (c v : ℕ) (x : GroupItem) (xs : List GroupItem)
    → joined_nesting c v (if t then (x ∷ []) ∷ segments xs else add_to_first x (segments xs))
    ≡ (if t then max (c + count_of_item x + max v (item_value x)) (group_value xs) else joined_nesting (c + count_of_item x) (max v (item_value x)) (segments xs))
push_by true c v x xs = omega arith
push_by false c v x xs = joined-add c v x (segments xs)

pub left-push : (c v : ℕ) (x : GroupItem) (xs : List GroupItem) → left_nesting false c v (x ∷ xs) ≡ left_nesting (ends_segment x) (c + count_of_item x) (max v (item_value x)) xs
left-push c v x xs = push_by (ends_segment x && not (begins_else xs)) c v x xs

pub left-nil : (ended : Bool) (c v : ℕ) → left_nesting ended c v [] ≡ c + v
left-nil false c v = refl
left-nil true c v = omega arith

pub left_next : (e : Bool) (c v : ℕ) (xs : List GroupItem) → e ≡ false
    → (if true && not e then max (c + v) (group_value xs) else joined_nesting c v (segments xs)) ≡ max (c + v) (joined_nesting 0 0 (segments xs))
left_next false c v xs h = omega (arith, joined-zero (segments xs))
left_next true c v xs h = absurd (cc h)
