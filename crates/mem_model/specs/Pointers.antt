-- What the operators of C do with pointers (C99 6.5.6, 6.5.8, 6.5.9). A pointer value is an address or null, the
-- word 0. None is the answer where the operation is undefined: always on a dead object, and on what is no pointer.
use Rattle.std.specs.Prelude.{ℕ, zero, suc, ◌==◌, nat_lt, int_lt, int_le, ℤ, pos, negsuc, ◌+ℤ◌, ◌-ℤ◌, not, ◌&&◌, ◌||◌, Bool, true, false, length, Option, Some, None, if◌then◌else◌}
use Rattle.std.specs.Ordering.{int_eq}
use Rattle.mem_model.specs.declared.value.Ptr.{Ptr}
use Rattle.mem_model.specs.declared.value.Value.{Value}
use Rattle.mem_model.specs.declared.value.Value.TheVariants.{Word, Address, Unset}
use Rattle.mem_model.specs.Memory.{Memory, object_at}

-- the pointer so many bytes further
abbrev pub ptr_plus : Ptr → ℤ → Ptr
ptr_plus p by = record { object = p.object; offset = p.offset +ℤ by }

-- the object of a pointer lives, and its size
abbrev pub is_live : Memory → Ptr → Bool
is_live m p = (object_at m p.object).live

abbrev pub size_at : Memory → Ptr → ℕ
size_at m p = length (object_at m p.object).cells

-- an offset lies within 0 to a size, and a pointer at the end of its object
abbrev pub is_offset : ℤ → (size : ℕ) → Bool
is_offset (pos at) size = not (nat_lt size at)
is_offset (negsuc n) size = false

abbrev pub is_at_end : Memory → Ptr → Bool
is_at_end m p = int_eq p.offset (pos (size_at m p))

-- two pointers point into one live object
abbrev pub share_object : Memory → (p q : Ptr) → Bool
share_object m p q = is_live m p && p.object == q.object

-- an answer where a test holds
abbrev pub option_if : {A : Type 0} → Bool → A → Option A
option_if test answer = if test then Some answer else None

-- a pointer moved by so many bytes (C99 6.5.6): within 0 to the size of its object, and never null
abbrev pub pointer_plus : Memory → Value → ℤ → Option Value
pointer_plus m (Address p) by = option_if (is_live m p && is_offset (p.offset +ℤ by) (size_at m p))
    (Address (ptr_plus p by))
pointer_plus m (Word n) by = None
pointer_plus m Unset by = None

-- the distance in bytes from the second pointer to the first (C99 6.5.6), within one object
abbrev pub pointer_minus : Memory → Value → Value → Option ℤ
pointer_minus m (Address p) (Address q) = option_if (share_object m p q) (p.offset -ℤ q.offset)
pointer_minus m _ _ = None

-- `<` and `<=` (C99 6.5.8), within one object
abbrev pub pointer_lt : Memory → Value → Value → Option Bool
pointer_lt m (Address p) (Address q) = option_if (share_object m p q) (int_lt p.offset q.offset)
pointer_lt m _ _ = None

abbrev pub pointer_le : Memory → Value → Value → Option Bool
pointer_le m (Address p) (Address q) = option_if (share_object m p q) (int_le p.offset q.offset)
pointer_le m _ _ = None

-- whether a pointer is null (C99 6.3.2.3)
abbrev pub is_null : Memory → Value → Option Bool
is_null m (Word zero) = Some true
is_null m (Word (suc n)) = None
is_null m (Address p) = option_if (is_live m p) false
is_null m Unset = None

-- `==` (C99 6.5.9). Of pointers to two objects none may stand at its object's end, where the other may begin
abbrev pub addresses_eq : Memory → (p q : Ptr) → Option Bool
addresses_eq m p q =
    if p.object == q.object then Some (int_eq p.offset q.offset)
    else option_if (not (is_at_end m p || is_at_end m q)) false

abbrev pub pointer_eq : Memory → Value → Value → Option Bool
pointer_eq m (Address p) (Address q) = if is_live m p && is_live m q then addresses_eq m p q else None
pointer_eq m (Address p) (Word zero) = is_null m (Address p)
pointer_eq m (Word zero) w = is_null m w
pointer_eq m _ _ = None
