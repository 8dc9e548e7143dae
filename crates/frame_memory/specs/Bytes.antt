-- Bytes by their addresses, and numbers by their bytes, the least first.
use Rattle.std.specs.Prelude.{ℕ, zero, suc, ◌+◌, ◌*◌, ◌/◌, ◌%◌, ◌==◌, List, [], ◌∷◌, if◌then◌else◌}

-- a byte for each address
abbrev pub Bytes : Type 0
Bytes = (address : ℕ) → ℕ

-- so many bytes from an address on
unfoldable pub bytes_from : Bytes → (address count : ℕ) → List ℕ
bytes_from m a zero = []
bytes_from m a (suc n) = m a ∷ bytes_from m (suc a) n

-- the bytes with others in their place from an address on
unfoldable pub put_bytes : Bytes → (address : ℕ) → List ℕ → Bytes
put_bytes m a [] y = m y
put_bytes m a (b ∷ bs) y = if y == a then b else put_bytes m (suc a) bs y

-- the low bytes of a number
unfoldable pub low_bytes : (count : ℕ) → ℕ → List ℕ
low_bytes zero n = []
low_bytes (suc k) n = (n % 256) ∷ low_bytes k (n / 256)

-- the number whose bytes these are
unfoldable pub number_from : List ℕ → ℕ
number_from [] = 0
number_from (b ∷ bs) = b + 256 * number_from bs
