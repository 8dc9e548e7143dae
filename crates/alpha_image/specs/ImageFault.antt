-- The place at which bytes stop being an image, judged in the order of its fields: the first byte of the mark
-- that differs, the offset of a field that is wrong, the number of bytes where they end within a field, and
-- the length that was due where bytes are left over.
use Rattle.std.specs.Prelude.{ℕ, suc, ◌+◌, ◌*◌, nat_lt, nat_le, Bool, ◌&&◌, ◌||◌, ◌==◌, List, [], ◌∷◌, length, take, drop, Option, Some, None, if◌then◌else◌}
use Rattle.std.specs.Int.{w32, from_le_bytes}
use Rattle.alpha_isa.specs.Program.{most_words, most_bytes}
use Rattle.alpha_isa.specs.ImageFormat.{mark}

-- the number in the four bytes at a place
abbrev pub number_at : List ℕ → ℕ → ℕ
number_at bytes at = from_le_bytes w32 (take 4 (drop at bytes))

-- the fields behind the mark, by their offsets
abbrev pub version_of : List ℕ → ℕ
version_of bytes = number_at bytes 4

abbrev pub word_count : List ℕ → ℕ
word_count bytes = number_at bytes 8

abbrev pub byte_count : List ℕ → ℕ
byte_count bytes = number_at bytes 12

abbrev pub entry_of : List ℕ → ℕ
entry_of bytes = number_at bytes 16

-- version 2 has a field for the zeros, behind the entry; version 1 has no zeros
abbrev pub has_zeros_field : List ℕ → Bool
has_zeros_field bytes = version_of bytes == 2

abbrev pub zeros_of : List ℕ → ℕ
zeros_of bytes = if has_zeros_field bytes then number_at bytes 20 else 0

-- where the text begins, and how long an image with these fields is
abbrev pub text_offset : List ℕ → ℕ
text_offset bytes = if has_zeros_field bytes then 24 else 20

abbrev pub due_length : List ℕ → ℕ
due_length bytes = text_offset bytes + 4 * word_count bytes + byte_count bytes

-- a place, or else the next one
abbrev pub first_place : Option ℕ → Option ℕ → Option ℕ
first_place None later = later
first_place (Some at) later = Some at

-- the first byte that differs from those that are due, from number i on
abbrev pub differs_at : List ℕ → List ℕ → ℕ → Option ℕ
differs_at [] bytes i = None
differs_at (due ∷ dues) [] i = Some i
differs_at (due ∷ dues) (byte ∷ bytes) i = if byte == due then differs_at dues bytes (suc i) else Some i

-- a field of four bytes that is not whole, or whose number is not right
abbrev pub field_fault : List ℕ → ℕ → Bool → Option ℕ
field_fault bytes at is_right =
    if nat_lt (length bytes) (at + 4) then Some (length bytes) else if is_right then None else Some at

-- the fields: the mark, the version, how many words and bytes there are, the entry, and in version 2 the zeros
abbrev pub mark_fault : List ℕ → Option ℕ
mark_fault bytes = differs_at mark bytes 0

abbrev pub version_fault : List ℕ → Option ℕ
version_fault bytes = field_fault bytes 4 (version_of bytes == 1 || version_of bytes == 2)

abbrev pub words_fault : List ℕ → Option ℕ
words_fault bytes = field_fault bytes 8 (nat_le 1 (word_count bytes) && nat_le (word_count bytes) most_words)

abbrev pub bytes_fault : List ℕ → Option ℕ
bytes_fault bytes = field_fault bytes 12 (nat_le (byte_count bytes) most_bytes)

abbrev pub entry_fault : List ℕ → Option ℕ
entry_fault bytes = field_fault bytes 16 (nat_lt (entry_of bytes) (word_count bytes))

abbrev pub zeros_fault : List ℕ → Option ℕ
zeros_fault bytes =
    if has_zeros_field bytes then field_fault bytes 20 (nat_le (byte_count bytes + zeros_of bytes) most_bytes) else None

-- what says that the bytes are an image and of which version, then what says how large it is
abbrev pub version_part_fault : List ℕ → Option ℕ
version_part_fault bytes = first_place (mark_fault bytes) (version_fault bytes)

abbrev pub size_part_fault : List ℕ → Option ℕ
size_part_fault bytes =
    first_place (words_fault bytes) (first_place (bytes_fault bytes)
    (first_place (entry_fault bytes) (zeros_fault bytes)))

unfoldable pub header_fault : List ℕ → Option ℕ
header_fault bytes = first_place (version_part_fault bytes) (size_part_fault bytes)

-- words and bytes that are not all there, or more than are due
abbrev pub length_fault : List ℕ → Option ℕ
length_fault bytes =
    if nat_lt (length bytes) (due_length bytes) then Some (length bytes)
    else if nat_lt (due_length bytes) (length bytes) then Some (due_length bytes) else None

unfoldable pub image_fault : List ℕ → Option ℕ
image_fault bytes = first_place (header_fault bytes) (length_fault bytes)
