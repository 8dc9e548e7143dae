-- What an image holds, and where its parts lie in the addresses of the machine.
use Rattle.std.specs.Prelude.{◌≡◌, ◌≢◌, ℕ, ◌+◌, ◌-◌, ◌*◌, ◌/◌, ◌^◌, ◌<◌, ◌≤◌, nat_lt, List, ◌++◌, length, replicate, slice_get, get_or, Option, Some, None, option_and_then, if◌then◌else◌}
use Rattle.alpha_isa.specs.declared.insn.Fields.{Fields}
use Rattle.alpha_isa.specs.Words.{insn_of}

-- the words of the text, the bytes of the data, how many zero bytes stand behind them, and the number of the
-- word where a run begins
pub record Program : Type 0 where
  pub words : List ℕ
  pub bytes : List ℕ
  pub zeros : ℕ
  pub entry : ℕ

-- the data: the bytes and then the zeros
abbrev pub data_of : Program → List ℕ
data_of p = p.bytes ++ replicate p.zeros 0

abbrev pub image_data_size : Program → ℕ
image_data_size p = length p.bytes + p.zeros

-- the limits of an image, in words and bytes
abbrev pub most_words : ℕ
most_words = 2 ^ 28

abbrev pub most_bytes : ℕ
most_bytes = 67108864

-- an image keeps its limits, its words have 32 bits, and it begins at a word of its text
pub record IsLawful (p : Program) : Type 0 where
  pub some_words : 1 ≤ length p.words
  pub words : length p.words ≤ most_words
  pub are_words : (i : ℕ) → get_or p.words i 0 < 2 ^ 32
  pub bytes : image_data_size p ≤ most_bytes
  pub entry : p.entry < length p.words

-- each part begins at a multiple of 65,536: the text at the first, the next part at or past its end
abbrev pub part_size : ℕ
part_size = 65536

abbrev pub next_part : ℕ → ℕ
next_part n = (n + 65535) / part_size * part_size

abbrev pub text_start : ℕ
text_start = part_size

abbrev pub end_of_text : Program → ℕ
end_of_text p = text_start + 4 * length p.words

abbrev pub data_start : Program → ℕ
data_start p = next_part (end_of_text p)

abbrev pub stack_start : Program → ℕ
stack_start p = next_part (data_start p + image_data_size p)

-- the address of a word of the text
abbrev pub word_address : ℕ → ℕ
word_address n = text_start + 4 * n

-- the instruction at an address, none outside the text and where its word stands for none
abbrev pub instruction_at : Program → ℕ → Option Fields
instruction_at p pc =
    if nat_lt pc text_start then None else option_and_then insn_of (slice_get p.words ((pc - text_start) / 4))

-- Images of which each holds what the other does: they have the same text, entry and data, of which the one may have
-- as zeros what the other has as bytes.
pub record HoldsSame (p q : Program) : Type 0 where
  pub words : q.words ≡ p.words
  pub entry : q.entry ≡ p.entry
  pub data_bytes : data_of q ≡ data_of p

-- the last of the bytes, if there is one
abbrev pub last_byte : List ℕ → Option ℕ
last_byte bytes = slice_get bytes (length bytes - 1)

-- q is p with its zeros cut: what it holds is the same, and its bytes are none or do not end with a zero
pub record HasZerosCut (p q : Program) : Type 0 where
  pub holds : HoldsSame p q
  pub last : last_byte q.bytes ≢ Some 0
