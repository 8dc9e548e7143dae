-- The data and the stack of the machine as one row of bytes by their addresses.
use Rattle.std.specs.Prelude.{◌≡◌, ℕ, ◌+◌, ◌-◌, ◌%◌, ◌<◌, ◌≤◌, ◌||◌, ◌&&◌, nat_le, nat_lt, Bool, true, List, length, slice_index, Some, if◌then◌else◌}
use Rattle.std.specs.Int.{w8, w16, w32, w64, from_le_bytes, to_le_bytes}
use Rattle.alpha_isa.specs.Program.{Program, data_start, stack_start}
use Rattle.alpha_isa.specs.State.{State, bytes_at, with_bytes}
use Rattle.mem_model.specs.Memory.{IsWidth}
use Rattle.frame_memory.specs.Bytes.{Bytes, bytes_from, put_bytes, low_bytes, number_from}

-- an address lies in the data, or in the stack
abbrev pub is_in_data : Program → State → (address : ℕ) → Bool
is_in_data p s y = nat_le (data_start p) y && nat_lt y (data_start p + length s.data_bytes)

abbrev pub is_in_stack : Program → State → (address : ℕ) → Bool
is_in_stack p s y = nat_le (stack_start p) y && nat_lt y (stack_start p + length s.stack_bytes)

abbrev pub is_reached : Program → State → (address : ℕ) → Bool
is_reached p s y = is_in_data p s y || is_in_stack p s y

-- the byte at an address, 0 where there is none
unfoldable pub memory_bytes : Program → State → Bytes
memory_bytes p s y =
    if is_in_data p s y then slice_index s.data_bytes (y - data_start p)
    else if is_in_stack p s y then slice_index s.stack_bytes (y - stack_start p) else 0

-- the data ends where the stack may begin
pub record HasParts (p : Program) (s : State) : Type 0 where
  pub data_below : data_start p + length s.data_bytes ≤ stack_start p

-- so many bytes from an address on may be accessed
pub record IsReached (p : Program) (s : State) (a width : ℕ) : Type 0 where
  pub aligned : a % width ≡ 0
  pub reached : (i : ℕ) → i < width → is_reached p s (a + i) ≡ true

-- what a load reads
abbrev pub LoadsReadBytes : Type 0
LoadsReadBytes =
    (p : Program) (s : State) (a width : ℕ) → HasParts p s → IsWidth width → IsReached p s a width →
    bytes_at p s a width ≡ Some (bytes_from (memory_bytes p s) a width)

-- what a store leaves: all but bytes of the memory is as it was
pub record IsAfterStore (p : Program) (s t : State) (a : ℕ) (bs : List ℕ) : Type 0 where
  pub bytes : memory_bytes p t ≡ put_bytes (memory_bytes p s) a bs
  pub reached : (y : ℕ) → is_reached p t y ≡ is_reached p s y
  pub parts : HasParts p t
  pub pc : t.pc ≡ s.pc
  pub registers : t.registers ≡ s.registers
  pub input : t.input ≡ s.input
  pub output : t.output ≡ s.output
  pub data_length : length t.data_bytes ≡ length s.data_bytes
  pub stack_length : length t.stack_bytes ≡ length s.stack_bytes

abbrev pub StoresPutBytes : Type 0
StoresPutBytes =
    (p : Program) (s : State) (a : ℕ) (bs : List ℕ) → HasParts p s → IsWidth (length bs) →
    IsReached p s a (length bs) → (t : State) × (with_bytes p s a bs ≡ Some t) × IsAfterStore p s t a bs

-- the numbers of the loads' bytes, and the bytes of the stores' numbers
pub record NumbersOfAccesses : Type 0 where
  pub byte : (m : Bytes) (a : ℕ) → from_le_bytes w8 (bytes_from m a 1) ≡ number_from (bytes_from m a 1)
  pub word : (m : Bytes) (a : ℕ) → from_le_bytes w16 (bytes_from m a 2) ≡ number_from (bytes_from m a 2)
  pub long : (m : Bytes) (a : ℕ) → from_le_bytes w32 (bytes_from m a 4) ≡ number_from (bytes_from m a 4)
  pub quad : (m : Bytes) (a : ℕ) → from_le_bytes w64 (bytes_from m a 8) ≡ number_from (bytes_from m a 8)
  pub byte_of : (n : ℕ) → to_le_bytes w8 n ≡ low_bytes 1 n
  pub word_of : (n : ℕ) → to_le_bytes w16 n ≡ low_bytes 2 n
  pub long_of : (n : ℕ) → to_le_bytes w32 n ≡ low_bytes 4 n
  pub quad_of : (n : ℕ) → to_le_bytes w64 n ≡ low_bytes 8 n
