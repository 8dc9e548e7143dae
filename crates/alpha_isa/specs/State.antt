-- The state of a machine, and how registers and memory are read and written.
use Rattle.std.specs.Prelude.{ℕ, ◌+◌, ◌-◌, ◌%◌, nat_le, Bool, not, ◌&&◌, ◌==◌, List, ◌++◌, take, drop, length, slice_index, slice_set, Option, Some, None, if◌then◌else◌}
use Rattle.alpha_isa.specs.declared.insn.Operand.{Operand}
use Rattle.alpha_isa.specs.declared.insn.Operand.TheVariants.{Reg, Literal}
use Rattle.alpha_isa.specs.Program.{Program, data_start, stack_start}

-- the place in the text, 32 registers, the bytes of data and stack, the input left and the output so far
pub record State : Type 0 where
  pub pc : ℕ
  pub registers : List ℕ
  pub data_bytes : List ℕ
  pub stack_bytes : List ℕ
  pub input : List ℕ
  pub output : List ℕ

-- register 31 reads as 0, and a write of it is lost
abbrev pub register : State → ℕ → ℕ
register s r = if r == 31 then 0 else slice_index s.registers r

abbrev pub with_register : ℕ → ℕ → State → State
with_register r word s = if r == 31 then s else record s { registers = slice_set s.registers r word }

abbrev pub operand_value : State → Operand → ℕ
operand_value s (Reg r) = register s r
operand_value s (Literal n) = n

-- n bytes from an address on lie in a part of the memory that begins at start
abbrev pub lies_in : ℕ → ℕ → ℕ → List ℕ → Bool
lies_in a n start bytes = nat_le start a && nat_le (a + n) (start + length bytes)

-- n bytes from number i on, and the list with bytes in their place
abbrev pub byte_range : List ℕ → ℕ → ℕ → List ℕ
byte_range bytes i n = take n (drop i bytes)

abbrev pub with_part : List ℕ → ℕ → List ℕ → List ℕ
with_part bytes i new = take i bytes ++ (new ++ drop (i + length new) bytes)

-- the n bytes at an address, which must be a multiple of n and lie in the data or the stack
abbrev pub bytes_at : Program → State → ℕ → ℕ → Option (List ℕ)
bytes_at p s a n =
    if not (a % n == 0) then None
    else if lies_in a n (data_start p) s.data_bytes then Some (byte_range s.data_bytes (a - data_start p) n)
    else if lies_in a n (stack_start p) s.stack_bytes then Some (byte_range s.stack_bytes (a - stack_start p) n)
    else None

-- the state with bytes in the place of those at an address, under the same condition
abbrev pub with_bytes : Program → State → ℕ → List ℕ → Option State
with_bytes p s a new =
    if not (a % length new == 0) then None
    else if lies_in a (length new) (data_start p) s.data_bytes
    then Some (record s { data_bytes = with_part s.data_bytes (a - data_start p) new })
    else if lies_in a (length new) (stack_start p) s.stack_bytes
    then Some (record s { stack_bytes = with_part s.stack_bytes (a - stack_start p) new })
    else None
