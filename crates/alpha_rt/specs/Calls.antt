-- A call of a division routine: what the machine's state has to be, and what the routine does with it.
use Rattle.std.specs.Prelude.{◌≡◌, ℕ, ◌+◌, ◌-◌, ◌*◌, ◌/◌, ◌%◌, ◌^◌, ◌<◌, ◌≤◌, List, ◌++◌, length, map, slice_get, slice_set}
use Rattle.alpha_isa.specs.Words.{insn_word}
use Rattle.alpha_isa.specs.Program.{Program, IsLawful, data_start, stack_start, word_address, instruction_at}
use Rattle.alpha_isa.specs.State.{State, register, with_part}
use Rattle.alpha_isa.specs.Step.{Goes, Over, Trap, exec}
use Rattle.alpha_rt.specs.Routine.{Routine, RoutineEnding, Answers, Traps, IsRoutineOperand, routine_outcome}
use Rattle.alpha_rt.specs.Code.{entry, all_code}

-- the routines stand in the text from a word on
abbrev pub RoutinesStandAt : Program → ℕ → Type 0
RoutinesStandAt p word =
    (i : ℕ) → i < length all_code → instruction_at p (word_address (word + i)) ≡ slice_get all_code i

-- a text that has the words of the code has the code there, whatever stands before and behind
abbrev pub CodeStands : Type 0
CodeStands =
    (p : Program) (front back : List ℕ) → p.words ≡ front ++ (map insn_word all_code ++ back) →
    RoutinesStandAt p (length front)

-- how many bytes below the stack's top a routine may write, and how many steps it may take
abbrev pub scratch_size : ℕ
scratch_size = 32

abbrev pub most_steps : ℕ
most_steps = 599

-- the machine stands at the entry of a routine, whose code is in the text from a word on
pub record IsCall (p : Program) (word : ℕ) (r : Routine) (s : State) : Type 0 where
  pub lawful : IsLawful p
  pub code_stands : RoutinesStandAt p word
  pub at_entry : s.pc ≡ word_address (word + entry r)
  pub registers : length s.registers ≡ 32
  pub words : (n : ℕ) → register s n < 2 ^ 64
  -- the data ends where the stack may begin, and register 30 has the scratch bytes below it
  pub data_below : data_start p + length s.data_bytes ≤ stack_start p
  pub room : stack_start p + scratch_size ≤ register s 30
  pub within : register s 30 ≤ stack_start p + length s.stack_bytes
  pub aligned : register s 30 % 16 ≡ 0
  pub dividend : IsRoutineOperand r (register s 24)
  pub divisor : IsRoutineOperand r (register s 25)

-- the state behind a routine: only registers 27 and 28, the place and the scratch bytes have changed
abbrev pub state_behind : Program → State → ℕ → ℕ → List ℕ → State
state_behind p s word rest scratch = record s {
  pc = register s 23 / 4 * 4;
  registers = slice_set (slice_set s.registers 27 word) 28 rest;
  stack_bytes = with_part s.stack_bytes (register s 30 - scratch_size - stack_start p) scratch;
}

-- in a number of steps the routine returns, with its answer in register 27
pub record Returns (p : Program) (s : State) (word : ℕ) : Type 0 where
  pub steps : ℕ
  pub soon : steps ≤ most_steps
  pub rest : ℕ
  pub scratch : List ℕ
  pub scratch_length : length scratch ≡ scratch_size
  pub run : exec p steps s ≡ Goes (state_behind p s word rest scratch)

-- in a number of steps the routine traps, and neither input nor output has changed
pub record TrapsWith (p : Program) (s : State) (code : ℕ) : Type 0 where
  pub steps : ℕ
  pub soon : steps ≤ most_steps
  pub last : State
  pub run : exec p steps s ≡ Over (Trap code) last
  pub input : last.input ≡ s.input
  pub output : last.output ≡ s.output

abbrev pub RoutineDoes : Program → State → RoutineEnding → Type 0
RoutineDoes p s (Answers word) = Returns p s word
RoutineDoes p s (Traps code) = TrapsWith p s code

-- a call does what its routine makes of the words in registers 24 and 25
abbrev pub Divides : Routine → Type 0
Divides r =
    (p : Program) (word : ℕ) (s : State) →
    IsCall p word r s → RoutineDoes p s (routine_outcome r (register s 24) (register s 25))
