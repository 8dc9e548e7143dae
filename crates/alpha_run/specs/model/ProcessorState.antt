-- Where a processor stands, as the state of a step, and the program that it runs.
use Rattle.std.specs.Prelude.{◌≡◌, ℕ, ◌≤◌, List, length, map, Bool, true, false, Option, Some, None}
use Rattle.alpha_isa.specs.Words.{insn_of}
use Rattle.alpha_isa.specs.Program.{Program, most_words, data_start, stack_start}
use Rattle.alpha_isa.specs.State.{State, with_register}
use Rattle.alpha_isa.specs.Step.{MachineNext, Goes, Over, Trap, stuck_at, next_instruction}
use Rattle.alpha_run.specs.model.MemoryParts.{IsLaidAs}
use Rattle.alpha_run.specs.declared.processor.Processor.{Processor}

-- with the input that is left and the output so far
abbrev pub processor_state : Processor → List ℕ → List ℕ → State
processor_state m input output = record {
  pc = m.pc;
  registers = m.registers.words;
  data_bytes = m.memory.data.items;
  stack_bytes = m.memory.stack.items;
  input = input;
  output = output;
}

-- the text is that of a program, and the memory lies where the program's does
pub record IsProcessorOf (p : Program) (m : Processor) : Type 0 where
  pub text : m.text.items ≡ map insn_of p.words
  pub data_start : m.memory.data_start ≡ data_start p
  pub stack_start : m.memory.stack_start ≡ stack_start p

-- the text keeps the limit of a program
abbrev pub IsShort : Processor → Type 0
IsShort m = length m.text.items ≤ most_words

-- the text stays, and the memory lies where it did
pub record KeepsText (old new : Processor) : Type 0 where
  pub text : new.text.items ≡ old.text.items
  pub laid : IsLaidAs old.memory new.memory

-- a step that went on, or could not be done
abbrev pub next_if_done : Bool → State → MachineNext
next_if_done true s = Goes s
next_if_done false s = stuck_at s

-- an operation that went on, or whose result does not fit, which has the code 3
abbrev pub next_if_fits : Bool → State → MachineNext
next_if_fits true s = Goes s
next_if_fits false s = Over (Trap 3) s

-- a register gets a word that was loaded, if it was
abbrev pub next_with_word : ℕ → Option ℕ → State → MachineNext
next_with_word ra (Some word) s = next_instruction (with_register ra word s)
next_with_word ra None s = stuck_at s

-- the machine goes on after a store that was done
abbrev pub advanced_if : Bool → State → MachineNext
advanced_if true s = next_instruction s
advanced_if false s = stuck_at s
