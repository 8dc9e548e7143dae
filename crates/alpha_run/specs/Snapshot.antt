-- What a contract sees of a machine.
use Rattle.std.specs.Prelude.{◌≡◌, ℕ, ◌+◌, List, length, map, replicate, slice_set, Option, None}
use Rattle.alpha_isa.specs.declared.insn.Fields.{Fields}
use Rattle.alpha_isa.specs.Words.{insn_of}
use Rattle.alpha_isa.specs.Program.{Program, data_of, image_data_size, word_address, stack_start}
use Rattle.alpha_isa.specs.State.{State}
use Rattle.alpha_isa.specs.Step.{Halt}

-- the text as its instructions, the state of a step without the input and the output, how many steps were
-- done and bytes put, and how the program came to its end
pub record Snapshot : Type 0 where
  pub text : List (Option Fields)
  pub pc : ℕ
  pub registers : List ℕ
  pub data_bytes : List ℕ
  pub stack_bytes : List ℕ
  pub steps : ℕ
  pub written : ℕ
  pub halt : Option Halt

-- a machine stands as the definition's, with the input that is left and the output so far
abbrev pub snapshot_state : Snapshot → List ℕ → List ℕ → State
snapshot_state m input output = record {
  pc = m.pc;
  registers = m.registers;
  data_bytes = m.data_bytes;
  stack_bytes = m.stack_bytes;
  input = input;
  output = output;
}

-- where a machine stands that was just loaded: as the definition's start
abbrev pub first_snapshot : Program → ℕ → Snapshot
first_snapshot p stack = record {
  text = map insn_of p.words;
  pc = word_address p.entry;
  registers = slice_set (replicate 32 0) 30 (stack_start p + stack);
  data_bytes = data_of p;
  stack_bytes = replicate stack 0;
  steps = 0;
  written = 0;
  halt = None;
}

-- the program that a machine runs: its text, and as many bytes of data
pub record IsMachineOf (p : Program) (m : Snapshot) : Type 0 where
  pub text : m.text ≡ map insn_of p.words
  pub size : length m.data_bytes ≡ image_data_size p
