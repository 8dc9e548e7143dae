-- What a machine keeps, and what a contract sees of it.
use Rattle.std.specs.Prelude.{◌≡◌, ◌+◌, ◌*◌, ◌≤◌, length, option_map}
use Rattle.alpha_isa.specs.Program.{most_words, text_start, next_part}
use Rattle.alpha_run.specs.Ending.{halt_is}
use Rattle.alpha_run.specs.Snapshot.{Snapshot}
use Rattle.alpha_run.specs.declared.machine.Machine.TheInside.{Inside}

abbrev pub snapshot_of : Inside → Snapshot
snapshot_of m = record {
  text = m.processor.text.items;
  pc = m.processor.pc;
  registers = m.processor.registers.words;
  data_bytes = m.processor.memory.data.items;
  stack_bytes = m.processor.memory.stack.items;
  steps = m.steps;
  written = m.written;
  halt = option_map halt_is m.halt;
}

-- the text keeps its limit, and the memory lies where the text and the data put it
pub record InsideIsSound (m : Inside) : Type 0 where
  pub short : length m.processor.text.items ≤ most_words
  pub data_start : m.processor.memory.data_start ≡ next_part (text_start + 4 * length m.processor.text.items)
  pub stack_start : m.processor.memory.stack_start
      ≡ next_part (m.processor.memory.data_start + length m.processor.memory.data.items)
