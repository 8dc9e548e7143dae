-- The memory at the start of a program: its objects of static storage by their numbers, and nothing else.
use Rattle.std.specs.Prelude.{ℕ, ◌-◌, true, pos, List, ◌++◌, map, length, replicate}
use Rattle.mem_model.specs.declared.value.Ptr.{Ptr}
use Rattle.mem_model.specs.declared.value.Cell as c
use Rattle.mem_model.specs.declared.value.Cell.TheVariants as m
use Rattle.mem_model.specs.Memory.{Object, Memory}
use Rattle.mem_objects.specs.declared.DataObject.{DataObject}
use Rattle.mem_objects.specs.declared.DataCell.{DataCell}
use Rattle.mem_objects.specs.declared.DataCell.TheVariants.{Byte, AddressPart}

-- the address of an object of static storage, moved by so many bytes
abbrev pub address_of : (global plus : ℕ) → Ptr
address_of global plus = record { object = global; offset = pos plus }

-- a cell as memory holds it
abbrev pub memory_cell : DataCell → c.Cell
memory_cell (Byte b) = m.Byte b
memory_cell (AddressPart global plus part) = m.Part (address_of global plus) part

-- an object at the start: its cells, and zero bytes up to its size (C99 6.7.8)
abbrev pub start_object : DataObject → Object
start_object o = record {
  live = true;
  writable = o.writable;
  cells = map memory_cell o.cells ++ replicate (o.size - length o.cells) (m.Byte 0);
}

abbrev pub start_memory : List DataObject → Memory
start_memory globals = map start_object globals
