-- A memory of two live objects and one that has ended, and bytes that stand for it.
use Rattle.std.specs.Prelude.{◌≡◌, pos, ◌&&◌, nat_le, nat_lt, true, false, [], ◌∷◌, Ok, if◌then◌else◌}
use Rattle.mem_model.specs.declared.value.Ptr.{Ptr}
use Rattle.mem_model.specs.declared.value.Value.TheVariants.{Word, Address}
use Rattle.mem_model.specs.declared.value.Cell.TheVariants.{Empty, Byte}
use Rattle.mem_model.specs.Cells.{parts_of}
use Rattle.mem_model.specs.Memory.{Memory, no_object, load_at}
use Rattle.frame_memory.specs.Bytes.{Bytes, bytes_from, put_bytes, low_bytes, number_from}
use Rattle.frame_memory.specs.Relation.{Extents, Owners, OfObject, Nobody, MemoryIs}

-- an object that holds a pointer to the third byte of another one, of which two bytes were written
abbrev pub example_target : Ptr
example_target = record { object = 1; offset = pos 2 }

abbrev pub memory : Memory
memory =
    record { live = true; writable = true; cells = parts_of example_target }
    ∷ record { live = true; writable = false; cells = Byte 7 ∷ Byte 1 ∷ Empty ∷ [] }
    ∷ no_object
    ∷ []

-- the one that has ended lay where the first one lies now
abbrev pub extents : Extents
extents =
    record { base = 65536; size = 8 } ∷ record { base = 65544; size = 3 } ∷ record { base = 65536; size = 5 } ∷ []

abbrev pub owners : Owners
owners y =
    if nat_le 65536 y && nat_lt y 65544 then OfObject 0
    else if nat_le 65544 y && nat_lt y 65547 then OfObject 1 else Nobody

-- the pointer is the address 65,546, and what was never written is any byte
abbrev pub example_bytes : Bytes
example_bytes = put_bytes (put_bytes (λ y. 0) 65536 (low_bytes 8 65546)) 65544 (7 ∷ 1 ∷ 99 ∷ [])

pub record ExampleStands : Type 0 where
  pub stands : MemoryIs extents memory owners example_bytes
  pub pointer : load_at memory (record { object = 0; offset = pos 0 }) 8 true ≡ Ok (Address example_target)
  pub address : number_from (bytes_from example_bytes 65536 8) ≡ 65546
  pub number : load_at memory (record { object = 1; offset = pos 0 }) 2 false ≡ Ok (Word 263)
  pub word : number_from (bytes_from example_bytes 65544 2) ≡ 263
