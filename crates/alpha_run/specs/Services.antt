-- The services that a program asks for.
use Rattle.std.specs.Prelude.{ℕ, Bool, false, ◌&&◌, ◌==◌, Option, Some}
use Rattle.alpha_isa.specs.declared.insn.Fields.{Fields}
use Rattle.alpha_isa.specs.declared.insn.Fields.TheVariants as fields
use Rattle.alpha_isa.specs.Program.{Program, instruction_at}
use Rattle.alpha_isa.specs.State.{State, register}

-- the instruction calls a service
abbrev pub is_service : Option Fields → Bool
is_service (Some (fields.Pal function)) = function == 0x83
is_service _ = false

-- the next step asks for this service: 2 puts a byte, 3 takes one
abbrev pub asks_service : Program → ℕ → State → Bool
asks_service p number s = is_service (instruction_at p s.pc) && (register s 0 == number)
