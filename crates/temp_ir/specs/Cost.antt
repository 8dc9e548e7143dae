-- The bulk of a function: a bound on its words behind the allocation, where that moves no more than so many values at
-- each instruction, call and edge.
use Rattle.std.specs.Prelude.{ℕ, ◌+◌, ◌*◌, Bool, true, false, List, sum_by, count_by}
use Rattle.pass_core.specs.Functions.{count_of, edge_count}
use Rattle.temp_ir.specs.declared.insn.TempInsn.{TempInsn}
use Rattle.temp_ir.specs.declared.insn.TempInsn.TheVariants.{Call, Divide}
use Rattle.temp_ir.specs.Insns.{targets_of, flows_on_of}
use Rattle.temp_ir.specs.Programs.{TempFn}

-- an instruction calls a function or a division routine
abbrev pub makes_call : TempInsn → Bool
makes_call (Call function arguments) = true
makes_call (Divide routine) = true
makes_call i = false

abbrev pub call_count : List (List TempInsn) → ℕ
call_count blocks = sum_by (λ block. count_by makes_call block) blocks

-- the words of a function whose edges are split, with all that is moved
abbrev pub bulk : TempFn → ℕ
bulk f = 64 + 24 * count_of f.blocks + 160 * call_count f.blocks + 256 * edge_count targets_of flows_on_of f.blocks

-- the same where each edge may still be split, which adds a block of one jump and an edge
abbrev pub bulk_when_split : TempFn → ℕ
bulk_when_split f =
    64 + 24 * count_of f.blocks + 160 * call_count f.blocks + 536 * edge_count targets_of flows_on_of f.blocks
