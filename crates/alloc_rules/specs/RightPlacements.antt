-- A small allocation with a loop and a call that is faithful: a value stays in a register that the call keeps.
use Rattle.std.specs.Prelude.{List, [], ◌∷◌}
use Rattle.temp_ir.specs.declared.operation.TempBranchOp.TheVariants.{Bne}
use Rattle.temp_ir.specs.declared.insn.TempInsn.{TempInsn}
use Rattle.temp_ir.specs.declared.insn.TempInsn.TheVariants.{Branch, Call, Mark}
use Rattle.alloc_model.specs.declared.allocation.Transfer.TheVariants as x
use Rattle.alloc_model.specs.Places.{Plan}
use Rattle.alloc_model.specs.Examples.{set_temp, return_temp, plan, edge}

-- a function is called until a number is 0, and the number is returned
abbrev pub looping_blocks : List (List TempInsn)
looping_blocks = (set_temp 0 5 ∷ []) ∷ (Mark ∷ Call 1 0 ∷ Branch Bne 0 1 ∷ []) ∷ return_temp 0 ∷ []

-- it is stored once, before the loop, and loaded once in each round, before the call
abbrev pub kept_over_call : Plan
kept_over_call =
    plan looping_blocks ([] ∷ (x.Load 0 9 ∷ []) ∷ [] ∷ [] ∷ (x.Load 0 9 ∷ []) ∷ [] ∷ [])
    ((9 ∷ []) ∷ [] ∷ [] ∷ (9 ∷ []) ∷ (9 ∷ []) ∷ [] ∷ [])
    (edge 0 1 (x.Store 0 9 ∷ []) ∷ edge 1 1 [] ∷ edge 1 2 [] ∷ [])
