-- Straight code over temporaries: what it does to what a call holds, without the machine that runs it.
use Rattle.std.specs.Prelude.{◌≡◌, ℕ, false, List, [], ◌∷◌, map, if◌then◌else◌}
use Rattle.mem_model.specs.World.{Outer}
use Rattle.machine_model.specs.Code.{Stop, Act, Writes, Stops}
use Rattle.temp_ir.specs.declared.insn.TempInsn.{TempInsn}
use Rattle.alloc_model.specs.Contents.{Content}
use Rattle.alloc_model.specs.Stores.{without, put_all}
use Rattle.alloc_model.specs.Effect.{Holder, Temp, holder_eq, holders_read, holders_written, is_emptied, does, takes_turn}
use Rattle.alloc_model.specs.Temporaries.{Temps}

-- it goes on behind its last instruction, or an instruction of it ends the run; an instruction that takes a turn,
-- jumps, calls or returns is not straight
pub data Ran : Type 0 where
  After : Temps → Outer → Ran
  Halted : Stop → Outer → Ran
  NotStraight : Ran

abbrev pub goes_with : TempInsn → Temps → Act Content → (Temps → Outer → Ran) → Ran
goes_with x s (Writes cs o) rest = rest (put_all holder_eq (holders_written x) cs (without (is_emptied x) s)) o
goes_with x s (Stops e o) rest = Halted e o
goes_with x s _ rest = NotStraight

-- the instructions in order, in a function with a widest call, where own is the number of the call's first object
abbrev pub runs : (widest : ℕ) → List TempInsn → (own : ℕ) → Temps → Outer → Ran
runs widest [] own s o = After s o
runs widest (x ∷ xs) own s o =
    if takes_turn x then NotStraight
    else goes_with x s (does widest x own (map s (holders_read x)) o) (λ t p. runs widest xs own t p)

-- the code goes on behind its last instruction and has put a content into a temporary; all else holds what it held, and
-- the outer part is as it was
pub record PutsContent (widest : ℕ) (xs : List TempInsn) (own : ℕ) (s : Temps) (o : Outer) (d : ℕ) (c : Content)
    : Type 0 where
  pub after : Temps
  pub ran : runs widest xs own s o ≡ After after o
  pub holds : after (Temp d) ≡ c
  pub kept : (h : Holder) → holder_eq h (Temp d) ≡ false → after h ≡ s h
