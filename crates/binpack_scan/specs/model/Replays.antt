-- What the blocks of an allocation ask for before the edges between them are done.
use Rattle.std.specs.Prelude.{◌≡◌, ℕ, ◌+◌, ◌≤◌, List, length, slice_get, Some}
use Rattle.temp_ir.specs.declared.insn.TempInsn.{TempInsn}
use Rattle.temp_ir.specs.Insns.{reads_of, writes_of}
use Rattle.temp_ir.specs.Fixed.{fixed_reads_of}
use Rattle.temp_ir.specs.Programs.{TempFn}
use Rattle.alloc_model.specs.declared.allocation.TempPlace.{TempPlace}
use Rattle.alloc_model.specs.declared.allocation.Transfer.{Transfer}
use Rattle.alloc_model.specs.Effect.{Temp}
use Rattle.alloc_model.specs.Places.{Plan, transfers_at, registers_at}
use Rattle.alloc_model.specs.Needs.{is_live_at}
use Rattle.alloc_model.specs.Faithful.{move_all, MovesAsk, ReadsAsk, FixedAsk, held_before}
use Rattle.alloc_rules.specs.Frugal.{place_at_bottom}
use Rattle.alloc_rules.specs.Lean.{most_before}

-- all that is asked for in a block is in the set of the replay, and at its end each live temporary is at the place that
-- the map there names, or in its slot
pub record ReplaysBlock (a : Plan) (block : ℕ) (insns : List TempInsn) : Type 0 where
  pub stated : (at : ℕ) (x : TempInsn) → slice_get insns at ≡ Some x →
      length (registers_at a block at) ≡ length (reads_of x) + length (writes_of x)
  pub few : (at : ℕ) (x : TempInsn) → slice_get insns at ≡ Some x → length (transfers_at a block at) ≤ most_before x
  pub moves : (at : ℕ) (x : TempInsn) → slice_get insns at ≡ Some x →
      MovesAsk (transfers_at a block at) (held_before a block at)
  pub temps_read : (at : ℕ) (x : TempInsn) → slice_get insns at ≡ Some x →
      ReadsAsk (reads_of x) (registers_at a block at) (move_all (transfers_at a block at) (held_before a block at))
  pub fixed_read : (at : ℕ) (x : TempInsn) → slice_get insns at ≡ Some x →
      FixedAsk (fixed_reads_of x) (move_all (transfers_at a block at) (held_before a block at))
  pub bottoms : (t : ℕ) → is_live_at a t block (length insns) →
      held_before a block (length insns) (Temp t) (place_at_bottom a block t)

-- an allocation of a function with these maps and lists, whatever is done on its edges
pub record IsPlanOf (f : TempFn) (tops bottoms : List (List TempPlace)) (transfers : List (List Transfer))
    (registers : List (List ℕ)) (a : Plan) : Type 0 where
  pub blocks : a.function.blocks ≡ f.blocks
  pub params : a.params ≡ f.params
  pub temps : a.temps ≡ f.temps
  pub top : a.top ≡ tops
  pub bottom : a.bottom ≡ bottoms
  pub at : a.at ≡ transfers
  pub regs : a.regs ≡ registers
