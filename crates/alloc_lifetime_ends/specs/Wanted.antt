-- Where the temporaries of a function are wanted, as tests by the sets of what is live at the bottoms of its blocks.
use Rattle.std.specs.Prelude.{ℕ, suc, ◌+◌, ◌*◌, ◌==◌, ◌&&◌, ◌||◌, not, nat_le, Bool, false, List, [], ◌∷◌, drop, length, slice_get, Option, Some, None}
use Rattle.temp_ir.specs.declared.insn.TempInsn.{TempInsn}
use Rattle.temp_ir.specs.Insns.{reads_of, writes_of, targets_of, flows_on_of}
use Rattle.alloc_model.specs.Places.{Plan}
use Rattle.alloc_model.specs.Lifetimes.{Blocks}
use Rattle.alloc_rules.specs.Visits.{Wants, AreWants}
use Rattle.bitvector_flow.specs.Flows.{has_at}
use Rattle.bitvector_flow.specs.Lives.{has_register, reads_first, some_writes, AreLive}

-- a temporary is live at a place of a block: what is left there reads it first; or does not write it, and it is live at
-- the bottom
abbrev pub live_in : Option (List TempInsn) → (at_bottom : Bool) → (t at : ℕ) → Bool
live_in None at_bottom t at = false
live_in (Some insns) at_bottom t at =
    nat_le at (length insns)
    && (reads_first reads_of writes_of (drop at insns) t
    || (not (some_writes writes_of (drop at insns) t) && at_bottom))

abbrev pub live_by : Blocks → (bottoms : List (List Bool)) → (t block at : ℕ) → Bool
live_by blocks bottoms t block at = live_in (slice_get blocks block) (has_at bottoms block t) t at

-- an instruction with a number reads a temporary, or it is live before, at the point of reading; or it writes it, or
-- it is live behind, at the point of writing
abbrev pub present_at : (live : (at : ℕ) → Bool) → (t point number at : ℕ) → TempInsn → Bool
present_at live t point number at x =
    ((point == 2 * number) && (has_register (reads_of x) t || live at))
    || ((point == 2 * number + 1) && (has_register (writes_of x) t || live (suc at)))

-- so it is at one of the instructions of a block from a place on, of which the first has this number
abbrev pub present_from : (live : (at : ℕ) → Bool) → (t point number at : ℕ) → List TempInsn → Bool
present_from live t point number at [] = false
present_from live t point number at (x ∷ insns) =
    present_at live t point number at x || present_from live t point (suc number) (suc at) insns

-- or of the blocks from one on
abbrev pub present_in : (live : (block at : ℕ) → Bool) → (t point number block : ℕ) → Blocks → Bool
present_in live t point number block [] = false
present_in live t point number block (insns ∷ blocks) =
    present_from (live block) t point number 0 insns
    || present_in live t point (number + length insns) (suc block) blocks

abbrev pub wants_of : Blocks → (bottoms : List (List Bool)) → Wants
wants_of blocks bottoms = record {
  live = live_by blocks bottoms;
  present = λ t point. present_in (live_by blocks bottoms t) t point 0 0 blocks;
}

-- that these tests say what is so, where the sets have what is live
abbrev pub WantsAreExact : Type 0
WantsAreExact =
    (a : Plan) (temps : ℕ) (tops bottoms : List (List Bool)) →
    AreLive reads_of writes_of targets_of flows_on_of a.function.blocks temps tops bottoms →
    AreWants a (wants_of a.function.blocks bottoms)
