-- Which temporary has its place in each register, as a table by the numbers of registers.
use Rattle.std.specs.Prelude.{ℕ, zero, suc, ◌==◌, Bool, false, List, [], ◌∷◌, zip, slice_set, slice_index_or, Option, Some, None, if◌then◌else◌}
use Rattle.temp_ir.specs.declared.insn.TempInsn.{TempInsn}
use Rattle.temp_ir.specs.Insns.{writes_of}
use Rattle.alloc_model.specs.declared.allocation.Transfer.{Transfer}
use Rattle.alloc_model.specs.declared.allocation.Transfer.TheVariants.{Store, Load, Shift}
use Rattle.alloc_rules.specs.Visits.{takes_away, registers_written}
use Rattle.alloc_journal.specs.declared.holders.Written.{Written}

abbrev pub Holders : Type 0
Holders = List (Option ℕ)

abbrev pub holder_in : Holders → (register : ℕ) → Option ℕ
holder_in holders r = slice_index_or holders r None

-- a register has a temporary
abbrev pub is_in : Option ℕ → (t : ℕ) → Bool
is_in None t = false
is_in (Some u) t = u == t

-- the first register from one on that has a temporary, if there is one
abbrev pub register_from : (r : ℕ) → Holders → (t : ℕ) → Option ℕ
register_from r [] t = None
register_from r (o ∷ holders) t = if is_in o t then Some r else register_from (suc r) holders t

abbrev pub register_in : Holders → (t : ℕ) → Option ℕ
register_in holders t = register_from 0 holders t

-- ---- transfers

-- a register has none any more, if there is one
abbrev pub without : Option ℕ → Holders → Holders
without None holders = holders
without (Some r) holders = slice_set holders r None

-- a temporary comes to a register, and has no other one then
abbrev pub comes : (register t : ℕ) → Holders → Holders
comes r t holders = slice_set (without (register_in holders t) holders) r (Some t)

abbrev pub behind_move : Transfer → Holders → Holders
behind_move (Store t r) holders = holders
behind_move (Load t r) holders = comes r t holders
behind_move (Shift t from to) holders = comes to t holders

abbrev pub behind_moves : List Transfer → Holders → Holders
behind_moves [] holders = holders
behind_moves (x ∷ xs) holders = behind_moves xs (behind_move x holders)

-- ---- an instruction

-- of the registers below a number those have none that it takes away
abbrev pub cleared : Bool → (r : ℕ) → Holders → Holders
cleared taken r holders = if taken then slice_set holders r None else holders

unfoldable pub left_below : TempInsn → (count : ℕ) → Holders → Holders
left_below x zero holders = holders
left_below x (suc n) holders = cleared (takes_away x n) n (left_below x n holders)

-- behind the transfers before an instruction and what it takes away
abbrev pub holders_left : TempInsn → List Transfer → Holders → Holders
holders_left x xs holders = left_below x 26 (behind_moves xs holders)

-- what it writes, with the register that is stated for it
abbrev pub written_pairs : Option Written → List (ℕ × ℕ)
written_pairs None = []
written_pairs (Some w) = (w.temp, w.register) ∷ []

abbrev pub pairs_written : TempInsn → (registers : List ℕ) → List (ℕ × ℕ)
pairs_written x registers = zip (writes_of x) (registers_written registers x)

abbrev pub all_come : List (ℕ × ℕ) → Holders → Holders
all_come [] holders = holders
all_come (w ∷ ws) holders = all_come ws (comes w.1 w.0 holders)

abbrev pub holders_behind : TempInsn → List Transfer → (registers : List ℕ) → Holders → Holders
holders_behind x xs registers holders = all_come (pairs_written x registers) (holders_left x xs holders)
