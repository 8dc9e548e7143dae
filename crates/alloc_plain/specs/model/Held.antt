-- Where temporaries have their places in the plainest allocation: in registers 1 to 3, one in each at most.
use Rattle.std.specs.Prelude.{◌≡◌, ℕ, ◌+◌, ◌==◌, Bool, true, false, List, [], ◌∷◌, length, slice_index_or, Option, Some, None, if◌then◌else◌}
use Rattle.temp_ir.specs.declared.insn.TempInsn.{TempInsn}
use Rattle.temp_ir.specs.Insns.{reads_of, writes_of}
use Rattle.alloc_model.specs.Effect.{calls_function}
use Rattle.alloc_model.specs.Places.{Place, Reg, Slot}
use Rattle.alloc_rules.specs.Visits.{Homes}
use Rattle.alloc_plain.specs.declared.holders.HeldTemporaries.{HeldTemporaries}

-- a register has a temporary
abbrev pub is_in : Option ℕ → (t : ℕ) → Bool
is_in None t = false
is_in (Some u) t = u == t

abbrev pub register_by : (first second third : Bool) → Option ℕ
register_by true second third = Some 1
register_by false true third = Some 2
register_by false false true = Some 3
register_by false false false = None

-- the register of a temporary, if it has one
abbrev pub register_in : HeldTemporaries → (t : ℕ) → Option ℕ
register_in h t = register_by (is_in h.first t) (is_in h.second t) (is_in h.third t)

abbrev pub place_in : Option ℕ → (t : ℕ) → Place
place_in None t = Slot t
place_in (Some r) t = Reg r

abbrev pub home_in : HeldTemporaries → Homes
home_in h t = place_in (register_in h t) t

-- a temporary comes to a register, and has no other one then
abbrev pub without_temp : (t : ℕ) → Option ℕ → Option ℕ
without_temp t None = None
without_temp t (Some u) = if u == t then None else Some u

abbrev pub holder_behind : (here : Bool) → (t : ℕ) → Option ℕ → Option ℕ
holder_behind true t holder = Some t
holder_behind false t holder = without_temp t holder

abbrev pub comes : (register t : ℕ) → HeldTemporaries → HeldTemporaries
comes r t h = record {
  first = holder_behind (r == 1) t h.first;
  second = holder_behind (r == 2) t h.second;
  third = holder_behind (r == 3) t h.third;
}

-- temporaries come one after the other, to registers from one on
abbrev pub come : List ℕ → (register : ℕ) → HeldTemporaries → HeldTemporaries
come [] r h = h
come (t ∷ ts) r h = come ts (r + 1) (comes r t h)

abbrev pub nothing_held : HeldTemporaries
nothing_held = record { first = None; second = None; third = None }

-- behind the loads and what the instruction ends: a call of a function ends all three
abbrev pub held_left : TempInsn → HeldTemporaries → HeldTemporaries
held_left x h = if calls_function x then nothing_held else come (reads_of x) 1 h

-- behind its writes
abbrev pub held_behind : TempInsn → HeldTemporaries → HeldTemporaries
held_behind x h = come (writes_of x) (1 + length (reads_of x)) (held_left x h)

-- behind the instructions of a block
abbrev pub held_behind_all : List TempInsn → HeldTemporaries → HeldTemporaries
held_behind_all [] h = h
held_behind_all (x ∷ insns) h = held_behind_all insns (held_behind x h)

-- at a block's top what is live there has its slot
abbrev pub unless_live : (live : List Bool) → Option ℕ → Option ℕ
unless_live live None = None
unless_live live (Some t) = if slice_index_or live t false then None else Some t

abbrev pub held_at_top : (live : List Bool) → HeldTemporaries → HeldTemporaries
held_at_top live h = record {
  first = unless_live live h.first;
  second = unless_live live h.second;
  third = unless_live live h.third;
}

-- what is held is of a kind
pub record Holds (P : ℕ → Type 0) (h : HeldTemporaries) : Type 0 where
  pub first : (t : ℕ) → is_in h.first t ≡ true → P t
  pub second : (t : ℕ) → is_in h.second t ≡ true → P t
  pub third : (t : ℕ) → is_in h.third t ≡ true → P t
