-- What an allocator comes upon at each instruction in linear order: where each temporary has its place, by a replay of
-- the finished allocation; which registers are free, and for how long; and which temporary is wanted again last.
use Rattle.std.specs.Prelude.{◌≡◌, ℕ, zero, suc, ◌+◌, ◌-◌, ◌*◌, ◌/◌, ◌%◌, ◌==◌, nat_lt, ◌↔◌, not, ◌&&◌, ◌||◌, Bool, true, false, List, [], ◌∷◌, drop, length, filter, find, flat_map, take_while, slice_get, slice_index_or, Option, Some, None, unwrap_or, option_and_then, if◌then◌else◌}
use Rattle.std.specs.List.{list_any, range_with_len, best_of}
use Rattle.pass_core.specs.Functions.{count_of, insn_at}
use Rattle.temp_ir.specs.declared.insn.TempInsn.{TempInsn}
use Rattle.temp_ir.specs.Insns.{reads_of, writes_of}
use Rattle.temp_ir.specs.Fixed.{fixed_reads_of, fixed_writes_of, ended_of, has_number}
use Rattle.alloc_model.specs.declared.allocation.Transfer.{Transfer}
use Rattle.alloc_model.specs.declared.allocation.Transfer.TheVariants.{Store, Load, Shift}
use Rattle.alloc_model.specs.Places.{Place, Reg, Slot, place_eq, Plan, linear_number, transfers_at, registers_at}
use Rattle.alloc_model.specs.Lifetimes.{IsPresent}
use Rattle.alloc_model.specs.Needs.{is_live_at, place_at_top}
use Rattle.alloc_model.specs.Faithful.{given_registers}

-- ---- where temporaries are wanted, as tests

pub record Wants : Type 0 where
  pub live : (t block at : ℕ) → Bool
  pub present : (t point : ℕ) → Bool

-- they say of an allocation's function what is so
pub record AreWants (a : Plan) (wants : Wants) : Type 0 where
  pub lives : (t block at : ℕ) → (wants.live t block at ≡ true) ↔ is_live_at a t block at
  pub presents : (t point : ℕ) → (wants.present t point ≡ true) ↔ IsPresent a.function.blocks t point

-- ---- the place of a temporary

abbrev pub Homes : Type 0
Homes = (t : ℕ) → Place

-- a temporary comes to a register; the slot of another one that had its place there is its place then
abbrev pub comes_to : (register u : ℕ) → Homes → Homes
comes_to r u homes t =
    if t == u then Reg r else (if place_eq (homes t) (Reg r) then Slot t else homes t)

abbrev pub homes_behind_move : Transfer → Homes → Homes
homes_behind_move (Store t r) homes = homes
homes_behind_move (Load t r) homes = comes_to r t homes
homes_behind_move (Shift t from to) homes = comes_to to t homes

abbrev pub homes_behind_moves : List Transfer → Homes → Homes
homes_behind_moves [] homes = homes
homes_behind_moves (x ∷ xs) homes = homes_behind_moves xs (homes_behind_move x homes)

-- an instruction takes a register for what it writes as fixed, or ends it
abbrev pub takes_away : TempInsn → (register : ℕ) → Bool
takes_away x r = has_number (fixed_writes_of x) r || has_number (ended_of x) r

abbrev pub place_left : TempInsn → (t : ℕ) → Place → Place
place_left x t (Reg r) = if takes_away x r then Slot t else Reg r
place_left x t p = p

abbrev pub homes_left : TempInsn → Homes → Homes
homes_left x homes t = place_left x t (homes t)

-- the temporaries that are written come to their stated registers
abbrev pub all_come_to : (registers temps : List ℕ) → Homes → Homes
all_come_to (r ∷ rs) (u ∷ us) homes = all_come_to rs us (comes_to r u homes)
all_come_to rs us homes = homes

abbrev pub registers_written : (registers : List ℕ) → TempInsn → List ℕ
registers_written registers x = drop (length (reads_of x)) registers

abbrev pub homes_behind_insn : List Transfer → (registers : List ℕ) → Option TempInsn → Homes → Homes
homes_behind_insn xs rs None homes = homes
homes_behind_insn xs rs (Some x) homes =
    all_come_to (registers_written rs x) (writes_of x) (homes_left x (homes_behind_moves xs homes))

-- before the instruction at a place of a block, from the places at its top
abbrev pub homes_from : Plan → (block at : ℕ) → Homes → Homes
homes_from a block zero homes = homes
homes_from a block (suc at) homes =
    homes_behind_insn (transfers_at a block at) (registers_at a block at) (insn_at a.function.blocks block at)
    (homes_from a block at homes)

-- a temporary that is live at a block's top has the place that is named there, and any other one the place that it had
abbrev pub with_top : Plan → Wants → (block : ℕ) → Homes → Homes
with_top a wants block homes t = if wants.live t block 0 then place_at_top a block t else homes t

abbrev pub block_length : Plan → (block : ℕ) → ℕ
block_length a block = length (slice_index_or a.function.blocks block [])

abbrev pub homes_at_top : Plan → Wants → (block : ℕ) → Homes
homes_at_top a wants zero = with_top a wants 0 (λ t. Slot t)
homes_at_top a wants (suc block) =
    with_top a wants (suc block) (homes_from a block (block_length a block) (homes_at_top a wants block))

abbrev pub homes_before : Plan → Wants → (block at : ℕ) → Homes
homes_before a wants block at = homes_from a block at (homes_at_top a wants block)

abbrev pub homes_at_bottom : Plan → Wants → (block : ℕ) → Homes
homes_at_bottom a wants block = homes_before a wants block (block_length a block)

-- ---- moments of a visit

-- an instruction at a place of a block, with the places that temporaries have at one moment of its visit, at its point
-- of reading or of writing
pub record Moment : Type 0 where
  pub block : ℕ
  pub at : ℕ
  pub insn : TempInsn
  pub point : ℕ
  pub homes : Homes

-- before a read, where these transfers were made, and before a write, where all were
abbrev pub moment_of_read : Plan → Wants → (block at : ℕ) → TempInsn → (made : List Transfer) → Moment
moment_of_read a wants block at x made = record {
  block = block;
  at = at;
  insn = x;
  point = 2 * linear_number a.function.blocks block at;
  homes = homes_behind_moves made (homes_before a wants block at);
}

abbrev pub moment_of_write : Plan → Wants → (block at : ℕ) → TempInsn → Moment
moment_of_write a wants block at x = record {
  block = block;
  at = at;
  insn = x;
  point = 2 * linear_number a.function.blocks block at + 1;
  homes = homes_left x (homes_behind_moves (transfers_at a block at) (homes_before a wants block at));
}

-- ---- free registers

-- an instruction names a register as fixed, or ends it
abbrev pub fixes : TempInsn → (register : ℕ) → Bool
fixes x r = has_number (fixed_reads_of x) r || takes_away x r

-- one of these instructions reads a register as fixed, and none before it writes it as fixed or ends it
abbrev pub holds_fixed_value : (register : ℕ) → List TempInsn → Bool
holds_fixed_value r [] = false
holds_fixed_value r (x ∷ xs) = has_number (fixed_reads_of x) r || (not (takes_away x r) && holds_fixed_value r xs)

abbrev pub insns_behind : Plan → Moment → List TempInsn
insns_behind a m = drop (suc m.at) (slice_index_or a.function.blocks m.block [])

abbrev pub all_temps : Plan → List ℕ
all_temps a = range_with_len 0 a.temps

-- a temporary that is present at a point has its place in a register
abbrev pub is_used : Plan → Wants → Homes → (register point : ℕ) → Bool
is_used a wants homes r point = list_any (λ t. place_eq (homes t) (Reg r) && wants.present t point) (all_temps a)

abbrev pub is_free : Plan → Wants → Moment → (register : ℕ) → Bool
is_free a wants m r =
    not (is_used a wants m.homes r m.point) && not (holds_fixed_value r (insns_behind a m)) && not (fixes m.insn r)

-- in their stated order
abbrev pub free_registers : Plan → Wants → Moment → List ℕ
free_registers a wants m = filter (is_free a wants m) given_registers

-- ---- spans

-- the points behind one
abbrev pub last_point : Plan → ℕ
last_point a = 2 * count_of a.function.blocks

abbrev pub points_behind : Plan → (point : ℕ) → List ℕ
points_behind a point = range_with_len (suc point) (last_point a - suc point)

-- a fixed use or a call is at the point at which its instruction reads
abbrev pub insn_fixes : (register : ℕ) → Option TempInsn → Bool
insn_fixes r None = false
insn_fixes r (Some x) = fixes x r

abbrev pub is_fixed_at : Plan → (register point : ℕ) → Bool
is_fixed_at a r point =
    (point % 2 == 0) && insn_fixes r (slice_get (flat_map (λ insns. insns) a.function.blocks) (point / 2))

-- where the span of a free register ends, if it does: a fixed use or a call takes it, or a temporary that has its place
-- there comes out of its hole
abbrev pub span_end : Plan → Wants → Moment → (register : ℕ) → Option ℕ
span_end a wants m r =
    find (λ point. is_fixed_at a r point || is_used a wants m.homes r point) (points_behind a m.point)

-- the last point of the part of a temporary that is present
abbrev pub part_end : Plan → Wants → Moment → (t : ℕ) → ℕ
part_end a wants m t =
    unwrap_or (find (λ point. not (wants.present t point)) (points_behind a m.point)) (last_point a) - 1

-- a register whose span ends so is taken first behind a point
abbrev pub reaches : (point : ℕ) → Option ℕ → Bool
reaches point None = true
reaches point (Some end) = nat_lt point end

-- a span that nothing ends is longest
abbrev pub is_shorter : Option ℕ → Option ℕ → Bool
is_shorter (Some e) (Some f) = nat_lt e f
is_shorter (Some e) None = true
is_shorter None f = false

-- the shortest that reaches a point is best; where none does, the longest
abbrev pub is_better : (point : ℕ) → Option ℕ → Option ℕ → Bool
is_better point e f =
    if reaches point e then not (reaches point f) || is_shorter e f else not (reaches point f) && is_shorter f e

abbrev pub best_among : (point : ℕ) → (span : (register : ℕ) → Option ℕ) → List ℕ → Option ℕ
best_among point span [] = None
best_among point span (r ∷ rs) = Some (best_of (λ q p. is_better point (span q) (span p)) r rs)

-- the free register that is best for a temporary, if one is free
abbrev pub best_register : Plan → Wants → Moment → (t : ℕ) → Option ℕ
best_register a wants m t = best_among (part_end a wants m t) (span_end a wants m) (free_registers a wants m)

-- a register is free up to the end of the part of a temporary
abbrev pub is_free_for : Plan → Wants → Moment → (t register : ℕ) → Bool
is_free_for a wants m t r = is_free a wants m r && reaches (part_end a wants m t) (span_end a wants m r)

-- ---- the temporary that leaves

abbrev pub names_temp : TempInsn → (t : ℕ) → Bool
names_temp x t = has_number (reads_of x) t || has_number (writes_of x) t

abbrev pub insn_names : (t : ℕ) → (is_read : Bool) → Option TempInsn → Bool
insn_names t is_read None = false
insn_names t true (Some x) = has_number (reads_of x) t
insn_names t false (Some x) = has_number (writes_of x) t

abbrev pub is_named_at : Plan → (t point : ℕ) → Bool
is_named_at a t point =
    insn_names t (point % 2 == 0) (slice_get (flat_map (λ insns. insns) a.function.blocks) (point / 2))

-- the first reference behind the point at which the instruction writes
abbrev pub next_reference : Plan → Moment → (t : ℕ) → Option ℕ
next_reference a m t =
    find (is_named_at a t) (points_behind a (2 * linear_number a.function.blocks m.block m.at + 1))

abbrev pub register_in_place : Place → Option ℕ
register_in_place (Reg r) = Some r
register_in_place p = None

-- a place is a register that an instruction leaves alone
abbrev pub is_register_beside : TempInsn → Option ℕ → Bool
is_register_beside x None = false
is_register_beside x (Some r) = not (fixes x r)

-- those that may leave have a register that the instruction leaves alone, and are not named by it
abbrev pub may_leave : Moment → (t : ℕ) → Bool
may_leave m t = is_register_beside m.insn (register_in_place (m.homes t)) && not (names_temp m.insn t)

-- the one whose next reference is farthest, a missing one being farther than any; of two the lower number
abbrev pub farthest_among : (next : (t : ℕ) → Option ℕ) → List ℕ → Option ℕ
farthest_among next [] = None
farthest_among next (t ∷ ts) = Some (best_of (λ u v. is_shorter (next v) (next u)) t ts)

abbrev pub victim : Plan → Moment → Option ℕ
victim a m = farthest_among (next_reference a m) (filter (may_leave m) (all_temps a))

-- the register that it leaves
abbrev pub victim_register : Plan → Moment → Option ℕ
victim_register a m = option_and_then (λ t. register_in_place (m.homes t)) (victim a m)

-- ---- fixed uses

-- a transfer takes a temporary out of a register below one that the instruction names as fixed or ends
abbrev pub leaves_below : TempInsn → (register : ℕ) → Transfer → Bool
leaves_below x r (Store t from) = fixes x from && nat_lt from r
leaves_below x r (Shift t from to) = fixes x from && nat_lt from r
leaves_below x r (Load t to) = false

-- the transfers that are made before such a register is treated, by rising number
abbrev pub made_below : Plan → (block at : ℕ) → TempInsn → (register : ℕ) → List Transfer
made_below a block at x r = take_while (leaves_below x r) (transfers_at a block at)
