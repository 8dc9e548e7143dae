-- The transfers of edges can be done in the frame of their function.
use Rattle.std.proofs.Common.{◌≡◌, ℕ, suc, ◌<◌, Bool, true, false, List, [], ◌∷◌, length, Some, if◌then◌else◌, refl, ap, arith, eq-eqb}
use Rattle.std.specs.Prelude.{◌==◌, ◌||◌, ◌&&◌, not, slice_get, find, All}
use Rattle.std.specs.List.{list_any}
use Rattle.std.proofs.lemmas.List.Elements.{All-from_recursion, All-head, All-tail, All-contains}
use Rattle.pass_core.specs.Functions.{insn_at}
use Rattle.temp_ir.specs.declared.insn.TempInsn.{TempInsn}
use Rattle.temp_ir.specs.Insns.{targets_of}
use Rattle.temp_ir.specs.Fixed.{has_number}
use Rattle.alloc_model.specs.declared.allocation.Transfer.{Transfer}
use Rattle.alloc_model.specs.declared.allocation.Transfer.TheVariants.{Store, Load, Shift}
use Rattle.alloc_model.specs.declared.allocation.EdgeCode.{EdgeCode}
use Rattle.alloc_model.specs.Effect.{Temp}
use Rattle.alloc_model.specs.Temporaries.{flows_out}
use Rattle.alloc_model.specs.Places.{Place, Reg, Slot, In, Out, Plan, edge_transfers, code_in}
use Rattle.alloc_model.specs.Faithful.{HolderPlaces, stands, MovesAsk, held_before, given_registers, named_registers, IsTransfer, IsGivenOrScratch, HasLists, Faithful}
use Rattle.frame_memory.specs.flat_frames.Shapes.{FrameShape}
use Rattle.frame_memory.specs.flat_frames.Frames.{with_known}
use Rattle.frame_steps.specs.frame_transfers.Laws.{IsWritable, CanTransferAll}
use Rattle.frame_steps.specs.function_items.InstructionItemsLaws.{is_usable}
use Rattle.frame_steps.specs.function_items.Items.{ends_with_branch, end_transfers}
use Rattle.frame_simulation.specs.function_shapes.Shapes.{names_in, shape_of}
use Rattle.frame_simulation.proofs.EdgeShapes.Holding.{either, known_place, Knows, knows-stands, knows-before}

-- ---- tests of lists

or-left : (b c : Bool) → b ≡ true → (b || c) ≡ true
or-left b c e = ap (λ z. z || c) e

or-right : (b c : Bool) → c ≡ true → (b || c) ≡ true
or-right true c e = refl
or-right false c e = e

number-here : (r : ℕ) (rs : List ℕ) → has_number (r ∷ rs) r ≡ true
number-here r rs = or-left (r == r) (has_number rs r) (eq-eqb r r refl)

-- ---- registers

all-below : All (λ r. r < 29) (28 ∷ given_registers)
all-below = All-from_recursion (λ r. r < 29) (28 ∷ given_registers) (omega arith, (omega arith, (omega arith, (omega arith, (omega arith, (omega arith, (omega arith, (omega arith, (omega arith, (omega arith, (omega arith, (omega arith, (omega arith, (omega arith, (omega arith, (omega arith, (omega arith, (omega arith, (omega arith, (omega arith, (omega arith, (omega arith, (omega arith, (omega arith, (omega arith, (omega arith, (omega arith, tt)))))))))))))))))))))))))))

writable : (s : FrameShape) (r : ℕ) → IsGivenOrScratch r → s.saves r ≡ true → IsWritable s r
writable s r given saved = record {
  value = All-contains (λ q. q < 29) (28 ∷ given_registers) r all-below given;
  saved = λ from to. saved;
}

more-known : (known : ℕ → Bool) (r : ℕ) (q : Place) → known_place known q ≡ true → known_place (with_known known r) q ≡ true
more-known known r (Reg x) e = or-right (x == r) (known x) e
more-known known r (Slot t) e = refl
more-known known r (In k) e = refl
more-known known r (Out k) e = refl

knows-put : (known : ℕ → Bool) (t r : ℕ) (h : HolderPlaces) → Knows known h → Knows (with_known known r) (stands (Temp t) (Reg r) h)
knows-put known t r h knows = knows-stands (with_known known r) (Temp t) (Reg r) h
    (λ n q e. more-known known r q (knows n q e))
    (or-left (r == r) (known r) (eq-eqb r r refl))

-- ---- transfers that ask for what stands in known registers

can-transfer : (s : FrameShape) (xs : List Transfer) (known : ℕ → Bool) (h : HolderPlaces) → ((r : ℕ) → names_in xs r ≡ true → s.saves r ≡ true) → All (IsTransfer s.temps IsGivenOrScratch) xs → Knows known h → MovesAsk xs h → CanTransferAll s known xs
can-transfer s [] known h cover all knows asks = tt
can-transfer s (Store t r ∷ xs) known h cover all knows asks =
    let head = All-head (IsTransfer s.temps IsGivenOrScratch) (Store t r) xs all in (
      (head.0, knows (Temp t) (Reg r) asks.0),
      can-transfer s xs known (stands (Temp t) (Slot t) h)
          (λ q e. cover q (or-right (has_number (named_registers (Store t r)) q) (names_in xs q) e))
          (All-tail (IsTransfer s.temps IsGivenOrScratch) (Store t r) xs all)
          (knows-stands known (Temp t) (Slot t) h knows refl)
          asks.1,
    )
can-transfer s (Load t r ∷ xs) known h cover all knows asks =
    let head = All-head (IsTransfer s.temps IsGivenOrScratch) (Load t r) xs all in (
      (head.0, writable s r (All-head IsGivenOrScratch r [] head.1) (cover r (or-left (has_number (r ∷ []) r) (names_in xs r) (number-here r [])))),
      can-transfer s xs (with_known known r) (stands (Temp t) (Reg r) h)
          (λ q e. cover q (or-right (has_number (named_registers (Load t r)) q) (names_in xs q) e))
          (All-tail (IsTransfer s.temps IsGivenOrScratch) (Load t r) xs all)
          (knows-put known t r h knows)
          asks.1,
    )
can-transfer s (Shift t from to ∷ xs) known h cover all knows asks =
    let head = All-head (IsTransfer s.temps IsGivenOrScratch) (Shift t from to) xs all in
    let named = All-head IsGivenOrScratch to [] (All-tail IsGivenOrScratch from (to ∷ []) head.1) in (
      (knows (Temp t) (Reg from) asks.0, writable s to named (cover to (or-left (has_number (from ∷ to ∷ []) to) (names_in xs to) (or-right (from == to) (has_number (to ∷ []) to) (number-here to []))))),
      can-transfer s xs (with_known known to) (stands (Temp t) (Reg to) h)
          (λ q e. cover q (or-right (has_number (named_registers (Shift t from to)) q) (names_in xs q) e))
          (All-tail (IsTransfer s.temps IsGivenOrScratch) (Shift t from to) xs all)
          (knows-put known t to h knows)
          asks.1,
    )

-- ---- the edge that is found

found : (temps : ℕ) (p : EdgeCode → Bool) (es : List EdgeCode) → All (λ e. All (IsTransfer temps IsGivenOrScratch) e.code) es → All (IsTransfer temps IsGivenOrScratch) (code_in (find p es))
found temps p [] all = All-from_recursion (IsTransfer temps IsGivenOrScratch) [] tt
found temps p (e ∷ es) all = either (λ o. All (IsTransfer temps IsGivenOrScratch) (code_in o)) (p e) (Some e) (find p es)
    (All-head (λ z. All (IsTransfer temps IsGivenOrScratch) z.code) e es all)
    (found temps p es (All-tail (λ z. All (IsTransfer temps IsGivenOrScratch) z.code) e es all))

found-named : (p : EdgeCode → Bool) (es : List EdgeCode) (r : ℕ) → names_in (code_in (find p es)) r ≡ true → list_any (λ e. names_in e.code r) es ≡ true
found-named p [] r = λ named. named
found-named p (e ∷ es) r = either (λ o. names_in (code_in o) r ≡ true → list_any (λ z. names_in z.code r) (e ∷ es) ≡ true) (p e) (Some e) (find p es)
    (λ named. or-left (names_in e.code r) (list_any (λ z. names_in z.code r) es) named)
    (λ named. or-right (names_in e.code r) (list_any (λ z. names_in z.code r) es) (found-named p es r named))

pub found_fits : (a : Plan) → HasLists a → (p : EdgeCode → Bool) (block at : ℕ) → MovesAsk (code_in (find p a.edges)) (held_before a block at) → CanTransferAll (shape_of a) is_usable (code_in (find p a.edges))
found_fits a l p block at asks = can-transfer (shape_of a) (code_in (find p a.edges)) is_usable (held_before a block at)
    (λ r named. or-right (list_any (λ xs. names_in xs r) a.at) (list_any (λ rs. has_number rs r) a.regs || list_any (λ z. names_in z.code r) a.edges)
    (or-right (list_any (λ rs. has_number rs r) a.regs) (list_any (λ z. names_in z.code r) a.edges) (found-named p a.edges r named)))
    (found a.temps p a.edges l.edge_transfers)
    (knows-before a l block at)
    asks

pub targets_fit : (a : Plan) → Faithful a → (block at : ℕ) (x : TempInsn) → insn_at a.function.blocks block at ≡ Some x → (k to : ℕ) → slice_get (targets_of x) k ≡ Some to → CanTransferAll (shape_of a) is_usable (edge_transfers a block to)
targets_fit a f block at x there k to leads =
    let keeps = f.jumps block at x there k to leads in
    found_fits a f.lists (λ e. (e.from == block) && (e.to == to)) block (suc at) keeps.moves

if-both : (s : FrameShape) (b c : Bool) (xs : List Transfer) → (b ≡ true → CanTransferAll s is_usable xs) → CanTransferAll s is_usable (if b && c then xs else [])
if-both s true true xs h = h refl
if-both s true false xs h = tt
if-both s false c xs h = tt

pub ends_fit : (a : Plan) → Faithful a → (block : ℕ) (insns : List TempInsn) → slice_get a.function.blocks block ≡ Some insns → CanTransferAll (shape_of a) is_usable (end_transfers a block insns)
ends_fit a f block insns there = if-both (shape_of a) (flows_out insns) (not (ends_with_branch insns)) (edge_transfers a block (suc block)) (λ flows.
    let keeps = f.follows block insns there flows in
    found_fits a f.lists (λ e. (e.from == block) && (e.to == suc block)) block (length insns) keeps.moves)
