-- What a routine saves below the stack's top, and gets back.
use Rattle.std.proofs.Common.{◌≡◌, ℕ, suc, ◌+◌, ◌-◌, ◌*◌, ◌/◌, ◌%◌, ◌^◌, ◌<◌, ◌≤◌, ℤ, negsuc, List, [], ◌∷◌, ◌++◌, length, take, drop, Bool, true, false, not, cond, eqb, leb, Some, None, refl, sym, ap, ◌∙◌, subst, arith, append_assoc, length-append}
use Rattle.std.proofs.lemmas.Bool.{le-leb, lt-leb, eq-eqb, and_from, and_right}
use Rattle.std.proofs.lemmas.Nat.{from_le_bytes-to_le_bytes_8}
use Rattle.std.specs.Int.{w64, to_le_bytes, from_le_bytes}
use Rattle.alpha_isa.specs.declared.insn.Fields.TheVariants.{Memory, Jump}
use Rattle.alpha_isa.specs.declared.insn.MemoryOp.TheVariants.{Ldq, Stq}
use Rattle.alpha_isa.specs.declared.insn.JumpOp.TheVariants.{Ret}
use Rattle.alpha_isa.specs.Arithmetic.{word_at, word_from}
use Rattle.alpha_isa.specs.Program.{Program, instruction_at, data_start, stack_start}
use Rattle.alpha_isa.specs.State.{State, with_register, with_part, byte_range, lies_in, bytes_at, with_bytes}
use Rattle.alpha_isa.specs.Step.{Goes, next_instruction, load_into, go_on_stored}
use Rattle.alpha_rt.specs.Code.{prologue, epilogue}
use Rattle.alpha_rt.proofs.Runs.{Reaches, then_reaches, one_reaches, CodeStandsAt, at, register_of, put, put_step}
use Rattle.alpha_rt.proofs.Registers.{RegisterFile, listed_registers}

-- ---- parts of lists

part_between : (f m b : List ℕ) → byte_range (f ++ (m ++ b)) (length f) (length m) ≡ m
part_between [] [] b = refl
part_between [] (x ∷ m) b = ap (λ l. x ∷ l) (part_between [] m b)
part_between (x ∷ f) m b = part_between f m b

take_front : (f r : List ℕ) → take (length f) (f ++ r) ≡ f
take_front [] r = refl
take_front (x ∷ f) r = ap (λ l. x ∷ l) (take_front f r)

drop_front : (f r : List ℕ) (k : ℕ) → drop (length f + k) (f ++ r) ≡ drop k r
drop_front [] r k = let none : 0 + k ≡ k = omega arith in ap (λ n. drop n r) none
drop_front (x ∷ f) r k = let next : suc (length f) + k ≡ suc (length f + k) = omega arith in ap (λ n. drop n (x ∷ (f ++ r))) next ∙ drop_front f r k

drop_all_front : (m b : List ℕ) → drop (length m) (m ++ b) ≡ b
drop_all_front [] b = refl
drop_all_front (x ∷ m) b = drop_all_front m b

with_between : (f m b new : List ℕ) → length new ≡ length m → with_part (f ++ (m ++ b)) (length f) new ≡ f ++ (new ++ b)
with_between f m b new e =
    let rest : drop (length f + length new) (f ++ (m ++ b)) ≡ b = ap (λ n. drop (length f + n) (f ++ (m ++ b))) e ∙ drop_front f (m ++ b) (length m) ∙ drop_all_front m b in
    ap (λ l. l ++ (new ++ drop (length f + length new) (f ++ (m ++ b)))) (take_front f (m ++ b)) ∙ ap (λ l. f ++ (new ++ l)) rest

-- ---- one word of the stack

three : {X : Type 0} (f : Bool → Bool → Bool → X) (b c d : Bool) → b ≡ false → c ≡ false → d ≡ true → f b c d ≡ f false false true
three f b c d x y z = ap (λ u. f u c d) x ∙ ap (λ u. f false u d) y ∙ ap (λ u. f false false u) z

-- an address of eight bytes of the stack, none of which is one of the data's
pub record IsSlot (p : Program) (s : State) (a : ℕ) : Type 0 where
  pub aligned : a % 8 ≡ 0
  pub data_below : data_start p + length s.data_bytes ≤ stack_start p
  pub low : stack_start p ≤ a
  pub high : a + 8 ≤ stack_start p + length s.stack_bytes

misplaced : (p : Program) (s : State) (a : ℕ) → IsSlot p s a → not (eqb (a % 8) 0) ≡ false
misplaced p s a h = ap not (eq-eqb (a % 8) 0 h.aligned)

no_data : (p : Program) (s : State) (a : ℕ) → IsSlot p s a → lies_in a 8 (data_start p) s.data_bytes ≡ false
no_data p s a h = and_right (leb (data_start p) a) (leb (a + 8) (data_start p + length s.data_bytes)) (lt-leb (a + 8) (data_start p + length s.data_bytes) (omega arith))

in_stack : (p : Program) (s : State) (a : ℕ) → IsSlot p s a → lies_in a 8 (stack_start p) s.stack_bytes ≡ true
in_stack p s a h = and_from (leb (stack_start p) a) (leb (a + 8) (stack_start p + length s.stack_bytes)) (le-leb (stack_start p) a h.low) (le-leb (a + 8) (stack_start p + length s.stack_bytes) h.high)

slot_bytes : (p : Program) (s : State) (a : ℕ) → IsSlot p s a → bytes_at p s a 8 ≡ Some (byte_range s.stack_bytes (a - stack_start p) 8)
slot_bytes p s a h =
    three (λ b c d. cond b None (cond c (Some (byte_range s.data_bytes (a - data_start p) 8)) (cond d (Some (byte_range s.stack_bytes (a - stack_start p) 8)) None)))
    (not (eqb (a % 8) 0)) (lies_in a 8 (data_start p) s.data_bytes) (lies_in a 8 (stack_start p) s.stack_bytes) (misplaced p s a h) (no_data p s a h) (in_stack p s a h)

slot_written : (p : Program) (s : State) (a word : ℕ) → IsSlot p s a → with_bytes p s a (to_le_bytes w64 word) ≡ Some (record s { stack_bytes = with_part s.stack_bytes (a - stack_start p) (to_le_bytes w64 word) })
slot_written p s a word h =
    three (λ b c d. cond b None (cond c (Some (record s { data_bytes = with_part s.data_bytes (a - data_start p) (to_le_bytes w64 word) })) (cond d (Some (record s { stack_bytes = with_part s.stack_bytes (a - stack_start p) (to_le_bytes w64 word) })) None)))
    (not (eqb (a % 8) 0)) (lies_in a 8 (data_start p) s.data_bytes) (lies_in a 8 (stack_start p) s.stack_bytes) (misplaced p s a h) (no_data p s a h) (in_stack p s a h)

-- ---- storing and loading

-- the address of eight bytes that stand in a stack between others
pub record Slot (p : Program) (s : State) (f m b : List ℕ) (a : ℕ) : Type 0 where
  pub aligned : a % 8 ≡ 0
  pub data_below : data_start p + length s.data_bytes ≤ stack_start p
  pub address_is : a ≡ stack_start p + length f
  pub eight : length m ≡ 8
  pub stack : s.stack_bytes ≡ f ++ (m ++ b)

is_slot : (p : Program) (s : State) (f m b : List ℕ) (a : ℕ) → Slot p s f m b a → IsSlot p s a
is_slot p s f m b a h = record {
  aligned = h.aligned;
  data_below = h.data_below;
  low = omega arith;
  high = omega (arith, ap length h.stack, length-append f (m ++ b), length-append m b);
}

offset_is : (p : Program) (s : State) (f m b : List ℕ) (a : ℕ) → Slot p s f m b a → a - stack_start p ≡ length f
offset_is p s f m b a h = omega arith

-- eight bytes in the place of eight others
written_is : (p : Program) (s : State) (f m b : List ℕ) (a word : ℕ) → Slot p s f m b a → with_part s.stack_bytes (a - stack_start p) (to_le_bytes w64 word) ≡ f ++ (to_le_bytes w64 word ++ b)
written_is p s f m b a word h =
    ap (λ l. with_part l (a - stack_start p) (to_le_bytes w64 word)) h.stack
    ∙ ap (λ n. with_part (f ++ (m ++ b)) n (to_le_bytes w64 word)) (offset_is p s f m b a h)
    ∙ with_between f m b (to_le_bytes w64 word) (sym h.eight)

pub stored : (p : Program) (s : State) (a : ℕ) (rs : List ℕ) (ra : ℕ) (disp : ℤ) (address : ℕ) (f m b : List ℕ) → instruction_at p a ≡ Some (Memory Stq ra 30 disp) → word_at (register_of rs 30 + word_from disp) ≡ address → Slot p s f m b address →
    Reaches p 1 (at s a rs) (at (record s { stack_bytes = f ++ (to_le_bytes w64 (register_of rs ra) ++ b) }) (a + 4) rs)
stored p s a rs ra disp address f m b h e slot =
    let word : ℕ = register_of rs ra in
    let here : Slot p (at s a rs) f m b address = record { aligned = slot.aligned; data_below = slot.data_below; address_is = slot.address_is; eight = slot.eight; stack = slot.stack } in
    one_reaches p (Memory Stq ra 30 disp) (at s a rs) (at (record s { stack_bytes = f ++ (to_le_bytes w64 word ++ b) }) (a + 4) rs) h
    (ap (λ n. go_on_stored (with_bytes p (at s a rs) n (to_le_bytes w64 word)) (at s a rs)) e
    ∙ ap (λ o. go_on_stored o (at s a rs)) (slot_written p (at s a rs) address word (is_slot p (at s a rs) f m b address here))
    ∙ ap (λ l. Goes (at (record s { stack_bytes = l }) (a + 4) rs)) (written_is p (at s a rs) f m b address word here))

read_is : (p : Program) (s : State) (f b : List ℕ) (a word : ℕ) → Slot p s f (to_le_bytes w64 word) b a → word < 2 ^ 64 → from_le_bytes w64 (byte_range s.stack_bytes (a - stack_start p) 8) ≡ word
read_is p s f b a word h small =
    let m : List ℕ = to_le_bytes w64 word in
    ap (λ l. from_le_bytes w64 (byte_range l (a - stack_start p) 8)) h.stack
    ∙ ap (λ n. from_le_bytes w64 (byte_range (f ++ (m ++ b)) n 8)) (offset_is p s f m b a h)
    ∙ ap (from_le_bytes w64) (part_between f m b)
    ∙ from_le_bytes-to_le_bytes_8 word small

pub loaded : (p : Program) (s : State) (a : ℕ) (rs : List ℕ) (ra : ℕ) (disp : ℤ) (address word : ℕ) (f b : List ℕ) → instruction_at p a ≡ Some (Memory Ldq ra 30 disp) → word_at (register_of rs 30 + word_from disp) ≡ address → Slot p s f (to_le_bytes w64 word) b address → word < 2 ^ 64 →
    Reaches p 1 (at s a rs) (at s (a + 4) (put ra word rs))
loaded p s a rs ra disp address word f b h e slot small =
    let m : List ℕ = to_le_bytes w64 word in
    let here : Slot p (at s a rs) f m b address = record { aligned = slot.aligned; data_below = slot.data_below; address_is = slot.address_is; eight = slot.eight; stack = slot.stack } in
    one_reaches p (Memory Ldq ra 30 disp) (at s a rs) (at s (a + 4) (put ra word rs)) h
    (ap (λ n. load_into (from_le_bytes w64) ra (bytes_at p (at s a rs) n 8) (at s a rs)) e
    ∙ ap (λ o. load_into (from_le_bytes w64) ra o (at s a rs)) (slot_bytes p (at s a rs) address (is_slot p (at s a rs) f m b address here))
    ∙ ap (λ n. next_instruction (with_register ra n (at s a rs))) (read_is p (at s a rs) f b address word here small)
    ∙ put_step ra word a rs (put ra word rs) s refl)

-- ---- the four words

-- an address below a register's
lowered : (top n : ℕ) → n ≤ top → n ≤ 2 ^ 64 → top < 2 ^ 64 → word_at (top + (2 ^ 64 - n)) ≡ top - n
lowered top n low small word = omega arith

abbrev pub spelled_word : ℕ → List ℕ
spelled_word word = to_le_bytes w64 word

-- a stack whose 32 bytes behind a front are four words, the last of register 1
abbrev pub frame : List ℕ → List ℕ → List ℕ → List ℕ → List ℕ → List ℕ → List ℕ
frame f m4 m3 m2 m1 b = f ++ (m4 ++ (m3 ++ (m2 ++ (m1 ++ b))))

second : (f m4 r : List ℕ) → f ++ (m4 ++ r) ≡ (f ++ m4) ++ r
second f m4 r = sym (append_assoc f m4 r)

third : (f m4 m3 r : List ℕ) → f ++ (m4 ++ (m3 ++ r)) ≡ ((f ++ m4) ++ m3) ++ r
third f m4 m3 r = second f m4 (m3 ++ r) ∙ second (f ++ m4) m3 r

fourth : (f m4 m3 m2 r : List ℕ) → f ++ (m4 ++ (m3 ++ (m2 ++ r))) ≡ (((f ++ m4) ++ m3) ++ m2) ++ r
fourth f m4 m3 m2 r = third f m4 m3 (m2 ++ r) ∙ second ((f ++ m4) ++ m3) m2 r

-- where the front ends, and what register 30 is
pub record IsFrame (p : Program) (s : State) (top : ℕ) (f m4 m3 m2 m1 b : List ℕ) : Type 0 where
  pub aligned : top % 16 ≡ 0
  pub word : top < 2 ^ 64
  pub data_below : data_start p + length s.data_bytes ≤ stack_start p
  pub top_is : top ≡ stack_start p + length f + 32
  pub eight4 : length m4 ≡ 8
  pub eight3 : length m3 ≡ 8
  pub eight2 : length m2 ≡ 8
  pub eight1 : length m1 ≡ 8
  pub stack : s.stack_bytes ≡ frame f m4 m3 m2 m1 b

slot4 : (p : Program) (s : State) (top : ℕ) (f m4 m3 m2 m1 b : List ℕ) → IsFrame p s top f m4 m3 m2 m1 b → Slot p s f m4 (m3 ++ (m2 ++ (m1 ++ b))) (top - 32)
slot4 p s top f m4 m3 m2 m1 b h = record { aligned = omega arith; data_below = h.data_below; address_is = omega arith; eight = h.eight4; stack = h.stack }

slot3 : (p : Program) (s : State) (top : ℕ) (f m4 m3 m2 m1 b : List ℕ) → IsFrame p s top f m4 m3 m2 m1 b → Slot p s (f ++ m4) m3 (m2 ++ (m1 ++ b)) (top - 24)
slot3 p s top f m4 m3 m2 m1 b h = record { aligned = omega arith; data_below = h.data_below; address_is = omega (arith, length-append f m4); eight = h.eight3; stack = h.stack ∙ second f m4 (m3 ++ (m2 ++ (m1 ++ b))) }

slot2 : (p : Program) (s : State) (top : ℕ) (f m4 m3 m2 m1 b : List ℕ) → IsFrame p s top f m4 m3 m2 m1 b → Slot p s ((f ++ m4) ++ m3) m2 (m1 ++ b) (top - 16)
slot2 p s top f m4 m3 m2 m1 b h = record { aligned = omega arith; data_below = h.data_below; address_is = omega (arith, length-append (f ++ m4) m3, length-append f m4); eight = h.eight2; stack = h.stack ∙ third f m4 m3 (m2 ++ (m1 ++ b)) }

slot1 : (p : Program) (s : State) (top : ℕ) (f m4 m3 m2 m1 b : List ℕ) → IsFrame p s top f m4 m3 m2 m1 b → Slot p s (((f ++ m4) ++ m3) ++ m2) m1 b (top - 8)
slot1 p s top f m4 m3 m2 m1 b h = record { aligned = omega arith; data_below = h.data_below; address_is = omega (arith, length-append ((f ++ m4) ++ m3) m2, length-append (f ++ m4) m3, length-append f m4); eight = h.eight1; stack = h.stack ∙ fourth f m4 m3 m2 (m1 ++ b) }

-- the state with another stack
abbrev pub over : State → List ℕ → State
over s l = record s { stack_bytes = l }

pub saved_in_frame : (p : Program) (s : State) (a : ℕ) (x : RegisterFile) (f m4 m3 m2 m1 b : List ℕ) → CodeStandsAt p a prologue → IsFrame p s x.r30 f m4 m3 m2 m1 b →
    Reaches p 4 (at s a (listed_registers x)) (at (over s (frame f (spelled_word x.r4) (spelled_word x.r3) (spelled_word x.r2) (spelled_word x.r1) b)) (a + 16) (listed_registers x))
saved_in_frame p s a x f m4 m3 m2 m1 b h k =
    let room : 32 ≤ x.r30 = omega (arith, k.top_is) in
    let s1 : State = over s (frame f m4 m3 m2 (spelled_word x.r1) b) in
    let s2 : State = over s (frame f m4 m3 (spelled_word x.r2) (spelled_word x.r1) b) in
    let s3 : State = over s (frame f m4 (spelled_word x.r3) (spelled_word x.r2) (spelled_word x.r1) b) in
    let s4 : State = over s (frame f (spelled_word x.r4) (spelled_word x.r3) (spelled_word x.r2) (spelled_word x.r1) b) in
    let k1 : IsFrame p s1 x.r30 f m4 m3 m2 (spelled_word x.r1) b = record { aligned = k.aligned; word = k.word; data_below = k.data_below; top_is = k.top_is; eight4 = k.eight4; eight3 = k.eight3; eight2 = k.eight2; eight1 = refl; stack = refl } in
    let k2 : IsFrame p s2 x.r30 f m4 m3 (spelled_word x.r2) (spelled_word x.r1) b = record { aligned = k.aligned; word = k.word; data_below = k.data_below; top_is = k.top_is; eight4 = k.eight4; eight3 = k.eight3; eight2 = refl; eight1 = refl; stack = refl } in
    let k3 : IsFrame p s3 x.r30 f m4 (spelled_word x.r3) (spelled_word x.r2) (spelled_word x.r1) b = record { aligned = k.aligned; word = k.word; data_below = k.data_below; top_is = k.top_is; eight4 = k.eight4; eight3 = refl; eight2 = refl; eight1 = refl; stack = refl } in
    let first : Reaches p 1 (at s a (listed_registers x)) (at s1 (a + 4) (listed_registers x)) =
    subst (λ l. Reaches p 1 (at s a (listed_registers x)) (at (over s l) (a + 4) (listed_registers x))) (sym (fourth f m4 m3 m2 (spelled_word x.r1 ++ b)))
    (stored p s a (listed_registers x) 1 (negsuc 7) (x.r30 - 8) (((f ++ m4) ++ m3) ++ m2) m1 b h.0 (lowered x.r30 8 (omega arith) (omega arith) k.word) (slot1 p s x.r30 f m4 m3 m2 m1 b k)) in
    let next : Reaches p 1 (at s1 (a + 4) (listed_registers x)) (at s2 (a + 4 + 4) (listed_registers x)) =
    subst (λ l. Reaches p 1 (at s1 (a + 4) (listed_registers x)) (at (over s l) (a + 4 + 4) (listed_registers x))) (sym (third f m4 m3 (spelled_word x.r2 ++ (spelled_word x.r1 ++ b))))
    (stored p s1 (a + 4) (listed_registers x) 2 (negsuc 15) (x.r30 - 16) ((f ++ m4) ++ m3) m2 (spelled_word x.r1 ++ b) h.1.0 (lowered x.r30 16 (omega arith) (omega arith) k.word) (slot2 p s1 x.r30 f m4 m3 m2 (spelled_word x.r1) b k1)) in
    let then : Reaches p 1 (at s2 (a + 4 + 4) (listed_registers x)) (at s3 (a + 4 + 4 + 4) (listed_registers x)) =
    subst (λ l. Reaches p 1 (at s2 (a + 4 + 4) (listed_registers x)) (at (over s l) (a + 4 + 4 + 4) (listed_registers x))) (sym (second f m4 (spelled_word x.r3 ++ (spelled_word x.r2 ++ (spelled_word x.r1 ++ b)))))
    (stored p s2 (a + 4 + 4) (listed_registers x) 3 (negsuc 23) (x.r30 - 24) (f ++ m4) m3 (spelled_word x.r2 ++ (spelled_word x.r1 ++ b)) h.1.1.0 (lowered x.r30 24 (omega arith) (omega arith) k.word) (slot3 p s2 x.r30 f m4 m3 (spelled_word x.r2) (spelled_word x.r1) b k2)) in
    let last : Reaches p 1 (at s3 (a + 4 + 4 + 4) (listed_registers x)) (at s4 (a + 4 + 4 + 4 + 4) (listed_registers x)) =
    stored p s3 (a + 4 + 4 + 4) (listed_registers x) 4 (negsuc 31) (x.r30 - 32) f m4 (spelled_word x.r3 ++ (spelled_word x.r2 ++ (spelled_word x.r1 ++ b))) h.1.1.1.0 (lowered x.r30 32 (omega arith) (omega arith) k.word) (slot4 p s3 x.r30 f m4 (spelled_word x.r3) (spelled_word x.r2) (spelled_word x.r1) b k3) in
    let end : a + 4 + 4 + 4 + 4 ≡ a + 16 = omega arith in
    subst (λ to. Reaches p 4 (at s a (listed_registers x)) (at s4 to (listed_registers x))) end
    (then_reaches p 3 1 _ _ _ (then_reaches p 2 1 _ _ _ (then_reaches p 1 1 _ _ _ first next) then) last)

-- the four words come back, and the machine goes on at the address in register 23
pub restored_from_frame : (p : Program) (s : State) (a : ℕ) (y : RegisterFile) (v1 v2 v3 v4 : ℕ) (f b : List ℕ) → CodeStandsAt p a epilogue → IsFrame p s y.r30 f (spelled_word v4) (spelled_word v3) (spelled_word v2) (spelled_word v1) b → v1 < 2 ^ 64 → v2 < 2 ^ 64 → v3 < 2 ^ 64 → v4 < 2 ^ 64 →
    Reaches p 5 (at s a (listed_registers y)) (at s (y.r23 / 4 * 4) (listed_registers (record y { r1 = v1; r2 = v2; r3 = v3; r4 = v4 })))
restored_from_frame p s a y v1 v2 v3 v4 f b h k w1 w2 w3 w4 =
    let room : 32 ≤ y.r30 = omega (arith, k.top_is) in
    let y1 : RegisterFile = record y { r1 = v1 } in
    let y2 : RegisterFile = record y1 { r2 = v2 } in
    let y3 : RegisterFile = record y2 { r3 = v3 } in
    let y4 : RegisterFile = record y3 { r4 = v4 } in
    let first : Reaches p 1 (at s a (listed_registers y)) (at s (a + 4) (listed_registers y1)) =
    loaded p s a (listed_registers y) 1 (negsuc 7) (y.r30 - 8) v1 (((f ++ spelled_word v4) ++ spelled_word v3) ++ spelled_word v2) b h.0 (lowered y.r30 8 (omega arith) (omega arith) k.word) (slot1 p s y.r30 f (spelled_word v4) (spelled_word v3) (spelled_word v2) (spelled_word v1) b k) w1 in
    let next : Reaches p 1 (at s (a + 4) (listed_registers y1)) (at s (a + 4 + 4) (listed_registers y2)) =
    loaded p s (a + 4) (listed_registers y1) 2 (negsuc 15) (y.r30 - 16) v2 ((f ++ spelled_word v4) ++ spelled_word v3) (spelled_word v1 ++ b) h.1.0 (lowered y.r30 16 (omega arith) (omega arith) k.word) (slot2 p s y.r30 f (spelled_word v4) (spelled_word v3) (spelled_word v2) (spelled_word v1) b k) w2 in
    let then : Reaches p 1 (at s (a + 4 + 4) (listed_registers y2)) (at s (a + 4 + 4 + 4) (listed_registers y3)) =
    loaded p s (a + 4 + 4) (listed_registers y2) 3 (negsuc 23) (y.r30 - 24) v3 (f ++ spelled_word v4) (spelled_word v2 ++ (spelled_word v1 ++ b)) h.1.1.0 (lowered y.r30 24 (omega arith) (omega arith) k.word) (slot3 p s y.r30 f (spelled_word v4) (spelled_word v3) (spelled_word v2) (spelled_word v1) b k) w3 in
    let last : Reaches p 1 (at s (a + 4 + 4 + 4) (listed_registers y3)) (at s (a + 4 + 4 + 4 + 4) (listed_registers y4)) =
    loaded p s (a + 4 + 4 + 4) (listed_registers y3) 4 (negsuc 31) (y.r30 - 32) v4 f (spelled_word v3 ++ (spelled_word v2 ++ (spelled_word v1 ++ b))) h.1.1.1.0 (lowered y.r30 32 (omega arith) (omega arith) k.word) (slot4 p s y.r30 f (spelled_word v4) (spelled_word v3) (spelled_word v2) (spelled_word v1) b k) w4 in
    let returns : Reaches p 1 (at s (a + 4 + 4 + 4 + 4) (listed_registers y4)) (at s (y.r23 / 4 * 4) (listed_registers y4)) =
    one_reaches p (Jump Ret 31 23) (at s (a + 4 + 4 + 4 + 4) (listed_registers y4)) (at s (y.r23 / 4 * 4) (listed_registers y4)) h.1.1.1.1.0 refl in
    then_reaches p 4 1 _ _ _ (then_reaches p 3 1 _ _ _ (then_reaches p 2 1 _ _ _ (then_reaches p 1 1 _ _ _ first next) then) last) returns
