-- A division, by the call of a routine.
use Rattle.std.proofs.Common.{◌≡◌, ◌≢◌, ℕ, suc, ◌+◌, ◌-◌, ◌*◌, ◌/◌, ◌^◌, ◌<◌, ◌≤◌, Bool, true, false, List, [], ◌∷◌, length, refl, sym, ap, ◌∙◌, subst, arith, inl, inr, ⊎_elim, length-set}
use Rattle.std.specs.Prelude.{◌==◌, ◌&&◌, if◌then◌else◌}
use Rattle.std.proofs.lemmas.Bool.{cases_lt, eqb-true, and_parts}
use Rattle.std.specs.Int.{w32}
use Rattle.alpha_isa.specs.declared.insn.BranchOp.TheVariants.{Bsr}
use Rattle.alpha_isa.specs.Arithmetic.{sign_extension}
use Rattle.alpha_isa.specs.Program.{Program, stack_start, word_address}
use Rattle.alpha_isa.specs.State.{State, register, with_register, with_part}
use Rattle.alpha_isa.specs.Step.{exec, go_on}
use Rattle.alpha_isa.proofs.Runs.{exec_split}
use Rattle.alpha_items.specs.declared.item.AsmItem.{AsmItem}
use Rattle.alpha_items.specs.declared.item.AsmItem.TheVariants.{Branch}
use Rattle.frame_steps.specs.item_steps.Standing.{Labels, ItemsAt}
use Rattle.frame_steps.specs.item_steps.Steps.{Leaves}
use Rattle.frame_steps.proofs.ItemSteps.Steps.{branches_step, read-same, read-other, returned}
use Rattle.alpha_rt.specs.Routine as rt
use Rattle.alpha_rt.specs.Code.{entry}
use Rattle.alpha_rt.specs.Calls as calls
use Rattle.alpha_rt.specs.Calls.{Returns, RoutineDoes, Divides, scratch_size, state_behind}
use Rattle.alpha_rt.specs.Items.{entry_label}
use Rattle.alpha_rt.proofs.Unsigned.{divqu_divides, remqu_divides}
use Rattle.alpha_rt.proofs.Signed.{divq_divides, remq_divides, divl_divides, reml_divides}
use Rattle.alpha_rt.proofs.Long.{divlu_divides, remlu_divides}
use Rattle.mem_model.specs.declared.value.Value.TheVariants.{Word, Address, Unset}
use Rattle.mem_model.specs.World.{Outer}
use Rattle.temp_ir.specs.declared.operation.DivisionRoutine.{DivisionRoutine}
use Rattle.temp_ir.specs.declared.operation.DivisionRoutine.TheVariants.{Divq, Remq, Divqu, Remqu, Divl, Reml, Divlu, Remlu}
use Rattle.temp_ir.specs.declared.insn.TempInsn.TheVariants as i
use Rattle.temp_ir.specs.Fixed.{ended_by_divisions, has_number}
use Rattle.alloc_model.specs.Contents as contents
use Rattle.alloc_model.specs.Contents.{Content, Bundle, unset_content, word_content}
use Rattle.alloc_model.specs.Effect.{routine_of, takes_word, outcome_answer, writes, division_answer}
use Rattle.alloc_model.specs.Contents.{Fails}
use Rattle.alloc_model.specs.Places.{Places, Reg}
use Rattle.mem_model.specs.Bytes.{AreBytes}
use Rattle.frame_memory.specs.Relation.{OfObject, Nobody, MemoryIs}
use Rattle.frame_memory.specs.Machine.{memory_bytes, is_reached}
use Rattle.frame_memory.specs.Laws.{MoreExtents}
use Rattle.frame_memory.proofs.Objects.{others_may_change}
use Rattle.frame_memory.specs.flat_operations.Contents.{ContentIs}
use Rattle.frame_memory.specs.flat_frames.Frames.{FrameIs, is_written}
use Rattle.frame_steps.proofs.FrameAccesses.Runs.{stands, bytes-same, reached-same}
use Rattle.frame_steps.specs.frame_transfers.Laws.{CallAt, FitsTheStack, StandsFor}
use Rattle.frame_simulation.specs.call_stacks.Items.{ItemSetting}
use Rattle.frame_simulation.specs.call_stacks.InstructionItemsLaws.{is_usable, HasOuter, ComesToItems, ActIsDone, store_behind}
use Rattle.frame_simulation.proofs.CallStacks.Runs.{usable-low}
use Rattle.frame_simulation.specs.call_stacks.Stacks.{KeepsCallers}
use Rattle.frame_simulation.proofs.CallStacks.Stays.{frame-stays}
use Rattle.frame_steps.specs.machine_bounds.Bounds.{IsBounded}
use Rattle.frame_steps.proofs.MachineBounds.Steps.{runs_stay_bounded}
use Rattle.frame_simulation.specs.division_calls.Divisions.{RoutinesStand, HasScratch}
use Rattle.frame_simulation.proofs.DivisionCalls.Scratch.{IsScratched, scratched-reach, scratched-parts, scratched-bytes, small-bytes, data-are, stack-are, stack-within}

-- ---- the routines

routines-divide : (r : DivisionRoutine) → Divides (routine_of r)
routines-divide Divq = divq_divides
routines-divide Remq = remq_divides
routines-divide Divqu = divqu_divides
routines-divide Remqu = remqu_divides
routines-divide Divl = divl_divides
routines-divide Reml = reml_divides
routines-divide Divlu = divlu_divides
routines-divide Remlu = remlu_divides

-- a word that a division takes is an operand of its routine
takes-operand : (r : DivisionRoutine) (n : ℕ) → takes_word r n ≡ true → rt.IsRoutineOperand (routine_of r) n
takes-operand Divq n e = refl
takes-operand Remq n e = refl
takes-operand Divqu n e = refl
takes-operand Remqu n e = refl
takes-operand Divl n e = eqb-true (sign_extension w32 n) n e
takes-operand Reml n e = eqb-true (sign_extension w32 n) n e
takes-operand Divlu n e = eqb-true (sign_extension w32 n) n e
takes-operand Remlu n e = eqb-true (sign_extension w32 n) n e

module _ (p : Program) (there : Labels) (g : ItemSetting) (rest : List AsmItem) (end : ℕ) (c : CallAt) (o : Outer) (held : Places) (s : State) (call : FitsTheStack c) (outer : HasOuter o s) (routines : RoutinesStand p there) (scratch : HasScratch p c s) (r : DivisionRoutine) (h : StandsFor p there (Branch Bsr 23 (entry_label (routine_of r)) ∷ rest) end c o.memory is_usable held s) where
  -- ---- the branch

  record HasBranched : Type 0 where
    to : State
    next : ℕ
    within : next ≤ length p.words
    comes : Leaves p (word_address next) s to
    items_at : ItemsAt p there next rest end
    pc : to.pc ≡ word_address (routines.word + entry (routine_of r))
    registers : (q : ℕ) → q ≢ 23 → q ≢ 28 → register to q ≡ register s q
    link : register to 23 ≡ word_address next
    length_is : length to.registers ≡ 32
    words : (q : ℕ) → register to q < 2 ^ 64
    data_bytes : to.data_bytes ≡ s.data_bytes
    stack_bytes : to.stack_bytes ≡ s.stack_bytes
    bytes : memory_bytes p to ≡ memory_bytes p s
    reached : (y : ℕ) → is_reached p to y ≡ is_reached p s y
    input : to.input ≡ s.input
    output : to.output ≡ s.output

  branched : HasBranched
  branched =
      let l = entry_label (routine_of r) in
      let d = branches_step p there h.word Bsr 23 l rest end s (stands p there h.word (Branch Bsr 23 l) rest end s h.is_at) (omega arith) in
      record {
        to = d.to;
        next = d.next;
        within = d.within;
        comes = d.comes;
        items_at = d.items_at;
        pc = d.pc ∙ ap word_address (routines.labels (routine_of r));
        registers = λ q na nb. d.registers q nb ∙ read-other 23 q (word_address d.next) s na;
        link = d.registers 23 (λ e. omega (arith, e)) ∙ read-same 23 (word_address d.next) s (omega arith) h.is_at.registers;
        length_is = d.same.registers ∙ h.is_at.registers;
        words = d.words h.is_at.words;
        data_bytes = d.same.data_bytes;
        stack_bytes = d.same.stack_bytes;
        bytes = bytes-same p s d.to d.same;
        reached = reached-same p s d.to d.same;
        input = d.same.input;
        output = d.same.output;
      }

  -- ---- the routine

  sp-is : (b : HasBranched) → register b.to 30 ≡ c.sp
  sp-is b = b.registers 30 (λ e. omega (arith, e)) (λ e. omega (arith, e)) ∙ h.stack

  within-stack : c.sp ≤ stack_start p + length s.stack_bytes
  within-stack =
      let room = scratch.room in
      let y = c.sp - 1 in
      let lt = stack-within p s h.is_at.parts y (omega (arith, room)) (scratch.reached y (omega (arith, room)) (omega (arith, room))) in
      omega (arith, lt, room)

  called : (b : HasBranched) → rt.IsRoutineOperand (routine_of r) (register b.to 24) → rt.IsRoutineOperand (routine_of r) (register b.to 25) → calls.IsCall p routines.word (routine_of r) b.to
  called b first second =
      let sp = sp-is b in
      let room = scratch.room in
      let within = within-stack in
      let even = h.frame.frame.aligned in
      let below = h.is_at.parts.data_below in
      let len = ap length b.stack_bytes in
      let dlen = ap length b.data_bytes in
      record {
        lawful = h.is_at.lawful;
        code_stands = routines.code_stands;
        at_entry = b.pc;
        registers = b.length_is;
        words = b.words;
        data_below = omega (arith, below, dlen);
        room = omega (arith, room, sp);
        within = omega (arith, within, sp, len);
        aligned = omega (arith, even, sp);
        dividend = first;
        divisor = second;
      }

  bounded : (b : HasBranched) → IsBounded b.to
  bounded b = record {
    words = b.words;
    data_bytes = subst AreBytes (sym b.data_bytes) (data-are p s h.is_at.bytes);
    stack_bytes = subst AreBytes (sym b.stack_bytes) (stack-are p s h.is_at.parts h.is_at.bytes);
    input = subst AreBytes (sym (b.input ∙ outer.input)) outer.bytes;
  }

  -- ---- behind the routine

  module _ (b : HasBranched) (n : ℕ) (x : Returns p b.to n) where
    abbrev t : State
    t = state_behind p b.to n x.rest x.scratch

    -- the registers of the routine
    abbrev both : State
    both = with_register 28 x.rest (with_register 27 n b.to)

    first-length : length (with_register 27 n b.to).registers ≡ 32
    first-length = length-set b.to.registers 27 n ∙ b.length_is

    here : register t 27 ≡ n
    here = read-other 28 27 x.rest (with_register 27 n b.to) (λ e. omega (arith, e)) ∙ read-same 27 n b.to (omega arith) b.length_is

    other : (q : ℕ) → q ≢ 27 → q ≢ 28 → register t q ≡ register b.to q
    other q na nb = read-other 28 q x.rest (with_register 27 n b.to) nb ∙ read-other 27 q n b.to na

    bounded-behind : IsBounded t
    bounded-behind = runs_stay_bounded p h.is_at.lawful x.steps b.to t (bounded b) x.run

    scratched : IsScratched p s t (c.sp - scratch_size) x.scratch
    scratched =
        let sp = sp-is b in
        let room = scratch.room in
        let within = within-stack in
        let len = x.scratch_length in
        record {
          low = omega (arith, room);
          high = omega (arith, room, within, len);
          data_bytes = b.data_bytes;
          stack_bytes = ap (λ k. with_part b.to.stack_bytes (k - scratch_size - stack_start p) x.scratch) sp ∙ ap (λ l. with_part l (c.sp - scratch_size - stack_start p) x.scratch) b.stack_bytes;
        }

    same-byte : (y : ℕ) → c.owner y ≢ Nobody → memory_bytes p t y ≡ memory_bytes p s y
    same-byte y ne =
        let room = scratch.room in
        let len = x.scratch_length in
        scratched-bytes p s t (c.sp - scratch_size) x.scratch scratched y
        (⊎_elim (λ lt. inl lt) (λ from. ⊎_elim (λ to. absurd (ne (scratch.free y (omega (arith, from, room)) to))) (λ le. inr (omega (arith, le, room, len))) (cases_lt y c.sp)) (cases_lt y (c.sp - scratch_size)))

    more : MoreExtents c.extents c.extents
    more k e f = f

    keeps : KeepsCallers (suc c.depth) 0 c.owner c.owner (memory_bytes p s) (memory_bytes p t)
    keeps = record { owners = λ y le ne. refl; bytes = λ y le ne w. same-byte y ne }

    small : (y : ℕ) → memory_bytes p t y < 256
    small = small-bytes p t bounded-behind.data_bytes bounded-behind.stack_bytes

    memory-is : MemoryIs c.extents o.memory c.owner (memory_bytes p t)
    memory-is = others_may_change c.extents o.memory c.owner c.owner (memory_bytes p s) (memory_bytes p t) h.frame.memory_is (record {
      owners = λ y k live e. e;
      same = λ y k live e. same-byte y (λ f. clash k (sym e ∙ f));
      bytes = small;
    })
      where
        clash : (k : ℕ) → OfObject k ≡ Nobody → ⊥
        clash k e = cc

    abbrev after : Places
    after = store_behind [] (i.Divide r) held (word_content n ∷ [])

    frame-is : FrameIs c.extents c.owner (memory_bytes p t) c.sp c.depth c.own c.shape after
    frame-is =
        let f = frame-stays c.extents c.extents c.owner c.owner (memory_bytes p s) (memory_bytes p t) (suc c.depth) 0 more keeps c.sp c.depth c.own c.shape held (omega arith) (omega arith) h.frame.frame in
        record { aligned = f.aligned; slots = λ k lt. f.slots k lt; outgoing = λ k lt. f.outgoing k lt; owned = f.owned; objects = f.objects }

    -- a register but 27
    kept-register : (q : ℕ) → is_usable q ≡ true → q ≢ 27 → (e : Bool) → has_number ended_by_divisions q ≡ e → ContentIs c.extents (if e then unset_content else held (Reg q)) (register t q)
    kept-register q u ne true f = tt
    kept-register q u ne false f =
        let low = usable-low q u in
        let na : q ≢ 23 = λ e. clash (sym (ap (has_number ended_by_divisions) e) ∙ f) in
        let nb : q ≢ 28 = λ e. omega (arith, e, low) in
        subst (ContentIs c.extents (held (Reg q))) (sym (other q ne nb ∙ b.registers q na nb)) (h.registers q u)
      where
        clash : true ≡ false → ⊥
        clash e = cc

    registers-are : (q : ℕ) → is_usable q ≡ true → ContentIs c.extents (after (Reg q)) (register t q)
    registers-are q u = by_test (q == 27) refl
      where
        by_test : (e : Bool) → (q == 27) ≡ e → ContentIs c.extents (if e then word_content n else (if has_number ended_by_divisions q then unset_content else held (Reg q))) (register t q)
        by_test true f = ap (register t) (eqb-true q 27 f) ∙ here
        by_test false f = kept-register q u (λ e. clash (sym (ap (λ k. k == 27) e) ∙ f)) (has_number ended_by_divisions q) refl
          where
            clash : true ≡ false → ⊥
            clash e = cc

    pc-is : t.pc ≡ word_address b.next
    pc-is = let e : word_address b.next / 4 * 4 ≡ word_address b.next = omega arith in ap (λ k. k / 4 * 4) b.link ∙ e

    is-behind : ComesToItems p there rest end c o after s
    is-behind = record {
      to = t;
      comes = returned p (word_address b.next) x.steps s b.to t b.comes x.soon x.run (omega (arith, pc-is));
      stands = record {
        word = b.next;
        is_at = record {
          lawful = h.is_at.lawful;
          labels = h.is_at.labels;
          items_at = b.items_at;
          pc = pc-is;
          registers = length-set (with_register 27 n b.to).registers 28 x.rest ∙ first-length;
          words = bounded-behind.words;
          parts = scratched-parts p s t (c.sp - scratch_size) x.scratch scratched h.is_at.parts;
          bytes = small;
        };
        stack = other 30 (λ e. omega (arith, e)) (λ e. omega (arith, e)) ∙ sp-is b;
        frame = record { frame = frame-is; memory_is = memory-is };
        registers = registers-are;
        reached = λ y own. scratched-reach p s t (c.sp - scratch_size) x.scratch scratched y ∙ h.reached y own;
      };
      outer = record { input = b.input ∙ outer.input; output = b.output ∙ outer.output; bytes = outer.bytes };
      kept = record {
        reach = scratched-reach p s t (c.sp - scratch_size) x.scratch scratched;
        bytes = λ y e. same-byte y (λ f. clash (sym (ap (is_written c.depth) f) ∙ e));
        registers = λ q from to e. other q (λ f. omega (arith, f, to)) (λ f. omega (arith, f, to)) ∙ b.registers q (λ f. omega (arith, f, to)) (λ f. omega (arith, f, to));
      };
    }
      where
        clash : true ≡ false → ⊥
        clash e = cc

  -- ---- by what the division gives

  ended : (b : HasBranched) (e : rt.RoutineEnding) → RoutineDoes p b.to e → ActIsDone p there g rest end c (store_behind [] (i.Divide r) held) (i.Divide r) s (writes (outcome_answer e) o)
  ended b (rt.Answers n) x = is-behind b n x
  ended b (rt.Traps code) x =
      let left = b.comes.paid in
      let soon = x.soon in
      let within = b.within in
      record {
        steps = b.comes.steps + x.steps;
        last = x.last;
        paid = omega (arith, left, soon, within);
        run = exec_split p b.comes.steps x.steps s ∙ ap (λ z. go_on z (exec p x.steps)) b.comes.run ∙ x.run;
        output = x.output ∙ b.output ∙ outer.output;
      }

  words-done : (m n : ℕ) → register s 24 ≡ m → register s 25 ≡ n → (e : Bool) → (takes_word r m && takes_word r n) ≡ e → ActIsDone p there g rest end c (store_behind [] (i.Divide r) held) (i.Divide r) s (writes (if e then outcome_answer (rt.routine_outcome (routine_of r) m n) else Fails) o)
  words-done m n first second false e = tt
  words-done m n first second true e =
      let both = and_parts (takes_word r m) (takes_word r n) e in
      let b = branched in
      let left : register b.to 24 ≡ m = b.registers 24 (λ f. omega (arith, f)) (λ f. omega (arith, f)) ∙ first in
      let right : register b.to 25 ≡ n = b.registers 25 (λ f. omega (arith, f)) (λ f. omega (arith, f)) ∙ second in
      let is = called b (subst (rt.IsRoutineOperand (routine_of r)) (sym left) (takes-operand r m both.0)) (subst (rt.IsRoutineOperand (routine_of r)) (sym right) (takes-operand r n both.1)) in
      let done = routines-divide r p routines.word b.to is in
      ended b (rt.routine_outcome (routine_of r) m n) (subst (λ k. RoutineDoes p b.to (rt.routine_outcome (routine_of r) m k)) right (subst (λ k. RoutineDoes p b.to (rt.routine_outcome (routine_of r) k (register b.to 25))) left done))

  contents-done : (u v : Content) → held (Reg 24) ≡ u → held (Reg 25) ≡ v → ActIsDone p there g rest end c (store_behind [] (i.Divide r) held) (i.Divide r) s (writes (division_answer r u v) o)
  contents-done (contents.Plain (Word m)) (contents.Plain (Word n)) e f =
      words-done m n (subst (λ z. ContentIs c.extents z (register s 24)) e (h.registers 24 refl)) (subst (λ z. ContentIs c.extents z (register s 25)) f (h.registers 25 refl)) (takes_word r m && takes_word r n) refl
  contents-done (contents.Plain (Word m)) (contents.Plain (Address q)) e f = tt
  contents-done (contents.Plain (Word m)) (contents.Plain Unset) e f = tt
  contents-done (contents.Plain (Word m)) (Bundle cells) e f = tt
  contents-done (contents.Plain (Address q)) v e f = tt
  contents-done (contents.Plain Unset) v e f = tt
  contents-done (Bundle cells) v e f = tt

pub divisions_are_done : (p : Program) (there : Labels) (g : ItemSetting) (rest : List AsmItem) (end : ℕ) (c : CallAt) (o : Outer) (held : Places) (s : State) → FitsTheStack c → HasOuter o s → RoutinesStand p there → HasScratch p c s → (r : DivisionRoutine) → StandsFor p there (Branch Bsr 23 (entry_label (routine_of r)) ∷ rest) end c o.memory is_usable held s → ActIsDone p there g rest end c (store_behind [] (i.Divide r) held) (i.Divide r) s (writes (division_answer r (held (Reg 24)) (held (Reg 25))) o)
divisions_are_done p there g rest end c o held s call outer routines scratch r h =
    contents-done p there g rest end c o held s call outer routines scratch r h (held (Reg 24)) (held (Reg 25)) refl refl
