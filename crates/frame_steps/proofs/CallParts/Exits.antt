-- A function is left.
use Rattle.std.proofs.Common.{◌≡◌, ◌≢◌, ℕ, zero, suc, ◌+◌, ◌*◌, ◌/◌, ◌%◌, ◌<◌, ◌≤◌, ◌⊎◌, Bool, true, false, List, ◌∷◌, ◌++◌, Some, length, refl, sym, ap, ◌∙◌, subst, arith, inl, inr, ⊎_elim}
use Rattle.std.specs.Prelude.{if◌then◌else◌}
use Rattle.std.proofs.lemmas.Bool.{cases_lt}
use Rattle.alpha_isa.specs.declared.insn.Fields.TheVariants.{Jump}
use Rattle.alpha_isa.specs.declared.insn.JumpOp.TheVariants.{Ret}
use Rattle.alpha_isa.specs.Program.{Program, word_address, instruction_at}
use Rattle.alpha_isa.specs.State.{State, register}
use Rattle.alpha_items.specs.declared.item.AsmItem.{AsmItem}
use Rattle.alpha_items.specs.declared.item.AsmItem.TheVariants.{Plain}
use Rattle.frame_steps.specs.item_steps.Standing.{Labels, ItemsAt}
use Rattle.frame_steps.specs.item_steps.Steps.{Leaves, SameElse}
use Rattle.frame_steps.proofs.ItemSteps.Steps.{in-text, one-leaves, one-some, leaves_behind, behind-some, same-at}
use Rattle.frame_memory.specs.Machine.{memory_bytes, is_reached}
use Rattle.frame_memory.specs.Bytes.{Bytes}
use Rattle.frame_memory.specs.flat_frames.Shapes.{FrameShape, frame_size, return_at, saved_at}
use Rattle.frame_memory.specs.flat_frames.Frames.{word_in}
use Rattle.frame_steps.specs.frame_accesses.Items.{frame_load}
use Rattle.frame_steps.specs.frame_accesses.Laws.{IsAt, HasCome}
use Rattle.frame_steps.proofs.FrameAccesses.Runs.{frame_loads, stays, bytes-same, reached-same, parts-same}
use Rattle.frame_steps.specs.call_parts.Items.{restore_if, restore_registers, raise_stack, exit_part}
use Rattle.frame_steps.specs.call_parts.Laws.{IsFrameAt, given_back, ExitDone}
use Rattle.frame_steps.proofs.CallParts.Stacks.{come-through, stack-raised}
use Rattle.frame_steps.proofs.CallParts.Entries.{saved-within, return-within, word-reached}

-- a return goes to the address in register 26
record HasReturned (p : Program) (there : Labels) (s : State) : Type 0 where
  to : State
  comes : Leaves p (word_address (length p.words)) s to
  some : 1 ≤ comes.steps
  pc : to.pc ≡ register s 26 / 4 * 4
  registers : (q : ℕ) → register to q ≡ register s q
  is_at : (w : ℕ) (items : List AsmItem) (last : ℕ) → to.pc ≡ word_address w → ItemsAt p there w items last → IsAt p there w items last to
  same : SameElse s to

gone : (p : Program) (there : Labels) (w : ℕ) (rest : List AsmItem) (end : ℕ) (s : State) → IsAt p there w (Plain (Jump Ret 31 26) ∷ rest) end s → HasReturned p there s
gone p there w rest end s h =
    let t = record s { pc = register s 26 / 4 * 4 } in
    let none : w ≡ w + 0 = omega arith in
    let is : instruction_at p s.pc ≡ Some (Jump Ret 31 26) = ap (instruction_at p) (h.pc ∙ ap word_address none) ∙ h.items_at.1 0 (omega arith) in
    let same : SameElse s t = same-at s (register s 26 / 4 * 4) in
    let below = in-text p s.pc (Jump Ret 31 26) is in
    let at = h.pc in
    record {
      to = t;
      comes = one-leaves p (word_address (length p.words)) s t (Jump Ret 31 26) is refl (omega (arith, below, at));
      some = one-some p (word_address (length p.words)) s t (Jump Ret 31 26) is refl (omega (arith, below, at));
      pc = refl;
      registers = λ q. refl;
      is_at = λ v items last pc at. record {
        lawful = h.lawful;
        labels = h.labels;
        items_at = at;
        pc = pc;
        registers = h.registers;
        words = h.words;
        parts = parts-same p s t same h.parts;
        bytes = λ y. subst (λ (b : Bytes). b y < 256) (sym (bytes-same p s t same)) (h.bytes y);
      };
      same = same;
    }

module _ (p : Program) (there : Labels) (shape : FrameShape) (saves : ℕ → Bool) (sp : ℕ) (s : State) (frame : IsFrameAt p s shape sp) where
  -- a register is loaded from the frame
  record RegisterIsLoaded (r k : ℕ) (rest : List AsmItem) (end : ℕ) (t : State) : Type 0 where
    to : State
    come : HasCome p there rest end t to
    here : register to r ≡ word_in (memory_bytes p s) (sp + k)
    others : (q : ℕ) → q ≢ r → q ≢ 29 → register to q ≡ register t q
    bytes : memory_bytes p to ≡ memory_bytes p s

  loaded : (r k w : ℕ) (rest : List AsmItem) (end : ℕ) (t : State) → r < 29 → k % 8 ≡ 0 → k + 8 ≤ frame_size shape → register t 30 ≡ sp → ((y : ℕ) → is_reached p t y ≡ is_reached p s y) → memory_bytes p t ≡ memory_bytes p s → IsAt p there w (frame_load r k ++ rest) end t → RegisterIsLoaded r k rest end t
  loaded r k w rest end t lt even within stack reach same h =
      let small = frame.small in
      let near = frame.near in
      let e : register t 30 + k ≡ sp + k = ap (λ n. n + k) stack in
      let d = frame_loads p there w r k rest end t h lt (record { near = omega (arith, within, near); small = omega (arith, e, within, small) }) (word-reached p there shape saves sp s frame t k even within stack reach) in
      record {
        to = d.to;
        come = d.come;
        here = d.here ∙ ap (word_in (memory_bytes p t)) e ∙ ap (λ m. word_in m (sp + k)) same;
        others = d.others;
        bytes = d.bytes ∙ same;
      }

  -- the registers below one are given back
  record AreGivenBack (r : ℕ) (t : State) : Type 0 where
    others : (q : ℕ) → (q < 9) ⊎ (r ≤ q) → q ≢ 29 → register t q ≡ register s q
    back : (q : ℕ) → 9 ≤ q → q < r → register t q ≡ given_back shape saves sp p s q
    bytes : memory_bytes p t ≡ memory_bytes p s
    reached : (y : ℕ) → is_reached p t y ≡ is_reached p s y

  restore-one : (r : ℕ) (t u : State) → saves r ≡ true → 9 ≤ r → r < 16 → AreGivenBack r t → register u r ≡ word_in (memory_bytes p s) (sp + saved_at shape r) → ((q : ℕ) → q ≢ r → q ≢ 29 → register u q ≡ register t q) → memory_bytes p u ≡ memory_bytes p s → ((y : ℕ) → is_reached p u y ≡ is_reached p t y) → AreGivenBack (suc r) u
  restore-one r t u e from to h here others bytes reached = record {
    others = λ q side nf. others q (λ f. ⊎_elim (λ lt. omega (arith, f, lt, from)) (λ le. omega (arith, f, le)) side) nf ∙ h.others q (⊎_elim inl (λ le. inr (omega (arith, le))) side) nf;
    back = λ q fq tq. ⊎_elim
        (λ lt. others q (λ f. omega (arith, f, lt)) (λ f. omega (arith, f, tq, to)) ∙ h.back q fq lt)
        (λ ge. let same : q ≡ r = omega (arith, tq, ge) in
        subst (λ k. register u k ≡ given_back shape saves sp p s k) (sym same)
        (here ∙ sym (ap (λ b. if b then word_in (memory_bytes p s) (sp + saved_at shape r) else register s r) e)))
        (cases_lt q r);
    bytes = bytes;
    reached = λ y. reached y ∙ h.reached y;
  }

  restore-none : (r : ℕ) (t : State) → saves r ≡ false → r < 16 → AreGivenBack r t → AreGivenBack (suc r) t
  restore-none r t e to h = record {
    others = λ q side nf. h.others q (⊎_elim inl (λ le. inr (omega (arith, le))) side) nf;
    back = λ q fq tq. ⊎_elim
        (λ lt. h.back q fq lt)
        (λ ge. let same : q ≡ r = omega (arith, tq, ge) in
        subst (λ k. register t k ≡ given_back shape saves sp p s k) (sym same)
        (h.others r (inr (omega arith)) (λ f. omega (arith, f, to)) ∙ sym (ap (λ b. if b then word_in (memory_bytes p s) (sp + saved_at shape r) else register s r) e)))
        (cases_lt q r);
    bytes = h.bytes;
    reached = h.reached;
  }

  record AllRestored (rest : List AsmItem) (end : ℕ) (t : State) : Type 0 where
    to : State
    come : HasCome p there rest end t to
    is : AreGivenBack 16 to

  restore-if : (r n w : ℕ) (rest : List AsmItem) (end : ℕ) (t : State) (b : Bool) → saves r ≡ b → register s 30 ≡ sp → 9 ≤ r → r < 16 → IsAt p there w (restore_if shape b r (restore_registers shape saves (suc r) n rest)) end t → AreGivenBack r t → ((w : ℕ) (u : State) → IsAt p there w (restore_registers shape saves (suc r) n rest) end u → AreGivenBack (suc r) u → AllRestored rest end u) → AllRestored rest end t
  restore-if r n w rest end t false e stack from to h is go = go w t h (restore-none r t e to is)
  restore-if r n w rest end t true e stack from to h is go =
      let x = loaded r (saved_at shape r) w (restore_registers shape saves (suc r) n rest) end t (omega (arith, to)) (omega arith) (saved-within shape r from to) (is.others 30 (inr (omega (arith, to))) (λ f. omega (arith, f)) ∙ stack) is.reached is.bytes h in
      let y = go x.come.next x.to x.come.is_at (restore-one r t x.to e from to is x.here x.others x.bytes x.come.reached) in
      record { to = y.to; come = come-through p there (restore_registers shape saves (suc r) n rest) rest end t x.to y.to x.come y.come; is = y.is }

  restore-all : (n r w : ℕ) (rest : List AsmItem) (end : ℕ) (t : State) → register s 30 ≡ sp → r + n ≡ 16 → 9 ≤ r → IsAt p there w (restore_registers shape saves r n rest) end t → AreGivenBack r t → AllRestored rest end t
  restore-all zero r w rest end t stack e from h is =
      let last : r ≡ 16 = omega (arith, e) in
      record {
        to = t;
        come = record { comes = stays p t; next = w; is_at = h; input = refl; output = refl; reached = λ y. refl };
        is = subst (λ k. AreGivenBack k t) last is;
      }
  restore-all (suc n) r w rest end t stack e from h is =
      restore-if r n w rest end t (saves r) refl stack from (omega (arith, e)) h is
      (λ w u h is. restore-all n (suc r) w rest end u stack (omega (arith, e)) (omega (arith, from)) h is)

  pub left : (w : ℕ) (rest : List AsmItem) (end : ℕ) → IsAt p there w (exit_part shape saves rest) end s → register s 30 ≡ sp → ExitDone p there shape saves sp s
  left w rest end h stack =
      let jump = Plain (Jump Ret 31 26) ∷ rest in
      let up = raise_stack (frame_size shape) jump in
      let first = frame_load 26 (return_at shape) ++ up in
      let y = restore-all 7 9 w first end s stack refl (omega arith) h (record { others = λ q side nf. refl; back = λ q fq tq. absurd (omega (arith, fq, tq)); bytes = refl; reached = λ y. refl }) in
      let t = y.to in
      let x = loaded 26 (return_at shape) y.come.next up end t (omega arith) (omega arith) (return-within shape) (y.is.others 30 (inr (omega arith)) (λ f. omega (arith, f)) ∙ stack) y.is.reached y.is.bytes y.come.is_at in
      let u = x.to in
      let ustack : register u 30 ≡ sp = x.others 30 (λ f. omega (arith, f)) (λ f. omega (arith, f)) ∙ y.is.others 30 (inr (omega arith)) (λ f. omega (arith, f)) ∙ stack in
      let k = stack-raised p there x.come.next (frame_size shape) sp jump end u x.come.is_at ustack frame.small frame.near in
      let v = k.to in
      let z = gone p there k.come.next rest end v k.come.is_at in
      let through = come-through p there first jump end s t v y.come (come-through p there up jump end t u v x.come k.come) in
      let bytes : memory_bytes p z.to ≡ memory_bytes p s = bytes-same p v z.to z.same ∙ k.bytes ∙ x.bytes in
      record {
        to = z.to;
        comes = leaves_behind p (word_address (length p.words)) s v z.to through.comes z.comes;
        some = behind-some p (word_address (length p.words)) s v z.to through.comes z.comes z.some;
        pc = z.pc ∙ ap (λ n. n / 4 * 4) (k.others 26 (λ f. omega (arith, f)) ∙ x.here);
        stack = z.registers 30 ∙ k.here;
        kept = λ r from to. z.registers r ∙ k.others r (λ f. omega (arith, f, to)) ∙ x.others r (λ f. omega (arith, f, to)) (λ f. omega (arith, f, to)) ∙ y.is.back r from to;
        others = λ q side na nb nc. z.registers q ∙ k.others q nc ∙ x.others q na nb ∙ y.is.others q side nb;
        is_at = z.is_at;
        bytes = bytes;
        reached = λ y. reached-same p v z.to z.same y ∙ through.reached y;
        input = z.same.input ∙ through.input;
        output = z.same.output ∙ through.output;
      }

pub exits_are_done : (p : Program) (there : Labels) (w : ℕ) (rest : List AsmItem) (end : ℕ) (shape : FrameShape) (saves : ℕ → Bool) (sp : ℕ) (s : State) → IsAt p there w (exit_part shape saves rest) end s → register s 30 ≡ sp → IsFrameAt p s shape sp → ExitDone p there shape saves sp s
exits_are_done p there w rest end shape saves sp s h stack frame = left p there shape saves sp s frame w rest end h stack
