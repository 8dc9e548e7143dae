-- A function is entered.
use Rattle.std.proofs.Common.{◌≡◌, ◌≢◌, ℕ, zero, suc, ◌+◌, ◌%◌, ◌^◌, ◌<◌, ◌≤◌, ◌⊎◌, Bool, true, false, List, ◌++◌, refl, sym, ap, ◌∙◌, subst, arith, inl, inr, ⊎_elim}
use Rattle.std.proofs.lemmas.Bool.{cases_lt}
use Rattle.alpha_isa.specs.Program.{Program}
use Rattle.alpha_isa.specs.State.{State, register}
use Rattle.alpha_items.specs.declared.item.AsmItem.{AsmItem}
use Rattle.frame_steps.specs.item_steps.Standing.{Labels}
use Rattle.frame_memory.specs.Bytes.{Bytes}
use Rattle.frame_memory.specs.Machine.{memory_bytes, is_reached, IsReached}
use Rattle.frame_memory.specs.flat_frames.Shapes.{FrameShape, frame_size, return_at, saved_at}
use Rattle.frame_memory.specs.flat_frames.Frames.{word_in, put_word}
use Rattle.frame_memory.proofs.FlatFrames.Shapes.{pieces_of}
use Rattle.frame_steps.specs.frame_accesses.Items.{frame_store}
use Rattle.frame_steps.specs.frame_accesses.Laws.{IsAt, HasCome}
use Rattle.frame_steps.proofs.FrameAccesses.Runs.{frame_stores, stays}
use Rattle.frame_steps.specs.call_parts.Items.{save_if, save_registers, entry_part}
use Rattle.frame_steps.specs.call_parts.Laws.{IsFrameAt, EntryDone}
use Rattle.frame_steps.proofs.CallParts.Words.{put-beside, word-beside, word-there}
use Rattle.frame_steps.proofs.CallParts.Stacks.{come-through, stack-lowered}

-- the pieces lie in the frame
pub saved-within : (shape : FrameShape) (r : ℕ) → 9 ≤ r → r < 16 → saved_at shape r + 8 ≤ frame_size shape
saved-within shape r from to = ((pieces_of shape 0 0).saved r from to).within

pub return-within : (shape : FrameShape) → return_at shape + 8 ≤ frame_size shape
return-within shape = ((pieces_of shape 0 0).returns).within

module _ (p : Program) (there : Labels) (shape : FrameShape) (saves : ℕ → Bool) (sp : ℕ) (s : State) (frame : IsFrameAt p s shape sp) where
  -- a word of the frame may be accessed
  pub word-reached : (t : State) (k : ℕ) → k % 8 ≡ 0 → k + 8 ≤ frame_size shape → register t 30 ≡ sp → ((y : ℕ) → is_reached p t y ≡ is_reached p s y) → IsReached p t (register t 30 + k) 8
  word-reached t k even within stack reach =
      let e : register t 30 + k ≡ sp + k = ap (λ n. n + k) stack in
      let base = frame.aligned in
      subst (λ a. IsReached p t a 8) (sym e) (record {
        aligned = omega (arith, base, even);
        reached = λ i lt.
            let f : sp + k + i ≡ sp + (k + i) = omega arith in
            reach (sp + k + i) ∙ ap (is_reached p s) f ∙ frame.reached (k + i) (omega (arith, lt, within));
      })

  -- a register is stored in the frame
  record RegisterIsStored (r k : ℕ) (rest : List AsmItem) (end : ℕ) (t : State) : Type 0 where
    to : State
    come : HasCome p there rest end t to
    others : (q : ℕ) → q ≢ 29 → register to q ≡ register t q
    bytes : memory_bytes p to ≡ put_word (memory_bytes p t) (sp + k) (register t r)

  stored : (r k w : ℕ) (rest : List AsmItem) (end : ℕ) (t : State) → r < 29 → k % 8 ≡ 0 → k + 8 ≤ frame_size shape → register t 30 ≡ sp → ((y : ℕ) → is_reached p t y ≡ is_reached p s y) → IsAt p there w (frame_store r k ++ rest) end t → RegisterIsStored r k rest end t
  stored r k w rest end t lt even within stack reach h =
      let small = frame.small in
      let near = frame.near in
      let e : register t 30 + k ≡ sp + k = ap (λ n. n + k) stack in
      let d = frame_stores p there w r k rest end t h lt (record { near = omega (arith, within, near); small = omega (arith, e, within, small) }) (word-reached t k even within stack reach) in
      record {
        to = d.to;
        come = d.come;
        others = d.others;
        bytes = d.bytes ∙ ap (λ a. put_word (memory_bytes p t) a (register t r)) e;
      }

  -- the return address and the registers below one are saved
  record AreSavedBelow (r : ℕ) (t : State) : Type 0 where
    stack : register t 30 ≡ sp
    others : (q : ℕ) → q ≢ 29 → q ≢ 30 → register t q ≡ register s q
    back : word_in (memory_bytes p t) (sp + return_at shape) ≡ register s 26
    saved : (q : ℕ) → 9 ≤ q → q < r → saves q ≡ true → word_in (memory_bytes p t) (sp + saved_at shape q) ≡ register s q
    bytes : (y : ℕ) → (y < sp) ⊎ (sp + frame_size shape ≤ y) → memory_bytes p t y ≡ memory_bytes p s y
    reached : (y : ℕ) → is_reached p t y ≡ is_reached p s y

  -- bytes outside the frame are beside each of its words
  outside : (k y : ℕ) → k + 8 ≤ frame_size shape → (y < sp) ⊎ (sp + frame_size shape ≤ y) → (y < sp + k) ⊎ (sp + k + 8 ≤ y)
  outside k y within h = ⊎_elim (λ lt. inl (omega (arith, lt))) (λ le. inr (omega (arith, le, within))) h

  save-one : (r : ℕ) (t u : State) → 9 ≤ r → r < 16 → AreSavedBelow r t → (word : ℕ) → register t r ≡ word → word < 2 ^ 64 → ((q : ℕ) → q ≢ 29 → register u q ≡ register t q) → memory_bytes p u ≡ put_word (memory_bytes p t) (sp + saved_at shape r) word → ((y : ℕ) → is_reached p u y ≡ is_reached p t y) → AreSavedBelow (suc r) u
  save-one r t u from to h word is small others bytes reached =
      let a = sp + saved_at shape r in
      let m = memory_bytes p t in
      record {
        stack = others 30 (λ f. omega (arith, f)) ∙ h.stack;
        others = λ q nf ns. others q nf ∙ h.others q nf ns;
        back = ap (λ b. word_in b (sp + return_at shape)) bytes ∙ word-beside m a (sp + return_at shape) word (inl (omega arith)) ∙ h.back;
        saved = λ q fq tq e. ap (λ b. word_in b (sp + saved_at shape q)) bytes ∙ ⊎_elim
            (λ lt. word-beside m a (sp + saved_at shape q) word (inl (omega (arith, fq, lt, from))) ∙ h.saved q fq lt e)
            (λ ge. let same : q ≡ r = omega (arith, tq, ge) in
            subst (λ k. word_in (put_word m a word) (sp + saved_at shape k) ≡ register s k) (sym same)
            (word-there m a word small ∙ sym is ∙ h.others r (λ f. omega (arith, f, to)) (λ f. omega (arith, f, to))))
            (cases_lt q r);
        bytes = λ y out. ap (λ (b : Bytes). b y) bytes ∙ put-beside m a word y (outside (saved_at shape r) y (saved-within shape r from to) out) ∙ h.bytes y out;
        reached = λ y. reached y ∙ h.reached y;
      }

  save-none : (r : ℕ) (t : State) → saves r ≡ false → AreSavedBelow r t → AreSavedBelow (suc r) t
  save-none r t e h = record {
    stack = h.stack;
    others = h.others;
    back = h.back;
    saved = λ q fq tq f. ⊎_elim
        (λ lt. h.saved q fq lt f)
        (λ ge. let same : q ≡ r = omega (arith, tq, ge) in absurd (clash (sym f ∙ ap saves same ∙ e)))
        (cases_lt q r);
    bytes = h.bytes;
    reached = h.reached;
  }
    where
      clash : true ≡ false → ⊥
      clash f = cc

  record AllSaved (rest : List AsmItem) (end : ℕ) (t : State) : Type 0 where
    to : State
    come : HasCome p there rest end t to
    is : AreSavedBelow 16 to

  save-if : (r n w : ℕ) (rest : List AsmItem) (end : ℕ) (t : State) (b : Bool) → saves r ≡ b → 9 ≤ r → r < 16 → IsAt p there w (save_if shape b r (save_registers shape saves (suc r) n rest)) end t → AreSavedBelow r t → ((w : ℕ) (u : State) → IsAt p there w (save_registers shape saves (suc r) n rest) end u → AreSavedBelow (suc r) u → AllSaved rest end u) → AllSaved rest end t
  save-if r n w rest end t false e from to h is go = go w t h (save-none r t e is)
  save-if r n w rest end t true e from to h is go =
      let x = stored r (saved_at shape r) w (save_registers shape saves (suc r) n rest) end t (omega (arith, to)) (omega arith) (saved-within shape r from to) is.stack is.reached h in
      let y = go x.come.next x.to x.come.is_at (save-one r t x.to from to is (register t r) refl (h.words r) x.others x.bytes x.come.reached) in
      record { to = y.to; come = come-through p there (save_registers shape saves (suc r) n rest) rest end t x.to y.to x.come y.come; is = y.is }

  save-all : (n r w : ℕ) (rest : List AsmItem) (end : ℕ) (t : State) → r + n ≡ 16 → 9 ≤ r → IsAt p there w (save_registers shape saves r n rest) end t → AreSavedBelow r t → AllSaved rest end t
  save-all zero r w rest end t e from h is =
      let last : r ≡ 16 = omega (arith, e) in
      record {
        to = t;
        come = record { comes = stays p t; next = w; is_at = h; input = refl; output = refl; reached = λ y. refl };
        is = subst (λ k. AreSavedBelow k t) last is;
      }
  save-all (suc n) r w rest end t e from h is =
      save-if r n w rest end t (saves r) refl from (omega (arith, e)) h is
      (λ w u h is. save-all n (suc r) w rest end u (omega (arith, e)) (omega (arith, from)) h is)

  pub entered_part : (w : ℕ) (rest : List AsmItem) (end : ℕ) → IsAt p there w (entry_part shape saves rest) end s → register s 30 ≡ sp + frame_size shape → EntryDone p there rest end shape saves sp s
  entered_part w rest end h e =
      let mid = save_registers shape saves 9 7 rest in
      let first = frame_store 26 (return_at shape) ++ mid in
      let k = stack-lowered p there w (frame_size shape) sp first end s h e frame.small frame.near in
      let t = k.to in
      let x = stored 26 (return_at shape) k.come.next mid end t (omega arith) (omega arith) (return-within shape) k.here k.come.reached k.come.is_at in
      let m = memory_bytes p t in
      let a = sp + return_at shape in
      let word : register t 26 ≡ register s 26 = k.others 26 (λ f. omega (arith, f)) in
      let y = save-all 7 9 x.come.next rest end x.to refl (omega arith) x.come.is_at (record {
        stack = x.others 30 (λ f. omega (arith, f)) ∙ k.here;
        others = λ q nf ns. x.others q nf ∙ k.others q ns;
        back = ap (λ b. word_in b a) x.bytes ∙ word-there m a (register t 26) (k.come.is_at.words 26) ∙ word;
        saved = λ q fq tq f. absurd (omega (arith, fq, tq));
        bytes = λ y out. ap (λ (b : Bytes). b y) x.bytes ∙ put-beside m a (register t 26) y (outside (return_at shape) y (return-within shape) out) ∙ ap (λ (b : Bytes). b y) k.bytes;
        reached = λ y. x.come.reached y ∙ k.come.reached y;
      }) in
      record {
        to = y.to;
        come = come-through p there first rest end s t y.to k.come (come-through p there mid rest end t x.to y.to x.come y.come);
        stack = y.is.stack;
        others = y.is.others;
        back = y.is.back;
        saved = λ r from to f. y.is.saved r from to f;
        bytes = y.is.bytes;
      }

pub entries_are_done : (p : Program) (there : Labels) (w : ℕ) (rest : List AsmItem) (end : ℕ) (shape : FrameShape) (saves : ℕ → Bool) (sp : ℕ) (s : State) → IsAt p there w (entry_part shape saves rest) end s → register s 30 ≡ sp + frame_size shape → IsFrameAt p s shape sp → EntryDone p there rest end shape saves sp s
entries_are_done p there w rest end shape saves sp s h e frame = entered_part p there shape saves sp s frame w rest end h e
