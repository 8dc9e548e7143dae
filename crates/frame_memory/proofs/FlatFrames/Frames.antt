-- Frames that are written.
use Rattle.std.proofs.Common.{◌≡◌, ◌≢◌, ℕ, ◌+◌, ◌-◌, ◌^◌, ◌<◌, ◌≤◌, ◌⊎◌, Bool, true, false, length, refl, sym, ap, ◌∙◌, subst, arith, inl, inr, ⊎_elim, eq-eqb}
use Rattle.std.specs.Prelude.{◌==◌, ◌&&◌, if◌then◌else◌}
use Rattle.std.proofs.lemmas.Bool.{cases_eq, cases_lt, ne_eqb, or_cases, eqb-true}
use Rattle.alpha_isa.specs.State.{State, register}
use Rattle.mem_model.specs.Memory.{Memory}
use Rattle.alloc_model.specs.Contents.{Content}
use Rattle.alloc_model.specs.Stores.{put}
use Rattle.alloc_model.specs.Places.{Places, Reg, Slot, Out, place_eq}
use Rattle.frame_memory.specs.Bytes.{Bytes, bytes_from, put_bytes, low_bytes, number_from}
use Rattle.frame_memory.specs.Relation.{Extents, Owner, Owners, OfObject, OfFrame, FramePiece, SlotPiece, ArgumentPiece, MemoryIs}
use Rattle.frame_memory.proofs.Numbers.{numbers_come_back, low_bytes-length, low_bytes-are, put-out, put-small, bytes_from-same, bytes_from-put}
use Rattle.frame_memory.proofs.Objects.{others_may_change}
use Rattle.frame_memory.specs.flat_operations.Contents.{ContentIs}
use Rattle.frame_memory.specs.flat_frames.Shapes.{FrameShape, argument_at, slot_at, IsPiece}
use Rattle.frame_memory.specs.flat_frames.Frames.{word_in, put_word, FrameIs, KeepsFrames, WordIsOwned, FrameAndMemory, RegistersAre, with_known, is_written_piece, is_written, KeepsUnwritten}
use Rattle.frame_memory.proofs.FlatFrames.Shapes.{pieces_of}

-- ---- words

put-word-out : (m : Bytes) (a w y : ℕ) → (y < a) ⊎ (a + 8 ≤ y) → put_word m a w y ≡ m y
put-word-out m a w y h =
    let n : length (low_bytes 8 w) ≡ 8 = low_bytes-length 8 w in
    put-out (low_bytes 8 w) m a y (subst (λ k. (y < a) ⊎ (a + k ≤ y)) (sym n) h)

-- bytes that another owner has
put-word-other : (owner : Owners) (m : Bytes) (a w y : ℕ) (mine : Owner) → WordIsOwned owner a mine → owner y ≢ mine → put_word m a w y ≡ m y
put-word-other owner m a w y mine is other = put-word-out m a w y (⊎_elim inl (λ above. ⊎_elim (λ below. absurd (clash above below)) inr (cases_lt y (a + 8))) (cases_lt y a))
  where
    clash : a ≤ y → y < a + 8 → ⊥
    clash above below = let e : a + (y - a) ≡ y = omega arith in other (ap owner (sym e) ∙ is.owned (y - a) (omega arith))

word-same : (m k : Bytes) (b : ℕ) → ((y : ℕ) → b ≤ y → y < b + 8 → k y ≡ m y) → word_in k b ≡ word_in m b
word-same m k b h = ap number_from (bytes_from-same m k b 8 h)

pub words_are_kept : (owner : Owners) (m : Bytes) (a b w : ℕ) (mine other : Owner) → WordIsOwned owner a mine → WordIsOwned owner b other → mine ≢ other → word_in (put_word m a w) b ≡ word_in m b
words_are_kept owner m a b w mine other is there ne = word-same m (put_word m a w) b (λ y from to.
    let e : b + (y - b) ≡ y = omega arith in
    put-word-other owner m a w y mine is (λ f. ne (sym f ∙ ap owner (sym e) ∙ there.owned (y - b) (omega arith))))

word-put : (m : Bytes) (a w : ℕ) → w < 2 ^ 64 → word_in (put_word m a w) a ≡ w
word-put m a w small =
    let n : length (low_bytes 8 w) ≡ 8 = low_bytes-length 8 w in
    ap number_from (subst (λ k. bytes_from (put_bytes m a (low_bytes 8 w)) a k ≡ low_bytes 8 w) n (bytes_from-put (low_bytes 8 w) m a)) ∙ numbers_come_back 8 w (omega arith)

-- so are those that no instruction of a call writes
pub unwritten-put : (owner : Owners) (depth : ℕ) (m : Bytes) (a w : ℕ) (mine : Owner) → WordIsOwned owner a mine → is_written depth mine ≡ true → KeepsUnwritten owner depth m (put_word m a w)
unwritten-put owner depth m a w mine is written y e = put-word-other owner m a w y mine is (λ f. clash (sym written ∙ ap (is_written depth) (sym f) ∙ e))
  where
    clash : true ≡ false → ⊥
    clash f = cc

pub unwritten-objects : (owner : Owners) (depth : ℕ) (m k : Bytes) → KeepsFrames owner m k → KeepsUnwritten owner depth m k
unwritten-objects owner depth m k keeps y e = keeps.same y (λ o f. clash (ap (is_written depth) (sym f) ∙ e))
  where
    clash : true ≡ false → ⊥
    clash f = cc

-- pieces of its own frame are written
pub own-written : (depth : ℕ) (piece : FramePiece) → is_written_piece piece ≡ true → is_written depth (OfFrame depth piece) ≡ true
own-written depth piece e = ap (λ b. b && is_written_piece piece) (eq-eqb depth depth refl) ∙ e

-- ---- a frame

module _ (xs : Extents) (owner : Owners) (m : Bytes) (sp depth own : ℕ) (s : FrameShape) (store : Places) (f : FrameIs xs owner m sp depth own s store) where
  -- a piece of the frame is a word of its owner
  piece-word : (at : ℕ) (whose : Owner) → IsPiece s depth own at 8 whose → WordIsOwned owner (sp + at) whose
  piece-word at whose p = record {
    owned = λ i lt.
        let e : sp + at + i ≡ sp + (at + i) = omega arith in
        let w = p.within in
        ap owner e ∙ f.owned (at + i) (omega (arith, w)) ∙ p.owned i lt;
  }

  pub slot-word : (t : ℕ) → t < s.temps → WordIsOwned owner (sp + slot_at s t) (OfFrame depth (SlotPiece t))
  slot-word t lt = piece-word (slot_at s t) (OfFrame depth (SlotPiece t)) ((pieces_of s depth own).slots t lt)

  pub argument-word : (k : ℕ) → k < s.outgoing → WordIsOwned owner (sp + argument_at k) (OfFrame depth (ArgumentPiece k))
  argument-word k lt = piece-word (argument_at k) (OfFrame depth (ArgumentPiece k)) ((pieces_of s depth own).arguments k lt)

  -- a word of the frame where bytes of objects alone change
  frame-word : (k : Bytes) (a : ℕ) (q : FramePiece) → KeepsFrames owner m k → WordIsOwned owner a (OfFrame depth q) → word_in k a ≡ word_in m a
  frame-word k a q keeps is = word-same m k a (λ y from to.
      let e : a + (y - a) ≡ y = omega arith in
      keeps.same y (λ o g. no_object o (sym (ap owner (sym e) ∙ is.owned (y - a) (omega arith)) ∙ g)))
    where
      no_object : (o : ℕ) → OfFrame depth q ≡ OfObject o → ⊥
      no_object o e = cc

  pub frames_stay : (k : Bytes) → KeepsFrames owner m k → FrameIs xs owner k sp depth own s store
  frames_stay k keeps = record {
    aligned = f.aligned;
    slots = λ t lt. subst (ContentIs xs (store (Slot t))) (sym (frame-word k (sp + slot_at s t) (SlotPiece t) keeps (slot-word t lt))) (f.slots t lt);
    outgoing = λ j lt. subst (ContentIs xs (store (Out j))) (sym (frame-word k (sp + argument_at j) (ArgumentPiece j) keeps (argument-word j lt))) (f.outgoing j lt);
    owned = f.owned;
    objects = f.objects;
  }

-- ---- a word in the frame

module _ (xs : Extents) (memory : Memory) (owner : Owners) (m : Bytes) (sp depth own : ℕ) (s : FrameShape) (store : Places) (h : FrameAndMemory xs memory owner m sp depth own s store) where
  -- objects do not change by a word that a frame owns
  memory-kept : (a w : ℕ) (q : FramePiece) → WordIsOwned owner a (OfFrame depth q) → MemoryIs xs memory owner (put_word m a w)
  memory-kept a w q is = others_may_change xs memory owner owner m (put_word m a w) h.memory_is (record {
    owners = λ y o live e. e;
    same = λ y o live e. put-word-other owner m a w y (OfFrame depth q) is (λ g. no_object o (sym g ∙ e));
    bytes = put-small (low_bytes 8 w) m a (low_bytes-are 8 w) h.memory_is.bytes;
  })
    where
      no_object : (o : ℕ) → OfFrame depth q ≡ OfObject o → ⊥
      no_object o e = cc

  pub slots_are_put : (t : ℕ) (c : Content) (w : ℕ) → t < s.temps → w < 2 ^ 64 → ContentIs xs c w → FrameAndMemory xs memory owner (put_word m (sp + slot_at s t) w) sp depth own s (put place_eq (Slot t) c store)
  slots_are_put t c w lt small is =
      let mine = slot-word xs owner m sp depth own s store h.frame t lt in
      record {
        frame = record {
          aligned = h.frame.aligned;
          slots = λ u ul. ⊎_elim
              (λ (e : u ≡ t). subst (λ v. ContentIs xs (if v == t then c else store (Slot v)) (word_in (put_word m (sp + slot_at s t) w) (sp + slot_at s v))) (sym e) (here t))
              (λ ne. other u ul ne mine)
              (cases_eq u t);
          outgoing = λ k kl. subst (ContentIs xs (store (Out k))) (sym (words_are_kept owner m (sp + slot_at s t) (sp + argument_at k) w (OfFrame depth (SlotPiece t)) (OfFrame depth (ArgumentPiece k)) mine (argument-word xs owner m sp depth own s store h.frame k kl) (λ e. cc))) (h.frame.outgoing k kl);
          owned = h.frame.owned;
          objects = h.frame.objects;
        };
        memory_is = memory-kept (sp + slot_at s t) w (SlotPiece t) mine;
      }
    where
      here : (t : ℕ) → ContentIs xs (if t == t then c else store (Slot t)) (word_in (put_word m (sp + slot_at s t) w) (sp + slot_at s t))
      here t =
          subst (λ b. ContentIs xs (if b then c else store (Slot t)) (word_in (put_word m (sp + slot_at s t) w) (sp + slot_at s t))) (sym (eq-eqb t t refl))
          (subst (ContentIs xs c) (sym (word-put m (sp + slot_at s t) w small)) is)

      other : (u : ℕ) → u < s.temps → u ≢ t → WordIsOwned owner (sp + slot_at s t) (OfFrame depth (SlotPiece t)) → ContentIs xs (if u == t then c else store (Slot u)) (word_in (put_word m (sp + slot_at s t) w) (sp + slot_at s u))
      other u ul ne mine =
          subst (λ b. ContentIs xs (if b then c else store (Slot u)) (word_in (put_word m (sp + slot_at s t) w) (sp + slot_at s u))) (sym (ne_eqb u t ne))
          (subst (ContentIs xs (store (Slot u))) (sym (words_are_kept owner m (sp + slot_at s t) (sp + slot_at s u) w (OfFrame depth (SlotPiece t)) (OfFrame depth (SlotPiece u)) mine (slot-word xs owner m sp depth own s store h.frame u ul) (λ e. let same : t ≡ u = cc in ne (sym same)))) (h.frame.slots u ul))

  pub arguments_are_put : (k : ℕ) (c : Content) (w : ℕ) → k < s.outgoing → w < 2 ^ 64 → ContentIs xs c w → FrameAndMemory xs memory owner (put_word m (sp + argument_at k) w) sp depth own s (put place_eq (Out k) c store)
  arguments_are_put k c w lt small is =
      let mine = argument-word xs owner m sp depth own s store h.frame k lt in
      record {
        frame = record {
          aligned = h.frame.aligned;
          slots = λ t tl. subst (ContentIs xs (store (Slot t))) (sym (words_are_kept owner m (sp + argument_at k) (sp + slot_at s t) w (OfFrame depth (ArgumentPiece k)) (OfFrame depth (SlotPiece t)) mine (slot-word xs owner m sp depth own s store h.frame t tl) (λ e. cc))) (h.frame.slots t tl);
          outgoing = λ j jl. ⊎_elim
              (λ (e : j ≡ k). subst (λ v. ContentIs xs (if v == k then c else store (Out v)) (word_in (put_word m (sp + argument_at k) w) (sp + argument_at v))) (sym e) (here k))
              (λ ne. other j jl ne mine)
              (cases_eq j k);
          owned = h.frame.owned;
          objects = h.frame.objects;
        };
        memory_is = memory-kept (sp + argument_at k) w (ArgumentPiece k) mine;
      }
    where
      here : (k : ℕ) → ContentIs xs (if k == k then c else store (Out k)) (word_in (put_word m (sp + argument_at k) w) (sp + argument_at k))
      here k =
          subst (λ b. ContentIs xs (if b then c else store (Out k)) (word_in (put_word m (sp + argument_at k) w) (sp + argument_at k))) (sym (eq-eqb k k refl))
          (subst (ContentIs xs c) (sym (word-put m (sp + argument_at k) w small)) is)

      other : (j : ℕ) → j < s.outgoing → j ≢ k → WordIsOwned owner (sp + argument_at k) (OfFrame depth (ArgumentPiece k)) → ContentIs xs (if j == k then c else store (Out j)) (word_in (put_word m (sp + argument_at k) w) (sp + argument_at j))
      other j jl ne mine =
          subst (λ b. ContentIs xs (if b then c else store (Out j)) (word_in (put_word m (sp + argument_at k) w) (sp + argument_at j))) (sym (ne_eqb j k ne))
          (subst (ContentIs xs (store (Out j))) (sym (words_are_kept owner m (sp + argument_at k) (sp + argument_at j) w (OfFrame depth (ArgumentPiece k)) (OfFrame depth (ArgumentPiece j)) mine (argument-word xs owner m sp depth own s store h.frame j jl) (λ e. let same : k ≡ j = cc in ne (sym same)))) (h.frame.outgoing j jl))

-- ---- registers

pub registers_are_put : (xs : Extents) (known : ℕ → Bool) (store : Places) (s t : State) (r : ℕ) (c : Content) → RegistersAre xs known store s → ((q : ℕ) → known q ≡ true → q ≢ r → register t q ≡ register s q) → ContentIs xs c (register t r) → RegistersAre xs (with_known known r) (put place_eq (Reg r) c store) t
registers_are_put xs known store s t r c h same is q e = ⊎_elim
    (λ (f : q ≡ r). subst (λ v. ContentIs xs (if v == r then c else store (Reg v)) (register t v)) (sym f) (subst (λ b. ContentIs xs (if b then c else store (Reg r)) (register t r)) (sym (eq-eqb r r refl)) is))
    (λ ne. subst (λ b. ContentIs xs (if b then c else store (Reg q)) (register t q)) (sym (ne_eqb q r ne)) (subst (ContentIs xs (store (Reg q))) (sym (same q (known-before ne) ne)) (h q (known-before ne))))
    (cases_eq q r)
  where
    known-before : q ≢ r → known q ≡ true
    known-before ne = ⊎_elim (λ f. absurd (ne (eqb-true q r f))) (λ f. f) (or_cases (q == r) (known q) e)
