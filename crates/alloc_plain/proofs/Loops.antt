-- One turn of each loop.
use Rattle.std.proofs.Common.{◌≡◌, ℕ, zero, suc, ◌+◌, ◌<◌, ◌≤◌, Bool, true, List, [], ◌∷◌, ◌++◌, Option, Some, None, refl, sym, ap, ◌∙◌, subst, length, take, drop, append_assoc, append-nil, arith}
use Rattle.std.specs.Prelude.{All, Contains, IfSome, slice_get, slice_index_or}
use Rattle.std.proofs.lemmas.Bool.{eq-eqb}
use Rattle.std.proofs.lemmas.Option.{get_or_from_slice_get}
use Rattle.std.proofs.lemmas.List.Sums.{sum_by-take-le}
use Rattle.bk_ilist.specs.Listing.{items}
use Rattle.pass_core.specs.Functions.{UsesRegisters, count_of}
use Rattle.temp_ir.specs.declared.insn.TempInsn.{TempInsn}
use Rattle.temp_ir.specs.Insns.{reads_of, writes_of}
use Rattle.alloc_model.specs.Lifetimes.{Blocks}
use Rattle.alloc_model.specs.declared.allocation.Event.{Event}
use Rattle.alloc_plain_lists.proofs.Lists.{there}
use Rattle.alloc_plain.specs.declared.holders.HeldTemporaries.{HeldTemporaries}
use Rattle.alloc_plain.specs.model.Held.{is_in, held_left, held_behind, held_behind_all, held_at_top, Holds}
use Rattle.alloc_plain.specs.model.Visits.{visit_in_slots, visits_in_slots, journal_in_slots}
use Rattle.alloc_plain.proofs.Steps.{left_holds, behind_holds}
use Rattle.alloc_plain.proofs.Journals.{count_step}

-- ---- the instructions of a block

pub visits_next : (ends : List ℕ) (number next id : ℕ) (p : Option TempInsn) (x : TempInsn) (h h' : HeldTemporaries) (rest all : List (ℕ × TempInsn)) (out new whole : List Event) → all ≡ (id, x) ∷ rest →
    new ≡ out ++ visit_in_slots ends number p x h → h' ≡ held_behind x h → next ≡ number + 1 →
    out ++ visits_in_slots ends number p (items all) h ≡ whole → new ++ visits_in_slots ends next (Some x) (items rest) h' ≡ whole
visits_next ends number next id p x h h' rest all out new whole is put behind step so_far =
    ap (λ es. es ++ visits_in_slots ends next (Some x) (items rest) h') put
    ∙ append_assoc out (visit_in_slots ends number p x h) (visits_in_slots ends next (Some x) (items rest) h')
    ∙ ap (λ n. out ++ (visit_in_slots ends number p x h ++ visits_in_slots ends n (Some x) (items rest) h')) (let e : next ≡ suc number = omega (arith, step) in e)
    ∙ ap (λ g. out ++ (visit_in_slots ends number p x h ++ visits_in_slots ends (suc number) (Some x) (items rest) g)) behind
    ∙ sym (ap (λ ps. out ++ visits_in_slots ends number p (items ps) h) is) ∙ so_far

pub visits_done : (ends : List ℕ) (number : ℕ) (p : Option TempInsn) (h : HeldTemporaries) (left : List (ℕ × TempInsn)) (out whole : List Event) → left ≡ [] →
    out ++ visits_in_slots ends number p (items left) h ≡ whole → out ≡ whole
visits_done ends number p h left out whole none so_far = sym (append-nil out) ∙ sym (ap (λ ps. out ++ visits_in_slots ends number p (items ps) h) none) ∙ so_far

pub behind_next : (id : ℕ) (x : TempInsn) (h h' whole : HeldTemporaries) (rest all : List (ℕ × TempInsn)) → all ≡ (id, x) ∷ rest → h' ≡ held_behind x h →
    held_behind_all (items all) h ≡ whole → held_behind_all (items rest) h' ≡ whole
behind_next id x h h' whole rest all is behind so_far =
    ap (held_behind_all (items rest)) behind ∙ sym (ap (λ ps. held_behind_all (items ps) h) is) ∙ so_far

pub behind_done : (h whole : HeldTemporaries) (left : List (ℕ × TempInsn)) → left ≡ [] → held_behind_all (items left) h ≡ whole → h ≡ whole
behind_done h whole left none so_far = sym (ap (λ ps. held_behind_all (items ps) h) none) ∙ so_far

named_below : (n : ℕ) (ts : List ℕ) → All (λ t. t < n) ts → (t : ℕ) → Contains ts t → t < n
named_below n ts all t (k, within, is) = subst (λ u. u < n) is (all k t within)

pub left_below : (n : ℕ) (x : TempInsn) (h left : HeldTemporaries) → UsesRegisters reads_of writes_of n x → left ≡ held_left x h → Holds (λ t. t < n) h → Holds (λ t. t < n) left
left_below n x h left used is holds = subst (Holds (λ t. t < n)) (sym is) (left_holds (λ t. t < n) x h (named_below n (reads_of x) used.0) holds)

pub behind_below : (n : ℕ) (x : TempInsn) (h h' : HeldTemporaries) → UsesRegisters reads_of writes_of n x → h' ≡ held_behind x h → Holds (λ t. t < n) h → Holds (λ t. t < n) h'
behind_below n x h h' used is holds = subst (Holds (λ t. t < n)) (sym is)
    (behind_holds (λ t. t < n) x (held_left x h) (named_below n (writes_of x) used.1) (left_holds (λ t. t < n) x h (named_below n (reads_of x) used.0) holds))

pub visit_put : (ends : List ℕ) (number : ℕ) (v : Event) (out one two three four five leaving moved loaded assigned written : List Event) →
    one ≡ out ++ v ∷ [] → two ≡ one ++ leaving → three ≡ two ++ moved → four ≡ three ++ loaded → five ≡ four ++ assigned ++ written →
    five ≡ out ++ (v ∷ leaving ++ moved ++ loaded ++ assigned ++ written)
visit_put ends number v out one two three four five leaving moved loaded assigned written p q r s u =
    u ∙ ap (λ es. es ++ assigned ++ written) (s ∙ ap (λ es. es ++ loaded) (r ∙ ap (λ es. es ++ moved) (q ∙ ap (λ es. es ++ leaving) p)))
    ∙ ap (λ es. es ++ written) (ap (λ es. es ++ assigned) (ap (λ es. es ++ loaded) (ap (λ es. es ++ moved) (append_assoc out (v ∷ []) leaving)
    ∙ append_assoc out (v ∷ leaving) moved) ∙ append_assoc out (v ∷ leaving ++ moved) loaded) ∙ append_assoc out (v ∷ leaving ++ moved ++ loaded) assigned)
    ∙ append_assoc out (v ∷ leaving ++ moved ++ loaded ++ assigned) written

-- ---- the blocks

block_get : (blocks : Blocks) (k : ℕ) (b : List TempInsn) → k < length blocks → b ≡ slice_index_or blocks k b → slice_get blocks k ≡ Some b
block_get blocks k b within is =
    let (x, found) = there blocks k within in
    found ∙ ap Some (sym (is ∙ get_or_from_slice_get blocks k x b found))

drop_block : (blocks : Blocks) (k : ℕ) (b : List TempInsn) → slice_get blocks k ≡ Some b → drop k blocks ≡ b ∷ drop (k + 1) blocks
drop_block [] k b is = absurd (cc)
drop_block (c ∷ bs) zero b is = (let same : c ≡ b = cc in ap (λ x. x ∷ bs) same)
drop_block (c ∷ bs) (suc k) b is = drop_block bs k b is ∙ ap (λ n. b ∷ drop n (c ∷ bs)) (let e : suc (k + 1) ≡ suc k + 1 = omega arith in e)

pub blocks_next : (ends : List ℕ) (tops : List (List Bool)) (blocks : Blocks) (k number next : ℕ) (b : List TempInsn) (set : List Bool) (h entered h' : HeldTemporaries) (out new whole : List Event) →
    k < length blocks → b ≡ slice_index_or blocks k b → set ≡ slice_index_or tops k [] → entered ≡ held_at_top set h →
    new ≡ out ++ visits_in_slots ends number None b entered → h' ≡ held_behind_all b entered → next ≡ number + length b →
    out ++ journal_in_slots ends tops number k (drop k blocks) h ≡ whole → new ++ journal_in_slots ends tops next (k + 1) (drop (k + 1) blocks) h' ≡ whole
blocks_next ends tops blocks k number next b set h entered h' out new whole within is set_is top put behind step so_far =
    let e : k + 1 ≡ suc k = omega arith in
    let top_is = top ∙ ap (λ s. held_at_top s h) set_is in
    ap (λ es. es ++ journal_in_slots ends tops next (k + 1) (drop (k + 1) blocks) h') (put ∙ ap (λ g. out ++ visits_in_slots ends number None b g) top_is)
    ∙ ap (λ g. (out ++ visits_in_slots ends number None b (held_at_top (slice_index_or tops k []) h)) ++ journal_in_slots ends tops next (k + 1) (drop (k + 1) blocks) g) (behind ∙ ap (held_behind_all b) top_is)
    ∙ ap (λ n. (out ++ visits_in_slots ends number None b (held_at_top (slice_index_or tops k []) h)) ++ journal_in_slots ends tops n (k + 1) (drop (k + 1) blocks) (held_behind_all b (held_at_top (slice_index_or tops k []) h))) step
    ∙ append_assoc out (visits_in_slots ends number None b (held_at_top (slice_index_or tops k []) h)) (journal_in_slots ends tops (number + length b) (k + 1) (drop (k + 1) blocks) (held_behind_all b (held_at_top (slice_index_or tops k []) h)))
    ∙ ap (λ n. out ++ (visits_in_slots ends number None b (held_at_top (slice_index_or tops k []) h) ++ journal_in_slots ends tops (number + length b) n (drop (k + 1) blocks) (held_behind_all b (held_at_top (slice_index_or tops k []) h)))) e
    ∙ sym (ap (λ bs. out ++ journal_in_slots ends tops number k bs h) (drop_block blocks k b (block_get blocks k b within is))) ∙ so_far

pub blocks_done : (ends : List ℕ) (tops : List (List Bool)) (blocks : Blocks) (k number : ℕ) (h : HeldTemporaries) (out whole : List Event) → length blocks ≤ k →
    out ++ journal_in_slots ends tops number k (drop k blocks) h ≡ whole → out ≡ whole
blocks_done ends tops blocks k number h out whole past so_far =
    sym (append-nil out) ∙ sym (ap (λ bs. out ++ journal_in_slots ends tops number k bs h) (all_dropped blocks k past)) ∙ so_far
  where
    all_dropped : (bs : Blocks) (k : ℕ) → length bs ≤ k → drop k bs ≡ []
    all_dropped [] zero past = refl
    all_dropped [] (suc k) past = refl
    all_dropped (b ∷ bs) zero past = absurd (omega (arith, past))
    all_dropped (b ∷ bs) (suc k) past = all_dropped bs k (omega (arith, past))

pub count_next : (blocks : Blocks) (k number next : ℕ) (b : List TempInsn) → k < length blocks → b ≡ slice_index_or blocks k b → number ≡ count_of (take k blocks) → next ≡ number + length b → next ≡ count_of (take (k + 1) blocks)
count_next blocks k number next b within is count step =
    let more = count_step blocks k b (block_get blocks k b within is) in
    let e : k + 1 ≡ suc k = omega arith in
    let same : count_of (take (k + 1) blocks) ≡ count_of (take (suc k) blocks) = ap (λ n. count_of (take n blocks)) e in
    omega (arith, count, step, more, same)

pub few_next : (blocks : Blocks) (k number bound : ℕ) (b : List TempInsn) → k < length blocks → b ≡ slice_index_or blocks k b → number ≡ count_of (take k blocks) → count_of blocks < bound → number + length b < bound
few_next blocks k number bound b within is count few =
    let more = count_step blocks k b (block_get blocks k b within is) in
    let most = sum_by-take-le (λ (block : List TempInsn). length block) blocks (suc k) in
    omega (arith, count, more, most, few)

-- ---- what a register has is below a bound

pub some_below : (n : ℕ) (o : Option ℕ) → ((t : ℕ) → is_in o t ≡ true → t < n) → IfSome o (λ t. t < n)
some_below n None all = tt
some_below n (Some u) all = all u (eq-eqb u u refl)
