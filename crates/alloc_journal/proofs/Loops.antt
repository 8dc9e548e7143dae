-- One turn of each loop.
use Rattle.std.proofs.Common.{◌≡◌, ◌≢◌, ◌⊎◌, ℕ, zero, suc, ◌+◌, ◌<◌, ◌≤◌, List, [], ◌∷◌, ◌++◌, Bool, true, false, Option, Some, None, refl, sym, ap, ◌∙◌, inl, inr, subst, ⊎_elim, length, map, take, drop, get_or, append_assoc, append-nil, arith}
use Rattle.std.specs.Prelude.{All, nat_lt, flat_map, zip, slice_get, slice_set, slice_index_or}
use Rattle.std.proofs.lemmas.Bool.{ltb-true, ltb-false}
use Rattle.std.proofs.lemmas.Option.{none-some, same_Some}
use Rattle.std.proofs.lemmas.List.{at_drop_more, at_drop_all, get_or-set_same, get_or-set_other, length-set}
use Rattle.std.proofs.lemmas.List.Sums.{sum_by-cons, sum_by-take-le}
use Rattle.bk_ilist.specs.Listing.{items}
use Rattle.pass_core.specs.Functions.{UsesRegisters, count_of}
use Rattle.temp_ir.specs.declared.insn.TempInsn.{TempInsn}
use Rattle.temp_ir.specs.Insns.{reads_of, writes_of}
use Rattle.alloc_model.specs.declared.allocation.Event.{Event}
use Rattle.alloc_model.specs.declared.allocation.Event.TheVariants as event
use Rattle.alloc_model.specs.declared.allocation.Transfer.{Transfer}
use Rattle.alloc_model.specs.declared.allocation.Transfer.TheVariants.{Store, Load, Shift}
use Rattle.alloc_model.specs.Faithful.{IsGivenRegister, IsTransfer, named_registers}
use Rattle.alloc_model.specs.Lifetimes.{Blocks}
use Rattle.alloc_rules.specs.declared.scan.Lifetimes.{Lifetimes}
use Rattle.alloc_rules.specs.Journal.{event_of, assigned_by_move, assigned_unless}
use Rattle.alloc_rules.specs.Visits.{takes_away, registers_written}
use Rattle.binpack_blocks.proofs.Holders.{same_or_not}
use Rattle.alloc_journal.specs.model.Holders.{Holders, holder_in, register_in, without, comes, behind_move, behind_moves, cleared, left_below, holders_left, pairs_written, all_come, holders_behind}
use Rattle.alloc_journal.specs.model.Tables.{AreBelow}
use Rattle.alloc_journal.specs.model.Leaving.{all_leaving}
use Rattle.alloc_journal.specs.model.Visits.{assignments, write_events, visit_by, row_at, visits_by, behind_all, journal_by}

-- ---- rows

past_empty : {A : Type 0} (rows : List (List A)) (n : ℕ) → length rows ≤ n → slice_index_or rows n [] ≡ []
past_empty [] n past = refl
past_empty (x ∷ rows) zero past = absurd (omega (arith, past))
past_empty (x ∷ rows) (suc n) past = past_empty rows n (omega (arith, past))

all_none : {A : Type 0} (P : A → Type 0) → All P []
all_none P k d within = absurd (omega (arith, within))

pub row_all : {A : Type 0} (P : A → Type 0) (rows : List (List A)) (n : ℕ) (row : List A) → All (All P) rows → row ≡ slice_index_or rows n [] → All P row
row_all P rows n row all is = subst (All P) (sym is) (by (nat_lt n (length rows)) refl)
  where
    by : (c : Bool) → nat_lt n (length rows) ≡ c → All P (slice_index_or rows n [])
    by true e = all n [] (ltb-true n (length rows) e)
    by false e = subst (All P) (sym (past_empty rows n (ltb-false n (length rows) e))) (all_none P)

pub all_named : (temps : ℕ) (xs : List Transfer) → All (IsTransfer temps IsGivenRegister) xs → All (λ x. All IsGivenRegister (named_registers x)) xs
all_named temps xs all k d within = (all k d within).1

-- ---- temporaries below a number

pub none_past : (hs : Holders) (r : ℕ) → length hs ≤ r → holder_in hs r ≡ None
none_past [] r past = refl
none_past (o ∷ hs) zero past = absurd (omega (arith, past))
none_past (o ∷ hs) (suc r) past = none_past hs r (omega (arith, past))

-- what a register has of which one was set is what came, or was there
pub set_some : (hs : Holders) (r q u : ℕ) (o : Option ℕ) → holder_in (slice_set hs r o) q ≡ Some u → ((q ≡ r) × (o ≡ Some u)) ⊎ ((q ≢ r) × (holder_in hs q ≡ Some u))
set_some hs r q u o e = ⊎_elim
    (λ (same : q ≡ r). inl (same, by same (nat_lt r (length hs)) refl))
    (λ (ne : q ≢ r). inr (ne, sym (get_or-set_other hs r q o None ne) ∙ e))
    (same_or_not q r)
  where
    by : q ≡ r → (c : Bool) → nat_lt r (length hs) ≡ c → o ≡ Some u
    by same true f = sym (get_or-set_same hs r o None (ltb-true r (length hs) f)) ∙ ap (holder_in (slice_set hs r o)) (sym same) ∙ e
    by same false f =
        let past = ltb-false r (length hs) f in
        let size = length-set hs r o in
        absurd (none-some u (sym (none_past (slice_set hs r o) q (omega (arith, past, size, same))) ∙ e))

without_some : (hs : Holders) (o : Option ℕ) (q u : ℕ) → holder_in (without o hs) q ≡ Some u → holder_in hs q ≡ Some u
without_some hs None q u e = e
without_some hs (Some r) q u e = ⊎_elim
    (λ (came : (q ≡ r) × (None ≡ Some u)). absurd (none-some u came.1))
    (λ (was : (q ≢ r) × (holder_in hs q ≡ Some u)). was.1)
    (set_some hs r q u None e)

come_below : (n : ℕ) (hs : Holders) (r t : ℕ) → t < n → AreBelow n hs → AreBelow n (comes r t hs)
come_below n hs r t low are = record {
  each = λ q u e. ⊎_elim
      (λ (came : (q ≡ r) × (Some t ≡ Some u)). subst (λ v. v < n) (same_Some t u came.1) low)
      (λ (was : (q ≢ r) × (holder_in (without (register_in hs t) hs) q ≡ Some u)). are.each q u (without_some hs (register_in hs t) q u was.1))
      (set_some (without (register_in hs t) hs) r q u (Some t) e);
}

move_below : (n : ℕ) (x : Transfer) (hs : Holders) → IsTransfer n IsGivenRegister x → AreBelow n hs → AreBelow n (behind_move x hs)
move_below n (Store t r) hs is are = are
move_below n (Load t r) hs is are = come_below n hs r t is.0 are
move_below n (Shift t from to) hs is are = come_below n hs to t is.0 are

pub all_rest : {A : Type 0} (P : A → Type 0) (x : A) (xs : List A) → All P (x ∷ xs) → All P xs
all_rest P x xs all k d within = all (suc k) d (omega (arith, within))

moves_below : (n : ℕ) (xs : List Transfer) (hs : Holders) → All (IsTransfer n IsGivenRegister) xs → AreBelow n hs → AreBelow n (behind_moves xs hs)
moves_below n [] hs all are = are
moves_below n (x ∷ xs) hs all are =
    moves_below n xs (behind_move x hs) (all_rest (IsTransfer n IsGivenRegister) x xs all) (move_below n x hs (all 0 x (omega arith)) are)

cleared_below : (n : ℕ) (taken : Bool) (r : ℕ) (hs : Holders) → AreBelow n hs → AreBelow n (cleared taken r hs)
cleared_below n false r hs are = are
cleared_below n true r hs are = record {
  each = λ q u e. ⊎_elim
      (λ (came : (q ≡ r) × (None ≡ Some u)). absurd (none-some u came.1))
      (λ (was : (q ≢ r) × (holder_in hs q ≡ Some u)). are.each q u was.1)
      (set_some hs r q u None e);
}

lefts_below : (n : ℕ) (x : TempInsn) (count : ℕ) (hs : Holders) → AreBelow n hs → AreBelow n (left_below x count hs)
unfolding left_below
lefts_below n x zero hs are = are
lefts_below n x (suc count) hs are = cleared_below n (takes_away x count) count (left_below x count hs) (lefts_below n x count hs are)

pub left_below_bound : (n : ℕ) (x : TempInsn) (xs : List Transfer) (hs left : Holders) → All (IsTransfer n IsGivenRegister) xs → left ≡ holders_left x xs hs → AreBelow n hs → AreBelow n left
left_below_bound n x xs hs left all is are = subst (AreBelow n) (sym is) (lefts_below n x 26 (behind_moves xs hs) (moves_below n xs hs all are))

come_all_below : (n : ℕ) (ts rs : List ℕ) (hs : Holders) → All (λ t. t < n) ts → AreBelow n hs → AreBelow n (all_come (zip ts rs) hs)
come_all_below n [] rs hs all are = are
come_all_below n (t ∷ ts) [] hs all are = are
come_all_below n (t ∷ ts) (r ∷ rs) hs all are =
    come_all_below n ts rs (comes r t hs) (all_rest (λ t. t < n) t ts all) (come_below n hs r t (all 0 t (omega arith)) are)

pub behind_below : (n : ℕ) (x : TempInsn) (xs : List Transfer) (rs : List ℕ) (hs behind : Holders) → UsesRegisters reads_of writes_of n x → All (IsTransfer n IsGivenRegister) xs → behind ≡ holders_behind x xs rs hs → AreBelow n hs → AreBelow n behind
behind_below n x xs rs hs behind used all is are =
    subst (AreBelow n) (sym is) (come_all_below n (writes_of x) (registers_written rs x) (holders_left x xs hs) used.1 (left_below_bound n x xs hs (holders_left x xs hs) all refl are))

-- ---- a table keeps its length

without_length : (hs : Holders) (o : Option ℕ) → length (without o hs) ≡ length hs
without_length hs None = refl
without_length hs (Some r) = length-set hs r None

come_length : (hs : Holders) (r t : ℕ) → length (comes r t hs) ≡ length hs
come_length hs r t = length-set (without (register_in hs t) hs) r (Some t) ∙ without_length hs (register_in hs t)

move_length : (x : Transfer) (hs : Holders) → length (behind_move x hs) ≡ length hs
move_length (Store t r) hs = refl
move_length (Load t r) hs = come_length hs r t
move_length (Shift t from to) hs = come_length hs to t

moves_length : (xs : List Transfer) (hs : Holders) → length (behind_moves xs hs) ≡ length hs
moves_length [] hs = refl
moves_length (x ∷ xs) hs = moves_length xs (behind_move x hs) ∙ move_length x hs

pub cleared_length : (taken : Bool) (r : ℕ) (hs : Holders) → length (cleared taken r hs) ≡ length hs
cleared_length true r hs = length-set hs r None
cleared_length false r hs = refl

pub left_length : (x : TempInsn) (n : ℕ) (hs : Holders) → length (left_below x n hs) ≡ length hs
unfolding left_below
left_length x zero hs = refl
left_length x (suc n) hs = cleared_length (takes_away x n) n (left_below x n hs) ∙ left_length x n hs

come_all_length : (ws : List (ℕ × ℕ)) (hs : Holders) → length (all_come ws hs) ≡ length hs
come_all_length [] hs = refl
come_all_length (w ∷ ws) hs = come_all_length ws (comes w.1 w.0 hs) ∙ come_length hs w.1 w.0

pub behind_length : (x : TempInsn) (xs : List Transfer) (rs : List ℕ) (hs : Holders) → length (holders_behind x xs rs hs) ≡ length hs
behind_length x xs rs hs = come_all_length (pairs_written x rs) (holders_left x xs hs) ∙ left_length x 26 (behind_moves xs hs) ∙ moves_length xs hs

-- ---- the events of what is written

pub no_write : (out : List Event) (left : Holders) → out ≡ out ++ assignments left [] ++ write_events []
no_write out left = sym (append-nil (out ++ []) ∙ append-nil out)

pub one_write : (out : List Event) (left : Holders) (t r : ℕ) →
    (out ++ assigned_unless (register_in left t) t r) ++ event.Write t r ∷ [] ≡ out ++ assignments left ((t, r) ∷ []) ++ write_events ((t, r) ∷ [])
one_write out left t r = sym (ap (λ es. (out ++ es) ++ event.Write t r ∷ []) (append-nil (assigned_unless (register_in left t) t r)))

pub visit_put : (v : Event) (out one two three four five leaving moved loaded assigned written : List Event) →
    one ≡ out ++ v ∷ [] → two ≡ one ++ leaving → three ≡ two ++ moved → four ≡ three ++ loaded → five ≡ four ++ assigned ++ written →
    five ≡ out ++ (v ∷ leaving ++ moved ++ loaded ++ assigned ++ written)
visit_put v out one two three four five leaving moved loaded assigned written p q r s u =
    u ∙ ap (λ es. es ++ assigned ++ written) (s ∙ ap (λ es. es ++ loaded) (r ∙ ap (λ es. es ++ moved) (q ∙ ap (λ es. es ++ leaving) p)))
    ∙ ap (λ es. es ++ written) (ap (λ es. es ++ assigned) (ap (λ es. es ++ loaded) (ap (λ es. es ++ moved) (append_assoc out (v ∷ []) leaving)
    ∙ append_assoc out (v ∷ leaving) moved) ∙ append_assoc out (v ∷ leaving ++ moved) loaded) ∙ append_assoc out (v ∷ leaving ++ moved ++ loaded) assigned)
    ∙ append_assoc out (v ∷ leaving ++ moved ++ loaded ++ assigned) written

pub visit_made : (temps number : ℕ) (lives : Lifetimes) (x : TempInsn) (xs : List Transfer) (rs : List ℕ) (hs before left again behind : Holders) (ws : List (ℕ × ℕ)) (out one two three four five : List Event) →
    before ≡ hs → left ≡ holders_left x xs hs → again ≡ holders_left x xs hs → ws ≡ pairs_written x rs → behind ≡ holders_behind x xs rs hs →
    one ≡ out ++ event.Visit number ∷ [] → two ≡ one ++ all_leaving temps lives number before left behind → three ≡ two ++ map event_of xs → four ≡ three ++ flat_map assigned_by_move xs →
    five ≡ four ++ assignments again ws ++ write_events ws → five ≡ out ++ visit_by temps lives number x xs rs hs
visit_made temps number lives x xs rs hs before left again behind ws out one two three four five b l a w h p q r s u =
    visit_put (event.Visit number) out one two three four five (all_leaving temps lives number hs (holders_left x xs hs) (holders_behind x xs rs hs)) (map event_of xs) (flat_map assigned_by_move xs)
    (assignments (holders_left x xs hs) (pairs_written x rs)) (write_events (pairs_written x rs)) p
    (q ∙ ap (λ g. one ++ all_leaving temps lives number g left behind) b ∙ ap (λ g. one ++ all_leaving temps lives number hs g behind) l
    ∙ ap (λ g. one ++ all_leaving temps lives number hs (holders_left x xs hs) g) h) r s
    (u ∙ ap (λ g. four ++ assignments g ws ++ write_events ws) a ∙ ap (λ vs. four ++ assignments (holders_left x xs hs) vs ++ write_events vs) w)

-- ---- the instructions of a block

pub first_left : {A : Type 0} (P : A → Type 0) (i : A) (rest all : List (ℕ × A)) (id : ℕ) → all ≡ (id, i) ∷ rest → All P (items all) → P i
first_left P i rest all id is every = subst (λ ps. All P (items ps)) is every 0 i (omega arith)

pub others_left : {A : Type 0} (P : A → Type 0) (i : A) (rest all : List (ℕ × A)) (id : ℕ) → all ≡ (id, i) ∷ rest → All P (items all) → All P (items rest)
others_left P i rest all id is every = all_rest P i (items rest) (subst (λ ps. All P (items ps)) is every)

pub left_next : (next sum id after : ℕ) (x : TempInsn) (all rest : List (ℕ × TempInsn)) → all ≡ (id, x) ∷ rest → next + length (items all) ≡ sum → after ≡ next + 1 → after + length (items rest) ≡ sum
left_next next sum id after x all rest is total step =
    let more : length (items all) ≡ suc (length (items rest)) = ap (λ ps. length (items ps)) is in omega (arith, total, step, more)

pub at_item : {A : Type 0} (P : A → Type 0) (xs : List A) (i : ℕ) (x : A) → All P xs → i < length xs → x ≡ get_or xs i x → P x
at_item P xs i x all within is = subst P (sym is) (all i x within)

module _ (temps : ℕ) (lives : Lifetimes) (at : List (List Transfer)) (regs : List (List ℕ)) where
  pub visits_next : (number next id : ℕ) (x : TempInsn) (xs : List Transfer) (rs : List ℕ) (h h' : Holders) (rest all : List (ℕ × TempInsn)) (out new whole : List Event) → all ≡ (id, x) ∷ rest →
      xs ≡ slice_index_or at number [] → rs ≡ slice_index_or regs number [] → new ≡ out ++ visit_by temps lives number x xs rs h → h' ≡ holders_behind x xs rs h → next ≡ number + 1 →
      out ++ visits_by temps lives at regs number (items all) h ≡ whole → new ++ visits_by temps lives at regs next (items rest) h' ≡ whole
  visits_next number next id x xs rs h h' rest all out new whole is xs_is rs_is put behind step so_far =
      let put_is = put ∙ ap (λ zs. out ++ visit_by temps lives number x zs rs h) xs_is ∙ ap (λ qs. out ++ visit_by temps lives number x (row_at at number) qs h) rs_is in
      let behind_is = behind ∙ ap (λ zs. holders_behind x zs rs h) xs_is ∙ ap (λ qs. holders_behind x (row_at at number) qs h) rs_is in
      ap (λ es. es ++ visits_by temps lives at regs next (items rest) h') put_is
      ∙ append_assoc out (visit_by temps lives number x (row_at at number) (row_at regs number) h) (visits_by temps lives at regs next (items rest) h')
      ∙ ap (λ n. out ++ (visit_by temps lives number x (row_at at number) (row_at regs number) h ++ visits_by temps lives at regs n (items rest) h')) (let e : next ≡ suc number = omega (arith, step) in e)
      ∙ ap (λ g. out ++ (visit_by temps lives number x (row_at at number) (row_at regs number) h ++ visits_by temps lives at regs (suc number) (items rest) g)) behind_is
      ∙ sym (ap (λ ps. out ++ visits_by temps lives at regs number (items ps) h) is) ∙ so_far

  pub visits_done : (number : ℕ) (h : Holders) (left : List (ℕ × TempInsn)) (out whole : List Event) → left ≡ [] →
      out ++ visits_by temps lives at regs number (items left) h ≡ whole → out ≡ whole
  visits_done number h left out whole none so_far = sym (append-nil out) ∙ sym (ap (λ ps. out ++ visits_by temps lives at regs number (items ps) h) none) ∙ so_far

  pub behind_next : (number next id : ℕ) (x : TempInsn) (xs : List Transfer) (rs : List ℕ) (h h' whole : Holders) (rest all : List (ℕ × TempInsn)) → all ≡ (id, x) ∷ rest →
      xs ≡ slice_index_or at number [] → rs ≡ slice_index_or regs number [] → h' ≡ holders_behind x xs rs h → next ≡ number + 1 →
      behind_all at regs number (items all) h ≡ whole → behind_all at regs next (items rest) h' ≡ whole
  behind_next number next id x xs rs h h' whole rest all is xs_is rs_is behind step so_far =
      let behind_is = behind ∙ ap (λ zs. holders_behind x zs rs h) xs_is ∙ ap (λ qs. holders_behind x (row_at at number) qs h) rs_is in
      ap (λ n. behind_all at regs n (items rest) h') (let e : next ≡ suc number = omega (arith, step) in e)
      ∙ ap (behind_all at regs (suc number) (items rest)) behind_is
      ∙ sym (ap (λ ps. behind_all at regs number (items ps) h) is) ∙ so_far

  pub behind_done : (number : ℕ) (h whole : Holders) (left : List (ℕ × TempInsn)) → left ≡ [] → behind_all at regs number (items left) h ≡ whole → h ≡ whole
  behind_done number h whole left none so_far = sym (ap (λ ps. behind_all at regs number (items ps) h) none) ∙ so_far

  -- ---- the blocks

  pub blocks_next : (blocks : Blocks) (k number next : ℕ) (b : List TempInsn) (h h' : Holders) (out new whole : List Event) →
      k < length blocks → b ≡ get_or blocks k b → new ≡ out ++ visits_by temps lives at regs number b h → h' ≡ behind_all at regs number b h → next ≡ number + length b →
      out ++ journal_by temps lives at regs number (drop k blocks) h ≡ whole → new ++ journal_by temps lives at regs next (drop (k + 1) blocks) h' ≡ whole
  blocks_next blocks k number next b h h' out new whole within is put behind step so_far =
      ap (λ es. es ++ journal_by temps lives at regs next (drop (k + 1) blocks) h') put
      ∙ ap (λ n. (out ++ visits_by temps lives at regs number b h) ++ journal_by temps lives at regs n (drop (k + 1) blocks) h') step
      ∙ ap (λ g. (out ++ visits_by temps lives at regs number b h) ++ journal_by temps lives at regs (number + length b) (drop (k + 1) blocks) g) behind
      ∙ append_assoc out (visits_by temps lives at regs number b h) (journal_by temps lives at regs (number + length b) (drop (k + 1) blocks) (behind_all at regs number b h))
      ∙ ap (λ c. out ++ journal_by temps lives at regs number (c ∷ drop (k + 1) blocks) h) is
      ∙ sym (at_drop_more (λ bs. out ++ journal_by temps lives at regs number bs h) blocks k b within) ∙ so_far

  pub blocks_done : (blocks : Blocks) (k number : ℕ) (h : Holders) (out whole : List Event) → length blocks ≤ k →
      out ++ journal_by temps lives at regs number (drop k blocks) h ≡ whole → out ≡ whole
  blocks_done blocks k number h out whole past so_far =
      sym (append-nil out) ∙ sym (at_drop_all (λ bs. out ++ journal_by temps lives at regs number bs h) blocks k past) ∙ so_far

-- ---- numbers of instructions

pub count_step : (bs : Blocks) (block : ℕ) (b : List TempInsn) → slice_get bs block ≡ Some b → count_of (take (suc block) bs) ≡ count_of (take block bs) + length b
count_step [] block b is = absurd (none-some b is)
count_step (c ∷ bs) zero b is =
    let one = sum_by-cons (λ (insns : List TempInsn). length insns) c [] in
    let same : length c ≡ length b = ap length (same_Some c b is) in
    omega (arith, one, same)
count_step (c ∷ bs) (suc block) b is =
    let rest = count_step bs block b is in
    let one = sum_by-cons (λ (insns : List TempInsn). length insns) c (take (suc block) bs) in
    let two = sum_by-cons (λ (insns : List TempInsn). length insns) c (take block bs) in
    omega (arith, rest, one, two)

block_get : (blocks : Blocks) (k : ℕ) (b : List TempInsn) → k < length blocks → b ≡ get_or blocks k b → slice_get blocks k ≡ Some b
block_get [] k b within is = absurd (omega (arith, within))
block_get (c ∷ bs) zero b within is = ap Some (sym is)
block_get (c ∷ bs) (suc k) b within is = block_get bs k b (omega (arith, within)) is

pub number_next : (blocks : Blocks) (k number next : ℕ) (b : List TempInsn) → k < length blocks → b ≡ get_or blocks k b → number ≡ count_of (take k blocks) → next ≡ number + length b → next ≡ count_of (take (k + 1) blocks)
number_next blocks k number next b within is count step =
    let more = count_step blocks k b (block_get blocks k b within is) in
    let same : count_of (take (suc k) blocks) ≡ count_of (take (k + 1) blocks) = ap (λ n. count_of (take n blocks)) (let e : suc k ≡ k + 1 = omega arith in e) in
    omega (arith, count, step, more, same)

pub few_next : (blocks : Blocks) (k number bound : ℕ) (b : List TempInsn) → k < length blocks → b ≡ get_or blocks k b → number ≡ count_of (take k blocks) → count_of blocks < bound → number + length b < bound
few_next blocks k number bound b within is count few =
    let more = count_step blocks k b (block_get blocks k b within is) in
    let most = sum_by-take-le (λ (block : List TempInsn). length block) blocks (suc k) in
    omega (arith, count, more, most, few)
