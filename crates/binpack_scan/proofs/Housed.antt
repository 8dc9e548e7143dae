-- Where temporaries have their places by the replay is where they stand in a scan.
use Rattle.std.proofs.Common.{◌≡◌, ◌≢◌, ◌⊎◌, ℕ, zero, suc, ◌+◌, ◌<◌, ◌≤◌, ◌==◌, List, [], ◌∷◌, ◌++◌, Bool, true, false, Option, Some, None, if◌then◌else◌, refl, sym, ap, ◌∙◌, inl, inr, subst, ⊎_elim, length, take, drop, arith}
use Rattle.std.specs.Prelude.{find, slice_get, slice_set, slice_index_or}
use Rattle.std.proofs.lemmas.Bool.{eq-eqb, ne_eqb}
use Rattle.std.proofs.lemmas.Option.{slice_get_within, get_or_from_slice_get}
use Rattle.bk_bits.specs.Sets.{has}
use Rattle.pass_core.specs.Functions.{count_of, insn_at, insn_in}
use Rattle.temp_ir.specs.declared.insn.TempInsn.{TempInsn}
use Rattle.temp_ir.specs.Insns.{reads_of, writes_of}
use Rattle.alloc_model.specs.declared.allocation.TempPlace.{TempPlace}
use Rattle.alloc_model.specs.declared.allocation.Transfer.{Transfer}
use Rattle.alloc_model.specs.declared.allocation.Transfer.TheVariants.{Store, Load, Shift}
use Rattle.alloc_model.specs.Places.{Place, Reg, Slot, place_eq, Plan, linear_number, transfers_at, registers_at}
use Rattle.alloc_model.specs.Needs.{named_place, place_at_top}
use Rattle.alloc_rules.specs.declared.scan.Lifetimes.{Lifetimes}
use Rattle.alloc_rules.specs.Visits.{Wants, Homes, comes_to, homes_behind_move, homes_behind_moves, takes_away, place_left, homes_left, all_come_to, homes_behind_insn, homes_from, homes_at_top, homes_before}
use Rattle.alloc_journal.specs.Handed.{homes_handed, HandsHomesOn}
use Rattle.alloc_journal.proofs.Journals.{top_same}
use Rattle.binpack_blocks.specs.declared.held.Held.{Held}
use Rattle.binpack_blocks.specs.declared.held.SlotCopy.TheVariants.{Own, Twice}
use Rattle.binpack_blocks.specs.declared.block.Lists.{Lists}
use Rattle.binpack_blocks.specs.declared.blocks.Maps.{Maps}
use Rattle.binpack_blocks.specs.model.Bins.{Bins, held_in, has_temp, held, IsNowhere, IsOnce}
use Rattle.binpack_blocks.specs.model.Steps.{Site, State, Step, Steps, Empties, Ends, Writes}
use Rattle.binpack_blocks.specs.model.Steps.Step.{Stores, Shifts, Loads}
use Rattle.binpack_blocks.specs.model.Steps.Steps.{Start, More}
use Rattle.binpack_blocks.specs.model.Steps.Empties.{Begin, Next}
use Rattle.binpack_blocks.specs.model.Steps.Writes.{Nothing, Keeps, Gets}
use Rattle.binpack_blocks.specs.model.Visits.{Visits, AreHeld}
use Rattle.binpack_blocks.specs.model.Rows.{Rows, site_of, unmade}
use Rattle.binpack_blocks.specs.model.Rows.Rows.{NoRow, OneMore}
use Rattle.binpack_blocks.specs.model.Tops.{is_listed, places_from}
use Rattle.binpack_blocks.specs.model.Whole.{AddsBlock, ScansBlocks}
use Rattle.binpack_blocks.specs.model.Whole.ScansBlocks.{NoBlock, OneBlock}
use Rattle.binpack_blocks.proofs.Holders.{same_or_not, test_or_not, not_both, set_same, set_other, set_length, held_within, held_of, temp_held, temp_is, came, cleared_temp, nowhere_before, nowhere_or, not_where_it_came, marked_temp}
use Rattle.binpack_scan.proofs.Acts.{nowhere_or_somewhere}
use Rattle.binpack_scan.proofs.Functions.{Agrees, agrees_less, agrees_last, agrees_behind, same_temps}
use Rattle.binpack_scan.proofs.Lists.{scans_made}
use Rattle.binpack_scan.proofs.Tops.{named_there, not_named}

-- ---- places and registers

-- each temporary in a register has its place there, and any other one in its slot
pub record IsHoused (bins : Bins) (homes : Homes) : Type 0 where
  pub many : length bins ≡ 26
  pub there : (r t : ℕ) → has_temp (held_in bins r) t ≡ true → homes t ≡ Reg r
  pub nowhere : (t : ℕ) → IsNowhere bins t → homes t ≡ Slot t

-- so it is but for one
record IsHousedBut (own : ℕ) (bins : Bins) (homes : Homes) : Type 0 where
  many : length bins ≡ 26
  there : (r t : ℕ) → t ≢ own → has_temp (held_in bins r) t ≡ true → homes t ≡ Reg r
  nowhere : (t : ℕ) → t ≢ own → IsNowhere bins t → homes t ≡ Slot t

same_register : (q r : ℕ) → Reg q ≡ Reg r → q ≡ r
same_register q r e = cc

housed_once : (bins : Bins) (homes : Homes) → IsHoused bins homes → IsOnce bins
housed_once bins homes housed t r q x y = same_register r q (sym (housed.there r t x) ∙ housed.there q t y)

housed_but : (own : ℕ) (bins : Bins) (homes : Homes) → IsHoused bins homes → IsHousedBut own bins homes
housed_but own bins homes housed = record { many = housed.many; there = λ r t ne x. housed.there r t x; nowhere = λ t ne none. housed.nowhere t none }

-- the same temporaries, or the same places
housed_same : (old new : Bins) (homes : Homes) → length new ≡ 26 → ((r t : ℕ) → has_temp (held_in new r) t ≡ has_temp (held_in old r) t) → IsHoused old homes → IsHoused new homes
housed_same old new homes many same housed = record {
  many = many;
  there = λ r t x. housed.there r t (sym (same r t) ∙ x);
  nowhere = λ t none. housed.nowhere t (λ r. sym (same r t) ∙ none r);
}

housed_at : (bins : Bins) (homes others : Homes) → ((t : ℕ) → others t ≡ homes t) → IsHoused bins homes → IsHoused bins others
housed_at bins homes others same housed = record {
  many = housed.many;
  there = λ r t x. same t ∙ housed.there r t x;
  nowhere = λ t none. same t ∙ housed.nowhere t none;
}

-- a temporary comes to a register, and stands in no other one
came_housed : (bins : Bins) (homes : Homes) (r : ℕ) (h : Held) → r < 26 → ((q : ℕ) → has_temp (held_in bins q) h.temp ≡ true → q ≡ r) → IsHousedBut h.temp bins homes → IsHoused (slice_set bins r (Some h)) (comes_to r h.temp homes)
came_housed bins homes r h low alone housed = record {
  many = set_length bins r (Some h) ∙ housed.many;
  there = λ q t x. ⊎_elim
      (λ (is : (q ≡ r) × (h.temp ≡ t)).
      ap (λ b. if b then Reg r else (if place_eq (homes t) (Reg r) then Slot t else homes t)) (eq-eqb t h.temp (sym is.1)) ∙ ap Reg (sym is.0))
      (λ (was : (q ≢ r) × (has_temp (held_in bins q) t ≡ true)).
      let other : t ≢ h.temp = (λ same. was.0 (alone q (ap (has_temp (held_in bins q)) (sym same) ∙ was.1))) in
      ap (λ b. if b then Reg r else (if place_eq (homes t) (Reg r) then Slot t else homes t)) (ne_eqb t h.temp other)
      ∙ ap (λ p. if place_eq p (Reg r) then Slot t else p) (housed.there q t other was.1)
      ∙ ap (λ b. if b then Slot t else Reg q) (ne_eqb q r was.0))
      (came bins r q h t within x);
  nowhere = λ t none.
      let apart : h.temp ≢ t = not_where_it_came bins r t h within none in
      let other : t ≢ h.temp = (λ same. apart (sym same)) in
      ap (λ b. if b then Reg r else (if place_eq (homes t) (Reg r) then Slot t else homes t)) (ne_eqb t h.temp other)
      ∙ beside t other (nowhere_or bins r t (nowhere_before bins r t (Some h) none));
}
  where
    within : r < length bins
    within = let many = housed.many in omega (arith, many, low)

    beside : (t : ℕ) → t ≢ h.temp → IsNowhere bins t ⊎ (has_temp (held_in bins r) t ≡ true) → (if place_eq (homes t) (Reg r) then Slot t else homes t) ≡ Slot t
    beside t other (inl none) = ap (λ p. if place_eq p (Reg r) then Slot t else p) (housed.nowhere t other none)
    beside t other (inr is) = ap (λ p. if place_eq p (Reg r) then Slot t else p) (housed.there r t other is) ∙ ap (λ b. if b then Slot t else Reg r) (eq-eqb r r refl)

-- ---- transfers

-- one more transfer, which leads there
record Leads (v w : State) (homes : Homes) : Type 0 where
  move : Transfer
  made : w.made ≡ v.made ++ move ∷ []
  housed : IsHoused w.bins (homes_behind_move move homes)

step_housed : (s : Site) (v w : State) (homes : Homes) → Step s v w → IsHoused v.bins homes → Leads v w homes
step_housed s v w homes (Stores r h is unsaved may bins made relied) housed = record {
  move = Store h.temp r;
  made = made;
  housed = subst (λ z. IsHoused z homes) (sym bins)
      (housed_same v.bins (slice_set v.bins r (Some (held h.temp Twice))) homes (set_length v.bins r (Some (held h.temp Twice)) ∙ housed.many) (marked_temp v.bins r h Twice is) housed);
}
step_housed s v w homes (Shifts r q h is fixed lv may leaves bins made) housed = record {
  move = Shift h.temp r q;
  made = made;
  housed = subst (λ z. IsHoused z (comes_to q h.temp homes)) (sym bins)
      (came_housed (slice_set v.bins r None) homes q h may.given
      (λ p x. absurd (let was = cleared_temp v.bins r p h.temp within x in was.0 (housed_once v.bins homes housed h.temp p r was.1 own)))
      (record {
        many = set_length v.bins r None ∙ housed.many;
        there = λ p t ne x. housed.there p t (cleared_temp v.bins r p t within x).1;
        nowhere = λ t ne none. ⊎_elim
            (λ (gone : IsNowhere v.bins t). housed.nowhere t gone)
            (λ (stood : has_temp (held_in v.bins r) t ≡ true). absurd (ne (sym (temp_is h t (ap (λ o. has_temp o t) (sym is) ∙ stood)))))
            (nowhere_or v.bins r t (nowhere_before v.bins r t None none));
      }));
}
  where
    within : r < length v.bins
    within = held_within v.bins r h is

    own : has_temp (held_in v.bins r) h.temp ≡ true
    own = temp_held (held_in v.bins r) h is
step_housed s v w homes (Loads t r none lv low may leaves bins made) housed = record {
  move = Load t r;
  made = made;
  housed = subst (λ z. IsHoused z (comes_to r t homes)) (sym bins)
      (came_housed v.bins homes r (held t Twice) may.given (λ q x. not_both (has_temp (held_in v.bins q) t) x (none q)) (housed_but t v.bins homes housed));
}

last_move : (xs : List Transfer) (x : Transfer) (homes : Homes) → homes_behind_moves (xs ++ x ∷ []) homes ≡ homes_behind_move x (homes_behind_moves xs homes)
last_move [] x homes = refl
last_move (y ∷ xs) x homes = last_move xs x (homes_behind_move y homes)

steps_housed : (s : Site) (u v : State) (homes : Homes) → Steps s u v → u.made ≡ [] → IsHoused u.bins homes → IsHoused v.bins (homes_behind_moves v.made homes)
steps_housed s u v homes Start none housed = subst (λ xs. IsHoused u.bins (homes_behind_moves xs homes)) (sym none) housed
steps_housed s u w homes (More {v} steps step) none housed =
    let lead = step_housed s v w (homes_behind_moves v.made homes) step (steps_housed s u v homes steps none housed) in
    subst (IsHoused w.bins) (sym (ap (λ xs. homes_behind_moves xs homes) lead.made ∙ last_move v.made lead.move homes)) lead.housed

-- ---- an instruction

record Kept (s : Site) (u w : State) : Type 0 where
  many : length w.bins ≡ length u.bins
  kept : (q : ℕ) → takes_away s.insn q ≡ false → held_in w.bins q ≡ held_in u.bins q

empties_keep : (s : Site) (u w : State) → Empties s u w → Kept s u w
empties_keep s u w Begin = record { many = refl; kept = λ q e. refl }
empties_keep s u w (Next {v} before r takes leaves bins) =
    let so_far = empties_keep s u v before in
    record {
      many = ap (λ z. length z) bins ∙ set_length v.bins r None ∙ so_far.many;
      kept = λ q e. ap (λ z. held_in z q) bins
          ∙ set_other v.bins r q None (λ same. not_both (takes_away s.insn q) (ap (takes_away s.insn) same ∙ takes) e) ∙ so_far.kept q e;
    }

ends_housed : (s : Site) (v w : State) (homes : Homes) → Ends s v w → IsHoused v.bins homes → IsHoused w.bins (homes_left s.insn homes)
ends_housed s v w homes ends housed = record {
  many = stays.many ∙ housed.many;
  there = λ q t x. ⊎_elim
      (λ (taken : takes_away s.insn q ≡ true). not_both (has_temp (held_in w.bins q) t) x (ap (λ o. has_temp o t) (ends.clear q taken)))
      (λ (free : takes_away s.insn q ≡ false).
      ap (place_left s.insn t) (housed.there q t (ap (λ o. has_temp o t) (sym (stays.kept q free)) ∙ x)) ∙ ap (λ b. if b then Slot t else Reg q) free)
      (test_or_not (takes_away s.insn q));
  nowhere = λ t none. ⊎_elim
      (λ (gone : IsNowhere v.bins t). ap (place_left s.insn t) (housed.nowhere t gone))
      (λ (stood : (q : ℕ) × (has_temp (held_in v.bins q) t ≡ true)).
      ap (place_left s.insn t) (housed.there stood.0 t stood.1) ∙ ap (λ b. if b then Slot t else Reg stood.0) (taken t none stood.0 stood.1))
      (nowhere_or_somewhere v.bins t);
}
  where
    stays : Kept s v w
    stays = empties_keep s v w ends.empties

    taken : (t : ℕ) → IsNowhere w.bins t → (q : ℕ) → has_temp (held_in v.bins q) t ≡ true → takes_away s.insn q ≡ true
    taken t none q x = ⊎_elim (λ e. e)
        (λ (free : takes_away s.insn q ≡ false). absurd (not_both (has_temp (held_in w.bins q) t) (ap (λ o. has_temp o t) (stays.kept q free) ∙ x) (none q)))
        (test_or_not (takes_away s.insn q))

writes_housed : (s : Site) (v w : State) (ts rs : List ℕ) (homes : Homes) → Writes s v w ts rs → IsHoused v.bins homes → IsHoused w.bins (all_come_to rs ts homes)
writes_housed s v w ts rs homes (Nothing bins relied) housed = subst (λ z. IsHoused z homes) (sym bins) housed
writes_housed s v w ts rs homes (Keeps t r is bins relied) housed = subst (λ z. IsHoused z (comes_to r t homes)) (sym bins)
    (came_housed v.bins homes r (held t Own) low (λ q x. housed_once v.bins homes housed t q r x is) (housed_but t v.bins homes housed))
  where
    low : r < 26
    low =
        let h = held_of (held_in v.bins r) t is in
        let within = held_within v.bins r h.0 h.1 in
        let many = housed.many in
        omega (arith, within, many)
writes_housed s v w ts rs homes (Gets t r none low may leaves bins) housed = subst (λ z. IsHoused z (comes_to r t homes)) (sym bins)
    (came_housed v.bins homes r (held t Own) may.given (λ q x. not_both (has_temp (held_in v.bins q) t) x (none q)) (housed_but t v.bins homes housed))

-- ---- a visit

as_many : (ts rs : List ℕ) (bins : Bins) → AreHeld ts rs bins → length rs ≡ length ts
as_many [] [] bins held = refl
as_many [] (r ∷ rs) bins held = absurd held
as_many (t ∷ ts) [] bins held = absurd held
as_many (t ∷ ts) (r ∷ rs) bins held = ap suc (as_many ts rs bins held.1)

behind_read : (read written : List ℕ) (n : ℕ) → length read ≡ n → drop n (read ++ written) ≡ written
behind_read [] written zero e = refl
behind_read [] written (suc n) e = absurd (omega (arith, e))
behind_read (r ∷ read) written zero e = absurd (omega (arith, e))
behind_read (r ∷ read) written (suc n) e = behind_read read written n (omega (arith, e))

visit_housed : (s : Site) (u w : State) (xs : List Transfer) (rs : List ℕ) (homes : Homes) → Visits s u w xs rs → IsHoused u.bins homes → IsHoused w.bins (homes_behind_insn xs rs (Some s.insn) homes)
visit_housed s u w xs rs homes visits housed =
    let ready = steps_housed s u visits.ready homes visits.steps visits.none_made housed in
    let left = ends_housed s visits.ready visits.left (homes_behind_moves visits.ready.made homes) visits.ends ready in
    let behind = writes_housed s visits.left w (writes_of s.insn) visits.written (homes_left s.insn (homes_behind_moves visits.ready.made homes)) visits.writes left in
    let stated : drop (length (reads_of s.insn)) rs ≡ visits.written =
    ap (drop (length (reads_of s.insn))) visits.registers_are
    ∙ behind_read visits.read visits.written (length (reads_of s.insn)) (as_many (reads_of s.insn) visits.read visits.ready.bins visits.held) in
    subst (IsHoused w.bins)
    (sym (ap (λ qs. all_come_to qs (writes_of s.insn) (homes_left s.insn (homes_behind_moves xs homes))) stated
    ∙ ap (λ ys. all_come_to visits.written (writes_of s.insn) (homes_left s.insn (homes_behind_moves ys homes))) visits.is_made)) behind

-- ---- the rows of a block

get_left : {A : Type 0} (xs : List A) (x d : A) (k : ℕ) → k < length xs → slice_index_or (xs ++ x ∷ []) k d ≡ slice_index_or xs k d
get_left [] x d k w = absurd (omega (arith, w))
get_left (y ∷ xs) x d zero w = refl
get_left (y ∷ xs) x d (suc k) w = get_left xs x d k (omega (arith, w))

get_last : {A : Type 0} (xs : List A) (x d : A) (k : ℕ) → length xs ≡ k → slice_index_or (xs ++ x ∷ []) k d ≡ x
get_last [] x d zero e = refl
get_last [] x d (suc k) e = absurd (omega (arith, e))
get_last (y ∷ xs) x d zero e = absurd (omega (arith, e))
get_last (y ∷ xs) x d (suc k) e = get_last xs x d k (omega (arith, e))

longer : {A : Type 0} (xs : List A) (x : A) (n : ℕ) → length xs ≡ n → length (xs ++ x ∷ []) ≡ suc n
longer [] x n e = ap suc e
longer (y ∷ xs) x zero e = absurd (omega (arith, e))
longer (y ∷ xs) x (suc n) e = ap suc (longer xs x n (omega (arith, e)))

module _ (a : Plan) (l : Lifetimes) (b number : ℕ) (insns : List TempInsn) (there : (at : ℕ) → insn_at a.function.blocks b at ≡ slice_get insns at) (homes : Homes) where
  -- what is so of the lists of a block, as far as they go
  abbrev AreListed : (at : ℕ) → List (List Transfer) → List (List ℕ) → Type 0
  AreListed at ts qs = (k : ℕ) → k < at → (transfers_at a b k ≡ slice_index_or ts k []) × (registers_at a b k ≡ slice_index_or qs k [])

  rows_length : (u : State) {at : ℕ} {ts : List (List Transfer)} {qs : List (List ℕ)} {w : State} → Rows a.temps l number insns u at ts qs w → (length ts ≡ at) × (length qs ≡ at)
  rows_length u NoRow = (refl, refl)
  rows_length u (OneMore {at} {transfers} {registers} {v} rows x is xs rs w visits) =
      let before = rows_length u rows in
      (longer transfers xs at before.0, longer registers rs at before.1)

  row_housed : (at : ℕ) (ts : List (List Transfer)) (qs : List (List ℕ)) (v w : State) (xs : List Transfer) (rs : List ℕ) (x : TempInsn) → slice_get insns at ≡ Some x →
      Visits (site_of a.temps l (number + at) x (drop (suc at) insns)) (unmade v) w xs rs → length ts ≡ at → length qs ≡ at →
      AreListed (suc at) (ts ++ xs ∷ []) (qs ++ rs ∷ []) → IsHoused v.bins (homes_from a b at homes) → IsHoused w.bins (homes_from a b (suc at) homes)
  row_housed at ts qs v w xs rs x is visits et eq are housed =
      let both = are at (omega arith) in
      subst (IsHoused w.bins)
      (sym (ap (λ ys. homes_behind_insn ys (registers_at a b at) (insn_at a.function.blocks b at) (homes_from a b at homes)) (both.0 ∙ get_last ts xs [] at et)
      ∙ ap (λ ps. homes_behind_insn xs ps (insn_at a.function.blocks b at) (homes_from a b at homes)) (both.1 ∙ get_last qs rs [] at eq)
      ∙ ap (λ o. homes_behind_insn xs rs o (homes_from a b at homes)) (there at ∙ is)))
      (visit_housed (site_of a.temps l (number + at) x (drop (suc at) insns)) (unmade v) w xs rs (homes_from a b at homes) visits housed)

  rows_housed : (u : State) {at : ℕ} {ts : List (List Transfer)} {qs : List (List ℕ)} {w : State} → Rows a.temps l number insns u at ts qs w → AreListed at ts qs → IsHoused u.bins homes → IsHoused w.bins (homes_from a b at homes)
  rows_housed u NoRow are housed = housed
  rows_housed u (OneMore {at} {transfers} {registers} {v} rows x is xs rs w visits) are housed =
      let size = rows_length u rows in
      row_housed at transfers registers v w xs rs x is visits size.0 size.1 are
      (rows_housed u rows (λ k low.
      let both = are k (omega (arith, low)) in
      let one = size.0 in
      let two = size.1 in
      (both.0 ∙ get_left transfers xs [] k (omega (arith, low, one)), both.1 ∙ get_left registers rs [] k (omega (arith, low, two)))) housed)

-- ---- the blocks

module _ (a : Plan) (wants : Wants) (l : Lifetimes) (tops : List (List Bool)) (tops_live : (b t : ℕ) → wants.live t b 0 ≡ true → has (slice_index_or tops b []) t ≡ true) where
  -- the lists of an allocation begin with these
  pub record ListsAgree (maps : Maps) (lists : Lists) : Type 0 where
    pub tops_agree : Agrees a.top maps.top []
    pub transfers_agree : Agrees a.at lists.transfers []
    pub registers_agree : Agrees a.regs lists.registers []

  pub record BlocksHoused (done : ℕ) (bins : Bins) : Type 0 where
    pub housed : IsHoused bins (homes_handed a wants done)
    pub hands : (b t : ℕ) → b < done → wants.live t b 0 ≡ true → place_at_top a b t ≡ homes_handed a wants b t

  -- at a top what is live has the place that it had
  top_hands : (b : ℕ) (bins : Bins) (homes : Homes) → slice_index_or a.top b [] ≡ places_from (is_listed false (slice_index_or tops b [])) 0 bins → IsHoused bins homes →
      (t : ℕ) → wants.live t b 0 ≡ true → place_at_top a b t ≡ homes t
  top_hands b bins homes top housed t lv = ⊎_elim
      (λ (none : IsNowhere bins t). named ∙ ap (named_place t) (not_named (is_listed false (slice_index_or tops b [])) t bins 0 none) ∙ sym (housed.nowhere t none))
      (λ (some : (q : ℕ) × (has_temp (held_in bins q) t ≡ true)).
      named ∙ ap (named_place t) (named_there (is_listed false (slice_index_or tops b [])) t bins 0 some.0 (housed_once bins homes housed) some.1 (tops_live b t lv))
      ∙ ap Reg (let e : 0 + some.0 ≡ some.0 = omega arith in e) ∙ sym (housed.there some.0 t some.1))
      (nowhere_or_somewhere bins t)
    where
      named : place_at_top a b t ≡ named_place t (find (λ (s : TempPlace). s.temp == t) (places_from (is_listed false (slice_index_or tops b [])) 0 bins))
      named = ap (λ ss. named_place t (find (λ (s : TempPlace). s.temp == t) ss)) top

  one_housed : (done : ℕ) (maps new : Maps) (lists behind : Lists) (bins others : Bins) (insns : List TempInsn) → slice_get a.function.blocks done ≡ Some insns →
      AddsBlock a.temps l (count_of (take done a.function.blocks)) insns (slice_index_or tops done []) bins maps new lists behind others →
      length maps.top ≡ done → length lists.transfers ≡ count_of (take done a.function.blocks) → length lists.registers ≡ count_of (take done a.function.blocks) →
      ListsAgree new behind → BlocksHoused done bins → BlocksHoused (suc done) others
  one_housed done maps new lists behind bins others insns is adds tops_size transfers_size registers_size agrees before =
      let top = agrees_last a.top maps.top new.top (places_from (is_listed false (slice_index_or tops done [])) 0 adds.begun.bins) [] done tops_size adds.top agrees.tops_agree in
      let begun = housed_same bins adds.begun.bins (homes_handed a wants done) adds.size (same_temps bins adds.begun.bins before.housed.many adds.size adds.lends) before.housed in
      let hands_now = top_hands done adds.begun.bins (homes_handed a wants done) top begun in
      let entered = housed_at adds.begun.bins (homes_handed a wants done) (homes_at_top a wants done) (λ t. top_same a wants done t (hands_now t)) begun in
      let sizes = rows_length a l done (count_of (take done a.function.blocks)) insns there_is (homes_at_top a wants done) adds.begun adds.rows.rows in
      let left = rows_housed a l done (count_of (take done a.function.blocks)) insns there_is (homes_at_top a wants done) adds.begun adds.rows.rows
      (λ k low. (
        agrees_behind a.at lists.transfers adds.rows.transfers behind.transfers [] (count_of (take done a.function.blocks)) k transfers_size (let s = sizes.0 in omega (arith, low, s)) adds.rows.transfers_are agrees.transfers_agree,
        agrees_behind a.regs lists.registers adds.rows.registers behind.registers [] (count_of (take done a.function.blocks)) k registers_size (let s = sizes.1 in omega (arith, low, s)) adds.rows.registers_are agrees.registers_agree,
      )) entered in
      record {
        housed = subst (λ z. IsHoused z (homes_handed a wants (suc done))) (sym adds.is_left)
            (housed_at adds.left.bins (homes_before a wants done (length insns)) (homes_handed a wants (suc done))
            (λ t. ap (λ k. homes_before a wants done k t) (ap (λ (xs : List TempInsn). length xs) (get_or_from_slice_get a.function.blocks done insns [] is))) left);
        hands = λ b t low lv. ⊎_elim
            (λ (same : b ≡ done). subst (λ j. wants.live t j 0 ≡ true → place_at_top a j t ≡ homes_handed a wants j t) (sym same) (hands_now t) lv)
            (λ (ne : b ≢ done). before.hands b t (omega (arith, low, ne)) lv)
            (same_or_not b done);
      }
    where
      there_is : (at : ℕ) → insn_at a.function.blocks done at ≡ slice_get insns at
      there_is at = ap (λ o. insn_in o at) is

  pub scans_housed : {done : ℕ} {maps : Maps} {lists : Lists} {bins : Bins} → ScansBlocks a.temps l a.function.blocks tops done maps lists bins → ListsAgree maps lists → BlocksHoused done bins
  scans_housed (NoBlock {maps} {lists} {bins} size none no_top no_bottom no_transfers no_registers) agrees = record {
    housed = record {
      many = size;
      there = λ r t x. not_both (has_temp (held_in bins r) t) x (ap (λ o. has_temp o t) (none r));
      nowhere = λ t gone. refl;
    };
    hands = λ b t low lv. absurd (omega (arith, low));
  }
  scans_housed (OneBlock {done} {maps} {new} {lists} {behind} {bins} {others} scans insns is adds) agrees =
      let made = scans_made a.temps l a.function.blocks tops scans in
      one_housed done maps new lists behind bins others insns is adds made.maps_are.tops_size made.transfers_size made.registers_size agrees
      (scans_housed scans (record {
        tops_agree = agrees_less a.top maps.top _ new.top [] adds.top agrees.tops_agree;
        transfers_agree = agrees_less a.at lists.transfers _ behind.transfers [] adds.rows.transfers_are agrees.transfers_agree;
        registers_agree = agrees_less a.regs lists.registers _ behind.registers [] adds.rows.registers_are agrees.registers_agree;
      }))

  -- what is live at a top has there the place that it had
  pub scan_hands : (maps : Maps) (lists : Lists) (bins : Bins) → ScansBlocks a.temps l a.function.blocks tops (length a.function.blocks) maps lists bins → ListsAgree maps lists → HandsHomesOn a wants
  scan_hands maps lists bins scans agrees = record { each = λ b t within lv. (scans_housed scans agrees).hands b t within lv }
