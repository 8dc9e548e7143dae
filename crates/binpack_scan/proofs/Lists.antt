-- What is put into the lists of a scan.
use Rattle.std.proofs.Common.{◌≡◌, ◌≢◌, ◌⊎◌, ℕ, zero, suc, ◌+◌, ◌<◌, ◌≤◌, nat_lt, List, [], ◌∷◌, ◌++◌, Bool, true, false, Some, None, refl, sym, ap, ◌∙◌, inl, inr, subst, ⊎_elim, length, take, drop, arith}
use Rattle.std.specs.Prelude.{All, Contains, slice_get, slice_set, slice_index_or}
use Rattle.std.specs.List.{list_all, range_with_len}
use Rattle.std.proofs.lemmas.Bool.{ltb-true, ltb-false}
use Rattle.std.proofs.lemmas.List.Elements.{All-nil, All-cons, All-append}
use Rattle.pass_core.specs.Functions.{count_of}
use Rattle.temp_ir.specs.declared.insn.TempInsn.{TempInsn}
use Rattle.temp_ir.specs.Insns.{reads_of, writes_of}
use Rattle.temp_ir.specs.Fixed.{has_number}
use Rattle.alloc_model.specs.declared.allocation.TempPlace.{TempPlace}
use Rattle.alloc_model.specs.declared.allocation.Transfer.{Transfer}
use Rattle.alloc_model.specs.declared.allocation.Transfer.TheVariants.{Store, Load, Shift}
use Rattle.alloc_model.specs.Faithful.{given_registers, IsGivenRegister, IsTransfer}
use Rattle.alloc_rules.specs.declared.scan.Lifetimes.{Lifetimes}
use Rattle.binpack_blocks.specs.declared.held.Held.{Held}
use Rattle.binpack_blocks.specs.declared.held.SlotCopy.TheVariants.{Own, Twice}
use Rattle.binpack_blocks.specs.declared.block.Lists.{Lists}
use Rattle.binpack_blocks.specs.declared.blocks.Maps.{Maps}
use Rattle.binpack_blocks.specs.model.Bins.{Bins, held_in, has_temp, held, lent}
use Rattle.binpack_blocks.specs.model.Steps.{Site, State, Step, Steps, Empties, Writes}
use Rattle.binpack_blocks.specs.model.Steps.Step.{Stores, Shifts, Loads}
use Rattle.binpack_blocks.specs.model.Steps.Steps.{Start, More}
use Rattle.binpack_blocks.specs.model.Steps.Empties.{Begin, Next}
use Rattle.binpack_blocks.specs.model.Steps.Writes.{Nothing, Keeps, Gets}
use Rattle.binpack_blocks.specs.model.Visits.{Visits, AreHeld}
use Rattle.binpack_blocks.specs.model.Rows.{Rows, site_of, unmade}
use Rattle.binpack_blocks.specs.model.Rows.Rows.{NoRow, OneMore}
use Rattle.binpack_blocks.specs.model.Tops.{is_listed, entry, places_from}
use Rattle.binpack_blocks.specs.model.Whole.{AddsBlock, ScansBlocks}
use Rattle.binpack_blocks.specs.model.Whole.ScansBlocks.{NoBlock, OneBlock}
use Rattle.binpack_scan.specs.model.Made.{AreBins, IsMapOf, AreMapsOf, AreMade}
use Rattle.binpack_blocks.proofs.Holders.{same_or_not, not_both, set_length, held_within, held_of, temp_held, set_other, once_marked, marked_temp, once_came, once_cleared, inside_came, inside_cleared, cleared_temp, past_none}
use Rattle.binpack_scan.proofs.Leads.{has_contains, and_first, and_second}
use Rattle.binpack_scan.proofs.Functions.{same_temps, count_next, nothing_once, nothing_inside}

-- ---- the given registers

all_range : (p : ℕ → Bool) (n start r : ℕ) → list_all p (range_with_len start n) ≡ true → start ≤ r → r < start + n → p r ≡ true
all_range p zero start r all least most = absurd (omega (arith, least, most))
all_range p (suc n) start r all least most = ⊎_elim
    (λ (same : r ≡ start). ap p same ∙ and_first (p start) (list_all p (range_with_len (start + 1) n)) all)
    (λ (ne : r ≢ start). all_range p n (start + 1) r (and_second (p start) (list_all p (range_with_len (start + 1) n)) all) (omega (arith, least, ne)) (omega (arith, most)))
    (same_or_not r start)

all_given : list_all (has_number given_registers) (range_with_len 0 26) ≡ true
all_given = refl

given_below : (r : ℕ) → r < 26 → Contains given_registers r
given_below r low = has_contains given_registers r (all_range (has_number given_registers) 26 0 r all_given (omega arith) (omega (arith, low)))

pub is_given : (r : ℕ) → r < 26 → IsGivenRegister r
is_given r w = given_below r w

-- ---- registers and their temporaries

within_bins : (temps : ℕ) (bins : Bins) (r : ℕ) → AreBins temps bins → r < 26 → r < length bins
within_bins temps bins r are low = let many = are.many in omega (arith, many, low)

there_below : (temps : ℕ) (bins : Bins) (r : ℕ) (h : Held) → AreBins temps bins → held_in bins r ≡ Some h → r < 26
there_below temps bins r h are e = let within = held_within bins r h e in let many = are.many in omega (arith, many, within)

there_inside : (temps : ℕ) (bins : Bins) (r : ℕ) (h : Held) → AreBins temps bins → held_in bins r ≡ Some h → h.temp < temps
there_inside temps bins r h are e = are.inside r h.temp (temp_held (held_in bins r) h e)

are_marked : (temps : ℕ) (bins : Bins) (r : ℕ) (h : Held) → AreBins temps bins → held_in bins r ≡ Some h → AreBins temps (slice_set bins r (Some (held h.temp Twice)))
are_marked temps bins r h are e = record {
  many = set_length bins r _ ∙ are.many;
  once = once_marked bins r h Twice e are.once;
  inside = λ q t x. are.inside q t (sym (marked_temp bins r h Twice e q t) ∙ x);
}

are_cleared : (temps : ℕ) (bins : Bins) (r : ℕ) → r < length bins → AreBins temps bins → AreBins temps (slice_set bins r None)
are_cleared temps bins r within are = record {
  many = set_length bins r None ∙ are.many;
  once = once_cleared bins r within are.once;
  inside = inside_cleared temps bins r within are.inside;
}

are_come : (temps : ℕ) (bins : Bins) (r : ℕ) (h : Held) → r < length bins → ((q : ℕ) → has_temp (held_in bins q) h.temp ≡ true → q ≡ r) → h.temp < temps → AreBins temps bins → AreBins temps (slice_set bins r (Some h))
are_come temps bins r h within alone low are = record {
  many = set_length bins r _ ∙ are.many;
  once = once_came bins r h within alone are.once;
  inside = inside_came temps bins r h within low are.inside;
}

clear_within : (temps : ℕ) (bins : Bins) (r : ℕ) → AreBins temps bins → AreBins temps (slice_set bins r None)
clear_within temps bins r are = by (nat_lt r (length bins)) refl
  where
    by : (c : Bool) → nat_lt r (length bins) ≡ c → AreBins temps (slice_set bins r None)
    by true e = are_cleared temps bins r (ltb-true r (length bins) e) are
    by false e = record {
      many = set_length bins r None ∙ are.many;
      once = λ t p q x y. are.once t p q (kept p t x) (kept q t y);
      inside = λ q t x. are.inside q t (kept q t x);
    }
      where
        past : length bins ≤ r
        past = ltb-false r (length bins) e

        kept : (p t : ℕ) → has_temp (held_in (slice_set bins r None) p) t ≡ true → has_temp (held_in bins p) t ≡ true
        kept p t x =
            let h = held_of (held_in (slice_set bins r None) p) t x in
            let low = held_within (slice_set bins r None) p h.0 h.1 in
            let size = set_length bins r None in
            ap (λ o. has_temp o t) (sym (other p (omega (arith, low, size, past)))) ∙ x
          where
            other : (p : ℕ) → p < r → held_in (slice_set bins r None) p ≡ held_in bins p
            other p below = set_other bins r p None (λ same. omega (arith, same, below))

-- ---- the transfers of a visit

module _ (s : Site) where
  pub record MadeSo (v : State) : Type 0 where
    pub are : AreBins s.temps v.bins
    pub made : All (IsTransfer s.temps IsGivenRegister) v.made

  one_named : (r : ℕ) → r < 26 → All IsGivenRegister (r ∷ [])
  one_named r low = All-cons IsGivenRegister r [] (is_given r low) (All-nil IsGivenRegister)

  two_named : (r q : ℕ) → r < 26 → q < 26 → All IsGivenRegister (r ∷ q ∷ [])
  two_named r q low also = All-cons IsGivenRegister r (q ∷ []) (is_given r low) (one_named q also)

  behind : (xs ys : List Transfer) (x : Transfer) → ys ≡ xs ++ x ∷ [] → All (IsTransfer s.temps IsGivenRegister) xs → IsTransfer s.temps IsGivenRegister x → All (IsTransfer s.temps IsGivenRegister) ys
  behind xs ys x e all one = subst (All (IsTransfer s.temps IsGivenRegister)) (sym e) (All-append (IsTransfer s.temps IsGivenRegister) xs (x ∷ []) all (All-cons (IsTransfer s.temps IsGivenRegister) x [] one (All-nil (IsTransfer s.temps IsGivenRegister))))

  step_made : (v w : State) → Step s v w → MadeSo v → MadeSo w
  step_made v w (Stores r h is unsaved may bins made relied) so = record {
    are = subst (AreBins s.temps) (sym bins) (are_marked s.temps v.bins r h so.are is);
    made = behind v.made w.made (Store h.temp r) made so.made (there_inside s.temps v.bins r h so.are is, one_named r (there_below s.temps v.bins r h so.are is));
  }
  step_made v w (Shifts r q h is fixed lv may leaves bins made) so =
      let r_low = there_below s.temps v.bins r h so.are is in
      let r_within = within_bins s.temps v.bins r so.are r_low in
      let size = set_length v.bins r None in
      let many = so.are.many in
      let low = may.given in
      let q_within : q < length (slice_set v.bins r None) = omega (arith, size, many, low) in
      record {
        are = subst (AreBins s.temps) (sym bins)
            (are_come s.temps (slice_set v.bins r None) q h q_within
            (λ p e. absurd (let was = cleared_temp v.bins r p h.temp r_within e in was.0 (so.are.once h.temp p r was.1 (temp_held (held_in v.bins r) h is))))
            (there_inside s.temps v.bins r h so.are is) (are_cleared s.temps v.bins r r_within so.are));
        made = behind v.made w.made (Shift h.temp r q) made so.made (there_inside s.temps v.bins r h so.are is, two_named r q r_low low);
      }
  step_made v w (Loads t r none lv low may leaves bins made) so = record {
    are = subst (AreBins s.temps) (sym bins) (are_come s.temps v.bins r (held t Twice) (within_bins s.temps v.bins r so.are may.given) (λ q e. not_both (has_temp (held_in v.bins q) t) e (none q)) low so.are);
    made = behind v.made w.made (Load t r) made so.made (low, one_named r may.given);
  }

  pub steps_made : (u v : State) → Steps s u v → MadeSo u → MadeSo v
  steps_made u v Start so = so
  steps_made u w (More {v} steps step) so = step_made v w step (steps_made u v steps so)

  empties_bins : (u w : State) → Empties s u w → AreBins s.temps u.bins → AreBins s.temps w.bins
  empties_bins u w Begin are = are
  empties_bins u w (Next {v} before r takes leaves bins) are = subst (AreBins s.temps) (sym bins) (clear_within s.temps v.bins r (empties_bins u v before are))

  held_given : (ts rs : List ℕ) (bins : Bins) → AreBins s.temps bins → AreHeld ts rs bins → All IsGivenRegister rs
  held_given [] [] bins are held = All-nil IsGivenRegister
  held_given [] (r ∷ rs) bins are held = absurd held
  held_given (t ∷ ts) [] bins are held = absurd held
  held_given (t ∷ ts) (r ∷ rs) bins are held =
      let h = held_of (held_in bins r) t held.0 in
      All-cons IsGivenRegister r rs (is_given r (there_below s.temps bins r h.0 are h.1)) (held_given ts rs bins are held.1)

  writes_bins : (v w : State) (ts rs : List ℕ) → Writes s v w ts rs → AreBins s.temps v.bins → AreBins s.temps w.bins × All IsGivenRegister rs
  writes_bins v w ts rs (Nothing bins relied) are = (subst (AreBins s.temps) (sym bins) are, All-nil IsGivenRegister)
  writes_bins v w ts rs (Keeps t r is bins relied) are =
      let h = held_of (held_in v.bins r) t is in
      let low = there_below s.temps v.bins r h.0 are h.1 in (
        subst (AreBins s.temps) (sym bins) (are_come s.temps v.bins r (held t Own) (within_bins s.temps v.bins r are low) (λ q e. are.once t q r e is) (are.inside r t is) are),
        one_named r low,
      )
  writes_bins v w ts rs (Gets t r none low may leaves bins) are = (
    subst (AreBins s.temps) (sym bins) (are_come s.temps v.bins r (held t Own) (within_bins s.temps v.bins r are may.given) (λ q e. not_both (has_temp (held_in v.bins q) t) e (none q)) low are),
    one_named r may.given,
  )

  pub record VisitMade (w : State) (xs : List Transfer) (rs : List ℕ) : Type 0 where
    pub are : AreBins s.temps w.bins
    pub transfers : All (IsTransfer s.temps IsGivenRegister) xs
    pub registers : All IsGivenRegister rs

  pub visit_made : (u w : State) (xs : List Transfer) (rs : List ℕ) → Visits s u w xs rs → AreBins s.temps u.bins → VisitMade w xs rs
  visit_made u w xs rs visits are =
      let so = steps_made u visits.ready visits.steps (record { are = are; made = subst (All (IsTransfer s.temps IsGivenRegister)) (sym visits.none_made) (All-nil (IsTransfer s.temps IsGivenRegister)) }) in
      let read = held_given (reads_of s.insn) visits.read visits.ready.bins so.are visits.held in
      let left = empties_bins visits.ready visits.left visits.ends.empties so.are in
      let written = writes_bins visits.left w (writes_of s.insn) visits.written visits.writes left in
      record {
        are = written.0;
        transfers = subst (All (IsTransfer s.temps IsGivenRegister)) (sym visits.is_made) so.made;
        registers = subst (All IsGivenRegister) (sym visits.registers_are) (All-append IsGivenRegister visits.read visits.written read written.1);
      }

-- ---- the rows of a block

pub record RowsMade (temps at : ℕ) (ts : List (List Transfer)) (qs : List (List ℕ)) (w : State) : Type 0 where
  pub are : AreBins temps w.bins
  pub transfers : All (All (IsTransfer temps IsGivenRegister)) ts
  pub registers : All (All IsGivenRegister) qs
  pub transfers_size : length ts ≡ at
  pub registers_size : length qs ≡ at

get_left : {A : Type 0} (xs : List A) (x d : A) (k : ℕ) → k < length xs → slice_index_or (xs ++ x ∷ []) k d ≡ slice_index_or xs k d
get_left [] x d k w = absurd (omega (arith, w))
get_left (y ∷ xs) x d zero w = refl
get_left (y ∷ xs) x d (suc k) w = get_left xs x d k (omega (arith, w))

get_last : {A : Type 0} (xs : List A) (x d : A) (k : ℕ) → length xs ≡ k → slice_index_or (xs ++ x ∷ []) k d ≡ x
get_last [] x d zero e = refl
get_last [] x d (suc k) e = absurd (omega (arith, e))
get_last (y ∷ xs) x d zero e = absurd (omega (arith, e))
get_last (y ∷ xs) x d (suc k) e = get_last xs x d k (omega (arith, e))

longer : {A : Type 0} (xs : List A) (x : A) (n : ℕ) → length xs ≡ n → length (xs ++ x ∷ []) ≡ suc n
longer [] x n e = ap suc e
longer (y ∷ xs) x zero e = absurd (omega (arith, e))
longer (y ∷ xs) x (suc n) e = ap suc (longer xs x n (omega (arith, e)))

length_both : {A : Type 0} (xs ys : List A) → length (xs ++ ys) ≡ length xs + length ys
length_both [] ys = omega arith
length_both (x ∷ xs) ys = let rest = length_both xs ys in omega (arith, rest)

all_behind : {A : Type 0} (P : A → Type 0) (xs : List A) (x : A) → All P xs → P x → All P (xs ++ x ∷ [])
all_behind P xs x all one = All-append P xs (x ∷ []) all (All-cons P x [] one (All-nil P))

module _ (temps : ℕ) (l : Lifetimes) (number : ℕ) (insns : List TempInsn) where
  pub rows_made : (u : State) {at : ℕ} {ts : List (List Transfer)} {qs : List (List ℕ)} {w : State} → Rows temps l number insns u at ts qs w → AreBins temps u.bins → RowsMade temps at ts qs w
  rows_made u NoRow are = record {
    are = are;
    transfers = All-nil (All (IsTransfer temps IsGivenRegister));
    registers = All-nil (All IsGivenRegister);
    transfers_size = refl;
    registers_size = refl;
  }
  rows_made u (OneMore {at} {transfers} {registers} {v} rows x is xs rs w visits) are =
      let before = rows_made u rows are in
      let now = visit_made (site_of temps l (number + at) x (drop (suc at) insns)) (unmade v) w xs rs visits before.are in
      record {
        are = now.are;
        transfers = all_behind (All (IsTransfer temps IsGivenRegister)) transfers xs before.transfers now.transfers;
        registers = all_behind (All IsGivenRegister) registers rs before.registers now.registers;
        transfers_size = longer transfers xs at before.transfers_size;
        registers_size = longer registers rs at before.registers_size;
      }

-- ---- the blocks

begun_bins : (temps : ℕ) (before begun : Bins) → length begun ≡ 26 → ((r : ℕ) → r < 26 → held_in begun r ≡ lent (held_in before r)) → AreBins temps before → AreBins temps begun
begun_bins temps before begun size lends are = record {
  many = size;
  once = λ t p q x y. are.once t p q (back p t x) (back q t y);
  inside = λ r t x. are.inside r t (back r t x);
}
  where
    back : (r t : ℕ) → has_temp (held_in begun r) t ≡ true → has_temp (held_in before r) t ≡ true
    back r t x = sym (same_temps before begun are.many size lends r t) ∙ x

places_none : (live : ℕ → Bool) (k : ℕ) (bins : Bins) → ((r : ℕ) → held_in bins r ≡ None) → places_from live k bins ≡ []
places_none live k [] none = refl
places_none live k (o ∷ bins) none = ap (λ p. entry live k p ++ places_from live (suc k) bins) (none 0) ∙ places_none live (suc k) bins (λ r. none (suc r))

module _ (temps : ℕ) (l : Lifetimes) (blocks : List (List TempInsn)) (tops : List (List Bool)) where
  pub record BlocksMade (done : ℕ) (maps : Maps) (lists : Lists) (bins : Bins) : Type 0 where
    pub are : AreBins temps bins
    pub maps_are : AreMapsOf temps tops done maps
    pub made : AreMade temps lists
    pub transfers_size : length lists.transfers ≡ count_of (take done blocks)
    pub registers_size : length lists.registers ≡ count_of (take done blocks)
    pub empty : done ≡ 0 → (r : ℕ) → held_in bins r ≡ None
    pub entry_is : slice_index_or maps.top 0 [] ≡ []

  -- one more map
  one_map : (all : Bool) (done : ℕ) (old new : List (List TempPlace)) (bins : Bins) → length old ≡ done → new ≡ old ++ places_from (is_listed all (slice_index_or tops done [])) 0 bins ∷ [] → AreBins temps bins →
      ((b : ℕ) → b < done → IsMapOf temps all (slice_index_or tops b []) (slice_index_or old b [])) → (b : ℕ) → b < suc done → IsMapOf temps all (slice_index_or tops b []) (slice_index_or new b [])
  one_map all done old new bins size is are before b low = ⊎_elim
      (λ (same : b ≡ done). record {
        bins = bins;
        are = are;
        is = ap (λ z. slice_index_or z b []) is
            ∙ ap (λ j. slice_index_or (old ++ places_from (is_listed all (slice_index_or tops done [])) 0 bins ∷ []) j []) same
            ∙ get_last old (places_from (is_listed all (slice_index_or tops done [])) 0 bins) [] done size
            ∙ ap (λ j. places_from (is_listed all (slice_index_or tops j [])) 0 bins) (sym same);
      })
      (λ (ne : b ≢ done).
      let within : b < length old = omega (arith, low, ne, size) in
      subst (IsMapOf temps all (slice_index_or tops b [])) (sym (ap (λ z. slice_index_or z b []) is ∙ get_left old (places_from (is_listed all (slice_index_or tops done [])) 0 bins) [] b within))
      (before b (omega (arith, low, ne))))
      (same_or_not b done)

  one_made : (done : ℕ) (maps new : Maps) (lists behind : Lists) (bins others : Bins) (insns : List TempInsn) → slice_get blocks done ≡ Some insns →
      AddsBlock temps l (count_of (take done blocks)) insns (slice_index_or tops done []) bins maps new lists behind others → BlocksMade done maps lists bins → BlocksMade (suc done) new behind others
  one_made done maps new lists behind bins others insns is adds before =
      let begun = begun_bins temps bins adds.begun.bins adds.size adds.lends before.are in
      let rows = rows_made temps l (count_of (take done blocks)) insns adds.begun adds.rows.rows begun in
      record {
        are = subst (AreBins temps) (sym adds.is_left) rows.are;
        maps_are = record {
          tops_size = ap (λ z. length z) adds.top ∙ longer maps.top _ done before.maps_are.tops_size;
          bottoms_size = ap (λ z. length z) adds.bottom ∙ longer maps.bottom _ done before.maps_are.bottoms_size;
          top = one_map false done maps.top new.top adds.begun.bins before.maps_are.tops_size adds.top begun before.maps_are.top;
          bottom = one_map true done maps.bottom new.bottom adds.left.bins before.maps_are.bottoms_size adds.bottom rows.are before.maps_are.bottom;
        };
        made = record {
          transfers = subst (All (All (IsTransfer temps IsGivenRegister))) (sym adds.rows.transfers_are) (All-append (All (IsTransfer temps IsGivenRegister)) lists.transfers adds.rows.transfers before.made.transfers rows.transfers);
          registers = subst (All (All IsGivenRegister)) (sym adds.rows.registers_are) (All-append (All IsGivenRegister) lists.registers adds.rows.registers before.made.registers rows.registers);
        };
        transfers_size =
            ap (λ z. length z) adds.rows.transfers_are
            ∙ (let both = length_both lists.transfers adds.rows.transfers in let s = rows.transfers_size in let b = before.transfers_size in let n = count_next blocks done insns is in omega (arith, both, s, b, n));
        registers_size =
            ap (λ z. length z) adds.rows.registers_are
            ∙ (let both = length_both lists.registers adds.rows.registers in let s = rows.registers_size in let b = before.registers_size in let n = count_next blocks done insns is in omega (arith, both, s, b, n));
        empty = λ e. absurd (omega (arith, e));
        entry_is = first (same_or_not done 0);
      }
    where
      last_top : List TempPlace
      last_top = places_from (is_listed false (slice_index_or tops done [])) 0 adds.begun.bins

      nothing : done ≡ 0 → (r : ℕ) → held_in adds.begun.bins r ≡ None
      nothing e r = by (nat_lt r 26) refl
        where
          by : (c : Bool) → nat_lt r 26 ≡ c → held_in adds.begun.bins r ≡ None
          by true f = adds.lends r (ltb-true r 26 f) ∙ ap lent (before.empty e r)
          by false f = past_none adds.begun.bins r (let past = ltb-false r 26 f in let size = adds.size in omega (arith, past, size))

      first : (done ≡ 0) ⊎ (done ≢ 0) → slice_index_or new.top 0 [] ≡ []
      first (inl e) =
          ap (λ z. slice_index_or z 0 []) adds.top ∙ get_last maps.top last_top [] 0 (before.maps_are.tops_size ∙ e)
          ∙ places_none (is_listed false (slice_index_or tops done [])) 0 adds.begun.bins (nothing e)
      first (inr ne) =
          ap (λ z. slice_index_or z 0 []) adds.top ∙ get_left maps.top last_top [] 0 (let size = before.maps_are.tops_size in omega (arith, size, ne)) ∙ before.entry_is

  pub scans_made : {done : ℕ} {maps : Maps} {lists : Lists} {bins : Bins} → ScansBlocks temps l blocks tops done maps lists bins → BlocksMade done maps lists bins
  scans_made (NoBlock {maps} {lists} {bins} size none no_top no_bottom no_transfers no_registers) = record {
    are = record { many = size; once = nothing_once bins none; inside = nothing_inside temps bins none };
    maps_are = record {
      tops_size = ap (λ z. length z) no_top;
      bottoms_size = ap (λ z. length z) no_bottom;
      top = λ b low. absurd (omega (arith, low));
      bottom = λ b low. absurd (omega (arith, low));
    };
    made = record {
      transfers = subst (All (All (IsTransfer temps IsGivenRegister))) (sym no_transfers) (All-nil (All (IsTransfer temps IsGivenRegister)));
      registers = subst (All (All IsGivenRegister)) (sym no_registers) (All-nil (All IsGivenRegister));
    };
    transfers_size = ap (λ z. length z) no_transfers;
    registers_size = ap (λ z. length z) no_registers;
    empty = λ e. none;
    entry_is = ap (λ z. slice_index_or z 0 []) no_top;
  }
  scans_made (OneBlock {done} {maps} {new} {lists} {behind} {bins} {others} scans insns is adds) =
      one_made done maps new lists behind bins others insns is adds (scans_made scans)
