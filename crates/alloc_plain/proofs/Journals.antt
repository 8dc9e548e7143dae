-- The journal of the plainest allocation is what is put down along the way.
use Rattle.std.proofs.Common.{◌≡◌, ◌⊎◌, ℕ, zero, suc, ◌+◌, ◌-◌, ◌*◌, ◌<◌, ◌≤◌, ◌==◌, ◌&&◌, List, [], ◌∷◌, ◌++◌, Bool, true, false, Option, Some, None, if◌then◌else◌, refl, sym, ap, ◌∙◌, subst, ⊎_elim, inl, inr, length, map, take, drop, arith}
use Rattle.std.specs.Prelude.{All, Contains, nat_le, ◌||◌, zip, find, flat_map, slice_get, slice_index_or}
use Rattle.std.specs.List.{range_with_len, list_any}
use Rattle.std.proofs.lemmas.Bool.{cases_lt, le-leb, lt-leb}
use Rattle.std.proofs.lemmas.Option.{none-some, same_Some, slice_get_within, get_or_from_slice_get}
use Rattle.std.proofs.lemmas.List.{length-map}
use Rattle.std.proofs.lemmas.List.Sums.{sum_by-cons}
use Rattle.std.proofs.Math.Path.{fun_ext}
use Rattle.pass_core.specs.Functions.{AllInsns, UsesRegisters, count_of, insn_at, insn_in}
use Rattle.temp_ir.specs.declared.insn.TempInsn.{TempInsn}
use Rattle.temp_ir.specs.Insns.{reads_of, writes_of}
use Rattle.alloc_model.specs.declared.allocation.TempPlace.{TempPlace}
use Rattle.alloc_model.specs.declared.allocation.Event.{Event}
use Rattle.alloc_model.specs.declared.allocation.Event.TheVariants as event
use Rattle.alloc_model.specs.Temporaries.{TemporaryCode}
use Rattle.alloc_model.specs.Places.{Slot, Plan, linear_number, transfers_at, registers_at}
use Rattle.alloc_model.specs.Needs.{named_place, place_at_top}
use Rattle.alloc_model.specs.Lifetimes.{Blocks, IsPresent}
use Rattle.alloc_model.specs.Lifetimes.IsPresent.{IsRead, IsLiveBefore, IsWritten, IsLiveAfter}
use Rattle.alloc_rules.specs.Visits.{Wants, AreWants, homes_behind_moves, homes_left, registers_written, homes_before, homes_behind_insn, all_come_to, homes_at_top, with_top, register_in_place}
use Rattle.alloc_rules.specs.Frugal.{is_covered}
use Rattle.alloc_rules.specs.Journal.{eviction, eviction_at, evictions, event_of, assigned_by_move, visit_events, insn_events, events_from, blocks_events, journal_of}
use Rattle.alloc_lifetime_ends.specs.Ends.{AreEnds}
use Rattle.alloc_plain.specs.declared.holders.HeldTemporaries.{HeldTemporaries}
use Rattle.alloc_plain.specs.model.Held.{register_in, home_in, nothing_held, held_left, held_behind, held_at_top, held_behind_all, Holds}
use Rattle.alloc_plain.specs.model.Visits.{leaving_events, leaving_at, all_leaving, visit_in_slots, visits_in_slots, journal_in_slots}
use Rattle.alloc_plain_lists.specs.Plain.{loads, plain_registers, stores_behind, transfers_from, plain_plan}
use Rattle.alloc_plain_lists.proofs.Sets.{test_or_not}
use Rattle.alloc_plain_lists.proofs.Registers.{or_first, or_second}
use Rattle.alloc_plain_lists.proofs.Lists.{read_in_block, previous, previous_next, transfers_length, transfers_get, registers_get}
use Rattle.alloc_plain.proofs.Homes.{IsOnce, register_place}
use Rattle.alloc_plain.proofs.Steps.{holds_more, nothing_holds, nothing_once, held_register, moves_come, left_home, left_once, left_holds, behind_home, behind_once, behind_holds, assigning_home, writing_home, top_home, top_once, top_holds}

-- ---- lists

drop_first : {A : Type 0} (xs : List A) (at : ℕ) (y : A) (ys : List A) → drop at xs ≡ y ∷ ys → (slice_get xs at ≡ Some y) × (drop (suc at) xs ≡ ys)
drop_first [] zero y ys e = absurd (cc)
drop_first [] (suc at) y ys e = absurd (cc)
drop_first (x ∷ xs) zero y ys e = (let first : x ≡ y = cc in ap Some first, cc)
drop_first (x ∷ xs) (suc at) y ys e = drop_first xs at y ys e

drop_none : {A : Type 0} (xs : List A) (at : ℕ) → at ≤ length xs → drop at xs ≡ [] → at ≡ length xs
drop_none [] zero few e = refl
drop_none [] (suc at) few e = absurd (omega (arith, few))
drop_none (x ∷ xs) zero few e = absurd (cc)
drop_none (x ∷ xs) (suc at) few e = ap suc (drop_none xs at (omega (arith, few)) e)

any_there : (f : ℕ → Bool) (a n k : ℕ) → a ≤ k → k < a + n → f k ≡ true → list_any f (range_with_len a n) ≡ true
any_there f a zero k low high is = absurd (omega (arith, low, high))
any_there f a (suc n) k low high is = ⊎_elim
    (λ (e : k ≡ a). or_first (f a) (list_any f (range_with_len (a + 1) n)) (ap f (sym e) ∙ is))
    (λ (further : a < k). or_second (f a) (list_any f (range_with_len (a + 1) n)) (any_there f (a + 1) n k (omega (arith, further)) (omega (arith, high)) is))
    (first_or_later (cases_lt a k))
  where
    first_or_later : (a < k) ⊎ (k ≤ a) → (k ≡ a) ⊎ (a < k)
    first_or_later (inl below) = inr below
    first_or_later (inr above) = inl (omega (arith, low, above))

none_there : (f : ℕ → Bool) (a n : ℕ) → ((k : ℕ) → a ≤ k → f k ≡ false) → list_any f (range_with_len a n) ≡ false
none_there f a zero none = refl
none_there f a (suc n) none =
    ap (λ b. b || list_any f (range_with_len (a + 1) n)) (none a (omega arith)) ∙ none_there f (a + 1) n (λ k low. none k (omega (arith, low)))

all_get : {A : Type 0} (P : A → Type 0) (xs : List A) (k : ℕ) (x : A) → All P xs → slice_get xs k ≡ Some x → P x
all_get P xs k x all is = subst P (get_or_from_slice_get xs k x x is) (all k x (slice_get_within xs k x is))

number_within : (blocks : Blocks) (block at : ℕ) (x : TempInsn) → insn_at blocks block at ≡ Some x → linear_number blocks block at < count_of blocks
number_within [] block at x is = absurd (none-some x is)
number_within (b ∷ bs) zero at x is =
    let sum = sum_by-cons (λ (insns : List TempInsn). length insns) b bs in
    let within = slice_get_within b at x is in
    omega (arith, sum, within)
number_within (b ∷ bs) (suc block) at x is =
    let sum = sum_by-cons (λ (insns : List TempInsn). length insns) b bs in
    let front = sum_by-cons (λ (insns : List TempInsn). length insns) b (take block bs) in
    let within = number_within bs block at x is in
    omega (arith, sum, front, within)

pub count_step : (bs : Blocks) (block : ℕ) (b : List TempInsn) → slice_get bs block ≡ Some b → count_of (take (suc block) bs) ≡ count_of (take block bs) + length b
count_step [] block b is = absurd (none-some b is)
count_step (c ∷ bs) zero b is =
    let one = sum_by-cons (λ (insns : List TempInsn). length insns) c [] in
    let same : length c ≡ length b = ap length (same_Some c b is) in
    omega (arith, one, same)
count_step (c ∷ bs) (suc block) b is =
    let rest = count_step bs block b is in
    let one = sum_by-cons (λ (insns : List TempInsn). length insns) c (take (suc block) bs) in
    let two = sum_by-cons (λ (insns : List TempInsn). length insns) c (take block bs) in
    omega (arith, rest, one, two)

none_named : (blocks : Blocks) (k : ℕ) → slice_index_or (map {B = List TempPlace} (λ block. []) blocks) k [] ≡ []
none_named [] k = refl
none_named (b ∷ bs) zero = refl
none_named (b ∷ bs) (suc k) = none_named bs k

-- a temporary of a function was present at a point before one
pub record WasPresent (wants : Wants) (temps before : ℕ) (t : ℕ) : Type 0 where
  pub below : t < temps
  pub point : ℕ
  pub early : point < before
  pub present : wants.present t point ≡ true

was_later : (wants : Wants) (temps m n : ℕ) → m ≤ n → (t : ℕ) → WasPresent wants temps m t → WasPresent wants temps n t
was_later wants temps m n more t was = record { below = was.below; point = was.point; early = let early = was.early in omega (arith, early, more); present = was.present }

module _ (f : TemporaryCode) (params temps : ℕ) (wants : Wants) (are : AreWants (plain_plan f params temps) wants) (ends : List ℕ) (are_ends : AreEnds wants temps ends)
    (tops : List (List Bool)) (live : (t block : ℕ) → slice_index_or (slice_index_or tops block []) t false ≡ wants.live t block 0) (uses : AllInsns (UsesRegisters reads_of writes_of temps) f.blocks) where
  abbrev plan : Plan
  plan = plain_plan f params temps

  -- ---- the lifetime of what is held covers a point up to its last one

  present_early : (t p : ℕ) → wants.present t p ≡ true → p < 2 * count_of f.blocks
  present_early t p is = by_case ((are.presents t p).0 is)
    where
      by_case : IsPresent f.blocks t p → p < 2 * count_of f.blocks
      by_case (IsRead block at x there place has) = let within = number_within f.blocks block at x there in omega (arith, within, place)
      by_case (IsLiveBefore block at x there place alive) = let within = number_within f.blocks block at x there in omega (arith, within, place)
      by_case (IsWritten block at x there place has) = let within = number_within f.blocks block at x there in omega (arith, within, place)
      by_case (IsLiveAfter block at x there place alive) = let within = number_within f.blocks block at x there in omega (arith, within, place)

  covered : (t p m : ℕ) → WasPresent wants temps m t → m ≤ suc p → is_covered plan wants t p ≡ nat_le p (slice_index_or ends t 0)
  covered t p m was few =
      let early = was.early in
      ap (λ b. b && list_any (wants.present t) (range_with_len p (2 * count_of f.blocks - p)))
      (any_there (wants.present t) 0 (suc p) was.point (omega arith) (omega (arith, early, few)) was.present)
      ∙ ⊎_elim
      (λ (past : slice_index_or ends t 0 < p).
      none_there (wants.present t) p (2 * count_of f.blocks - p) (λ k low. ⊎_elim
      (λ (is : wants.present t k ≡ true). absurd (let last = are_ends.last t k was.below is in omega (arith, last, low, past)))
      (λ no. no) (test_or_not (wants.present t k)))
      ∙ sym (lt-leb p (slice_index_or ends t 0) past))
      (λ (ahead : p ≤ slice_index_or ends t 0).
      let there = are_ends.present t was.point was.below was.present in
      let inside = present_early t (slice_index_or ends t 0) there in
      any_there (wants.present t) p (2 * count_of f.blocks - p) (slice_index_or ends t 0) ahead (omega (arith, inside, ahead)) there
      ∙ sym (le-leb p (slice_index_or ends t 0) ahead))
      (cases_lt (slice_index_or ends t 0) p)

  leaves_place : (t p m : ℕ) (g b : HeldTemporaries) → Holds (WasPresent wants temps m) g → m ≤ suc p → eviction_at plan wants p (home_in g) (home_in b) t ≡ leaving_events ends p g b t
  leaves_place t p m g b holds few =
      ap (λ o. eviction (is_covered plan wants t p) o (register_in_place (home_in b t)) t) (register_place (register_in g t) t)
      ∙ ap (λ o. eviction (is_covered plan wants t p) (register_in g t) o t) (register_place (register_in b t) t)
      ∙ by_register (register_in g t) refl
    where
      by_register : (o : Option ℕ) → register_in g t ≡ o → eviction (is_covered plan wants t p) o (register_in b t) t ≡ eviction (nat_le p (slice_index_or ends t 0)) o (register_in b t) t
      by_register None is = refl
      by_register (Some r) is = ap (λ c. eviction c (Some r) (register_in b t) t) (covered t p m (held_register (WasPresent wants temps m) g t r holds is) few)

  all_leave : (n : ℕ) (h l b : HeldTemporaries) → Holds (WasPresent wants temps (2 * n)) h → Holds (WasPresent wants temps (2 * n + 1)) l →
      evictions plan wants n (home_in h) (home_in l) (home_in b) ≡ all_leaving ends n h l b
  all_leave n h l b before left =
      ap (λ (g : ℕ → List Event). flat_map g (range_with_len 0 temps))
      (fun_ext (λ t. ap (λ es. es ++ eviction_at plan wants (2 * n + 1) (home_in l) (home_in b) t) (leaves_place t (2 * n) (2 * n) h l before (omega arith))
      ∙ ap (λ es. leaving_events ends (2 * n) h l t ++ es) (leaves_place t (2 * n + 1) (2 * n + 1) l b left (omega arith))))
      ∙ ap (λ k. flat_map (leaving_at ends n h l b) (range_with_len 0 k)) (sym are_ends.as_many)

  -- ---- a visit

  transfers_are : (block at : ℕ) (insns : List TempInsn) (x : TempInsn) → slice_get f.blocks block ≡ Some insns → slice_get insns at ≡ Some x → transfers_at plan block at ≡ stores_behind (previous None insns at) ++ loads (reads_of x) 1
  transfers_are block at insns x is at_is =
      read_in_block (transfers_from None) (transfers_length None) f.blocks block at insns [] is (slice_get_within insns at x at_is)
      ∙ transfers_get None insns at x at_is

  registers_are : (block at : ℕ) (insns : List TempInsn) (x : TempInsn) → slice_get f.blocks block ≡ Some insns → slice_get insns at ≡ Some x → registers_at plan block at ≡ plain_registers x
  registers_are block at insns x is at_is =
      read_in_block (map plain_registers) (λ insns. length-map insns plain_registers) f.blocks block at insns [] is (slice_get_within insns at x at_is)
      ∙ registers_get insns at x at_is

  -- before an instruction with a number stands what is held
  record Stands (block at n : ℕ) (h : HeldTemporaries) : Type 0 where
    homes : homes_before plan wants block at ≡ home_in h
    once : IsOnce h
    number : n ≡ linear_number f.blocks block at
    holds : Holds (WasPresent wants temps (2 * n)) h

  module _ (block at n : ℕ) (insns : List TempInsn) (x : TempInsn) (p : Option TempInsn) (h : HeldTemporaries) (block_is : slice_get f.blocks block ≡ Some insns) (at_is : slice_get insns at ≡ Some x)
      (behind : p ≡ previous None insns at) (s : Stands block at n h) where
    there : insn_at f.blocks block at ≡ Some x
    there = ap (λ b. insn_in b at) block_is ∙ at_is

    moves_are : transfers_at plan block at ≡ stores_behind p ++ loads (reads_of x) 1
    moves_are = transfers_are block at insns x block_is at_is ∙ ap (λ q. stores_behind q ++ loads (reads_of x) 1) (sym behind)

    left_is : homes_left x (homes_behind_moves (transfers_at plan block at) (homes_before plan wants block at)) ≡ home_in (held_left x h)
    left_is =
        ap (λ tr. homes_left x (homes_behind_moves tr (homes_before plan wants block at))) moves_are
        ∙ ap (λ g. homes_left x (homes_behind_moves (stores_behind p ++ loads (reads_of x) 1) g)) s.homes
        ∙ ap (homes_left x) (moves_come p x h s.once) ∙ left_home x h

    behind_is : homes_before plan wants block (suc at) ≡ home_in (held_behind x h)
    behind_is =
        ap (λ o. homes_behind_insn (transfers_at plan block at) (registers_at plan block at) o (homes_before plan wants block at)) there
        ∙ ap (λ rs. all_come_to (registers_written rs x) (writes_of x) (homes_left x (homes_behind_moves (transfers_at plan block at) (homes_before plan wants block at)))) (registers_are block at insns x block_is at_is)
        ∙ ap (all_come_to (registers_written (plain_registers x) x) (writes_of x)) left_is
        ∙ behind_home x (held_left x h) (left_once x h s.once)

    used : UsesRegisters reads_of writes_of temps x
    used = all_get (UsesRegisters reads_of writes_of temps) insns at x (all_get (All (UsesRegisters reads_of writes_of temps)) f.blocks block insns uses block_is) at_is

    reads_present : (t : ℕ) → Contains (reads_of x) t → WasPresent wants temps (2 * n + 1) t
    reads_present t (k, within, is) = record {
      below = subst (λ u. u < temps) is (used.0 k t within);
      point = 2 * n;
      early = omega arith;
      present = (are.presents t (2 * n)).1 (IsRead block at x there (ap (λ m. 2 * m) s.number) (k, within, is));
    }

    writes_present : (t : ℕ) → Contains (writes_of x) t → WasPresent wants temps (2 * suc n) t
    writes_present t (k, within, is) = record {
      below = subst (λ u. u < temps) is (used.1 k t within);
      point = 2 * n + 1;
      early = omega arith;
      present = (are.presents t (2 * n + 1)).1 (IsWritten block at x there (ap (λ m. 2 * m + 1) s.number) (k, within, is));
    }

    left_was : Holds (WasPresent wants temps (2 * n + 1)) (held_left x h)
    left_was = left_holds (WasPresent wants temps (2 * n + 1)) x h reads_present
        (holds_more (WasPresent wants temps (2 * n)) (WasPresent wants temps (2 * n + 1)) h (was_later wants temps (2 * n) (2 * n + 1) (omega arith)) s.holds)

    next : Stands block (suc at) (suc n) (held_behind x h)
    next = record {
      homes = behind_is;
      once = behind_once x (held_left x h) (left_once x h s.once);
      number = (let number = s.number in omega (arith, number));
      holds = behind_holds (WasPresent wants temps (2 * suc n)) x (held_left x h) writes_present
          (holds_more (WasPresent wants temps (2 * n + 1)) (WasPresent wants temps (2 * suc n)) (held_left x h) (was_later wants temps (2 * n + 1) (2 * suc n) (omega arith)) left_was);
    }

    visit_is : insn_events plan wants block at x ≡ visit_in_slots ends n p x h
    visit_is =
        ap (λ m. visit_events plan wants m (transfers_at plan block at) (zip (writes_of x) (registers_written (registers_at plan block at) x)) (homes_before plan wants block at)
        (homes_left x (homes_behind_moves (transfers_at plan block at) (homes_before plan wants block at))) (homes_before plan wants block (suc at))) (sym s.number)
        ∙ ap (λ rs. visit_events plan wants n (transfers_at plan block at) (zip (writes_of x) (registers_written rs x)) (homes_before plan wants block at)
        (homes_left x (homes_behind_moves (transfers_at plan block at) (homes_before plan wants block at))) (homes_before plan wants block (suc at))) (registers_are block at insns x block_is at_is)
        ∙ ap (λ g. visit_events plan wants n (transfers_at plan block at) (zip (writes_of x) (registers_written (plain_registers x) x)) (homes_before plan wants block at) g (homes_before plan wants block (suc at))) left_is
        ∙ ap (λ g. visit_events plan wants n (transfers_at plan block at) (zip (writes_of x) (registers_written (plain_registers x) x)) (homes_before plan wants block at) (home_in (held_left x h)) g) behind_is
        ∙ ap (λ g. visit_events plan wants n (transfers_at plan block at) (zip (writes_of x) (registers_written (plain_registers x) x)) g (home_in (held_left x h)) (home_in (held_behind x h))) s.homes
        ∙ ap (λ tr. visit_events plan wants n tr (zip (writes_of x) (registers_written (plain_registers x) x)) (home_in h) (home_in (held_left x h)) (home_in (held_behind x h))) moves_are
        ∙ same_parts (all_leave n h (held_left x h) (held_behind x h) s.holds left_was) (assigning_home x (held_left x h)) (writing_home x)
      where
        same_parts : {ev ev' gs gs' ws ws' : List Event} → ev ≡ ev' → gs ≡ gs' → ws ≡ ws' →
            event.Visit n ∷ ev ++ map event_of (stores_behind p ++ loads (reads_of x) 1) ++ flat_map assigned_by_move (stores_behind p ++ loads (reads_of x) 1) ++ gs ++ ws
            ≡ event.Visit n ∷ ev' ++ map event_of (stores_behind p ++ loads (reads_of x) 1) ++ flat_map assigned_by_move (stores_behind p ++ loads (reads_of x) 1) ++ gs' ++ ws'
        same_parts e a w = cc

  -- ---- a block

  events_are : (block : ℕ) (insns : List TempInsn) → slice_get f.blocks block ≡ Some insns → (xs : List TempInsn) (at n : ℕ) (p : Option TempInsn) (h : HeldTemporaries) → drop at insns ≡ xs → p ≡ previous None insns at → Stands block at n h →
      events_from plan wants block at xs ≡ visits_in_slots ends n p xs h
  events_are block insns block_is [] at n p h rest behind s = refl
  events_are block insns block_is (x ∷ xs) at n p h rest behind s =
      let d = drop_first insns at x xs rest in
      ap (λ es. es ++ events_from plan wants block (suc at) xs) (visit_is block at n insns x p h block_is d.0 behind s)
      ∙ ap (λ es. visit_in_slots ends n p x h ++ es)
      (events_are block insns block_is xs (suc at) (suc n) (Some x) (held_behind x h) d.1 (sym (previous_next None insns at x d.0)) (next block at n insns x p h block_is d.0 behind s))

  at_end : (block : ℕ) (insns : List TempInsn) → slice_get f.blocks block ≡ Some insns → (xs : List TempInsn) (at n : ℕ) (p : Option TempInsn) (h : HeldTemporaries) → drop at insns ≡ xs → at ≤ length insns → p ≡ previous None insns at → Stands block at n h →
      Stands block (length insns) (n + length xs) (held_behind_all xs h)
  at_end block insns block_is [] at n p h rest few behind s =
      subst (λ m. Stands block (length insns) m h) (let e : n ≡ n + 0 = omega arith in e) (subst (λ k. Stands block k n h) (drop_none insns at few rest) s)
  at_end block insns block_is (x ∷ xs) at n p h rest few behind s =
      let d = drop_first insns at x xs rest in
      let within = slice_get_within insns at x d.0 in
      subst (λ m. Stands block (length insns) m (held_behind_all xs (held_behind x h))) (let e : suc n + length xs ≡ n + suc (length xs) = omega arith in e)
      (at_end block insns block_is xs (suc at) (suc n) (Some x) (held_behind x h) d.1 (omega (arith, within)) (sym (previous_next None insns at x d.0)) (next block at n insns x p h block_is d.0 behind s))

  -- ---- the blocks

  top_is : (block t : ℕ) → place_at_top plan block t ≡ Slot t
  top_is block t = ap (λ named. named_place t (find (λ s. s.temp == t) named)) (none_named f.blocks block)

  -- behind the blocks before one stands what is held
  record Comes (block n : ℕ) (h : HeldTemporaries) : Type 0 where
    homes : homes_at_top plan wants block ≡ with_top plan wants block (home_in h)
    once : IsOnce h
    number : n ≡ count_of (take block f.blocks)
    holds : Holds (WasPresent wants temps (2 * n)) h

  enters : (block n : ℕ) (h : HeldTemporaries) → Comes block n h → Stands block 0 n (held_at_top (slice_index_or tops block []) h)
  enters block n h c = record {
    homes = c.homes ∙ fun_ext (λ t. ap (λ place. if wants.live t block 0 then place else home_in h t) (top_is block t))
        ∙ top_home (slice_index_or tops block []) h (λ t. wants.live t block 0) (λ t. live t block);
    once = top_once (slice_index_or tops block []) h c.once;
    number = (let number = c.number in omega (arith, number));
    holds = top_holds (WasPresent wants temps (2 * n)) (slice_index_or tops block []) h c.holds;
  }

  goes_on : (block n : ℕ) (insns : List TempInsn) (h : HeldTemporaries) → slice_get f.blocks block ≡ Some insns → Stands block (length insns) n h → Comes (suc block) n h
  goes_on block n insns h block_is s = record {
    homes = ap (λ k. with_top plan wants (suc block) (homes_before plan wants block k)) (ap length (get_or_from_slice_get f.blocks block insns [] block_is))
        ∙ ap (with_top plan wants (suc block)) s.homes;
    once = s.once;
    number = (let number = s.number in let step = count_step f.blocks block insns block_is in omega (arith, number, step));
    holds = s.holds;
  }

  blocks_are : (bs : Blocks) (block n : ℕ) (h : HeldTemporaries) → drop block f.blocks ≡ bs → Comes block n h → blocks_events plan wants block bs ≡ journal_in_slots ends tops n block bs h
  blocks_are [] block n h rest c = refl
  blocks_are (insns ∷ bs) block n h rest c =
      let d = drop_first f.blocks block insns bs rest in
      let s = enters block n h c in
      ap (λ es. es ++ blocks_events plan wants (suc block) bs) (events_are block insns d.0 insns 0 n None (held_at_top (slice_index_or tops block []) h) refl refl s)
      ∙ ap (λ es. visits_in_slots ends n None insns (held_at_top (slice_index_or tops block []) h) ++ es)
      (blocks_are bs (suc block) (n + length insns) (held_behind_all insns (held_at_top (slice_index_or tops block []) h)) d.1
      (goes_on block (n + length insns) insns (held_behind_all insns (held_at_top (slice_index_or tops block []) h)) d.0
      (at_end block insns d.0 insns 0 n None (held_at_top (slice_index_or tops block []) h) refl (omega arith) refl s)))

  pub journal_is : journal_of plan wants ≡ journal_in_slots ends tops 0 0 f.blocks nothing_held
  journal_is = blocks_are f.blocks 0 0 nothing_held refl (record { homes = refl; once = nothing_once; number = refl; holds = nothing_holds (WasPresent wants temps (2 * 0)) })
