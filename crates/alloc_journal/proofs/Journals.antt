-- What is put down along the way is the journal.
use Rattle.std.proofs.Common.{◌≡◌, ℕ, zero, suc, ◌+◌, ◌-◌, ◌*◌, ◌<◌, ◌≤◌, ◌==◌, List, [], ◌∷◌, ◌++◌, Bool, true, false, Option, Some, None, if◌then◌else◌, refl, sym, ap, ◌∙◌, subst, length, map, take, drop, arith}
use Rattle.std.specs.Prelude.{All, zip, flat_map, replicate, slice_get, slice_index_or}
use Rattle.std.specs.List.{range_with_len}
use Rattle.std.proofs.lemmas.Option.{slice_get_within, get_or_from_slice_get}
use Rattle.std.proofs.Math.Path.{fun_ext}
use Rattle.pass_core.specs.Functions.{AllInsns, UsesRegisters, count_of, insn_at, insn_in}
use Rattle.temp_ir.specs.declared.insn.TempInsn.{TempInsn}
use Rattle.temp_ir.specs.Insns.{reads_of, writes_of}
use Rattle.temp_ir.specs.Programs.{TempFn}
use Rattle.alloc_model.specs.declared.allocation.Transfer.{Transfer}
use Rattle.alloc_model.specs.declared.allocation.Event.{Event}
use Rattle.alloc_model.specs.declared.allocation.Event.TheVariants as event
use Rattle.alloc_model.specs.Places.{Plan, linear_number, transfers_at, registers_at}
use Rattle.alloc_model.specs.Needs.{place_at_top}
use Rattle.alloc_model.specs.Faithful.{IsGivenRegister, IsTransfer}
use Rattle.alloc_model.specs.Lifetimes.{Blocks}
use Rattle.alloc_rules.specs.declared.scan.Lifetimes.{Lifetimes}
use Rattle.alloc_rules.specs.Visits.{Wants, Homes, homes_behind_moves, homes_left, all_come_to, registers_written, homes_behind_insn, homes_at_top, homes_before, register_in_place}
use Rattle.alloc_rules.specs.Frugal.{is_covered}
use Rattle.alloc_rules.specs.Journal.{eviction, eviction_at, evictions, event_of, assigned_by_move, assigned_unless, insn_events, events_from, blocks_events, journal_of}
use Rattle.alloc_journal.specs.Covered.{SayCovered, lifetime_covers}
use Rattle.alloc_journal.specs.Handed.{HasRows, homes_handed, HandsHomesOn}
use Rattle.alloc_journal.specs.model.Holders.{Holders, register_in, behind_moves, holders_left, holders_behind, pairs_written}
use Rattle.alloc_journal.specs.model.Tables.{AreBelow, ShowsHomes}
use Rattle.alloc_journal.specs.model.Leaving.{leaving_events, leaving_at, all_leaving}
use Rattle.alloc_journal.specs.model.Visits.{assignments, write_events, visit_by, row_at, visits_by, behind_all, journal_by}
use Rattle.alloc_journal.proofs.Tables.{register_has}
use Rattle.alloc_journal.proofs.Loops.{row_all, all_rest, all_named, left_below_bound, behind_below, count_step}
use Rattle.alloc_journal.proofs.Shows.{shown_register, shows_same, shows_slots, moves_show, left_shows, written_show, none_empty}

-- ---- lists

pub drop_first : {A : Type 0} (xs : List A) (at : ℕ) (y : A) (ys : List A) → drop at xs ≡ y ∷ ys → (slice_get xs at ≡ Some y) × (drop (suc at) xs ≡ ys)
drop_first [] zero y ys e = absurd (cc)
drop_first [] (suc at) y ys e = absurd (cc)
drop_first (x ∷ xs) zero y ys e = (let first : x ≡ y = cc in ap Some first, cc)
drop_first (x ∷ xs) (suc at) y ys e = drop_first xs at y ys e

drop_none : {A : Type 0} (xs : List A) (at : ℕ) → at ≤ length xs → drop at xs ≡ [] → at ≡ length xs
drop_none [] zero few e = refl
drop_none [] (suc at) few e = absurd (omega (arith, few))
drop_none (x ∷ xs) zero few e = absurd (cc)
drop_none (x ∷ xs) (suc at) few e = ap suc (drop_none xs at (omega (arith, few)) e)

all_get : {A : Type 0} (P : A → Type 0) (xs : List A) (k : ℕ) (x : A) → All P xs → slice_get xs k ≡ Some x → P x
all_get P xs k x all is = subst P (get_or_from_slice_get xs k x x is) (all k x (slice_get_within xs k x is))

all_behind : {A : Type 0} (P : A → Type 0) (xs : List A) (n : ℕ) → All P xs → All P (drop n xs)
all_behind P xs zero all = all
all_behind P [] (suc n) all = all
all_behind P (x ∷ xs) (suc n) all = all_behind P xs n (all_rest P x xs all)

-- ---- tops of blocks

top_parts : (a : Plan) (wants : Wants) (block t : ℕ) → homes_at_top a wants block t ≡ (if wants.live t block 0 then place_at_top a block t else homes_handed a wants block t)
top_parts a wants zero t = refl
top_parts a wants (suc block) t = refl

pub top_same : (a : Plan) (wants : Wants) (block t : ℕ) → (wants.live t block 0 ≡ true → place_at_top a block t ≡ homes_handed a wants block t) → homes_at_top a wants block t ≡ homes_handed a wants block t
top_same a wants block t hands = top_parts a wants block t ∙ by (wants.live t block 0) refl
  where
    by : (c : Bool) → wants.live t block 0 ≡ c → (if c then place_at_top a block t else homes_handed a wants block t) ≡ homes_handed a wants block t
    by true e = hands e
    by false e = refl

module _ (a : Plan) (wants : Wants) (lives : Lifetimes) (hands : HandsHomesOn a wants) (covered : SayCovered lives a wants)
    (transfers : All (All (IsTransfer a.temps IsGivenRegister)) a.at) (registers : All (All IsGivenRegister) a.regs)
    (uses : AllInsns (UsesRegisters reads_of writes_of a.temps) a.function.blocks) where
  -- ---- who leaves

  leaves_place : (t p : ℕ) (g b : Holders) (before behind : Homes) → AreBelow a.temps g → ShowsHomes g before → ShowsHomes b behind → eviction_at a wants p before behind t ≡ leaving_events lives p g b t
  leaves_place t p g b before behind below shown after =
      ap (λ o. eviction (is_covered a wants t p) o (register_in_place (behind t)) t) (shown_register g before t shown)
      ∙ ap (λ o. eviction (is_covered a wants t p) (register_in g t) o t) (shown_register b behind t after)
      ∙ by_register (register_in g t) refl
    where
      by_register : (o : Option ℕ) → register_in g t ≡ o → eviction (is_covered a wants t p) o (register_in b t) t ≡ eviction (lifetime_covers lives t p) o (register_in b t) t
      by_register None is = refl
      by_register (Some r) is = ap (λ c. eviction c (Some r) (register_in b t) t) (covered.each t p (below.each r t (register_has g t r is).1))

  all_leave : (n : ℕ) (h l b : Holders) (before left behind : Homes) → AreBelow a.temps h → AreBelow a.temps l → ShowsHomes h before → ShowsHomes l left → ShowsHomes b behind →
      evictions a wants n before left behind ≡ all_leaving a.temps lives n h l b
  all_leave n h l b before left behind first second shown halfway after =
      ap (λ (g : ℕ → List Event). flat_map g (range_with_len 0 a.temps))
      (fun_ext (λ t. ap (λ es. es ++ eviction_at a wants (2 * n + 1) left behind t) (leaves_place t (2 * n) h l before left first shown halfway)
      ∙ ap (λ es. leaving_events lives (2 * n) h l t ++ es) (leaves_place t (2 * n + 1) l b left behind second halfway after)))

  -- ---- a visit

  module _ (block at : ℕ) (insns : List TempInsn) (x : TempInsn) (hs : Holders) (block_is : slice_get a.function.blocks block ≡ Some insns) (at_is : slice_get insns at ≡ Some x)
      (shows : ShowsHomes hs (homes_before a wants block at)) (below : AreBelow a.temps hs) where
    there : insn_at a.function.blocks block at ≡ Some x
    there = ap (λ b. insn_in b at) block_is ∙ at_is

    moves_given : All (IsTransfer a.temps IsGivenRegister) (transfers_at a block at)
    moves_given = row_all (IsTransfer a.temps IsGivenRegister) a.at (linear_number a.function.blocks block at) (transfers_at a block at) transfers refl

    registers_given : All IsGivenRegister (registers_at a block at)
    registers_given = row_all IsGivenRegister a.regs (linear_number a.function.blocks block at) (registers_at a block at) registers refl

    used : UsesRegisters reads_of writes_of a.temps x
    used = all_get (UsesRegisters reads_of writes_of a.temps) insns at x (all_get (All (UsesRegisters reads_of writes_of a.temps)) a.function.blocks block insns uses block_is) at_is

    left_is : ShowsHomes (holders_left x (transfers_at a block at) hs) (homes_left x (homes_behind_moves (transfers_at a block at) (homes_before a wants block at)))
    left_is = left_shows x (behind_moves (transfers_at a block at) hs) (homes_behind_moves (transfers_at a block at) (homes_before a wants block at))
        (moves_show (transfers_at a block at) hs (homes_before a wants block at) (all_named a.temps (transfers_at a block at) moves_given) shows)

    behind_homes : homes_before a wants block (suc at)
        ≡ all_come_to (registers_written (registers_at a block at) x) (writes_of x) (homes_left x (homes_behind_moves (transfers_at a block at) (homes_before a wants block at)))
    behind_homes = ap (λ o. homes_behind_insn (transfers_at a block at) (registers_at a block at) o (homes_before a wants block at)) there

    pub behind_is : ShowsHomes (holders_behind x (transfers_at a block at) (registers_at a block at) hs) (homes_before a wants block (suc at))
    behind_is = subst (ShowsHomes (holders_behind x (transfers_at a block at) (registers_at a block at) hs)) (sym behind_homes)
        (written_show (writes_of x) (registers_written (registers_at a block at) x) (holders_left x (transfers_at a block at) hs)
        (homes_left x (homes_behind_moves (transfers_at a block at) (homes_before a wants block at)))
        (all_behind IsGivenRegister (registers_at a block at) (length (reads_of x)) registers_given) left_is)

    pub next_below : AreBelow a.temps (holders_behind x (transfers_at a block at) (registers_at a block at) hs)
    next_below = behind_below a.temps x (transfers_at a block at) (registers_at a block at) hs (holders_behind x (transfers_at a block at) (registers_at a block at) hs) used moves_given refl below

    pub visit_is : insn_events a wants block at x ≡ visit_by a.temps lives (linear_number a.function.blocks block at) x (transfers_at a block at) (registers_at a block at) hs
    visit_is = same_parts leaves assigns
      where
        leaves : evictions a wants (linear_number a.function.blocks block at) (homes_before a wants block at)
            (homes_left x (homes_behind_moves (transfers_at a block at) (homes_before a wants block at))) (homes_before a wants block (suc at))
            ≡ all_leaving a.temps lives (linear_number a.function.blocks block at) hs (holders_left x (transfers_at a block at) hs) (holders_behind x (transfers_at a block at) (registers_at a block at) hs)
        leaves = all_leave (linear_number a.function.blocks block at) hs (holders_left x (transfers_at a block at) hs) (holders_behind x (transfers_at a block at) (registers_at a block at) hs)
            (homes_before a wants block at) (homes_left x (homes_behind_moves (transfers_at a block at) (homes_before a wants block at))) (homes_before a wants block (suc at))
            below (left_below_bound a.temps x (transfers_at a block at) hs (holders_left x (transfers_at a block at) hs) moves_given refl below) shows left_is behind_is

        assigns : flat_map (λ (w : ℕ × ℕ). assigned_unless (register_in_place (homes_left x (homes_behind_moves (transfers_at a block at) (homes_before a wants block at)) w.0)) w.0 w.1) (pairs_written x (registers_at a block at))
            ≡ assignments (holders_left x (transfers_at a block at) hs) (pairs_written x (registers_at a block at))
        assigns = ap (λ (g : (ℕ × ℕ) → List Event). flat_map g (pairs_written x (registers_at a block at)))
            (fun_ext (λ w. ap (λ o. assigned_unless o w.0 w.1)
            (shown_register (holders_left x (transfers_at a block at) hs) (homes_left x (homes_behind_moves (transfers_at a block at) (homes_before a wants block at))) w.0 left_is)))

        same_parts : {ev ev' gs gs' : List Event} → ev ≡ ev' → gs ≡ gs' →
            event.Visit (linear_number a.function.blocks block at) ∷ ev ++ map event_of (transfers_at a block at) ++ flat_map assigned_by_move (transfers_at a block at) ++ gs ++ write_events (pairs_written x (registers_at a block at))
            ≡ event.Visit (linear_number a.function.blocks block at) ∷ ev' ++ map event_of (transfers_at a block at) ++ flat_map assigned_by_move (transfers_at a block at) ++ gs' ++ write_events (pairs_written x (registers_at a block at))
        same_parts e g = cc

  -- ---- a block

  -- before an instruction with a number
  record Stands (block at n : ℕ) (hs : Holders) : Type 0 where
    shown : ShowsHomes hs (homes_before a wants block at)
    below : AreBelow a.temps hs
    number : n ≡ linear_number a.function.blocks block at

  visit_at : (block at n : ℕ) (insns : List TempInsn) (x : TempInsn) (hs : Holders) → slice_get a.function.blocks block ≡ Some insns → slice_get insns at ≡ Some x → Stands block at n hs →
      insn_events a wants block at x ≡ visit_by a.temps lives n x (row_at a.at n) (row_at a.regs n) hs
  visit_at block at n insns x hs block_is at_is s =
      visit_is block at insns x hs block_is at_is s.shown s.below
      ∙ ap (λ m. visit_by a.temps lives m x (row_at a.at m) (row_at a.regs m) hs) (sym s.number)

  next : (block at n : ℕ) (insns : List TempInsn) (x : TempInsn) (hs : Holders) → slice_get a.function.blocks block ≡ Some insns → slice_get insns at ≡ Some x → Stands block at n hs →
      Stands block (suc at) (suc n) (holders_behind x (row_at a.at n) (row_at a.regs n) hs)
  next block at n insns x hs block_is at_is s =
      let same = ap (λ m. holders_behind x (row_at a.at m) (row_at a.regs m) hs) (sym s.number) in
      record {
        shown = subst (λ h. ShowsHomes h (homes_before a wants block (suc at))) same (behind_is block at insns x hs block_is at_is s.shown s.below);
        below = subst (AreBelow a.temps) same (next_below block at insns x hs block_is at_is s.shown s.below);
        number = (let number = s.number in omega (arith, number));
      }

  events_are : (block : ℕ) (insns : List TempInsn) → slice_get a.function.blocks block ≡ Some insns → (xs : List TempInsn) (at n : ℕ) (hs : Holders) → drop at insns ≡ xs → Stands block at n hs →
      events_from a wants block at xs ≡ visits_by a.temps lives a.at a.regs n xs hs
  events_are block insns block_is [] at n hs rest s = refl
  events_are block insns block_is (x ∷ xs) at n hs rest s =
      let d = drop_first insns at x xs rest in
      ap (λ es. es ++ events_from a wants block (suc at) xs) (visit_at block at n insns x hs block_is d.0 s)
      ∙ ap (λ es. visit_by a.temps lives n x (row_at a.at n) (row_at a.regs n) hs ++ es)
      (events_are block insns block_is xs (suc at) (suc n) (holders_behind x (row_at a.at n) (row_at a.regs n) hs) d.1 (next block at n insns x hs block_is d.0 s))

  at_end : (block : ℕ) (insns : List TempInsn) → slice_get a.function.blocks block ≡ Some insns → (xs : List TempInsn) (at n : ℕ) (hs : Holders) → drop at insns ≡ xs → at ≤ length insns → Stands block at n hs →
      Stands block (length insns) (n + length xs) (behind_all a.at a.regs n xs hs)
  at_end block insns block_is [] at n hs rest few s =
      subst (λ m. Stands block (length insns) m hs) (let e : n ≡ n + 0 = omega arith in e) (subst (λ k. Stands block k n hs) (drop_none insns at few rest) s)
  at_end block insns block_is (x ∷ xs) at n hs rest few s =
      let d = drop_first insns at x xs rest in
      let within = slice_get_within insns at x d.0 in
      subst (λ m. Stands block (length insns) m (behind_all a.at a.regs (suc n) xs (holders_behind x (row_at a.at n) (row_at a.regs n) hs))) (let e : suc n + length xs ≡ n + suc (length xs) = omega arith in e)
      (at_end block insns block_is xs (suc at) (suc n) (holders_behind x (row_at a.at n) (row_at a.regs n) hs) d.1 (omega (arith, within)) (next block at n insns x hs block_is d.0 s))

  -- ---- the blocks

  -- behind the blocks before one
  record Comes (block n : ℕ) (hs : Holders) : Type 0 where
    shown : ShowsHomes hs (homes_handed a wants block)
    below : AreBelow a.temps hs
    number : n ≡ count_of (take block a.function.blocks)

  enters : (block n : ℕ) (hs : Holders) → block < length a.function.blocks → Comes block n hs → Stands block 0 n hs
  enters block n hs within c = record {
    shown = shows_same hs (homes_handed a wants block) (homes_before a wants block 0) (λ t. top_same a wants block t (hands.each block t within)) c.shown;
    below = c.below;
    number = (let number = c.number in omega (arith, number));
  }

  goes_on : (block n : ℕ) (insns : List TempInsn) (hs : Holders) → slice_get a.function.blocks block ≡ Some insns → Stands block (length insns) n hs → Comes (suc block) n hs
  goes_on block n insns hs block_is s = record {
    shown = shows_same hs (homes_before a wants block (length insns)) (homes_handed a wants (suc block))
        (λ t. ap (λ k. homes_before a wants block k t) (ap (λ (xs : List TempInsn). length xs) (get_or_from_slice_get a.function.blocks block insns [] block_is))) s.shown;
    below = s.below;
    number = (let number = s.number in let step = count_step a.function.blocks block insns block_is in omega (arith, number, step));
  }

  blocks_are : (bs : Blocks) (block n : ℕ) (hs : Holders) → drop block a.function.blocks ≡ bs → Comes block n hs → blocks_events a wants block bs ≡ journal_by a.temps lives a.at a.regs n bs hs
  blocks_are [] block n hs rest c = refl
  blocks_are (insns ∷ bs) block n hs rest c =
      let d = drop_first a.function.blocks block insns bs rest in
      let s = enters block n hs (slice_get_within a.function.blocks block insns d.0) c in
      ap (λ es. es ++ blocks_events a wants (suc block) bs) (events_are block insns d.0 insns 0 n hs refl s)
      ∙ ap (λ es. visits_by a.temps lives a.at a.regs n insns hs ++ es)
      (blocks_are bs (suc block) (n + length insns) (behind_all a.at a.regs n insns hs) d.1
      (goes_on block (n + length insns) insns (behind_all a.at a.regs n insns hs) d.0
      (at_end block insns d.0 insns 0 n hs refl (omega arith) s)))

  pub journal_is : journal_of a wants ≡ journal_by a.temps lives a.at a.regs 0 a.function.blocks (replicate 26 None)
  journal_is = blocks_are a.function.blocks 0 0 (replicate 26 None) refl (record {
    shown = shows_slots;
    below = record { each = λ r t e. absurd (none_empty 26 r t e) };
    number = refl;
  })

-- ---- of a function

pub journal_made : (f : TempFn) (lives : Lifetimes) (at : List (List Transfer)) (regs : List (List ℕ)) (shown : Blocks) (hs : Holders) (first events : List Event) →
    All (All (IsTransfer f.temps IsGivenRegister)) at → All (All IsGivenRegister) regs → shown ≡ f.blocks → hs ≡ replicate 26 None → first ≡ [] →
    events ≡ first ++ journal_by f.temps lives at regs 0 shown hs → (a : Plan) (wants : Wants) → HasRows a f at regs → SayCovered lives a wants → HandsHomesOn a wants → events ≡ journal_of a wants
journal_made f lives at regs shown hs first events transfers registers shown_is empty none put a wants rows covered hands =
    put ∙ ap (λ es. es ++ journal_by f.temps lives at regs 0 shown hs) none
    ∙ ap (λ h. journal_by f.temps lives at regs 0 shown h) empty
    ∙ ap (λ bs. journal_by f.temps lives at regs 0 bs (replicate 26 None)) (shown_is ∙ sym rows.blocks)
    ∙ ap (λ n. journal_by n lives at regs 0 a.function.blocks (replicate 26 None)) (sym rows.temps)
    ∙ ap (λ xs. journal_by a.temps lives xs regs 0 a.function.blocks (replicate 26 None)) (sym rows.transfers)
    ∙ ap (λ rs. journal_by a.temps lives a.at rs 0 a.function.blocks (replicate 26 None)) (sym rows.registers)
    ∙ sym (journal_is a wants lives hands covered
    (subst (All (All (IsTransfer a.temps IsGivenRegister))) (sym rows.transfers) (subst (λ n. All (All (IsTransfer n IsGivenRegister)) at) (sym rows.temps) transfers))
    (subst (All (All IsGivenRegister)) (sym rows.registers) registers)
    (subst (AllInsns (UsesRegisters reads_of writes_of a.temps)) (sym rows.blocks) (subst (λ n. AllInsns (UsesRegisters reads_of writes_of n) f.blocks) (sym rows.temps) f.registers)))

pub resized : (xs zs : Holders) (n m : ℕ) → xs ≡ [] → m ≡ 0 → zs ≡ take n xs ++ replicate (n - m) None → zs ≡ replicate n None
resized xs zs n m e d f =
    let a : n - m ≡ n = omega (arith, d) in
    f ∙ ap (λ (v : Holders). take n v ++ replicate (n - m) None) e ∙ ap (λ (v : Holders). v ++ replicate (n - m) None) (none n) ∙ ap (λ (k : ℕ). replicate k None) a
  where
    none : (n : ℕ) → take n (let v : Holders = [] in v) ≡ []
    none zero = refl
    none (suc n) = refl

pub empty_below : (temps : ℕ) (hs : Holders) → hs ≡ replicate 26 None → AreBelow temps hs
empty_below temps hs is = subst (AreBelow temps) (sym is) (record { each = λ r t e. absurd (none_empty 26 r t e) })

pub empty_many : (hs : Holders) → hs ≡ replicate 26 None → length hs ≡ 26
empty_many hs is = subst (λ h. length h ≡ 26) (sym is) shows_slots.many
