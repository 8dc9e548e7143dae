-- What is held where along the blocks of a function.
use Rattle.std.proofs.Common.{◌≡◌, ◌≢◌, ℕ, zero, suc, ◌+◌, ◌<◌, ◌≤◌, ◌==◌, nat_lt, List, [], ◌∷◌, ◌++◌, Bool, true, false, Option, Some, None, refl, sym, ap, ◌∙◌, subst, ⊎_elim, length, take, arith}
use Rattle.std.specs.Prelude.{◌-◌, slice_get, slice_index_or, find, replicate}
use Rattle.std.proofs.lemmas.Bool.{ltb-true, ltb-false}
use Rattle.std.proofs.lemmas.Option.{slice_get_within}
use Rattle.std.proofs.lemmas.List.Sums.{sum_by-cons}
use Rattle.bk_bits.specs.Sets.{has}
use Rattle.pass_core.specs.Functions.{count_of, insn_at, insn_in}
use Rattle.temp_ir.specs.declared.insn.TempInsn.{TempInsn}
use Rattle.temp_ir.specs.Fixed.{argument_registers, has_number, is_settled_block}
use Rattle.alloc_model.specs.declared.allocation.TempPlace.{TempPlace}
use Rattle.alloc_model.specs.Effect.{Temp}
use Rattle.alloc_model.specs.Places.{Reg, Plan}
use Rattle.alloc_model.specs.Needs.{is_live_at, named_place}
use Rattle.alloc_model.specs.Faithful.{held_before}
use Rattle.alloc_rules.specs.declared.scan.Lifetimes.{Lifetimes}
use Rattle.alloc_rules.specs.Frugal.{place_at_bottom}
use Rattle.alloc_rules.specs.Visits.{holds_fixed_value}
use Rattle.binpack_blocks.specs.declared.held.Held.{Held}
use Rattle.binpack_blocks.specs.declared.held.SlotCopy.TheVariants.{Lent}
use Rattle.binpack_blocks.specs.declared.block.Lists.{Lists}
use Rattle.binpack_blocks.specs.declared.blocks.Maps.{Maps}
use Rattle.binpack_scan.specs.model.Replays.{ReplaysBlock}
use Rattle.binpack_blocks.specs.model.Bins.{Bins, held_in, has_temp, IsNowhere, IsOnce, AreInside, lent}
use Rattle.binpack_blocks.specs.model.Tops.{is_listed, places_from}
use Rattle.binpack_blocks.specs.model.Whole.{AddsBlock, ScansBlocks}
use Rattle.binpack_blocks.specs.model.Whole.ScansBlocks.{NoBlock, OneBlock}
use Rattle.binpack_blocks.proofs.Holders.{same_or_not, test_or_not, not_both, held_within, past_none}
use Rattle.binpack_scan.proofs.Acts.{nowhere_or_somewhere}
use Rattle.binpack_scan.proofs.Claims.{Has}
use Rattle.binpack_scan.proofs.Leads.{SaysLive, IsLed, holds_written, rows_length, rows_lead, has_contains}
use Rattle.binpack_scan.proofs.Tops.{named_there, not_named, has_at_top, handed_at_top, lent_temp, lent_only}

-- ---- lists

module _ {A : Type 0} where
  in_front : (xs ys : List A) (k : ℕ) (d : A) → k < length xs → slice_index_or (xs ++ ys) k d ≡ slice_index_or xs k d
  in_front [] ys k d w = absurd (omega (arith, w))
  in_front (x ∷ xs) ys zero d w = refl
  in_front (x ∷ xs) ys (suc k) d w = in_front xs ys k d (omega (arith, w))

  behind_front : (xs ys : List A) (n k : ℕ) (d : A) → n ≡ length xs + k → slice_index_or (xs ++ ys) n d ≡ slice_index_or ys k d
  behind_front [] ys n k d e = ap (λ j. slice_index_or ys j d) (omega (arith, e))
  behind_front (x ∷ xs) ys zero k d e = absurd (omega (arith, e))
  behind_front (x ∷ xs) ys (suc n) k d e = behind_front xs ys n k d (omega (arith, e))

  pub length_both : (xs ys : List A) → length (xs ++ ys) ≡ length xs + length ys
  length_both [] ys = omega arith
  length_both (x ∷ xs) ys = let rest = length_both xs ys in omega (arith, rest)

  -- what a list has as far as another one goes
  abbrev pub Agrees : (whole part : List A) → (d : A) → Type 0
  Agrees whole part d = (k : ℕ) → k < length part → slice_index_or whole k d ≡ slice_index_or part k d

  pub agrees_less : (whole part more new : List A) (d : A) → new ≡ part ++ more → Agrees whole new d → Agrees whole part d
  agrees_less whole part more new d e are k low =
      let size = length_both part more in
      are k (subst (λ z. k < length z) (sym e) (omega (arith, size, low))) ∙ ap (λ z. slice_index_or z k d) e ∙ in_front part more k d low

  pub agrees_last : (whole part new : List A) (x d : A) (n : ℕ) → length part ≡ n → new ≡ part ++ x ∷ [] → Agrees whole new d → slice_index_or whole n d ≡ x
  agrees_last whole part new x d n size e are =
      let both = length_both part (x ∷ []) in
      are n (subst (λ z. n < length z) (sym e) (omega (arith, size, both))) ∙ ap (λ z. slice_index_or z n d) e ∙ behind_front part (x ∷ []) n 0 d (omega (arith, size))

  pub agrees_behind : (whole part more new : List A) (d : A) (n k : ℕ) → length part ≡ n → k < length more → new ≡ part ++ more → Agrees whole new d → slice_index_or whole (n + k) d ≡ slice_index_or more k d
  agrees_behind whole part more new d n k size low e are =
      let both = length_both part more in
      are (n + k) (subst (λ z. n + k < length z) (sym e) (omega (arith, size, low, both))) ∙ ap (λ z. slice_index_or z (n + k) d) e ∙ behind_front part more (n + k) k d (omega (arith, size))

pub count_next : (blocks : List (List TempInsn)) (done : ℕ) (insns : List TempInsn) → slice_get blocks done ≡ Some insns → count_of (take (suc done) blocks) ≡ count_of (take done blocks) + length insns
count_next [] done insns e = absurd (cc)
count_next (b ∷ bs) zero insns e =
    let same : b ≡ insns = cc in
    let sum = sum_by-cons (λ (block : List TempInsn). length block) b [] in
    let size = ap (λ (xs : List TempInsn). length xs) same in
    first bs sum size
  where
    first : (bs : List (List TempInsn)) → count_of (b ∷ []) ≡ length b + count_of (let none : List (List TempInsn) = [] in none) → length b ≡ length insns → count_of (take 1 (b ∷ bs)) ≡ count_of (take 0 (b ∷ bs)) + length insns
    first [] sum size = omega (arith, sum, size)
    first (c ∷ bs) sum size = omega (arith, sum, size)
count_next (b ∷ bs) (suc done) insns e =
    let rest = count_next bs done insns e in
    let one = sum_by-cons (λ (block : List TempInsn). length block) b (take (suc done) bs) in
    let two = sum_by-cons (λ (block : List TempInsn). length block) b (take done bs) in
    omega (arith, rest, one, two)

-- ---- what is lent

pub same_temps : (before begun : Bins) → length before ≡ 26 → length begun ≡ 26 → ((r : ℕ) → r < 26 → held_in begun r ≡ lent (held_in before r)) → (r t : ℕ) → has_temp (held_in begun r) t ≡ has_temp (held_in before r) t
same_temps before begun many size lends r t = by (nat_lt r 26) refl
  where
    by : (c : Bool) → nat_lt r 26 ≡ c → has_temp (held_in begun r) t ≡ has_temp (held_in before r) t
    by true e = ap (λ o. has_temp o t) (lends r (ltb-true r 26 e)) ∙ lent_temp (held_in before r) t
    by false e =
        let past = ltb-false r 26 e in
        ap (λ o. has_temp o t) (past_none begun r (omega (arith, past, size))) ∙ ap (λ o. has_temp o t) (sym (past_none before r (omega (arith, past, many))))

all_lent : (before begun : Bins) → length begun ≡ 26 → ((r : ℕ) → r < 26 → held_in begun r ≡ lent (held_in before r)) → (r : ℕ) (k : Held) → held_in begun r ≡ Some k → (saved : Bool) × (k.copy ≡ Lent saved)
all_lent before begun size lends r k e = lent_only (held_in before r) k (sym (lends r low) ∙ e)
  where
    low : r < 26
    low = let within = held_within begun r k e in omega (arith, within, size)

-- ---- the end of a block

bottom_holds : (a : Plan) (b number at : ℕ) (set : List Bool) (bins : Bins) (need : ℕ → Type 0) (claims : ℕ → Bool) → slice_index_or a.bottom b [] ≡ places_from (is_listed true set) 0 bins → IsOnce bins →
    Has (λ t. is_live_at a t b at) need claims bins (held_before a b at) → (t : ℕ) → is_live_at a t b at → held_before a b at (Temp t) (place_at_bottom a b t)
bottom_holds a b number at set bins need claims bottom once has t lv = ⊎_elim
    (λ (none : IsNowhere bins t). subst (λ p. held_before a b at (Temp t) p) (sym (named ∙ ap (named_place t) (not_named (is_listed true set) t bins 0 none))) (has.away t none lv))
    (λ (some : (q : ℕ) × (has_temp (held_in bins q) t ≡ true)).
    subst (λ p. held_before a b at (Temp t) p) (sym (named ∙ ap (named_place t) (named_there (is_listed true set) t bins 0 some.0 once some.1 refl) ∙ ap Reg (let e : 0 + some.0 ≡ some.0 = omega arith in e))) (has.reg some.0 t some.1 lv))
    (nowhere_or_somewhere bins t)
  where
    named : place_at_bottom a b t ≡ named_place t (find (λ (s : TempPlace). s.temp == t) (places_from (is_listed true set) 0 bins))
    named = ap (λ ss. named_place t (find (λ (s : TempPlace). s.temp == t) ss)) bottom

-- ---- the blocks

abbrev pub written_at_start : (params block : ℕ) → List ℕ
written_at_start params zero = argument_registers params
written_at_start params (suc block) = []

module _ (a : Plan) (l : Lifetimes) (tops : List (List Bool)) (says : SaysLive a l)
    (tops_live : (b t : ℕ) → is_live_at a t b 0 → has (slice_index_or tops b []) t ≡ true)
    (settled : (b : ℕ) (insns : List TempInsn) → slice_get a.function.blocks b ≡ Some insns → is_settled_block (written_at_start a.params b) insns ≡ true) where
  pub record BlocksLead (done : ℕ) (maps : Maps) (lists : Lists) (bins : Bins) : Type 0 where
    pub many : length bins ≡ 26
    pub once : IsOnce bins
    pub inside : AreInside a.temps bins
    pub empty : done ≡ 0 → (r : ℕ) → held_in bins r ≡ None
    pub tops_size : length maps.top ≡ done
    pub bottoms_size : length maps.bottom ≡ done
    pub transfers_size : length lists.transfers ≡ count_of (take done a.function.blocks)
    pub registers_size : length lists.registers ≡ count_of (take done a.function.blocks)
    pub replays : (b : ℕ) (insns : List TempInsn) → b < done → slice_get a.function.blocks b ≡ Some insns → ReplaysBlock a b insns

  there_is : (b : ℕ) (insns : List TempInsn) → slice_get a.function.blocks b ≡ Some insns → (at : ℕ) → insn_at a.function.blocks b at ≡ slice_get insns at
  there_is b insns is at = ap (λ o. insn_in o at) is

  begun_once : (before begun : Bins) → ((r t : ℕ) → has_temp (held_in begun r) t ≡ has_temp (held_in before r) t) → IsOnce before → IsOnce begun
  begun_once before begun same once t p q x y = once t p q (sym (same p t) ∙ x) (sym (same q t) ∙ y)

  none_there : (o : Option Held) (k : Held) {A : Type 0} → o ≡ None → o ≡ Some k → A
  none_there o k e f = absurd (cc)

  -- at the top of a block, with what was lent to it
  begun_led : (b : ℕ) (insns : List TempInsn) (before begun : Bins) (is : slice_get a.function.blocks b ≡ Some insns) → length before ≡ 26 → length begun ≡ 26 →
      ((r : ℕ) → r < 26 → held_in begun r ≡ lent (held_in before r)) → IsOnce before → AreInside a.temps before → (b ≡ 0 → (r : ℕ) → held_in before r ≡ None) →
      slice_index_or a.top b [] ≡ places_from (is_listed false (slice_index_or tops b [])) 0 begun →
      IsLed a l b (count_of (take b a.function.blocks)) insns says (there_is b insns is) (λ at. refl) 0 begun
  begun_led zero insns before begun is many size lends once inside empty top = record {
    written = argument_registers a.params;
    settled = settled 0 insns is;
    has = record {
      reg = λ r t e lv. not_both (has_temp (held_in begun r) t) e (ap (λ o. has_temp o t) (none r));
      away = λ t gone lv. refl;
      copied = λ r k e lv slot. none_there (held_in begun r) k (none r) e;
      fixed = λ r c. (has_contains (argument_registers a.params) r (holds_written (argument_registers a.params) insns r (settled 0 insns is) c), refl);
    };
    sound = record {
      many = size;
      once = begun_once before begun (same_temps before begun many size lends) once;
      inside = λ r t e. inside r t (sym (same_temps before begun many size lends r t) ∙ e);
      free = λ r c. none r;
    };
    handed = record { each = λ r k saved e c lv used. none_there (held_in begun r) k (none r) e };
  }
    where
      none : (r : ℕ) → held_in begun r ≡ None
      none r = by (nat_lt r 26) refl
        where
          by : (c : Bool) → nat_lt r 26 ≡ c → held_in begun r ≡ None
          by true e = lends r (ltb-true r 26 e) ∙ ap lent (empty refl r)
          by false e = past_none begun r (let past = ltb-false r 26 e in omega (arith, past, size))
  begun_led (suc b) insns before begun is many size lends once inside empty top = record {
    written = [];
    settled = settled (suc b) insns is;
    has = has_at_top a b (is_listed false (slice_index_or tops (suc b) [])) begun (λ t lv. tops_live (suc b) t lv) top
        (begun_once before begun (same_temps before begun many size lends) once) (λ r. holds_fixed_value r insns) unclaimed (all_lent before begun size lends);
    sound = record {
      many = size;
      once = begun_once before begun (same_temps before begun many size lends) once;
      inside = λ r t e. inside r t (sym (same_temps before begun many size lends r t) ∙ e);
      free = λ r c. not_both (holds_fixed_value r insns) c (unclaimed r);
    };
    handed = handed_at_top a b (is_listed false (slice_index_or tops (suc b) [])) begun (λ t lv. tops_live (suc b) t lv) top
        (begun_once before begun (same_temps before begun many size lends) once);
  }
    where
      no_number : (r : ℕ) → has_number [] r ≡ true → ⊥
      no_number r e = cc

      unclaimed : (r : ℕ) → holds_fixed_value r insns ≡ false
      unclaimed r = ⊎_elim (λ (e : holds_fixed_value r insns ≡ true). absurd (no_number r (holds_written [] insns r (settled (suc b) insns is) e))) (λ n. n) (test_or_not (holds_fixed_value r insns))

  -- the lists of an allocation begin with these
  pub record AgreesWith (maps : Maps) (lists : Lists) : Type 0 where
    pub tops_agree : Agrees a.top maps.top []
    pub bottoms_agree : Agrees a.bottom maps.bottom []
    pub transfers_agree : Agrees a.at lists.transfers []
    pub registers_agree : Agrees a.regs lists.registers []

  -- one more block
  one_block : (done : ℕ) (maps new : Maps) (lists behind : Lists) (bins others : Bins) (insns : List TempInsn) (is : slice_get a.function.blocks done ≡ Some insns) →
      AddsBlock a.temps l (count_of (take done a.function.blocks)) insns (slice_index_or tops done []) bins maps new lists behind others →
      AgreesWith new behind → BlocksLead done maps lists bins → BlocksLead (suc done) new behind others
  one_block done maps new lists behind bins others insns is adds agrees before =
      let number = count_of (take done a.function.blocks) in
      let top = agrees_last a.top maps.top new.top (places_from (is_listed false (slice_index_or tops done [])) 0 adds.begun.bins) [] done before.tops_size adds.top agrees.tops_agree in
      let bottom = agrees_last a.bottom maps.bottom new.bottom (places_from (is_listed true (slice_index_or tops done [])) 0 adds.left.bins) [] done before.bottoms_size adds.bottom agrees.bottoms_agree in
      let sizes = rows_length a l done (count_of (take done a.function.blocks)) insns says (there_is done insns is) (λ at. refl) adds.begun adds.rows.rows in
      let begun = begun_led done insns bins adds.begun.bins is before.many adds.size adds.lends before.once before.inside before.empty top in
      let lead = rows_lead a l done (count_of (take done a.function.blocks)) insns says (there_is done insns is) (λ at. refl) adds.begun adds.rows.rows
      (λ k low. (
        agrees_behind a.at lists.transfers adds.rows.transfers behind.transfers [] (count_of (take done a.function.blocks)) k before.transfers_size (let s = sizes.0 in omega (arith, low, s)) adds.rows.transfers_are agrees.transfers_agree,
        agrees_behind a.regs lists.registers adds.rows.registers behind.registers [] (count_of (take done a.function.blocks)) k before.registers_size (let s = sizes.1 in omega (arith, low, s)) adds.rows.registers_are agrees.registers_agree,
      )) begun in
      record {
        many = ap (λ z. length z) adds.is_left ∙ lead.led.sound.many;
        once = subst IsOnce (sym adds.is_left) lead.led.sound.once;
        inside = subst (AreInside a.temps) (sym adds.is_left) lead.led.sound.inside;
        empty = λ e. absurd (omega (arith, e));
        tops_size = ap (λ z. length z) adds.top ∙ longer maps.top _ done before.tops_size;
        bottoms_size = ap (λ z. length z) adds.bottom ∙ longer maps.bottom _ done before.bottoms_size;
        transfers_size =
            ap (λ z. length z) adds.rows.transfers_are
            ∙ (let both = length_both lists.transfers adds.rows.transfers in let s = sizes.0 in let b = before.transfers_size in let n = count_next a.function.blocks done insns is in omega (arith, both, s, b, n));
        registers_size =
            ap (λ z. length z) adds.rows.registers_are
            ∙ (let both = length_both lists.registers adds.rows.registers in let s = sizes.1 in let b = before.registers_size in let n = count_next a.function.blocks done insns is in omega (arith, both, s, b, n));
        replays = λ b xs low there. ⊎_elim
            (λ (same : b ≡ done).
            let ys : insns ≡ xs = one (sym is ∙ ap (slice_get a.function.blocks) (sym same) ∙ there) in
            subst (λ j. ReplaysBlock a j xs) (sym same) (subst (ReplaysBlock a done) ys (record {
              stated = λ at x e. (lead.asks at x (slice_get_within insns at x e) e).stated;
              few = λ at x e. (lead.asks at x (slice_get_within insns at x e) e).few;
              moves = λ at x e. (lead.asks at x (slice_get_within insns at x e) e).moves;
              temps_read = λ at x e. (lead.asks at x (slice_get_within insns at x e) e).temps_read;
              fixed_read = λ at x e. (lead.asks at x (slice_get_within insns at x e) e).fixed_read;
              bottoms = bottom_holds a done 0 (length insns) (slice_index_or tops done []) adds.left.bins _ _ bottom lead.led.sound.once lead.led.has;
            })))
            (λ (ne : b ≢ done). before.replays b xs (omega (arith, low, ne)) there)
            (same_or_not b done);
      }
    where
      longer : {A : Type 0} (xs : List A) (x : A) (n : ℕ) → length xs ≡ n → length (xs ++ x ∷ []) ≡ suc n
      longer xs x n e = let both = length_both xs (x ∷ []) in omega (arith, both, e)

      one : {x y : List TempInsn} → Some x ≡ Some y → x ≡ y
      one e = cc

  -- the blocks of a scan ask for what is there
  pub scans_lead : {done : ℕ} {maps : Maps} {lists : Lists} {bins : Bins} → ScansBlocks a.temps l a.function.blocks tops done maps lists bins → AgreesWith maps lists → BlocksLead done maps lists bins
  scans_lead (NoBlock {maps} {lists} {bins} size none no_top no_bottom no_transfers no_registers) agrees = record {
    many = size;
    once = λ t p q x y. not_both (has_temp (held_in bins p) t) x (ap (λ o. has_temp o t) (none p));
    inside = λ r t x. not_both (has_temp (held_in bins r) t) x (ap (λ o. has_temp o t) (none r));
    empty = λ e. none;
    tops_size = ap (λ z. length z) no_top;
    bottoms_size = ap (λ z. length z) no_bottom;
    transfers_size = ap (λ z. length z) no_transfers;
    registers_size = ap (λ z. length z) no_registers;
    replays = λ b insns low is. absurd (omega (arith, low));
  }
  scans_lead (OneBlock {done} {maps} {new} {lists} {behind} {bins} {others} scans insns is adds) agrees =
      one_block done maps new lists behind bins others insns is adds agrees
      (scans_lead scans (record {
        tops_agree = agrees_less a.top maps.top _ new.top [] adds.top agrees.tops_agree;
        bottoms_agree = agrees_less a.bottom maps.bottom _ new.bottom [] adds.bottom agrees.bottoms_agree;
        transfers_agree = agrees_less a.at lists.transfers _ behind.transfers [] adds.rows.transfers_are agrees.transfers_agree;
        registers_agree = agrees_less a.regs lists.registers _ behind.registers [] adds.rows.registers_are agrees.registers_agree;
      }))

-- ---- what the loop over the blocks keeps

pub count_most : (blocks : List (List TempInsn)) (n : ℕ) → count_of (take n blocks) ≤ count_of blocks
count_most [] zero = omega arith
count_most [] (suc n) = omega arith
count_most (b ∷ bs) zero = omega arith
count_most (b ∷ bs) (suc n) =
    let rest = count_most bs n in
    let one = sum_by-cons (λ (block : List TempInsn). length block) b (take n bs) in
    let two = sum_by-cons (λ (block : List TempInsn). length block) b bs in
    omega (arith, rest, one, two)

pub few_left : (blocks : List (List TempInsn)) (place number most : ℕ) (insns : List TempInsn) → slice_get blocks place ≡ Some insns → number ≡ count_of (take place blocks) → count_of blocks < most → number + length insns < most
few_left blocks place number most insns is e few =
    let next = count_next blocks place insns is in
    let all = count_most blocks (suc place) in
    omega (arith, next, all, e, few)

pub scans_next : (temps : ℕ) (l : Lifetimes) (blocks : List (List TempInsn)) (tops : List (List Bool)) (place own number : ℕ) (insns : List TempInsn) (live : List Bool) (maps new : Maps) (lists behind : Lists) (bins others : Bins) →
    slice_get blocks place ≡ Some insns → own ≡ temps → number ≡ count_of (take place blocks) → live ≡ slice_index_or tops place [] →
    AddsBlock own l number insns live bins maps new lists behind others → ScansBlocks temps l blocks tops place maps lists bins → ScansBlocks temps l blocks tops (place + 1) new behind others
scans_next temps l blocks tops place own number insns live maps new lists behind bins others is et en el adds scans =
    subst (λ n. ScansBlocks temps l blocks tops n new behind others) (let e : suc place ≡ place + 1 = omega arith in e)
    (OneBlock scans insns is
    (subst (λ n. AddsBlock n l (count_of (take place blocks)) insns (slice_index_or tops place []) bins maps new lists behind others) et
    (subst (λ n. AddsBlock own l n insns (slice_index_or tops place []) bins maps new lists behind others) en
    (subst (λ z. AddsBlock own l number insns z bins maps new lists behind others) el adds))))

pub number_next : (blocks : List (List TempInsn)) (place number next : ℕ) (insns : List TempInsn) → slice_get blocks place ≡ Some insns → number ≡ count_of (take place blocks) → next ≡ number + length insns → next ≡ count_of (take (place + 1) blocks)
number_next blocks place number next insns is e f =
    let count = count_next blocks place insns is in
    let same : count_of (take (suc place) blocks) ≡ count_of (take (place + 1) blocks) = ap (λ n. count_of (take n blocks)) (let g : suc place ≡ place + 1 = omega arith in g) in
    let so : next ≡ count_of (take (suc place) blocks) = omega (arith, count, e, f) in
    so ∙ same

pub resized : (xs zs : Bins) (n m : ℕ) → xs ≡ [] → m ≡ 0 → zs ≡ take n xs ++ replicate (n - m) None → zs ≡ replicate n None
resized xs zs n m e d f =
    let a : n - m ≡ n = omega (arith, d) in
    f ∙ ap (λ (v : Bins). take n v ++ replicate (n - m) None) e ∙ ap (λ (v : Bins). v ++ replicate (n - m) None) (none n) ∙ ap (λ (k : ℕ). replicate k None) a
  where
    none : (n : ℕ) → take n (let v : Bins = [] in v) ≡ []
    none zero = refl
    none (suc n) = refl

pub held_none : (n r : ℕ) → held_in (replicate n None) r ≡ None
held_none zero r = refl
held_none (suc n) zero = refl
held_none (suc n) (suc r) = held_none n r

pub replicate_length : {A : Type 0} (n : ℕ) (x : A) → length (replicate n x) ≡ n
replicate_length zero x = refl
replicate_length (suc n) x = ap suc (replicate_length n x)

pub nothing_inside : (temps : ℕ) (bins : Bins) → ((r : ℕ) → held_in bins r ≡ None) → AreInside temps bins
nothing_inside temps bins none r t x = not_both (has_temp (held_in bins r) t) x (ap (λ o. has_temp o t) (none r))

pub nothing_once : (bins : Bins) → ((r : ℕ) → held_in bins r ≡ None) → IsOnce bins
nothing_once bins none t p q x y = not_both (has_temp (held_in bins p) t) x (ap (λ o. has_temp o t) (none p))
