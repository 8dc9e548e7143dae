-- What is held where behind the visits of a block.
use Rattle.std.proofs.Common.{◌≡◌, ◌≢◌, ◌⊎◌, ℕ, zero, suc, ◌+◌, ◌*◌, ◌<◌, ◌≤◌, ◌==◌, ◌&&◌, ◌||◌, List, [], ◌∷◌, ◌++◌, Bool, true, false, Some, refl, sym, ap, ◌∙◌, inl, inr, subst, ⊎_elim, length, drop, filter, arith}
use Rattle.std.specs.Prelude.{Contains, not, slice_get, slice_index_or}
use Rattle.std.specs.List.{list_all}
use Rattle.std.proofs.lemmas.Bool.{eqb-true, eq-eqb}
use Rattle.std.proofs.Common.{if◌then◌else◌}
use Rattle.pass_core.specs.Functions.{insn_at}
use Rattle.pass_core.specs.Live.Live.{IsRead, Passes}
use Rattle.temp_ir.specs.declared.insn.TempInsn.{TempInsn}
use Rattle.temp_ir.specs.Insns.{reads_of, writes_of}
use Rattle.temp_ir.specs.Fixed.{has_number, fixed_reads_of, fixed_writes_of, ended_of, written_behind, is_settled_block}
use Rattle.alloc_model.specs.declared.allocation.Transfer.{Transfer}
use Rattle.alloc_model.specs.Places.{Plan, linear_number, transfers_at, registers_at}
use Rattle.alloc_model.specs.Needs.{is_live_at, IsNeeded}
use Rattle.alloc_model.specs.Faithful.{move_all, MovesAsk, ReadsAsk, FixedAsk, behind_insn, held_before}
use Rattle.alloc_rules.specs.Lean.{most_before}
use Rattle.alloc_rules.specs.declared.scan.Lifetimes.{Lifetimes}
use Rattle.alloc_rules.specs.Visits.{takes_away, holds_fixed_value}
use Rattle.binpack_blocks.specs.model.Bins.{Bins}
use Rattle.binpack_blocks.specs.model.Steps.{Site, State, Writes}
use Rattle.binpack_blocks.specs.model.Steps.Writes.{Nothing, Keeps, Gets}
use Rattle.binpack_blocks.specs.model.Rows.{Rows, is_wanted, site_of, unmade}
use Rattle.binpack_blocks.specs.model.Rows.Rows.{NoRow, OneMore}
use Rattle.binpack_blocks.specs.model.Visits.{Visits, AreHeld}
use Rattle.binpack_blocks.proofs.Holders.{same_or_not, test_or_not, not_both}
use Rattle.binpack_scan.proofs.Claims.{Has, Sound, Handed, IsSite}
use Rattle.binpack_scan.proofs.Visited.{visited}
use Rattle.binpack_blocks.proofs.Counts.{few_enough}

-- ---- tests

or_false : (b c : Bool) → b ≡ false → c ≡ false → (b || c) ≡ false
or_false true c e f = absurd (cc)
or_false false c e f = f

or_true : (b c : Bool) → b ≡ true → (b || c) ≡ true
or_true true c e = refl
or_true false c e = absurd (cc)

or_also : (b c : Bool) → c ≡ true → (b || c) ≡ true
or_also true c e = refl
or_also false c e = e

and_false : (b c : Bool) → c ≡ false → (not b && c) ≡ false
and_false true c e = refl
and_false false c e = e

pub and_first : (b c : Bool) → (b && c) ≡ true → b ≡ true
and_first true c e = refl
and_first false c e = absurd (cc)

pub and_second : (b c : Bool) → (b && c) ≡ true → c ≡ true
and_second true c e = e
and_second false c e = absurd (cc)

pub has_contains : (xs : List ℕ) (r : ℕ) → has_number xs r ≡ true → Contains xs r
has_contains [] r is = absurd (cc)
has_contains (x ∷ xs) r is =
    ⊎_elim (λ same. (0, omega arith, eqb-true x r same))
    (λ other. let rest = has_contains xs r (sym (ap (λ c. c || has_number xs r) other) ∙ is) in let within = rest.1 in (suc rest.0, omega (arith, within), rest.2))
    (test_or_not (x == r))

pub unwritten : (ws : List ℕ) (t : ℕ) → has_number ws t ≡ false → ¬ Contains ws t
unwritten [] t e (k, within, is) = omega (arith, within)
unwritten (w ∷ ws) t e (zero, within, is) = not_both (has_number (w ∷ ws) t) (or_true (w == t) (has_number ws t) (eq-eqb w t is)) e
unwritten (w ∷ ws) t e (suc k, within, is) = unwritten ws t (second (w == t) (has_number ws t) e) (k, omega (arith, within), is)
  where
    second : (b c : Bool) → (b || c) ≡ false → c ≡ false
    second true c e = absurd (cc)
    second false c e = e

-- ---- settled blocks

has_either : (xs ys : List ℕ) (r : ℕ) → has_number (xs ++ ys) r ≡ true → (has_number xs r ≡ true) ⊎ (has_number ys r ≡ true)
has_either [] ys r is = inr is
has_either (x ∷ xs) ys r is =
    ⊎_elim (λ e. inl (or_true (x == r) (has_number xs r) e))
    (λ e. ⊎_elim (λ h. inl (or_also (x == r) (has_number xs r) h)) inr (has_either xs ys r (sym (ap (λ c. c || has_number (xs ++ ys) r) e) ∙ is)))
    (test_or_not (x == r))

has_kept : (p : ℕ → Bool) (ws : List ℕ) (r : ℕ) → has_number (filter p ws) r ≡ true → (has_number ws r ≡ true) × (p r ≡ true)
has_kept p [] r is = absurd (cc)
has_kept p (w ∷ ws) r is = by (has_kept p ws r) (p w) refl
  where
    by : (has_number (filter p ws) r ≡ true → (has_number ws r ≡ true) × (p r ≡ true)) → (b : Bool) → p w ≡ b → (has_number (w ∷ ws) r ≡ true) × (p r ≡ true)
    by rest true e = ⊎_elim
        (λ (same : (w == r) ≡ true). (or_true (w == r) (has_number ws r) same, ap p (sym (eqb-true w r same)) ∙ e))
        (λ (other : (w == r) ≡ false).
        let both = rest (sym (ap (λ c. c || has_number (filter p ws) r) other) ∙ ap (λ b. has_number (if b then w ∷ filter p ws else filter p ws) r) (sym e) ∙ is) in
        (or_also (w == r) (has_number ws r) both.0, both.1))
        (test_or_not (w == r))
    by rest false e =
        let both = rest (ap (λ b. has_number (if b then w ∷ filter p ws else filter p ws) r) (sym e) ∙ is) in
        (or_also (w == r) (has_number ws r) both.0, both.1)

all_has : (ws rs : List ℕ) (r : ℕ) → list_all (has_number ws) rs ≡ true → has_number rs r ≡ true → has_number ws r ≡ true
all_has ws [] r all is = absurd (cc)
all_has ws (q ∷ rs) r all is = ⊎_elim
    (λ (same : (q == r) ≡ true). ap (has_number ws) (sym (eqb-true q r same)) ∙ and_first (has_number ws q) (list_all (has_number ws) rs) all)
    (λ (other : (q == r) ≡ false). all_has ws rs r (and_second (has_number ws q) (list_all (has_number ws) rs) all) (sym (ap (λ c. c || has_number rs r) other) ∙ is))
    (test_or_not (q == r))

-- a fixed value stands where it was written alone
pub holds_written : (ws : List ℕ) (insns : List TempInsn) (r : ℕ) → is_settled_block ws insns ≡ true → holds_fixed_value r insns ≡ true → has_number ws r ≡ true
holds_written ws [] r settled is = absurd (cc)
holds_written ws (x ∷ insns) r settled is = ⊎_elim
    (λ (reads : has_number (fixed_reads_of x) r ≡ true). all_has ws (fixed_reads_of x) r (and_first (list_all (has_number ws) (fixed_reads_of x)) (is_settled_block (written_behind ws x) insns) settled) reads)
    (λ (none : has_number (fixed_reads_of x) r ≡ false).
    let rest = sym (ap (λ c. c || (not (takes_away x r) && holds_fixed_value r insns)) none) ∙ is in
    behind (holds_written (written_behind ws x) insns r (and_second (list_all (has_number ws) (fixed_reads_of x)) (is_settled_block (written_behind ws x) insns) settled) (and_second (not (takes_away x r)) (holds_fixed_value r insns) rest))
    (and_first (not (takes_away x r)) (holds_fixed_value r insns) rest))
    (test_or_not (has_number (fixed_reads_of x) r))
  where
    behind : has_number (written_behind ws x) r ≡ true → not (takes_away x r) ≡ true → has_number ws r ≡ true
    behind is untaken = ⊎_elim
        (λ (written : has_number (fixed_writes_of x) r ≡ true). not_both (not (takes_away x r)) untaken (ap not (or_true (has_number (fixed_writes_of x) r) (has_number (ended_of x) r) written)))
        (λ (kept : has_number (filter (λ register. not (has_number (ended_of x) register)) ws) r ≡ true). (has_kept (λ register. not (has_number (ended_of x) register)) ws r kept).0)
        (has_either (fixed_writes_of x) (filter (λ register. not (has_number (ended_of x) register)) ws) r is)

-- behind an instruction a fixed value was written by it, or stood before and is left alone
pub holds_next : (ws : List ℕ) (x : TempInsn) (insns : List TempInsn) (r : ℕ) → is_settled_block ws (x ∷ insns) ≡ true → holds_fixed_value r insns ≡ true →
    (has_number (fixed_writes_of x) r ≡ true) ⊎ ((takes_away x r ≡ false) × (holds_fixed_value r (x ∷ insns) ≡ true))
holds_next ws x insns r settled is = ⊎_elim
    (λ (written : has_number (fixed_writes_of x) r ≡ true). inl written)
    (λ (unwritten : has_number (fixed_writes_of x) r ≡ false). ⊎_elim
    (λ (written : has_number (fixed_writes_of x) r ≡ true). inl written)
    (λ (kept : has_number (filter (λ register. not (has_number (ended_of x) register)) ws) r ≡ true).
    let unended = not_then (has_number (ended_of x) r) (has_kept (λ register. not (has_number (ended_of x) register)) ws r kept).1 in
    let free = or_false (has_number (fixed_writes_of x) r) (has_number (ended_of x) r) unwritten unended in
    inr (free, or_also (has_number (fixed_reads_of x) r) (not (takes_away x r) && holds_fixed_value r insns) (ap (λ b. not b && holds_fixed_value r insns) free ∙ is)))
    (has_either (fixed_writes_of x) (filter (λ register. not (has_number (ended_of x) register)) ws) r
    (holds_written (written_behind ws x) insns r (and_second (list_all (has_number ws) (fixed_reads_of x)) (is_settled_block (written_behind ws x) insns) settled) is)))
    (test_or_not (has_number (fixed_writes_of x) r))
  where
    not_then : (b : Bool) → not b ≡ true → b ≡ false
    not_then true e = absurd (cc)
    not_then false e = refl

-- ---- lists

drop_get : (insns : List TempInsn) (at : ℕ) (x : TempInsn) → slice_get insns at ≡ Some x → drop at insns ≡ x ∷ drop (suc at) insns
drop_get [] at x e = absurd (cc)
drop_get (y ∷ insns) zero x e = ap (λ z. z ∷ insns) (one e)
  where
    one : Some y ≡ Some x → y ≡ x
    one e = cc
drop_get (y ∷ insns) (suc at) x e = drop_get insns at x e

-- ---- as many registers as temporaries

held_many : (ts rs : List ℕ) (bins : Bins) → AreHeld ts rs bins → length rs ≡ length ts
held_many [] [] bins held = refl
held_many [] (r ∷ rs) bins held = absurd held
held_many (t ∷ ts) [] bins held = absurd held
held_many (t ∷ ts) (r ∷ rs) bins held = ap suc (held_many ts rs bins held.1)

writes_many : (s : Site) (v w : State) (ts rs : List ℕ) → Writes s v w ts rs → length rs ≡ length ts
writes_many s v w ts rs (Nothing bins relied) = refl
writes_many s v w ts rs (Keeps t r is bins relied) = refl
writes_many s v w ts rs (Gets t r none low may leaves bins) = refl

many_behind : (xs ys : List ℕ) → length (xs ++ ys) ≡ length xs + length ys
many_behind [] ys = omega arith
many_behind (x ∷ xs) ys = let rest = many_behind xs ys in omega (arith, rest)

registers_many : (s : Site) (u w : State) (xs : List Transfer) (rs : List ℕ) → Visits s u w xs rs → length rs ≡ length (reads_of s.insn) + length (writes_of s.insn)
registers_many s u w xs rs visits =
    let both = many_behind visits.read visits.written in
    let read = held_many (reads_of s.insn) visits.read visits.ready.bins visits.held in
    let written = writes_many s visits.left w (writes_of s.insn) visits.written visits.writes in
    let sum : length (visits.read ++ visits.written) ≡ length (reads_of s.insn) + length (writes_of s.insn) = omega (arith, both, read, written) in
    ap (λ z. length z) visits.registers_are ∙ sum

-- ---- a block

-- tests by lifetimes say where temporaries are live round the instructions of an allocation
pub record SaysLive (a : Plan) (l : Lifetimes) : Type 0 where
  pub before : (block at : ℕ) (x : TempInsn) (t : ℕ) → insn_at a.function.blocks block at ≡ Some x → is_live_at a t block at → is_wanted l (2 * linear_number a.function.blocks block at) t ≡ true
  pub is_before : (block at : ℕ) (x : TempInsn) (t : ℕ) → insn_at a.function.blocks block at ≡ Some x → is_wanted l (2 * linear_number a.function.blocks block at) t ≡ true → is_live_at a t block at
  pub behind : (block at : ℕ) (x : TempInsn) (t : ℕ) → insn_at a.function.blocks block at ≡ Some x → is_live_at a t block (suc at) → is_wanted l (2 * linear_number a.function.blocks block at + 1) t ≡ true
  pub is_behind : (block at : ℕ) (x : TempInsn) (t : ℕ) → insn_at a.function.blocks block at ≡ Some x → is_wanted l (2 * linear_number a.function.blocks block at + 1) t ≡ true → has_number (writes_of x) t ≡ false → is_live_at a t block (suc at)

module _ (a : Plan) (l : Lifetimes) (b number : ℕ) (insns : List TempInsn) (says : SaysLive a l)
    (there : (at : ℕ) → insn_at a.function.blocks b at ≡ slice_get insns at)
    (numbered : (at : ℕ) → linear_number a.function.blocks b at ≡ number + at) where
  abbrev claims_at : ℕ → ℕ → Bool
  claims_at at r = holds_fixed_value r (drop at insns)

  -- before an instruction, or behind the last one
  pub record IsLed (at : ℕ) (bins : Bins) : Type 0 where
    pub written : List ℕ
    pub settled : is_settled_block written (drop at insns) ≡ true
    pub has : Has (λ t. is_live_at a t b at) (λ t. IsNeeded a t b) (λ r. holds_fixed_value r (drop at insns)) bins (held_before a b at)
    pub sound : Sound a.temps (λ r. holds_fixed_value r (drop at insns)) bins
    pub handed : Handed a b at (transfers_at a b at) bins

  pub record Asks (at : ℕ) (x : TempInsn) : Type 0 where
    pub few : length (transfers_at a b at) ≤ most_before x
    pub stated : length (registers_at a b at) ≡ length (reads_of x) + length (writes_of x)
    pub moves : MovesAsk (transfers_at a b at) (held_before a b at)
    pub temps_read : ReadsAsk (reads_of x) (registers_at a b at) (move_all (transfers_at a b at) (held_before a b at))
    pub fixed_read : FixedAsk (fixed_reads_of x) (move_all (transfers_at a b at) (held_before a b at))

  module _ (at : ℕ) (x : TempInsn) (is : slice_get insns at ≡ Some x) (written : List ℕ) (settled : is_settled_block written (drop at insns) ≡ true) where
    abbrev site : Site
    site = site_of a.temps l (number + at) x (drop (suc at) insns)

    is_there : insn_at a.function.blocks b at ≡ Some x
    is_there = there at ∙ is

    settled_here : is_settled_block written (x ∷ drop (suc at) insns) ≡ true
    settled_here = ap (is_settled_block written) (sym (drop_get insns at x is)) ∙ settled

    claims_are : (r : ℕ) → holds_fixed_value r (drop at insns) ≡ holds_fixed_value r (x ∷ drop (suc at) insns)
    claims_are r = ap (holds_fixed_value r) (drop_get insns at x is)

    flows : (t : ℕ) → is_live_at a t b (suc at) → has_number (writes_of x) t ≡ false → is_live_at a t b at
    flows t lv none = Passes x is_there (unwritten (writes_of x) t none) lv

    is_before : (t : ℕ) → is_wanted l (2 * (number + at)) t ≡ true → is_live_at a t b at
    is_before t e = says.is_before b at x t is_there (ap (λ n. is_wanted l (2 * n) t) (numbered at) ∙ e)

    site_is : IsSite a b at (site_of a.temps l (number + at) x (drop (suc at) insns)) (λ r. holds_fixed_value r (drop at insns))
    site_is = record {
      there = is_there;
      temps = refl;
      before = λ t lv. ap (λ n. is_wanted l (2 * n) t) (sym (numbered at)) ∙ says.before b at x t is_there lv;
      is_before = is_before;
      stored = λ t may. ⊎_elim
          (λ (e : is_wanted l (2 * (number + at)) t ≡ true). is_before t e)
          (λ (e : (is_wanted l (2 * (number + at) + 1) t ≡ true) × (has_number (writes_of x) t ≡ false)).
          flows t (says.is_behind b at x t is_there (ap (λ n. is_wanted l (2 * n + 1) t) (numbered at) ∙ e.0) e.1) e.1)
          may;
      behind = λ t lv. ap (λ n. is_wanted l (2 * n + 1) t) (sym (numbered at)) ∙ says.behind b at x t is_there lv;
      flows = flows;
      claim = λ r may.
          let unread = no_first (has_number (fixed_reads_of x) r) (takes_away x r) may.unfixed in
          claims_are r ∙ or_false (has_number (fixed_reads_of x) r) (not (takes_away x r) && holds_fixed_value r (drop (suc at) insns)) unread (and_false (takes_away x r) (holds_fixed_value r (drop (suc at) insns)) may.unclaimed);
    }
      where
        no_first : (b c : Bool) → (b || c) ≡ false → b ≡ false
        no_first true c e = absurd (cc)
        no_first false c e = refl

    next_is : (r : ℕ) → holds_fixed_value r (drop (suc at) insns) ≡ true → (has_number (fixed_writes_of x) r ≡ true) ⊎ ((takes_away x r ≡ false) × (holds_fixed_value r (drop at insns) ≡ true))
    next_is r e = ⊎_elim (λ w. inl w) (λ (k : (takes_away x r ≡ false) × (holds_fixed_value r (x ∷ drop (suc at) insns) ≡ true)). inr (k.0, claims_are r ∙ k.1)) (holds_next written x (drop (suc at) insns) r settled_here e)

    reads_live : (t : ℕ) → has_number (reads_of x) t ≡ true → is_live_at a t b at
    reads_live t e = IsRead x is_there (has_contains (reads_of x) t e)

    reads_claimed : (r : ℕ) → has_number (fixed_reads_of x) r ≡ true → holds_fixed_value r (drop at insns) ≡ true
    reads_claimed r e = claims_are r ∙ or_true (has_number (fixed_reads_of x) r) (not (takes_away x r) && holds_fixed_value r (drop (suc at) insns)) e

  -- one more instruction
  next_led : (at : ℕ) (x : TempInsn) → slice_get insns at ≡ Some x → (v w : State) (xs : List Transfer) (rs : List ℕ) → transfers_at a b at ≡ xs → registers_at a b at ≡ rs →
      Visits (site_of a.temps l (number + at) x (drop (suc at) insns)) (unmade v) w xs rs → IsLed at v.bins → Asks at x × IsLed (suc at) w.bins
  next_led at x is v w xs rs et er visits led =
      let h = held_before a b at in
      let so = visited a b at (site_of a.temps l (number + at) x (drop (suc at) insns)) (λ r. holds_fixed_value r (drop at insns))
      (site_is at x is led.written led.settled) (next_is at x is led.written led.settled) (reads_live at x is led.written led.settled) (reads_claimed at x is led.written led.settled)
      (unmade v) w xs rs (held_before a b at) et er visits led.has led.sound led.handed in
      let behind : behind_insn xs rs (Some x) (held_before a b at) ≡ held_before a b (suc at) =
      ap (λ ys. behind_insn ys rs (Some x) (held_before a b at)) (sym et)
      ∙ ap (λ qs. behind_insn (transfers_at a b at) qs (Some x) (held_before a b at)) (sym er)
      ∙ ap (λ o. behind_insn (transfers_at a b at) (registers_at a b at) o (held_before a b at)) (sym (there at ∙ is)) in (
        record {
          few = subst (λ ys. length ys ≤ most_before x) (sym et) (let a = visits.few in let b = few_enough x in omega (arith, a, b));
          stated = ap (λ z. length z) er ∙ registers_many (site_of a.temps l (number + at) x (drop (suc at) insns)) (unmade v) w xs rs visits;
          moves = subst (λ ys. MovesAsk ys (held_before a b at)) (sym et) so.moves;
          temps_read = subst (λ ys. ReadsAsk (reads_of x) (registers_at a b at) (move_all ys (held_before a b at))) (sym et) (subst (λ qs. ReadsAsk (reads_of x) qs (move_all xs (held_before a b at))) (sym er) so.temps_read);
          fixed_read = subst (λ ys. FixedAsk (fixed_reads_of x) (move_all ys (held_before a b at))) (sym et) so.fixed_read;
        },
        record {
          written = written_behind led.written x;
          settled = and_second (list_all (has_number led.written) (fixed_reads_of x)) (is_settled_block (written_behind led.written x) (drop (suc at) insns)) (settled_here at x is led.written led.settled);
          has = subst (λ g. Has (λ t. is_live_at a t b (suc at)) (λ t. IsNeeded a t b) (λ r. holds_fixed_value r (drop (suc at) insns)) w.bins g) behind so.has;
          sound = so.sound;
          handed = so.handed;
        },
      )

  -- what is so of the lists of a block, as far as they go
  abbrev AreListed : (at : ℕ) → List (List Transfer) → List (List ℕ) → Type 0
  AreListed at ts qs = (k : ℕ) → k < at → (transfers_at a b k ≡ slice_index_or ts k []) × (registers_at a b k ≡ slice_index_or qs k [])

  pub record RowsLead (at : ℕ) (bins : Bins) : Type 0 where
    pub led : IsLed at bins
    pub asks : (k : ℕ) (x : TempInsn) → k < at → slice_get insns k ≡ Some x → Asks k x

  pub rows_length : (u : State) {at : ℕ} {ts : List (List Transfer)} {qs : List (List ℕ)} {w : State} → Rows a.temps l number insns u at ts qs w → (length ts ≡ at) × (length qs ≡ at)
  rows_length u NoRow = (refl, refl)
  rows_length u (OneMore {at} {transfers} {registers} {v} rows x is xs rs w visits) =
      let before = rows_length u rows in
      (longer transfers xs at before.0, longer registers rs at before.1)
    where
      longer : {A : Type 0} (xs : List A) (x : A) (n : ℕ) → length xs ≡ n → length (xs ++ x ∷ []) ≡ suc n
      longer [] x n e = ap suc e
      longer (y ∷ xs) x zero e = absurd (omega (arith, e))
      longer (y ∷ xs) x (suc n) e = ap suc (longer xs x n (omega (arith, e)))

  get_left : {A : Type 0} (xs : List A) (x d : A) (k : ℕ) → k < length xs → slice_index_or (xs ++ x ∷ []) k d ≡ slice_index_or xs k d
  get_left [] x d k w = absurd (omega (arith, w))
  get_left (y ∷ xs) x d zero w = refl
  get_left (y ∷ xs) x d (suc k) w = get_left xs x d k (omega (arith, w))

  get_last : {A : Type 0} (xs : List A) (x d : A) (k : ℕ) → length xs ≡ k → slice_index_or (xs ++ x ∷ []) k d ≡ x
  get_last [] x d zero e = refl
  get_last [] x d (suc k) e = absurd (omega (arith, e))
  get_last (y ∷ xs) x d zero e = absurd (omega (arith, e))
  get_last (y ∷ xs) x d (suc k) e = get_last xs x d k (omega (arith, e))

  fewer_listed : (at : ℕ) (ts : List (List Transfer)) (qs : List (List ℕ)) (xs : List Transfer) (rs : List ℕ) → length ts ≡ at → length qs ≡ at → AreListed (suc at) (ts ++ xs ∷ []) (qs ++ rs ∷ []) → AreListed at ts qs
  fewer_listed at ts qs xs rs et eq are k low =
      let both = are k (omega (arith, low)) in
      (both.0 ∙ get_left ts xs [] k (omega (arith, low, et)), both.1 ∙ get_left qs rs [] k (omega (arith, low, eq)))

  last_led : (at : ℕ) (ts : List (List Transfer)) (qs : List (List ℕ)) (v w : State) (xs : List Transfer) (rs : List ℕ) (x : TempInsn) → slice_get insns at ≡ Some x →
      Visits (site_of a.temps l (number + at) x (drop (suc at) insns)) (unmade v) w xs rs → length ts ≡ at → length qs ≡ at →
      AreListed (suc at) (ts ++ xs ∷ []) (qs ++ rs ∷ []) → RowsLead at v.bins → RowsLead (suc at) w.bins
  last_led at ts qs v w xs rs x is visits et eq are before =
      let both = are at (omega arith) in
      let now = next_led at x is v w xs rs (both.0 ∙ get_last ts xs [] at et) (both.1 ∙ get_last qs rs [] at eq) visits before.led in
      record {
        led = now.1;
        asks = λ k y low e. ⊎_elim
            (λ (same : k ≡ at). subst (λ j. Asks j y) (sym same) (subst (λ z. Asks at z) (one (sym is ∙ ap (slice_get insns) (sym same) ∙ e)) now.0))
            (λ (ne : k ≢ at). before.asks k y (omega (arith, low, ne)) e)
            (same_or_not k at);
      }
    where
      one : {y z : TempInsn} → Some y ≡ Some z → y ≡ z
      one e = cc

  -- the visits of a block ask for what is there
  pub rows_lead : (u : State) {at : ℕ} {ts : List (List Transfer)} {qs : List (List ℕ)} {w : State} → Rows a.temps l number insns u at ts qs w → AreListed at ts qs → IsLed 0 u.bins → RowsLead at w.bins
  rows_lead u NoRow are led = record { led = led; asks = λ k x low e. absurd (omega (arith, low)) }
  rows_lead u (OneMore {at} {transfers} {registers} {v} rows x is xs rs w visits) are led =
      let size = rows_length u rows in
      last_led at transfers registers v w xs rs x is visits size.0 size.1 are (rows_lead u rows (fewer_listed at transfers registers xs rs size.0 size.1 are) led)
