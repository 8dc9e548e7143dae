-- What lifetimes and live sets say of an allocation of their function.
use Rattle.std.proofs.Common.{◌≡◌, ℕ, zero, suc, ◌+◌, ◌*◌, ◌<◌, ◌≤◌, nat_lt, List, [], ◌∷◌, Bool, true, false, Some, refl, sym, ap, ◌∙◌, subst, length, take, arith}
use Rattle.std.specs.Prelude.{slice_get, slice_index_or, ◌&&◌, ◌↔◌}
use Rattle.std.specs.List.{list_all}
use Rattle.std.proofs.lemmas.Bool.{ltb-true, ltb-false}
use Rattle.std.proofs.lemmas.Option.{slice_get_within, get_or_from_slice_get}
use Rattle.pass_core.specs.Functions.{AllInsns, UsesRegisters, count_of, insn_in}
use Rattle.temp_ir.specs.declared.insn.TempInsn.{TempInsn}
use Rattle.temp_ir.specs.Programs.{TempFn}
use Rattle.temp_ir.specs.Insns.{reads_of, writes_of, targets_of, flows_on_of}
use Rattle.temp_ir.specs.Fixed.{argument_registers, is_settled, is_settled_block}
use Rattle.alloc_model.specs.Places.{Plan, linear_number}
use Rattle.alloc_model.specs.Lifetimes.{IsPresent, IsPart}
use Rattle.alloc_model.specs.Lifetimes.IsPresent.{IsRead, IsLiveBefore, IsLiveAfter}
use Rattle.pass_core.specs.Live.{Live}
use Rattle.std.specs.Prelude.{Contains}
use Rattle.binpack_blocks.specs.model.Rows.{is_wanted}
use Rattle.alloc_rules.specs.declared.scan.LifetimePart.{LifetimePart}
use Rattle.alloc_rules.specs.declared.scan.Lifetimes.{Lifetimes}
use Rattle.alloc_rules.specs.Scan.{AreLifetimes, lifetime_parts}
use Rattle.alloc_rules.specs.Visits.{Wants, AreWants}
use Rattle.bitvector_flow.specs.Lives.{AreLive}
use Rattle.alloc_lifetime_ends.specs.Wanted.{wants_of}
use Rattle.alloc_lifetime_ends.proofs.Wants.{wants_exact}
use Rattle.binpack_scan.specs.model.Replays.{ReplaysBlock, IsPlanOf}
use Rattle.binpack_blocks.specs.declared.block.Lists.{Lists}
use Rattle.binpack_blocks.specs.declared.blocks.Maps.{Maps}
use Rattle.binpack_blocks.specs.model.Bins.{Bins}
use Rattle.binpack_blocks.specs.model.Lists.{ReadsWanted}
use Rattle.binpack_blocks.specs.model.Wanted.{LifetimesRise}
use Rattle.binpack_blocks.specs.model.Whole.{ScansBlocks}
use Rattle.binpack_scan.proofs.Leads.{SaysLive, has_contains, unwritten}
use Rattle.binpack_scan.proofs.Functions.{scans_lead, written_at_start}
use Rattle.binpack_scan.proofs.Wants.{present_live, present_behind, wanted_present, present_wanted}

-- ---- the parts are in order

pub lifetimes_rise : (f : TempFn) (l : Lifetimes) → AreLifetimes f l → LifetimesRise l
lifetimes_rise f l are = record {
  each = λ t. record {
    rise = are.parts_rise t;
    ordered = λ k a is. by t k a is (nat_lt t f.temps) refl;
  };
}
  where
    past_empty : {A : Type 0} (xs : List (List A)) (k : ℕ) → length xs ≤ k → slice_index_or xs k [] ≡ []
    past_empty [] k past = refl
    past_empty (x ∷ xs) zero past = absurd (omega (arith, past))
    past_empty (x ∷ xs) (suc k) past = past_empty xs k (omega (arith, past))

    no_part : (k : ℕ) (a : LifetimePart) → slice_get [] k ≡ Some a → ⊥
    no_part k a e = cc

    by : (t k : ℕ) (a : LifetimePart) → slice_get (lifetime_parts l t) k ≡ Some a → (c : Bool) → nat_lt t f.temps ≡ c → a.first ≤ a.last
    by t k a is true e =
        ((are.parts t a.first a.last (ltb-true t f.temps e)).0 (k, slice_get_within (lifetime_parts l t) k a is, get_or_from_slice_get (lifetime_parts l t) k a a is)).ordered
    by t k a is false e =
        let past = ltb-false t f.temps e in
        let size = are.parts_length in
        absurd (no_part k a (ap (λ ps. slice_get ps k) (sym (past_empty l.parts t (omega (arith, past, size)))) ∙ is))

-- ---- what is read is wanted

pub reads_wanted : (f : TempFn) (l : Lifetimes) (a : Plan) (wants : Wants) → a.function.blocks ≡ f.blocks → AreLifetimes f l → AreWants a wants → AllInsns (UsesRegisters reads_of writes_of f.temps) f.blocks →
    (b : ℕ) (insns : List TempInsn) → slice_get f.blocks b ≡ Some insns → ReadsWanted l (count_of (take b f.blocks)) insns
reads_wanted f l a wants same are exact used b insns there k x is t reads =
    present_wanted f.blocks f.temps used l are.parts_length are.parts (λ t point. wants.present t point) (λ t point. subst (λ bs. (wants.present t point ≡ true) ↔ IsPresent bs t point) same (exact.presents t point)) t
    (2 * (count_of (take b f.blocks) + k)) (IsRead b k x (ap (λ o. insn_in o k) there ∙ is) refl (has_contains (reads_of x) t reads))

-- ---- what the lifetimes say

pub says_live : (f : TempFn) (l : Lifetimes) (a : Plan) (wants : Wants) → a.function.blocks ≡ f.blocks → AreLifetimes f l → AreWants a wants → AllInsns (UsesRegisters reads_of writes_of f.temps) f.blocks → SaysLive a l
says_live f l a wants same are exact used = record {
  before = λ b at x t is lv. wanted t (2 * linear_number a.function.blocks b at) (IsLiveBefore b at x is refl lv);
  is_before = λ b at x t is e. present_live a.function.blocks t b at x is (here t (2 * linear_number a.function.blocks b at) e);
  behind = λ b at x t is lv. wanted t (2 * linear_number a.function.blocks b at + 1) (IsLiveAfter b at x is refl lv);
  is_behind = λ b at x t is e none. present_behind a.function.blocks t b at x is (unwritten (writes_of x) t none) (here t (2 * linear_number a.function.blocks b at + 1) e);
}
  where
    used_here : AllInsns (UsesRegisters reads_of writes_of f.temps) a.function.blocks
    used_here = subst (λ bs. AllInsns (UsesRegisters reads_of writes_of f.temps) bs) (sym same) used

    parts_here : (t first last : ℕ) → t < f.temps → Contains (lifetime_parts l t) (record { first = first; last = last }) ↔ IsPart a.function.blocks t first last
    parts_here t first last low = subst (λ bs. Contains (lifetime_parts l t) (record { first = first; last = last }) ↔ IsPart bs t first last) (sym same) (are.parts t first last low)

    wanted : (t point : ℕ) → IsPresent a.function.blocks t point → is_wanted l point t ≡ true
    wanted t point is = present_wanted a.function.blocks f.temps used_here l are.parts_length parts_here (λ t point. wants.present t point) exact.presents t point is

    here : (t point : ℕ) → is_wanted l point t ≡ true → IsPresent a.function.blocks t point
    here t point e = wanted_present a.function.blocks f.temps used_here l are.parts_length parts_here (λ t point. wants.present t point) exact.presents t point e

-- ---- settled blocks

settled_at : (params : ℕ) (blocks : List (List TempInsn)) (b : ℕ) (insns : List TempInsn) → is_settled params blocks ≡ true → slice_get blocks b ≡ Some insns → is_settled_block (written_at_start params b) insns ≡ true
settled_at params [] b insns all is = absurd (cc)
settled_at params (c ∷ bs) zero insns all is =
    subst (λ xs. is_settled_block (argument_registers params) xs ≡ true) (one c insns is) (first (is_settled_block (argument_registers params) c) (list_all (is_settled_block []) bs) all)
  where
    one : (c d : List TempInsn) → Some c ≡ Some d → c ≡ d
    one c d e = cc

    first : (x y : Bool) → (x && y) ≡ true → x ≡ true
    first true y e = refl
    first false y e = absurd (cc)
settled_at params (c ∷ bs) (suc b) insns all is = each bs b (second (is_settled_block (argument_registers params) c) (list_all (is_settled_block []) bs) all) is
  where
    second : (x y : Bool) → (x && y) ≡ true → y ≡ true
    second true y e = e
    second false y e = absurd (cc)

    first : (x y : Bool) → (x && y) ≡ true → x ≡ true
    first true y e = refl
    first false y e = absurd (cc)

    one : (c d : List TempInsn) → Some c ≡ Some d → c ≡ d
    one c d e = cc

    each : (bs : List (List TempInsn)) (b : ℕ) → list_all (is_settled_block []) bs ≡ true → slice_get bs b ≡ Some insns → is_settled_block [] insns ≡ true
    each [] b all is = absurd (cc)
    each (c ∷ bs) zero all is = subst (λ xs. is_settled_block [] xs ≡ true) (one c insns is) (first (is_settled_block [] c) (list_all (is_settled_block []) bs) all)
    each (c ∷ bs) (suc b) all is = each bs b (second (is_settled_block [] c) (list_all (is_settled_block []) bs) all) is

-- ---- the whole

-- each block of an allocation with these maps and lists asks for what is there
pub placed_replays : (f : TempFn) (l : Lifetimes) (tops bottoms : List (List Bool)) (maps : Maps) (lists : Lists) (bins : Bins) (a : Plan) (wants : Wants) →
    IsPlanOf f maps.top maps.bottom lists.transfers lists.registers a → AreLifetimes f l → AreLive reads_of writes_of targets_of flows_on_of f.blocks f.temps tops bottoms → AreWants a wants →
    AllInsns (UsesRegisters reads_of writes_of f.temps) f.blocks → is_settled f.params f.blocks ≡ true → ScansBlocks f.temps l f.blocks tops (length f.blocks) maps lists bins →
    (b : ℕ) (insns : List TempInsn) → slice_get f.blocks b ≡ Some insns → ReplaysBlock a b insns
placed_replays f l tops bottoms maps lists bins a wants plan are live_sets exact used settled scans b insns there =
    let moved : ScansBlocks a.temps l a.function.blocks tops (length f.blocks) maps lists bins =
    subst (λ n. ScansBlocks n l a.function.blocks tops (length f.blocks) maps lists bins) (sym plan.temps) (subst (λ bs. ScansBlocks f.temps l bs tops (length f.blocks) maps lists bins) (sym plan.blocks) scans) in
    (scans_lead a l tops (says_live f l a wants plan.blocks are exact used)
    (λ b t lv. (live_sets.live_at_top t b).1 (subst (λ bs. Live reads_of writes_of targets_of flows_on_of bs t b 0) plan.blocks lv))
    (λ b insns is. subst (λ n. is_settled_block (written_at_start n b) insns ≡ true) (sym plan.params) (settled_at f.params f.blocks b insns settled (ap (λ bs. slice_get bs b) (sym plan.blocks) ∙ is)))
    moved
    (record {
      tops_agree = λ k low. ap (λ z. slice_index_or z k []) plan.top;
      bottoms_agree = λ k low. ap (λ z. slice_index_or z k []) plan.bottom;
      transfers_agree = λ k low. ap (λ z. slice_index_or z k []) plan.at;
      registers_agree = λ k low. ap (λ z. slice_index_or z k []) plan.regs;
    })).replays b insns (slice_get_within f.blocks b insns there) (ap (λ bs. slice_get bs b) plan.blocks ∙ there)

-- ---- what the sets of a function say

abbrev plan_like : TempFn → Plan
plan_like f = record { function = record { sizes = []; blocks = f.blocks }; params = f.params; temps = f.temps; top = []; bottom = []; at = []; regs = []; edges = [] }

pub all_reads_wanted : (f : TempFn) (l : Lifetimes) (tops bottoms : List (List Bool)) → AreLifetimes f l → AreLive reads_of writes_of targets_of flows_on_of f.blocks f.temps tops bottoms →
    AllInsns (UsesRegisters reads_of writes_of f.temps) f.blocks → (b : ℕ) (insns : List TempInsn) → slice_get f.blocks b ≡ Some insns → ReadsWanted l (count_of (take b f.blocks)) insns
all_reads_wanted f l tops bottoms are live_sets used =
    reads_wanted f l (plan_like f) (wants_of f.blocks bottoms) refl are (wants_exact (plan_like f) f.temps tops bottoms live_sets) used

pub all_replay : (f : TempFn) (l : Lifetimes) (tops bottoms : List (List Bool)) (maps : Maps) (lists : Lists) (bins : Bins) → AreLifetimes f l →
    AreLive reads_of writes_of targets_of flows_on_of f.blocks f.temps tops bottoms → AllInsns (UsesRegisters reads_of writes_of f.temps) f.blocks → is_settled f.params f.blocks ≡ true →
    ScansBlocks f.temps l f.blocks tops (length f.blocks) maps lists bins → (a : Plan) → IsPlanOf f maps.top maps.bottom lists.transfers lists.registers a →
    (b : ℕ) (insns : List TempInsn) → slice_get f.blocks b ≡ Some insns → ReplaysBlock a b insns
all_replay f l tops bottoms maps lists bins are live_sets used settled scans a plan =
    placed_replays f l tops bottoms maps lists bins a (wants_of a.function.blocks bottoms) plan are live_sets
    (wants_exact a f.temps tops bottoms (subst (λ bs. AreLive reads_of writes_of targets_of flows_on_of bs f.temps tops bottoms) (sym plan.blocks) live_sets)) used settled scans
