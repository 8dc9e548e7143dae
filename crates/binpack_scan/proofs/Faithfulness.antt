-- The allocation of a function by a scan is faithful.
use Rattle.std.proofs.Common.{◌≡◌, ◌≢◌, ℕ, zero, suc, ◌-◌, ◌<◌, ◌≤◌, ◌==◌, nat_lt, List, [], ◌∷◌, Bool, true, false, Option, Some, None, if◌then◌else◌, refl, sym, ap, ◌∙◌, inl, inr, subst, ⊎_elim, length, take, arith}
use Rattle.std.specs.Prelude.{All, Contains, find, slice_get, slice_index_or, ◌↔◌}
use Rattle.std.proofs.lemmas.Bool.{ltb-true, ltb-false}
use Rattle.std.proofs.lemmas.Option.{slice_get_within, get_or_from_slice_get}
use Rattle.std.proofs.lemmas.List.Elements.{Contains-append_left, Contains-append_right}
use Rattle.bk_bits.specs.Sets.{has as holds}
use Rattle.pass_core.specs.Functions.{AllInsns, GoesToBlocks, EndsLate, IsStraight, count_of, insn_at, insn_in, last_of, successors_of, successors_after}
use Rattle.pass_core.specs.Live.{Live}
use Rattle.temp_ir.specs.declared.insn.TempInsn.{TempInsn}
use Rattle.temp_ir.specs.Insns.{reads_of, writes_of, targets_of, flows_on_of}
use Rattle.temp_ir.specs.Fixed.{is_settled}
use Rattle.temp_ir.specs.Programs.{TempFn}
use Rattle.bitvector_flow.specs.Flows.{AreBounded}
use Rattle.bitvector_flow.specs.Lives.{AreLive}
use Rattle.alloc_model.specs.declared.allocation.TempPlace.{TempPlace}
use Rattle.alloc_model.specs.declared.allocation.EdgeCode.{EdgeCode}
use Rattle.alloc_model.specs.Effect.{Holder, Temp, Fixed, Incoming, Outgoing}
use Rattle.alloc_model.specs.Temporaries.{goes_on}
use Rattle.alloc_model.specs.Places.{Place, Slot, Plan}
use Rattle.alloc_model.specs.Needs.{named_place, top_place, place_at_top}
use Rattle.alloc_model.specs.Faithful.{Includes, at_top, at_entry, at_bottom, held_before, sorted_edges_from, KeepsEdge, IsGivenRegister, IsGivenOrScratch, IsStanding, IsTransfer, HasLists, Faithful}
use Rattle.alloc_rules.specs.declared.scan.Lifetimes.{Lifetimes}
use Rattle.alloc_rules.specs.Scan.{AreLifetimes}
use Rattle.alloc_rules.specs.Frugal.{place_at_bottom}
use Rattle.alloc_rules.specs.Lean.{IsLean}
use Rattle.binpack_blocks.specs.declared.block.Lists.{Lists}
use Rattle.binpack_blocks.specs.declared.blocks.Maps.{Maps}
use Rattle.binpack_scan.specs.model.Replays.{IsPlanOf}
use Rattle.binpack_blocks.specs.model.Bins.{Bins}
use Rattle.binpack_blocks.specs.model.Whole.{ScansBlocks}
use Rattle.binpack_scan.specs.model.Made.{IsMapOf}
use Rattle.binpack_scan.specs.model.Edges.{register_at, register_for, IsMap, IsEdgeCode, AreMaps, ends_of}
use Rattle.binpack_blocks.proofs.Holders.{same_or_not}
use Rattle.binpack_blocks.proofs.Rests.{all_at}
use Rattle.binpack_scan.proofs.EdgeSteps.{place_for}
use Rattle.binpack_scan.proofs.MapsOf.{an_entry, is_map, place_named, all_standing, are_maps, no_places, past_empty}
use Rattle.binpack_scan.proofs.Lists.{scans_made}
use Rattle.binpack_scan.proofs.KeptEdges.{IsJoined, edge_kept, top_map, top_listed}
use Rattle.binpack_scan.proofs.EdgeNames.{code_given, code_few}
use Rattle.binpack_scan.proofs.Said.{all_replay}

-- ---- lists

there : {A : Type 0} (xs : List A) (k : ℕ) (d : A) → k < length xs → slice_get xs k ≡ Some (slice_index_or xs k d)
there [] k d w = absurd (omega (arith, w))
there (x ∷ xs) zero d w = refl
there (x ∷ xs) (suc k) d w = there xs k d (omega (arith, w))

same_element : {A : Type 0} (xs : List A) (k : ℕ) (d e : A) → k < length xs → slice_index_or xs k d ≡ slice_index_or xs k e
same_element [] k d e w = absurd (omega (arith, w))
same_element (x ∷ xs) zero d e w = refl
same_element (x ∷ xs) (suc k) d e w = same_element xs k d e (omega (arith, w))

contains_get : {A : Type 0} (xs : List A) (k : ℕ) (x : A) → slice_get xs k ≡ Some x → Contains xs x
contains_get xs k x is = (k, slice_get_within xs k x is, get_or_from_slice_get xs k x x is)

contains_at : {A : Type 0} (xs : List A) (x : A) → Contains xs x → (k : ℕ) × (slice_get xs k ≡ Some x)
contains_at xs x (k, within, is) = (k, there xs k x within ∙ ap Some is)

front_length : {A : Type 0} (n : ℕ) (xs : List A) → n ≤ length xs → length (take n xs) ≡ n
front_length zero xs few = refl
front_length (suc n) [] few = absurd (omega (arith, few))
front_length (suc n) (x ∷ xs) few = ap suc (front_length n xs (omega (arith, few)))

front_get : {A : Type 0} (n : ℕ) (xs : List A) (k : ℕ) (d : A) → k < n → slice_index_or (take n xs) k d ≡ slice_index_or xs k d
front_get zero xs k d within = absurd (omega (arith, within))
front_get (suc n) [] k d within = refl
front_get (suc n) (x ∷ xs) zero d within = refl
front_get (suc n) (x ∷ xs) (suc k) d within = front_get n xs k d (omega (arith, within))

take_all : {A : Type 0} (xs : List A) → take (length xs) xs ≡ xs
take_all [] = refl
take_all (x ∷ xs) = ap (λ z. x ∷ z) (take_all xs)

-- an instruction that may go elsewhere stands last
ends_block : (insns : List TempInsn) (at : ℕ) (x : TempInsn) → EndsLate targets_of flows_on_of insns → slice_get insns at ≡ Some x → 0 < length (targets_of x) → suc at ≡ length insns
ends_block insns at x late is goes = ⊎_elim (λ e. e) (λ ne. absurd (inside ne)) (same_or_not (suc at) (length insns))
  where
    inside : suc at ≢ length insns → ⊥
    inside ne =
        let within = slice_get_within insns at x is in
        let below : at < length insns - 1 = omega (arith, within, ne) in
        let size = front_length (length insns - 1) insns (omega arith) in
        let straight = late at x (omega (arith, below, size)) in
        let same = front_get (length insns - 1) insns at x below ∙ get_or_from_slice_get insns at x x is in
        let none = (subst (IsStraight targets_of flows_on_of) same straight).0 in
        omega (arith, none, goes)

follows_last : (block : ℕ) (last : Option TempInsn) → goes_on last ≡ true → Contains (successors_after targets_of flows_on_of block last) (suc block)
follows_last block None out = (0, omega arith, refl)
follows_last block (Some i) out =
    Contains-append_right (targets_of i) (if flows_on_of i then suc block ∷ [] else []) (suc block)
    (subst (λ b. Contains (if b then suc block ∷ [] else []) (suc block)) (sym out) (0, omega arith, refl))

block_there : (block : Option (List TempInsn)) (at : ℕ) (x : TempInsn) → insn_in block at ≡ Some x → (insns : List TempInsn) × (block ≡ Some insns) × (slice_get insns at ≡ Some x)
block_there None at x is = absurd (cc)
block_there (Some insns) at x is = (insns, refl, is)

-- ---- an allocation whose edges are joined to a scan

pub record IsWhole (a : Plan) (tops : List (List Bool)) : Type 0 where
  pub joined : IsJoined a tops
  pub bottoms_size : length a.bottom ≡ length a.function.blocks
  pub ats : length a.at ≡ count_of a.function.blocks
  pub regs : length a.regs ≡ count_of a.function.blocks
  pub transfers : All (All (IsTransfer a.temps IsGivenRegister)) a.at
  pub registers : All (All IsGivenRegister) a.regs
  pub entry_is : slice_index_or a.top 0 [] ≡ []
  pub bounds : (t block : ℕ) → holds (slice_index_or tops block []) t ≡ true → t < a.temps
  pub targets : AllInsns (GoesToBlocks targets_of (length a.function.blocks)) a.function.blocks
  pub straight : All (EndsLate targets_of flows_on_of) a.function.blocks

module _ (a : Plan) (tops : List (List Bool)) (whole : IsWhole a tops) where
  abbrev blocks : List (List TempInsn)
  blocks = a.function.blocks

  -- an edge has code between maps
  edge_between : (k : ℕ) (d : EdgeCode) → k < length a.edges → IsEdgeCode a.bottom a.top tops tops (slice_index_or a.edges k d)
  edge_between k d within = whole.joined.codes k d within

  map_at_bottom : (block : ℕ) → IsMap (slice_index_or a.bottom block [])
  map_at_bottom block = by (nat_lt block (length a.function.blocks)) refl
    where
      by : (c : Bool) → nat_lt block (length a.function.blocks) ≡ c → IsMap (slice_index_or a.bottom block [])
      by true e = is_map a.temps true (slice_index_or tops block []) (slice_index_or a.bottom block []) (whole.joined.bottom block (ltb-true block (length a.function.blocks) e))
      by false e =
          let past = ltb-false block (length a.function.blocks) e in
          subst IsMap (sym (past_empty a.bottom block (let size = whole.bottoms_size in omega (arith, past, size)))) no_places

  edges_given : All (λ e. All (IsTransfer a.temps IsGivenOrScratch) e.code) a.edges
  edges_given k d within =
      let e = slice_index_or a.edges k d in
      code_given (slice_index_or a.bottom e.from []) (slice_index_or a.top e.to []) (slice_index_or tops e.to []) (slice_index_or tops e.to []) e.code (edge_between k d within)
      (map_at_bottom e.from) (top_map a tops whole.joined e.to) a.temps (λ t lv. whole.bounds t e.to lv) (top_listed a tops whole.joined e.to)

  pub edges_few : All (λ e. length e.code ≤ 91) a.edges
  edges_few k d within =
      let e = slice_index_or a.edges k d in
      let few = code_few (slice_index_or a.bottom e.from []) (slice_index_or a.top e.to []) (slice_index_or tops e.to []) (slice_index_or tops e.to []) e.code (edge_between k d within)
      (map_at_bottom e.from) (top_map a tops whole.joined e.to) in
      omega (arith, few)

  tops_standing : All (All (IsStanding a.temps)) a.top
  tops_standing k d within =
      let low : k < length a.function.blocks = (let size = whole.joined.tops_size in omega (arith, within, size)) in
      subst (All (IsStanding a.temps)) (same_element a.top k [] d within) (all_standing a.temps false (slice_index_or tops k []) (slice_index_or a.top k []) (whole.joined.top k low))

  bottoms_standing : All (All (IsStanding a.temps)) a.bottom
  bottoms_standing k d within =
      let low : k < length a.function.blocks = (let size = whole.bottoms_size in omega (arith, within, size)) in
      subst (All (IsStanding a.temps)) (same_element a.bottom k [] d within) (all_standing a.temps true (slice_index_or tops k []) (slice_index_or a.bottom k []) (whole.joined.bottom k low))

  lists : HasLists a
  lists = record {
    tops = whole.joined.tops_size;
    bottoms = whole.bottoms_size;
    ats = whole.ats;
    regs = whole.regs;
    stated = λ block at x is.
        let b = block_there (slice_get a.function.blocks block) at x is in
        (whole.joined.replays block b.0 b.1).stated at x b.2;
    edges = whole.joined.ends;
    standing = (tops_standing, bottoms_standing);
    transfers = whole.transfers;
    edge_transfers = edges_given;
    given = whole.registers;
  }

  entry_slot : (t : ℕ) → place_at_top a 0 t ≡ Slot t
  entry_slot t = ap (λ ss. named_place t (find (λ (s : TempPlace). s.temp == t) ss)) whole.entry_is

  entry : Includes (at_entry a) (at_top a 0)
  entry = record { each = each }
    where
      each : (n : Holder) (q : Place) → at_top a 0 n q → at_entry a n q
      each (Temp t) q (inl (lv, place)) = place ∙ entry_slot t
      each (Temp t) q (inr (needed, place)) = place
      each (Fixed r) q k = absurd k
      each (Incoming r) q k = absurd k
      each (Outgoing r) q k = absurd k

  bottoms : (block : ℕ) (insns : List TempInsn) → slice_get a.function.blocks block ≡ Some insns → Includes (held_before a block (length insns)) (at_bottom a block insns)
  bottoms block insns is = record { each = each }
    where
      ss : List TempPlace
      ss = slice_index_or a.bottom block []

      map_is : IsMapOf a.temps true (slice_index_or tops block []) (slice_index_or a.bottom block [])
      map_is = whole.joined.bottom block (slice_get_within a.function.blocks block insns is)

      named : (t : ℕ) (s : TempPlace) → Contains (slice_index_or a.bottom block []) s → s.temp ≡ t → place_at_bottom a block t ≡ top_place s.place
      named t s has same =
          let k = contains_at (slice_index_or a.bottom block []) s has in
          let e = an_entry a.temps true (slice_index_or tops block []) (slice_index_or a.bottom block []) map_is k.0 s k.1 in
          let own = (is_map a.temps true (slice_index_or tops block []) (slice_index_or a.bottom block []) map_is).own k.0 s k.1 in
          place_named a.temps true (slice_index_or tops block []) (slice_index_or a.bottom block []) map_is t
          ∙ ap (λ n. place_for t (register_for (slice_index_or a.bottom block []) n)) (sym same) ∙ ap (place_for t) own
          ∙ ap (λ p. place_for t (register_at p)) e.place ∙ sym (ap top_place e.place)

      each : (n : Holder) (q : Place) → at_bottom a block insns n q → held_before a block (length insns) n q
      each (Temp t) q (lv, (s, has, same, place)) =
          subst (λ p. held_before a block (length insns) (Temp t) p) (named t s has same ∙ sym place) ((whole.joined.replays block insns is).bottoms t lv)
      each (Fixed r) q k = absurd k
      each (Incoming r) q k = absurd k
      each (Outgoing r) q k = absurd k

  jump_edge : (block : ℕ) (insns : List TempInsn) → slice_get a.function.blocks block ≡ Some insns → (to : ℕ) → 0 < to → Contains (successors_of targets_of flows_on_of block insns) to → KeepsEdge a block to (held_before a block (length insns))
  jump_edge block insns is zero low has = absurd (omega (arith, low))
  jump_edge block insns is (suc j) low has = edge_kept a tops whole.joined block insns is j has

  jumps : (block at : ℕ) (x : TempInsn) → insn_at a.function.blocks block at ≡ Some x → (k to : ℕ) → slice_get (targets_of x) k ≡ Some to → KeepsEdge a block to (held_before a block (suc at))
  jumps block at x is k to goes =
      let b = block_there (slice_get a.function.blocks block) at x is in
      let inside = slice_get_within (targets_of x) k to goes in
      let late = all_at (EndsLate targets_of flows_on_of) a.function.blocks block b.0 whole.straight b.1 in
      let ends = ends_block b.0 at x late b.2 (omega (arith, inside)) in
      let all = all_at (All (GoesToBlocks targets_of (length a.function.blocks))) a.function.blocks block b.0 whole.targets b.1 in
      let own = all_at (GoesToBlocks targets_of (length a.function.blocks)) b.0 at x all b.2 in
      let low = (all_at (λ target. (0 < target) × (target < length a.function.blocks)) (targets_of x) k to own goes).0 in
      let place : length b.0 - 1 ≡ at = omega (arith, ends) in
      let last : last_of b.0 ≡ Some x = ap (slice_get b.0) place ∙ b.2 in
      subst (λ n. KeepsEdge a block to (held_before a block n)) (sym ends)
      (jump_edge block b.0 b.1 to low
      (subst (λ o. Contains (successors_after targets_of flows_on_of block o) to) (sym last)
      (Contains-append_left (targets_of x) (if flows_on_of x then suc block ∷ [] else []) to (contains_get (targets_of x) k to goes))))

  pub is_faithful : Faithful a
  is_faithful = record {
    lists = lists;
    entry = entry;
    moves = λ block at x is.
        let b = block_there (slice_get a.function.blocks block) at x is in
        (whole.joined.replays block b.0 b.1).moves at x b.2;
    temps_read = λ block at x is.
        let b = block_there (slice_get a.function.blocks block) at x is in
        (whole.joined.replays block b.0 b.1).temps_read at x b.2;
    fixed_read = λ block at x is.
        let b = block_there (slice_get a.function.blocks block) at x is in
        (whole.joined.replays block b.0 b.1).fixed_read at x b.2;
    bottoms = bottoms;
    jumps = jumps;
    follows = λ block insns is out. edge_kept a tops whole.joined block insns is block (follows_last block (last_of insns) out);
  }

  pub is_lean : IsLean a
  is_lean = record {
    before = λ block at x is.
        let b = block_there (slice_get a.function.blocks block) at x is in
        (whole.joined.replays block b.0 b.1).few at x b.2;
    on_edges = edges_few;
  }

-- ---- of a function

past_nothing : (sets : List (List Bool)) (bound count : ℕ) → AreBounded count bound sets → (t block : ℕ) → holds (slice_index_or sets block []) t ≡ true → t < bound
past_nothing sets bound count bounded t block e = by (nat_lt block count) refl
  where
    no_member : (xs : List Bool) (k : ℕ) → length xs ≤ k → slice_index_or xs k false ≡ true → ⊥
    no_member [] k past f = cc
    no_member (x ∷ xs) zero past f = omega (arith, past)
    no_member (x ∷ xs) (suc k) past f = no_member xs k (omega (arith, past)) f

    within : (xs : List Bool) → length xs ≡ bound → slice_index_or xs t false ≡ true → t < bound
    within xs size f = also (nat_lt t bound) refl
      where
        also : (c : Bool) → nat_lt t bound ≡ c → t < bound
        also true g = ltb-true t bound g
        also false g = absurd (no_member xs t (let past = ltb-false t bound g in omega (arith, past, size)) f)

    by : (c : Bool) → nat_lt block count ≡ c → t < bound
    by true f = within (slice_index_or sets block []) (bounded.bounds block (ltb-true block count f)) e
    by false f =
        let past = ltb-false block count f in
        let size = bounded.as_many in
        absurd (no_member [] t (omega arith) (ap (λ z. holds z t) (sym (past_empty sets block (omega (arith, past, size)))) ∙ e))

-- the maps of a scan are such
pub scan_maps : (temps : ℕ) (l : Lifetimes) (blocks : List (List TempInsn)) (tops : List (List Bool)) (maps : Maps) (lists : Lists) (bins : Bins) → AreBounded (length blocks) temps tops → ScansBlocks temps l blocks tops (length blocks) maps lists bins → AreMaps maps.top tops × AreMaps maps.bottom tops
scan_maps temps l blocks tops maps lists bins bounded scans =
    let made = scans_made temps l blocks tops scans in (
      are_maps temps (length blocks) false tops maps.top tops made.maps_are.tops_size bounded.as_many made.maps_are.top bounded.bounds,
      are_maps temps (length blocks) true tops maps.bottom tops made.maps_are.bottoms_size bounded.as_many made.maps_are.bottom bounded.bounds,
    )

-- an allocation with the maps and lists of a scan, and edges between its maps
pub scan_whole : (f : TempFn) (l : Lifetimes) (tops bottoms : List (List Bool)) (maps : Maps) (lists : Lists) (bins : Bins) → AreLifetimes f l →
    AreLive reads_of writes_of targets_of flows_on_of f.blocks f.temps tops bottoms → is_settled f.params f.blocks ≡ true →
    ScansBlocks f.temps l f.blocks tops (length f.blocks) maps lists bins → (a : Plan) → IsPlanOf f maps.top maps.bottom lists.transfers lists.registers a →
    ends_of a.edges ≡ sorted_edges_from 0 f.blocks → All (IsEdgeCode maps.bottom maps.top tops tops) a.edges → IsWhole a tops
scan_whole f l tops bottoms maps lists bins are live settled scans a plan ends codes =
    let made = scans_made f.temps l f.blocks tops scans in
    let same_size : length a.function.blocks ≡ length f.blocks = ap (λ z. length z) plan.blocks in
    let sum : count_of (take (length f.blocks) f.blocks) ≡ count_of a.function.blocks = ap (λ bs. count_of bs) (take_all f.blocks ∙ sym plan.blocks) in
    record {
      joined = record {
        tops_size = ap (λ z. length z) plan.top ∙ made.maps_are.tops_size ∙ sym same_size;
        top = λ b low. subst (λ n. IsMapOf n false (slice_index_or tops b []) (slice_index_or a.top b [])) (sym plan.temps) (subst (λ z. IsMapOf f.temps false (slice_index_or tops b []) (slice_index_or z b [])) (sym plan.top) (made.maps_are.top b (omega (arith, low, same_size))));
        bottom = λ b low. subst (λ n. IsMapOf n true (slice_index_or tops b []) (slice_index_or a.bottom b [])) (sym plan.temps) (subst (λ z. IsMapOf f.temps true (slice_index_or tops b []) (slice_index_or z b [])) (sym plan.bottom) (made.maps_are.bottom b (omega (arith, low, same_size))));
        live = λ t b. subst (λ bs. (holds (slice_index_or tops b []) t ≡ true) ↔ Live reads_of writes_of targets_of flows_on_of bs t b 0) (sym plan.blocks) (live.live_at_top t b);
        replays = λ b insns is. all_replay f l tops bottoms maps lists bins are live f.registers settled scans a plan b insns (ap (λ bs. slice_get bs b) (sym plan.blocks) ∙ is);
        ends = ends ∙ ap (λ bs. sorted_edges_from 0 bs) (sym plan.blocks);
        codes = subst (λ z. All (IsEdgeCode z a.top tops tops) a.edges) (sym plan.bottom) (subst (λ z. All (IsEdgeCode maps.bottom z tops tops) a.edges) (sym plan.top) codes);
      };
      bottoms_size = ap (λ z. length z) plan.bottom ∙ made.maps_are.bottoms_size ∙ sym same_size;
      ats = ap (λ z. length z) plan.at ∙ made.transfers_size ∙ sum;
      regs = ap (λ z. length z) plan.regs ∙ made.registers_size ∙ sum;
      transfers = subst (λ n. All (All (IsTransfer n IsGivenRegister)) a.at) (sym plan.temps) (subst (All (All (IsTransfer f.temps IsGivenRegister))) (sym plan.at) made.made.transfers);
      registers = subst (All (All IsGivenRegister)) (sym plan.regs) made.made.registers;
      entry_is = ap (λ z. slice_index_or z 0 []) plan.top ∙ made.entry_is;
      bounds = λ t b lv. subst (λ n. t < n) (sym plan.temps) (past_nothing tops f.temps (length f.blocks) live.tops_bounded t b lv);
      targets = subst (λ bs. AllInsns (GoesToBlocks targets_of (length bs)) bs) (sym plan.blocks) f.targets;
      straight = subst (All (EndsLate targets_of flows_on_of)) (sym plan.blocks) f.straight;
    }

-- ---- slices of lists

pub same_maps : (xs ys : List (List TempPlace)) (ss ts : List (List Bool)) → xs ≡ ys → ss ≡ ts → AreMaps ys ts → AreMaps xs ss
same_maps xs ys ss ts e f are = subst (λ z. AreMaps z ss) (sym e) (subst (AreMaps ys) (sym f) are)

pub same_codes : (bs cs xs ys : List (List TempPlace)) (ls ms ns os : List (List Bool)) (edges : List EdgeCode) → bs ≡ cs → xs ≡ ys → ls ≡ ms → ns ≡ os → All (IsEdgeCode bs xs ls ns) edges → All (IsEdgeCode cs ys ms os) edges
same_codes bs cs xs ys ls ms ns os edges e f g h all =
    subst (λ z. All (IsEdgeCode z ys ms os) edges) e (subst (λ z. All (IsEdgeCode bs z ms os) edges) f
    (subst (λ z. All (IsEdgeCode bs xs z os) edges) g (subst (λ z. All (IsEdgeCode bs xs ls z) edges) h all)))

-- ---- the allocation

pub faithful_of : (f : TempFn) (l : Lifetimes) (tops bottoms : List (List Bool)) (maps : Maps) (lists : Lists) (bins : Bins) → AreLifetimes f l →
    AreLive reads_of writes_of targets_of flows_on_of f.blocks f.temps tops bottoms → is_settled f.params f.blocks ≡ true →
    ScansBlocks f.temps l f.blocks tops (length f.blocks) maps lists bins → (a : Plan) → IsPlanOf f maps.top maps.bottom lists.transfers lists.registers a →
    ends_of a.edges ≡ sorted_edges_from 0 f.blocks → All (IsEdgeCode maps.bottom maps.top tops tops) a.edges → Faithful a
faithful_of f l tops bottoms maps lists bins are live settled scans a plan ends codes =
    is_faithful a tops (scan_whole f l tops bottoms maps lists bins are live settled scans a plan ends codes)

pub lean_of : (f : TempFn) (l : Lifetimes) (tops bottoms : List (List Bool)) (maps : Maps) (lists : Lists) (bins : Bins) → AreLifetimes f l →
    AreLive reads_of writes_of targets_of flows_on_of f.blocks f.temps tops bottoms → is_settled f.params f.blocks ≡ true →
    ScansBlocks f.temps l f.blocks tops (length f.blocks) maps lists bins → (a : Plan) → IsPlanOf f maps.top maps.bottom lists.transfers lists.registers a →
    ends_of a.edges ≡ sorted_edges_from 0 f.blocks → All (IsEdgeCode maps.bottom maps.top tops tops) a.edges → IsLean a
lean_of f l tops bottoms maps lists bins are live settled scans a plan ends codes =
    is_lean a tops (scan_whole f l tops bottoms maps lists bins are live settled scans a plan ends codes)
