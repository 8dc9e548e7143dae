-- What flows between blocks that make what they read first and stop what they write is what is live.
use Rattle.std.proofs.Common.{◌≡◌, ℕ, zero, suc, ◌+◌, ◌<◌, ◌≤◌, ◌⊎◌, ◌==◌, ◌&&◌, ◌||◌, not, Bool, true, false, List, [], ◌∷◌, refl, sym, ap, ◌∙◌, subst, inl, inr, ⊎_elim, length, get_or, drop, arith, Option, Some, None}
use Rattle.std.specs.Prelude.{slice_get, Contains}
use Rattle.std.proofs.lemmas.Bool.{cases_lt, eq-eqb, eqb-true}
use Rattle.std.proofs.lemmas.List.{get_or_past}
use Rattle.std.proofs.lemmas.Option.{slice_get_within, get_or_from_slice_get, slice_get-get_or, none-some, same_Some}
use Rattle.pass_core.specs.Functions.{insn_in, insn_at, successors_of}
use Rattle.pass_core.specs.Live.{Live}
use Rattle.pass_core.specs.Live.Live.{IsRead, Passes, Follows}
use Rattle.cfg.specs.Edges.{successors_from}
use Rattle.bk_bits.specs.Sets.{has}
use Rattle.bitvector_flow.specs.Flows.{has_at, FlowsOut, FlowsIn}
use Rattle.bitvector_flow.specs.model.Flows.{AreFlows}
use Rattle.bitvector_flow.specs.Flows.FlowsOut.{IsMade, Passes as GoesThrough}
use Rattle.bitvector_flow.specs.Lives.{has_register, reads_first, some_writes, AreLive}
use Rattle.bitvector_flow.specs.model.Blocks.{AreBlockSets}

-- ---- truth values

pub either : (a b : Bool) → (a ≡ true) ⊎ (b ≡ true) → (a || b) ≡ true
either true b h = refl
either false b (inl h) = let no : ⊥ = cc in absurd no
either false b (inr h) = h

pub or_cases : (a b : Bool) → (a || b) ≡ true → (a ≡ true) ⊎ (b ≡ true)
or_cases true b h = inl refl
or_cases false b h = inr h

pub or_neither : (a b : Bool) → (a || b) ≡ false → (a ≡ false) × (b ≡ false)
or_neither true b h = let no : ⊥ = cc in absurd no
or_neither false b h = (refl, h)

pub neither_made : (a b : Bool) → a ≡ false → b ≡ false → (a || b) ≡ false
neither_made true b h g = h
neither_made false b h g = g

pub and_left : (a b : Bool) → (not a && b) ≡ true → a ≡ false
and_left true b h = sym h
and_left false b h = refl

pub and_right : (a b : Bool) → (not a && b) ≡ true → b ≡ true
and_right true b h = let no : ⊥ = cc in absurd no
and_right false b h = h

pub and_made : (a b : Bool) → a ≡ false → b ≡ true → (not a && b) ≡ true
and_made true b h g = let no : ⊥ = cc in absurd no
and_made false b h g = g

not_true : (b : Bool) → (b ≡ true → ⊥) → b ≡ false
not_true true none = absurd (none refl)
not_true false none = refl

nil-cons : {A : Type 0} (x : A) (xs : List A) → [] ≡ x ∷ xs → ⊥
nil-cons x xs e = let size = ap length e in omega (arith, size)

-- ---- a list of registers

pub names_of : (registers : List ℕ) (t : ℕ) → Contains registers t → has_register registers t ≡ true
names_of [] t (k, within, is) = absurd (omega (arith, within))
names_of (r ∷ rs) t (zero, within, is) = either (r == t) (has_register rs t) (inl (eq-eqb r t is))
names_of (r ∷ rs) t (suc k, within, is) = either (r == t) (has_register rs t) (inr (names_of rs t (k, omega (arith, within), is)))

pub of_names : (registers : List ℕ) (t : ℕ) → has_register registers t ≡ true → Contains registers t
of_names [] t h = let no : ⊥ = cc in absurd no
of_names (r ∷ rs) t h = ⊎_elim (λ here. (0, omega arith, eqb-true r t here)) (λ there. further (of_names rs t there)) (or_cases (r == t) (has_register rs t) h)
  where
    further : Contains rs t → Contains (r ∷ rs) t
    further (k, within, is) = (suc k, omega (arith, within), is)

pub names_none : (registers : List ℕ) (t : ℕ) → (Contains registers t → ⊥) → has_register registers t ≡ false
names_none registers t none = not_true (has_register registers t) (λ h. none (of_names registers t h))

pub none_of : (registers : List ℕ) (t : ℕ) → has_register registers t ≡ false → Contains registers t → ⊥
none_of registers t h is = let there = names_of registers t is in cc

module _ {A : Type 0} where
  -- what stands at a place, and behind it
  pub drop_first : (xs : List A) (at : ℕ) (x : A) (rest : List A) → drop at xs ≡ x ∷ rest → (slice_get xs at ≡ Some x) × (drop (suc at) xs ≡ rest) × (at < length xs)
  drop_first [] zero x rest e = absurd (nil-cons x rest e)
  drop_first [] (suc at) x rest e = absurd (nil-cons x rest e)
  drop_first (y ∷ xs) zero x rest e = (ap (λ ys. slice_get ys 0) e, ap (drop 1) e, omega arith)
  drop_first (y ∷ xs) (suc at) x rest e = let below = drop_first xs at x rest e in (below.0, below.1, (let inside = below.2 in omega (arith, inside)))

  pub drop_there : (xs : List A) (at : ℕ) (x : A) → slice_get xs at ≡ Some x → drop at xs ≡ x ∷ drop (suc at) xs
  drop_there [] at x is = absurd (none-some x is)
  drop_there (y ∷ xs) zero x is = ap (λ z. z ∷ xs) (same_Some y x is)
  drop_there (y ∷ xs) (suc at) x is = drop_there xs at x is

  pub drop_none : (xs : List A) (at : ℕ) → drop at xs ≡ [] → length xs ≤ at
  drop_none [] at e = omega arith
  drop_none (y ∷ xs) zero e = absurd (nil-cons y xs (sym e))
  drop_none (y ∷ xs) (suc at) e = let rest = drop_none xs at e in omega (arith, rest)

  pub drop_end : (xs : List A) → drop (length xs) xs ≡ []
  drop_end [] = refl
  drop_end (y ∷ xs) = drop_end xs

module _ {I : Type 0} (reads writes targets : I → List ℕ) (flows_on : I → Bool) (blocks : List (List I)) (t : ℕ) where
  abbrev pub IsLive : (block at : ℕ) → Type 0
  IsLive block at = Live reads writes targets flows_on blocks t block at

  there : (block at : ℕ) (insns : List I) (i : I) → slice_get blocks block ≡ Some insns → slice_get insns at ≡ Some i → insn_at blocks block at ≡ Some i
  there block at insns i block_is is = ap (λ b. insn_in b at) block_is ∙ is

  -- what is read first in the rest of a block is live there
  pub live_by_read : (block at : ℕ) (insns xs : List I) → slice_get blocks block ≡ Some insns → drop at insns ≡ xs → reads_first reads writes xs t ≡ true → IsLive block at
  live_by_read block at insns [] block_is e h = let no : ⊥ = cc in absurd no
  live_by_read block at insns (i ∷ xs) block_is e h =
      let d = drop_first insns at i xs e in
      ⊎_elim
      (λ here. IsRead i (there block at insns i block_is d.0) (of_names (reads i) t here))
      (λ later. Passes i (there block at insns i block_is d.0) (none_of (writes i) t (and_left (has_register (writes i) t) (reads_first reads writes xs t) later))
      (live_by_read block (suc at) insns xs block_is d.1 (and_right (has_register (writes i) t) (reads_first reads writes xs t) later)))
      (or_cases (has_register (reads i) t) (not (has_register (writes i) t) && reads_first reads writes xs t) h)

  -- and what is live at the bottom, where the rest does not write it
  pub live_from_bottom : (block at : ℕ) (insns xs : List I) → slice_get blocks block ≡ Some insns → drop at insns ≡ xs → at ≤ length insns → some_writes writes xs t ≡ false → IsLive block (length insns) → IsLive block at
  live_from_bottom block at insns [] block_is e few h live =
      let past = drop_none insns at e in subst (IsLive block) (let same : length insns ≡ at = omega (arith, past, few) in same) live
  live_from_bottom block at insns (i ∷ xs) block_is e few h live =
      let d = drop_first insns at i xs e in
      let neither = or_neither (has_register (writes i) t) (some_writes writes xs t) h in
      Passes i (there block at insns i block_is d.0) (none_of (writes i) t neither.0)
      (live_from_bottom block (suc at) insns xs block_is d.1 (let inside = d.2 in omega (arith, inside)) neither.1 live)

  pub live_block : (block at : ℕ) → IsLive block at → (insns : List I) × (slice_get blocks block ≡ Some insns)
  live_block block at (IsRead i is has) = block_of (slice_get blocks block) at i is
    where
      block_of : (b : Option (List I)) (at : ℕ) (i : I) → insn_in b at ≡ Some i → (insns : List I) × (b ≡ Some insns)
      block_of None at i is = absurd (none-some i is)
      block_of (Some insns) at i is = (insns, refl)
  live_block block at (Passes i is none live) = live_block block (suc at) live
  live_block block at (Follows insns next block_is end leads live) = (insns, block_is)

  in_block : (block at : ℕ) (insns : List I) (i : I) → slice_get blocks block ≡ Some insns → insn_at blocks block at ≡ Some i → slice_get insns at ≡ Some i
  in_block block at insns i block_is is = sym (ap (λ b. insn_in b at) block_is) ∙ is

  module _ (firsts lasts : List (List Bool)) (registers : ℕ) (are : AreBlockSets reads writes registers blocks firsts lasts) where
    abbrev Out : ℕ → Type 0
    Out block = FlowsOut (has_at firsts) (has_at lasts) (successors_from targets flows_on 0 blocks) t block

    abbrev In : ℕ → Type 0
    In block = FlowsIn (has_at firsts) (has_at lasts) (successors_from targets flows_on 0 blocks) t block

    read_in : (block : ℕ) (insns : List I) → slice_get blocks block ≡ Some insns → has_at firsts block t ≡ reads_first reads writes insns t
    read_in block insns block_is = are.read block t ∙ ap (λ b. reads_first reads writes b t) (get_or_from_slice_get blocks block insns [] block_is)

    written_in : (block : ℕ) (insns : List I) → slice_get blocks block ≡ Some insns → has_at lasts block t ≡ some_writes writes insns t
    written_in block insns block_is = are.written block t ∙ ap (λ b. some_writes writes b t) (get_or_from_slice_get blocks block insns [] block_is)

    next_of : (block : ℕ) (insns : List I) → slice_get blocks block ≡ Some insns → get_or (successors_from targets flows_on 0 blocks) block [] ≡ successors_of targets flows_on block insns
    next_of block insns block_is = next_from 0 blocks block insns block_is ∙ ap (λ n. successors_of targets flows_on n insns) (let e : 0 + block ≡ block = omega arith in e)
      where
        next_from : (n : ℕ) (bs : List (List I)) (block : ℕ) (insns : List I) → slice_get bs block ≡ Some insns → get_or (successors_from targets flows_on n bs) block [] ≡ successors_of targets flows_on (n + block) insns
        next_from n [] block insns is = absurd (none-some insns is)
        next_from n (b ∷ bs) zero insns is = ap (successors_of targets flows_on n) (same_Some b insns is) ∙ ap (λ m. successors_of targets flows_on m insns) (let e : n ≡ n + 0 = omega arith in e)
        next_from n (b ∷ bs) (suc block) insns is = next_from (suc n) bs block insns is ∙ ap (λ m. successors_of targets flows_on m insns) (let e : suc n + block ≡ n + suc block = omega arith in e)

    many_next : length (successors_from targets flows_on 0 blocks) ≡ length blocks
    many_next = count 0 blocks
      where
        count : (n : ℕ) (bs : List (List I)) → length (successors_from targets flows_on n bs) ≡ length bs
        count n [] = refl
        count n (b ∷ bs) = ap suc (count (suc n) bs)

    -- ---- what flows is live

    block_at : (block : ℕ) → block < length blocks → slice_get blocks block ≡ Some (get_or blocks block [])
    block_at block within = slice_get-get_or blocks block [] within

    next_inside : (block next : ℕ) → Contains (get_or (successors_from targets flows_on 0 blocks) block []) next → block < length blocks
    next_inside block next (k, within, is) = ⊎_elim (λ below. below)
        (λ past. absurd (let none = ap length (get_or_past (successors_from targets flows_on 0 blocks) block [] (omega (arith, past, many_next))) in omega (arith, none, within)))
        (cases_lt block (length blocks))

    live_at_end : (block next : ℕ) → Contains (get_or (successors_from targets flows_on 0 blocks) block []) next → IsLive next 0 → (insns : List I) → slice_get blocks block ≡ Some insns → IsLive block (length insns)
    live_at_end block next leads live insns block_is = Follows insns next block_is refl (subst (λ ns. Contains ns next) (next_of block insns block_is) leads) live

    pub out_live : (block : ℕ) → Out block → IsLive block 0
    out_live block (IsMade within made) =
        let block_is = block_at block (omega (arith, within, many_next)) in
        live_by_read block 0 (get_or blocks block []) (get_or blocks block []) block_is refl (sym (read_in block (get_or blocks block []) block_is) ∙ made)
    out_live block (GoesThrough next goes leads flows) =
        let block_is = block_at block (next_inside block next leads) in
        live_from_bottom block 0 (get_or blocks block []) (get_or blocks block []) block_is refl (omega arith) (sym (written_in block (get_or blocks block []) block_is) ∙ goes)
        (live_at_end block next leads (out_live next flows) (get_or blocks block []) block_is)

    -- ---- what is live flows

    flows_by : (block : ℕ) (insns : List I) → slice_get blocks block ≡ Some insns → (reads_first reads writes insns t ≡ true) ⊎ ((some_writes writes insns t ≡ false) × In block) → Out block
    flows_by block insns block_is (inl read) = IsMade (let within = slice_get_within blocks block insns block_is in omega (arith, within, many_next)) (read_in block insns block_is ∙ read)
    flows_by block insns block_is (inr (unwritten, into)) = GoesThrough into.next (written_in block insns block_is ∙ unwritten) into.is_next into.flows

    live_rest : (block at : ℕ) → IsLive block at → (insns xs : List I) → slice_get blocks block ≡ Some insns → drop at insns ≡ xs → (reads_first reads writes xs t ≡ true) ⊎ ((some_writes writes xs t ≡ false) × In block)
    live_rest block at (IsRead i is named) insns xs block_is e =
        let list : drop at insns ≡ i ∷ drop (suc at) insns = drop_there insns at i (in_block block at insns i block_is is) in
        inl (ap (λ ys. reads_first reads writes ys t) (sym e ∙ list)
        ∙ either (has_register (reads i) t) (not (has_register (writes i) t) && reads_first reads writes (drop (suc at) insns) t) (inl (names_of (reads i) t named)))
    live_rest block at (Passes i is none live) insns xs block_is e =
        let list : drop at insns ≡ i ∷ drop (suc at) insns = drop_there insns at i (in_block block at insns i block_is is) in
        let unwritten = names_none (writes i) t none in
        ⊎_elim
        (λ later. inl (ap (λ ys. reads_first reads writes ys t) (sym e ∙ list)
        ∙ either (has_register (reads i) t) (not (has_register (writes i) t) && reads_first reads writes (drop (suc at) insns) t)
        (inr (and_made (has_register (writes i) t) (reads_first reads writes (drop (suc at) insns) t) unwritten later))))
        (λ through. inr ((ap (λ ys. some_writes writes ys t) (sym e ∙ list) ∙ neither_made (has_register (writes i) t) (some_writes writes (drop (suc at) insns) t) unwritten through.0), through.1))
        (live_rest block (suc at) live insns (drop (suc at) insns) block_is refl)
    live_rest block at (Follows last next block_is end leads live) insns xs insns_is e =
        let same : last ≡ insns = same_Some last insns (sym block_is ∙ insns_is) in
        let none : xs ≡ [] = sym e ∙ ap (λ n. drop n insns) (end ∙ ap length same) ∙ drop_end insns in
        let there = live_block next 0 live in
        inr (
          ap (λ ys. some_writes writes ys t) none,
          record {
            next = next;
            is_next = subst (λ ns. Contains ns next) (sym (next_of block last block_is)) leads;
            flows = flows_by next there.0 there.1 (live_rest next 0 live there.0 there.0 there.1 refl);
          },
        )

    live_out : (block : ℕ) → IsLive block 0 → (insns : List I) × (slice_get blocks block ≡ Some insns) → Out block
    live_out block live (insns, block_is) = flows_by block insns block_is (live_rest block 0 live insns insns block_is refl)

    pub live_in : (block : ℕ) (insns : List I) → slice_get blocks block ≡ Some insns → IsLive block (length insns) → In block
    live_in block insns block_is live = into (live_rest block (length insns) live insns [] block_is (drop_end insns))
      where
        into : (reads_first reads writes [] t ≡ true) ⊎ ((some_writes writes [] t ≡ false) × In block) → In block
        into (inl h) = let no : ⊥ = cc in absurd no
        into (inr (h, flows)) = flows

    pub out_of_live : (block : ℕ) → IsLive block 0 → Out block
    out_of_live block live = live_out block live (live_block block 0 live)

    pub in_live : (block : ℕ) (insns : List I) → slice_get blocks block ≡ Some insns → In block → IsLive block (length insns)
    in_live block insns block_is into = live_at_end block into.next into.is_next (out_live into.next into.flows) insns block_is

pub live_by_flow : {I : Type 0} (reads writes targets : I → List ℕ) (flows_on : I → Bool) (blocks : List (List I)) (registers : ℕ) (firsts lasts outs ins : List (List Bool)) →
    AreBlockSets reads writes registers blocks firsts lasts → AreFlows (has_at firsts) (has_at lasts) (successors_from targets flows_on 0 blocks) registers outs ins →
    AreLive reads writes targets flows_on blocks registers outs ins
live_by_flow reads writes targets flows_on blocks registers firsts lasts outs ins are flows =
    let many = many_next reads writes targets flows_on blocks 0 firsts lasts registers are in
    record {
      tops_bounded = record { as_many = flows.outs_bounded.as_many ∙ many; bounds = λ b below. flows.outs_bounded.bounds b (omega (arith, below, many)) };
      bottoms_bounded = record { as_many = flows.ins_bounded.as_many ∙ many; bounds = λ b below. flows.ins_bounded.bounds b (omega (arith, below, many)) };
      live_at_top = λ t block. (
        λ h. out_live reads writes targets flows_on blocks t firsts lasts registers are block ((flows.flows_out block t).0 h),
        λ live. (flows.flows_out block t).1 (out_of_live reads writes targets flows_on blocks t firsts lasts registers are block live),
      );
      live_at_bottom = λ t block insns is. (
        λ h. in_live reads writes targets flows_on blocks t firsts lasts registers are block insns is ((flows.flows_in block t).0 h),
        λ live. (flows.flows_in block t).1 (live_in reads writes targets flows_on blocks t firsts lasts registers are block insns is live),
      );
    }

pub successors_count : {I : Type 0} (targets : I → List ℕ) (flows_on : I → Bool) (n : ℕ) (blocks : List (List I)) → length (successors_from targets flows_on n blocks) ≡ length blocks
successors_count targets flows_on n [] = refl
successors_count targets flows_on n (b ∷ blocks) = ap suc (successors_count targets flows_on (suc n) blocks)

-- in the words of the code
pub live_found : {I : Type 0} (reads writes targets : I → List ℕ) (flows_on : I → Bool) (blocks shown : List (List I)) (nexts : List (List ℕ)) (registers : ℕ)
    (firsts lasts shown_lasts outs ins top bottom : List (List Bool)) → shown ≡ blocks → nexts ≡ successors_from targets flows_on 0 blocks → shown_lasts ≡ lasts → top ≡ outs → bottom ≡ ins →
    AreBlockSets reads writes registers shown firsts lasts → AreFlows (has_at firsts) (has_at shown_lasts) nexts registers outs ins →
    AreLive reads writes targets flows_on blocks registers top bottom
live_found reads writes targets flows_on blocks shown nexts registers firsts lasts shown_lasts outs ins top bottom shown_is nexts_is lasts_is top_is bottom_is are flows =
    subst (λ o. AreLive reads writes targets flows_on blocks registers o bottom) (sym top_is)
    (subst (AreLive reads writes targets flows_on blocks registers outs) (sym bottom_is)
    (live_by_flow reads writes targets flows_on blocks registers firsts lasts outs ins
    (subst (λ bs. AreBlockSets reads writes registers bs firsts lasts) shown_is are)
    (subst (λ ns. AreFlows (has_at firsts) (has_at lasts) ns registers outs ins) nexts_is
    (subst (λ ls. AreFlows (has_at firsts) (has_at ls) nexts registers outs ins) lasts_is flows))))
