-- A function whose jumps go on past others is a function, and costs what the function does.
use Rattle.std.proofs.Common.{◌≡◌, ℕ, zero, suc, ◌+◌, ◌-◌, ◌<◌, ◌⊎◌, ◌||◌, ◌&&◌, nat_lt, List, [], ◌∷◌, ◌++◌, length, map, take, drop, set, get_or, sum_by, Bool, true, false, Option, Some, None, All, refl, sym, ap, ◌∙◌, subst, inl, inr, ⊎_elim, arith}
use Rattle.std.specs.Prelude.{IsTrue, slice_get, slice_index_or, option_map, if◌then◌else◌}
use Rattle.std.specs.List.{list_all}
use Rattle.std.proofs.lemmas.Bool.{lt-ltb, ltb-true, and_parts}
use Rattle.std.proofs.lemmas.List.{length-map, take_all, take-append-le}
use Rattle.std.proofs.lemmas.List.Sums.{sum_by-cons}
use Rattle.std.proofs.lemmas.Option.{slice_get-map, none-some}
use Rattle.std.proofs.lemmas.List.Elements.{All-nil, All-cons, All-head, All-tail}
use Rattle.suifvm_ir.specs.declared.insn.VmInsn.{VmInsn}
use Rattle.suifvm_ir.specs.declared.insn.VmInsn.TheVariants as x
use Rattle.suifvm_ir.specs.Insns.{reads_of, writes_of, targets_of, flows_on_of}
use Rattle.pass_core.specs.Functions.{AllInsns, GoesToBlocks, UsesRegisters, IsStraight, EndsLate, stops, block_stops, insn_stops, count_of, edge_count, last_of, front_of, successors_after, successors_of}
use Rattle.suifvm_ir.specs.Cost.{insn_cost}
use Rattle.suifvm_ir.specs.Programs.{VmFunction, weight_of, first_is_mark, begins_with_mark, goes_back_to_marks}
use Rattle.flow_clean.specs.Chains.{jump_target, only_jump, jump_in, passes_to, LeadsTo, retargeted, NonePassesOn, GoesBackToMarks, IsChainedOf, MeasuresStay}
use Rattle.flow_clean.specs.Chains.LeadsTo.{IsEnd, PassesOn}
use Rattle.flow_clean.specs.model.Ends.{AreEndsFrom}
use Rattle.flow_clean.proofs.Retargeted.{same, reads_same, writes_same, flows_same, targets_are, cost_same, weight_same}
use Rattle.flow_clean.proofs.ChainEnds.{next_inside, next_marked, marked_ends}

-- what holds of each element after a change that keeps it
all_mapped : {A B : Type 0} (f : A → B) (P : A → Type 0) (Q : B → Type 0) → ((x : A) → P x → Q (f x)) → (xs : List A) → All P xs → All Q (map f xs)
all_mapped f P Q kept [] h = All-nil Q
all_mapped f P Q kept (x ∷ xs) h = All-cons Q (f x) (map f xs) (kept x (All-head P x xs h)) (all_mapped f P Q kept xs (All-tail P x xs h))

-- what holds of each element of a list whose elements are numbered
all_numbered : {A : Type 0} (P : A → Type 0) (xs : List A) (k : ℕ) (d : A) → All P xs → k < length xs → P (slice_index_or xs k d)
all_numbered P xs k d h within = h k d within

-- ---- how the ends lie

module _ (blocks : List (List VmInsn)) (targets : AllInsns (GoesToBlocks targets_of (length blocks)) blocks) (marks : GoesBackToMarks blocks) where
  pub end_passes_not : (block end : ℕ) → LeadsTo blocks block end → passes_to blocks end ≡ None
  end_passes_not block _ (IsEnd none) = none
  end_passes_not block end (PassesOn next passes rest) = end_passes_not next end rest

  pub end_inside : (block end : ℕ) → 0 < block → block < length blocks → LeadsTo blocks block end → (0 < end) × (end < length blocks)
  end_inside block _ low within (IsEnd none) = (low, within)
  end_inside block end low within (PassesOn next passes rest) =
      let inside = next_inside blocks targets marks block next within passes in
      end_inside next end inside.0 inside.1 rest

  abbrev IsBehind : (from block : ℕ) → Type 0
  IsBehind from block = (from < block) ⊎ (begins_with_mark (slice_get blocks block) ≡ true)

  pub end_behind : (from block end : ℕ) → block < length blocks → IsBehind from block → LeadsTo blocks block end → IsBehind from end
  end_behind from block _ within behind (IsEnd none) = behind
  end_behind from block end within behind (PassesOn next passes rest) =
      let later = ⊎_elim (λ (w : from < block). w)
      (λ mark. absurd (none-some next (sym (marked_ends (slice_get blocks block) mark) ∙ passes))) behind in
      let inside = next_inside blocks targets marks block next within passes in
      ⊎_elim (λ (w : block < end). inl (omega (arith, w, later))) (λ mark. inr mark)
      (end_behind block next end inside.1 (next_marked blocks targets marks block next within passes) rest)

-- ---- blocks with other targets

module _ (ends : List ℕ) where
  abbrev seen : List VmInsn → List VmInsn
  seen insns = map (retargeted ends) insns

  jump_after : (i : VmInsn) → jump_target (retargeted ends i) ≡ option_map (λ b. slice_index_or ends b 0) (jump_target i)
  jump_after (x.Jump block) = refl
  jump_after (x.Branch op ty source block) = refl
  jump_after (x.LoadConstant ty d word) = refl
  jump_after (x.LoadAddress d place plus) = refl
  jump_after (x.Load ty d p plus) = refl
  jump_after (x.Store ty p plus b) = refl
  jump_after (x.Copy to from size align) = refl
  jump_after (x.Unary op ty d b) = refl
  jump_after (x.Binary op ty d b c) = refl
  jump_after (x.Shift op ty d b c) = refl
  jump_after (x.Convert from to d b) = refl
  jump_after (x.Compare op ty d b c) = refl
  jump_after (x.Call d c arguments) = refl
  jump_after (x.Return value) = refl
  jump_after x.Mark = refl
  jump_after x.Nop = refl

  only_after : (insns : List VmInsn) → only_jump (seen insns) ≡ option_map (λ b. slice_index_or ends b 0) (only_jump insns)
  only_after [] = refl
  only_after (i ∷ []) = jump_after i
  only_after (i ∷ j ∷ insns) = refl

  in_after : (o : Option (List VmInsn)) → jump_in (option_map seen o) ≡ option_map (λ b. slice_index_or ends b 0) (jump_in o)
  in_after None = refl
  in_after (Some insns) = only_after insns

  passes_after : (blocks : List (List VmInsn)) (block : ℕ) → passes_to blocks block ≡ None → passes_to (map seen blocks) block ≡ None
  passes_after blocks block none = ap jump_in (slice_get-map seen blocks block) ∙ in_after (slice_get blocks block) ∙ ap (option_map (λ b. slice_index_or ends b 0)) none

  first_after : (insns : List VmInsn) → first_is_mark (slice_get (seen insns) 0) ≡ first_is_mark (slice_get insns 0)
  first_after [] = refl
  first_after (i ∷ insns) = same ends (λ j. first_is_mark (Some j)) (λ op ty source block other. refl) (λ block other. refl) i

  begins_after : (o : Option (List VmInsn)) → begins_with_mark (option_map seen o) ≡ begins_with_mark o
  begins_after None = refl
  begins_after (Some insns) = first_after insns

  mark_after : (blocks : List (List VmInsn)) (block : ℕ) → begins_with_mark (slice_get (map seen blocks) block) ≡ begins_with_mark (slice_get blocks block)
  mark_after blocks block = ap begins_with_mark (slice_get-map seen blocks block) ∙ begins_after (slice_get blocks block)

  length_same : (insns : List VmInsn) → length (seen insns) ≡ length insns
  length_same insns = length-map insns (retargeted ends)

  sum_same : (m : VmInsn → ℕ) → ((i : VmInsn) → m (retargeted ends i) ≡ m i) → (insns : List VmInsn) → sum_by m (seen insns) ≡ sum_by m insns
  sum_same m kept [] = refl
  sum_same m kept (i ∷ insns) = omega (arith, kept i, sum_same m kept insns, sum_by-cons m (retargeted ends i) (seen insns), sum_by-cons m i insns)

  take_same : (n : ℕ) (insns : List VmInsn) → take n (seen insns) ≡ seen (take n insns)
  take_same zero [] = refl
  take_same zero (i ∷ insns) = refl
  take_same (suc n) [] = refl
  take_same (suc n) (i ∷ insns) = ap (λ l. retargeted ends i ∷ l) (take_same n insns)

  front_same : (insns : List VmInsn) → front_of (seen insns) ≡ seen (front_of insns)
  front_same insns = ap (λ n. take (n - 1) (seen insns)) (length_same insns) ∙ take_same (length insns - 1) insns

  last_same : (insns : List VmInsn) → last_of (seen insns) ≡ option_map (retargeted ends) (last_of insns)
  last_same insns = ap (λ n. slice_get (seen insns) (n - 1)) (length_same insns) ∙ slice_get-map (retargeted ends) insns (length insns - 1)

  targets_length : (i : VmInsn) → length (targets_of (retargeted ends i)) ≡ length (targets_of i)
  targets_length i = ap length (targets_are ends i) ∙ length-map (targets_of i) (λ b. slice_index_or ends b 0)

  straight_kept : (i : VmInsn) → IsStraight targets_of flows_on_of i → IsStraight targets_of flows_on_of (retargeted ends i)
  straight_kept i h = (targets_length i ∙ h.0, flows_same ends i ∙ h.1)

  late_kept : (insns : List VmInsn) → EndsLate targets_of flows_on_of insns → EndsLate targets_of flows_on_of (seen insns)
  late_kept insns h =
      subst (All (IsStraight targets_of flows_on_of)) (sym (front_same insns))
      (all_mapped (retargeted ends) (IsStraight targets_of flows_on_of) (IsStraight targets_of flows_on_of) straight_kept (front_of insns) h)

  -- ---- the blocks of a function

  blocks_same : (m : VmInsn → ℕ) → ((i : VmInsn) → m (retargeted ends i) ≡ m i) → (blocks : List (List VmInsn)) → sum_by (λ block. sum_by m block) (map seen blocks) ≡ sum_by (λ block. sum_by m block) blocks
  blocks_same m kept [] = refl
  blocks_same m kept (block ∷ blocks) =
      omega (arith, sum_same m kept block, blocks_same m kept blocks, sum_by-cons (λ b. sum_by m b) (seen block) (map seen blocks), sum_by-cons (λ b. sum_by m b) block blocks)

  pub count_same : (blocks : List (List VmInsn)) → count_of (map seen blocks) ≡ count_of blocks
  count_same [] = refl
  count_same (block ∷ blocks) =
      omega (arith, length_same block, count_same blocks, sum_by-cons (λ (b : List VmInsn). length b) (seen block) (map seen blocks), sum_by-cons (λ (b : List VmInsn). length b) block blocks)

  pub blocks_length : (blocks : List (List VmInsn)) → length (map seen blocks) ≡ length blocks
  blocks_length blocks = length-map blocks seen

  edges_after : (o : Option VmInsn) → length (successors_after targets_of flows_on_of 0 (option_map (retargeted ends) o)) ≡ length (successors_after targets_of flows_on_of 0 o)
  edges_after None = refl
  edges_after (Some i) = same ends (λ j. length (successors_after targets_of flows_on_of 0 (Some j))) (λ op ty source block other. refl) (λ block other. refl) i

  edges_same : (blocks : List (List VmInsn)) → edge_count targets_of flows_on_of (map seen blocks) ≡ edge_count targets_of flows_on_of blocks
  edges_same [] = refl
  edges_same (block ∷ blocks) =
      let here : length (successors_of targets_of flows_on_of 0 (seen block)) ≡ length (successors_of targets_of flows_on_of 0 block) =
      ap (λ o. length (successors_after targets_of flows_on_of 0 o)) (last_same block) ∙ edges_after (last_of block) in
      omega (
        arith,
        here,
        edges_same blocks,
        sum_by-cons (λ (b : List VmInsn). length (successors_of targets_of flows_on_of 0 b)) (seen block) (map seen blocks),
        sum_by-cons (λ (b : List VmInsn). length (successors_of targets_of flows_on_of 0 b)) block blocks,
      )

  insn_stops_same : (o : Option VmInsn) → insn_stops flows_on_of (option_map (retargeted ends) o) ≡ insn_stops flows_on_of o
  insn_stops_same None = refl
  insn_stops_same (Some i) = ap (λ b. if b then false else true) (flows_same ends i)

  block_stops_same : (o : Option (List VmInsn)) → block_stops flows_on_of (option_map seen o) ≡ block_stops flows_on_of o
  block_stops_same None = refl
  block_stops_same (Some insns) = ap (insn_stops flows_on_of) (last_same insns) ∙ insn_stops_same (last_of insns)

  pub stops_same : (blocks : List (List VmInsn)) → stops flows_on_of (map seen blocks) ≡ stops flows_on_of blocks
  stops_same blocks =
      ap (λ n. block_stops flows_on_of (slice_get (map seen blocks) (n - 1))) (blocks_length blocks)
      ∙ ap (block_stops flows_on_of) (slice_get-map seen blocks (length blocks - 1)) ∙ block_stops_same (last_of blocks)

  pub late_blocks : (blocks : List (List VmInsn)) → All (EndsLate targets_of flows_on_of) blocks → All (EndsLate targets_of flows_on_of) (map seen blocks)
  late_blocks blocks h = all_mapped seen (EndsLate targets_of flows_on_of) (EndsLate targets_of flows_on_of) late_kept blocks h

  uses_kept : (temps : ℕ) (i : VmInsn) → UsesRegisters reads_of writes_of temps i → UsesRegisters reads_of writes_of temps (retargeted ends i)
  uses_kept temps i h = (subst (All (λ register. register < temps)) (sym (reads_same ends i)) h.0, subst (All (λ register. register < temps)) (sym (writes_same ends i)) h.1)

  insns_kept : (P Q : VmInsn → Type 0) → ((i : VmInsn) → P i → Q (retargeted ends i)) → (blocks : List (List VmInsn)) → AllInsns P blocks → AllInsns Q (map seen blocks)
  insns_kept P Q kept blocks h = all_mapped seen (All P) (All Q) (all_mapped (retargeted ends) P Q kept) blocks h

  pub registers_kept : (temps : ℕ) (blocks : List (List VmInsn)) → AllInsns (UsesRegisters reads_of writes_of temps) blocks → AllInsns (UsesRegisters reads_of writes_of temps) (map seen blocks)
  registers_kept temps blocks h = insns_kept (UsesRegisters reads_of writes_of temps) (UsesRegisters reads_of writes_of temps) (uses_kept temps) blocks h

  -- each target is the end of one that was there
  targets_kept : (P Q : ℕ → Type 0) → ((t : ℕ) → P t → Q (slice_index_or ends t 0)) → (i : VmInsn) → All P (targets_of i) → All Q (targets_of (retargeted ends i))
  targets_kept P Q kept i h = subst (All Q) (sym (targets_are ends i)) (all_mapped (λ b. slice_index_or ends b 0) P Q kept (targets_of i) h)

  module _ (blocks : List (List VmInsn)) (targets : AllInsns (GoesToBlocks targets_of (length blocks)) blocks) (marks : GoesBackToMarks blocks)
      (lead : (block : ℕ) → block < length blocks → LeadsTo blocks block (slice_index_or ends block 0)) where
    abbrev InRange : ℕ → Type 0
    InRange t = (0 < t) × (t < length blocks)

    pub goes_kept : AllInsns (GoesToBlocks targets_of (length (map seen blocks))) (map seen blocks)
    goes_kept =
        subst (λ n. AllInsns (GoesToBlocks targets_of n) (map seen blocks)) (sym (blocks_length blocks))
        (insns_kept (GoesToBlocks targets_of (length blocks)) (GoesToBlocks targets_of (length blocks))
        (targets_kept InRange InRange (λ t h. end_inside blocks targets marks t (slice_index_or ends t 0) h.0 h.1 (lead t h.1))) blocks targets)

    pub none_passes : NonePassesOn (map seen blocks)
    none_passes =
        insns_kept (GoesToBlocks targets_of (length blocks)) (λ i. All (λ target. passes_to (map seen blocks) target ≡ None) (targets_of i))
        (targets_kept InRange (λ target. passes_to (map seen blocks) target ≡ None)
        (λ t h. passes_after blocks (slice_index_or ends t 0) (end_passes_not blocks targets marks t (slice_index_or ends t 0) (lead t h.1)))) blocks targets

    -- ---- backward jumps

    or_left : (b c : Bool) → b ≡ true → (b || c) ≡ true
    or_left true c h = refl
    or_left false c h = let never : ⊥ = cc in absurd never

    or_right : (b c : Bool) → c ≡ true → (b || c) ≡ true
    or_right true c h = refl
    or_right false c h = h

    and_both : (b c : Bool) → b ≡ true → c ≡ true → (b && c) ≡ true
    and_both true c h g = g
    and_both false c h g = let never : ⊥ = cc in absurd never

    behind_of : (from t : ℕ) (b : Bool) → nat_lt from t ≡ b → (b || begins_with_mark (slice_get blocks t)) ≡ true → (from < t) ⊎ (begins_with_mark (slice_get blocks t) ≡ true)
    behind_of from t true is h = inl (ltb-true from t is)
    behind_of from t false is h = inr h

    one_target : (from t : ℕ) → InRange t → (nat_lt from t || begins_with_mark (slice_get blocks t)) ≡ true →
        (nat_lt from (slice_index_or ends t 0) || begins_with_mark (slice_get (map seen blocks) (slice_index_or ends t 0))) ≡ true
    one_target from t inside h =
        let end = slice_index_or ends t 0 in
        ⊎_elim
        (λ (w : from < slice_index_or ends t 0). or_left (nat_lt from (slice_index_or ends t 0)) (begins_with_mark (slice_get (map seen blocks) (slice_index_or ends t 0))) (lt-ltb from (slice_index_or ends t 0) w))
        (λ mark. or_right (nat_lt from (slice_index_or ends t 0)) (begins_with_mark (slice_get (map seen blocks) (slice_index_or ends t 0))) (mark_after blocks (slice_index_or ends t 0) ∙ mark))
        (end_behind blocks targets marks from t (slice_index_or ends t 0) inside.1 (behind_of from t (nat_lt from t) refl h) (lead t inside.1))

    each_target : (from : ℕ) (ts : List ℕ) → All InRange ts → list_all (λ t. nat_lt from t || begins_with_mark (slice_get blocks t)) ts ≡ true →
        list_all (λ t. nat_lt from t || begins_with_mark (slice_get (map seen blocks) t)) (map (λ b. slice_index_or ends b 0) ts) ≡ true
    each_target from [] inside h = refl
    each_target from (t ∷ ts) inside h =
        let parts = and_parts (nat_lt from t || begins_with_mark (slice_get blocks t)) (list_all (λ u. nat_lt from u || begins_with_mark (slice_get blocks u)) ts) h in
        and_both (nat_lt from (slice_index_or ends t 0) || begins_with_mark (slice_get (map seen blocks) (slice_index_or ends t 0)))
        (list_all (λ u. nat_lt from u || begins_with_mark (slice_get (map seen blocks) u)) (map (λ b. slice_index_or ends b 0) ts))
        (one_target from t (All-head InRange t ts inside) parts.0) (each_target from ts (All-tail InRange t ts inside) parts.1)

    one_insn : (from : ℕ) (i : VmInsn) → GoesToBlocks targets_of (length blocks) i × IsTrue (goes_back_to_marks blocks from i) → IsTrue (goes_back_to_marks (map seen blocks) from (retargeted ends i))
    one_insn from i h =
        ap (list_all (λ t. nat_lt from t || begins_with_mark (slice_get (map seen blocks) t))) (targets_are ends i)
        ∙ each_target from (targets_of i) h.0 h.1

    at_after : (bs : List (List VmInsn)) (n : ℕ) → slice_index_or (map seen bs) n [] ≡ seen (slice_index_or bs n [])
    at_after [] n = refl
    at_after (b ∷ bs) zero = refl
    at_after (b ∷ bs) (suc n) = at_after bs n

    pub marks_kept : GoesBackToMarks (map seen blocks)
    marks_kept block within =
        let inside : block < length blocks = (let same = blocks_length blocks in omega (arith, within, same)) in
        subst (All (λ i. IsTrue (goes_back_to_marks (map seen blocks) block i))) (sym (at_after blocks block))
        (all_mapped (retargeted ends) (λ i. GoesToBlocks targets_of (length blocks) i × IsTrue (goes_back_to_marks blocks block i))
        (λ i. IsTrue (goes_back_to_marks (map seen blocks) block i)) (one_insn block) (slice_index_or blocks block [])
        (λ k d w. (targets block [] inside k d w, marks block inside k d w)))

-- ---- functions

module _ (f g : VmFunction) (ends : List ℕ) (made : g.blocks ≡ map (map (retargeted ends)) f.blocks) where
  pub measured : g.params ≡ f.params → MeasuresStay f g
  measured params = record {
    insns = ap count_of made ∙ count_same ends f.blocks;
    edges = ap (edge_count targets_of flows_on_of) made ∙ edges_same ends f.blocks;
    cost =
        let costs : sum_by (λ block. sum_by insn_cost block) g.blocks ≡ sum_by (λ block. sum_by insn_cost block) f.blocks =
        ap (λ bs. sum_by (λ block. sum_by insn_cost block) bs) made ∙ blocks_same ends insn_cost (cost_same ends) f.blocks in
        let edges : edge_count targets_of flows_on_of g.blocks ≡ edge_count targets_of flows_on_of f.blocks = ap (edge_count targets_of flows_on_of) made ∙ edges_same ends f.blocks in
        omega (arith, params, costs, edges);
    size =
        let weights : sum_by (λ block. sum_by weight_of block) g.blocks ≡ sum_by (λ block. sum_by weight_of block) f.blocks =
        ap (λ bs. sum_by (λ block. sum_by weight_of block) bs) made ∙ blocks_same ends weight_of (weight_same ends) f.blocks in
        let insns : count_of g.blocks ≡ count_of f.blocks = ap count_of made ∙ count_same ends f.blocks in
        let many : length g.blocks ≡ length f.blocks = ap length made ∙ blocks_length ends f.blocks in
        omega (arith, params, weights, insns, many);
  }

  pub chained_of : GoesBackToMarks f.blocks → ((block : ℕ) → block < length f.blocks → LeadsTo f.blocks block (slice_index_or ends block 0)) →
      g.name ≡ f.name → g.params ≡ f.params → g.temps ≡ f.temps → g.objects ≡ f.objects → IsChainedOf f g
  chained_of marks lead name params temps objects = record {
    name = name;
    params = params;
    temps = temps;
    objects = objects;
    blocks = record { ends = ends; lead = lead; made = made };
    none_passes = subst NonePassesOn (sym made) (none_passes ends f.blocks f.targets marks lead);
    marks = subst GoesBackToMarks (sym made) (marks_kept ends f.blocks f.targets marks lead);
  }

-- ---- in the words of the code

change_at : {A : Type 0} (f : A → A) (old : List A) (at : ℕ) (d : A) → at < length old →
    set (map f (take at old) ++ drop at old) at (f (get_or (map f (take at old) ++ drop at old) at d)) ≡ map f (take (suc at) old) ++ drop (suc at) old
change_at f [] at d within = absurd (omega (arith, within))
change_at f (y ∷ []) zero d within = refl
change_at f (y ∷ z ∷ ys) zero d within = refl
change_at f (y ∷ ys) (suc at) d within = ap (λ l. f y ∷ l) (change_at f ys at d (omega (arith, within)))

pub one_retargeted : (ends : List ℕ) (old now : List (List VmInsn)) (at next : ℕ) (x new : List VmInsn) → now ≡ map (map (retargeted ends)) (take at old) ++ drop at old → next ≡ at + 1 → at < length old →
    x ≡ get_or now at x → new ≡ map (retargeted ends) x → set now at new ≡ map (map (retargeted ends)) (take next old) ++ drop next old
one_retargeted ends old now at next x new now_is step within x_is new_is =
    ap (set now at) (new_is ∙ ap (map (retargeted ends)) x_is)
    ∙ ap (λ l. set l at (map (retargeted ends) (get_or l at x))) now_is
    ∙ change_at (map (retargeted ends)) old at x within
    ∙ ap (λ n. map (map (retargeted ends)) (take n old) ++ drop n old) (let e : suc at ≡ next = omega (arith, step) in e)

pub made_of : (ends shown_ends : List ℕ) (blocks items shown new result : List (List VmInsn)) (len : ℕ) → items ≡ blocks → shown ≡ items → shown_ends ≡ ends → len ≡ length items →
    new ≡ map (map (retargeted shown_ends)) shown → result ≡ take len (new ++ drop (length new) items) → result ≡ map (map (retargeted ends)) blocks
made_of ends shown_ends blocks items shown new result len items_are shown_is ends_are len_is new_is result_is =
    let same : new ≡ map (map (retargeted ends)) blocks = new_is ∙ ap (λ es. map (map (retargeted es)) shown) ends_are ∙ ap (map (map (retargeted ends))) (shown_is ∙ items_are) in
    let size : len ≡ length new = len_is ∙ ap length items_are ∙ sym (blocks_length ends blocks) ∙ sym (ap length same) in
    result_is ∙ take-append-le len new (drop (length new) items) (omega (arith, size)) ∙ take_all len new (omega (arith, size)) ∙ same

pub lead_of : (blocks shown : List (List VmInsn)) (ends : List ℕ) → shown ≡ blocks → AreEndsFrom shown 0 ends → (block : ℕ) → block < length blocks → LeadsTo blocks block (slice_index_or ends block 0)
lead_of blocks shown ends is k block within = (subst (λ bs. AreEndsFrom bs 0 ends) is k).lead block (omega arith) within
