-- The edges of a plan lead where the run goes.
use Rattle.std.proofs.Common.{◌≡◌, ◌≢◌, ℕ, zero, suc, ◌+◌, ◌-◌, ◌<◌, ◌⊎◌, Bool, true, false, List, [], ◌∷◌, ◌++◌, Option, Some, None, length, not, if◌then◌else◌, refl, sym, ap, ◌∙◌, subst, arith, inl, inr, ⊎_elim, eq-eqb, append-nil}
use Rattle.std.specs.Prelude.{◌==◌, ◌&&◌, ◌||◌, nat_lt, slice_get, slice_index_or, All, Contains, IsTrue}
use Rattle.std.proofs.lemmas.Bool.{cases_lt, ltb-true, and_parts, eqb-true, ne_eqb}
use Rattle.std.proofs.lemmas.List.Elements.{All-weaker, Contains-push, Contains-append_left, Contains-append_cases}
use Rattle.pass_core.specs.Functions.{last_of, front_of, GoesToBlocks, IsStraight, EndsLate, insn_stops, block_stops, stops, insn_in, insn_at, successors_after, successors_of}
use Rattle.temp_ir.specs.declared.insn.TempInsn.{TempInsn}
use Rattle.temp_ir.specs.declared.insn.TempInsn.TheVariants as i
use Rattle.temp_ir.specs.Insns.{targets_of, flows_on_of}
use Rattle.temp_ir.specs.Programs.{first_is_mark, begins_with_mark, goes_back_to_marks}
use Rattle.std.specs.List.{list_all}
use Rattle.alloc_model.specs.declared.allocation.EdgeCode.{EdgeCode}
use Rattle.alloc_model.specs.Temporaries.{goes_on, flows_out}
use Rattle.alloc_model.specs.Places.{Plan, edge_transfers, code_in}
use Rattle.alloc_model.specs.Faithful.{HasLists}
use Rattle.frame_simulation.specs.flat_steps.Items.{is_temp_branch, ends_with_branch, top_transfers, end_transfers}
use Rattle.frame_simulation.proofs.FlatSteps.Tops.{test-or-not, get-some, all-edges, all-unmapped}
use Rattle.frame_simulation.specs.flat_steps.Builds.{EdgesLead}
use Rattle.frame_simulation.specs.edge_leads.Leads.{AreBlocks, IsEdge, BranchesGoApart}
use Rattle.frame_simulation.proofs.EdgeLeads.Lists.{get-below, get-index, all-get, get-front, find-same, find-none}

-- ---- instructions of blocks

pub record InsnStandsAt (blocks : List (List TempInsn)) (block at : ℕ) (x : TempInsn) : Type 0 where
  pub insns : List TempInsn
  pub there : slice_get blocks block ≡ Some insns
  pub is : slice_get insns at ≡ Some x

located : (blocks : List (List TempInsn)) (block at : ℕ) (x : TempInsn) → insn_at blocks block at ≡ Some x → InsnStandsAt blocks block at x
located blocks block at x e = by_block (slice_get blocks block) refl e
  where
    by_block : (o : Option (List TempInsn)) → slice_get blocks block ≡ o → insn_in o at ≡ Some x → InsnStandsAt blocks block at x
    by_block None there f = absurd (cc)
    by_block (Some insns) there f = record { insns = insns; there = there; is = f }

-- ---- marks

passes : (p : ℕ → Bool) (ts : List ℕ) (k to : ℕ) → list_all p ts ≡ true → slice_get ts k ≡ Some to → p to ≡ true
passes p [] k to h e = absurd (cc)
passes p (t ∷ ts) zero to h e = let is : t ≡ to = cc in subst (λ x. p x ≡ true) is (and_parts (p t) (list_all p ts) h).0
passes p (t ∷ ts) (suc k) to h e = passes p ts k to (and_parts (p t) (list_all p ts) h).1 e

first-mark : (o : Option TempInsn) → first_is_mark o ≡ true → o ≡ Some i.Mark
first-mark None h = absurd (cc)
first-mark (Some i.Mark) h = refl
first-mark (Some (i.Address op d base plus)) h = absurd (cc)
first-mark (Some (i.ObjectAddress d place plus)) h = absurd (cc)
first-mark (Some (i.Load op d pointer plus)) h = absurd (cc)
first-mark (Some (i.Store op value pointer plus)) h = absurd (cc)
first-mark (Some (i.Operate op d left right)) h = absurd (cc)
first-mark (Some (i.Extend op d source)) h = absurd (cc)
first-mark (Some (i.ToFixed register source)) h = absurd (cc)
first-mark (Some (i.FromFixed d register)) h = absurd (cc)
first-mark (Some (i.SetFixed register number)) h = absurd (cc)
first-mark (Some (i.WriteArgument number source)) h = absurd (cc)
first-mark (Some (i.ReadArgument d number)) h = absurd (cc)
first-mark (Some (i.Branch op source block)) h = absurd (cc)
first-mark (Some (i.Jump block)) h = absurd (cc)
first-mark (Some (i.Call function arguments)) h = absurd (cc)
first-mark (Some (i.Divide routine)) h = absurd (cc)
first-mark (Some (i.Serve service)) h = absurd (cc)
first-mark (Some (i.Return with_value)) h = absurd (cc)

mark-first : (o : Option (List TempInsn)) → begins_with_mark o ≡ true → insn_in o 0 ≡ Some i.Mark
mark-first None h = absurd (cc)
mark-first (Some insns) h = first-mark (slice_get insns 0) h

later-or-mark : (block to : ℕ) (o : Option (List TempInsn)) (later : Bool) → nat_lt block to ≡ later → (later || begins_with_mark o) ≡ true → (block < to) ⊎ (insn_in o 0 ≡ Some i.Mark)
later-or-mark block to o true e h = inl (ltb-true block to e)
later-or-mark block to o false e h = inr (mark-first o h)

-- what may go elsewhere stands last
ends-last : (insns : List TempInsn) (at : ℕ) (x : TempInsn) → EndsLate targets_of flows_on_of insns → slice_get insns at ≡ Some x → length (targets_of x) ≢ 0 → last_of insns ≡ Some x
ends-last insns at x late is some = ⊎_elim
    (λ lt. absurd (some (all-get (IsStraight targets_of flows_on_of) (front_of insns) at x late (get-front (length insns - 1) insns at lt ∙ is)).0))
    (λ le. let below = get-below insns at x is in let same : length insns - 1 ≡ at = omega (arith, le, below) in ap (slice_get insns) same ∙ is)
    (cases_lt at (length insns - 1))

goes-to : (block : ℕ) (o : Option TempInsn) → goes_on o ≡ true → Contains (successors_after targets_of flows_on_of block o) (suc block)
goes-to block None e = Contains-push [] (suc block)
goes-to block (Some x) e = subst (λ t. Contains (targets_of x ++ (if t then suc block ∷ [] else [])) (suc block)) (sym e) (Contains-push (targets_of x) (suc block))

module _ (a : Plan) (l : HasLists a) (ok : AreBlocks a.function.blocks) (apart : BranchesGoApart a.function.blocks) where
  abbrev blocks : List (List TempInsn)
  blocks = a.function.blocks

  targets-there : (block at : ℕ) (x : TempInsn) → insn_at blocks block at ≡ Some x → (k to : ℕ) → slice_get (targets_of x) k ≡ Some to → (0 < to) × (to < length blocks)
  targets-there block at x e k to is =
      let z = located blocks block at x e in
      let insns-fit = all-get (All (GoesToBlocks targets_of (length blocks))) blocks block z.insns ok.targets z.there in
      let fits = all-get (GoesToBlocks targets_of (length blocks)) z.insns at x insns-fit z.is in
      all-get (λ n. (0 < n) × (n < length blocks)) (targets_of x) k to fits is

  is-last : (block at : ℕ) (x : TempInsn) (z : InsnStandsAt blocks block at x) → length (targets_of x) ≢ 0 → last_of z.insns ≡ Some x
  is-last block at x z some = ends-last z.insns at x (all-get (EndsLate targets_of flows_on_of) blocks block z.insns ok.straight z.there) z.is some

  -- ---- edges

  first-edge : (block : ℕ) (insns : List TempInsn) (x : TempInsn) (to : ℕ) → slice_get blocks block ≡ Some insns → last_of insns ≡ Some x → Contains (targets_of x) to → IsEdge blocks block to
  first-edge block insns x to there last has = record {
    insns = insns;
    there = there;
    leads = subst (λ o. Contains (successors_after targets_of flows_on_of block o) to) (sym last) (Contains-append_left (targets_of x) (if flows_on_of x then suc block ∷ [] else []) to has);
  }

  next-edge : (block : ℕ) (insns : List TempInsn) → slice_get blocks block ≡ Some insns → flows_out insns ≡ true → IsEdge blocks block (suc block)
  next-edge block insns there flows = record { insns = insns; there = there; leads = goes-to block (last_of insns) flows }

  -- each edge of the plan is one of its blocks
  all-are-edges : All (λ (e : EdgeCode). IsEdge blocks e.from e.to) a.edges
  all-are-edges = all-unmapped (λ (e : ℕ × ℕ). IsEdge blocks e.0 e.1) (λ (e : EdgeCode). (e.from, e.to)) a.edges
      (subst (All (λ (e : ℕ × ℕ). IsEdge blocks e.0 e.1)) (sym l.edges)
      (all-edges (λ (e : ℕ × ℕ). IsEdge blocks e.0 e.1) 0 blocks (λ k insns there to has.
      let sum : 0 + k ≡ k = omega arith in
      subst (λ n. IsEdge blocks n to) (sym sum) (record { insns = insns; there = there; leads = subst (λ n. Contains (successors_of targets_of flows_on_of n insns) to) sum has }))))

  -- ---- what is found

  abbrev at-top : (to : ℕ) → EdgeCode → Bool
  at-top to e = (e.to == to) && ends_with_branch (slice_index_or blocks e.from [])

  abbrev between : (from to : ℕ) → EdgeCode → Bool
  between from to e = (e.from == from) && (e.to == to)

  and-false : (t : Bool) → (t && false) ≡ false
  and-false true = refl
  and-false false = refl

  -- the edge at the top of a block to which a block with a branch goes is that from there
  same-test : (block to : ℕ) → IsEdge blocks block to → ends_with_branch (slice_index_or blocks block []) ≡ true → (e : EdgeCode) → IsEdge blocks e.from e.to → at-top to e ≡ between block to e
  same-test block to edge branch e is = ⊎_elim
      (λ t.
      let there = subst (IsEdge blocks e.from) (eqb-true e.to to t) is in
      let from = apart block e.from to edge branch there in
      let first : at-top to e ≡ true = ap (λ b. b && ends_with_branch (slice_index_or blocks e.from [])) t ∙ ap (λ n. ends_with_branch (slice_index_or blocks n [])) from ∙ branch in
      let second : between block to e ≡ true = ap (λ b. b && (e.to == to)) (eq-eqb e.from block from) ∙ t in
      first ∙ sym second)
      (λ f. ap (λ b. b && ends_with_branch (slice_index_or blocks e.from [])) f ∙ sym (ap (λ b. (e.from == block) && b) f ∙ and-false (e.from == block)))
      (test-or-not (e.to == to))

  tops-are : (block to : ℕ) → IsEdge blocks block to → ends_with_branch (slice_index_or blocks block []) ≡ true → top_transfers a to ≡ edge_transfers a block to
  tops-are block to edge branch =
      ap code_in (find-same (at-top to) (between block to) a.edges (All-weaker (λ (e : EdgeCode). IsEdge blocks e.from e.to) (λ e. at-top to e ≡ between block to e) (same-test block to edge branch) a.edges all-are-edges))

  -- where a block without a branch goes to, nothing stands at the top
  no-test : (block to : ℕ) → IsEdge blocks block to → ends_with_branch (slice_index_or blocks block []) ≡ false → (e : EdgeCode) → IsEdge blocks e.from e.to → at-top to e ≡ false
  no-test block to edge none e is = ⊎_elim
      (λ t. ⊎_elim
      (λ b.
      let there = subst (IsEdge blocks e.from) (eqb-true e.to to t) is in
      let from = apart e.from block to there b edge in
      absurd (clash (sym none ∙ ap (λ n. ends_with_branch (slice_index_or blocks n [])) from ∙ b)))
      (λ n. ap (λ z. z && ends_with_branch (slice_index_or blocks e.from [])) t ∙ n)
      (test-or-not (ends_with_branch (slice_index_or blocks e.from []))))
      (λ f. ap (λ b. b && ends_with_branch (slice_index_or blocks e.from [])) f)
      (test-or-not (e.to == to))
    where
      clash : false ≡ true → ⊥
      clash q = cc

  no-tops : (block to : ℕ) → IsEdge blocks block to → ends_with_branch (slice_index_or blocks block []) ≡ false → top_transfers a to ≡ []
  no-tops block to edge none =
      ap code_in (find-none (at-top to) a.edges (All-weaker (λ (e : EdgeCode). IsEdge blocks e.from e.to) (λ e. at-top to e ≡ false) (no-test block to edge none) a.edges all-are-edges))

  -- ---- the entry

  edge-after : (block : ℕ) (insns : List TempInsn) (o : Option TempInsn) → last_of insns ≡ o → slice_get blocks block ≡ Some insns → (to : ℕ) → Contains (successors_after targets_of flows_on_of block o) to → 0 < to
  edge-after block insns None last there to has = next-one block to has
    where
      next-one : (block to : ℕ) → Contains (suc block ∷ []) to → 0 < to
      next-one block to (zero, lt, is) = subst (λ n. 0 < n) is (omega arith)
      next-one block to (suc k, lt, is) = absurd (omega (arith, lt))
  edge-after block insns (Some x) last there to has = ⊎_elim
      (λ t. target-above (targets_of x) t (λ k n e. (targets-there block (length insns - 1) x (ap (λ o. insn_in o (length insns - 1)) there ∙ last) k n e).0))
      (λ n. next-above (flows_on_of x) n)
      (Contains-append_cases (targets_of x) (if flows_on_of x then suc block ∷ [] else []) to has)
    where
      target-above : (ts : List ℕ) → Contains ts to → ((k n : ℕ) → slice_get ts k ≡ Some n → 0 < n) → 0 < to
      target-above ts (k, lt, is) h = h k to (get-some ts k to lt ∙ ap Some is)

      next-above : (t : Bool) → Contains (if t then suc block ∷ [] else []) to → 0 < to
      next-above true (zero, lt, is) = subst (λ n. 0 < n) is (omega arith)
      next-above true (suc k, lt, is) = absurd (omega (arith, lt))
      next-above false (k, lt, is) = absurd (omega (arith, lt))

  first-test : (e : EdgeCode) → IsEdge blocks e.from e.to → at-top 0 e ≡ false
  first-test e is =
      let above = edge-after e.from is.insns (last_of is.insns) refl is.there e.to is.leads in
      ap (λ b. b && ends_with_branch (slice_index_or blocks e.from [])) (ne_eqb e.to 0 (λ q. omega (arith, q, above)))

  first-none : top_transfers a 0 ≡ []
  first-none = ap code_in (find-none (at-top 0) a.edges (All-weaker (λ (e : EdgeCode). IsEdge blocks e.from e.to) (λ e. at-top 0 e ≡ false) first-test a.edges all-are-edges))

  -- ---- the last block

  some-block : 0 < length blocks
  some-block = by_blocks blocks ok.stops_there
    where
      by_blocks : (bs : List (List TempInsn)) → IsTrue (stops flows_on_of bs) → 0 < length bs
      by_blocks [] h = absurd (cc)
      by_blocks (b ∷ bs) h = omega arith

  stops-flow : (o : Option TempInsn) → insn_stops flows_on_of o ≡ true → goes_on o ≡ true → ⊥
  stops-flow None e f = cc
  stops-flow (Some x) e f = clash (flows_on_of x) e f
    where
      clash : (t : Bool) → (if t then false else true) ≡ true → t ≡ true → ⊥
      clash true e f = cc
      clash false e f = cc

  flows-before : (block : ℕ) (insns : List TempInsn) → slice_get blocks block ≡ Some insns → flows_out insns ≡ true → suc block < length blocks
  flows-before block insns there flows = ⊎_elim
      (λ lt. lt)
      (λ le.
      let below = get-below blocks block insns there in
      let same : length blocks - 1 ≡ block = omega (arith, le, below) in
      let last : last_of blocks ≡ Some insns = ap (slice_get blocks) same ∙ there in
      absurd (stops-flow (last_of insns) (subst (λ o. block_stops flows_on_of o ≡ true) last ok.stops_there) flows))
      (cases_lt (suc block) (length blocks))

  -- ---- the ends of blocks

  branch-at : (block : ℕ) (insns : List TempInsn) (t : Bool) → slice_get blocks block ≡ Some insns → ends_with_branch insns ≡ t → ends_with_branch (slice_index_or blocks block []) ≡ t
  branch-at block insns t there e = ap ends_with_branch (get-index blocks block insns [] there) ∙ e

  ends-are : (block : ℕ) (insns : List TempInsn) → slice_get blocks block ≡ Some insns → flows_out insns ≡ true → end_transfers a block insns ++ top_transfers a (suc block) ≡ edge_transfers a block (suc block)
  ends-are block insns there flows =
      let edge = next-edge block insns there flows in
      ⊎_elim
      (λ b.
      let none : end_transfers a block insns ≡ [] = ap (λ t. if flows_out insns && not t then edge_transfers a block (suc block) else []) b ∙ ap (λ t. if t then edge_transfers a block (suc block) else []) (and-false (flows_out insns)) in
      ap (λ xs. xs ++ top_transfers a (suc block)) none ∙ tops-are block (suc block) edge (branch-at block insns true there b))
      (λ n.
      let all : end_transfers a block insns ≡ edge_transfers a block (suc block) = ap (λ t. if t && not (ends_with_branch insns) then edge_transfers a block (suc block) else []) flows ∙ ap (λ t. if not t then edge_transfers a block (suc block) else []) n in
      ap (λ xs. xs ++ top_transfers a (suc block)) all ∙ ap (λ ys. edge_transfers a block (suc block) ++ ys) (no-tops block (suc block) edge (branch-at block insns false there n)) ∙ append-nil (edge_transfers a block (suc block)))
      (test-or-not (ends_with_branch insns))

  leads : EdgesLead a
  leads = record {
    entry = some-block;
    first = first-none;
    targets = λ block at x e k to is. (targets-there block at x e k to is).1;
    marks = λ block at x e k to is.
        let z = located blocks block at x e in
        let all = subst (All (λ y. IsTrue (goes_back_to_marks a.function.blocks block y))) (get-index a.function.blocks block z.insns [] z.there) (ok.marks block (get-below a.function.blocks block z.insns z.there)) in
        let one = all-get (λ y. IsTrue (goes_back_to_marks a.function.blocks block y)) z.insns at x all z.is in
        later-or-mark block to (slice_get a.function.blocks to) (nat_lt block to) refl
        (passes (λ target. nat_lt block target || begins_with_mark (slice_get a.function.blocks target)) (targets_of x) k to one is);
    jumps = λ block at to e.
        let z = located blocks block at (i.Jump to) e in
        let last = is-last block at (i.Jump to) z (λ q. cc) in
        no-tops block to (first-edge block z.insns (i.Jump to) to z.there last (Contains-push [] to)) (branch-at block z.insns false z.there (ap is_temp_branch last));
    branches = λ block at op source to e.
        let z = located blocks block at (i.Branch op source to) e in
        let last = is-last block at (i.Branch op source to) z (λ q. cc) in
        tops-are block to (first-edge block z.insns (i.Branch op source to) to z.there last (Contains-push [] to)) (branch-at block z.insns true z.there (ap is_temp_branch last));
    follows = flows-before;
    ends = ends-are;
  }

pub edges_lead : (a : Plan) → HasLists a → AreBlocks a.function.blocks → BranchesGoApart a.function.blocks → EdgesLead a
edges_lead a l ok apart = leads a l ok apart
