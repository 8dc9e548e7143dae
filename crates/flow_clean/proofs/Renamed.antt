-- What stays of a function whose instructions read other registers.
use Rattle.std.proofs.Common.{◌≡◌, ℕ, zero, suc, ◌<◌, ◌||◌, ◌&&◌, nat_lt, List, [], ◌∷◌, ◌++◌, length, map, sum_by, true, false, Option, Some, All, refl, sym, ap, ◌∙◌, subst, arith, if◌then◌else◌}
use Rattle.std.specs.Prelude.{IsTrue, slice_get, slice_index_or}
use Rattle.std.specs.List.{list_all}
use Rattle.std.proofs.lemmas.List.Sums.{sum_by-cons}
use Rattle.std.proofs.lemmas.List.Elements.{All-nil, All-cons, All-head, All-tail}
use Rattle.pass_core.specs.Functions.{AllInsns, GoesToBlocks, UsesRegisters, EndsLate, stops, block_stops, insn_stops, count_of, edge_count, last_of, successors_after, successors_of}
use Rattle.suifvm_ir.specs.declared.insn.VmInsn.{VmInsn}
use Rattle.suifvm_ir.specs.Insns.{reads_of, writes_of, targets_of, flows_on_of}
use Rattle.suifvm_ir.specs.Cost.{insn_cost}
use Rattle.suifvm_ir.specs.Programs.{VmFunction, weight_of, first_is_mark, begins_with_mark, goes_back_to_marks}
use Rattle.flow_clean.specs.Chains.{GoesBackToMarks, MeasuresStay}
use Rattle.flow_clean.specs.Copies.{with_reads, behind, no_copies, without_copies, ReadsNoCopy, IsWithoutCopiesOf}
use Rattle.flow_clean.proofs.Thinned.{Straight, Late, last_cons, late_head, late_tail, late_cons, late_one}
use Rattle.flow_clean.proofs.OtherReads.{targets_same, flows_same, mark_same, cost_same, weight_same}
use Rattle.flow_clean.proofs.CopyReads.{reads_none, uses_none}

-- the second instructions are the first with other reads
data IsRenamed : (before after : List VmInsn) → Type 0 where
  Empty : IsRenamed [] []
  Renames : {xs ys : List VmInsn} → (names : ℕ → ℕ) → (i : VmInsn) → IsRenamed xs ys → IsRenamed (i ∷ xs) (with_reads names i ∷ ys)

renamed : (o : ℕ → ℕ) (insns : List VmInsn) → IsRenamed insns (without_copies o insns)
renamed o [] = Empty
renamed o (i ∷ insns) = Renames o i (renamed (behind o (with_reads o i)) insns)

all_renamed : (P : VmInsn → Type 0) → ((names : ℕ → ℕ) (i : VmInsn) → P i → P (with_reads names i)) → (xs ys : List VmInsn) → IsRenamed xs ys → All P xs → All P ys
all_renamed P keeps _ _ Empty h = h
all_renamed P keeps _ _ (Renames {xs = xs} {ys = ys} names i r) h = All-cons P (with_reads names i) ys (keeps names i (All-head P i xs h)) (all_renamed P keeps xs ys r (All-tail P i xs h))

same_length : (xs ys : List VmInsn) → IsRenamed xs ys → length ys ≡ length xs
same_length _ _ Empty = refl
same_length _ _ (Renames {xs = xs} {ys = ys} names i r) = ap suc (same_length xs ys r)

same_sum : (m : VmInsn → ℕ) → ((names : ℕ → ℕ) (i : VmInsn) → m (with_reads names i) ≡ m i) → (xs ys : List VmInsn) → IsRenamed xs ys → sum_by m ys ≡ sum_by m xs
same_sum m kept _ _ Empty = refl
same_sum m kept _ _ (Renames {xs = xs} {ys = ys} names i r) =
    omega (arith, kept names i, same_sum m kept xs ys r, sum_by-cons m i xs, sum_by-cons m (with_reads names i) ys)

straight_renamed : (names : ℕ → ℕ) (i : VmInsn) → Straight i → Straight (with_reads names i)
straight_renamed names i s = (ap length (targets_same names i) ∙ s.0, flows_same names i ∙ s.1)

late_renamed : (xs ys : List VmInsn) → IsRenamed xs ys → Late xs → Late ys
late_renamed _ _ Empty late = late
late_renamed _ _ (Renames names i Empty) late = late_one (with_reads names i)
late_renamed _ _ (Renames {xs = j ∷ xs} {ys = y ∷ ys} names i r) late =
    late_cons (with_reads names i) y ys (straight_renamed names i (late_head i j xs late)) (late_renamed (j ∷ xs) (y ∷ ys) r (late_tail i (j ∷ xs) late))

-- what is asked of the last one alone
same_last : {A : Type 0} (m : Option VmInsn → A) → ((names : ℕ → ℕ) (i : VmInsn) → m (Some (with_reads names i)) ≡ m (Some i)) → (xs ys : List VmInsn) → IsRenamed xs ys → m (last_of ys) ≡ m (last_of xs)
same_last m kept _ _ Empty = refl
same_last m kept _ _ (Renames names i Empty) = kept names i
same_last m kept _ _ (Renames {xs = j ∷ xs} {ys = y ∷ ys} names i r) =
    ap m (last_cons (with_reads names i) y ys) ∙ same_last m kept (j ∷ xs) (y ∷ ys) r ∙ sym (ap m (last_cons i j xs))

same_edges : (names : ℕ → ℕ) (i : VmInsn) → length (successors_after targets_of flows_on_of 0 (Some (with_reads names i))) ≡ length (successors_after targets_of flows_on_of 0 (Some i))
same_edges names i =
    ap (λ ts. length (ts ++ (if flows_on_of (with_reads names i) then 1 ∷ [] else []))) (targets_same names i)
    ∙ ap (λ b. length (targets_of i ++ (if b then 1 ∷ [] else []))) (flows_same names i)

same_stop : (names : ℕ → ℕ) (i : VmInsn) → insn_stops flows_on_of (Some (with_reads names i)) ≡ insn_stops flows_on_of (Some i)
same_stop names i = ap (λ b. if b then false else true) (flows_same names i)

same_first : (xs ys : List VmInsn) → IsRenamed xs ys → first_is_mark (slice_get ys 0) ≡ first_is_mark (slice_get xs 0)
same_first _ _ Empty = refl
same_first _ _ (Renames names i r) = mark_same names i

-- ---- the blocks of a function

abbrev all_blocks : List (List VmInsn) → List (List VmInsn)
all_blocks blocks = map (without_copies no_copies) blocks

each : (insns : List VmInsn) → IsRenamed insns (without_copies no_copies insns)
each insns = renamed no_copies insns

map_all : (P Q : List VmInsn → Type 0) → ((insns : List VmInsn) → P insns → Q (without_copies no_copies insns)) → (blocks : List (List VmInsn)) → All P blocks → All Q (all_blocks blocks)
map_all P Q step [] h = All-nil Q
map_all P Q step (b ∷ blocks) h = All-cons Q (without_copies no_copies b) (all_blocks blocks) (step b (All-head P b blocks h)) (map_all P Q step blocks (All-tail P b blocks h))

pub blocks_same : (blocks : List (List VmInsn)) → length (all_blocks blocks) ≡ length blocks
blocks_same [] = refl
blocks_same (b ∷ blocks) = ap suc (blocks_same blocks)

pub count_same : (blocks : List (List VmInsn)) → count_of (all_blocks blocks) ≡ count_of blocks
count_same [] = refl
count_same (b ∷ blocks) =
    omega (arith, same_length b (without_copies no_copies b) (each b), count_same blocks, sum_by-cons (λ (i : List VmInsn). length i) b blocks, sum_by-cons (λ (i : List VmInsn). length i) (without_copies no_copies b) (all_blocks blocks))

sums_same : (m : VmInsn → ℕ) → ((names : ℕ → ℕ) (i : VmInsn) → m (with_reads names i) ≡ m i) → (blocks : List (List VmInsn)) → sum_by (λ block. sum_by m block) (all_blocks blocks) ≡ sum_by (λ block. sum_by m block) blocks
sums_same m kept [] = refl
sums_same m kept (b ∷ blocks) =
    omega (arith, same_sum m kept b (without_copies no_copies b) (each b), sums_same m kept blocks, sum_by-cons (λ i. sum_by m i) b blocks, sum_by-cons (λ i. sum_by m i) (without_copies no_copies b) (all_blocks blocks))

edges_same : (blocks : List (List VmInsn)) → edge_count targets_of flows_on_of (all_blocks blocks) ≡ edge_count targets_of flows_on_of blocks
edges_same [] = refl
edges_same (b ∷ blocks) =
    let here : length (successors_of targets_of flows_on_of 0 (without_copies no_copies b)) ≡ length (successors_of targets_of flows_on_of 0 b) =
    same_last (λ o. length (successors_after targets_of flows_on_of 0 o)) same_edges b (without_copies no_copies b) (each b) in
    omega (
      arith,
      here,
      edges_same blocks,
      sum_by-cons (λ (i : List VmInsn). length (successors_of targets_of flows_on_of 0 i)) b blocks,
      sum_by-cons (λ (i : List VmInsn). length (successors_of targets_of flows_on_of 0 i)) (without_copies no_copies b) (all_blocks blocks),
    )

stops_same : (blocks : List (List VmInsn)) → stops flows_on_of (all_blocks blocks) ≡ stops flows_on_of blocks
stops_same [] = refl
stops_same (b ∷ []) = same_last (insn_stops flows_on_of) same_stop b (without_copies no_copies b) (each b)
stops_same (b ∷ c ∷ blocks) =
    ap (block_stops flows_on_of) (last_cons (without_copies no_copies b) (without_copies no_copies c) (all_blocks blocks)) ∙ stops_same (c ∷ blocks)
    ∙ sym (ap (block_stops flows_on_of) (last_cons b c blocks))

begins_same : (blocks : List (List VmInsn)) (k : ℕ) → begins_with_mark (slice_get (all_blocks blocks) k) ≡ begins_with_mark (slice_get blocks k)
begins_same [] k = refl
begins_same (b ∷ blocks) zero = same_first b (without_copies no_copies b) (each b)
begins_same (b ∷ blocks) (suc k) = begins_same blocks k

at_same : (blocks : List (List VmInsn)) (k : ℕ) → slice_index_or (all_blocks blocks) k [] ≡ without_copies no_copies (slice_index_or blocks k [])
at_same [] k = refl
at_same (b ∷ blocks) zero = refl
at_same (b ∷ blocks) (suc k) = at_same blocks k

goes_back_same : (blocks : List (List VmInsn)) (from : ℕ) (ts : List ℕ) → list_all (λ t. nat_lt from t || begins_with_mark (slice_get (all_blocks blocks) t)) ts ≡ list_all (λ t. nat_lt from t || begins_with_mark (slice_get blocks t)) ts
goes_back_same blocks from [] = refl
goes_back_same blocks from (t ∷ ts) =
    ap (λ b. (nat_lt from t || b) && list_all (λ u. nat_lt from u || begins_with_mark (slice_get (all_blocks blocks) u)) ts) (begins_same blocks t)
    ∙ ap (λ b. (nat_lt from t || begins_with_mark (slice_get blocks t)) && b) (goes_back_same blocks from ts)

marks_same : (blocks : List (List VmInsn)) → GoesBackToMarks blocks → GoesBackToMarks (all_blocks blocks)
marks_same blocks marks block within =
    subst (All (λ i. IsTrue (goes_back_to_marks (all_blocks blocks) block i))) (sym (at_same blocks block))
    (all_renamed (λ i. IsTrue (goes_back_to_marks (all_blocks blocks) block i))
    (λ names i h. ap (list_all (λ t. nat_lt block t || begins_with_mark (slice_get (all_blocks blocks) t))) (targets_same names i) ∙ h)
    (slice_index_or blocks block []) (without_copies no_copies (slice_index_or blocks block [])) (each (slice_index_or blocks block []))
    (λ k d inside. goes_back_same blocks block (targets_of (slice_index_or (slice_index_or blocks block []) k d)) ∙ marks block (let same = blocks_same blocks in omega (arith, within, same)) k d inside))

no_reads : (blocks : List (List VmInsn)) → All (ReadsNoCopy no_copies) (all_blocks blocks)
no_reads [] = All-nil (ReadsNoCopy no_copies)
no_reads (b ∷ blocks) = All-cons (ReadsNoCopy no_copies) (without_copies no_copies b) (all_blocks blocks) (reads_none no_copies (λ k. refl) b) (no_reads blocks)

-- ---- functions

module _ (f : VmFunction) where
  pub goes : AllInsns (GoesToBlocks targets_of (length (all_blocks f.blocks))) (all_blocks f.blocks)
  goes =
      subst (λ n. AllInsns (GoesToBlocks targets_of n) (all_blocks f.blocks)) (sym (blocks_same f.blocks))
      (map_all (All (GoesToBlocks targets_of (length f.blocks))) (All (GoesToBlocks targets_of (length f.blocks)))
      (λ insns. all_renamed (GoesToBlocks targets_of (length f.blocks))
      (λ names i h. subst (All (λ target. (0 < target) × (target < length f.blocks))) (sym (targets_same names i)) h) insns (without_copies no_copies insns) (each insns)) f.blocks f.targets)

  pub late : All (EndsLate targets_of flows_on_of) (all_blocks f.blocks)
  late = map_all Late Late (λ insns. late_renamed insns (without_copies no_copies insns) (each insns)) f.blocks f.straight

  pub stop : IsTrue (stops flows_on_of (all_blocks f.blocks))
  stop = stops_same f.blocks ∙ f.stops

  pub uses : AllInsns (UsesRegisters reads_of writes_of f.temps) (all_blocks f.blocks)
  uses = map_all (All (UsesRegisters reads_of writes_of f.temps)) (All (UsesRegisters reads_of writes_of f.temps)) (uses_none f.temps no_copies (λ k within. within)) f.blocks f.registers

  pub without_copies_of : (g : VmFunction) → g.blocks ≡ all_blocks f.blocks → GoesBackToMarks f.blocks → g.name ≡ f.name → g.params ≡ f.params → g.temps ≡ f.temps → g.objects ≡ f.objects → IsWithoutCopiesOf f g
  without_copies_of g is marks name params temps objects = record {
    name = name;
    params = params;
    temps = temps;
    objects = objects;
    blocks = is;
    reads = subst (All (ReadsNoCopy no_copies)) (sym is) (no_reads f.blocks);
    marks = subst GoesBackToMarks (sym is) (marks_same f.blocks marks);
  }

  pub measured : (g : VmFunction) → g.blocks ≡ all_blocks f.blocks → g.params ≡ f.params → MeasuresStay f g
  measured g is params =
      let insns : count_of g.blocks ≡ count_of f.blocks = ap count_of is ∙ count_same f.blocks in
      let edges : edge_count targets_of flows_on_of g.blocks ≡ edge_count targets_of flows_on_of f.blocks = ap (edge_count targets_of flows_on_of) is ∙ edges_same f.blocks in
      let many : length g.blocks ≡ length f.blocks = ap length is ∙ blocks_same f.blocks in
      let costs : sum_by (λ block. sum_by insn_cost block) g.blocks ≡ sum_by (λ block. sum_by insn_cost block) f.blocks =
      ap (λ bs. sum_by (λ block. sum_by insn_cost block) bs) is ∙ sums_same insn_cost cost_same f.blocks in
      let weights : sum_by (λ block. sum_by weight_of block) g.blocks ≡ sum_by (λ block. sum_by weight_of block) f.blocks =
      ap (λ bs. sum_by (λ block. sum_by weight_of block) bs) is ∙ sums_same weight_of weight_same f.blocks in
      record {
        insns = insns;
        edges = edges;
        cost = omega (arith, params, costs, edges);
        size = omega (arith, params, weights, insns, many);
      }
