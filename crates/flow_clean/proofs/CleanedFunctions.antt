-- A function without its dead instructions is a function, and costs no more.
use Rattle.std.proofs.Common.{◌≡◌, ℕ, zero, suc, ◌+◌, ◌<◌, ◌≤◌, List, [], ◌∷◌, ◌++◌, length, take, get_or, sum_by, Bool, All, sym, ap, ◌∙◌, subst, arith}
use Rattle.std.specs.Prelude.{IsTrue, slice_get}
use Rattle.std.proofs.lemmas.List.{take_more, take_all, get_or_default}
use Rattle.bk_bits.specs.Sets.{has}
use Rattle.bitvector_flow.specs.Flows.{has_at}
use Rattle.pass_core.specs.Functions.{AllInsns, GoesToBlocks, UsesRegisters, EndsLate, stops, count_of, edge_count}
use Rattle.suifvm_ir.specs.declared.insn.VmInsn.{VmInsn}
use Rattle.suifvm_ir.specs.Insns.{reads_of, writes_of, targets_of, flows_on_of}
use Rattle.suifvm_ir.specs.Cost.{insn_cost}
use Rattle.suifvm_ir.specs.Programs.{VmFunction, weight_of}
use Rattle.flow_clean.specs.Chains.{GoesBackToMarks}
use Rattle.flow_clean.specs.Dead.{cleaned, IsCleanedOf, MeasuresFall}
use Rattle.flow_clean.specs.model.Walks.{cleaned_from, AreCleanedBlocks}
use Rattle.flow_clean.proofs.Thinned.{AreThinned, thinned_from, all_thinned, late_thinned, as_many, count_falls, sums_fall, edges_stay, stops_stay, marks_thinned, cleaned_at, none_dead_at, cleaned_more}

module _ (f : VmFunction) (after : List (List VmInsn)) (k : AreCleanedBlocks f.temps f.blocks after) where
  thin : AreThinned f.blocks after
  thin = subst (AreThinned f.blocks) (sym k.after_is) (thinned_from (has_at k.bottoms) 0 f.blocks)

  pub goes : AllInsns (GoesToBlocks targets_of (length after)) after
  goes =
      subst (λ n. AllInsns (GoesToBlocks targets_of n) after) (sym (as_many f.blocks after thin))
      (all_thinned (GoesToBlocks targets_of (length f.blocks)) f.blocks after thin f.targets)

  pub late : All (EndsLate targets_of flows_on_of) after
  late = late_thinned f.blocks after thin f.straight

  pub stop : IsTrue (stops flows_on_of after)
  stop = stops_stay f.blocks after thin f.stops

  pub blocks_many : length after ≡ length f.blocks
  blocks_many = as_many f.blocks after thin

  pub insns_fewer : count_of after ≤ count_of f.blocks
  insns_fewer = count_falls f.blocks after thin

  pub uses : AllInsns (UsesRegisters reads_of writes_of f.temps) after
  uses = all_thinned (UsesRegisters reads_of writes_of f.temps) f.blocks after thin f.registers

  pub cleaned_of : (g : VmFunction) → g.blocks ≡ after → GoesBackToMarks f.blocks → g.name ≡ f.name → g.params ≡ f.params → g.temps ≡ f.temps → g.objects ≡ f.objects → IsCleanedOf f g
  cleaned_of g is marks name params temps objects = record {
    name = name;
    params = params;
    temps = temps;
    objects = objects;
    blocks = record {
      temps = f.temps;
      tops = k.tops;
      bottoms = k.bottoms;
      live = k.live;
      as_many = ap length is ∙ blocks_many;
      each = λ block insns there. ap (λ bs. slice_get bs block) (is ∙ k.after_is) ∙ cleaned_at (has_at k.bottoms) 0 f.blocks block block insns (omega arith) there;
    };
    none_dead = λ block insns there. none_dead_at (has_at k.bottoms) 0 f.blocks block block insns (omega arith) (ap (λ bs. slice_get bs block) (sym (is ∙ k.after_is)) ∙ there);
    marks = subst GoesBackToMarks (sym is) (marks_thinned f.blocks after thin marks);
  }

  pub measured : (g : VmFunction) → g.blocks ≡ after → g.params ≡ f.params → MeasuresFall f g
  measured g is params =
      let insns : count_of g.blocks ≤ count_of f.blocks = subst (λ bs. count_of bs ≤ count_of f.blocks) (sym is) insns_fewer in
      let edges : edge_count targets_of flows_on_of g.blocks ≡ edge_count targets_of flows_on_of f.blocks =
      ap (edge_count targets_of flows_on_of) is ∙ edges_stay f.blocks after thin f.straight in
      let many : length g.blocks ≡ length f.blocks = ap length is ∙ blocks_many in
      let costs : sum_by (λ block. sum_by insn_cost block) g.blocks ≤ sum_by (λ block. sum_by insn_cost block) f.blocks =
      subst (λ bs. sum_by (λ block. sum_by insn_cost block) bs ≤ sum_by (λ block. sum_by insn_cost block) f.blocks) (sym is) (sums_fall insn_cost f.blocks after thin) in
      let weights : sum_by (λ block. sum_by weight_of block) g.blocks ≤ sum_by (λ block. sum_by weight_of block) f.blocks =
      subst (λ bs. sum_by (λ block. sum_by weight_of block) bs ≤ sum_by (λ block. sum_by weight_of block) f.blocks) (sym is) (sums_fall weight_of f.blocks after thin) in
      record {
        insns = insns;
        edges = edges;
        cost = omega (arith, params, costs, edges);
        size = omega (arith, params, weights, insns, many);
      }

-- ---- one block more

count_is : (bs : List (List VmInsn)) (n : ℕ) → n < length bs → n ≡ 0 + length (take n bs)
count_is bs zero w = omega arith
count_is [] (suc n) w = absurd (omega (arith, w))
count_is (b ∷ bs) (suc n) w = let rest = count_is bs n (omega (arith, w)) in omega (arith, rest)

pub block_next : (bottoms : List (List Bool)) (blocks made made_new : List (List VmInsn)) (at : ℕ) (insns : List VmInsn) (bottom : List Bool) → at < length blocks → at < length bottoms →
    insns ≡ get_or blocks at insns → bottom ≡ get_or bottoms at bottom → made ≡ cleaned_from (has_at bottoms) 0 (take at blocks) →
    made_new ≡ made ++ cleaned (has bottom) insns ∷ [] → made_new ≡ cleaned_from (has_at bottoms) 0 (take (at + 1) blocks)
block_next bottoms blocks made made_new at insns bottom within inside insns_is bottom_is made_is new_is =
    let list : take (at + 1) blocks ≡ take at blocks ++ insns ∷ [] = take_more blocks at insns within ∙ ap (λ x. take at blocks ++ x ∷ []) (sym insns_is) in
    let count : at ≡ 0 + length (take at blocks) = count_is blocks at within in
    let set : bottom ≡ get_or bottoms at [] = bottom_is ∙ get_or_default bottoms at bottom [] inside in
    new_is ∙ ap (λ l. l ++ cleaned (has bottom) insns ∷ []) made_is
    ∙ ap (λ s. cleaned_from (has_at bottoms) 0 (take at blocks) ++ cleaned (has s) insns ∷ []) set
    ∙ sym (cleaned_more (has_at bottoms) 0 (take at blocks) insns at count)
    ∙ ap (cleaned_from (has_at bottoms) 0) (sym list)

pub blocks_done : (bottoms : List (List Bool)) (blocks made : List (List VmInsn)) (at : ℕ) → length blocks ≤ at → made ≡ cleaned_from (has_at bottoms) 0 (take at blocks) → made ≡ cleaned_from (has_at bottoms) 0 blocks
blocks_done bottoms blocks made at past is = is ∙ ap (cleaned_from (has_at bottoms) 0) (take_all at blocks past)
