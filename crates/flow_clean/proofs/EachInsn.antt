-- What holds of each instruction of a function holds of each of one without copies, and of a clean one.
use Rattle.std.proofs.Common.{ℕ, ◌<◌, List, [], ◌∷◌, length, map, All, sym, subst, arith}
use Rattle.std.specs.Prelude.{slice_index_or}
use Rattle.std.proofs.lemmas.Option.{slice_get-get_or, get_or_from_slice_get}
use Rattle.std.proofs.lemmas.List.Elements.{All-nil, All-cons, All-head, All-tail, All-weaker, All-map}
use Rattle.pass_core.specs.Functions.{AllInsns}
use Rattle.bitvector_flow.specs.Flows.{has_at}
use Rattle.suifvm_ir.specs.declared.insn.VmInsn.{VmInsn}
use Rattle.suifvm_ir.specs.Programs.{VmFunction}
use Rattle.flow_clean.specs.Chains.{retargeted}
use Rattle.flow_clean.specs.Clean.{IsCleanOf}
use Rattle.flow_clean.specs.Copies.{with_reads, behind, no_copies, without_copies, IsWithoutCopiesOf}
use Rattle.flow_clean.specs.Dead.{cleaned, AreCleaned}
use Rattle.flow_clean.proofs.Thinned.{thinned, thin_all}

-- blocks that are each cleaned
each_left : (P : VmInsn → Type 0) (before after : List (List VmInsn)) → AreCleaned before after → AllInsns P before → AllInsns P after
each_left P before after k h block d within =
    let inside : block < length before = (let same = k.as_many in omega (arith, within, same)) in
    let insns : List VmInsn = slice_index_or before block d in
    let left : List VmInsn = cleaned (has_at k.bottoms block) (slice_index_or before block d) in
    let there = k.each block (slice_index_or before block d) (slice_get-get_or before block d inside) in
    subst (All P) (sym (get_or_from_slice_get after block left d there)) (thin_all P insns left (thinned (has_at k.bottoms block) insns) (h block d inside))

module _ (P Q : VmInsn → Type 0) where
  each_copied : ((names : ℕ → ℕ) (i : VmInsn) → P i → Q (with_reads names i)) → (origins : ℕ → ℕ) (insns : List VmInsn) → All P insns → All Q (without_copies origins insns)
  each_copied step origins [] h = All-nil Q
  each_copied step origins (i ∷ insns) h =
      All-cons Q (with_reads origins i) (without_copies (behind origins (with_reads origins i)) insns) (step origins i (All-head P i insns h))
      (each_copied step (behind origins (with_reads origins i)) insns (All-tail P i insns h))

  each_changed : (change : List VmInsn → List VmInsn) → ((insns : List VmInsn) → All P insns → All Q (change insns)) → (blocks : List (List VmInsn)) → AllInsns P blocks → AllInsns Q (map change blocks)
  each_changed change step blocks h = All-map (All Q) change blocks (All-weaker (All P) (λ insns. All Q (change insns)) step blocks h)

  each_mapped : (change : VmInsn → VmInsn) → ((i : VmInsn) → P i → Q (change i)) → (insns : List VmInsn) → All P insns → All Q (map change insns)
  each_mapped change step insns h = All-map Q change insns (All-weaker P (λ i. Q (change i)) step insns h)

  pub in_copied : ((names : ℕ → ℕ) (i : VmInsn) → P i → Q (with_reads names i)) → (f g : VmFunction) → IsWithoutCopiesOf f g → AllInsns P f.blocks → AllInsns Q g.blocks
  in_copied step f g k h = subst (AllInsns Q) (sym k.blocks) (each_changed (without_copies no_copies) (each_copied step no_copies) f.blocks h)

  pub in_clean : ((ends : List ℕ) (i : VmInsn) → P i → Q (retargeted ends i)) → (f g : VmFunction) → IsCleanOf f g → AllInsns P f.blocks → AllInsns Q g.blocks
  in_clean step f g k h =
      subst (AllInsns Q) (sym k.chained.made)
      (each_changed (map (retargeted k.chained.ends)) (each_mapped (retargeted k.chained.ends) (step k.chained.ends)) k.middle (each_left P f.blocks k.middle k.live h))
