-- No instruction reads a copy where each reads origins.
use Rattle.std.proofs.Common.{◌≡◌, ◌≢◌, ℕ, ◌<◌, ◌≤◌, ◌==◌, ◌⊎◌, List, [], ◌∷◌, length, map, All, refl, sym, ap, ◌∙◌, subst, arith, inl, inr, ⊎_elim}
use Rattle.std.specs.Prelude.{if◌then◌else◌}
use Rattle.std.proofs.lemmas.Bool.{eq-eqb, ne_eqb, cases_eq}
use Rattle.std.proofs.lemmas.List.Elements.{All-nil, All-cons, All-head, All-tail, All-map, All-weaker}
use Rattle.pass_core.specs.Functions.{UsesRegisters}
use Rattle.suifvm_ir.specs.declared.insn.VmInsn.{VmInsn}
use Rattle.suifvm_ir.specs.Insns.{reads_of, writes_of}
use Rattle.flow_clean.specs.Copies.{with_reads, move_source, behind, behind_write, behind_writes, without_copies, ReadsNoCopy}
use Rattle.flow_clean.proofs.OtherReads.{reads_are, writes_same, source_kept}
use Rattle.flow_clean.proofs.WantedSets.{one_write}

-- the register of which another one is a copy is a copy of none
abbrev pub AreRoots : (ℕ → ℕ) → Type 0
AreRoots o = (k : ℕ) → o (o k) ≡ o k

-- registers in range have origins in range
abbrev pub KeepsRange : (registers : ℕ) → (ℕ → ℕ) → Type 0
KeepsRange registers o = (k : ℕ) → k < registers → o k < registers

-- ---- one write

module _ (o : ℕ → ℕ) (w s : ℕ) where
  pub at_write : (k : ℕ) → k ≡ w → behind_write o w s k ≡ s
  at_write k e = ap (λ b. if b then s else (if o k == w then k else o k)) (eq-eqb k w e)

  elsewhere : (k : ℕ) → k ≢ w → behind_write o w s k ≡ (if o k == w then k else o k)
  elsewhere k apart = ap (λ b. if b then s else (if o k == w then k else o k)) (ne_eqb k w apart)

  pub lost : (k : ℕ) → k ≢ w → o k ≡ w → behind_write o w s k ≡ k
  lost k apart e = elsewhere k apart ∙ ap (λ b. if b then k else o k) (eq-eqb (o k) w e)

  pub stays : (k : ℕ) → k ≢ w → o k ≢ w → behind_write o w s k ≡ o k
  stays k apart other = elsewhere k apart ∙ ap (λ b. if b then k else o k) (ne_eqb (o k) w other)

  roots_behind : AreRoots o → (s ≢ w → o s ≡ s) → AreRoots (behind_write o w s)
  roots_behind roots source k = ⊎_elim at_w other (cases_eq k w)
    where
      at_w : k ≡ w → behind_write o w s (behind_write o w s k) ≡ behind_write o w s k
      at_w e =
          ap (behind_write o w s) (at_write k e)
          ∙ ⊎_elim (λ (same : s ≡ w). at_write s same)
          (λ (apart : s ≢ w). stays s apart (λ back. apart (sym (source apart) ∙ back)) ∙ source apart)
          (cases_eq s w)
          ∙ sym (at_write k e)

      other : k ≢ w → behind_write o w s (behind_write o w s k) ≡ behind_write o w s k
      other apart = ⊎_elim
          (λ (e : o k ≡ w). ap (behind_write o w s) (lost k apart e))
          (λ (away : o k ≢ w).
          ap (behind_write o w s) (stays k apart away)
          ∙ stays (o k) away (λ back. away (sym (roots k) ∙ back)) ∙ roots k ∙ sym (stays k apart away))
          (cases_eq (o k) w)

  range_behind : (registers : ℕ) → KeepsRange registers o → s < registers → KeepsRange registers (behind_write o w s)
  range_behind registers keeps within k inside = ⊎_elim
      (λ (e : k ≡ w). subst (λ n. n < registers) (sym (at_write k e)) within)
      (λ (apart : k ≢ w). ⊎_elim
      (λ (e : o k ≡ w). subst (λ n. n < registers) (sym (lost k apart e)) inside)
      (λ (away : o k ≢ w). subst (λ n. n < registers) (sym (stays k apart away)) (keeps k inside))
      (cases_eq (o k) w))
      (cases_eq k w)

-- ---- one instruction that reads origins

mapped_roots : (o : ℕ → ℕ) → AreRoots o → (ks : List ℕ) → All (λ register. o register ≡ register) (map o ks)
mapped_roots o roots [] = All-nil (λ register. o register ≡ register)
mapped_roots o roots (k ∷ ks) = All-cons (λ register. o register ≡ register) (o k) (map o ks) (roots k) (mapped_roots o roots ks)

module _ (o : ℕ → ℕ) (i : VmInsn) where
  abbrev pub changed : VmInsn
  changed = with_reads o i

  pub reads_roots : AreRoots o → All (λ register. o register ≡ register) (reads_of changed)
  reads_roots roots = subst (All (λ register. o register ≡ register)) (sym (reads_are o i)) (mapped_roots o roots (reads_of i))

  -- a source is a root, or the register itself
  source_root : AreRoots o → (w : ℕ) → move_source changed w ≢ w → o (move_source changed w) ≡ move_source changed w
  source_root roots w apart = ⊎_elim (λ root. root) (λ same. absurd (apart same))
      (source_kept (λ s. (o s ≡ s) ⊎ (s ≡ w)) changed w
      (All-weaker (λ s. o s ≡ s) (λ s. (o s ≡ s) ⊎ (s ≡ w)) (λ s root. inl root) (reads_of changed) (reads_roots roots)) (inr refl))

  pub roots_next : AreRoots o → AreRoots (behind o changed)
  roots_next roots = of_list (writes_of changed) (one_write changed)
    where
      of_list : (ws : List ℕ) → length ws ≤ 1 → AreRoots (behind_writes o changed ws)
      of_list [] few = roots
      of_list (w ∷ []) few = roots_behind o w (move_source changed w) roots (source_root roots w)
      of_list (w ∷ v ∷ ws) few = absurd (omega (arith, few))

  pub uses_changed : (registers : ℕ) → KeepsRange registers o → UsesRegisters reads_of writes_of registers i → UsesRegisters reads_of writes_of registers changed
  uses_changed registers keeps uses = (
    subst (All (λ k. k < registers)) (sym (reads_are o i))
        (All-map (λ k. k < registers) o (reads_of i) (All-weaker (λ k. k < registers) (λ k. o k < registers) keeps (reads_of i) uses.0)),
    subst (All (λ k. k < registers)) (sym (writes_same o i)) uses.1,
  )

  pub range_next : (registers : ℕ) → KeepsRange registers o → UsesRegisters reads_of writes_of registers i → KeepsRange registers (behind o changed)
  range_next registers keeps uses = of_list (writes_of changed) (one_write changed) (uses_changed registers keeps uses).1
    where
      of_list : (ws : List ℕ) → length ws ≤ 1 → All (λ k. k < registers) ws → KeepsRange registers (behind_writes o changed ws)
      of_list [] few inside = keeps
      of_list (w ∷ []) few inside =
          range_behind o w (move_source changed w) registers keeps
          (source_kept (λ k. k < registers) changed w (uses_changed registers keeps uses).0 (All-head (λ k. k < registers) w [] inside))
      of_list (w ∷ v ∷ ws) few inside = absurd (omega (arith, few))

-- ---- all instructions of a block

pub reads_none : (o : ℕ → ℕ) → AreRoots o → (insns : List VmInsn) → ReadsNoCopy o (without_copies o insns)
reads_none o roots [] = tt
reads_none o roots (i ∷ insns) = (reads_roots o i roots, reads_none (behind o (with_reads o i)) (roots_next o i roots) insns)

pub uses_none : (registers : ℕ) (o : ℕ → ℕ) → KeepsRange registers o → (insns : List VmInsn) → All (UsesRegisters reads_of writes_of registers) insns → All (UsesRegisters reads_of writes_of registers) (without_copies o insns)
uses_none registers o keeps [] h = All-nil (UsesRegisters reads_of writes_of registers)
uses_none registers o keeps (i ∷ insns) h =
    let uses = All-head (UsesRegisters reads_of writes_of registers) i insns h in
    All-cons (UsesRegisters reads_of writes_of registers) (with_reads o i) (without_copies (behind o (with_reads o i)) insns) (uses_changed o i registers keeps uses)
    (uses_none registers (behind o (with_reads o i)) (range_next o i registers keeps uses) insns (All-tail (UsesRegisters reads_of writes_of registers) i insns h))
