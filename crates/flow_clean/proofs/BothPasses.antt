-- A function whose dead instructions are left out, and whose jumps then go on, is clean.
use Rattle.std.proofs.Common.{◌≡◌, ℕ, ◌||◌, ◌&&◌, not, List, [], ◌∷◌, map, Bool, Option, Some, None, refl, sym, ap, ◌∙◌, subst, arith}
use Rattle.std.specs.Prelude.{slice_get, option_map}
use Rattle.std.specs.List.{list_any}
use Rattle.std.proofs.lemmas.Option.{slice_get-map, none-some, same_Some}
use Rattle.std.proofs.Math.Path.{fun_ext}
use Rattle.bitvector_flow.specs.Flows.{has_at}
use Rattle.bitvector_flow.specs.Lives.{has_register}
use Rattle.suifvm_ir.specs.declared.insn.VmInsn.{VmInsn}
use Rattle.suifvm_ir.specs.Insns.{reads_of, writes_of}
use Rattle.suifvm_ir.specs.Programs.{VmFunction}
use Rattle.flow_clean.specs.Chains.{retargeted, IsChainedOf, MeasuresStay}
use Rattle.flow_clean.specs.Clean.{IsCleanOf}
use Rattle.flow_clean.specs.Dead.{may_drop, is_self_move, is_wanted, is_dead_write, NoneIsDead, IsCleanedOf, MeasuresFall}
use Rattle.flow_clean.proofs.Retargeted.{same, reads_same, writes_same}

-- ---- an instruction with other targets may be left out where the one before may

module _ (ends : List ℕ) where
  drop_same : (i : VmInsn) → may_drop (retargeted ends i) ≡ may_drop i
  drop_same = same ends may_drop (λ op ty source block other. refl) (λ block other. refl)

  wanted_same : (bottom : ℕ → Bool) (insns : List VmInsn) (k : ℕ) → is_wanted bottom (map (retargeted ends) insns) k ≡ is_wanted bottom insns k
  wanted_same bottom [] k = refl
  wanted_same bottom (i ∷ insns) k =
      ap (λ rs. has_register rs k || (not (has_register (writes_of (retargeted ends i)) k) && is_wanted bottom (map (retargeted ends) insns) k)) (reads_same ends i)
      ∙ ap (λ ws. has_register (reads_of i) k || (not (has_register ws k) && is_wanted bottom (map (retargeted ends) insns) k)) (writes_same ends i)
      ∙ ap (λ b. has_register (reads_of i) k || (not (has_register (writes_of i) k) && b)) (wanted_same bottom insns k)

  self_same : (i : VmInsn) → is_self_move (retargeted ends i) ≡ is_self_move i
  self_same = same ends is_self_move (λ op ty source block other. refl) (λ block other. refl)

  unread_same : (bottom : ℕ → Bool) (i : VmInsn) (insns : List VmInsn) → (may_drop (retargeted ends i) && not (list_any (is_wanted bottom (map (retargeted ends) insns)) (writes_of (retargeted ends i)))) ≡ (may_drop i && not (list_any (is_wanted bottom insns) (writes_of i)))
  unread_same bottom i insns =
      ap (λ b. b && not (list_any (is_wanted bottom (map (retargeted ends) insns)) (writes_of (retargeted ends i)))) (drop_same i)
      ∙ ap (λ ws. may_drop i && not (list_any (is_wanted bottom (map (retargeted ends) insns)) ws)) (writes_same ends i)
      ∙ ap (λ p. may_drop i && not (list_any p (writes_of i))) (fun_ext (wanted_same bottom insns))

  dead_same : (bottom : ℕ → Bool) (i : VmInsn) (insns : List VmInsn) → is_dead_write bottom (retargeted ends i) (map (retargeted ends) insns) ≡ is_dead_write bottom i insns
  dead_same bottom i insns =
      ap (λ s. s || (may_drop (retargeted ends i) && not (list_any (is_wanted bottom (map (retargeted ends) insns)) (writes_of (retargeted ends i))))) (self_same i)
      ∙ ap (λ b. is_self_move i || b) (unread_same bottom i insns)

  none_dead_same : (bottom : ℕ → Bool) (insns : List VmInsn) → NoneIsDead bottom insns → NoneIsDead bottom (map (retargeted ends) insns)
  none_dead_same bottom [] h = tt
  none_dead_same bottom (i ∷ insns) h = (dead_same bottom i insns ∙ h.0, none_dead_same bottom insns h.1)

some_map : {A B : Type 0} (f : A → B) (o : Option A) (y : B) → option_map f o ≡ Some y → (x : A) × (o ≡ Some x) × (f x ≡ y)
some_map f None y e = absurd (none-some y e)
some_map f (Some x) y e = (x, refl, same_Some (f x) y e)

-- ---- one function

pub clean_of : (f l g : VmFunction) → IsCleanedOf f l → IsChainedOf l g → IsCleanOf f g
clean_of f l g d h = record {
  name = h.name ∙ d.name;
  params = h.params ∙ d.params;
  temps = h.temps ∙ d.temps;
  objects = h.objects ∙ d.objects;
  middle = l.blocks;
  live = d.blocks;
  chained = h.blocks;
  none_dead = λ block insns there.
      let found = some_map (map (retargeted h.blocks.ends)) (slice_get l.blocks block) insns (sym (slice_get-map (map (retargeted h.blocks.ends)) l.blocks block) ∙ ap (λ bs. slice_get bs block) (sym h.blocks.made) ∙ there) in
      subst (NoneIsDead (has_at d.blocks.bottoms block)) found.2 (none_dead_same h.blocks.ends (has_at d.blocks.bottoms block) found.0 (d.none_dead block found.0 found.1));
  none_passes = h.none_passes;
  marks = h.marks;
}

-- ---- measures

pub stay_falls : (f g : VmFunction) → MeasuresStay f g → MeasuresFall f g
stay_falls f g a = record {
  insns = let x = a.insns in omega (arith, x);
  edges = a.edges;
  cost = let x = a.cost in omega (arith, x);
  size = let x = a.size in omega (arith, x);
}

pub measures_fall : (f l g : VmFunction) → MeasuresFall f l → MeasuresStay l g → MeasuresFall f g
measures_fall f l g a b = record {
  insns = let x = a.insns in let y = b.insns in omega (arith, x, y);
  edges = b.edges ∙ a.edges;
  cost = let x = a.cost in let y = b.cost in omega (arith, x, y);
  size = let x = a.size in let y = b.size in omega (arith, x, y);
}
