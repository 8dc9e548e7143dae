-- The ends that are found from the last block on.
use Rattle.std.proofs.Common.{◌≡◌, ◌≢◌, ℕ, suc, ◌<◌, ◌≤◌, ◌⊎◌, ◌||◌, ◌&&◌, nat_lt, Bool, true, false, List, [], ◌∷◌, length, get_or, set, Option, Some, None, All, refl, sym, ap, ◌∙◌, subst, inl, inr, ⊎_elim, arith, replicate, length-set, get_or-set_same, get_or-set_other}
use Rattle.std.specs.Prelude.{slice_get, slice_index_or, IsTrue, IfSome, if◌then◌else◌}
use Rattle.std.proofs.lemmas.Bool.{cases_lt, cases_eq, lt-ltb, le-ltb, ltb-true}
use Rattle.std.proofs.lemmas.List.{length-replicate}
use Rattle.std.proofs.lemmas.Option.{slice_get-get_or}
use Rattle.std.proofs.lemmas.List.Elements.{All-head}
use Rattle.pass_core.specs.Functions.{AllInsns, GoesToBlocks}
use Rattle.suifvm_ir.specs.declared.insn.VmInsn.{VmInsn}
use Rattle.suifvm_ir.specs.declared.insn.VmInsn.TheVariants as x
use Rattle.suifvm_ir.specs.Insns.{targets_of}
use Rattle.suifvm_ir.specs.Programs.{begins_with_mark, first_is_mark, goes_back_to_marks}
use Rattle.flow_clean.specs.Chains.{only_jump, jump_in, passes_to, LeadsTo, GoesBackToMarks}
use Rattle.flow_clean.specs.Chains.LeadsTo.{IsEnd, PassesOn}
use Rattle.flow_clean.specs.model.Ends.{AreEndsFrom, end_in}
use Rattle.flow_clean.proofs.ChainRuns.{passing_block}

-- a block that begins with a mark passes nothing on
marked_insns : (insns : List VmInsn) → first_is_mark (slice_get insns 0) ≡ true → only_jump insns ≡ None
marked_insns [] e = refl
marked_insns (i ∷ j ∷ insns) e = refl
marked_insns (x.Mark ∷ []) e = refl
marked_insns (x.Jump block ∷ []) e = let never : ⊥ = cc in absurd never
marked_insns (x.LoadConstant ty d word ∷ []) e = refl
marked_insns (x.LoadAddress d place plus ∷ []) e = refl
marked_insns (x.Load ty d p plus ∷ []) e = refl
marked_insns (x.Store ty p plus b ∷ []) e = refl
marked_insns (x.Copy to from size align ∷ []) e = refl
marked_insns (x.Unary op ty d b ∷ []) e = refl
marked_insns (x.Binary op ty d b c ∷ []) e = refl
marked_insns (x.Shift op ty d b c ∷ []) e = refl
marked_insns (x.Convert from to d b ∷ []) e = refl
marked_insns (x.Compare op ty d b c ∷ []) e = refl
marked_insns (x.Branch op ty source block ∷ []) e = refl
marked_insns (x.Call d c arguments ∷ []) e = refl
marked_insns (x.Return value ∷ []) e = refl
marked_insns (x.Nop ∷ []) e = refl

pub marked_ends : (o : Option (List VmInsn)) → begins_with_mark o ≡ true → jump_in o ≡ None
marked_ends None e = refl
marked_ends (Some insns) e = marked_insns insns e

module _ (blocks : List (List VmInsn)) (targets : AllInsns (GoesToBlocks targets_of (length blocks)) blocks) (marks : GoesBackToMarks blocks) where
  block_there : (at : ℕ) (insns : List VmInsn) → slice_get blocks at ≡ Some insns → at < length blocks → slice_index_or blocks at [] ≡ insns
  block_there at insns is within = some_same (slice_index_or blocks at []) insns (sym (slice_get-get_or blocks at [] within) ∙ is)
    where
      some_same : (a b : List VmInsn) → Some a ≡ Some b → a ≡ b
      some_same a b e = cc

  -- the target of a block that passes on is a block, and stands behind or passes nothing on
  pub next_inside : (at next : ℕ) → at < length blocks → passes_to blocks at ≡ Some next → (0 < next) × (next < length blocks)
  next_inside at next within passes =
      let is = block_there at (x.Jump next ∷ []) (passing_block (slice_get blocks at) next passes) within in
      let all : All (GoesToBlocks targets_of (length blocks)) (x.Jump next ∷ []) = subst (All (GoesToBlocks targets_of (length blocks))) is (targets at [] within) in
      All-head (λ target. (0 < target) × (target < length blocks)) next [] (All-head (GoesToBlocks targets_of (length blocks)) (x.Jump next) [] all)

  pub next_marked : (at next : ℕ) → at < length blocks → passes_to blocks at ≡ Some next → (at < next) ⊎ (begins_with_mark (slice_get blocks next) ≡ true)
  next_marked at next within passes =
      let is = block_there at (x.Jump next ∷ []) (passing_block (slice_get blocks at) next passes) within in
      let all : All (λ i. IsTrue (goes_back_to_marks blocks at i)) (x.Jump next ∷ []) = subst (All (λ i. IsTrue (goes_back_to_marks blocks at i))) is (marks at within) in
      by_test (nat_lt at next) refl (All-head (λ i. IsTrue (goes_back_to_marks blocks at i)) (x.Jump next) [] all)
    where
      by_mark : (b : Bool) → begins_with_mark (slice_get blocks next) ≡ b → IsTrue (b && true) → (at < next) ⊎ (begins_with_mark (slice_get blocks next) ≡ true)
      by_mark true is h = inr is
      by_mark false is h = let never : ⊥ = cc in absurd never

      by_test : (b : Bool) → nat_lt at next ≡ b → IsTrue ((b || begins_with_mark (slice_get blocks next)) && true) → (at < next) ⊎ (begins_with_mark (slice_get blocks next) ≡ true)
      by_test true is h = inl (ltb-true at next is)
      by_test false is h = by_mark (begins_with_mark (slice_get blocks next)) refl h

  -- ---- one block more

  found : (at : ℕ) (ends : List ℕ) → at < length blocks → AreEndsFrom blocks (suc at) ends → (o : Option ℕ) → passes_to blocks at ≡ o → LeadsTo blocks at (end_in ends at o)
  found at ends within k None passes = IsEnd passes
  found at ends within k (Some next) passes =
      let inside = next_inside at next within passes in
      let below = inside.1 in
      PassesOn next passes (⊎_elim
      (λ (w : at < next). subst (λ b. LeadsTo blocks next (if b then slice_index_or ends next 0 else next)) (sym (lt-ltb at next w)) (k.lead next w below))
      (λ (w : next ≤ at). subst (λ b. LeadsTo blocks next (if b then slice_index_or ends next 0 else next)) (sym (le-ltb at next w))
      (IsEnd (⊎_elim (λ (less : at < next). absurd (omega (arith, less, w))) (λ mark. marked_ends (slice_get blocks next) mark) (next_marked at next within passes))))
      (cases_lt at next))

  pub ends_next : (from at v : ℕ) (ends : List ℕ) (b : List VmInsn) → from ≡ suc at → at < length blocks → b ≡ get_or blocks at b → v ≡ end_in ends at (only_jump b) →
      AreEndsFrom blocks from ends → AreEndsFrom blocks at (set ends at v)
  ends_next from at v ends b from_is within b_is v_is k =
      let many = k.as_many in
      let passes : passes_to blocks at ≡ only_jump b = ap jump_in (slice_get-get_or blocks at b within ∙ ap Some (sym b_is)) in
      record {
        as_many = length-set ends at v ∙ k.as_many;
        lead = λ block low inside. ⊎_elim
            (λ (same : block ≡ at). subst (λ z. LeadsTo blocks z (slice_index_or (set ends at v) z 0)) (sym same)
            (subst (LeadsTo blocks at) (sym (get_or-set_same ends at v 0 (omega (arith, within, many)) ∙ v_is))
            (found at ends within (subst (λ n. AreEndsFrom blocks n ends) from_is k) (only_jump b) passes)))
            (λ (apart : block ≢ at). subst (LeadsTo blocks block) (sym (get_or-set_other ends at block v 0 apart)) (k.lead block (omega (arith, low, apart, from_is)) inside))
            (cases_eq block at);
      }

  pub target_inside : (at : ℕ) (o : Option ℕ) (b : List VmInsn) → at < length blocks → b ≡ get_or blocks at b → o ≡ only_jump b → IfSome o (λ next. next < length blocks)
  target_inside at None b within b_is is = tt
  target_inside at (Some next) b within b_is is =
      (next_inside at next within (ap jump_in (slice_get-get_or blocks at b within ∙ ap Some (sym b_is)) ∙ sym is)).1

pub ends_begin : (blocks : List (List VmInsn)) (ends : List ℕ) (count : ℕ) → count ≡ length blocks → ends ≡ replicate count 0 → AreEndsFrom blocks count ends
ends_begin blocks ends count count_is is = record {
  as_many = ap length is ∙ length-replicate count 0 ∙ count_is;
  lead = λ block low inside. absurd (omega (arith, low, inside, count_is));
}
