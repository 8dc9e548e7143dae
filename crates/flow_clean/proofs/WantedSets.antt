-- One step back over an instruction in the set of what is wanted.
use Rattle.std.proofs.Common.{◌≡◌, ℕ, ◌<◌, ◌≤◌, ◌==◌, ◌&&◌, ◌||◌, not, Bool, true, false, List, [], ◌∷◌, length, set, Option, Some, None, All, refl, sym, ap, ◌∙◌, subst, arith, get_or-set_same, get_or-set_other}
use Rattle.std.specs.Prelude.{slice_get, IfSome, if◌then◌else◌}
use Rattle.std.specs.List.{list_any}
use Rattle.std.proofs.lemmas.Bool.{eqb-true, eqb-false}
use Rattle.std.proofs.lemmas.List.Elements.{All-head}
use Rattle.bk_bits.specs.Sets.{has}
use Rattle.bitvector_flow.specs.Lives.{has_register}
use Rattle.suifvm_ir.specs.declared.insn.VmInsn.{VmInsn}
use Rattle.suifvm_ir.specs.declared.insn.VmInsn.TheVariants as x
use Rattle.suifvm_ir.specs.Insns.{reads_of, writes_of, named_register}
use Rattle.flow_clean.specs.Dead.{may_drop, is_self_move, is_unwanted}
use Rattle.flow_clean.specs.declared.origins.LastWrite.{LastWrite}
use Rattle.flow_clean.specs.Copies.{with_reads}
use Rattle.flow_clean.specs.model.Origins.{origin}
use Rattle.flow_clean.specs.model.Walks.{is_named, is_member_in, is_wanted_before, IsWantedBefore, IsKept, IsVisited}
use Rattle.flow_clean.proofs.OtherReads.{no_names}

-- ---- an instruction writes one register at most

one_named : (o : Option ℕ) → length (named_register o) ≤ 1
one_named None = omega arith
one_named (Some register) = omega arith

pub one_write : (i : VmInsn) → length (writes_of i) ≤ 1
one_write (x.LoadConstant ty d word) = omega arith
one_write (x.LoadAddress d place plus) = omega arith
one_write (x.Load ty d p plus) = omega arith
one_write (x.Store ty p plus b) = omega arith
one_write (x.Copy to from size align) = omega arith
one_write (x.Unary op ty d b) = omega arith
one_write (x.Binary op ty d b c) = omega arith
one_write (x.Shift op ty d b c) = omega arith
one_write (x.Convert from to d b) = omega arith
one_write (x.Compare op ty d b c) = omega arith
one_write (x.Branch op ty source block) = omega arith
one_write (x.Jump block) = omega arith
one_write (x.Call d c arguments) = one_named d
one_write (x.Return value) = omega arith
one_write x.Mark = omega arith
one_write x.Nop = omega arith

or_none : (b : Bool) → (b || false) ≡ b
or_none true = refl
or_none false = refl

named_first : (ws : List ℕ) → length ws ≤ 1 → (k : ℕ) → has_register ws k ≡ is_named (slice_get ws 0) k
named_first [] few k = refl
named_first (w ∷ []) few k = or_none (w == k)
named_first (w ∷ v ∷ ws) few k = absurd (omega (arith, few))

any_first : (p : ℕ → Bool) (ws : List ℕ) → length ws ≤ 1 → list_any p ws ≡ is_member_in p (slice_get ws 0)
any_first p [] few = refl
any_first p (w ∷ []) few = or_none (p w)
any_first p (w ∷ v ∷ ws) few = absurd (omega (arith, few))

-- what is written is in range
pub first_inside : (P : ℕ → Type 0) (i : VmInsn) (o : Option ℕ) → All P (writes_of i) → o ≡ slice_get (writes_of i) 0 → IfSome o P
first_inside P i o all is = subst (λ z. IfSome z P) (sym is) (of_list (writes_of i) all)
  where
    of_list : (ws : List ℕ) → All P ws → IfSome (slice_get ws 0) P
    of_list [] h = tt
    of_list (w ∷ ws) h = All-head P w ws h

-- ---- whether it may be left out

pub self_unwanted : (w : ℕ → Bool) (i : VmInsn) (s : Bool) → s ≡ is_self_move i → s ≡ true → true ≡ is_unwanted w i
self_unwanted w i s self moves = sym (ap (λ b. b || (may_drop i && not (list_any w (writes_of i)))) (sym self ∙ moves))

-- where it is no move of a register to itself
unless_self : (w : ℕ → Bool) (i : VmInsn) (s : Bool) → s ≡ is_self_move i → s ≡ false → (may_drop i && not (list_any w (writes_of i))) ≡ is_unwanted w i
unless_self w i s self other = sym (ap (λ b. b || (may_drop i && not (list_any w (writes_of i)))) (sym self ∙ other))

pub not_dropped : (w : ℕ → Bool) (i : VmInsn) (s d : Bool) → s ≡ is_self_move i → s ≡ false → d ≡ may_drop i → d ≡ false → false ≡ is_unwanted w i
not_dropped w i s d self other is none =
    sym (ap (λ b. b && not (list_any w (writes_of i))) (sym is ∙ none)) ∙ unless_self w i s self other

pub unwanted_by : (w : ℕ → Bool) (i : VmInsn) (s d m : Bool) (o : Option ℕ) → s ≡ is_self_move i → s ≡ false → d ≡ may_drop i → d ≡ true → o ≡ slice_get (writes_of i) 0 → m ≡ is_member_in w o → not m ≡ is_unwanted w i
unwanted_by w i s d m o self other is some first member =
    ap not (member ∙ ap (is_member_in w) first ∙ sym (any_first w (writes_of i) (one_write i)))
    ∙ sym (ap (λ b. b && not (list_any w (writes_of i))) (sym is ∙ some)) ∙ unless_self w i s self other

-- ---- registers that are taken out and put in

pub has_removed : (s : List Bool) (r k : ℕ) → r < length s → has (set s r false) k ≡ (not (r == k) && has s k)
has_removed s r k within = by_value (r == k) refl
  where
    by_value : (b : Bool) → (r == k) ≡ b → has (set s r false) k ≡ (not (r == k) && has s k)
    by_value true is =
        let same : r ≡ k = eqb-true r k is in
        ap (has (set s r false)) (sym same) ∙ get_or-set_same s r false false within ∙ sym (ap (λ b. not b && has s k) is)
    by_value false is =
        get_or-set_other s r k false false (λ e. eqb-false r k is (sym e)) ∙ sym (ap (λ b. not b && has s k) is)

swap : (a b : Bool) → (a || b) ≡ (b || a)
swap true true = refl
swap true false = refl
swap false true = refl
swap false false = refl

pub back_one : (i : VmInsn) (o : Option ℕ) (k : ℕ) (old mid new : Bool) → o ≡ slice_get (writes_of i) 0 → mid ≡ (not (is_named o k) && old) →
    new ≡ (mid || has_register (reads_of i) k) → new ≡ (has_register (reads_of i) k || (not (has_register (writes_of i) k) && old))
back_one i o k old mid new first mid_is new_is =
    new_is ∙ swap mid (has_register (reads_of i) k)
    ∙ ap (λ b. has_register (reads_of i) k || b) (mid_is
    ∙ ap (λ b. not b && old) (ap (λ z. is_named z k) first ∙ sym (named_first (writes_of i) (one_write i) k)))

-- ---- one instruction more

pub visited_dead : (i : VmInsn) (kept : List VmInsn) (wanted : List Bool) (u : Bool) → u ≡ is_unwanted (has wanted) i → u ≡ true → IsVisited i kept kept wanted wanted
visited_dead i kept wanted u is dead =
    let d : is_unwanted (has wanted) i ≡ true = sym is ∙ dead in
    record {
      bound = refl;
      kept_is = sym (ap (λ b. if b then kept else i ∷ kept) d);
      members = λ k. sym (ap (λ b. if b then has wanted k else is_wanted_before (has wanted) i k) d);
    }

pub visited_kept : (i : VmInsn) (kept kept_new : List VmInsn) (wanted wanted_new : List Bool) (u : Bool) → u ≡ is_unwanted (has wanted) i → u ≡ false →
    IsKept i kept kept_new wanted wanted_new → IsVisited i kept kept_new wanted wanted_new
visited_kept i kept kept_new wanted wanted_new u is stays h =
    let d : is_unwanted (has wanted) i ≡ false = sym is ∙ stays in
    record {
      bound = h.wants.bound;
      kept_is = h.kept_is ∙ sym (ap (λ b. if b then kept else i ∷ kept) d);
      members = λ k. h.wants.members k ∙ sym (ap (λ b. if b then has wanted k else is_wanted_before (has wanted) i k) d);
    }

pub kept_now : (i made : VmInsn) (kept kept_new : List VmInsn) (wanted wanted_new : List Bool) (writes : List LastWrite) → writes ≡ [] → made ≡ with_reads (origin writes 0) i → kept_new ≡ made ∷ kept →
    IsWantedBefore i wanted wanted_new → IsKept i kept kept_new wanted wanted_new
kept_now i made kept kept_new wanted wanted_new writes none is new_is wants = record {
  kept_is = new_is ∙ ap (λ j. j ∷ kept) (is ∙ ap (λ ws. with_reads (origin ws 0) i) none ∙ no_names (origin [] 0) (λ k. refl) i);
  wants = wants;
}
