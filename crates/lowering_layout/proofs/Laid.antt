-- The blocks of good code are those of a function.
use Rattle.std.proofs.Common.{◌≡◌, ◌<◌, ℕ, zero, suc, ◌+◌, ◌-◌, Bool, true, false, List, [], ◌∷◌, ◌++◌, Some, length, get_or, take, refl, sym, ap, ◌∙◌, subst, arith, append_assoc, append-nil}
use Rattle.std.specs.Prelude.{All, ◌&&◌, ◌||◌, IsTrue, nat_lt, slice_get}
use Rattle.std.specs.List.{list_all}
use Rattle.std.proofs.lemmas.Bool.{lt-ltb}
use Rattle.std.proofs.lemmas.List.{take-append-le, length_push}
use Rattle.std.proofs.lemmas.List.Elements.{All-nil, All-cons, All-append, All-take, All-head, All-tail}
use Rattle.suifvm_ir.specs.declared.insn.VmBranchOp.TheVariants.{IfTrue}
use Rattle.suifvm_ir.specs.declared.insn.VmInsn as vm
use Rattle.suifvm_ir.specs.declared.insn.VmInsn.TheVariants as n
use Rattle.suifvm_ir.specs.Insns.{targets_of, flows_on_of}
use Rattle.pass_core.specs.Functions.{GoesToBlocks, IsStraight, EndsLate, last_of, front_of}
use Rattle.suifvm_ir.specs.Programs.{begins_with_mark, goes_back_to_marks}
use Rattle.lowering_code.specs.declared.item.CodeItem.{CodeItem}
use Rattle.lowering_code.specs.declared.item.CodeItem.TheVariants.{Start, Plain, Jump, Branch, Loop, Enter, Again, Repeat, Return}
use Rattle.lowering_code.specs.Items.{block_total}
use Rattle.lowering_code.specs.Layout.{Layout, with_insn, end_block, end_with, open_loop, head_or_zero, outer_heads, close_loop, add_item, with_items}
use Rattle.lowering_layout.specs.Good.{IsGood}

-- ---- lists

-- one more behind a list
pub push : {X : Type 0} (P : ℕ → X → Type 0) (xs : List X) (x d : X) → ((k : ℕ) → k < length xs → P k (get_or xs k d)) → P (length xs) x
    → (k : ℕ) → k < length (xs ++ x ∷ []) → P k (get_or (xs ++ x ∷ []) k d)
push P [] x d h p zero lt = p
push P [] x d h p (suc k) lt = absurd (omega (arith, lt))
push P (y ∷ xs) x d h p zero lt = h zero (omega arith)
push P (y ∷ xs) x d h p (suc k) lt = push (λ j. P (suc j)) xs x d (λ j l. h (suc j) (omega (arith, l))) p k (omega (arith, lt))

slice_at : {X : Type 0} (xs : List X) (x : X) (ys : List X) → slice_get (xs ++ x ∷ ys) (length xs) ≡ Some x
slice_at [] x ys = refl
slice_at (z ∷ xs) x ys = slice_at xs x ys

pub last_is : {X : Type 0} (xs : List X) (x : X) → last_of (xs ++ x ∷ []) ≡ Some x
last_is xs x =
    let e : length (xs ++ x ∷ []) - 1 ≡ length xs = omega (arith, length_push xs x) in
    ap (λ k. slice_get (xs ++ x ∷ []) k) e ∙ slice_at xs x []

front_is : {X : Type 0} (xs : List X) (x : X) → front_of (xs ++ x ∷ []) ≡ xs
front_is xs x =
    let e : length (xs ++ x ∷ []) - 1 ≡ length xs = omega (arith, length_push xs x) in
    ap (λ k. take k (xs ++ x ∷ [])) e ∙ take-append-le (length xs) xs (x ∷ []) (omega arith) ∙ take_whole xs
  where
    take_whole : {X : Type 0} (xs : List X) → take (length xs) xs ≡ xs
    take_whole [] = refl
    take_whole (x ∷ xs) = ap (λ l. x ∷ l) (take_whole xs)

-- ---- blocks; w are those of the whole function

abbrev pub Straight : vm.VmInsn → Type 0
Straight i = IsStraight targets_of flows_on_of i

module _ (w : List (List vm.VmInsn)) where
  pub record IsLaid (k : ℕ) (b : List vm.VmInsn) : Type 0 where
    pub targets : All (GoesToBlocks targets_of (length w)) b
    pub straight : EndsLate targets_of flows_on_of b
    pub marks : All (λ i. IsTrue (goes_back_to_marks w k i)) b

  -- what a jump at the end of a block goes to
  pub record Goes (k : ℕ) (i : vm.VmInsn) : Type 0 where
    pub targets : GoesToBlocks targets_of (length w) i
    pub marks : IsTrue (goes_back_to_marks w k i)

  abbrev no_targets_all : (P : ℕ → Type 0) (ts : List ℕ) → length ts ≡ 0 → All P ts
  no_targets_all P [] e = All-nil P
  no_targets_all P (t ∷ ts) e = absurd (omega (arith, e))

  abbrev no_targets_back : (p : ℕ → Bool) (ts : List ℕ) → length ts ≡ 0 → list_all p ts ≡ true
  no_targets_back p [] e = refl
  no_targets_back p (t ∷ ts) e = absurd (omega (arith, e))

  pub goes_straight : (k : ℕ) (i : vm.VmInsn) → length (targets_of i) ≡ 0 → Goes k i
  goes_straight k i e = record { targets = no_targets_all (λ target. (0 < target) × (target < length w)) (targets_of i) e; marks = no_targets_back (λ target. nat_lt k target || begins_with_mark (slice_get w target)) (targets_of i) e }

  all_goes : (k : ℕ) (b : List vm.VmInsn) → All Straight b → All (Goes k) b
  all_goes k [] h = All-nil (Goes k)
  all_goes k (i ∷ b) h = All-cons (Goes k) i b (goes_straight k i (All-head Straight i b h).0) (all_goes k b (All-tail Straight i b h))

  all_targets : (k : ℕ) (b : List vm.VmInsn) → All (Goes k) b → All (GoesToBlocks targets_of (length w)) b
  all_targets k [] h = All-nil (GoesToBlocks targets_of (length w))
  all_targets k (i ∷ b) h = All-cons (GoesToBlocks targets_of (length w)) i b ((All-head (Goes k) i b h).targets) (all_targets k b (All-tail (Goes k) i b h))

  all_marks : (k : ℕ) (b : List vm.VmInsn) → All (Goes k) b → All (λ i. IsTrue (goes_back_to_marks w k i)) b
  all_marks k [] h = All-nil (λ i. IsTrue (goes_back_to_marks w k i))
  all_marks k (i ∷ b) h = All-cons (λ i. IsTrue (goes_back_to_marks w k i)) i b ((All-head (Goes k) i b h).marks) (all_marks k b (All-tail (Goes k) i b h))

  pub falls : (k : ℕ) (b : List vm.VmInsn) → All Straight b → IsLaid k b
  falls k b h = record {
    targets = all_targets k b (all_goes k b h);
    straight = All-take Straight _ b h;
    marks = all_marks k b (all_goes k b h);
  }

  pub ends : (k : ℕ) (b : List vm.VmInsn) (i : vm.VmInsn) → All Straight b → Goes k i → IsLaid k (b ++ i ∷ [])
  ends k b i h g =
      let all : All (Goes k) (b ++ i ∷ []) = All-append (Goes k) b (i ∷ []) (all_goes k b h) (All-cons (Goes k) i [] g (All-nil (Goes k))) in
      record {
        targets = all_targets k _ all;
        straight = subst (All Straight) (sym (front_is b i)) h;
        marks = all_marks k _ all;
      }

  -- a jump to one block
  goes_on : (k t : ℕ) (i : vm.VmInsn) → targets_of i ≡ t ∷ [] → k < t → t < length w → Goes k i
  goes_on k t i e more less = record {
    targets = subst (All (λ target. (0 < target) × (target < length w))) (sym e) (All-cons (λ target. (0 < target) × (target < length w)) t [] (omega (arith, more), less) (All-nil (λ target. (0 < target) × (target < length w))));
    marks = ap (list_all (λ target. nat_lt k target || begins_with_mark (slice_get w target))) e ∙ forward k t (begins_with_mark (slice_get w t)) (lt-ltb k t more);
  }
    where
      forward : (k t : ℕ) (b : Bool) → nat_lt k t ≡ true → list_all (λ target. nat_lt k target || b) (t ∷ []) ≡ true
      forward k t b e = rw e refl

  goes_back : (k t : ℕ) (i : vm.VmInsn) → targets_of i ≡ t ∷ [] → 0 < t → t < length w → begins_with_mark (slice_get w t) ≡ true → Goes k i
  goes_back k t i e more less mark = record {
    targets = subst (All (λ target. (0 < target) × (target < length w))) (sym e) (All-cons (λ target. (0 < target) × (target < length w)) t [] (more, less) (All-nil (λ target. (0 < target) × (target < length w))));
    marks = ap (list_all (λ target. nat_lt k target || begins_with_mark (slice_get w target))) e ∙ back (nat_lt k t) (begins_with_mark (slice_get w t)) mark;
  }
    where
      back : (a b : Bool) → b ≡ true → (a || b) && true ≡ true
      back true b e = refl
      back false b e = rw e refl

  -- ---- open loops

  abbrev pub Heads : (loops : ℕ) → List ℕ → Type 0
  Heads zero hs = Unit {0}
  Heads (suc n) [] = ⊥
  Heads (suc n) (h ∷ hs) = (0 < h) × (h < length w) × (begins_with_mark (slice_get w h) ≡ true) × Heads n hs

  pub record Sound (loops : ℕ) (l : Layout) : Type 0 where
    pub blocks : (k : ℕ) → k < length l.blocks → IsLaid k (get_or l.blocks k [])
    pub insns : All Straight l.insns
    pub heads : Heads loops l.heads

  closed : (loops : ℕ) (l : Layout) → Sound loops l → Sound loops (end_block l)
  closed loops l s = record {
    blocks = push IsLaid l.blocks l.insns [] s.blocks (falls (length l.blocks) l.insns s.insns);
    insns = All-nil Straight;
    heads = s.heads;
  }

  put : (loops : ℕ) (l : Layout) (i : vm.VmInsn) → Straight i → Sound loops l → Sound loops (with_insn i l)
  put loops l i p s = record {
    blocks = s.blocks;
    insns = All-append Straight l.insns (i ∷ []) s.insns (All-cons Straight i [] p (All-nil Straight));
    heads = s.heads;
  }

  ended : (loops : ℕ) (l : Layout) (i : vm.VmInsn) → Goes (length l.blocks) i → Sound loops l → Sound loops (end_with i l)
  ended loops l i g s = record {
    blocks = push IsLaid l.blocks (l.insns ++ i ∷ []) [] s.blocks (ends (length l.blocks) l.insns i s.insns g);
    insns = All-nil Straight;
    heads = s.heads;
  }

  -- what is laid out stays, and the block at hand goes on
  record Stands (l : Layout) : Type 0 where
    more : List vm.VmInsn
    rest : List (List vm.VmInsn)
    is : w ≡ l.blocks ++ (l.insns ++ more) ∷ rest

  opened : (loops : ℕ) (l : Layout) → l.insns ≡ [] → 0 < length l.blocks → length l.blocks < length w → Stands (open_loop l) → Sound loops l → Sound (suc loops) (open_loop l)
  opened loops l empty more less h s = record {
    blocks = s.blocks;
    insns = subst (λ is. All Straight (is ++ n.Mark ∷ [])) (sym empty) (All-cons Straight n.Mark [] (refl, refl) (All-nil Straight));
    heads = (more, less, ap (λ x. begins_with_mark (slice_get x (length l.blocks))) h.is ∙ ap begins_with_mark (slice_at l.blocks ((l.insns ++ n.Mark ∷ []) ++ h.more) h.rest) ∙ ap (λ is. begins_with_mark (Some ((is ++ n.Mark ∷ []) ++ h.more))) empty, s.heads);
  }

  stands_closed : (l : Layout) → Stands (end_block l) → Stands l
  stands_closed l h = record {
    more = [];
    rest = h.more ∷ h.rest;
    is = h.is ∙ append_assoc l.blocks (l.insns ∷ []) (h.more ∷ h.rest) ∙ ap (λ is. l.blocks ++ is ∷ h.more ∷ h.rest) (sym (append-nil l.insns));
  }

  stands_put : (i : vm.VmInsn) (l : Layout) → Stands (with_insn i l) → Stands l
  stands_put i l h = record { more = i ∷ h.more; rest = h.rest; is = h.is ∙ ap (λ is. l.blocks ++ is ∷ h.rest) (append_assoc l.insns (i ∷ []) h.more) }

  stands_ended : (i : vm.VmInsn) (l : Layout) → Stands (end_with i l) → Stands l
  stands_ended i l h = stands_put i l (stands_closed (with_insn i l) h)

  stands_opened : (l : Layout) → Stands (open_loop l) → Stands l
  stands_opened l h = record { more = n.Mark ∷ h.more; rest = h.rest; is = h.is ∙ ap (λ is. l.blocks ++ is ∷ h.rest) (append_assoc l.insns (n.Mark ∷ []) h.more) }

  stands_loop : (l : Layout) → Stands (close_loop l) → Stands l
  stands_loop l h = record { more = h.more; rest = h.rest; is = h.is }

  stands_step : (i : CodeItem) (l : Layout) → Stands (add_item i l) → Stands l
  stands_step Start l h = stands_closed l h
  stands_step (Plain insn) l h = stands_put insn l h
  stands_step (Jump name) l h = stands_ended _ l h
  stands_step (Branch op ty source name) l h = stands_ended _ l h
  stands_step (Loop name) l h = stands_ended _ l (stands_opened _ h)
  stands_step Enter l h = stands_closed l (stands_opened _ h)
  stands_step (Again ty source) l h = stands_ended _ l (stands_loop _ h)
  stands_step Repeat l h = stands_ended _ l (stands_loop _ h)
  stands_step (Return value) l h = stands_ended _ l h

  stands : (end : List vm.VmInsn) (is : List CodeItem) (l : Layout) → w ≡ (with_items is l).blocks ++ ((with_items is l).insns ++ end) ∷ [] → Stands l
  stands end [] l e = record { more = end; rest = []; is = e }
  stands end (i ∷ is) l e = stands_step i l (stands end is (add_item i l) e)

  -- a jump back to the inner loop, which ends
  goes_round : (loops : ℕ) (l : Layout) (i : vm.VmInsn) → targets_of i ≡ head_or_zero l.heads ∷ [] → Sound (suc loops) l → Sound loops (close_loop (end_with i l))
  goes_round loops l i e s = by l.heads refl (s.heads)
    where
      by : (hs : List ℕ) → l.heads ≡ hs → Heads (suc loops) l.heads → Sound loops (close_loop (end_with i l))
      by [] is h = absurd (subst (Heads (suc loops)) is h)
      by (t ∷ hs) is h =
          let k : Heads (suc loops) (t ∷ hs) = subst (Heads (suc loops)) is h in
          record {
            blocks = push IsLaid l.blocks (l.insns ++ i ∷ []) [] s.blocks (ends (length l.blocks) l.insns i s.insns (goes_back (length l.blocks) t i (e ∙ ap (λ x. head_or_zero x ∷ []) is) k.0 k.1 k.2));
            insns = All-nil Straight;
            heads = subst (λ x. Heads loops (outer_heads x)) (sym is) k.3;
          }

  -- ---- all items

  pub sound : (end : List vm.VmInsn) (most : ℕ) (is : List CodeItem) (loops : ℕ) (l : Layout)
      → w ≡ (with_items is l).blocks ++ ((with_items is l).insns ++ end) ∷ [] → l.last ≡ length l.blocks + block_total is → length w ≡ l.last + 1
      → IsGood most loops is → Sound loops l → Sound 0 (with_items is l)
  sound end most [] loops l e last size good s = subst (λ k. Sound k l) good s
  sound end most (Start ∷ is) loops l e last size good s =
      sound end most is loops _ e (omega (arith, last, length_push l.blocks l.insns)) size good (closed loops l s)
  sound end most (Plain insn ∷ is) loops l e last size good s =
      sound end most is loops _ e last size good.2 (put loops l insn good.0 s)
  sound end most (Jump name ∷ is) loops l e last size good s =
      sound end most is loops _ e (omega (arith, last, length_push l.blocks (l.insns ++ n.Jump (l.last - name) ∷ []))) size good.1
      (ended loops l (n.Jump (l.last - name)) (goes_on (length l.blocks) (l.last - name) _ refl (omega (arith, last, good.0)) (omega (arith, size))) s)
  sound end most (Branch op ty source name ∷ is) loops l e last size good s =
      sound end most is loops _ e (omega (arith, last, length_push l.blocks (l.insns ++ n.Branch op ty source (l.last - name) ∷ []))) size good.2
      (ended loops l (n.Branch op ty source (l.last - name)) (goes_on (length l.blocks) (l.last - name) _ refl (omega (arith, last, good.1)) (omega (arith, size))) s)
  sound end most (Loop name ∷ is) loops l e last size good s =
      let m : Layout = end_with (n.Jump (l.last - name)) l in
      let more : length m.blocks ≡ length l.blocks + 1 = length_push l.blocks (l.insns ++ n.Jump (l.last - name) ∷ []) ∙ omega arith in
      sound end most is (suc loops) (open_loop m) e (omega (arith, last, more)) size good.1
      (opened loops m refl (omega (arith, more)) (omega (arith, more, last, size)) (stands end is (open_loop m) e)
      (ended loops l (n.Jump (l.last - name)) (goes_on (length l.blocks) (l.last - name) _ refl (omega (arith, last, good.0)) (omega (arith, size))) s))
  sound end most (Enter ∷ is) loops l e last size good s =
      let m : Layout = end_block l in
      let more : length m.blocks ≡ length l.blocks + 1 = length_push l.blocks l.insns ∙ omega arith in
      sound end most is (suc loops) (open_loop m) e (omega (arith, last, more)) size good
      (opened loops m refl (omega (arith, more)) (omega (arith, more, last, size)) (stands end is (open_loop m) e) (closed loops l s))
  sound end most (Again ty source ∷ is) zero l e last size good s = absurd good
  sound end most (Again ty source ∷ is) (suc loops) l e last size good s =
      sound end most is loops _ e (omega (arith, last, length_push l.blocks (l.insns ++ n.Branch IfTrue ty source (head_or_zero l.heads) ∷ []))) size good.1
      (goes_round loops l (n.Branch IfTrue ty source (head_or_zero l.heads)) refl s)
  sound end most (Repeat ∷ is) zero l e last size good s = absurd good
  sound end most (Repeat ∷ is) (suc loops) l e last size good s =
      sound end most is loops _ e (omega (arith, last, length_push l.blocks (l.insns ++ n.Jump (head_or_zero l.heads) ∷ []))) size good
      (goes_round loops l (n.Jump (head_or_zero l.heads)) refl s)
  sound end most (Return value ∷ is) loops l e last size good s =
      sound end most is loops _ e (omega (arith, last, length_push l.blocks (l.insns ++ n.Return value ∷ []))) size good.1
      (ended loops l (n.Return value) (goes_straight (length l.blocks) (n.Return value) refl) s)
