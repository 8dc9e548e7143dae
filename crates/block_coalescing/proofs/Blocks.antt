-- What a block keeps that is walked along its second version.
use Rattle.std.proofs.Common.{◌≡◌, ℕ, suc, ◌+◌, ◌-◌, ◌≤◌, ◌<◌, max, List, [], ◌∷◌, ◌++◌, Option, Some, None, Bool, true, false, refl, sym, ap, ◌∙◌, subst, length, take, All, arith}
use Rattle.std.specs.Prelude.{cond, count_by, filter, slice_get, IfSome, not}
use Rattle.std.specs.List.{list_all}
use Rattle.std.proofs.lemmas.Bool.{and_from, and_parts}
use Rattle.std.proofs.lemmas.List.Sums.{sum_by-cons}
use Rattle.std.proofs.lemmas.List.Elements.{All-nil, All-cons, All-head, All-tail}
use Rattle.pass_core.specs.Functions.{IsStraight, EndsLate, UsesRegisters, last_of, front_of}
use Rattle.temp_ir.specs.declared.insn.TempInsn.{TempInsn}
use Rattle.temp_ir.specs.declared.insn.TempInsn.TheVariants as i
use Rattle.temp_ir.specs.Insns.{reads_of, writes_of, targets_of, flows_on_of}
use Rattle.temp_ir.specs.Fixed.{fixed_reads_of, fixed_writes_of, ended_of, has_number, written_behind, is_settled_block}
use Rattle.temp_ir.specs.Programs.{first_is_mark}
use Rattle.temp_ir.specs.Cost.{makes_call}
use Rattle.alloc_model.specs.Effect.{width_of, widest_in}
use Rattle.block_coalescing.specs.Forms.{form_of, is_pure, copy_of}
use Rattle.block_coalescing.specs.Walks.{Names, HaveTheseNames, Walked, Ends, Copies, Loses, Keeps}
use Rattle.block_coalescing.proofs.Forms.{same_form}
use Rattle.block_coalescing.proofs.Pure.{pure_form}

-- ---- what stands last

abbrev pub Straight : TempInsn → Type 0
Straight x = IsStraight targets_of flows_on_of x

pub last_more : {A : Type 0} (x y : A) (xs : List A) → last_of (x ∷ y ∷ xs) ≡ last_of (y ∷ xs)
last_more x y xs = let e : length (x ∷ y ∷ xs) - 1 ≡ suc (length (y ∷ xs) - 1) = omega arith in ap (λ k. slice_get (x ∷ y ∷ xs) k) e

front_more : (x y : TempInsn) (xs : List TempInsn) → front_of (x ∷ y ∷ xs) ≡ x ∷ front_of (y ∷ xs)
front_more x y xs = let e : length (x ∷ y ∷ xs) - 1 ≡ suc (length (y ∷ xs) - 1) = omega arith in ap (λ k. take k (x ∷ y ∷ xs)) e

late_head : (x y : TempInsn) (xs : List TempInsn) → EndsLate targets_of flows_on_of (x ∷ y ∷ xs) → Straight x
late_head x y xs ends = All-head Straight x (front_of (y ∷ xs)) (subst (All Straight) (front_more x y xs) ends)

pub late_tail : (x : TempInsn) (xs : List TempInsn) → EndsLate targets_of flows_on_of (x ∷ xs) → EndsLate targets_of flows_on_of xs
late_tail x [] ends = All-nil Straight
late_tail x (y ∷ xs) ends = All-tail Straight x (front_of (y ∷ xs)) (subst (All Straight) (front_more x y xs) ends)

late_cons : (x y : TempInsn) (xs : List TempInsn) → Straight x → EndsLate targets_of flows_on_of (y ∷ xs) → EndsLate targets_of flows_on_of (x ∷ y ∷ xs)
late_cons x y xs s ends = subst (All Straight) (sym (front_more x y xs)) (All-cons Straight x (front_of (y ∷ xs)) s ends)

-- what goes elsewhere stands last
pub last_leaves : (x : TempInsn) (xs : List TempInsn) → EndsLate targets_of flows_on_of (x ∷ xs) → 0 < length (targets_of x) → xs ≡ []
last_leaves x [] ends some = refl
last_leaves x (y ∷ xs) ends some = let straight = (late_head x y xs ends).0 in absurd (omega (arith, straight, some))

one_write : (x : TempInsn) → length (writes_of x) ≤ 1
one_write (i.Address op d base plus) = omega arith
one_write (i.ObjectAddress d place plus) = omega arith
one_write (i.Load op d pointer plus) = omega arith
one_write (i.Store op a pointer plus) = omega arith
one_write (i.Operate op d a b) = omega arith
one_write (i.Extend op d a) = omega arith
one_write (i.ToFixed register s) = omega arith
one_write (i.FromFixed d register) = omega arith
one_write (i.SetFixed register number) = omega arith
one_write (i.WriteArgument number s) = omega arith
one_write (i.ReadArgument d number) = omega arith
one_write (i.Branch op s block) = omega arith
one_write (i.Jump block) = omega arith
one_write (i.Call function arguments) = omega arith
one_write (i.Divide routine) = omega arith
one_write (i.Serve service) = omega arith
one_write (i.Return with_value) = omega arith
one_write i.Mark = omega arith

module _ (temps : ℕ) (bottom : ℕ → Bool) where
  -- ---- each instruction of the second version is one of the first over other temporaries
  pub each_is_one : (P : TempInsn → Type 0) → ((x y : TempInsn) → form_of x ≡ form_of y → P x → P y) → (n : Names) (xs ys : List TempInsn) → Walked temps bottom n xs ys → All P xs → All P ys
  each_is_one P same n xs ys (Ends home) all = All-nil P
  each_is_one P same n xs ys (Copies m d f {xs = us} {ys = vs} is walk) all = each_is_one P same m us vs walk (All-tail P (copy_of d f) us all)
  each_is_one P same n xs ys (Loses m x {xs = us} {ys = vs} p is walk) all = each_is_one P same m us vs walk (All-tail P x us all)
  each_is_one P same n xs ys (Keeps m x y {xs = us} {ys = vs} renamed is leaves walk) all =
      All-cons P y vs (same x y renamed.form (All-head P x us all)) (each_is_one P same m us vs walk (All-tail P x us all))

  -- ---- counts

  pub fewer : (n : Names) (xs ys : List TempInsn) → Walked temps bottom n xs ys → length ys ≤ length xs
  fewer n xs ys (Ends home) = omega arith
  fewer n xs ys (Copies m d f {xs = us} {ys = vs} is walk) = let rest = fewer m us vs walk in omega (arith, rest)
  fewer n xs ys (Loses m x {xs = us} {ys = vs} p is walk) = let rest = fewer m us vs walk in omega (arith, rest)
  fewer n xs ys (Keeps m x y {xs = us} {ys = vs} renamed is leaves walk) = let rest = fewer m us vs walk in omega (arith, rest)

  count_more : (x : TempInsn) (xs : List TempInsn) → count_by makes_call (x ∷ xs) ≡ cond (makes_call x) 1 0 + count_by makes_call xs
  count_more x xs = sum_by-cons (λ y. cond (makes_call y) 1 0) x xs

  none_more : (x : TempInsn) (xs : List TempInsn) → makes_call x ≡ false → count_by makes_call (x ∷ xs) ≡ count_by makes_call xs
  none_more x xs e = let none : cond {A = ℕ} (makes_call x) 1 0 ≡ 0 = ap (λ b. cond {A = ℕ} b 1 0) e in omega (arith, count_more x xs, none)

  pub calls : (n : Names) (xs ys : List TempInsn) → Walked temps bottom n xs ys → count_by makes_call ys ≡ count_by makes_call xs
  calls n xs ys (Ends home) = refl
  calls n xs ys (Copies m d f {xs = us} {ys = vs} is walk) = calls m us vs walk ∙ sym (none_more (copy_of d f) us refl)
  calls n xs ys (Loses m x {xs = us} {ys = vs} p is walk) = calls m us vs walk ∙ sym (none_more x us (pure_form x p).calls)
  calls n xs ys (Keeps m x y {xs = us} {ys = vs} renamed is leaves walk) =
      count_more y vs ∙ ap (λ k. cond (makes_call y) 1 0 + k) (calls m us vs walk)
      ∙ ap (λ b. cond b 1 0 + count_by makes_call us) (sym (same_form x y renamed.form).calls) ∙ sym (count_more x us)

  zero_wide : (k w : ℕ) → k ≡ 0 → max k w ≡ w
  zero_wide k w e = omega (arith, e)

  pub widest : (n : Names) (xs ys : List TempInsn) → Walked temps bottom n xs ys → widest_in ys ≡ widest_in xs
  widest n xs ys (Ends home) = refl
  widest n xs ys (Copies m d f {xs = us} {ys = vs} is walk) = widest m us vs walk ∙ sym (zero_wide 0 (widest_in us) refl)
  widest n xs ys (Loses m x {xs = us} {ys = vs} p is walk) = widest m us vs walk ∙ sym (zero_wide (width_of x) (widest_in us) (pure_form x p).width)
  widest n xs ys (Keeps m x y {xs = us} {ys = vs} renamed is leaves walk) =
      ap (λ k. max (width_of y) k) (widest m us vs walk) ∙ ap (λ k. max k (widest_in us)) (sym (same_form x y renamed.form).width)

  -- ---- marks

  pub mark : (n : Names) (xs ys : List TempInsn) → Walked temps bottom n xs ys → first_is_mark (slice_get xs 0) ≡ true → first_is_mark (slice_get ys 0) ≡ true
  mark n xs ys (Ends home) e = e
  mark n xs ys (Copies m d f is walk) e = absurd (cc)
  mark n xs ys (Loses m x p is walk) e = absurd (let other : first_is_mark (Some x) ≡ false = (pure_form x p).mark in cc)
  mark n xs ys (Keeps m x y renamed is leaves walk) e = sym (same_form x y renamed.form).mark ∙ e

  -- ---- fixed registers

  all_kept : (w : List ℕ) → filter (λ (register : ℕ). true) w ≡ w
  all_kept [] = refl
  all_kept (r ∷ w) = ap (λ l. r ∷ l) (all_kept w)

  -- what writes and ends nothing leaves what was written
  same_written : (w : List ℕ) (x : TempInsn) → fixed_writes_of x ≡ [] → ended_of x ≡ [] → written_behind w x ≡ w
  same_written w x e f =
      ap (λ ks. ks ++ filter (λ register. not (has_number (ended_of x) register)) w) e
      ∙ ap (λ ks. filter (λ register. not (has_number ks register)) w) f ∙ all_kept w

  settled_rest : (w : List ℕ) (x : TempInsn) (xs : List TempInsn) → is_settled_block w (x ∷ xs) ≡ true → is_settled_block (written_behind w x) xs ≡ true
  settled_rest w x xs e = (and_parts (list_all (has_number w) (fixed_reads_of x)) (is_settled_block (written_behind w x) xs) e).1

  pub settled : (n : Names) (xs ys : List TempInsn) → Walked temps bottom n xs ys → (w : List ℕ) → is_settled_block w xs ≡ true → is_settled_block w ys ≡ true
  settled n xs ys (Ends home) w e = refl
  settled n xs ys (Copies m d f {xs = us} {ys = vs} is walk) w e =
      settled m us vs walk w (ap (λ k. is_settled_block k us) (sym (same_written w (copy_of d f) refl refl)) ∙ settled_rest w (copy_of d f) us e)
  settled n xs ys (Loses m x {xs = us} {ys = vs} p is walk) w e =
      let form = pure_form x p in
      settled m us vs walk w (ap (λ k. is_settled_block k us) (sym (same_written w x form.fixed_out form.ended)) ∙ settled_rest w x us e)
  settled n xs ys (Keeps m x y {xs = us} {ys = vs} renamed is leaves walk) w e =
      let form = same_form x y renamed.form in
      let reads : list_all (has_number w) (fixed_reads_of x) ≡ true = (and_parts (list_all (has_number w) (fixed_reads_of x)) (is_settled_block (written_behind w x) us) e).0 in
      let written : written_behind w x ≡ written_behind w y =
      ap (λ ks. ks ++ filter (λ register. not (has_number (ended_of x) register)) w) form.fixed_out
      ∙ ap (λ ks. fixed_writes_of y ++ filter (λ register. not (has_number ks register)) w) form.ended in
      and_from (list_all (has_number w) (fixed_reads_of y)) (is_settled_block (written_behind w y) vs)
      (ap (list_all (has_number w)) (sym form.fixed_in) ∙ reads)
      (settled m us vs walk (written_behind w y) (ap (λ k. is_settled_block k us) (sym written) ∙ settled_rest w x us e))

  -- ---- temporaries

  all_below : (n : Names) (rs qs : List ℕ) → HaveTheseNames temps n rs qs → All (λ r. r < temps) qs
  all_below n [] [] are = All-nil (λ r. r < temps)
  all_below n [] (q ∷ qs) are = absurd are
  all_below n (r ∷ rs) [] are = absurd are
  all_below n (r ∷ rs) (q ∷ qs) are = All-cons (λ r. r < temps) q qs are.1 (all_below n rs qs are.2)

  write_below : (ws : List ℕ) → length ws ≤ 1 → IfSome (slice_get ws 0) (λ e. e < temps) → All (λ r. r < temps) ws
  write_below [] few within = All-nil (λ r. r < temps)
  write_below (w ∷ []) few within = All-cons (λ r. r < temps) w [] within (All-nil (λ r. r < temps))
  write_below (w ∷ v ∷ ws) few within = absurd (omega (arith, few))

  pub uses : (n : Names) (xs ys : List TempInsn) → Walked temps bottom n xs ys → All (UsesRegisters reads_of writes_of temps) ys
  uses n xs ys (Ends home) = All-nil (UsesRegisters reads_of writes_of temps)
  uses n xs ys (Copies m d f {xs = us} {ys = vs} is walk) = uses m us vs walk
  uses n xs ys (Loses m x {xs = us} {ys = vs} p is walk) = uses m us vs walk
  uses n xs ys (Keeps m x y {xs = us} {ys = vs} renamed is leaves walk) =
      All-cons (UsesRegisters reads_of writes_of temps) y vs
      (all_below n (reads_of x) (reads_of y) renamed.reads, write_below (writes_of y) (one_write y) renamed.within)
      (uses m us vs walk)

  -- ---- the last instruction

  empty_end : (n : Names) (ys : List TempInsn) → Walked temps bottom n [] ys → ys ≡ []
  empty_end n ys (Ends home) = refl

  straight_same : (x y : TempInsn) → form_of x ≡ form_of y → Straight x → Straight y
  straight_same x y e s =
      let form = same_form x y e in
      (ap length (sym form.targets) ∙ s.0, sym form.flows ∙ s.1)

  pure_straight : (x : TempInsn) → is_pure x ≡ true → Straight x
  pure_straight x p = let form = pure_form x p in (ap length form.targets, form.flows)

  pub late : (n : Names) (xs ys : List TempInsn) → Walked temps bottom n xs ys → EndsLate targets_of flows_on_of xs → EndsLate targets_of flows_on_of ys
  late n xs ys (Ends home) ends = ends
  late n xs ys (Copies m d f {xs = us} {ys = vs} is walk) ends = late m us vs walk (late_tail (copy_of d f) us ends)
  late n xs ys (Loses m x {xs = us} {ys = vs} p is walk) ends = late m us vs walk (late_tail x us ends)
  late n xs ys (Keeps m x y {xs = us} {ys = vs} renamed is leaves walk) ends = go us vs walk ends (late m us vs walk (late_tail x us ends))
    where
      go : (us vs : List TempInsn) → Walked temps bottom m us vs → EndsLate targets_of flows_on_of (x ∷ us) → EndsLate targets_of flows_on_of vs → EndsLate targets_of flows_on_of (y ∷ vs)
      go us [] walk ends rest = All-nil Straight
      go [] (v ∷ vs) walk ends rest = absurd (let none : v ∷ vs ≡ [] = empty_end m (v ∷ vs) walk in cc)
      go (u ∷ us) (v ∷ vs) walk ends rest = late_cons y v vs (straight_same x y renamed.form (late_head x u us ends)) rest

  -- what says the same of none and of one that is straight, and the same of each form, says the same of both
  module _ {A : Type 0} (F : Option TempInsn → A) (none : (x : TempInsn) → Straight x → F (Some x) ≡ F None) (alike : (x y : TempInsn) → form_of x ≡ form_of y → F (Some x) ≡ F (Some y)) where
    -- without its first instruction, which is straight
    gone : (x : TempInsn) (us : List TempInsn) → Straight x → F (last_of us) ≡ F (last_of (x ∷ us))
    gone x [] s = sym (none x s)
    gone x (u ∷ us) s = ap F (sym (last_more x u us))

    pub last_kept : (n : Names) (xs ys : List TempInsn) → Walked temps bottom n xs ys → EndsLate targets_of flows_on_of xs → F (last_of ys) ≡ F (last_of xs)
    last_kept n xs ys (Ends home) ends = refl
    last_kept n xs ys (Copies m d f {xs = us} {ys = vs} is walk) ends =
        last_kept m us vs walk (late_tail (copy_of d f) us ends) ∙ gone (copy_of d f) us (refl, refl)
    last_kept n xs ys (Loses m x {xs = us} {ys = vs} p is walk) ends =
        last_kept m us vs walk (late_tail x us ends) ∙ gone x us (pure_straight x p)
    last_kept n xs ys (Keeps m x y {xs = us} {ys = vs} renamed is leaves walk) ends = go us vs walk ends (last_kept m us vs walk (late_tail x us ends))
      where
        go : (us vs : List TempInsn) → Walked temps bottom m us vs → EndsLate targets_of flows_on_of (x ∷ us) → F (last_of vs) ≡ F (last_of us) → F (last_of (y ∷ vs)) ≡ F (last_of (x ∷ us))
        go [] [] walk ends rest = sym (alike x y renamed.form)
        go [] (v ∷ vs) walk ends rest = absurd (let some : v ∷ vs ≡ [] = empty_end m (v ∷ vs) walk in cc)
        go (u ∷ us) [] walk ends rest =
            none y (straight_same x y renamed.form (late_head x u us ends)) ∙ rest ∙ ap F (sym (last_more x u us))
        go (u ∷ us) (v ∷ vs) walk ends rest = ap F (last_more y v vs) ∙ rest ∙ ap F (sym (last_more x u us))
