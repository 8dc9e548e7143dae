-- What stays of a function where instructions are left out that only write.
use Rattle.std.proofs.Common.{◌≡◌, ℕ, zero, suc, ◌+◌, ◌-◌, ◌≤◌, ◌||◌, ◌&&◌, nat_lt, List, [], ◌∷◌, ◌++◌, length, take, sum_by, Bool, true, false, Some, All, refl, sym, ap, ◌∙◌, subst, arith, if◌then◌else◌}
use Rattle.std.specs.Prelude.{IsTrue, slice_get, slice_index_or}
use Rattle.std.specs.List.{list_all}
use Rattle.std.proofs.lemmas.Bool.{and_parts}
use Rattle.std.proofs.lemmas.List.Sums.{sum_by-cons}
use Rattle.std.proofs.lemmas.Option.{none-some, same_Some}
use Rattle.std.proofs.lemmas.List.Elements.{All-nil, All-cons, All-head, All-tail}
use Rattle.pass_core.specs.Functions.{IsStraight, EndsLate, stops, block_stops, insn_stops, count_of, edge_count, last_of, front_of, successors_after, successors_of}
use Rattle.suifvm_ir.specs.declared.insn.VmInsn.{VmInsn}
use Rattle.suifvm_ir.specs.declared.insn.VmInsn.TheVariants as x
use Rattle.suifvm_ir.specs.Insns.{targets_of, flows_on_of}
use Rattle.suifvm_ir.specs.Programs.{first_is_mark, begins_with_mark, goes_back_to_marks}
use Rattle.flow_clean.specs.Chains.{GoesBackToMarks}
use Rattle.flow_clean.specs.Dead.{may_drop, is_dead_write, cleaned, NoneIsDead, IsThinned}
use Rattle.flow_clean.specs.Dead.IsThinned.{Empty, Drops, Keeps}
use Rattle.flow_clean.specs.model.Walks.{cleaned_from}
use Rattle.flow_clean.proofs.DroppedActs.{dropped_straight}
use Rattle.flow_clean.proofs.WantedRegisters.{is_cleaned, droppable}
use Rattle.flow_clean.proofs.DeadRuns.{none_left}

-- ---- lists

module _ {A : Type 0} where
  pub last_cons : (i j : A) (xs : List A) → last_of (i ∷ j ∷ xs) ≡ last_of (j ∷ xs)
  last_cons i j xs = ap (slice_get (i ∷ j ∷ xs)) (let e : length (i ∷ j ∷ xs) - 1 ≡ suc (length (j ∷ xs) - 1) = omega arith in e)

  front_cons : (i j : A) (xs : List A) → front_of (i ∷ j ∷ xs) ≡ i ∷ front_of (j ∷ xs)
  front_cons i j xs = ap (λ n. take n (i ∷ j ∷ xs)) (let e : length (i ∷ j ∷ xs) - 1 ≡ suc (length (j ∷ xs) - 1) = omega arith in e)

  none_there : (xs : List A) → length xs ≡ 0 → xs ≡ []
  none_there [] e = refl
  none_there (y ∷ xs) e = absurd (omega (arith, e))

abbrev pub Straight : VmInsn → Type 0
Straight i = IsStraight targets_of flows_on_of i

abbrev pub Late : List VmInsn → Type 0
Late insns = EndsLate targets_of flows_on_of insns

pub late_head : (i j : VmInsn) (xs : List VmInsn) → Late (i ∷ j ∷ xs) → Straight i
late_head i j xs h = All-head Straight i (front_of (j ∷ xs)) (subst (All Straight) (front_cons i j xs) h)

pub late_tail : (i : VmInsn) (xs : List VmInsn) → Late (i ∷ xs) → Late xs
late_tail i [] h = All-nil Straight
late_tail i (j ∷ xs) h = All-tail Straight i (front_of (j ∷ xs)) (subst (All Straight) (front_cons i j xs) h)

pub late_cons : (i j : VmInsn) (xs : List VmInsn) → Straight i → Late (j ∷ xs) → Late (i ∷ j ∷ xs)
late_cons i j xs s h = subst (All Straight) (sym (front_cons i j xs)) (All-cons Straight i (front_of (j ∷ xs)) s h)

pub late_one : (i : VmInsn) → Late (i ∷ [])
late_one i = All-nil Straight

-- what is followed by the next one alone changes nothing before others
straight_before : (block : ℕ) (i : VmInsn) (zs : List VmInsn) → Straight i → successors_of targets_of flows_on_of block (i ∷ zs) ≡ successors_of targets_of flows_on_of block zs
straight_before block i [] s = ap (λ ts. ts ++ (if flows_on_of i then suc block ∷ [] else [])) (none_there (targets_of i) s.0) ∙ ap (λ b. if b then suc block ∷ [] else []) s.1
straight_before block i (z ∷ zs) s = ap (successors_after targets_of flows_on_of block) (last_cons i z zs)

drop_straight : (i : VmInsn) → may_drop i ≡ true → Straight i
drop_straight i d = let s = dropped_straight i d in (ap length s.0, s.1)

-- ---- one block

pub thinned : (bottom : ℕ → Bool) (insns : List VmInsn) → IsThinned insns (cleaned bottom insns)
thinned bottom [] = Empty
thinned bottom (i ∷ insns) = by_dead (is_dead_write bottom i (cleaned bottom insns)) refl (thinned bottom insns)
  where
    by_dead : (b : Bool) → is_dead_write bottom i (cleaned bottom insns) ≡ b → IsThinned insns (cleaned bottom insns) → IsThinned (i ∷ insns) (cleaned bottom (i ∷ insns))
    by_dead true dead h = subst (IsThinned (i ∷ insns)) (sym (is_cleaned bottom i insns true dead)) (Drops i (droppable bottom i insns dead) h)
    by_dead false kept h = subst (IsThinned (i ∷ insns)) (sym (is_cleaned bottom i insns false kept)) (Keeps i h)

pub thin_all : (P : VmInsn → Type 0) (xs ys : List VmInsn) → IsThinned xs ys → All P xs → All P ys
thin_all P _ _ Empty h = h
thin_all P _ _ (Drops {xs = xs} {ys = ys} i d t) h = thin_all P xs ys t (All-tail P i xs h)
thin_all P _ _ (Keeps {xs = xs} {ys = ys} i t) h = All-cons P i ys (All-head P i xs h) (thin_all P xs ys t (All-tail P i xs h))

thin_length : (xs ys : List VmInsn) → IsThinned xs ys → length ys ≤ length xs
thin_length _ _ Empty = omega arith
thin_length _ _ (Drops {xs = xs} {ys = ys} i d t) = let rest = thin_length xs ys t in omega (arith, rest)
thin_length _ _ (Keeps {xs = xs} {ys = ys} i t) = let rest = thin_length xs ys t in omega (arith, rest)

thin_sum : (m : VmInsn → ℕ) (xs ys : List VmInsn) → IsThinned xs ys → sum_by m ys ≤ sum_by m xs
thin_sum m _ _ Empty = omega arith
thin_sum m _ _ (Drops {xs = xs} {ys = ys} i d t) = omega (arith, thin_sum m xs ys t, sum_by-cons m i xs)
thin_sum m _ _ (Keeps {xs = xs} {ys = ys} i t) = omega (arith, thin_sum m xs ys t, sum_by-cons m i xs, sum_by-cons m i ys)

thin_successors : (block : ℕ) (xs ys : List VmInsn) → IsThinned xs ys → Late xs → successors_of targets_of flows_on_of block ys ≡ successors_of targets_of flows_on_of block xs
thin_successors block _ _ Empty late = refl
thin_successors block _ _ (Drops {xs = xs} {ys = ys} i d t) late =
    thin_successors block xs ys t (late_tail i xs late) ∙ sym (straight_before block i xs (drop_straight i d))
thin_successors block _ _ (Keeps {xs = []} i Empty) late = refl
thin_successors block _ _ (Keeps {xs = x ∷ xs} {ys = ys} i t) late =
    let s = late_head i x xs late in
    straight_before block i ys s ∙ thin_successors block (x ∷ xs) ys t (late_tail i (x ∷ xs) late) ∙ sym (straight_before block i (x ∷ xs) s)

thin_late : (xs ys : List VmInsn) → IsThinned xs ys → Late xs → Late ys
thin_late _ _ Empty late = late
thin_late _ _ (Drops {xs = xs} {ys = ys} i d t) late = thin_late xs ys t (late_tail i xs late)
thin_late _ _ (Keeps {xs = []} i Empty) late = late
thin_late _ _ (Keeps {xs = x ∷ xs} {ys = []} i t) late = late_one i
thin_late _ _ (Keeps {xs = x ∷ xs} {ys = y ∷ ys} i t) late =
    late_cons i y ys (late_head i x xs late) (thin_late (x ∷ xs) (y ∷ ys) t (late_tail i (x ∷ xs) late))

abbrev stop : List VmInsn → Bool
stop insns = insn_stops flows_on_of (last_of insns)

thin_stops : (xs ys : List VmInsn) → IsThinned xs ys → stop xs ≡ true → stop ys ≡ true
thin_stops _ _ Empty h = h
thin_stops _ _ (Drops {xs = []} i d Empty) h =
    absurd (let clash : false ≡ true = ap (λ b. if b then false else true) (sym (drop_straight i d).1) ∙ h in cc)
thin_stops _ _ (Drops {xs = x ∷ xs} {ys = ys} i d t) h = thin_stops (x ∷ xs) ys t (ap (insn_stops flows_on_of) (sym (last_cons i x xs)) ∙ h)
thin_stops _ _ (Keeps {xs = []} i Empty) h = h
thin_stops _ _ (Keeps {xs = x ∷ xs} {ys = []} i t) h =
    absurd (let clash : false ≡ true = thin_stops (x ∷ xs) [] t (ap (insn_stops flows_on_of) (sym (last_cons i x xs)) ∙ h) in cc)
thin_stops _ _ (Keeps {xs = x ∷ xs} {ys = y ∷ ys} i t) h =
    ap (insn_stops flows_on_of) (last_cons i y ys) ∙ thin_stops (x ∷ xs) (y ∷ ys) t (ap (insn_stops flows_on_of) (sym (last_cons i x xs)) ∙ h)

-- a mark stays
mark_stays : (i : VmInsn) → may_drop i ≡ true → first_is_mark (Some i) ≡ true → ⊥
mark_stays (x.LoadConstant ty d word) drops marks = cc
mark_stays (x.LoadAddress d place plus) drops marks = cc
mark_stays (x.Load ty d p plus) drops marks = cc
mark_stays (x.Store ty p plus b) drops marks = cc
mark_stays (x.Copy to from size align) drops marks = cc
mark_stays (x.Unary op ty d b) drops marks = cc
mark_stays (x.Binary op ty d b c) drops marks = cc
mark_stays (x.Shift op ty d b c) drops marks = cc
mark_stays (x.Convert from to d b) drops marks = cc
mark_stays (x.Compare op ty d b c) drops marks = cc
mark_stays (x.Branch op ty source block) drops marks = cc
mark_stays (x.Jump block) drops marks = cc
mark_stays (x.Call d c arguments) drops marks = cc
mark_stays (x.Return value) drops marks = cc
mark_stays x.Mark drops marks = cc
mark_stays x.Nop drops marks = cc

thin_mark : (xs ys : List VmInsn) → IsThinned xs ys → first_is_mark (slice_get xs 0) ≡ true → first_is_mark (slice_get ys 0) ≡ true
thin_mark _ _ Empty m = m
thin_mark _ _ (Drops i d t) m = absurd (mark_stays i d m)
thin_mark _ _ (Keeps i t) m = m

-- ---- the blocks of a function

pub data AreThinned : (before after : List (List VmInsn)) → Type 0 where
  NoBlock : AreThinned [] []
  Block : {bs cs : List (List VmInsn)} → (xs ys : List VmInsn) → IsThinned xs ys → AreThinned bs cs → AreThinned (xs ∷ bs) (ys ∷ cs)

pub thinned_from : (bottom : ℕ → ℕ → Bool) (number : ℕ) (blocks : List (List VmInsn)) → AreThinned blocks (cleaned_from bottom number blocks)
thinned_from bottom number [] = NoBlock
thinned_from bottom number (insns ∷ blocks) = Block insns (cleaned (bottom number) insns) (thinned (bottom number) insns) (thinned_from bottom (suc number) blocks)

pub thin_blocks : (P Q : List VmInsn → Type 0) → ((xs ys : List VmInsn) → IsThinned xs ys → P xs → Q ys) → (bs cs : List (List VmInsn)) → AreThinned bs cs → All P bs → All Q cs
thin_blocks P Q step _ _ NoBlock h = All-nil Q
thin_blocks P Q step _ _ (Block {bs = bs} {cs = cs} xs ys t more) h = All-cons Q ys cs (step xs ys t (All-head P xs bs h)) (thin_blocks P Q step bs cs more (All-tail P xs bs h))

pub all_thinned : (P : VmInsn → Type 0) (bs cs : List (List VmInsn)) → AreThinned bs cs → All (All P) bs → All (All P) cs
all_thinned P = thin_blocks (All P) (All P) (thin_all P)

pub late_thinned : (bs cs : List (List VmInsn)) → AreThinned bs cs → All Late bs → All Late cs
late_thinned = thin_blocks Late Late thin_late

pub as_many : (bs cs : List (List VmInsn)) → AreThinned bs cs → length cs ≡ length bs
as_many _ _ NoBlock = refl
as_many _ _ (Block {bs = bs} {cs = cs} xs ys t more) = ap suc (as_many bs cs more)

pub count_falls : (bs cs : List (List VmInsn)) → AreThinned bs cs → count_of cs ≤ count_of bs
count_falls _ _ NoBlock = omega arith
count_falls _ _ (Block {bs = bs} {cs = cs} xs ys t more) =
    omega (arith, thin_length xs ys t, count_falls bs cs more, sum_by-cons (λ (b : List VmInsn). length b) xs bs, sum_by-cons (λ (b : List VmInsn). length b) ys cs)

pub sums_fall : (m : VmInsn → ℕ) (bs cs : List (List VmInsn)) → AreThinned bs cs → sum_by (λ block. sum_by m block) cs ≤ sum_by (λ block. sum_by m block) bs
sums_fall m _ _ NoBlock = omega arith
sums_fall m _ _ (Block {bs = bs} {cs = cs} xs ys t more) =
    omega (arith, thin_sum m xs ys t, sums_fall m bs cs more, sum_by-cons (λ b. sum_by m b) xs bs, sum_by-cons (λ b. sum_by m b) ys cs)

pub edges_stay : (bs cs : List (List VmInsn)) → AreThinned bs cs → All Late bs → edge_count targets_of flows_on_of cs ≡ edge_count targets_of flows_on_of bs
edges_stay _ _ NoBlock late = refl
edges_stay _ _ (Block {bs = bs} {cs = cs} xs ys t more) late =
    let here : length (successors_of targets_of flows_on_of 0 ys) ≡ length (successors_of targets_of flows_on_of 0 xs) = ap length (thin_successors 0 xs ys t (All-head Late xs bs late)) in
    omega (
      arith,
      here,
      edges_stay bs cs more (All-tail Late xs bs late),
      sum_by-cons (λ (b : List VmInsn). length (successors_of targets_of flows_on_of 0 b)) xs bs,
      sum_by-cons (λ (b : List VmInsn). length (successors_of targets_of flows_on_of 0 b)) ys cs,
    )

pub stops_stay : (bs cs : List (List VmInsn)) → AreThinned bs cs → stops flows_on_of bs ≡ true → stops flows_on_of cs ≡ true
stops_stay _ _ NoBlock h = h
stops_stay _ _ (Block xs ys t NoBlock) h = thin_stops xs ys t h
stops_stay _ _ (Block {bs = vs ∷ bs} {cs = ws ∷ cs} xs ys t more) h =
    ap (block_stops flows_on_of) (last_cons ys ws cs)
    ∙ stops_stay (vs ∷ bs) (ws ∷ cs) more (ap (block_stops flows_on_of) (sym (last_cons xs vs bs)) ∙ h)

-- ---- backward jumps

thin_begins : (bs cs : List (List VmInsn)) → AreThinned bs cs → (k : ℕ) → begins_with_mark (slice_get bs k) ≡ true → begins_with_mark (slice_get cs k) ≡ true
thin_begins _ _ NoBlock k h = h
thin_begins _ _ (Block xs ys t more) zero h = thin_mark xs ys t h
thin_begins _ _ (Block {bs = bs} {cs = cs} xs ys t more) (suc k) h = thin_begins bs cs more k h

thin_at : (bs cs : List (List VmInsn)) → AreThinned bs cs → (k : ℕ) → IsThinned (slice_index_or bs k []) (slice_index_or cs k [])
thin_at _ _ NoBlock k = Empty
thin_at _ _ (Block xs ys t more) zero = t
thin_at _ _ (Block {bs = bs} {cs = cs} xs ys t more) (suc k) = thin_at bs cs more k

or_more : (b c d : Bool) → (c ≡ true → d ≡ true) → (b || c) ≡ true → (b || d) ≡ true
or_more true c d more h = refl
or_more false c d more h = more h

and_both : (b c : Bool) → b ≡ true → c ≡ true → (b && c) ≡ true
and_both true c h g = g
and_both false c h g = absurd (let clash : false ≡ true = h in cc)

module _ (bs cs : List (List VmInsn)) (thin : AreThinned bs cs) where
  still_goes_back : (from : ℕ) (ts : List ℕ) → list_all (λ t. nat_lt from t || begins_with_mark (slice_get bs t)) ts ≡ true → list_all (λ t. nat_lt from t || begins_with_mark (slice_get cs t)) ts ≡ true
  still_goes_back from [] h = refl
  still_goes_back from (t ∷ ts) h =
      let parts = and_parts (nat_lt from t || begins_with_mark (slice_get bs t)) (list_all (λ u. nat_lt from u || begins_with_mark (slice_get bs u)) ts) h in
      and_both (nat_lt from t || begins_with_mark (slice_get cs t)) (list_all (λ u. nat_lt from u || begins_with_mark (slice_get cs u)) ts)
      (or_more (nat_lt from t) (begins_with_mark (slice_get bs t)) (begins_with_mark (slice_get cs t)) (thin_begins bs cs thin t) parts.0)
      (still_goes_back from ts parts.1)

  pub marks_thinned : GoesBackToMarks bs → GoesBackToMarks cs
  marks_thinned marks block within k d inside =
      still_goes_back block (targets_of (slice_index_or (slice_index_or cs block []) k d))
      (thin_all (λ i. IsTrue (goes_back_to_marks bs block i)) (slice_index_or bs block []) (slice_index_or cs block []) (thin_at bs cs thin block)
      (marks block (let same = as_many bs cs thin in omega (arith, same, within))) k d inside)

-- ---- each block

pub cleaned_at : (bottom : ℕ → ℕ → Bool) (number : ℕ) (blocks : List (List VmInsn)) (k place : ℕ) (insns : List VmInsn) → place ≡ number + k → slice_get blocks k ≡ Some insns →
    slice_get (cleaned_from bottom number blocks) k ≡ Some (cleaned (bottom place) insns)
cleaned_at bottom number [] k place insns at e = absurd (none-some insns e)
cleaned_at bottom number (b ∷ blocks) zero place insns at e =
    let here : number ≡ place = omega (arith, at) in
    ap Some (ap (λ n. cleaned (bottom n) b) here ∙ ap (cleaned (bottom place)) (same_Some b insns e))
cleaned_at bottom number (b ∷ blocks) (suc k) place insns at e = cleaned_at bottom (suc number) blocks k place insns (omega (arith, at)) e

pub none_dead_at : (bottom : ℕ → ℕ → Bool) (number : ℕ) (blocks : List (List VmInsn)) (k place : ℕ) (insns : List VmInsn) → place ≡ number + k →
    slice_get (cleaned_from bottom number blocks) k ≡ Some insns → NoneIsDead (bottom place) insns
none_dead_at bottom number [] k place insns at e = absurd (none-some insns e)
none_dead_at bottom number (b ∷ blocks) zero place insns at e =
    let here : number ≡ place = omega (arith, at) in
    subst (NoneIsDead (bottom place)) (same_Some (cleaned (bottom place) b) insns (ap (λ n. Some (cleaned (bottom n) b)) (sym here) ∙ e)) (none_left (bottom place) b)
none_dead_at bottom number (b ∷ blocks) (suc k) place insns at e = none_dead_at bottom (suc number) blocks k place insns (omega (arith, at)) e

-- ---- one block more

pub cleaned_more : (bottom : ℕ → ℕ → Bool) (number : ℕ) (blocks : List (List VmInsn)) (insns : List VmInsn) (place : ℕ) → place ≡ number + length blocks →
    cleaned_from bottom number (blocks ++ insns ∷ []) ≡ cleaned_from bottom number blocks ++ cleaned (bottom place) insns ∷ []
cleaned_more bottom number [] insns place at = ap (λ n. cleaned (bottom n) insns ∷ []) (let here : number ≡ place = omega (arith, at) in here)
cleaned_more bottom number (b ∷ blocks) insns place at = ap (λ l. cleaned (bottom number) b ∷ l) (cleaned_more bottom (suc number) blocks insns place (omega (arith, at)))
