-- A cycle is broken.
use Rattle.std.proofs.Common.{◌≡◌, ◌≢◌, ℕ, zero, suc, ◌<◌, ◌≤◌, ◌+◌, ◌-◌, ◌⊎◌, List, [], ◌∷◌, ◌++◌, Option, Some, None, refl, sym, ap, ◌∙◌, subst, inl, inr, ⊎_elim, length, get_or, length-append, arith}
use Rattle.std.specs.Prelude.{if◌then◌else◌, slice_set, slice_index, slice_get, map, Contains, sum_by}
use Rattle.std.proofs.Math.ListN as ln
use Rattle.std.proofs.lemmas.List.{length-set, length-map}
use Rattle.std.proofs.lemmas.List.Sums.{sum_by-cons}
use Rattle.std.proofs.lemmas.List.Elements.{Contains-append_left, Contains-push, Contains-push_cases}
use Rattle.std.proofs.lemmas.Option.{slice_get_within, get_or_from_slice_get}
use Rattle.par_move.specs.declared.moves.Move.{Move}
use Rattle.par_move.specs.Moves.{RegisterContents, with_content, moved, filled_from, back, IsOnCycle, BeginsCycle, IsRising}
use Rattle.par_move.specs.model.Rest.{Rest, rest, source_at, reads_at, waits, waits_for, waiting, waiting_for, IsCounted, ready_at, if_none, after_make, Chain, Stays, Makes, Released, current, wanted, Stands, NoneReady, redirected, after_break, AtChains, AtCycles}
use Rattle.par_move.proofs.Tables.{eqb_same, eqb_other, same_or, lt_or, some_same, not_some, source_there, source_same, source_other, reads_same, reads_other, sum_set, waits_some, one_waits, none_waits, waits_for_none, ready_parts, ready_none}
use Rattle.par_move.proofs.Permutations.{Still, one_each, goes_on, once, not_read}
use Rattle.par_move.proofs.Chains.{content_same, content_other, moved_last, carries_last, current_some, current_none, wanted_some, chain_counted, chain_stands, released_none}
use Rattle.par_move.proofs.Back.{last_step, one_more, comes_back, cycle_source, named_source, names_last, last_or}
use Rattle.par_move.proofs.Pigeon.{two_same}

-- where something waits for a register it cannot be filled
read_none : (S : List (Option ℕ)) (R : List ℕ) (t : ℕ) → reads_at R t ≡ 1 → ready_at S R t ≡ None
unfolding reads_at
read_none S R t e = ap (λ n. if_none n (get_or S t None)) e

-- ---- what waits for a register waits for the scratch

abbrev broken_sources : (first scratch : ℕ) → List (Option ℕ) → List (Option ℕ)
broken_sources first scratch S = map (redirected first scratch) S

redirected_is : (first scratch : ℕ) → redirected first scratch (Some first) ≡ Some scratch
redirected_is first scratch = ap (λ b. Some (if b then scratch else first)) (eqb_same first)

redirected_not : (first scratch q : ℕ) → q ≢ first → redirected first scratch (Some q) ≡ Some q
redirected_not first scratch q n = ap (λ b. Some (if b then scratch else q)) (eqb_other q first n)

broken_at : (first scratch : ℕ) (S : List (Option ℕ)) (r : ℕ) → source_at (broken_sources first scratch S) r ≡ redirected first scratch (source_at S r)
unfolding source_at
broken_at first scratch S r = ln.get_or-map (redirected first scratch) S r None

-- what it was before
broken_from : (first scratch : ℕ) (S : List (Option ℕ)) (r q : ℕ) → source_at (broken_sources first scratch S) r ≡ Some q → (p : ℕ) × (source_at S r ≡ Some p) × (((p ≡ first) × (q ≡ scratch)) ⊎ ((p ≢ first) × (q ≡ p)))
broken_from first scratch S r q e = go (source_at S r) refl
  where
    go : (o : Option ℕ) → source_at S r ≡ o → (p : ℕ) × (source_at S r ≡ Some p) × (((p ≡ first) × (q ≡ scratch)) ⊎ ((p ≢ first) × (q ≡ p)))
    go None f = absurd (not_some q _ (broken_at first scratch S r ∙ ap (redirected first scratch) f) e)
    go (Some p) f =
        let g : redirected first scratch (Some p) ≡ Some q = ap (redirected first scratch) (sym f) ∙ sym (broken_at first scratch S r) ∙ e in (
          p,
          f,
          ⊎_elim
              (λ (v : p ≡ first). inl (v, some_same q scratch (sym g ∙ ap (λ z. redirected first scratch (Some z)) v ∙ redirected_is first scratch)))
              (λ (v : p ≢ first). inr (v, some_same q p (sym g ∙ redirected_not first scratch p v))) (same_or p first),
        )

broken_none : (first scratch : ℕ) (S : List (Option ℕ)) (r : ℕ) → source_at S r ≡ None → source_at (broken_sources first scratch S) r ≡ None
broken_none first scratch S r e = broken_at first scratch S r ∙ ap (redirected first scratch) e

broken_waiting : (first scratch : ℕ) (S : List (Option ℕ)) → waiting (broken_sources first scratch S) ≡ waiting S
unfolding waiting waits
broken_waiting first scratch [] = refl
broken_waiting first scratch (o ∷ S) =
    sum_by-cons waits (redirected first scratch o) (broken_sources first scratch S)
    ∙ ap (λ n. n + waiting (broken_sources first scratch S)) (one o)
    ∙ ap (λ n. waits o + n) (broken_waiting first scratch S)
    ∙ sym (sum_by-cons waits o S)
  where
    one : (o : Option ℕ) → waits (redirected first scratch o) ≡ waits o
    one None = refl
    one (Some q) = refl

-- how many wait for a register afterwards, where those for two others are given
broken_for : (first scratch q : ℕ) (h : Option ℕ → ℕ) (S : List (Option ℕ)) → ((o : Option ℕ) → waits_for q (redirected first scratch o) ≡ h o) → waiting_for q (broken_sources first scratch S) ≡ sum_by h S
unfolding waiting_for
broken_for first scratch q h [] e = refl
broken_for first scratch q h (o ∷ S) e =
    sum_by-cons (waits_for q) (redirected first scratch o) (broken_sources first scratch S)
    ∙ ap (λ n. n + sum_by (waits_for q) (broken_sources first scratch S)) (e o)
    ∙ ap (λ n. h o + n) (broken_for first scratch q h S e)
    ∙ sym (sum_by-cons h o S)

sum_none : (S : List (Option ℕ)) → sum_by (λ (o : Option ℕ). 0) S ≡ 0
sum_none [] = refl
sum_none (o ∷ S) = let a = sum_by-cons (λ (o : Option ℕ). 0) o S in let i = sum_none S in omega (arith, a, i)

sum_both : (f g : Option ℕ → ℕ) (S : List (Option ℕ)) → sum_by (λ o. f o + g o) S ≡ sum_by f S + sum_by g S
sum_both f g [] = refl
sum_both f g (o ∷ S) =
    let a = sum_by-cons (λ o. f o + g o) o S in
    let b = sum_by-cons f o S in
    let c = sum_by-cons g o S in
    let i = sum_both f g S in
    omega (arith, a, b, c, i)

for_first : (first scratch : ℕ) (S : List (Option ℕ)) → scratch ≢ first → waiting_for first (broken_sources first scratch S) ≡ 0
for_first first scratch S n = broken_for first scratch first (λ (o : Option ℕ). 0) S one ∙ sum_none S
  where
    one : (o : Option ℕ) → waits_for first (redirected first scratch o) ≡ 0
    one None = waits_for_none first
    one (Some q) = ⊎_elim
        (λ (v : q ≡ first). ap (waits_for first) (ap (λ z. redirected first scratch (Some z)) v ∙ redirected_is first scratch) ∙ none_waits first scratch n)
        (λ (v : q ≢ first). ap (waits_for first) (redirected_not first scratch q v) ∙ none_waits first q v) (same_or q first)

for_scratch : (first scratch : ℕ) (S : List (Option ℕ)) → scratch ≢ first → waiting_for scratch (broken_sources first scratch S) ≡ waiting_for first S + waiting_for scratch S
unfolding waiting_for
for_scratch first scratch S n = broken_for first scratch scratch (λ o. waits_for first o + waits_for scratch o) S one ∙ sum_both (waits_for first) (waits_for scratch) S
  where
    one : (o : Option ℕ) → waits_for scratch (redirected first scratch o) ≡ waits_for first o + waits_for scratch o
    one None = let a = waits_for_none scratch in let b = waits_for_none first in omega (arith, a, b)
    one (Some q) = ⊎_elim
        (λ (v : q ≡ first).
        let a : waits_for scratch (redirected first scratch (Some q)) ≡ 1 = ap (waits_for scratch) (ap (λ z. redirected first scratch (Some z)) v ∙ redirected_is first scratch) ∙ one_waits scratch in
        let b : waits_for first (Some q) ≡ 1 = ap (λ z. waits_for first (Some z)) v ∙ one_waits first in
        let c : waits_for scratch (Some q) ≡ 0 = none_waits scratch q (λ z. n (sym z ∙ v)) in
        omega (arith, a, b, c))
        (λ (v : q ≢ first).
        let a : waits_for scratch (redirected first scratch (Some q)) ≡ waits_for scratch (Some q) = ap (waits_for scratch) (redirected_not first scratch q v) in
        let b : waits_for first (Some q) ≡ 0 = none_waits first q v in
        omega (arith, a, b)) (same_or q first)

for_other : (first scratch q : ℕ) (S : List (Option ℕ)) → q ≢ first → q ≢ scratch → waiting_for q (broken_sources first scratch S) ≡ waiting_for q S
unfolding waiting_for
for_other first scratch q S n m = broken_for first scratch q (waits_for q) S one
  where
    one : (o : Option ℕ) → waits_for q (redirected first scratch o) ≡ waits_for q o
    one None = refl
    one (Some p) = ⊎_elim
        (λ (v : p ≡ first). ap (waits_for q) (ap (λ z. redirected first scratch (Some z)) v ∙ redirected_is first scratch) ∙ none_waits q scratch (λ z. m (sym z)) ∙ sym (ap (λ z. waits_for q (Some z)) v ∙ none_waits q first (λ z. n (sym z))))
        (λ (v : p ≢ first). ap (waits_for q) (redirected_not first scratch p v)) (same_or p first)

-- someone who waits
reader : (S : List (Option ℕ)) (q : ℕ) → 1 ≤ waiting_for q S → (t : ℕ) × (source_at S t ≡ Some q)
unfolding waiting_for source_at
reader [] q w = absurd (omega arith)
reader (o ∷ S) q w = go o (reader S q) (subst (λ n. 1 ≤ n) (sum_by-cons (waits_for q) o S) w)
  where
    go : (o : Option ℕ) → (1 ≤ sum_by (waits_for q) S → (t : ℕ) × (get_or S t None ≡ Some q)) → 1 ≤ waits_for q o + sum_by (waits_for q) S → (t : ℕ) × (get_or (o ∷ S) t None ≡ Some q)
    go None rest v = let i = rest (let a = waits_for_none q in omega (arith, a, v)) in (suc i.0, i.1)
    go (Some p) rest v = ⊎_elim
        (λ (e : p ≡ q). (0, ap Some e))
        (λ (n : p ≢ q). let i = rest (let a = none_waits q p n in omega (arith, a, v)) in (suc i.0, i.1)) (same_or p q)

-- ---- the invariants after the scratch has the content of a register

abbrev broken_reads : (first scratch : ℕ) → List ℕ → List ℕ
broken_reads first scratch R = slice_set (slice_set R scratch (reads_at R first)) first 0

module _ (first scratch : ℕ) (S : List (Option ℕ)) (R : List ℕ) (c : IsCounted S R) (still : Still S R) (n : scratch ≢ first) (w : scratch < 256) (v : first < 256) (idle : source_at S scratch ≡ None) where
  unread : reads_at R scratch ≡ 0
  unread = not_read S R c still scratch idle

  -- nothing waits for the scratch
  direct : (r : ℕ) → source_at S r ≡ Some scratch → ⊥
  direct r e = let g = goes_on S R c still r scratch e in not_some g.0 _ idle g.1

  reads_first : reads_at (broken_reads first scratch R) first ≡ 0
  reads_first = reads_same (slice_set R scratch (reads_at R first)) first 0 (let a = length-set R scratch (reads_at R first) in let b = c.as_many in omega (arith, a, b, v))

  reads_scratch : reads_at (broken_reads first scratch R) scratch ≡ reads_at R first
  reads_scratch = reads_other (slice_set R scratch (reads_at R first)) first scratch 0 n ∙ reads_same R scratch (reads_at R first) (let b = c.as_many in omega (arith, b, w))

  reads_rest : (q : ℕ) → q ≢ first → q ≢ scratch → reads_at (broken_reads first scratch R) q ≡ reads_at R q
  reads_rest q a b = reads_other (slice_set R scratch (reads_at R first)) first q 0 a ∙ reads_other R scratch q (reads_at R first) b

  break_counted : IsCounted (broken_sources first scratch S) (broken_reads first scratch R)
  break_counted = record {
    many = length-map S (redirected first scratch) ∙ c.many;
    as_many = length-set (slice_set R scratch (reads_at R first)) first 0 ∙ length-set R scratch (reads_at R first) ∙ c.as_many;
    counts = λ q u. ⊎_elim
        (λ (e : q ≡ first). subst (λ z. reads_at (broken_reads first scratch R) z ≡ waiting_for z (broken_sources first scratch S)) (sym e) (reads_first ∙ sym (for_first first scratch S n)))
        (λ (e : q ≢ first). ⊎_elim
        (λ (f : q ≡ scratch). subst (λ z. reads_at (broken_reads first scratch R) z ≡ waiting_for z (broken_sources first scratch S)) (sym f)
        (let a = reads_scratch in let b = for_scratch first scratch S n in let d = c.counts first v in let g = c.counts scratch w in let h = unread in omega (arith, a, b, d, g, h)))
        (λ (f : q ≢ scratch). reads_rest q e f ∙ c.counts q u ∙ sym (for_other first scratch q S e f)) (same_or q scratch)) (same_or q first);
    within = λ r q e. let b = broken_from first scratch S r q e in ⊎_elim
        (λ (a : (b.0 ≡ first) × (q ≡ scratch)). let x = a.1 in omega (arith, x, w))
        (λ (a : (b.0 ≢ first) × (q ≡ b.0)). let x = a.1 in let y = c.within r b.0 b.1 in omega (arith, x, y)) b.2;
    total =
        let a = sum_set R scratch (reads_at R first) (let b = c.as_many in omega (arith, b, w)) in
        let b = sum_set (slice_set R scratch (reads_at R first)) first 0 (let a = length-set R scratch (reads_at R first) in let b = c.as_many in omega (arith, a, b, v)) in
        let d = reads_other R scratch first (reads_at R first) (λ z. n (sym z)) in
        let e = unread in
        let f = c.total in
        let g = broken_waiting first scratch S in
        omega (arith, a, b, d, e, f, g);
  }

  break_none : NoneReady 256 first (broken_sources first scratch S) (broken_reads first scratch R)
  break_none = record {
    each = λ i u e. ⊎_elim
        (λ (f : i ≡ scratch). ready_none (broken_sources first scratch S) _ i (broken_none first scratch S i (ap (source_at S) f ∙ idle)))
        (λ (f : i ≢ scratch). go i e f (source_at S i) refl) (same_or i scratch);
  }
    where
      go : (i : ℕ) → i ≢ first → i ≢ scratch → (o : Option ℕ) → source_at S i ≡ o → ready_at (broken_sources first scratch S) (broken_reads first scratch R) i ≡ None
      go i e f None g = ready_none (broken_sources first scratch S) _ i (broken_none first scratch S i g)
      go i e f (Some q) g = read_none (broken_sources first scratch S) (broken_reads first scratch R) i (reads_rest i e f ∙ one_each S R c still i ∙ ap waits g ∙ waits_some q)

  break_stands : (moves : List Move) (M : List Move) (broken q : ℕ) → source_at S first ≡ Some q → Stands moves scratch S M broken → Stands moves scratch (broken_sources first scratch S) (M ++ record { from = first; to = scratch } ∷ []) (broken + 1)
  break_stands moves M broken q e k = record {
    effect = λ s r m. moved_last M (record { from = first; to = scratch }) s (current (broken_sources first scratch S) r) ∙ go s r m (source_at S r) refl;
    idle = broken_none first scratch S scratch idle;
    origin = λ r p f. let b = broken_from first scratch S r p f in let o = k.origin r b.0 b.1 in (
      o.0,
      o.1,
      o.2,
      ⊎_elim
          (λ (a : (b.0 ≡ first) × (p ≡ scratch)). inr a.1)
          (λ (a : (b.0 ≢ first) × (p ≡ b.0)). ⊎_elim (λ (x : b.0 ≡ o.0). inl (a.1 ∙ x)) (λ (x : b.0 ≡ scratch). inr (a.1 ∙ x)) o.3) b.2,
    );
    long =
        let a = length-append M (the_move ∷ []) in
        let b = broken_waiting first scratch S in
        let d = k.long in
        omega (arith, a, b, d);
    carries = λ test s all. carries_last test M the_move s (k.carries test s all) (
        let t = reader S first (let a = one_each S R c still first ∙ ap waits e ∙ waits_some q in let b = c.counts first v in omega (arith, a, b)) in
        let o = k.origin t.0 first t.1 in
        ap test (ap (moved M s) (sym (current_some S t.0 first t.1)) ∙ k.effect s t.0 (λ z. not_some first _ idle (ap (source_at S) (sym z) ∙ t.1)) ∙ ap s (wanted_some moves t.0 o.0 o.1)) ∙ all t.0 o.0 o.1);
    names = let o = k.origin first q e in names_last moves M scratch the_move k.names ((named_source moves scratch first o.0 o.1).0, inl refl);
  }
    where
      the_move : Move
      the_move = record { from = first; to = scratch }

      go : (s : RegisterContents ℕ) (r : ℕ) → r ≢ scratch → (o : Option ℕ) → source_at S r ≡ o → with_content scratch (moved M s first) (moved M s) (current (broken_sources first scratch S) r) ≡ s (wanted moves r)
      go s r m None f = ap (with_content scratch (moved M s first) (moved M s)) (current_none (broken_sources first scratch S) r (broken_none first scratch S r f)) ∙ content_other scratch (moved M s first) (moved M s) r m ∙ ap (moved M s) (sym (current_none S r f)) ∙ k.effect s r m
      go s r m (Some p) f = ⊎_elim
          (λ (x : p ≡ first).
          ap (with_content scratch (moved M s first) (moved M s)) (current_some (broken_sources first scratch S) r scratch (broken_at first scratch S r ∙ ap (redirected first scratch) (f ∙ ap Some x) ∙ redirected_is first scratch))
          ∙ content_same scratch (moved M s first) (moved M s)
          ∙ ap (moved M s) (sym (current_some S r first (f ∙ ap Some x))) ∙ k.effect s r m)
          (λ (x : p ≢ first).
          ap (with_content scratch (moved M s first) (moved M s)) (current_some (broken_sources first scratch S) r p (broken_at first scratch S r ∙ ap (redirected first scratch) f ∙ redirected_not first scratch p x))
          ∙ content_other scratch (moved M s first) (moved M s) p (λ z. direct r (f ∙ ap Some z))
          ∙ ap (moved M s) (sym (current_some S r p f)) ∙ k.effect s r m) (same_or p first)

-- the same with the list as the code writes it
pub the_count : (first scratch : ℕ) (S : List (Option ℕ)) (R : List ℕ) → IsCounted S R → Still S R → scratch ≢ first → scratch < 256 → first < 256 → source_at S scratch ≡ None → IsCounted (broken_sources first scratch S) (slice_set (slice_set R scratch (slice_index R first)) first 0)
unfolding reads_at
the_count first scratch S R c still n w v idle = break_counted first scratch S R c still n w v idle

the_none : (first scratch : ℕ) (S : List (Option ℕ)) (R : List ℕ) → IsCounted S R → Still S R → scratch ≢ first → scratch < 256 → first < 256 → source_at S scratch ≡ None → NoneReady 256 first (broken_sources first scratch S) (slice_set (slice_set R scratch (slice_index R first)) first 0)
unfolding reads_at
the_none first scratch S R c still n w v idle = break_none first scratch S R c still n w v idle

the_first : (first scratch : ℕ) (S : List (Option ℕ)) (R : List ℕ) → IsCounted S R → Still S R → scratch ≢ first → scratch < 256 → first < 256 → source_at S scratch ≡ None → reads_at (slice_set (slice_set R scratch (slice_index R first)) first 0) first ≡ 0
unfolding reads_at
the_first first scratch S R c still n w v idle = reads_first first scratch S R c still n w v idle

-- ---- a chain goes back along its cycle

abbrev Leads : List Move → (first t : ℕ) → Type 0
Leads moves first t = (k : ℕ) × (back moves k first ≡ Some t)

record Follows (moves : List Move) (first scratch : ℕ) (x y : Rest) (t : ℕ) : Type 0 where
  here : Leads moves first t ⊎ (t ≡ scratch)
  same : (u : ℕ) → (source_at y.sources u ≡ source_at x.sources u) ⊎ Leads moves first u
  closed : (u : ℕ) → source_at x.sources u ≡ None → source_at y.sources u ≡ None
  unread : (u : ℕ) → reads_at x.reads u ≡ 0 → reads_at y.reads u ≡ 0

follows : (moves : List Move) (scratch broken : ℕ) → {x y : Rest} → {r t : ℕ} → Chain x r y t → IsCounted x.sources x.reads → Stands moves scratch x.sources x.made broken → Follows moves r scratch x y t
unfolding reads_at
follows moves scratch broken {r = r} Stays k s = record { here = inl (0, refl); same = λ u. inl refl; closed = λ u e. e; unread = λ u e. e }
follows moves scratch broken {x = x} {r = r} (Makes {y = y} {t = t} q c e) k s = step (follows moves scratch broken c k s) (chain_stands moves scratch broken c k s) (chain_counted c k)
  where
    from : source_at y.sources t ≡ Some q
    from = (ready_parts y.sources y.reads t q e).1

    there : t < length y.sources
    there = source_there y.sources t q from

    step : Follows moves r scratch x y t → Stands moves scratch y.sources y.made broken → IsCounted y.sources y.reads → Follows moves r scratch x (after_make y q t) q
    step f z n = record {
      here = ⊎_elim
          (λ (v : q ≡ o.0). inl (⊎_elim
          (λ (l : Leads moves r t). (suc l.0, one_more moves l.0 r t q l.1 (o.1 ∙ ap Some (sym v))))
          (λ (v : t ≡ scratch). absurd (not_here v)) f.here))
          (λ (v : q ≡ scratch). inr v) o.3;
      same = λ u. ⊎_elim
          (λ (v : u ≡ t). inr (subst (λ a. Leads moves r a) (sym v) leads))
          (λ (v : u ≢ t). ⊎_elim
          (λ (a : source_at y.sources u ≡ source_at x.sources u). inl (source_other y.sources t u None v ∙ a))
          (λ (a : Leads moves r u). inr a) (f.same u)) (same_or u t);
      closed = λ u a. ⊎_elim
          (λ (v : u ≡ t). ap (source_at (slice_set y.sources t None)) v ∙ source_same y.sources t None there)
          (λ (v : u ≢ t). source_other y.sources t u None v ∙ f.closed u a) (same_or u t);
      unread = λ u a. ⊎_elim
          (λ (v : u ≡ q). subst (λ b. reads_at (slice_set y.reads q (reads_at y.reads q - 1)) b ≡ 0) (sym v)
          (reads_same y.reads q (reads_at y.reads q - 1) (let b = n.within t q from in let d = n.as_many in omega (arith, b, d)) ∙ (let b : reads_at y.reads q ≡ 0 = ap (reads_at y.reads) (sym v) ∙ f.unread u a in omega (arith, b))))
          (λ (v : u ≢ q). reads_other y.reads q u (reads_at y.reads q - 1) v ∙ f.unread u a) (same_or u q);
    }
      where
        o : (p : ℕ) × (filled_from moves t ≡ Some p) × (p ≢ t) × ((q ≡ p) ⊎ (q ≡ scratch))
        o = z.origin t q from

        not_here : t ≡ scratch → ⊥
        not_here v = not_some q _ z.idle (ap (source_at y.sources) (sym v) ∙ from)

        leads : Leads moves r t
        leads = ⊎_elim (λ (l : Leads moves r t). l) (λ (v : t ≡ scratch). absurd (not_here v)) f.here

-- ---- what waits where nothing can be filled is cycles

module _ (moves : List Move) (scratch broken : ℕ) (S : List (Option ℕ)) (R : List ℕ) (M : List Move) (c : IsCounted S R) (still : Still S R) (k : Stands moves scratch S M broken) where
  -- it waits for its source
  waits_for_source : (t q : ℕ) → source_at S t ≡ Some q → (filled_from moves t ≡ Some q) × (q ≢ t)
  waits_for_source t q e = let o = k.origin t q e in ⊎_elim
      (λ (v : q ≡ o.0). (o.1 ∙ ap Some (sym v), (λ z. o.2 (sym v ∙ z))))
      (λ (v : q ≡ scratch). absurd (let g = goes_on S R c still t q e in not_some g.0 _ k.idle (ap (source_at S) (sym v) ∙ g.1))) o.3

  waits_back : (r q n t : ℕ) → source_at S r ≡ Some q → back moves n r ≡ Some t → (p : ℕ) × (source_at S t ≡ Some p)
  waits_back r q zero t e f = (q, ap (source_at S) (sym (some_same r t f)) ∙ e)
  waits_back r q (suc n) t e f =
      let l = last_step moves n r t f in
      let i = waits_back r q n l.0 e l.1 in
      let d = waits_for_source l.0 i.0 i.1 in
      goes_on S R c still l.0 t (i.1 ∙ sym d.0 ∙ l.2)

  -- so many steps back
  orbit : ℕ → ℕ → ℕ
  orbit r zero = r
  orbit r (suc n) = current S (orbit r n)

  orbits : (r q : ℕ) → source_at S r ≡ Some q → (n : ℕ) → (back moves n r ≡ Some (orbit r n)) × ((p : ℕ) × (source_at S (orbit r n) ≡ Some p))
  unfolding orbit
  orbits r q e zero = (refl, (q, e))
  orbits r q e (suc n) =
      let i = orbits r q e n in
      let v : current S (orbit r n) ≡ i.1.0 = current_some S (orbit r n) i.1.0 i.1.1 in
      let d = waits_for_source (orbit r n) i.1.0 i.1.1 in (
        one_more moves n r (orbit r n) (current S (orbit r n)) i.0 (d.0 ∙ ap Some (sym v)),
        goes_on S R c still (orbit r n) (current S (orbit r n)) (i.1.1 ∙ ap Some (sym v)),
      )

  steps_back : (r q : ℕ) → source_at S r ≡ Some q → (n : ℕ) → source_at S (orbit r n) ≡ Some (orbit r (suc n))
  unfolding orbit
  steps_back r q e n = let i = orbits r q e n in i.1.1 ∙ ap Some (sym (current_some S (orbit r n) i.1.0 i.1.1))

  returns : (r q : ℕ) → source_at S r ≡ Some q → (i j d : ℕ) → j ≡ i + suc d → orbit r i ≡ orbit r j → orbit r (suc d) ≡ r
  unfolding orbit
  returns r q e zero j d w f = ap (orbit r) (let v : suc d ≡ j = omega (arith, w) in v) ∙ sym f
  returns r q e (suc i) zero d w f = absurd (omega (arith, w))
  returns r q e (suc i) (suc j) d w f = returns r q e i j d (omega (arith, w)) (once S R c still (orbit r i) (orbit r j) (orbit r (suc i)) (steps_back r q e i) (steps_back r q e j ∙ ap Some (sym f)))

  on_cycle : (r q : ℕ) → source_at S r ≡ Some q → IsOnCycle moves r
  on_cycle r q e =
      let p = two_same 256 (orbit r) (λ n w. let i = orbits r q e n in let a = source_there S (orbit r n) i.1.0 i.1.1 in let b = c.many in omega (arith, a, b)) in
      let w = p.2 in
      let a = returns r q e p.0 p.1 (p.1 - suc p.0) (omega (arith, w)) p.4 in
      let d = waits_for_source r q e in
      record {
        steps = p.1 - suc p.0;
        comes_back = (orbits r q e (suc (p.1 - suc p.0))).0 ∙ ap Some a;
        leaves = λ f. d.1 (some_same q r (sym d.0 ∙ f));
      }

-- ---- a list that rises

contained : (cs : List ℕ) (i a : ℕ) → slice_get cs i ≡ Some a → Contains cs a
contained cs i a e = (i, slice_get_within cs i a e, get_or_from_slice_get cs i a a e)

rises : (cs : List ℕ) (x : ℕ) → IsRising cs → ((a : ℕ) → Contains cs a → a < x) → IsRising (cs ++ x ∷ [])
rises cs x k below i j a b w e f = go (last_or cs x i a e) (last_or cs x j b f)
  where
    go : (slice_get cs i ≡ Some a) ⊎ ((i ≡ length cs) × (x ≡ a)) → (slice_get cs j ≡ Some b) ⊎ ((j ≡ length cs) × (x ≡ b)) → a < b
    go (inl g) (inl h) = k i j a b w g h
    go (inl g) (inr h) = let v = below a (contained cs i a g) in let y = h.1 in omega (arith, v, y)
    go (inr g) (inl h) = let v = slice_get_within cs j b h in let y = g.0 in absurd (omega (arith, v, y, w))
    go (inr g) (inr h) = let v = h.0 in let y = g.0 in absurd (omega (arith, v, y, w))

-- ---- the loop over the registers

pub cycles_start : (moves : List Move) (scratch : ℕ) (S : List (Option ℕ)) (R : List ℕ) (M : List Move) → AtChains moves scratch 256 S R M → AtCycles moves scratch 0 S R M
cycles_start moves scratch S R M k = record {
  named = k.named;
  cycles = [];
  rising = λ i j a b w e f. absurd (cc);
  broken = λ c. ((λ h. absurd (let w = h.1 in omega (arith, w))), (λ h. absurd (let w = h.1 in omega (arith, w))));
  counted = k.counted;
  stands = k.stands;
  whole = k.whole;
  below = λ i w. absurd (omega (arith, w));
  none = k.none;
}

pub cycles_pass : (moves : List Move) (scratch r : ℕ) (S : List (Option ℕ)) (R : List ℕ) (M : List Move) → AtCycles moves scratch r S R M → source_at S r ≡ None → AtCycles moves scratch (r + 1) S R M
cycles_pass moves scratch r S R M k e = record {
  named = k.named;
  cycles = k.cycles;
  rising = k.rising;
  broken = λ c. (
    (λ h. let b = (k.broken c).0 h in (b.0, (let w = b.1 in omega (arith, w)))),
    (λ h. (k.broken c).1 (h.0, (let w = h.1 in let n = other c h.0 in omega (arith, w, n)))),
  );
  counted = k.counted;
  stands = k.stands;
  whole = record { each = λ t on all. k.whole.each t on (λ i d f. let w = all i d f in omega (arith, w)) };
  below = λ i w. ⊎_elim (λ (v : i ≡ r). ap (source_at S) v ∙ e) (λ (v : i ≢ r). k.below i (omega (arith, w, v))) (same_or i r);
  none = k.none;
}
  where
    other : (c : ℕ) → BeginsCycle moves c → c ≢ r
    other c b v =
        let s = cycle_source moves c b.on in
        not_some s.0 _ (ap (source_at S) v ∙ e) (k.whole.each c b.on (λ i d f. let w = b.least i d f in omega (arith, w, v)) ∙ s.1)

pub cycles_broken : (moves : List Move) (scratch r q : ℕ) (x y : Rest) → AtCycles moves scratch r x.sources x.reads x.made → r < 256 → scratch < 256 → source_at x.sources r ≡ Some q → Released r (after_break r scratch x) y → AtCycles moves scratch (r + 1) y.sources y.reads y.made
cycles_broken moves scratch r q x y k w v e out = record {
  named = k.named;
  cycles = k.cycles ++ r ∷ [];
  rising = rises k.cycles r k.rising (λ a h. ((k.broken a).0 h).1);
  broken = λ c. (
    (λ h. ⊎_elim
        (λ (a : Contains k.cycles c). let b = (k.broken c).0 a in (b.0, (let u = b.1 in omega (arith, u))))
        (λ (a : r ≡ c). (subst (λ z. BeginsCycle moves z) a begins, omega (arith, a))) (Contains-push_cases k.cycles r c h)),
    (λ h. ⊎_elim
        (λ (a : c ≡ r). subst (λ z. Contains (k.cycles ++ r ∷ []) z) (sym a) (Contains-push k.cycles r))
        (λ (a : c ≢ r). Contains-append_left k.cycles (r ∷ []) c ((k.broken c).1 (h.0, (let u = h.1 in omega (arith, u, a))))) (same_or c r)),
  );
  counted = counted;
  stands = subst (λ z. Stands moves scratch y.sources y.made z) (sym (length-append k.cycles (r ∷ []))) (chain_stands moves scratch (length k.cycles + 1) out.chain begun stands);
  whole = record {
    each = λ t on all.
        let apart : Leads moves r t → ⊥ = λ l. let b = comes_back moves r begins.on.steps begins.on.comes_back l.0 t l.1 in let z = all b.0 r b.1 in omega (arith, z) in
        ⊎_elim
        (λ (a : source_at y.sources t ≡ source_at (map (redirected r scratch) x.sources) t). a ∙ kept t on all)
        (λ (a : Leads moves r t). absurd (apart a)) (along.same t);
  };
  below = λ i u. ⊎_elim
      (λ (a : i ≡ r). ap (source_at y.sources) a ∙ gone)
      (λ (a : i ≢ r). along.closed i (broken_none r scratch x.sources i (k.below i (omega (arith, u, a))))) (same_or i r);
  none = none;
}
  where
    apart : scratch ≢ r
    apart a = not_some q _ k.stands.idle (ap (source_at x.sources) a ∙ e)

    begun : IsCounted (map (redirected r scratch) x.sources) (slice_set (slice_set x.reads scratch (slice_index x.reads r)) r 0)
    begun = the_count r scratch x.sources x.reads k.counted k.none apart v w k.stands.idle

    stands : Stands moves scratch (map (redirected r scratch) x.sources) (x.made ++ record { from = r; to = scratch } ∷ []) (length k.cycles + 1)
    stands = break_stands r scratch x.sources x.reads k.counted k.none apart v w k.stands.idle moves x.made (length k.cycles) q e k.stands

    along : Follows moves r scratch (after_break r scratch x) y out.last
    along = follows moves scratch (length k.cycles + 1) out.chain begun stands

    counted : IsCounted y.sources y.reads
    counted = chain_counted out.chain begun

    none : (i : ℕ) → i < 256 → ready_at y.sources y.reads i ≡ None
    none = released_none 256 r (after_break r scratch x) y out (the_none r scratch x.sources x.reads k.counted k.none apart v w k.stands.idle)

    begins : BeginsCycle moves r
    begins = record {
      on = on_cycle moves scratch (length k.cycles) x.sources x.reads x.made k.counted k.none k.stands r q e;
      least = λ n t f.
          let p = waits_back moves scratch (length k.cycles) x.sources x.reads x.made k.counted k.none k.stands r q n t e f in
          ⊎_elim (λ (u : t < r). absurd (not_some p.0 _ (k.below t u) p.1)) (λ (u : r ≤ t). u) (lt_or t r);
    }

    gone : source_at y.sources r ≡ None
    gone = go (source_at y.sources r) refl
      where
        zero_reads : reads_at y.reads r ≡ 0
        zero_reads = along.unread r (the_first r scratch x.sources x.reads k.counted k.none apart v w k.stands.idle)

        go : (o : Option ℕ) → source_at y.sources r ≡ o → source_at y.sources r ≡ None
        go None f = f
        go (Some p) f = absurd (let a = one_each y.sources y.reads counted none r in let b : waits (source_at y.sources r) ≡ 1 = ap waits f ∙ waits_some p in let d = zero_reads in omega (arith, a, b, d))

    kept : (t : ℕ) → IsOnCycle moves t → ((n c : ℕ) → back moves n t ≡ Some c → r + 1 ≤ c) → source_at (map (redirected r scratch) x.sources) t ≡ filled_from moves t
    kept t on all =
        let f : source_at x.sources t ≡ filled_from moves t = k.whole.each t on (λ n c g. let z = all n c g in omega (arith, z)) in
        let s = cycle_source moves t on in
        let n : s.0 ≢ r = λ z. (let a = all 1 r (s.1 ∙ ap Some z) in omega (arith, a)) in
        broken_at r scratch x.sources t ∙ ap (redirected r scratch) (f ∙ s.1) ∙ redirected_not r scratch s.0 n ∙ sym s.1
