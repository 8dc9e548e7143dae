-- The three loops: what waits at first, the moves that no cycle holds up, the cycles, and the end.
use Rattle.std.proofs.lemmas.List.Edits.{map_over_more}
use Rattle.std.proofs.Common.{drop, ◌≡◌, ◌≢◌, ℕ, zero, suc, ◌<◌, ◌≤◌, ◌+◌, ◌⊎◌, nat_eq, List, [], ◌∷◌, ◌++◌, Option, Some, None, Bool, true, false, refl, sym, ap, ◌∙◌, subst, inl, ⊎_elim, length, get_or, take, replicate, arith}
use Rattle.std.specs.Prelude.{if◌then◌else◌, not, slice_set, slice_index, slice_get, map, is_some}
use Rattle.std.proofs.lemmas.List.{length-set, length-replicate, get_or_past, get_or-replicate, take_more}
use Rattle.std.proofs.lemmas.List.Sums.{sum_by-cons, count_by_more_no, count_by_more_yes}
use Rattle.std.proofs.lemmas.List.Folds.{sum_by-replicate}
use Rattle.std.proofs.lemmas.Option.{slice_get_within, get_or_from_slice_get, slice_get-get_or}
use Rattle.par_move.specs.declared.moves.Move.{Move}
use Rattle.par_move.specs.Moves.{RegisterContents, moved, HaveDistinctTargets, IsInNoMove, ParallelMove, filled_from, is_between, HasLength}
use Rattle.par_move.specs.model.Rest.{Rest, rest, source_at, reads_at, waits, waits_for, waiting, waiting_for, IsCounted, Released, current, wanted, from_other, redirected, AreNamedBelow, Opened, noted, Notes, AtChains, AtCycles}
use Rattle.par_move.proofs.Tables.{eqb_same, eqb_other, same_or, lt_or, some_same, not_some, source_there, source_same, source_other, reads_same, reads_other, waiting_set, waiting_for_set, sum_set, waits_some, waits_none, one_waits, none_waits, waits_for_none}
use Rattle.par_move.proofs.Chains.{current_some, current_none, wanted_some, wanted_none, chain_counted, chain_stands, chain_whole, released_none}
use Rattle.par_move.proofs.Back.{cycle_source, source_in, last_or}

-- ---- moves

source_last_other : (ms : List Move) (m : Move) (r : ℕ) → m.to ≢ r → filled_from (ms ++ m ∷ []) r ≡ filled_from ms r
source_last_other [] m r n = ap (λ b. if b then Some m.from else None) (eqb_other m.to r n)
source_last_other (x ∷ ms) m r n = ap (λ o. if nat_eq x.to r then Some x.from else o) (source_last_other ms m r n)

source_last_same : (ms : List Move) (m : Move) → filled_from ms m.to ≡ None → filled_from (ms ++ m ∷ []) m.to ≡ Some m.from
source_last_same [] m e = ap (λ b. if b then Some m.from else None) (eqb_same m.to)
source_last_same (x ∷ ms) m e = go (source_last_same ms m) (nat_eq x.to m.to) refl e
  where
    go : (filled_from ms m.to ≡ None → filled_from (ms ++ m ∷ []) m.to ≡ Some m.from) → (b : Bool) → nat_eq x.to m.to ≡ b → (if b then Some x.from else filled_from ms m.to) ≡ None → (if nat_eq x.to m.to then Some x.from else filled_from (ms ++ m ∷ []) m.to) ≡ Some m.from
    go rest true f g = absurd (cc)
    go rest false f g = ap (λ b. if b then Some x.from else filled_from (ms ++ m ∷ []) m.to) f ∙ rest g

some_source : (ms : List Move) (i : ℕ) (m : Move) → slice_get ms i ≡ Some m → (q : ℕ) × (filled_from ms m.to ≡ Some q)
some_source [] i m e = absurd (cc)
some_source (x ∷ ms) i m e = go (nat_eq x.to m.to) refl i e (some_source ms)
  where
    go : (b : Bool) → nat_eq x.to m.to ≡ b → (i : ℕ) → slice_get (x ∷ ms) i ≡ Some m → ((i : ℕ) (m : Move) → slice_get ms i ≡ Some m → (q : ℕ) × (filled_from ms m.to ≡ Some q)) → (q : ℕ) × (filled_from (x ∷ ms) m.to ≡ Some q)
    go true f i g rest = (x.from, ap (λ b. if b then Some x.from else filled_from ms m.to) f)
    go false f zero g rest = let v : x.to ≡ m.to = (let z : x ≡ m = cc in ap (λ (y : Move). y.to) z) in let a = eqb_same m.to in absurd (let d : nat_eq x.to m.to ≡ true = ap (λ n. nat_eq n m.to) v ∙ a in let clash : true ≡ false = sym d ∙ f in cc)
    go false f (suc i) g rest = let s = rest i m g in (s.0, ap (λ b. if b then Some x.from else filled_from ms m.to) f ∙ s.1)

same_move : (m n : Move) → Some m ≡ Some n → m ≡ n
same_move m n e = cc

-- the source of a move's target
source_is : (ms : List Move) (i : ℕ) (m : Move) → HaveDistinctTargets ms → slice_get ms i ≡ Some m → filled_from ms m.to ≡ Some m.from
source_is ms i m apart e =
    let s = some_source ms i m e in
    let p = source_in ms m.to s.0 s.1 in
    let v : p.0 ≡ i = apart p.0 i p.1 m p.2 e p.3 in
    let z : p.1 ≡ m = same_move p.1 m (sym p.2 ∙ ap (slice_get ms) v ∙ e) in
    s.1 ∙ ap Some (sym p.4 ∙ ap (λ (y : Move). y.from) z)

in_take : (ms : List Move) (i j : ℕ) (m : Move) → slice_get (take i ms) j ≡ Some m → (slice_get ms j ≡ Some m) × (j < i)
in_take ms zero j m e = absurd (cc)
in_take [] (suc i) j m e = absurd (cc)
in_take (x ∷ ms) (suc i) zero m e = (e, omega arith)
in_take (x ∷ ms) (suc i) (suc j) m e = let r = in_take ms i j m e in (r.0, (let w = r.1 in omega (arith, w)))

-- its target is new
fresh : (moves : List Move) (i : ℕ) (m : Move) → HaveDistinctTargets moves → slice_get moves i ≡ Some m → filled_from (take i moves) m.to ≡ None
fresh moves i m apart e = go (filled_from (take i moves) m.to) refl
  where
    go : (o : Option ℕ) → filled_from (take i moves) m.to ≡ o → filled_from (take i moves) m.to ≡ None
    go None f = f
    go (Some q) f =
        let p = source_in (take i moves) m.to q f in
        let t = in_take moves i p.0 p.1 p.2 in
        let v : p.0 ≡ i = apart p.0 i p.1 m t.0 e p.3 in
        let w = t.1 in
        absurd (omega (arith, v, w))

-- ---- what waits at first

few_wait : (q : ℕ) (S : List (Option ℕ)) → waiting_for q S ≤ length S
unfolding waiting_for waits_for
few_wait q [] = omega arith
few_wait q (o ∷ S) = let a = sum_by-cons (waits_for q) o S in let b = one o in let i = few_wait q S in omega (arith, a, b, i)
  where
    pick : (b : Bool) → (if b then 1 else 0) ≤ 1
    pick true = omega arith
    pick false = omega arith

    one : (o : Option ℕ) → waits_for q o ≤ 1
    one None = omega arith
    one (Some p) = pick (nat_eq p q)

pub few_reads : (S : List (Option ℕ)) (R : List ℕ) (q : ℕ) → IsCounted S R → slice_index R q ≤ 256
unfolding reads_at
few_reads S R q c = ⊎_elim
    (λ (w : q < length R). let a = c.counts q (omega (arith, w, c.as_many)) in let b = few_wait q S in let d = c.many in omega (arith, a, b, d))
    (λ (w : length R ≤ q). let a : slice_index R q ≡ 0 = get_or_past R q 0 w in omega (arith, a)) (lt_or q (length R))

note_counted : (S : List (Option ℕ)) (R : List ℕ) (t q : ℕ) → IsCounted S R → source_at S t ≡ None → t < 256 → q < 256 → IsCounted (slice_set S t (Some q)) (slice_set R q (reads_at R q + 1))
note_counted S R t q k e w v = record {
  many = length-set S t (Some q) ∙ k.many;
  as_many = length-set R q (reads_at R q + 1) ∙ k.as_many;
  counts = λ p u. ⊎_elim
      (λ (f : p ≡ q). subst (λ z. reads_at (slice_set R q (reads_at R q + 1)) z ≡ waiting_for z (slice_set S t (Some q))) (sym f)
      (let a = waiting_for_set q S t (Some q) there in
      let b : waits_for q (source_at S t) ≡ 0 = ap (waits_for q) e ∙ waits_for_none q in
      let c = one_waits q in
      let d = k.counts q v in
      let g = reads_same R q (reads_at R q + 1) there_too in
      omega (arith, a, b, c, d, g)))
      (λ (f : p ≢ q).
      let a = waiting_for_set p S t (Some q) there in
      let b : waits_for p (source_at S t) ≡ 0 = ap (waits_for p) e ∙ waits_for_none p in
      let c = none_waits p q (λ z. f (sym z)) in
      let d = k.counts p u in
      let g = reads_other R q p (reads_at R q + 1) f in
      omega (arith, a, b, c, d, g)) (same_or p q);
  within = λ r p f. ⊎_elim
      (λ (z : r ≡ t). let a : q ≡ p = some_same q p (sym (source_same S t (Some q) there) ∙ ap (source_at (slice_set S t (Some q))) (sym z) ∙ f) in omega (arith, a, v))
      (λ (z : r ≢ t). k.within r p (sym (source_other S t r (Some q) z) ∙ f)) (same_or r t);
  total =
      let a = waiting_set S t (Some q) there in
      let b : waits (source_at S t) ≡ 0 = ap waits e ∙ waits_none in
      let c = waits_some q in
      let d = sum_set R q (reads_at R q + 1) there_too in
      let f = k.total in
      omega (arith, a, b, c, d, f);
}
  where
    there : t < length S
    there = let a = k.many in omega (arith, a, w)

    there_too : q < length R
    there_too = let a = k.as_many in omega (arith, a, v)

pub opened_start : (moves : List Move) → Opened (take 0 moves) (replicate {A = Option ℕ} 256 None) (replicate {A = ℕ} 256 0)
unfolding waiting waiting_for source_at reads_at waits waits_for
opened_start moves = record {
  named = λ i m e. absurd (cc);
  counted = record {
    many = length-replicate {A = Option ℕ} 256 None;
    as_many = length-replicate {A = ℕ} 256 0;
    counts = λ q w. get_or-replicate 256 q 0 0 w ∙ sym (sum_by-replicate {X = Option ℕ} (waits_for q) 256 None);
    within = λ r q e. absurd (not_some q _ (nothing r) e);
    total = sum_by-replicate {X = ℕ} (λ n. n) 256 0 ∙ sym (sum_by-replicate {X = Option ℕ} waits 256 None);
  };
  each = nothing;
  many = sum_by-replicate {X = Option ℕ} waits 256 None;
}
  where
    nothing : (r : ℕ) → get_or {A = Option ℕ} (replicate 256 None) r None ≡ None
    nothing r = ⊎_elim
        (λ (w : r < 256). get_or-replicate {A = Option ℕ} 256 r None None w)
        (λ (w : 256 ≤ r). get_or_past {X = Option ℕ} (replicate 256 None) r None (let a = length-replicate {A = Option ℕ} 256 None in omega (arith, a, w))) (lt_or r 256)

pub opened_free : (moves : List Move) (i : ℕ) (m : Move) (S : List (Option ℕ)) (R : List ℕ) → HaveDistinctTargets moves → slice_get moves i ≡ Some m → Opened (take i moves) S R → source_at S m.to ≡ None
opened_free moves i m S R apart e k = k.each m.to ∙ ap (from_other m.to) (fresh moves i m apart e)

between : (b : Bool) (m : Move) → nat_eq m.from m.to ≡ b → is_between m ≡ not b
between b m e = ap not e

pub opened_step : (moves : List Move) (i : ℕ) (m : Move) (S T : List (Option ℕ)) (R Q : List ℕ) → HaveDistinctTargets moves → m.from < 256 → m.to < 256 → slice_get moves i ≡ Some m → Opened (take i moves) S R → Notes m S R T Q → Opened (take (i + 1) moves) T Q
unfolding reads_at
opened_step moves i m S T R Q apart v w e k n = go (nat_eq m.from m.to) refl n
  where
    there : i < length moves
    there = slice_get_within moves i m e

    here : get_or moves i m ≡ m
    here = get_or_from_slice_get moves i m m e

    more : take (i + 1) moves ≡ take i moves ++ m ∷ []
    more = take_more moves i m there ∙ ap (λ x. take i moves ++ x ∷ []) here

    named : AreNamedBelow 256 (take (i + 1) moves)
    named = subst (λ z. AreNamedBelow 256 z) (sym more) (λ j n f. ⊎_elim
        (λ (g : slice_get (take i moves) j ≡ Some n). k.named j n g)
        (λ (g : (j ≡ length (take i moves)) × (m ≡ n)). subst (λ (z : Move). (z.from < 256) × (z.to < 256)) g.1 (v, w)) (last_or (take i moves) m j n f))

    new : filled_from (take i moves) m.to ≡ None
    new = fresh moves i m apart e

    source : (r : ℕ) → m.to ≢ r → filled_from (take (i + 1) moves) r ≡ filled_from (take i moves) r
    source r v = ap (λ ms. filled_from ms r) more ∙ source_last_other (take i moves) m r v

    target : filled_from (take (i + 1) moves) m.to ≡ Some m.from
    target = ap (λ ms. filled_from ms m.to) more ∙ source_last_same (take i moves) m new

    go : (b : Bool) → nat_eq m.from m.to ≡ b → noted b m S T R Q → Opened (take (i + 1) moves) T Q
    go true f g = subst (λ z. Opened (take (i + 1) moves) z Q) (sym g.0) (subst (λ z. Opened (take (i + 1) moves) S z) (sym g.1) (record {
      named = named;
      counted = k.counted;
      each = λ r. k.each r ∙ ⊎_elim
          (λ (v : r ≡ m.to).
          ap (λ z. from_other z (filled_from (take i moves) z)) v
          ∙ ap (from_other m.to) new
          ∙ sym (ap (λ z. from_other z (filled_from (take (i + 1) moves) z)) v ∙ ap (from_other m.to) target ∙ ap (λ b. if b then None else Some m.from) f))
          (λ (v : r ≢ m.to). ap (from_other r) (sym (source r (λ z. v (sym z))))) (same_or r m.to);
      many = k.many ∙ sym (count_by_more_no is_between moves i m there (ap is_between here ∙ between true m f));
    }))
    go false f g = subst (λ z. Opened (take (i + 1) moves) z Q) (sym g.0) (subst (λ z. Opened (take (i + 1) moves) (slice_set S m.to (Some m.from)) z) (sym g.1) (record {
      named = named;
      counted = note_counted S R m.to m.from k.counted (opened_free moves i m S R apart e k) w v;
      each = λ r. ⊎_elim
          (λ (v : r ≡ m.to).
          ap (source_at (slice_set S m.to (Some m.from))) v
          ∙ source_same S m.to (Some m.from) (let a = k.counted.many in omega (arith, a, w))
          ∙ sym (ap (λ z. from_other z (filled_from (take (i + 1) moves) z)) v ∙ ap (from_other m.to) target ∙ ap (λ b. if b then None else Some m.from) f))
          (λ (v : r ≢ m.to). source_other S m.to r (Some m.from) v ∙ k.each r ∙ ap (from_other r) (sym (source r (λ z. v (sym z))))) (same_or r m.to);
      many =
          let a = waiting_set S m.to (Some m.from) (let a = k.counted.many in omega (arith, a, w)) in
          let b : waits (source_at S m.to) ≡ 0 = ap waits (opened_free moves i m S R apart e k) ∙ waits_none in
          let c = waits_some m.from in
          let d = k.many in
          let h = count_by_more_yes is_between moves i m there (ap is_between here ∙ between false m f) in
          omega (arith, a, b, c, d, h);
    }))

-- ---- the moves that no cycle holds up

other_is : (r q : ℕ) → q ≢ r → from_other r (Some q) ≡ Some q
other_is r q n = ap (λ b. if b then None else Some q) (eqb_other q r n)

other_same : (r q : ℕ) → q ≡ r → from_other r (Some q) ≡ None
other_same r q e = ap (λ z. from_other r (Some z)) e ∙ ap (λ b. if b then None else Some r) (eqb_same r)

pub chains_start : (moves : List Move) (scratch : ℕ) (S : List (Option ℕ)) (R : List ℕ) (M : List Move) → M ≡ [] → IsInNoMove scratch moves → Opened moves S R → AtChains moves scratch 0 S R M
chains_start moves scratch S R M e outside k = subst (λ z. AtChains moves scratch 0 S R z) (sym e) (record {
  named = k.named;
  counted = k.counted;
  stands = record {
    effect = λ s r n. ap s (same r (filled_from moves r) refl);
    idle = k.each scratch ∙ ap (from_other scratch) (no_target (filled_from moves scratch) refl);
    origin = λ r q f. origin r q (filled_from moves r) refl f;
    long = let a = k.many in omega (arith, a);
    carries = λ test s all. tt;
    names = λ i m f. absurd (cc);
  };
  whole = record { each = λ t on all. let s = cycle_source moves t on in k.each t ∙ ap (from_other t) s.1 ∙ other_is t s.0 (λ v. on.leaves (s.1 ∙ ap Some v)) ∙ sym s.1 };
  none = λ i w. absurd (omega (arith, w));
})
  where
    same : (r : ℕ) (o : Option ℕ) → filled_from moves r ≡ o → current S r ≡ wanted moves r
    same r None f = current_none S r (k.each r ∙ ap (from_other r) f) ∙ sym (wanted_none moves r f)
    same r (Some q) f = ⊎_elim
        (λ (v : q ≡ r). current_none S r (k.each r ∙ ap (from_other r) f ∙ other_same r q v) ∙ sym v ∙ sym (wanted_some moves r q f))
        (λ (v : q ≢ r). current_some S r q (k.each r ∙ ap (from_other r) f ∙ other_is r q v) ∙ sym (wanted_some moves r q f)) (same_or q r)

    no_target : (o : Option ℕ) → filled_from moves scratch ≡ o → filled_from moves scratch ≡ None
    no_target None f = f
    no_target (Some q) f = let p = source_in moves scratch q f in absurd ((outside p.0 p.1 p.2).1 p.3)

    origin : (r q : ℕ) (o : Option ℕ) → filled_from moves r ≡ o → source_at S r ≡ Some q → (p : ℕ) × (filled_from moves r ≡ Some p) × (p ≢ r) × ((q ≡ p) ⊎ (q ≡ scratch))
    origin r q None f g = absurd (not_some q _ (k.each r ∙ ap (from_other r) f) g)
    origin r q (Some p) f g = ⊎_elim
        (λ (v : p ≡ r). absurd (not_some q _ (k.each r ∙ ap (from_other r) f ∙ other_same r p v) g))
        (λ (v : p ≢ r). (p, f, v, inl (some_same q p (sym g ∙ k.each r ∙ ap (from_other r) f ∙ other_is r p v)))) (same_or p r)

pub chains_step : (moves : List Move) (scratch r : ℕ) (x y : Rest) → AtChains moves scratch r x.sources x.reads x.made → Released r x y → AtChains moves scratch (r + 1) y.sources y.reads y.made
chains_step moves scratch r x y k out = record {
  named = k.named;
  counted = chain_counted out.chain k.counted;
  stands = chain_stands moves scratch 0 out.chain k.counted k.stands;
  whole = chain_whole moves out.chain k.counted k.whole;
  none = released_none (r + 1) r x y out (record { each = λ i w n. k.none i (omega (arith, w, n)) });
}

-- ---- the end

nothing_waits : (S : List (Option ℕ)) → ((i : ℕ) → source_at S i ≡ None) → waiting S ≡ 0
unfolding waiting source_at
nothing_waits [] e = refl
nothing_waits (o ∷ S) e = let a = sum_by-cons waits o S in let b : waits o ≡ 0 = ap waits (e 0) ∙ waits_none in let i = nothing_waits S (λ k. e (suc k)) in omega (arith, a, b, i)

all_made : (moves : List Move) (scratch : ℕ) (S : List (Option ℕ)) (R : List ℕ) (M : List Move) → AtCycles moves scratch 256 S R M → (i : ℕ) → source_at S i ≡ None
all_made moves scratch S R M k i = go (source_at S i) refl
  where
    go : (o : Option ℕ) → source_at S i ≡ o → source_at S i ≡ None
    go None e = e
    go (Some q) e = k.below i (let a = source_there S i q e in let b = k.counted.many in omega (arith, a, b))

pub at_once : (moves : List Move) (scratch : ℕ) (S : List (Option ℕ)) (R : List ℕ) (M : List Move) → HaveDistinctTargets moves → IsInNoMove scratch moves → AtCycles moves scratch 256 S R M → ParallelMove moves scratch M
at_once moves scratch S R M apart outside k = record {
  targets = λ s i m e. holds s m.to (outside i m e).1 ∙ ap s (wanted_some moves m.to m.from (source_is moves i m apart e));
  others = λ s r none n. holds s r n ∙ ap s (wanted_none moves r (no_target r none (filled_from moves r) refl));
  carries = λ test s all. k.stands.carries test s (λ r p e. let i = source_in moves r p e in ap (λ z. test (s z)) (sym i.4) ∙ all i.0 i.1 i.2);
  names = k.stands.names;
}
  where
    holds : (s : RegisterContents ℕ) (r : ℕ) → r ≢ scratch → moved M s r ≡ s (wanted moves r)
    holds s r n = ap (moved M s) (sym (current_none S r (all_made moves scratch S R M k r))) ∙ k.stands.effect s r n

    no_target : (r : ℕ) → ((i : ℕ) (m : Move) → slice_get moves i ≡ Some m → m.to ≢ r) → (o : Option ℕ) → filled_from moves r ≡ o → filled_from moves r ≡ None
    no_target r none None f = f
    no_target r none (Some q) f = let p = source_in moves r q f in absurd (none p.0 p.1 p.2 p.3)

pub has_length : (moves : List Move) (scratch : ℕ) (S : List (Option ℕ)) (R : List ℕ) (M : List Move) → AtCycles moves scratch 256 S R M → HasLength moves M
has_length moves scratch S R M k = record {
  cycles = k.cycles;
  are = record {
    rising = k.rising;
    each = λ r. (
      (λ h. ((k.broken r).0 h).0),
      (λ h. (k.broken r).1 (
        h,
        (
            let s = cycle_source moves r h.on in
            let p = source_in moves r s.0 s.1 in
            let a = (k.named p.0 p.1 p.2).1 in
            let b = p.3 in
            omega (arith, a, b)),
      )),
    );
  };
  long = let a = k.stands.long in let b = nothing_waits S (all_made moves scratch S R M k) in omega (arith, a, b);
}

-- ---- for the goals of the code

pub move_at : (moves : List Move) (i : ℕ) (d : Move) → i < length moves → slice_get moves i ≡ Some (get_or moves i d)
move_at moves i d w = slice_get-get_or moves i d w

other_default : (ys : List (Option ℕ)) (i : ℕ) (d e : Option ℕ) → i < length ys → get_or ys i d ≡ get_or ys i e
other_default ys i d e w = same (get_or ys i d) (get_or ys i e) (sym (slice_get-get_or ys i d w) ∙ slice_get-get_or ys i e w)
  where
    same : (a b : Option ℕ) → Some a ≡ Some b → a ≡ b
    same a b f = cc

pub redirect_more : (first scratch : ℕ) (xs ys : List (Option ℕ)) (i : ℕ) (o : Option ℕ) → i < length xs → length ys ≡ length xs → ys ≡ map (redirected first scratch) (take i xs) ++ drop i xs → o ≡ redirected first scratch (get_or ys i None) → slice_set ys i o ≡ map (redirected first scratch) (take (i + 1) xs) ++ drop (i + 1) xs
redirect_more first scratch xs ys i o w l e f =
    ap (slice_set ys i) f ∙ map_over_more (redirected first scratch) xs ys i (get_or ys i None) w e (other_default ys i None (get_or ys i None) (omega (arith, w, l)))

pub take_all : (moves : List Move) (i : ℕ) → length moves ≤ i → take i moves ≡ moves
take_all [] zero w = refl
take_all [] (suc i) w = refl
take_all (m ∷ ms) zero w = absurd (omega (arith, w))
take_all (m ∷ ms) (suc i) w = ap (λ x. m ∷ x) (take_all ms i (omega (arith, w)))

-- what waits, by the test of the code
pub that_waits : (S : List (Option ℕ)) (r : ℕ) (b : Bool) → b ≡ is_some (get_or S r None) → b ≡ true → (q : ℕ) × (source_at S r ≡ Some q)
unfolding source_at
that_waits S r b e f = go (get_or S r None) refl
  where
    go : (o : Option ℕ) → get_or S r None ≡ o → (q : ℕ) × (get_or S r None ≡ Some q)
    go None d = absurd (let g : is_some (get_or S r None) ≡ false = ap is_some d in cc)
    go (Some q) d = (q, d)

pub that_waits_not : (S : List (Option ℕ)) (r : ℕ) (b : Bool) → b ≡ is_some (get_or S r None) → b ≡ false → source_at S r ≡ None
unfolding source_at
that_waits_not S r b e f = go (get_or S r None) refl
  where
    go : (o : Option ℕ) → get_or S r None ≡ o → get_or S r None ≡ None
    go None d = d
    go (Some q) d = absurd (let g : is_some (get_or S r None) ≡ true = ap is_some d in cc)

pub not_idle : (S : List (Option ℕ)) (r scratch : ℕ) (b : Bool) → source_at S scratch ≡ None → b ≡ is_some (get_or S r None) → b ≡ true → r ≡ scratch → ⊥
not_idle S r scratch b idle e f v = let w = that_waits S r b e f in not_some w.0 _ idle (ap (source_at S) (sym v) ∙ w.1)
