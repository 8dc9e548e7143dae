-- What a move does to the invariants, and a chain of them.
use Rattle.std.proofs.Common.{◌≡◌, ◌≢◌, ℕ, ◌<◌, ◌≤◌, ◌-◌, List, [], ◌∷◌, ◌++◌, Option, Some, None, Bool, true, refl, sym, ap, ◌∙◌, subst, inl, ⊎_elim, length, length-append, arith}
use Rattle.std.proofs.lemmas.List.{length-set}
use Rattle.std.specs.Prelude.{if◌then◌else◌, slice_set, slice_index, unwrap_or}
use Rattle.par_move.specs.declared.moves.Move.{Move}
use Rattle.par_move.specs.Moves.{RegisterContents, with_content, moved, Carries, filled_from, IsOnCycle, IsNamed}
use Rattle.par_move.specs.model.Rest.{Rest, rest, source_at, reads_at, waits, waiting, IsCounted, ready_at, Chain, Stays, Makes, Released, current, wanted, Stands, IsWhole, NoneReady}
use Rattle.par_move.proofs.Tables.{eqb_same, eqb_other, same_or, lt_or, not_some, source_there, source_same, source_other, reads_other, waiting_set, waits_some, waits_none, is_counted, ready_parts, ready_same, ready_none, make_counted}
use Rattle.par_move.proofs.Back.{reader_on_cycle, named_source, names_last}

pub content_same : {C : Type 0} → (r : ℕ) → (c : C) → (s : RegisterContents C) → with_content r c s r ≡ c
content_same r c s = ap (λ b. if b then c else s r) (eqb_same r)

pub content_other : {C : Type 0} → (r : ℕ) → (c : C) → (s : RegisterContents C) → (q : ℕ) → q ≢ r → with_content r c s q ≡ s q
content_other r c s q n = ap (λ b. if b then c else s q) (eqb_other q r n)

-- one move behind others
pub moved_last : {C : Type 0} → (M : List Move) (m : Move) → (s : RegisterContents C) → (r : ℕ) → moved (M ++ m ∷ []) s r ≡ with_content m.to (moved M s m.from) (moved M s) r
moved_last [] m s r = refl
moved_last (x ∷ M) m s r = moved_last M m (with_content x.to (s x.from) s) r

pub carries_last : (test : ℕ → Bool) (M : List Move) (m : Move) (s : RegisterContents ℕ) → Carries test M s → test (moved M s m.from) ≡ true → Carries test (M ++ m ∷ []) s
carries_last test [] m s c e = (e, tt)
carries_last test (x ∷ M) m s c e = (c.0, carries_last test M m (with_content x.to (s x.from) s) c.1 e)

pub current_some : (S : List (Option ℕ)) (r q : ℕ) → source_at S r ≡ Some q → current S r ≡ q
unfolding current
current_some S r q e = ap (λ o. unwrap_or o r) e

pub current_none : (S : List (Option ℕ)) (r : ℕ) → source_at S r ≡ None → current S r ≡ r
unfolding current
current_none S r e = ap (λ o. unwrap_or o r) e

pub current_same : (S T : List (Option ℕ)) (r : ℕ) → source_at S r ≡ source_at T r → current S r ≡ current T r
unfolding current
current_same S T r e = ap (λ o. unwrap_or o r) e

pub wanted_some : (moves : List Move) (r q : ℕ) → filled_from moves r ≡ Some q → wanted moves r ≡ q
unfolding wanted
wanted_some moves r q e = ap (λ o. unwrap_or o r) e

pub wanted_none : (moves : List Move) (r : ℕ) → filled_from moves r ≡ None → wanted moves r ≡ r
unfolding wanted
wanted_none moves r e = ap (λ o. unwrap_or o r) e

abbrev a_move : ℕ → ℕ → Move
a_move q t = record { from = q; to = t }

pub make_stands : (moves : List Move) (scratch : ℕ) (S : List (Option ℕ)) (R : List ℕ) (M : List Move) (broken t q : ℕ) → Stands moves scratch S M broken → IsCounted S R → ready_at S R t ≡ Some q → Stands moves scratch (slice_set S t None) (M ++ record { from = q; to = t } ∷ []) broken
make_stands moves scratch S R M broken t q k c e = record {
  effect = λ s r n. moved_last M (a_move q t) s (current (slice_set S t None) r) ∙ ⊎_elim
      (λ (v : r ≡ t). subst (λ z. with_content t (moved M s q) (moved M s) (current (slice_set S t None) z) ≡ s (wanted moves z)) (sym v)
      (ap (with_content t (moved M s q) (moved M s)) (current_none (slice_set S t None) t (source_same S t None there))
      ∙ content_same t (moved M s q) (moved M s) ∙ content s))
      (λ (v : r ≢ t).
      let x : current (slice_set S t None) r ≡ current S r = current_same (slice_set S t None) S r (source_other S t r None v) in
      ap (with_content t (moved M s q) (moved M s)) x ∙ content_other t (moved M s q) (moved M s) (current S r) (apart r v) ∙ k.effect s r n) (same_or r t);
  idle = source_other S t scratch None (λ v. not_scratch (sym v)) ∙ k.idle;
  origin = λ r p f. ⊎_elim
      (λ (v : r ≡ t). absurd (not_some p _ (ap (source_at (slice_set S t None)) v ∙ source_same S t None there) f))
      (λ (v : r ≢ t). k.origin r p (sym (source_other S t r None v) ∙ f)) (same_or r t);
  long =
      let a = waiting_set S t None there in
      let b : waits (source_at S t) ≡ 1 = ap waits from ∙ waits_some q in
      let d = waits_none in
      let f = k.long in
      let g = length-append M (a_move q t ∷ []) in
      omega (arith, a, b, d, f, g);
  carries = λ test s all. carries_last test M (a_move q t) s (k.carries test s all)
      (let o = k.origin t q from in ap test (content s ∙ ap s (wanted_some moves t o.0 o.1)) ∙ all t o.0 o.1);
  names = let o = k.origin t q from in let z = named_source moves scratch t o.0 o.1 in names_last moves M scratch (a_move q t) k.names (
    ⊎_elim
        (λ (v : q ≡ o.0). subst (λ y. IsNamed moves scratch y) (sym v) z.1)
        (λ (v : q ≡ scratch). inl v) o.3,
    z.0,
  );
}
  where
    from : source_at S t ≡ Some q
    from = (ready_parts S R t q e).1

    there : t < length S
    there = source_there S t q from

    not_scratch : t ≢ scratch
    not_scratch v = not_some q _ k.idle (ap (source_at S) (sym v) ∙ from)

    content : (s : RegisterContents ℕ) → moved M s q ≡ s (wanted moves t)
    content s = ap (moved M s) (sym (current_some S t q from)) ∙ k.effect s t not_scratch

    unread : (r : ℕ) → source_at S r ≡ Some t → ⊥
    unread r f =
        let a = is_counted S r t f in
        let b = c.counts t (omega (arith, there, c.many)) in
        let d = (ready_parts S R t q e).0 in
        omega (arith, a, b, d)

    apart : (r : ℕ) → r ≢ t → current S r ≢ t
    apart r n v = go (source_at S r) refl
      where
        go : (o : Option ℕ) → source_at S r ≡ o → ⊥
        go None f = n (sym (current_none S r f) ∙ v)
        go (Some p) f = unread r (f ∙ ap Some (sym (current_some S r p f) ∙ v))

pub make_whole : (moves : List Move) (S : List (Option ℕ)) (R : List ℕ) (t q : ℕ) → IsWhole moves 0 S → IsCounted S R → ready_at S R t ≡ Some q → IsWhole moves 0 (slice_set S t None)
make_whole moves S R t q k c e = record {
  each = λ u on all. ⊎_elim
      (λ (v : u ≡ t). absurd (off (subst (λ z. IsOnCycle moves z) v on)))
      (λ (v : u ≢ t). source_other S t u None v ∙ k.each u on all) (same_or u t);
}
  where
    off : IsOnCycle moves t → ⊥
    off on =
        let l = reader_on_cycle moves t on in
        let f : source_at S l.0 ≡ Some t = k.each l.0 l.1 (λ i d g. omega arith) ∙ l.2 in
        let a = is_counted S l.0 t f in
        let b = c.counts t (let w = source_there S t q (ready_parts S R t q e).1 in omega (arith, w, c.many)) in
        let d = (ready_parts S R t q e).0 in
        omega (arith, a, b, d)

pub make_none : (n : ℕ) (S : List (Option ℕ)) (R : List ℕ) (t q : ℕ) → NoneReady n t S R → NoneReady n q (slice_set S t None) (slice_set R q (reads_at R q - 1))
make_none n S R t q k = record {
  each = λ i w v. ⊎_elim
      (λ (z : i ≡ t). ⊎_elim
      (λ (y : t < length S). ready_none (slice_set S t None) _ i (ap (source_at (slice_set S t None)) z ∙ source_same S t None y))
      (λ (y : length S ≤ t). ready_none (slice_set S t None) _ i (past i (omega (arith, y, z)))) (lt_or t (length S)))
      (λ (z : i ≢ t). ready_same (slice_set S t None) S _ R i (source_other S t i None z) (reads_other R q i _ v) ∙ k.each i w z) (same_or i t);
}
  where
    past : (i : ℕ) → length S ≤ i → source_at (slice_set S t None) i ≡ None
    past i w = go (source_at (slice_set S t None) i) refl
      where
        go : (o : Option ℕ) → source_at (slice_set S t None) i ≡ o → o ≡ None
        go None e = refl
        go (Some p) e = let y = source_there (slice_set S t None) i p e in let z = length-set S t None in absurd (omega (arith, y, z, w))

-- ---- chains

pub chain_counted : {x y : Rest} → {r t : ℕ} → Chain x r y t → IsCounted x.sources x.reads → IsCounted y.sources y.reads
unfolding reads_at
chain_counted Stays k = k
chain_counted (Makes {y = y} {t = t} q c e) k = make_counted y.sources y.reads t q (chain_counted c k) (ready_parts y.sources y.reads t q e).1

pub chain_stands : (moves : List Move) (scratch broken : ℕ) → {x y : Rest} → {r t : ℕ} → Chain x r y t → IsCounted x.sources x.reads → Stands moves scratch x.sources x.made broken → Stands moves scratch y.sources y.made broken
chain_stands moves scratch broken Stays k s = s
chain_stands moves scratch broken (Makes {y = y} {t = t} q c e) k s = make_stands moves scratch y.sources y.reads y.made broken t q (chain_stands moves scratch broken c k s) (chain_counted c k) e

pub chain_whole : (moves : List Move) → {x y : Rest} → {r t : ℕ} → Chain x r y t → IsCounted x.sources x.reads → IsWhole moves 0 x.sources → IsWhole moves 0 y.sources
chain_whole moves Stays k s = s
chain_whole moves (Makes {y = y} {t = t} q c e) k s = make_whole moves y.sources y.reads t q (chain_whole moves c k s) (chain_counted c k) e

pub chain_none : (n : ℕ) → {x y : Rest} → {r t : ℕ} → Chain x r y t → NoneReady n r x.sources x.reads → NoneReady n t y.sources y.reads
unfolding reads_at
chain_none n Stays k = k
chain_none n (Makes {y = y} {t = t} q c e) k = make_none n y.sources y.reads t q (chain_none n c k)

-- what a chain leaves behind where nothing below a number but its start could be filled
pub released_none : (n start : ℕ) (x y : Rest) → Released start x y → NoneReady n start x.sources x.reads → (i : ℕ) → i < n → ready_at y.sources y.reads i ≡ None
released_none n start x y r k i w = ⊎_elim
    (λ (v : i ≡ r.last). subst (λ z. ready_at y.sources y.reads z ≡ None) (sym v) r.ends)
    (λ (v : i ≢ r.last). (chain_none n r.chain k).each i w v) (same_or i r.last)

-- ---- for the loop of a chain

pub ready_within : (S : List (Option ℕ)) (R : List ℕ) (t q : ℕ) → IsCounted S R → Some q ≡ ready_at S R t → (q < 256) × (0 < slice_index R q)
unfolding reads_at
ready_within S R t q c e =
    let p = ready_parts S R t q (sym e) in
    let w = c.within t q p.1 in
    let a = is_counted S t q p.1 in
    let b = c.counts q w in
    (w, omega (arith, a, b))

pub waits_less : (S T : List (Option ℕ)) (R : List ℕ) (t q : ℕ) → Some q ≡ ready_at S R t → T ≡ slice_set S t None → waiting T < waiting S
waits_less S T R t q e f =
    let p = ready_parts S R t q (sym e) in
    let a = waiting_set S t None (source_there S t q p.1) in
    let b : waits (source_at S t) ≡ 1 = ap waits p.1 ∙ waits_some q in
    let c = waits_none in
    let d : waiting T ≡ waiting (slice_set S t None) = ap waiting f in
    omega (arith, a, b, c, d)

pub counted_more : (S T : List (Option ℕ)) (R Q : List ℕ) (t q : ℕ) → IsCounted S R → Some q ≡ ready_at S R t → T ≡ slice_set S t None → Q ≡ slice_set R q (slice_index R q - 1) → IsCounted T Q
unfolding reads_at
counted_more S T R Q t q c e f g = subst (λ z. IsCounted z Q) (sym f) (subst (λ z. IsCounted (slice_set S t None) z) (sym g) (make_counted S R t q c (ready_parts S R t q (sym e)).1))

pub chain_more : (x : Rest) (r : ℕ) (S T : List (Option ℕ)) (R Q : List ℕ) (M N : List Move) (t q : ℕ) → Chain x r (rest S R M) t → Some q ≡ ready_at S R t → T ≡ slice_set S t None → Q ≡ slice_set R q (slice_index R q - 1) → N ≡ M ++ record { from = q; to = t } ∷ [] → Chain x r (rest T Q N) q
chain_more x r S T R Q M N t q c e f g h =
    subst (λ z. Chain x r (rest z Q N) q) (sym f) (subst (λ z. Chain x r (rest (slice_set S t None) z N) q) (sym g) (subst (λ z. Chain x r (rest (slice_set S t None) (slice_set R q (slice_index R q - 1)) z) q) (sym h) (Makes q c (sym e))))
