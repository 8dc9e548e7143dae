-- What it does to the ranges so far that one is put behind them.
use Rattle.std.proofs.Common.{◌≡◌, ℕ, suc, ◌+◌, ◌*◌, ◌<◌, ◌≤◌, ◌||◌, ◌&&◌, not, Bool, true, false, List, [], ◌∷◌, ◌++◌, refl, sym, ap, ◌∙◌, subst, ⊎_elim, arith}
use Rattle.std.specs.Prelude.{max}
use Rattle.std.proofs.lemmas.Bool.{cases_lt}
use Rattle.alloc_rules.specs.declared.scan.LifetimePart.{LifetimePart}
use Rattle.lifetime_holes.specs.model.Spans.{span, Spans, HasSpans, Stands, Joins, JoinsSome, Marked}
use Rattle.lifetime_holes.specs.model.Spans.Spans.{NoSpan, SpanBehind}
use Rattle.lifetime_holes.specs.model.Spans.Joins.{Begins, Extends, Follows}
use Rattle.lifetime_holes.specs.model.Spans.JoinsSome.{Once, Again}
use Rattle.lifetime_holes.specs.model.Walks.{Visits}

no_last : {A : Type 0} (xs : List A) (x : A) → [] ≡ xs ++ x ∷ [] → ⊥
no_last [] x e = cc
no_last (y ∷ xs) x e = cc

head_same : {A : Type 0} (x y : A) (xs ys : List A) → x ∷ xs ≡ y ∷ ys → (x ≡ y) × (xs ≡ ys)
head_same x y xs ys e = (cc, cc)

last_same : {A : Type 0} (xs ys : List A) (x y : A) → xs ++ x ∷ [] ≡ ys ++ y ∷ [] → (xs ≡ ys) × (x ≡ y)
last_same [] [] x y e = (refl, (head_same x y [] [] e).0)
last_same [] (b ∷ ys) x y e = absurd (no_last ys y (head_same x b [] (ys ++ y ∷ []) e).1)
last_same (a ∷ xs) [] x y e = absurd (no_last xs x (sym (head_same a y (xs ++ x ∷ []) [] e).1))
last_same (a ∷ xs) (b ∷ ys) x y e =
    let h = head_same a b (xs ++ x ∷ []) (ys ++ y ∷ []) e in
    let i = last_same xs ys x y h.1 in
    (ap (λ z. z ∷ xs) h.0 ∙ ap (λ z. b ∷ z) i.0, i.1)

module _ (test : ℕ → Bool) where
  -- no point passes up to a later end
  pub exact : (from end behind : ℕ) (zs : List LifetimePart) → Spans test from behind zs → from ≤ end →
      ((q : ℕ) → from ≤ q → q < end → test q ≡ false) → Spans test end behind zs
  exact from end _ zs (NoSpan e none) w rest =
      NoSpan e (λ q v. ⊎_elim (λ (u : q < from). none q u) (λ (u : from ≤ q). rest q u v) (cases_lt q from))
  exact from end _ zs (SpanBehind xs x b e before ordered inside begins present none) w rest =
      SpanBehind xs x b e before ordered (omega (arith, inside, w)) begins present
      (λ q u v. ⊎_elim (λ (z : q < from). none q u z) (λ (z : from ≤ q). rest q z v) (cases_lt q from))

  pub behind_end : (end behind : ℕ) (zs : List LifetimePart) → Spans test end behind zs → behind ≤ end
  behind_end end _ zs (NoSpan e none) = omega arith
  behind_end end _ zs (SpanBehind xs x b e before ordered inside begins present none) = omega (arith, inside)

  new_span : (first last b : ℕ) (xs new : List LifetimePart) → new ≡ xs ++ span first last ∷ [] → Spans test first b xs →
      first ≤ last → ((q : ℕ) → suc q ≡ first → test q ≡ false) → ((q : ℕ) → first ≤ q → q ≤ last → test q ≡ true) →
      Spans test (suc last) (suc last) new
  new_span first last b xs new e before ordered begins present =
      SpanBehind xs (span first last) b e before ordered (omega arith) begins present
      (λ q u v. absurd (omega (arith, u, v)))

  pub joined : (from behind first last : ℕ) (zs new : List LifetimePart) → Spans test from behind zs →
      from ≡ max behind first → first ≤ last → from ≤ suc last →
      ((q : ℕ) → from ≤ q → q ≤ last → test q ≡ true) → Joins first last zs new → Spans test (suc last) (suc last) new
  joined from _ first last zs new (NoSpan e none) is ordered reach present (Begins e' made) =
      let same : from ≡ first = omega (arith, is) in
      new_span first last 0 [] new made (NoSpan refl (λ q w. none q (omega (arith, w, same)))) ordered
      (λ q w. none q (omega (arith, w, same))) (λ q u v. present q (omega (arith, u, same)) v)
  joined from _ first last zs new (NoSpan e none) is ordered reach present (Extends ys y e' near made) = absurd (no_last ys y (sym e ∙ e'))
  joined from _ first last zs new (NoSpan e none) is ordered reach present (Follows ys y e' far made) = absurd (no_last ys y (sym e ∙ e'))
  joined from _ first last zs new (SpanBehind xs x b e before low inside begins there none) is ordered reach present (Begins e' made) = absurd (no_last xs x (sym e' ∙ e))
  joined from _ first last zs new (SpanBehind xs x b e before low inside begins there none) is ordered reach present (Extends ys y e' near made) =
      let s = last_same ys xs y x (sym e' ∙ e) in
      let upper : y.last ≡ x.last = ap (λ (z : LifetimePart). z.last) s.1 in
      let same : from ≡ suc x.last = omega (arith, is, near, upper) in
      new_span x.first last b xs new (made ∙ ap (λ z. z ++ span y.first last ∷ []) s.0 ∙ ap (λ (z : LifetimePart). xs ++ span z.first last ∷ []) s.1)
      before (omega (arith, low, same, reach)) begins
      (λ q u v. ⊎_elim (λ (w : q < from). there q u (omega (arith, w, same))) (λ (w : from ≤ q). present q w v) (cases_lt q from))
  joined from _ first last zs new (SpanBehind xs x b e before low inside begins there none) is ordered reach present (Follows ys y e' far made) =
      let s = last_same ys xs y x (sym e' ∙ e) in
      let upper : y.last ≡ x.last = ap (λ (z : LifetimePart). z.last) s.1 in
      let same : from ≡ first = omega (arith, is, far, upper) in
      new_span first last (suc x.last) zs new (made ∙ ap (λ z. z ++ span first last ∷ []) (sym e'))
      (subst (λ n. Spans test n (suc x.last) zs) same (SpanBehind xs x b e before low inside begins there none)) ordered
      (λ q w. none q (omega (arith, w, far, upper)) (omega (arith, w, same))) (λ q u v. present q (omega (arith, u, same)) v)

  joined_some : (from behind first last : ℕ) (zs new : List LifetimePart) → Spans test from behind zs →
      from ≡ max behind first → first ≤ last → from ≤ suc last →
      ((q : ℕ) → from ≤ q → q ≤ last → test q ≡ true) → JoinsSome first last zs new → Spans test (suc last) (suc last) new
  joined_some from behind first last zs new spans is ordered reach present (Once j) = joined from behind first last zs new spans is ordered reach present j
  joined_some from behind first last zs new spans is ordered reach present (Again mid some j) =
      joined (suc last) (suc last) first last mid new (joined_some from behind first last zs mid spans is ordered reach present some)
      (omega (arith, ordered)) ordered (omega arith) (λ q u v. absurd (omega (arith, u, v))) j

  -- ---- in a block

  pub begun : (start behind : ℕ) (live : Bool) (zs : List LifetimePart) → Spans test start behind zs → Stands test start start live zs
  begun start behind live zs spans = record {
    behind = behind;
    from = start;
    spans = spans;
    from_is = let w = behind_end start behind zs spans in omega (arith, w);
    reached = omega arith;
    since = λ q u v. absurd (omega (arith, u, v));
  }

  fresh : (start point : ℕ) (live : Bool) (zs : List LifetimePart) → Spans test point point zs → start ≤ point → Stands test start point live zs
  fresh start point live zs spans w = record {
    behind = point;
    from = point;
    spans = spans;
    from_is = omega (arith, w);
    reached = omega arith;
    since = λ q u v. absurd (omega (arith, u, v));
  }

  -- a point at which nothing is done
  passes : (start point : ℕ) (live : Bool) (zs : List LifetimePart) → Stands test start point live zs → test point ≡ live → Stands test start (suc point) live zs
  passes start point live zs k e = record {
    behind = k.behind;
    from = k.from;
    spans = k.spans;
    from_is = k.from_is;
    reached = let w = k.reached in omega (arith, w);
    since = λ q u v. ⊎_elim (λ (w : q < point). k.since q u w)
        (λ (w : point ≤ q). let same : q ≡ point = omega (arith, v, w) in ap test same ∙ e) (cases_lt q point);
  }

  -- where it is live up to a point that is read, or up to the end of a block
  pub read : (start point : ℕ) (zs new : List LifetimePart) → start ≤ point → Stands test start point true zs → test point ≡ true → JoinsSome start point zs new → Spans test (suc point) (suc point) new
  read start point zs new w k e j = joined_some k.from k.behind start point zs new k.spans k.from_is w (let v = k.reached in omega (arith, v))
      (λ q u v. ⊎_elim (λ (z : q < point). k.since q u z)
      (λ (z : point ≤ q). let same : q ≡ point = omega (arith, v, z) in ap test same ∙ e) (cases_lt q point)) j

  -- what is written where it was not present
  write : (start point : ℕ) (zs new : List LifetimePart) → Stands test start point false zs → test point ≡ true → JoinsSome point point zs new → Spans test (suc point) (suc point) new
  write start point zs new k e j =
      let spans = exact k.from point k.behind zs k.spans k.reached k.since in
      joined_some point k.behind point point zs new spans (let w = behind_end point k.behind zs spans in omega (arith, w)) (omega arith) (omega arith)
      (λ q u v. let same : q ≡ point = omega (arith, u, v) in ap test same ∙ e) j

  write_read : (point : ℕ) (zs new : List LifetimePart) → Spans test point point zs → test point ≡ true → JoinsSome point point zs new → Spans test (suc point) (suc point) new
  write_read point zs new k e j = joined_some point point point point zs new k (omega arith) (omega arith) (omega arith)
      (λ q u v. let same : q ≡ point = omega (arith, u, v) in ap test same ∙ e) j

  -- ---- at the end of a block

  pub closed_live : (start end last : ℕ) (zs new : List LifetimePart) → start < end → suc last ≡ end → Stands test start end true zs → JoinsSome start last zs new → Spans test end end new
  closed_live start end last zs new w e k j =
      let reached = k.reached in
      subst (λ n. Spans test n n new) e
      (joined_some k.from k.behind start last zs new k.spans k.from_is (omega (arith, w, e)) (omega (arith, e, reached)) (λ q u v. k.since q u (omega (arith, v, e))) j)

  pub closed_dead : (start end : ℕ) (zs : List LifetimePart) → Stands test start end false zs → HasSpans test end zs
  closed_dead start end zs k = record { behind = k.behind; spans = exact k.from end k.behind zs k.spans k.reached k.since }

  -- nothing was put since it began
  pub closed_empty : (start : ℕ) (live : Bool) (zs : List LifetimePart) → Stands test start start live zs → HasSpans test start zs
  closed_empty start live zs k =
      let reached = k.reached in let is = k.from_is in
      record { behind = k.behind; spans = subst (λ n. Spans test n k.behind zs) (let e : k.from ≡ start = omega (arith, reached, is) in e) k.spans }

  -- ---- an instruction

  visit : (start n : ℕ) (reads writes later : Bool) (old mid new : List LifetimePart) → start ≤ 2 * n →
      test (2 * n) ≡ (reads || (not writes && later)) → test (2 * n + 1) ≡ (writes || later) →
      Stands test start (2 * n) (reads || (not writes && later)) old →
      Marked reads (JoinsSome start (2 * n)) old mid → Marked writes (JoinsSome (2 * n + 1) (2 * n + 1)) mid new →
      Stands test start (2 * suc n) later new
  visit start n true true later old mid new w a b k r s = done (write_read (suc (2 * n)) mid new (read start (2 * n) old mid w k a r) (ap test next ∙ b) (subst (λ z. JoinsSome z z mid new) (sym next) s))
    where
      next : suc (2 * n) ≡ 2 * n + 1
      next = omega arith

      done : Spans test (suc (suc (2 * n))) (suc (suc (2 * n))) new → Stands test start (2 * suc n) later new
      done spans = subst (λ z. Stands test start z later new) (let e : suc (suc (2 * n)) ≡ 2 * suc n = omega arith in e) (fresh start (suc (suc (2 * n))) later new spans (omega (arith, w)))
  visit start n true false later old mid new w a b k r s =
      subst (λ z. Stands test start z later new) (let e : suc (suc (2 * n)) ≡ 2 * suc n = omega arith in e)
      (subst (Stands test start (suc (suc (2 * n))) later) (sym s)
      (passes start (suc (2 * n)) later mid (fresh start (suc (2 * n)) later mid (read start (2 * n) old mid w k a r) (omega (arith, w))) (ap test (let e : suc (2 * n) ≡ 2 * n + 1 = omega arith in e) ∙ b)))
  visit start n false true later old mid new w a b k r s =
      subst (λ z. Stands test start z later new) (let e : suc (suc (2 * n)) ≡ 2 * suc n = omega arith in e)
      (fresh start (suc (suc (2 * n))) later new
      (write start (suc (2 * n)) old new (passes start (2 * n) false old k a) (ap test (let e : suc (2 * n) ≡ 2 * n + 1 = omega arith in e) ∙ b)
      (subst (λ z. JoinsSome z z old new) (let e : 2 * n + 1 ≡ suc (2 * n) = omega arith in e) (subst (λ z. JoinsSome (2 * n + 1) (2 * n + 1) z new) r s))) (omega (arith, w)))
  visit start n false false later old mid new w a b k r s =
      subst (λ z. Stands test start z later new) (let e : suc (suc (2 * n)) ≡ 2 * suc n = omega arith in e)
      (subst (Stands test start (suc (suc (2 * n))) later) (sym (s ∙ r))
      (passes start (suc (2 * n)) later old (passes start (2 * n) later old k a) (ap test (let e : suc (2 * n) ≡ 2 * n + 1 = omega arith in e) ∙ b)))

  pub visited : (start n : ℕ) (reads writes later : Bool) (old new : List LifetimePart) → start ≤ 2 * n →
      test (2 * n) ≡ (reads || (not writes && later)) → test (2 * n + 1) ≡ (writes || later) →
      Stands test start (2 * n) (reads || (not writes && later)) old → Visits start n reads writes old new → Stands test start (2 * suc n) later new
  visited start n reads writes later old new w a b k v = visit start n reads writes later old v.mid new w a b k v.read v.write
